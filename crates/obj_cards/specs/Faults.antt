-- The fault of one card among all that may be wrong with a card of the input, and in place of the card that it is.
use Rattle.std.specs.Prelude.{Result, Ok, Err}
use Rattle.le_bytes.specs.declared.card_what.CardWhat.{CardWhat}
use Rattle.le_bytes.specs.declared.card_what.CardWhat.TheVariants as whats
use Rattle.obj_cards.specs.declared.fault.CardFault.{CardFault}
use Rattle.obj_cards.specs.declared.fault.CardFault.TheVariants.{UnknownCard, BadCount, BadEsdType, BadFlag}

abbrev pub what_of : CardFault → CardWhat
what_of UnknownCard = whats.UnknownCard
what_of BadCount = whats.BadCount
what_of BadEsdType = whats.BadEsdType
what_of BadFlag = whats.BadFlag

-- what a reader makes of the card that it is lent: the card as it is now, or the fault
abbrev pub filled_card : {X : Type 0} → X → Result (Unit {0}) CardFault → Result X CardFault
filled_card card (Ok _) = Ok card
filled_card card (Err fault) = Err fault
