-- What calls answer that read decks.
use Rattle.std.specs.Prelude.{◌≡◌, ℕ, List, Result, Ok, Err}
use Rattle.linking_model.specs.Kept.{Read}
use Rattle.deck_steps.specs.declared.fault.DeckFault.{DeckFault}
use Rattle.deck_steps.specs.declared.fault.DeckStop.{DeckStop}
use Rattle.deck_steps.specs.declared.fault.DeckStop.TheVariants.{Refused, Memory}
use Rattle.deck_steps.specs.Decks.{Step}

-- there is no answer for want of memory, or this is what is refused
abbrev pub Stops : {A : Type 0} → Result A DeckFault → DeckStop → Type 0
Stops answer (Refused fault) = answer ≡ Err fault
Stops answer Memory = Unit {0}

-- the module came in the root
abbrev pub IsInRoot : Read → Type 0
IsInRoot r = r.segment ≡ 1

-- the modules that the answer has, or why it has none
abbrev pub Reads : Result (List Read) DeckFault → Result (List Read) DeckStop → Type 0
Reads answer (Ok rs) = answer ≡ Ok rs
Reads answer (Err stop) = Stops answer stop

-- the modules are those of the answer, and so is the number of cards
abbrev pub Takes : Step → List Read → Result ℕ DeckStop → Type 0
Takes answer rs (Ok taken) = answer ≡ Ok (rs, taken)
Takes answer rs (Err stop) = Stops answer stop
