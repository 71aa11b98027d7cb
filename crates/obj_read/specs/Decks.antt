-- A deck: the cards from its first on to its END card, or the first faulty card.
use Rattle.std.specs.Prelude.{ℕ, ◌+◌, List, [], ◌∷◌, ◌++◌, length, Option, Some, None, Result, Ok, Err}
use Rattle.le_bytes.specs.declared.card_what.CardWhat.{CardWhat}
use Rattle.le_bytes.specs.declared.card_what.CardWhat.TheVariants.{NoEnd}
use Rattle.obj_cards.specs.declared.card.Card.{Card}
use Rattle.obj_cards.specs.declared.card.Card.TheVariants.{End}
use Rattle.obj_cards.specs.declared.card.EndCard.{EndCard}
use Rattle.obj_cards.specs.declared.fault.CardFault.{CardFault}
use Rattle.obj_cards.specs.Cards.{card_of}
use Rattle.obj_cards.specs.Faults.{what_of}
use Rattle.sym_mod.specs.declared.module.SymModule.{SymModule}
use Rattle.obj_read.specs.Facts.{items_of, texts_of, terms_of}
use Rattle.obj_read.specs.Module.{module_of}
use Rattle.obj_read.specs.Faults.{fault_after}

-- a whole deck: its module and the number of its cards; or the place of its first faulty card, from 0, and the fault
abbrev pub Read : Type 0
Read = Result (SymModule × ℕ) (ℕ × CardWhat)

abbrev pub whole : List Card → EndCard → Read
whole before end = Ok (module_of (items_of before) (texts_of before) (terms_of before) end, length before + 1)

-- END ends the deck, and any other card is read before those that follow
abbrev pub ended : List Card → (List Card → Read) → Card → Read
ended before go (End e) = whole before e
ended before go card = go (before ++ card ∷ [])

abbrev pub unless_faulty : List Card → (List Card → Read) → Card → Option CardWhat → Read
unless_faulty before go card (Some what) = Err (length before, what)
unless_faulty before go card None = ended before go card

-- what a card says: its own fault first, then what it has against the cards before it
abbrev pub judged : List Card → (List Card → Read) → Result Card CardFault → Read
judged before go (Err fault) = Err (length before, what_of fault)
judged before go (Ok card) = unless_faulty before go card (fault_after before card)

-- the cards that are not read yet, after those that were
unfoldable pub deck_after : List Card → List (List ℕ) → Read
deck_after before [] = Err (length before, NoEnd)
deck_after before (card ∷ cards) = judged before (λ read. deck_after read cards) (card_of card)

-- the deck at the head of the cards
abbrev pub deck_of : List (List ℕ) → Read
deck_of cards = deck_after [] cards
