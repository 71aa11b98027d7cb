-- The facts of the cards before a card, and what the card makes of them.
use Rattle.std.specs.Prelude.{◌≡◌, ℕ, ◌+◌, List, [], ◌∷◌, ◌++◌, map, Option, Some, None, Result, Ok, Err}
use Rattle.std.specs.List.{list_any}
use Rattle.le_bytes.specs.declared.card_what.CardWhat.{CardWhat}
use Rattle.le_bytes.specs.declared.card_what.CardWhat.TheVariants.{NoEnd, TextOutside, ConstantOutside}
use Rattle.obj_cards.specs.declared.card.Card.{Card}
use Rattle.obj_cards.specs.declared.card.Card.TheVariants.{Esd, Txt, Rld, End, Sym}
use Rattle.obj_cards.specs.declared.card.TxtCard.{TxtCard}
use Rattle.obj_cards.specs.declared.card.CardRld.{CardRld}
use Rattle.obj_cards.specs.declared.card.EndStart.{EndStart}
use Rattle.obj_cards.specs.declared.fault.CardFault.{CardFault}
use Rattle.obj_cards.specs.Cards.{card_of}
use Rattle.obj_cards.specs.Faults.{what_of}
use Rattle.sym_mod.specs.declared.module.SymModule.{SymModule}
use Rattle.obj_read.specs.declared.numbered.Numbered.{Numbered}
use Rattle.obj_read.specs.declared.facts.Facts.{Facts}
use Rattle.obj_read.specs.declared.gathering.Step.{Step}
use Rattle.obj_read.specs.declared.fault.Wrong.{Wrong}
use Rattle.obj_read.specs.declared.fault.Wrong.TheVariants.{Card as WrongCard, Memory}
use Rattle.obj_read.specs.Facts.{items_of, items_on, texts_of, terms_of, terms_on}
use Rattle.obj_read.specs.Module.{with_end, symbol, fragment, constants, entry}
use Rattle.obj_read.specs.Faults.{or_else, when, items_fault, text_fault, terms_fault, start_fault, labels_fault, is_text_outside, is_term_outside}
use Rattle.obj_read.specs.Decks.{Read}

-- what a call answers that adds to facts: they are the new ones exactly where there is no fault
abbrev pub Adds : {X : Type 0} → Option CardWhat → X → X → Result (Unit {0}) Wrong → Type 0
Adds fault new now (Ok _) = (fault ≡ None) × (now ≡ new)
Adds fault new now (Err (WrongCard what)) = fault ≡ Some what
Adds fault new now (Err Memory) = Unit {0}

-- ---- END, where the items have their lengths

abbrev pub fault_at_end : List Numbered → List TxtCard → List CardRld → EndStart → Option CardWhat
fault_at_end all texts terms start =
    or_else (start_fault all start)
    (or_else (labels_fault all all)
    (or_else (when (list_any (is_text_outside all) texts) TextOutside)
    (when (list_any (is_term_outside all) terms) ConstantOutside)))

abbrev pub made_of : Facts → EndStart → SymModule
made_of f start = record {
  items = map (symbol f.items) f.items;
  fragments = map (fragment f.items) f.texts;
  constants = constants f.items f.terms;
  entry = entry f.items start;
}

-- ---- one card

abbrev pub facts_of : List Card → Facts
facts_of cards = record { items = items_of cards; texts = texts_of cards; terms = terms_of cards }

abbrev pub fault_in : Facts → Card → Option CardWhat
fault_in f (Esd e) = items_fault f.items (items_on (Esd e))
fault_in f (Txt t) = text_fault f.items t
fault_in f (Rld r) = terms_fault f.items f.terms (terms_on (Rld r))
fault_in f (End e) = fault_at_end (with_end e.length f.items) f.texts f.terms e.start
fault_in f Sym = None
fault_in f _ = Some NoEnd

abbrev pub after : Facts → Card → Facts
after f (Esd e) = record f { items = f.items ++ items_on (Esd e) }
after f (Txt t) = record f { texts = f.texts ++ t ∷ [] }
after f (Rld r) = record f { terms = f.terms ++ terms_on (Rld r) }
after f (End e) = record f { items = with_end e.length f.items }
after f _ = f

abbrev pub start_on : Card → Option EndStart
start_on (End e) = Some e.start
start_on _ = None

abbrev pub unless : Facts → Card → Option CardWhat → Result Step CardWhat
unless f card (Some what) = Err what
unless f card None = Ok (record { facts = after f card; start = start_on card })

abbrev pub step_of : Facts → Result Card CardFault → Result Step CardWhat
step_of f (Err fault) = Err (what_of fault)
step_of f (Ok card) = unless f card (fault_in f card)

-- the step to the facts as they are now
abbrev pub stepped : Facts → Result (Option EndStart) Wrong → Result Step Wrong
stepped f (Ok start) = Ok (record { facts = f; start = start })
stepped f (Err wrong) = Err wrong

abbrev pub Steps : Result Step CardWhat → Result Step Wrong → Type 0
Steps expected (Ok step) = expected ≡ Ok step
Steps expected (Err (WrongCard what)) = expected ≡ Err what
Steps expected (Err Memory) = Unit {0}

-- ---- the cards that follow n others

abbrev pub goes_on : (Facts → Read) → ℕ → Facts → Option EndStart → Read
goes_on go n f (Some start) = Ok (made_of f start, n + 1)
goes_on go n f None = go f

abbrev pub next : (Facts → Read) → ℕ → Result Step CardWhat → Read
next go n (Err what) = Err (n, what)
next go n (Ok step) = goes_on go n step.facts step.start

unfoldable pub deck_from : Facts → ℕ → List (List ℕ) → Read
deck_from f n [] = Err (n, NoEnd)
deck_from f n (card ∷ cards) = next (λ g. deck_from g (n + 1) cards) n (step_of f (card_of card))
