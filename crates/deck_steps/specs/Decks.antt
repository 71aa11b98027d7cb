-- The primary input as a list of decks: what merges of them, or the first thing that is refused. That decks are
-- merged in the order in which they stand follows GC28-6538; what a short card and a comment say is this project's profile.
use Rattle.std.specs.Prelude.{ℕ, zero, suc, ◌+◌, ◌-◌, Bool, ◌&&◌, ◌==◌, if◌then◌else◌, List, [], ◌∷◌, length, Option, Some, None, Result, Ok, Err}
use Rattle.le_bytes.specs.declared.card_what.CardWhat.{CardWhat}
use Rattle.le_bytes.specs.declared.card_what.CardWhat.TheVariants.{ShortCard}
use Rattle.obj_cards.specs.Cards.{card_of}
use Rattle.obj_cards.specs.declared.card.Card.{Card}
use Rattle.obj_cards.specs.declared.card.Card.TheVariants.{Comment, Statement}
use Rattle.obj_cards.specs.declared.fault.CardFault.{CardFault}
use Rattle.obj_read.specs.Decks.{deck_of, Read as DeckRead}
use Rattle.sym_mod.specs.declared.module.SymModule.{SymModule}
use Rattle.linking_model.specs.Kept.{Read}
use Rattle.esd_merge.specs.declared.fault.MergeFault.{MergeFault}
use Rattle.esd_merge.specs.declared.fault.MergeFault.TheVariants as merge
use Rattle.esd_merge.specs.Added.{with_module, merge_fault}
use Rattle.deck_steps.specs.declared.fault.DeckFault.{DeckFault}
use Rattle.deck_steps.specs.declared.fault.DeckFault.TheVariants.{Card as FaultyCard, Statement as StatementAt, DoubleDefinition, TooManySymbols}
use Rattle.deck_steps.specs.declared.beginning.Beginning.{Beginning}
use Rattle.deck_steps.specs.declared.beginning.Beginning.TheVariants.{Nothing, AStatement, ADeck}
use Rattle.deck_steps.specs.Cards.{whole_cards, has_short_card}

-- a refusal, or what follows
abbrev pub unless_refused : {A B : Type 0} → (A → Result B DeckFault) → Result A DeckFault → Result B DeckFault
unless_refused go_on (Err fault) = Err fault
unless_refused go_on (Ok x) = go_on x

-- ---- one deck

-- the modules, and how many cards are read by that
abbrev pub Step : Type 0
Step = Result (List Read × ℕ) DeckFault

-- modules that do not merge; want of memory is nothing that modules say
abbrev pub merge_refusal : Option MergeFault → Option DeckFault
merge_refusal (Some (merge.DoubleDefinition name)) = Some (DoubleDefinition name)
merge_refusal (Some (merge.TooManySymbols n)) = Some (TooManySymbols n)
merge_refusal _ = None

-- the fault of a merge, or the step
abbrev pub unless_fault : Option DeckFault → Step → Step
unless_fault (Some fault) step = Err fault
unless_fault None step = step

-- a module more, in the root
abbrev pub with_deck : List Read → SymModule → ℕ → Step
with_deck rs m taken = unless_fault (merge_refusal (merge_fault (with_module rs m 1))) (Ok (with_module rs m 1, taken))

-- a faulty card of a deck by its place in it; a card that the deck lacks is the short card where there is one
abbrev pub what_at : Bool → ℕ → ℕ → CardWhat → CardWhat
what_at short count place what = if short && place == count then ShortCard else what

-- the deck at the head of these cards, the first of which has the number
abbrev pub deck_step : Bool → ℕ → List Read → ℕ → DeckRead → Step
deck_step short number rs count (Err (place, what)) = Err (FaultyCard (number + place) (what_at short count place what))
deck_step short number rs count (Ok (m, taken)) = with_deck rs m taken

-- what a card between decks begins: nothing, where it is a comment, or a statement, and else, also where it is
-- faulty, a deck
abbrev pub begun_by : Result Card CardFault → Beginning
begun_by (Ok Comment) = Nothing
begun_by (Ok (Statement text)) = AStatement
begun_by _ = ADeck

-- what these cards begin with, the first of which has the number
abbrev pub step_at : Bool → ℕ → List Read → List (List ℕ) → Beginning → Step
step_at short number rs cards Nothing = Ok (rs, 1)
step_at short number rs cards AStatement = Err (StatementAt number)
step_at short number rs cards ADeck = deck_step short number rs (length cards) (deck_of cards)

-- ---- all decks

-- at the end of the set: the short card where there is one
abbrev pub at_end : Bool → ℕ → List Read → Result (List Read) DeckFault
at_end short number rs = if short then Err (FaultyCard number ShortCard) else Ok rs

-- what the cards from a number on make of the modules before; so many of them were read with the card before
unfoldable pub merged_from : Bool → ℕ → List Read → ℕ → List (List ℕ) → Result (List Read) DeckFault
merged_from short number rs done [] = at_end short number rs
merged_from short number rs (suc done) (card ∷ cards) = merged_from short (number + 1) rs done cards
merged_from short number rs zero (card ∷ cards) =
    unless_refused (λ (after, taken). merged_from short (number + 1) after (taken - 1) cards)
    (step_at short number rs (card ∷ cards) (begun_by (card_of card)))

-- the modules of the bytes of the primary input, each in the root, or the first refusal
unfoldable pub decks_of : List ℕ → Result (List Read) DeckFault
decks_of bytes = merged_from (has_short_card bytes) 1 [] 0 (whole_cards bytes)
