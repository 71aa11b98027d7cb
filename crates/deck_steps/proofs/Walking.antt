-- Decks read one after the other.
use Rattle.std.proofs.Common.{arith, ◌≡◌, ℕ, zero, suc, ◌+◌, ◌-◌, ◌<◌, ◌≤◌, Bool, List, [], ◌∷◌, ◌++◌, length, drop, get_or, add-one, drop-cons, drop-drop, length-drop, refl, sym, ◌∙◌, ap, subst, Result, Ok, Err, Option, Some, None}
use Rattle.std.proofs.Math.ListN.{drop_of_length-le}
use Rattle.le_bytes.specs.declared.card_what.CardWhat.{CardWhat}
use Rattle.obj_cards.specs.Cards.{card_of}
use Rattle.obj_cards.specs.declared.card.Card.{Card}
use Rattle.obj_cards.specs.declared.card.Card.TheVariants.{Esd, Txt, Rld, End, Sym, Statement, Comment}
use Rattle.obj_cards.specs.declared.fault.CardFault.{CardFault}
use Rattle.obj_read.specs.Decks.{Read as DeckRead, deck_after, deck_of, judged, unless_faulty, ended}
use Rattle.obj_read.specs.Faults.{fault_after}
use Rattle.sym_mod.specs.declared.module.SymModule.{SymModule}
use Rattle.linking_model.specs.Kept.{Read}
use Rattle.deck_steps.specs.declared.fault.DeckFault.{DeckFault}
use Rattle.deck_steps.specs.declared.fault.DeckStop.{DeckStop}
use Rattle.deck_steps.specs.declared.fault.DeckStop.TheVariants.{Refused, Memory}
use Rattle.deck_steps.specs.Answers.{Stops}
use Rattle.deck_steps.specs.Decks.{Step, begun_by, step_at, unless_refused, at_end, merged_from}

-- a deck has a card at least: its END card
abbrev pub HasCard : DeckRead → Type 0
HasCard (Ok (m, taken)) = 1 ≤ taken
HasCard (Err _) = Unit {0}

ended_has : (before : List Card) (go : List Card → DeckRead) (card : Card) → HasCard (go (before ++ card ∷ [])) → HasCard (ended before go card)
ended_has before go (End e) h = omega arith
ended_has before go (Esd e) h = h
ended_has before go (Txt e) h = h
ended_has before go (Rld e) h = h
ended_has before go Sym h = h
ended_has before go (Statement t) h = h
ended_has before go Comment h = h

unless_has : (before : List Card) (go : List Card → DeckRead) (card : Card) (o : Option CardWhat) → HasCard (go (before ++ card ∷ [])) → HasCard (unless_faulty before go card o)
unless_has before go card (Some what) h = tt
unless_has before go card None h = ended_has before go card h

judged_has : (before : List Card) (go : List Card → DeckRead) (r : Result Card CardFault) → ((card : Card) → HasCard (go (before ++ card ∷ []))) → HasCard (judged before go r)
judged_has before go (Err fault) h = tt
judged_has before go (Ok card) h = unless_has before go card (fault_after before card) (h card)

deck_has : (cards : List (List ℕ)) (before : List Card) → HasCard (deck_after before cards)
unfolding deck_after
deck_has [] before = tt
deck_has (card ∷ cards) before =
    judged_has before (λ read. deck_after read cards) (card_of card) (λ c. deck_has cards (before ++ c ∷ []))

-- a deck that is read has a card at least
pub has_card : (cards : List (List ℕ)) (m : SymModule) (taken : ℕ) → deck_of cards ≡ Ok (m, taken) → 1 ≤ taken
has_card cards m taken is = subst HasCard is (deck_has cards [])

-- the cards of a deck that was read are passed over
passed : (short : Bool) (number : ℕ) (rs : List Read) (done : ℕ) (cards : List (List ℕ)) → done ≤ length cards
    → merged_from short number rs done cards ≡ merged_from short (number + done) rs 0 (drop done cards)
unfolding merged_from
passed short number rs zero [] within = ap (λ n. merged_from short n rs 0 []) (omega arith)
passed short number rs zero (card ∷ cards) within = ap (λ n. merged_from short n rs 0 (card ∷ cards)) (omega arith)
passed short number rs (suc done) [] within = absurd (omega (arith, within))
passed short number rs (suc done) (card ∷ cards) within =
    passed short (number + 1) rs done cards (omega (arith, within))
    ∙ ap (λ n. merged_from short n rs 0 (drop done cards)) (omega arith)

from_place : {X : Type 0} (k : ℕ) (xs : List X) (d : X) → k < length xs → drop k xs ≡ get_or xs k d ∷ drop (k + 1) xs
from_place k xs d within = rw (add-one) (drop-cons xs k d within)

-- what the cards from a place on begin with, and then the rest
abbrev pub step_from : Bool → ℕ → List Read → List (List ℕ) → Step
step_from short from rs cards = step_at short (from + 1) rs (drop from cards) (begun_by (card_of (get_or cards from [])))

unfolded : (short : Bool) (from : ℕ) (rs : List Read) (cards : List (List ℕ)) → from < length cards
    → merged_from short (from + 1) rs 0 (drop from cards)
    ≡ unless_refused (λ (after, taken). merged_from short (from + 1 + 1) after (taken - 1) (drop (from + 1) cards)) (step_from short from rs cards)
unfolding merged_from
unfolded short from rs cards within = rw (from_place from cards [] within) refl

-- the cards after a step
pub goes_on : (short : Bool) (from : ℕ) (rs : List Read) (cards : List (List ℕ)) (whole : Result (List Read) DeckFault) (after : List Read) (taken : ℕ)
    → from < length cards → merged_from short (from + 1) rs 0 (drop from cards) ≡ whole → step_from short from rs cards ≡ Ok (after, taken)
    → 1 ≤ taken → from + taken ≤ length cards
    → merged_from short (from + taken + 1) after 0 (drop (from + taken) cards) ≡ whole
goes_on short from rs cards whole after taken within is step some inside =
    let rest : taken - 1 ≤ length (drop (from + 1) cards) = rw (length-drop (from + 1) cards) (omega (arith, some, inside)) in
    let first : whole ≡ merged_from short (from + 1 + 1) after (taken - 1) (drop (from + 1) cards) =
    sym is
    ∙ (unfolded short from rs cards within
    ∙ ap (unless_refused (λ (after, taken). merged_from short (from + 1 + 1) after (taken - 1) (drop (from + 1) cards))) step) in
    let number : from + 1 + 1 + (taken - 1) ≡ from + taken + 1 = omega (arith, some) in
    let place : drop (taken - 1) (drop (from + 1) cards) ≡ drop (from + taken) cards =
    drop-drop (taken - 1) (from + 1) cards ∙ ap (λ n. drop n cards) {x = from + 1 + (taken - 1)} {y = from + taken} (omega (arith, some)) in
    sym (first ∙ passed short (from + 1 + 1) after (taken - 1) (drop (from + 1) cards) rest
    ∙ ap (λ n. merged_from short n after 0 (drop (taken - 1) (drop (from + 1) cards))) number
    ∙ ap (λ xs. merged_from short (from + taken + 1) after 0 xs) place)

-- a step that is refused
pub stops : (short : Bool) (from : ℕ) (rs : List Read) (cards : List (List ℕ)) (whole : Result (List Read) DeckFault) (stop : DeckStop)
    → from < length cards → merged_from short (from + 1) rs 0 (drop from cards) ≡ whole → Stops (step_from short from rs cards) stop → Stops whole stop
stops short from rs cards whole Memory within is step = tt
stops short from rs cards whole (Refused fault) within is step =
    sym is
    ∙ (unfolded short from rs cards within
    ∙ ap (unless_refused (λ (after, taken). merged_from short (from + 1 + 1) after (taken - 1) (drop (from + 1) cards))) step)

-- after the last card
pub ends : (short : Bool) (from : ℕ) (rs : List Read) (cards : List (List ℕ)) (whole : Result (List Read) DeckFault)
    → from ≤ length cards → length cards ≤ from → merged_from short (from + 1) rs 0 (drop from cards) ≡ whole
    → whole ≡ at_end short (length cards + 1) rs
unfolding merged_from
ends short from rs cards whole within all is =
    let last : from ≡ length cards = omega (arith, within, all) in
    let nothing : drop from cards ≡ [] = drop_of_length-le cards all in
    sym is ∙ ap (λ xs. merged_from short (from + 1) rs 0 xs) nothing ∙ ap (λ n. at_end short (n + 1) rs) last
