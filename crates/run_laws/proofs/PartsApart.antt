-- The parts of resident segments are apart, in one block.
use Rattle.std.proofs.Common.{◌≡◌, ◌≢◌, ◌⊎◌, inl, inr, ℕ, ◌+◌, ◌≤◌, true, List, [], ◌∷◌, length, refl, sym, ◌∙◌, subst, arith}
use Rattle.std.proofs.lemmas.Bool.Decides.{eqb_tells}
use Rattle.linking_model.specs.Tree.{is_in}
use Rattle.linking_model.specs.Places.{Laid, origin, end_of}
use Rattle.member_model.specs.SymbolList.{symbols_written}
use Rattle.member_model.specs.Parts.{Part, parts_in, part_place, part_length}
use Rattle.member_model.specs.Loaded.{in_block}
use Rattle.member_laws.specs.Linkable.{IsLinkable}
use Rattle.member_laws.proofs.LoadingBlock.{at_place, block_fits}
use Rattle.member_laws.proofs.LoadingFields.{Apart}
use Rattle.member_laws.proofs.LoadingLists.{Among, Pairs, at_one}
use Rattle.member_laws.proofs.LoadingTargets.{among_parts_in}
use Rattle.member_laws.proofs.Standing.{IsPartOf, stands_well}
use Rattle.run_laws.specs.Residents.{AreResident}
use Rattle.run_laws.proofs.NotesRight.{part_begins}
use Rattle.run_laws.proofs.PartIn.{has-part-in}
use Rattle.run_laws.proofs.ResidentPaths.{resident_within, residents_are_apart}
use Rattle.run_laws.proofs.SegmentTables.{among_of_has}

-- one ends where the other begins or before
abbrev pub AreApart : ℕ → ℕ → ℕ → ℕ → Type 0
AreApart a k b l = (a + k ≤ b) ⊎ (b + l ≤ a)

pairs_two : {X : Type 0} (R : X → X → Type 0) (xs : List X) (x y : X) → Pairs R xs → ((a b : X) → R a b → R b a) → x ≢ y → Among x xs → Among y xs → R x y
pairs_two R [] x y pairs turned differ one other = absurd one
pairs_two R (z ∷ zs) x y pairs turned differ (inl here) (inl there) = absurd (differ (sym here ∙ there))
pairs_two R (z ∷ zs) x y pairs turned differ (inl here) (inr there) = subst (λ a. R a y) here (at_one (R z) y zs pairs.0 there)
pairs_two R (z ∷ zs) x y pairs turned differ (inr here) (inl there) = turned y x (subst (λ a. R a x) there (at_one (R z) x zs pairs.0 here))
pairs_two R (z ∷ zs) x y pairs turned differ (inr here) (inr there) = pairs_two R zs x y pairs.1 turned differ here there

in_one : (P : Laid) (s : ℕ) (x y : Part) → IsLinkable P → 1 ≤ s → s ≤ length P.tree → IsPartOf P s x → IsPartOf P s y → x ≢ y
    → AreApart (part_place P x) (part_length P x) (part_place P y) (part_length P y)
in_one P s x y link low high one other differ =
    moved (pairs_two (Apart P q) (parts_in P s) x y (block_fits P 0 s (symbols_written P) link low high refl).apart turned differ there here)
  where
    q : ℕ → ℕ
    q = in_block (symbols_written P) 0

    turned : (a b : Part) → Apart P q a b → Apart P q b a
    turned a b apart = record { differ = λ same. apart.differ (sym same); apart = sides apart.apart }
      where
        sides : {k l m o : ℕ} → (k ≤ l) ⊎ (m ≤ o) → (m ≤ o) ⊎ (k ≤ l)
        sides (inl a) = inr a
        sides (inr b) = inl b

    there : Among x (parts_in P s)
    there = among_of_has (parts_in P s) x (has-part-in P s x one)

    here : Among y (parts_in P s)
    here = among_of_has (parts_in P s) y (has-part-in P s y other)

    moved : Apart P q x y → AreApart (part_place P x) (part_length P x) (part_place P y) (part_length P y)
    moved apart =
        sides (part_place P x) (part_place P y) (part_length P x) (part_length P y) _ _ _ _
        (at_place P 0 (symbols_written P) x refl (among_parts_in P s x low high there)) (at_place P 0 (symbols_written P) y refl (among_parts_in P s y low high here))
        (stands_well P s x low one).bytes (stands_well P s y low other).bytes apart.apart
      where
        sides : (a b k l a' b' k' l' : ℕ) → a' ≡ 0 + a → b' ≡ 0 + b → k' ≡ k → l' ≡ l → (a' + k' ≤ b') ⊎ (b' + l' ≤ a') → AreApart a k b l
        sides a b k l a' b' k' l' p q r s (inl x) = inl (omega (arith, p, q, r, x))
        sides a b k l a' b' k' l' p q r s (inr y) = inr (omega (arith, p, q, s, y))

pub parts_apart : (P : Laid) (resident : List ℕ) (s t : ℕ) (x y : Part) → IsLinkable P → AreResident P.tree resident
    → is_in s resident ≡ true → is_in t resident ≡ true → IsPartOf P s x → IsPartOf P t y → x ≢ y
    → AreApart (part_place P x) (part_length P x) (part_place P y) (part_length P y)
parts_apart P resident s t x y link are one other first second differ =
    elim (eqb_tells s t) as (λ _. AreApart (part_place P x) (part_length P x) (part_place P y) (part_length P y)) [
      | inl w ↦ in_one P s x y link low.0 low.1 first (subst (λ k. IsPartOf P k y) (sym w.1) second) differ
      | inr w ↦ between (residents_are_apart P resident s t link.tree are one other w.1)
    ]
  where
    low : (1 ≤ s) × (s ≤ length P.tree)
    low = resident_within P.tree resident s are one

    high : (1 ≤ t) × (t ≤ length P.tree)
    high = resident_within P.tree resident t are other

    between : (end_of P s ≤ origin P t) ⊎ (end_of P t ≤ origin P s) → AreApart (part_place P x) (part_length P x) (part_place P y) (part_length P y)
    between (inl before) =
        inl (through (part_place P x + part_length P x) (end_of P s) (origin P t) (part_place P y) (stands_well P s x low.0 first).ends before (part_begins P t y link.tree high.0 second))
      where
        through : (a b c d : ℕ) → a ≤ b → b ≤ c → c ≤ d → a ≤ d
        through a b c d p q r = omega arith
    between (inr after) =
        inr (through (part_place P y + part_length P y) (end_of P t) (origin P s) (part_place P x) (stands_well P t y high.0 second).ends after (part_begins P s x link.tree low.0 first))
      where
        through : (a b c d : ℕ) → a ≤ b → b ≤ c → c ≤ d → a ≤ d
        through a b c d p q r = omega arith
