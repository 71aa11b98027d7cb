-- No part of a program comes twice.
use Rattle.std.proofs.Common.{◌≡◌, ℕ, zero, suc, ◌+◌, ◌<◌, ◌≤◌, Bool, true, false, cond, ◌==◌, if◌then◌else◌, List, [], ◌∷◌, ◌++◌, map, filter, length, Some, slice_get, inl, inr, refl, sym, ap, subst, ◌∙◌, arith}
use Rattle.std.specs.Bool.{⊤}
use Rattle.std.specs.List.{flat_map, range_with_len}
use Rattle.linking_model.specs.Places.{Laid, has_segtab, entry_count, segment_of_section}
use Rattle.linking_model.specs.Run.{sections_in}
use Rattle.member_model.specs.Parts.{Part, SegmentTable, OneSection, EntryTable, parts, parts_in, part_segment, part_number}
use Rattle.member_laws.proofs.Membership.{Has, has-append, has-at, from-map, from-filter, from-range, from-flat_map, has-each}
use Rattle.member_laws.proofs.Numbered.{from-part, is-numbered, segments-range}
use Rattle.member_laws.proofs.Standing.{IsPartOf, StandsWell, stands_well, parts-stand}

-- no element comes twice
abbrev pub Distinct : {X : Type 0} → List X → Type 0
Distinct [] = ⊤
Distinct (x ∷ xs) = (Has xs x → ⊥) × Distinct xs

distinct-append : {X : Type 0} (xs ys : List X) → Distinct xs → Distinct ys → ((x : X) → Has xs x → Has ys x → ⊥) → Distinct (xs ++ ys)
distinct-append [] ys a b apart = b
distinct-append (x ∷ xs) ys a b apart =
    ((λ there. elim (has-append xs ys x there) [ inl h ↦ a.0 h | inr h ↦ apart x (inl refl) h ]), distinct-append xs ys a.1 b (λ z h k. apart z (inr h) k))

distinct-map : {X Y : Type 0} (f : X → Y) (xs : List X) → ((x y : X) → f x ≡ f y → x ≡ y) → Distinct xs → Distinct (map f xs)
distinct-map f [] one a = tt
distinct-map {X} f (x ∷ xs) one a =
    ((λ there. let from = from-map f xs (f x) there in a.0 (subst (Has xs) (one from.source x from.made) from.there)), distinct-map f xs one a.1)

distinct-filter : {X : Type 0} (test : X → Bool) (xs : List X) → Distinct xs → Distinct (filter test xs)
distinct-filter test [] a = tt
distinct-filter test (x ∷ xs) a =
    elim (test x) as (λ b. Distinct (cond b (x ∷ filter test xs) (filter test xs))) [
      | true ↦ ((λ there. a.0 (from-filter test xs x there).0), distinct-filter test xs a.1)
      | false ↦ distinct-filter test xs a.1
    ]

distinct-range : (a n : ℕ) → Distinct (range_with_len a n)
distinct-range a zero = tt
distinct-range a (suc n) = ((λ there. let r = from-range (a + 1) n a there in let low : a + 1 ≤ a = r.0 in absurd (omega arith)), distinct-range (a + 1) n)

distinct-flat : {X : Type 0} (f : ℕ → List X) (key : X → ℕ) (a k : ℕ) → ((s : ℕ) (x : X) → a ≤ s → Has (f s) x → key x ≡ s) → ((s : ℕ) → Distinct (f s)) → Distinct (flat_map f (range_with_len a k))
distinct-flat f key a zero keyed each = tt
distinct-flat f key a (suc k) keyed each =
    distinct-append (f a) (flat_map f (range_with_len (a + 1) k)) (each a) (distinct-flat f key (a + 1) k (λ s x low there. keyed s x (omega arith) there) each)
    (λ x here later.
    let found = from-flat_map f (range_with_len (a + 1) k) x later in
    let r = from-range (a + 1) k found.source found.there in
    let low : a + 1 ≤ found.source = r.0 in
    let one : key x ≡ a = keyed a x (omega arith) here in
    let other : key x ≡ found.source = keyed found.source x (omega arith) found.within in
    absurd (omega arith))

distinct-in : (P : Laid) (s : ℕ) → Distinct (parts_in P s)
distinct-in P s =
    distinct-append (head ++ sections) table
    (distinct-append head sections (one-head (has_segtab P.tree s))
    (distinct-map (λ i. OneSection i) (sections_in P.program s) (λ i j e. cc) (distinct-filter (λ i. segment_of_section P.program i == s) (range_with_len 0 (length P.program.sections)) (distinct-range 0 (length P.program.sections))))
    (λ x a b. head-section (has_segtab P.tree s) x a (from-map (λ i. OneSection i) (sections_in P.program s) x b).made))
    (one-table (entry_count P s == 0))
    (λ x a b. elim (has-append head sections x a) [
      | inl h ↦ head-table (has_segtab P.tree s) (entry_count P s == 0) x h b
      | inr h ↦ section-table (entry_count P s == 0) x (from-map (λ i. OneSection i) (sections_in P.program s) x h).made b
    ])
  where
    head : List Part
    head = if has_segtab P.tree s then SegmentTable ∷ [] else []

    sections : List Part
    sections = map (λ i. OneSection i) (sections_in P.program s)

    table : List Part
    table = if entry_count P s == 0 then [] else EntryTable s ∷ []

    one-head : (b : Bool) → Distinct (if b then SegmentTable ∷ [] else [])
    one-head true = ((λ there. there), tt)
    one-head false = tt

    one-table : (b : Bool) → Distinct (if b then [] else EntryTable s ∷ [])
    one-table true = tt
    one-table false = ((λ there. there), tt)

    head-section : (b : Bool) (x : Part) {i : ℕ} → Has (if b then SegmentTable ∷ [] else []) x → OneSection i ≡ x → ⊥
    head-section true x there e = elim there [ inl h ↦ cc | inr h ↦ h ]
    head-section false x there e = there

    head-table : (b c : Bool) (x : Part) → Has (if b then SegmentTable ∷ [] else []) x → Has (if c then [] else EntryTable s ∷ []) x → ⊥
    head-table false c x there other = there
    head-table true true x there other = other
    head-table true false x there other = elim there [ inl h ↦ elim other [ inl k ↦ cc | inr k ↦ k ] | inr h ↦ h ]

    section-table : (c : Bool) (x : Part) {i : ℕ} → OneSection i ≡ x → Has (if c then [] else EntryTable s ∷ []) x → ⊥
    section-table true x e other = other
    section-table false x e other = elim other [ inl k ↦ cc | inr k ↦ k ]

segment-keyed : (P : Laid) (s : ℕ) (x : Part) → 1 ≤ s → Has (parts_in P s) x → part_segment P x ≡ s
segment-keyed P s x low there = (stands_well P s x low (has-each (IsPartOf P s) (parts_in P s) x (parts-stand P s) there)).segment

pub parts-distinct : (P : Laid) → Distinct (parts P)
parts-distinct P =
    subst (λ l. Distinct (flat_map (parts_in P) l)) (sym (segments-range P.tree))
    (distinct-flat (parts_in P) (part_segment P) 1 (length P.tree) (λ s x low there. segment-keyed P s x low there) (distinct-in P))

same-place : {X : Type 0} (xs : List X) (p k : ℕ) (x : X) → Distinct xs → slice_get xs p ≡ Some x → slice_get xs k ≡ Some x → p ≡ k
same-place [] p k x a there also = absurd cc
same-place (y ∷ ys) zero zero x a there also = refl
same-place (y ∷ ys) zero (suc k) x a there also = absurd (a.0 (has-at ys k y (also ∙ sym there)))
same-place (y ∷ ys) (suc p) zero x a there also = absurd (a.0 (has-at ys p y (there ∙ sym also)))
same-place (y ∷ ys) (suc p) (suc k) x a there also = ap suc (same-place ys p k x a.1 there also)

-- the number of a part is its place among all, from 1
pub number_at : (P : Laid) (k : ℕ) (x : Part) → slice_get (parts P) k ≡ Some x → part_number P x ≡ k + 1
number_at P k x there =
    let numbered = is-numbered P x (from-part P x (has-at (parts P) k x there)) in
    numbered.number ∙ ap (λ n. n + 1) (same-place (parts P) numbered.place k x (parts-distinct P) numbered.there there)
