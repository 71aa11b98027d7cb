-- How far the sections and tables of a segment reach.
use Rattle.std.proofs.Common.{◌≡◌, ℕ, zero, suc, ◌+◌, ◌≤◌, true, false, ◌==◌, cond, if◌then◌else◌, List, [], ◌∷◌, ◌++◌, map, filter, take, drop, sum_by, Some, slice_get, refl, sym, zero-add, ap, ◌∙◌, arith}
use Rattle.std.proofs.lemmas.Bool.{ne_eqb}
use Rattle.std.proofs.lemmas.List.Sums.{sum_by-cons, sum_by-append}
use Rattle.std.specs.Option.{option_map_or}
use Rattle.sym_mod.specs.declared.program.Section.{Section}
use Rattle.linking_model.specs.Numbers.{round8, extent}
use Rattle.linking_model.specs.Tree.{Tree}
use Rattle.linking_model.specs.Places.{Laid, place, place_after, table_place, segtab_length, entab_length, has_segtab, head_lengths, head_room, table_lengths, section_lengths, lengths, room_in, entry_count, origin, size}
use Rattle.linking_model.specs.Laws.{SectionsLieInSegments, TablesEndSegments}
use Rattle.linking_model.proofs.Trees.{same_tells}
use Rattle.linking_model.proofs.Sums.{round8-bound}

-- ---- extents

extent-last : (before : List ℕ) (n : ℕ) → extent (before ++ n ∷ []) ≡ sum_by round8 before + n
extent-last [] n = omega arith
extent-last (b ∷ []) n = omega arith
extent-last (b ∷ c ∷ bs) n =
    let rest : extent ((c ∷ bs) ++ n ∷ []) ≡ sum_by round8 (c ∷ bs) + n = extent-last (c ∷ bs) n in
    rw (rest, sum_by-cons round8 b (c ∷ bs)) (omega arith)

extent-first : (n : ℕ) (after : List ℕ) → n ≤ extent (n ∷ after)
extent-first n [] = omega arith
extent-first n (m ∷ after) = let bound : n ≤ round8 n = round8-bound n in omega arith

extent-through : (before : List ℕ) (n : ℕ) (after : List ℕ) → sum_by round8 before + n ≤ extent (before ++ n ∷ after)
extent-through [] n after = let first : n ≤ extent (n ∷ after) = extent-first n after in omega arith
extent-through (b ∷ []) n after = let first : n ≤ extent (n ∷ after) = extent-first n after in omega arith
extent-through (b ∷ c ∷ bs) n after =
    let rest : sum_by round8 (c ∷ bs) + n ≤ extent ((c ∷ bs) ++ n ∷ after) = extent-through (c ∷ bs) n after in
    rw (sum_by-cons round8 b (c ∷ bs)) (omega arith)

-- ---- sections of a segment

section_lengths-cons : (s : ℕ) (x : Section) (xs : List Section) → x.segment ≡ s → section_lengths (x ∷ xs) s ≡ x.length ∷ section_lengths xs s
section_lengths-cons s x xs here = rw (here, same_tells s) refl

section_lengths-split : (s : ℕ) (xs : List Section) (i : ℕ) (x : Section) → slice_get xs i ≡ Some x → x.segment ≡ s → section_lengths xs s ≡ section_lengths (take i xs) s ++ x.length ∷ section_lengths (drop (suc i) xs) s
section_lengths-split s [] i x there here = cc
section_lengths-split s (y ∷ ys) zero x there here = let same : y ≡ x = cc in rw same (section_lengths-cons s x ys here)
section_lengths-split s (y ∷ ys) (suc i) x there here =
    let rest : section_lengths ys s ≡ section_lengths (take i ys) s ++ x.length ∷ section_lengths (drop (suc i) ys) s = section_lengths-split s ys i x there here in
    elim (y.segment == s) as (λ b. map (λ z. z.length) (cond b (y ∷ filter (λ z. z.segment == s) ys) (filter (λ z. z.segment == s) ys)) ≡ map (λ z. z.length) (cond b (y ∷ filter (λ z. z.segment == s) (take i ys)) (filter (λ z. z.segment == s) (take i ys))) ++ x.length ∷ section_lengths (drop (suc i) ys) s) [
      | true ↦ ap (λ l. y.length ∷ l) rest
      | false ↦ rest
    ]

sum_by-rooms : (s : ℕ) (xs : List Section) → sum_by (room_in s) xs ≡ sum_by round8 (section_lengths xs s)
sum_by-rooms s [] = refl
sum_by-rooms s (x ∷ xs) =
    sum_by-cons (room_in s) x xs ∙ ap (λ k. room_in s x + k) (sum_by-rooms s xs)
    ∙ elim (x.segment == s) as (λ b. (if b then round8 x.length else 0) + sum_by round8 (section_lengths xs s) ≡ sum_by round8 (map (λ z. z.length) (cond b (x ∷ filter (λ z. z.segment == s) xs) (filter (λ z. z.segment == s) xs)))) [
      | true ↦ sym (sum_by-cons round8 x.length (section_lengths xs s))
      | false ↦ zero-add (sum_by round8 (section_lengths xs s))
    ]

sum_by-head : (tree : Tree) (s : ℕ) → sum_by round8 (head_lengths tree s) ≡ head_room tree s
sum_by-head tree s =
    elim (has_segtab tree s) as (λ b. sum_by round8 (if b then segtab_length tree ∷ [] else []) ≡ (if b then round8 (segtab_length tree) else 0)) [
      | true ↦ zero-add (round8 (segtab_length tree))
      | false ↦ refl
    ]

regroup : (head before after tables : List ℕ) (n : ℕ) → head ++ (before ++ n ∷ after) ++ tables ≡ (head ++ before) ++ n ∷ (after ++ tables)
regroup [] [] after tables n = refl
regroup [] (b ∷ before) after tables n = ap (λ l. b ∷ l) (regroup [] before after tables n)
regroup (h ∷ head) before after tables n = ap (λ l. h ∷ l) (regroup head before after tables n)

-- ---- the words, opened once

size-is : (P : Laid) (s : ℕ) → size P s ≡ extent (lengths P s)
unfolding size
size-is P s = refl

place_after-is : (P : Laid) (s : ℕ) (before : List Section) → place_after P s before ≡ origin P s + head_room P.tree s + sum_by (room_in s) before
unfolding place_after
place_after-is P s before = refl

place-is : (P : Laid) (i : ℕ) (x : Section) → slice_get P.program.sections i ≡ Some x → place P i ≡ place_after P x.segment (take i P.program.sections)
unfolding place
place-is P i x there = ap (λ o. place_after P (option_map_or (λ z. z.segment) o 0) (take i P.program.sections)) there

table_place-is : (P : Laid) (s : ℕ) → table_place P s ≡ place_after P s P.program.sections
unfolding table_place
table_place-is P s = refl

-- what stands before the end of a section or of a table is within the segment
sum_by-before : (tree : Tree) (s : ℕ) (sections : List Section) → sum_by round8 (head_lengths tree s ++ section_lengths sections s) ≡ head_room tree s + sum_by (room_in s) sections
sum_by-before tree s sections =
    sum_by-append round8 (head_lengths tree s) (section_lengths sections s)
    ∙ ap (λ k. k + sum_by round8 (section_lengths sections s)) (sum_by-head tree s)
    ∙ ap (λ k. head_room tree s + k) (sym (sum_by-rooms s sections))

pub sections_lie_in_segments : SectionsLieInSegments
sections_lie_in_segments P i x there =
    let split : section_lengths P.program.sections x.segment ≡ section_lengths (take i P.program.sections) x.segment ++ x.length ∷ section_lengths (drop (suc i) P.program.sections) x.segment = section_lengths-split x.segment P.program.sections i x there refl in
    let all : lengths P x.segment ≡ (head_lengths P.tree x.segment ++ section_lengths (take i P.program.sections) x.segment) ++ x.length ∷ (section_lengths (drop (suc i) P.program.sections) x.segment ++ table_lengths (entry_count P x.segment)) =
    ap (λ l. head_lengths P.tree x.segment ++ l ++ table_lengths (entry_count P x.segment)) split
    ∙ regroup (head_lengths P.tree x.segment) (section_lengths (take i P.program.sections) x.segment) (section_lengths (drop (suc i) P.program.sections) x.segment) (table_lengths (entry_count P x.segment)) x.length in
    let through : sum_by round8 (head_lengths P.tree x.segment ++ section_lengths (take i P.program.sections) x.segment) + x.length ≤ size P x.segment =
    rw (size-is P x.segment, all) (extent-through (head_lengths P.tree x.segment ++ section_lengths (take i P.program.sections) x.segment) x.length (section_lengths (drop (suc i) P.program.sections) x.segment ++ table_lengths (entry_count P x.segment))) in
    let at : place P i ≡ origin P x.segment + head_room P.tree x.segment + sum_by (room_in x.segment) (take i P.program.sections) = place-is P i x there ∙ place_after-is P x.segment (take i P.program.sections) in
    record {
      begins = begun (origin P x.segment) (head_room P.tree x.segment) (sum_by (room_in x.segment) (take i P.program.sections)) (place P i) at;
      ends = ended (origin P x.segment) (size P x.segment) (head_room P.tree x.segment) (sum_by (room_in x.segment) (take i P.program.sections)) x.length (place P i) _ at (sum_by-before P.tree x.segment (take i P.program.sections)) through;
    }
  where
    begun : (o h r at : ℕ) → at ≡ o + h + r → o ≤ at
    begun o h r at is = omega arith

    ended : (o n h r l at sum : ℕ) → at ≡ o + h + r → sum ≡ h + r → sum + l ≤ n → at + l ≤ o + n
    ended o n h r l at sum is total through = omega arith

pub tables_end_segments : TablesEndSegments
tables_end_segments P s some =
    let table : table_lengths (entry_count P s) ≡ entab_length (entry_count P s) ∷ [] = ap (λ b. if b then [] else entab_length (entry_count P s) ∷ []) (ne_eqb (entry_count P s) 0 (omega arith)) in
    let all : size P s ≡ sum_by round8 (head_lengths P.tree s ++ section_lengths P.program.sections s) + entab_length (entry_count P s) =
    size-is P s ∙ ap (λ l. extent (head_lengths P.tree s ++ section_lengths P.program.sections s ++ l)) table
    ∙ extent-last (head_lengths P.tree s ++ section_lengths P.program.sections s) (entab_length (entry_count P s)) in
    ended (origin P s) (size P s) (head_room P.tree s) (sum_by (room_in s) P.program.sections) (entab_length (entry_count P s)) (table_place P s) _ (table_place-is P s ∙ place_after-is P s P.program.sections) (sum_by-before P.tree s P.program.sections) all
  where
    ended : (o n h r l at sum : ℕ) → at ≡ o + h + r → sum ≡ h + r → n ≡ sum + l → at + l ≡ o + n
    ended o n h r l at sum is total all = omega arith
