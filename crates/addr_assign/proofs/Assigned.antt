-- From the lists that are computed to the places, and what is within the module's length.
use Rattle.std.proofs.Common.{◌≡◌, ℕ, ◌+◌, ◌-◌, ◌<◌, ◌≤◌, true, false, ◌==◌, if◌then◌else◌, List, [], ◌∷◌, length, map, take, get_or, sum_by, slice_get, Some, All, IsTrue, refl, sym, ap, ◌∙◌, arith, subst}
use Rattle.std.specs.List.{list_all, range_with_len}
use Rattle.std.proofs.lemmas.Option.{slice_get-get_or}
use Rattle.std.proofs.lemmas.List.FromFn.{length-map-range_with_len}
use Rattle.sym_mod.specs.declared.program.Section.{Section}
use Rattle.linking_model.specs.Numbers.{round8, greatest}
use Rattle.linking_model.specs.Tree.{Tree, segments}
use Rattle.linking_model.specs.Places.{Laid, size, origin, origin_by, end_of, module_length, place, place_after, table_place, head_room, room_in, entab_length}
use Rattle.linking_model.specs.Points.{displacements, registers_end}
use Rattle.linking_model.specs.Laws.{LiesInSegment}
use Rattle.linking_model.proofs.Extents.{sections_lie_in_segments}
use Rattle.addr_assign.specs.Laid.{is_in_tree, places_of}
use Rattle.addr_assign.specs.Sizes.{sizes_of}
use Rattle.addr_assign.specs.Reach.{reach, with_table, entries_at, next_place, segment_at}
use Rattle.addr_assign.proofs.Ranges.{same_range, all_range, greatest_range, read_range}
use Rattle.addr_assign.proofs.Reaches.{rooms-reach}
use Rattle.addr_assign.proofs.Sized.{size-table, in_tree_at}
use Rattle.addr_assign.proofs.Nexts.{segment_at-is}
use Rattle.addr_assign.proofs.Congruent.{Agree, segments-range, origin-same_sizes}

-- ---- origins and ends

read_list : (f : ℕ → ℕ) (n : ℕ) (xs : List ℕ) → xs ≡ map f (range_with_len 1 n) → Agree n (sizes_of xs) f
unfolding sizes_of
read_list f n xs are = λ s low high. read_range f 1 n (s - 1) s 0 xs are (omega (arith, low, high)) (omega (arith, low))

pub origins_are : (P : Laid) (sizes origins : List ℕ) → sizes ≡ map (size P) (range_with_len 1 (length P.tree)) → origins ≡ map (origin_by P.tree (sizes_of sizes)) (range_with_len 1 (length P.tree)) → origins ≡ map (origin P) (segments P.tree)
origins_are P sizes origins sized are =
    are ∙ (same_range (origin_by P.tree (sizes_of sizes)) (origin P) 1 (length P.tree) (λ s low high. origin-same_sizes P.tree (sizes_of sizes) (size P) s (read_list (size P) (length P.tree) sizes sized))
    ∙ sym (ap (λ l. map (origin P) l) (segments-range P.tree)))

on_range : (f : ℕ → ℕ) (tree : Tree) (xs : List ℕ) → xs ≡ map f (segments tree) → xs ≡ map f (range_with_len 1 (length tree))
on_range f tree xs are = are ∙ ap (λ l. map f l) (segments-range tree)

pub ends_are : (P : Laid) (sizes origins ends : List ℕ) → sizes ≡ map (size P) (range_with_len 1 (length P.tree)) → origins ≡ map (origin P) (segments P.tree) → ends ≡ map (λ s. sizes_of origins s + sizes_of sizes s) (range_with_len 1 (length origins)) → ends ≡ map (end_of P) (segments P.tree)
ends_are P sizes origins ends sized are ended =
    let many : length origins ≡ length P.tree = ap (λ l. length l) (on_range (origin P) P.tree origins are) ∙ length-map-range_with_len (origin P) 1 (length P.tree) in
    ended ∙ (ap (λ n. map (λ s. sizes_of origins s + sizes_of sizes s) (range_with_len 1 n)) many
    ∙ (same_range (λ s. sizes_of origins s + sizes_of sizes s) (end_of P) 1 (length P.tree) (λ s low high. one s low (omega (arith, high)))
    ∙ sym (ap (λ l. map (end_of P) l) (segments-range P.tree))))
  where
    one : (s : ℕ) → 1 ≤ s → s ≤ length P.tree → sizes_of origins s + sizes_of sizes s ≡ origin P s + size P s
    one s low high = ap (λ n. n + sizes_of sizes s) (read_list (origin P) (length P.tree) origins (on_range (origin P) P.tree origins are) s low high) ∙ ap (λ n. origin P s + n) (read_list (size P) (length P.tree) sizes sized s low high)

-- ---- sections and tables

next-is : (P : Laid) (origins : List ℕ) (xs : List Section) (s : ℕ) → origins ≡ map (origin P) (segments P.tree) → 1 ≤ s → s ≤ length P.tree → next_place P.tree origins xs s ≡ place_after P s xs
unfolding next_place place_after
next-is P origins xs s are low high = ap (λ o. o + head_room P.tree s + sum_by (room_in s) xs) (read_list (origin P) (length P.tree) origins (on_range (origin P) P.tree origins are) s low high)

segment_in_tree : (tree : Tree) (xs : List Section) (i : ℕ) → IsTrue (list_all (is_in_tree tree) xs) → i < length xs → (1 ≤ segment_at xs i) × (segment_at xs i ≤ length tree)
segment_in_tree tree [] i all inside = let no : ⊥ = omega arith in absurd no
segment_in_tree tree (y ∷ ys) i all inside = rw (segment_at-is (y ∷ ys) i y (get_or (y ∷ ys) i y) inside refl) (in_tree_at tree (y ∷ ys) i y all inside)

place-is : (P : Laid) (i : ℕ) → place P i ≡ place_after P (segment_at P.program.sections i) (take i P.program.sections)
unfolding place segment_at
place-is P i = refl

table_place-is : (P : Laid) (s : ℕ) → table_place P s ≡ place_after P s P.program.sections
unfolding table_place
table_place-is P s = refl

pub sections_are : (P : Laid) (origins places : List ℕ) (xs : List Section) → xs ≡ P.program.sections → IsTrue (list_all (is_in_tree P.tree) P.program.sections) → origins ≡ map (origin P) (segments P.tree) → places ≡ map (λ i. next_place P.tree origins (take i xs) (segment_at xs i)) (range_with_len 0 (length xs)) → places ≡ map (place P) (range_with_len 0 (length P.program.sections))
sections_are P origins places xs same all are placed =
    placed ∙ (ap (λ l. map (λ i. next_place P.tree origins (take i l) (segment_at l i)) (range_with_len 0 (length l))) same
    ∙ same_range (λ i. next_place P.tree origins (take i P.program.sections) (segment_at P.program.sections i)) (place P) 0 (length P.program.sections) (λ i low high. one i (omega (arith, high))))
  where
    one : (i : ℕ) → i < length P.program.sections → next_place P.tree origins (take i P.program.sections) (segment_at P.program.sections i) ≡ place P i
    one i inside =
        let within : (1 ≤ segment_at P.program.sections i) × (segment_at P.program.sections i ≤ length P.tree) = segment_in_tree P.tree P.program.sections i all inside in
        next-is P origins (take i P.program.sections) (segment_at P.program.sections i) are within.0 within.1 ∙ sym (place-is P i)

pub tables_are : (P : Laid) (origins tables : List ℕ) (xs : List Section) → xs ≡ P.program.sections → origins ≡ map (origin P) (segments P.tree) → tables ≡ map (next_place P.tree origins xs) (range_with_len 1 (length P.tree)) → tables ≡ map (table_place P) (segments P.tree)
tables_are P origins tables xs same are placed =
    placed ∙ (ap (λ l. map (next_place P.tree origins l) (range_with_len 1 (length P.tree))) same
    ∙ (same_range (next_place P.tree origins P.program.sections) (table_place P) 1 (length P.tree) (λ s low high. next-is P origins P.program.sections s are low (omega (arith, high)) ∙ sym (table_place-is P s))
    ∙ sym (ap (λ l. map (table_place P) l) (segments-range P.tree))))

-- ---- bounds

end-within : (P : Laid) (s : ℕ) → 1 ≤ s → s ≤ length P.tree → end_of P s ≤ module_length P
end-within P s low high = rw (ap (λ l. greatest (map (end_of P) l)) (segments-range P.tree)) (greatest_range (end_of P) 1 (length P.tree) s low (omega (arith, high)))

pub ends_fit : (P : Laid) (xs : List ℕ) → module_length P ≤ 4194304 → xs ≡ map (end_of P) (segments P.tree) → All (λ n. n ≤ 4194311) xs
ends_fit P xs short are = rw (on_range (end_of P) P.tree xs are) (all_range (end_of P) 4194311 1 (length P.tree) (λ s low high. within (end_of P s) (module_length P) (end-within P s low (omega (arith, high))) short))
  where
    within : (e m : ℕ) → e ≤ m → m ≤ 4194304 → e ≤ 4194311
    within e m h k = omega arith

pub origins_fit : (P : Laid) (xs : List ℕ) → module_length P ≤ 4194304 → xs ≡ map (origin P) (segments P.tree) → All (λ n. n ≤ 4194311) xs
origins_fit P xs short are = rw (on_range (origin P) P.tree xs are) (all_range (origin P) 4194311 1 (length P.tree) (λ s low high. within (origin P s) (size P s) (module_length P) (end-within P s low (omega (arith, high))) short))
  where
    within : (o z m : ℕ) → o + z ≤ m → m ≤ 4194304 → o ≤ 4194311
    within o z m h k = omega arith

reach-within : (r n : ℕ) → r ≤ with_table r n
unfolding with_table
reach-within r n =
    elim (n == 0) as (λ b. r ≤ (if b then r else round8 r + entab_length n)) [
      | true ↦ omega arith
      | false ↦ more r n
    ]
  where
    more : (r n : ℕ) → r ≤ round8 r + entab_length n
    more r n = omega arith

table-within : (P : Laid) (s : ℕ) → table_place P s ≤ end_of P s + 7
unfolding table_place place_after
table-within P s =
    let rounded : head_room P.tree s + sum_by (room_in s) P.program.sections ≡ round8 (reach P.tree P.program.sections s) = rooms-reach P.tree P.program.sections s in
    let whole : size P s ≡ with_table (reach P.tree P.program.sections s) (entries_at P.entries (s - 1)) = size-table P s (s - 1) refl in
    let inside : reach P.tree P.program.sections s ≤ with_table (reach P.tree P.program.sections s) (entries_at P.entries (s - 1)) = reach-within (reach P.tree P.program.sections s) (entries_at P.entries (s - 1)) in
    within (origin P s) (head_room P.tree s) (sum_by (room_in s) P.program.sections) (reach P.tree P.program.sections s) (with_table (reach P.tree P.program.sections s) (entries_at P.entries (s - 1))) (size P s) rounded whole inside
  where
    within : (o h m r w z : ℕ) → h + m ≡ round8 r → z ≡ w → r ≤ w → o + h + m ≤ o + z + 7
    within o h m r w z a b e = omega arith

pub tables_fit : (P : Laid) (xs : List ℕ) → module_length P ≤ 4194304 → xs ≡ map (table_place P) (segments P.tree) → All (λ n. n ≤ 4194311) xs
tables_fit P xs short are = rw (on_range (table_place P) P.tree xs are) (all_range (table_place P) 4194311 1 (length P.tree) (λ s low high. within (table_place P s) (end_of P s) (module_length P) (table-within P s) (end-within P s low (omega (arith, high))) short))
  where
    within : (t e m : ℕ) → t ≤ e + 7 → e ≤ m → m ≤ 4194304 → t ≤ 4194311
    within t e m h j k = omega arith

place-within : (P : Laid) (xs : List Section) (i : ℕ) → xs ≡ P.program.sections → IsTrue (list_all (is_in_tree P.tree) P.program.sections) → i < length xs → place P i ≤ module_length P
place-within P [] i same all inside = let no : ⊥ = omega arith in absurd no
place-within P (y ∷ ys) i same all inside =
    let there : slice_get P.program.sections i ≡ Some (get_or (y ∷ ys) i y) = sym (ap (λ l. slice_get l i) same) ∙ slice_get-get_or (y ∷ ys) i y inside in
    let all_here : IsTrue (list_all (is_in_tree P.tree) (y ∷ ys)) = subst (λ l. IsTrue (list_all (is_in_tree P.tree) l)) (sym same) all in
    let lies : LiesInSegment P i (get_or (y ∷ ys) i y) = sections_lie_in_segments P i (get_or (y ∷ ys) i y) there in
    let tree_has : (1 ≤ (get_or (y ∷ ys) i y).segment) × ((get_or (y ∷ ys) i y).segment ≤ length P.tree) = in_tree_at P.tree (y ∷ ys) i y all_here inside in
    within (place P i) (get_or (y ∷ ys) i y).length (end_of P (get_or (y ∷ ys) i y).segment) (module_length P) lies.ends (end-within P (get_or (y ∷ ys) i y).segment tree_has.0 tree_has.1)
  where
    within : (p l e m : ℕ) → p + l ≤ e → e ≤ m → p ≤ m
    within p l e m h k = omega arith

pub sections_fit : (P : Laid) (xs : List ℕ) → module_length P ≤ 4194304 → IsTrue (list_all (is_in_tree P.tree) P.program.sections) → xs ≡ map (place P) (range_with_len 0 (length P.program.sections)) → All (λ n. n ≤ 4194311) xs
sections_fit P xs short all are = rw are (all_range (place P) 4194311 0 (length P.program.sections) (λ i low high. within (place P i) (module_length P) (place-within P P.program.sections i refl all (omega (arith, high))) short))
  where
    within : (e m : ℕ) → e ≤ m → m ≤ 4194304 → e ≤ 4194311
    within e m h k = omega arith

-- ---- the places

pub places_are : (P : Laid) (sections tables origins ends registers : List ℕ) (total length_ : ℕ) → sections ≡ map (place P) (range_with_len 0 (length P.program.sections)) → tables ≡ map (table_place P) (segments P.tree) → origins ≡ map (origin P) (segments P.tree) → ends ≡ map (end_of P) (segments P.tree) → registers ≡ displacements 0 P.program.registers → total ≡ registers_end 0 P.program.registers → length_ ≡ module_length P → record { sections = sections; tables = tables; origins = origins; ends = ends; registers = registers; total = total; length = length_ } ≡ places_of P
unfolding places_of
places_are P sections tables origins ends registers total length_ a b c d e f g = rw (a, b, c, d, e, f, g) refl

-- ---- the same, of lists that are lent

pub long_is : (f : ℕ → ℕ) (n : ℕ) (xs slice : List ℕ) → slice ≡ xs → xs ≡ map f (range_with_len 1 n) → length slice ≡ n
long_is f n xs slice lent are = ap (λ l. length l) (lent ∙ are) ∙ length-map-range_with_len f 1 n

pub origins_long : (P : Laid) (origins : List ℕ) → origins ≡ map (origin P) (segments P.tree) → length origins ≡ length P.tree
origins_long P origins are = long_is (origin P) (length P.tree) origins origins refl (on_range (origin P) P.tree origins are)

pub origins_read : (P : Laid) (sizes slice origins : List ℕ) → slice ≡ sizes → sizes ≡ map (size P) (range_with_len 1 (length P.tree)) → origins ≡ map (origin_by P.tree (sizes_of slice)) (range_with_len 1 (length P.tree)) → origins ≡ map (origin P) (segments P.tree)
origins_read P sizes slice origins lent sized are = origins_are P slice origins (lent ∙ sized) are

pub ends_read : (P : Laid) (sizes slice origins lent ends : List ℕ) → slice ≡ sizes → lent ≡ origins → sizes ≡ map (size P) (range_with_len 1 (length P.tree)) → origins ≡ map (origin P) (segments P.tree) → ends ≡ map (λ s. sizes_of lent s + sizes_of slice s) (range_with_len 1 (length lent)) → ends ≡ map (end_of P) (segments P.tree)
ends_read P sizes slice origins lent ends same alike sized are ended = ends_are P slice lent ends (same ∙ sized) (alike ∙ are) ended

pub length_is : (P : Laid) (ends slice : List ℕ) (n : ℕ) → slice ≡ ends → ends ≡ map (end_of P) (segments P.tree) → n ≡ greatest slice → n ≡ module_length P
length_is P ends slice n lent are is = is ∙ ap (λ l. greatest l) (lent ∙ are)

pub length_fits : (P : Laid) (ends slice : List ℕ) (n : ℕ) → slice ≡ ends → ends ≡ map (end_of P) (segments P.tree) → n ≡ greatest slice → n ≤ 4194304 → module_length P ≤ 4194304
length_fits P ends slice n lent are is fits = rw (sym (length_is P ends slice n lent are is)) fits
