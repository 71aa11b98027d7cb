-- The size of a segment, by its reach and its table.
use Rattle.std.proofs.Common.{◌≡◌, ℕ, zero, suc, ◌+◌, ◌-◌, ◌<◌, ◌≤◌, Bool, true, false, ◌==◌, ◌&&◌, nat_lt, nat_le, if◌then◌else◌, List, [], ◌∷◌, ◌++◌, length, map, get_or, set, take, length-take, get_or-take, Some, None, All, IsTrue, refl, sym, ap, ◌∙◌, arith, append-nil}
use Rattle.std.specs.List.{list_all, range_with_len}
use Rattle.std.proofs.lemmas.List.FromFn.{length-map-range_with_len}
use Rattle.std.proofs.lemmas.Bool.{ltb-false, leb-true}
use Rattle.sym_mod.specs.declared.program.Section.{Section}
use Rattle.sym_mod.specs.declared.program.Target.{Target}
use Rattle.sym_mod.specs.Sound.{IsSoundSection}
use Rattle.linking_model.specs.Numbers.{round8, extent}
use Rattle.linking_model.specs.Tree.{Tree}
use Rattle.linking_model.specs.Places.{Laid, size, head_lengths, section_lengths, table_lengths, entry_count, entab_length}
use Rattle.linking_model.specs.Tables.{crowd_in}
use Rattle.addr_assign.specs.Laid.{is_in_tree}
use Rattle.addr_assign.specs.Reach.{reach, with_table, entries_at}
use Rattle.addr_assign.proofs.Reaches.{extent-push, reach-bound, reach_step}
use Rattle.addr_assign.proofs.Ranges.{read_range, push_range, all_range}

table-on : (xs : List ℕ) (n : ℕ) → extent (xs ++ table_lengths n) ≡ with_table (extent xs) n
unfolding with_table
table-on xs n =
    elim (n == 0) as (λ b. extent (xs ++ (if b then [] else entab_length n ∷ [])) ≡ (if b then extent xs else round8 (extent xs) + entab_length n)) [
      | true ↦ ap (λ l. extent l) (append-nil xs)
      | false ↦ extent-push xs (entab_length n)
    ]

pub size-table : (P : Laid) (s i : ℕ) → s - 1 ≡ i → size P s ≡ with_table (reach P.tree P.program.sections s) (entries_at P.entries i)
unfolding size reach entries_at
size-table P s i at =
    table-on (head_lengths P.tree s ++ section_lengths P.program.sections s) (entry_count P s)
    ∙ ap (λ k. with_table (extent (head_lengths P.tree s ++ section_lengths P.program.sections s)) (entries_at P.entries k)) at

-- no table is crowded
pub few_entries : (tables : List (List Target)) (s i : ℕ) → crowd_in tables s ≡ None → entries_at tables i ≤ 340
unfolding entries_at
few_entries [] s i none = omega arith
few_entries (table ∷ tables) s zero none = here (nat_lt 340 (length table)) refl none
  where
    here : (b : Bool) → nat_lt 340 (length table) ≡ b → (if b then Some (record { segment = s; entries = length table }) else crowd_in tables (s + 1)) ≡ None → length table ≤ 340
    here true e h = cc
    here false e h = ltb-false 340 (length table) e
few_entries (table ∷ tables) s (suc i) none = few_entries tables (s + 1) i (later (nat_lt 340 (length table)) none)
  where
    later : (b : Bool) → (if b then Some (record { segment = s; entries = length table }) else crowd_in tables (s + 1)) ≡ None → crowd_in tables (s + 1) ≡ None
    later true h = cc
    later false h = h

pub size-bound : (P : Laid) (s : ℕ) → length P.tree ≤ 255 → All IsSoundSection P.program.sections → length P.program.sections ≤ 32511 → crowd_in P.entries 1 ≡ None → size P s ≤ 2199023255552
unfolding with_table
size-bound P s few sound short none =
    let within : reach P.tree P.program.sections s ≤ 1099511627776 = reach-bound P.tree P.program.sections s few sound short in
    let entries : entries_at P.entries (s - 1) ≤ 340 = few_entries P.entries 1 (s - 1) none in
    rw (size-table P s (s - 1) refl)
    (elim (entries_at P.entries (s - 1) == 0) as (λ b. (if b then reach P.tree P.program.sections s else round8 (reach P.tree P.program.sections s) + entab_length (entries_at P.entries (s - 1))) ≤ 2199023255552) [
      | true ↦ plain (reach P.tree P.program.sections s) within
      | false ↦ full (reach P.tree P.program.sections s) (entries_at P.entries (s - 1)) within entries
    ])
  where
    plain : (r : ℕ) → r ≤ 1099511627776 → r ≤ 2199023255552
    plain r h = omega arith

    full : (r n : ℕ) → r ≤ 1099511627776 → n ≤ 340 → round8 r + entab_length n ≤ 2199023255552
    full r n h k = omega arith

-- ---- sections stand in segments of the tree

pub in_tree_at : (tree : Tree) (xs : List Section) (i : ℕ) (d : Section) → IsTrue (list_all (is_in_tree tree) xs) → i < length xs → (1 ≤ (get_or xs i d).segment) × ((get_or xs i d).segment ≤ length tree)
in_tree_at tree [] i d all inside = let no : ⊥ = omega arith in absurd no
in_tree_at tree (x ∷ xs) zero d all inside = first (nat_le 1 x.segment) (nat_le x.segment (length tree)) (list_all (is_in_tree tree) xs) refl refl all
  where
    first : (a b r : Bool) → nat_le 1 x.segment ≡ a → nat_le x.segment (length tree) ≡ b → IsTrue ((a && b) && r) → (1 ≤ x.segment) × (x.segment ≤ length tree)
    first true true r e f h = (leb-true 1 x.segment e, leb-true x.segment (length tree) f)
    first true false r e f h = cc
    first false b r e f h = cc
in_tree_at tree (x ∷ xs) (suc i) d all inside = in_tree_at tree xs i d (rest (is_in_tree tree x) (list_all (is_in_tree tree) xs) all) (omega (arith, inside))
  where
    rest : (a r : Bool) → IsTrue (a && r) → IsTrue r
    rest true r h = h
    rest false r h = cc

-- ---- one section more, as the code says it

pub section_at : (tree : Tree) (xs : List Section) (k : ℕ) (d x : Section) → IsTrue (list_all (is_in_tree tree) xs) → k < length xs → x ≡ get_or xs k d → (1 ≤ x.segment) × (x.segment ≤ length tree)
section_at tree xs k d x all inside is = rw is (in_tree_at tree xs k d all inside)

pub segment_inside : (tree : Tree) (xs : List Section) (f : ℕ → ℕ) (reaches : List ℕ) (k : ℕ) (d x : Section) → IsTrue (list_all (is_in_tree tree) xs) → reaches ≡ map f (range_with_len 1 (length tree)) → k < length xs → x ≡ get_or xs k d → x.segment ≤ length reaches
segment_inside tree xs f reaches k d x all are inside is =
    let in_it : (1 ≤ x.segment) × (x.segment ≤ length tree) = section_at tree xs k d x all inside is in
    rw (are, length-map-range_with_len f 1 (length tree)) (in_it.1)

pub own_value : (tree : Tree) (xs : List Section) (f : ℕ → ℕ) (reaches : List ℕ) (k : ℕ) (d x : Section) → IsTrue (list_all (is_in_tree tree) xs) → reaches ≡ map f (range_with_len 1 (length tree)) → k < length xs → x ≡ get_or xs k d → get_or reaches (x.segment - 1) 0 ≡ f x.segment
own_value tree xs f reaches k d x all are inside is =
    let in_it : (1 ≤ x.segment) × (x.segment ≤ length tree) = section_at tree xs k d x all inside is in
    let low : 1 ≤ x.segment = in_it.0 in
    let high : x.segment ≤ length tree = in_it.1 in
    read_range f 1 (length tree) (x.segment - 1) x.segment 0 reaches are (omega (arith, low, high)) (omega (arith, low))

pub all_before : (xs : List Section) (k : ℕ) → All IsSoundSection xs → All IsSoundSection (take k xs)
all_before xs k sound = λ i d inside. at i d inside
  where
    at : (i : ℕ) (d : Section) → i < length (take k xs) → IsSoundSection (get_or (take k xs) i d)
    at i d inside =
        rw (get_or-take k xs i d (omega (arith, inside, length-take k xs))) (sound i d (omega (arith, inside, length-take k xs)))

pub reach_small : (tree : Tree) (xs : List Section) (reaches : List ℕ) (k : ℕ) (d x : Section) → length tree ≤ 255 → All IsSoundSection xs → length xs ≤ 32511 → IsTrue (list_all (is_in_tree tree) xs) → reaches ≡ map (reach tree (take k xs)) (range_with_len 1 (length tree)) → k < length xs → x ≡ get_or xs k d → get_or reaches (x.segment - 1) 0 ≤ 1099511627776
reach_small tree xs reaches k d x few sound short all are inside is =
    rw (own_value tree xs (reach tree (take k xs)) reaches k d x all are inside is)
    (reach-bound tree (take k xs) x.segment few (all_before xs k sound) (omega (arith, short, length-take k xs)))

pub reach_next : (tree : Tree) (xs : List Section) (reaches new : List ℕ) (k : ℕ) (d x : Section) → IsTrue (list_all (is_in_tree tree) xs) → reaches ≡ map (reach tree (take k xs)) (range_with_len 1 (length tree)) → k < length xs → x ≡ get_or xs k d → new ≡ set reaches (x.segment - 1) (round8 (get_or reaches (x.segment - 1) 0) + x.length) → new ≡ map (reach tree (take (k + 1) xs)) (range_with_len 1 (length tree))
reach_next tree xs reaches new k d x all are inside is put =
    let in_it : (1 ≤ x.segment) × (x.segment ≤ length tree) = section_at tree xs k d x all inside is in
    let low : 1 ≤ x.segment = in_it.0 in
    let high : x.segment ≤ length tree = in_it.1 in
    let at : 1 + (x.segment - 1) ≡ x.segment = omega (arith, low) in
    let own : get_or reaches (x.segment - 1) 0 ≡ reach tree (take k xs) (1 + (x.segment - 1)) = own_value tree xs (reach tree (take k xs)) reaches k d x all are inside is ∙ ap (λ s. reach tree (take k xs) s) (sym at) in
    put ∙ (ap (λ l. set l (x.segment - 1) (round8 (get_or reaches (x.segment - 1) 0) + x.length)) are
    ∙ reach_step tree xs k d (length tree) (x.segment - 1) (round8 (get_or reaches (x.segment - 1) 0) + x.length) inside (omega (arith, low, high)) (ap (λ z. z.segment) (sym is) ∙ sym at)
    (ap (λ v. round8 v + x.length) own ∙ ap (λ z. round8 (reach tree (take k xs) (1 + (x.segment - 1))) + z.length) is))

-- ---- one table more

pub reach_read : (tree : Tree) (xs : List Section) (reaches : List ℕ) (i n d v : ℕ) → reaches ≡ map (reach tree xs) (range_with_len 1 (length tree)) → n ≡ length tree → i < n → v ≡ get_or reaches i d → v ≡ reach tree xs (1 + i)
reach_read tree xs reaches i n d v are count inside is = is ∙ read_range (reach tree xs) 1 (length tree) i (1 + i) d reaches are (omega (arith, count, inside)) refl

pub size_next : (P : Laid) (reaches sizes : List ℕ) (i n d r e v : ℕ) → reaches ≡ map (reach P.tree P.program.sections) (range_with_len 1 (length P.tree)) → n ≡ length P.tree → i < n → r ≡ get_or reaches i d → e ≡ entries_at P.entries i → v ≡ with_table r e → sizes ≡ map (size P) (range_with_len 1 i) → sizes ++ v ∷ [] ≡ map (size P) (range_with_len 1 (i + 1))
size_next P reaches sizes i n d r e v are count inside read entries is was =
    push_range (size P) 1 i v sizes was
    (is ∙ (ap (λ k. with_table k e) (reach_read P.tree P.program.sections reaches i n d r are count inside read)
    ∙ (ap (λ k. with_table (reach P.tree P.program.sections (1 + i)) k) entries ∙ sym (size-table P (1 + i) i (omega arith)))))

pub sizes_bounded : (P : Laid) (sizes : List ℕ) (i : ℕ) → length P.tree ≤ 255 → All IsSoundSection P.program.sections → length P.program.sections ≤ 32511 → crowd_in P.entries 1 ≡ None → sizes ≡ map (size P) (range_with_len 1 i) → All (λ n. n ≤ 2199023255552) sizes
sizes_bounded P sizes i few sound short none are = rw are (all_range (size P) 2199023255552 1 i (λ s low high. size-bound P s few sound short none))

pub of_program : (tree : Tree) (xs ys : List Section) (reaches : List ℕ) → reaches ≡ map (reach tree xs) (range_with_len 1 (length tree)) → xs ≡ ys → reaches ≡ map (reach tree ys) (range_with_len 1 (length tree))
of_program tree xs ys reaches are same = are ∙ ap (λ l. map (reach tree l) (range_with_len 1 (length tree))) same

pub reach_read_small : (tree : Tree) (xs : List Section) (reaches : List ℕ) (i n d v : ℕ) → length tree ≤ 255 → All IsSoundSection xs → length xs ≤ 32511 → reaches ≡ map (reach tree xs) (range_with_len 1 (length tree)) → n ≡ length tree → i < n → v ≡ get_or reaches i d → v ≤ 1099511627776
reach_read_small tree xs reaches i n d v few sound short are count inside is = rw (reach_read tree xs reaches i n d v are count inside is) (reach-bound tree xs (1 + i) few sound short)

pub few_sections : (sections labels unresolved registers : ℕ) → sections + labels + unresolved + registers ≤ 32511 → sections ≤ 32511
few_sections sections labels unresolved registers few = omega arith

pub inside_reaches : (tree : Tree) (xs : List Section) (reaches : List ℕ) (i n : ℕ) → reaches ≡ map (reach tree xs) (range_with_len 1 (length tree)) → n ≡ length tree → i < n → i < length reaches
inside_reaches tree xs reaches i n are count inside = rw (are, length-map-range_with_len (reach tree xs) 1 (length tree), sym count) inside
