-- Where sections begin, one after another.
use Rattle.std.proofs.Common.{◌≡◌, ◌≢◌, ℕ, zero, suc, ◌+◌, ◌-◌, ◌*◌, ◌<◌, ◌≤◌, true, false, ◌==◌, ◌&&◌, nat_lt, if◌then◌else◌, List, [], ◌∷◌, ◌++◌, length, map, take, get_or, set, sum_by, All, IsTrue, refl, sym, ap, ◌∙◌, arith, zero-add, add_comm, length-take}
use Rattle.std.specs.List.{list_all, range_with_len}
use Rattle.std.specs.Option.{option_map_or}
use Rattle.std.proofs.lemmas.Bool.{ne_eqb}
use Rattle.std.proofs.lemmas.Option.{slice_get-get_or}
use Rattle.std.proofs.lemmas.List.Sums.{sum_by_more}
use Rattle.std.proofs.lemmas.Grind.{get_or_default_zero}
use Rattle.sym_mod.specs.declared.program.Section.{Section}
use Rattle.sym_mod.specs.Sound.{IsSoundSection}
use Rattle.linking_model.specs.Numbers.{round8}
use Rattle.linking_model.specs.Tree.{Tree}
use Rattle.linking_model.specs.Places.{has_segtab, segtab_length, head_room, room_in}
use Rattle.linking_model.proofs.Trees.{same_tells}
use Rattle.addr_assign.specs.Laid.{is_in_tree}
use Rattle.addr_assign.specs.Sizes.{sizes_of}
use Rattle.addr_assign.specs.Reach.{next_place, segment_at}
use Rattle.addr_assign.proofs.Ranges.{set_range, push_range}
use Rattle.addr_assign.proofs.Reaches.{rooms-bound, head-bound}
use Rattle.addr_assign.proofs.Sized.{section_at, own_value, all_before}

-- ---- one section more

room-own : (s : ℕ) (x : Section) → x.segment ≡ s → room_in s x ≡ round8 x.length
room-own s x here = rw (here, same_tells s) refl

room-other : (s : ℕ) (x : Section) → x.segment ≢ s → room_in s x ≡ 0
room-other s x differ = rw (ne_eqb x.segment s differ) refl

next-own : (tree : Tree) (origins : List ℕ) (xs : List Section) (k : ℕ) (d : Section) (s : ℕ) → k < length xs → (get_or xs k d).segment ≡ s → next_place tree origins (take (k + 1) xs) s ≡ next_place tree origins (take k xs) s + round8 (get_or xs k d).length
unfolding next_place
next-own tree origins xs k d s inside here =
    joined (sizes_of origins s + head_room tree s) (sum_by (room_in s) (take k xs)) (sum_by (room_in s) (take (k + 1) xs)) (room_in s (get_or xs k d)) (round8 (get_or xs k d).length) (sum_by_more (room_in s) xs k d inside) (room-own s (get_or xs k d) here)
  where
    joined : (b m n r l : ℕ) → n ≡ m + r → r ≡ l → b + n ≡ b + m + l
    joined b m n r l e f = omega arith

next-other : (tree : Tree) (origins : List ℕ) (xs : List Section) (k : ℕ) (d : Section) (s : ℕ) → k < length xs → (get_or xs k d).segment ≢ s → next_place tree origins (take (k + 1) xs) s ≡ next_place tree origins (take k xs) s
unfolding next_place
next-other tree origins xs k d s inside differ =
    joined (sizes_of origins s + head_room tree s) (sum_by (room_in s) (take k xs)) (sum_by (room_in s) (take (k + 1) xs)) (room_in s (get_or xs k d)) (sum_by_more (room_in s) xs k d inside) (room-other s (get_or xs k d) differ)
  where
    joined : (b m n r : ℕ) → n ≡ m + r → r ≡ 0 → b + n ≡ b + m
    joined b m n r e f = omega arith

pub next_step : (tree : Tree) (origins : List ℕ) (xs : List Section) (next new : List ℕ) (k : ℕ) (d x : Section) → IsTrue (list_all (is_in_tree tree) xs) → next ≡ map (next_place tree origins (take k xs)) (range_with_len 1 (length tree)) → k < length xs → x ≡ get_or xs k d → new ≡ set next (x.segment - 1) (get_or next (x.segment - 1) 0 + round8 x.length) → new ≡ map (next_place tree origins (take (k + 1) xs)) (range_with_len 1 (length tree))
next_step tree origins xs next new k d x all are inside is put =
    let in_it : (1 ≤ x.segment) × (x.segment ≤ length tree) = section_at tree xs k d x all inside is in
    let low : 1 ≤ x.segment = in_it.0 in
    let high : x.segment ≤ length tree = in_it.1 in
    let at : 1 + (x.segment - 1) ≡ x.segment = omega (arith, low) in
    let here : (get_or xs k d).segment ≡ x.segment = ap (λ z. z.segment) (sym is) in
    let own : get_or next (x.segment - 1) 0 ≡ next_place tree origins (take k xs) x.segment = own_value tree xs (next_place tree origins (take k xs)) next k d x all are inside is in
    put ∙ (ap (λ l. set l (x.segment - 1) (get_or next (x.segment - 1) 0 + round8 x.length)) are
    ∙ set_range (next_place tree origins (take k xs)) (next_place tree origins (take (k + 1) xs)) 1 (length tree) (x.segment - 1) (get_or next (x.segment - 1) 0 + round8 x.length) (omega (arith, low, high))
    (ap (λ s. next_place tree origins (take (k + 1) xs) s) at ∙ (next-own tree origins xs k d x.segment inside here ∙ (ap (λ v. v + round8 (get_or xs k d).length) (sym own) ∙ ap (λ z. get_or next (x.segment - 1) 0 + round8 z.length) (sym is))))
    (λ s differ. next-other tree origins xs k d s inside (λ e. differ (sym e ∙ (here ∙ sym at)))))

-- the place that the section gets
pub segment_at-is : (xs : List Section) (k : ℕ) (d x : Section) → k < length xs → x ≡ get_or xs k d → segment_at xs k ≡ x.segment
unfolding segment_at
segment_at-is xs k d x inside is = ap (λ o. option_map_or (λ z. z.segment) o 0) (slice_get-get_or xs k d inside) ∙ ap (λ z. z.segment) (sym is)

pub place_step : (tree : Tree) (origins : List ℕ) (xs : List Section) (next places : List ℕ) (k : ℕ) (d x : Section) (v : ℕ) → IsTrue (list_all (is_in_tree tree) xs) → next ≡ map (next_place tree origins (take k xs)) (range_with_len 1 (length tree)) → places ≡ map (λ i. next_place tree origins (take i xs) (segment_at xs i)) (range_with_len 0 k) → k < length xs → x ≡ get_or xs k d → v ≡ get_or next (x.segment - 1) 0 → places ++ v ∷ [] ≡ map (λ i. next_place tree origins (take i xs) (segment_at xs i)) (range_with_len 0 (k + 1))
place_step tree origins xs next places k d x v all are were inside is read =
    let value : v ≡ next_place tree origins (take k xs) (segment_at xs k) =
    read ∙ (own_value tree xs (next_place tree origins (take k xs)) next k d x all are inside is ∙ ap (λ s. next_place tree origins (take k xs) s) (sym (segment_at-is xs k d x inside is))) in
    push_range (λ i. next_place tree origins (take i xs) (segment_at xs i)) 0 k v places were (value ∙ ap (λ i. next_place tree origins (take i xs) (segment_at xs i)) (sym (zero-add k)))

-- ---- bounds

read_bound : (m : ℕ) (xs : List ℕ) (i : ℕ) → All (λ n. n ≤ m) xs → get_or xs i 0 ≤ m
read_bound m [] i all = omega arith
read_bound m (x ∷ xs) zero all = all 0 x (omega arith)
read_bound m (x ∷ xs) (suc i) all = read_bound m xs i (λ k d inside. all (suc k) d (omega (arith, inside)))

origin-bound : (origins : List ℕ) (s : ℕ) → All (λ n. n ≤ 4503599627370496) origins → sizes_of origins s ≤ 4503599627370496
unfolding sizes_of
origin-bound origins s all = read_bound 4503599627370496 origins (s - 1) all

next-bound : (tree : Tree) (origins : List ℕ) (xs : List Section) (s : ℕ) → length tree ≤ 255 → All IsSoundSection xs → length xs ≤ 32511 → All (λ n. n ≤ 4503599627370496) origins → next_place tree origins xs s ≤ 9007199254740992
unfolding next_place
next-bound tree origins xs s few sound short bounded =
    within (sizes_of origins s) (head_room tree s) (sum_by (room_in s) xs) (length xs) (origin-bound origins s bounded) (head-bound tree s few) (rooms-bound s xs sound) short
  where
    within : (o h m n : ℕ) → o ≤ 4503599627370496 → h ≤ 1032 → m ≤ n * 16777222 → n ≤ 32511 → o + h + m ≤ 9007199254740992
    within o h m n a b c e = omega arith

pub next_small : (tree : Tree) (origins : List ℕ) (xs : List Section) (next : List ℕ) (k : ℕ) (d x : Section) → length tree ≤ 255 → All IsSoundSection xs → length xs ≤ 32511 → All (λ n. n ≤ 4503599627370496) origins → IsTrue (list_all (is_in_tree tree) xs) → next ≡ map (next_place tree origins (take k xs)) (range_with_len 1 (length tree)) → k < length xs → x ≡ get_or xs k d → get_or next (x.segment - 1) 0 ≤ 9007199254740992
next_small tree origins xs next k d x few sound short bounded all are inside is =
    rw (own_value tree xs (next_place tree origins (take k xs)) next k d x all are inside is)
    (next-bound tree origins (take k xs) x.segment few (all_before xs k sound) (omega (arith, short, length-take k xs)) bounded)

-- ---- before any section

head-rounded : (tree : Tree) (count i h : ℕ) → count ≡ length tree → h ≡ (if nat_lt 1 count && i + 1 == 1 then 8 + 4 * count else 0) → round8 h ≡ head_room tree (1 + i)
head-rounded tree count i h counted is =
    ap (λ n. round8 n) (is ∙ (ap (λ s. if nat_lt 1 count && s == 1 then 8 + 4 * count else 0) (add_comm i 1)
    ∙ ap (λ n. if nat_lt 1 n && 1 + i == 1 then 8 + 4 * n else 0) counted))
    ∙ elim (has_segtab tree (1 + i)) as (λ b. round8 (if b then segtab_length tree else 0) ≡ (if b then round8 (segtab_length tree) else 0)) [
      | true ↦ refl
      | false ↦ refl
    ]

own-origin : (origins : List ℕ) (i d : ℕ) → i < length origins → get_or origins i d ≡ sizes_of origins (1 + i)
unfolding sizes_of
own-origin origins i d inside = let at : i ≡ 1 + i - 1 = omega arith in get_or_default_zero origins i d inside ∙ ap (λ k. get_or origins k 0) at

pub start_is : (tree : Tree) (origins : List ℕ) (count i d h r o : ℕ) → count ≡ length tree → h ≡ (if nat_lt 1 count && i + 1 == 1 then 8 + 4 * count else 0) → r ≡ round8 h → i < length origins → o ≡ get_or origins i d → o + r ≡ next_place tree origins [] (1 + i)
unfolding next_place
start_is tree origins count i d h r o counted head rounded inside read =
    joined o r (sizes_of origins (1 + i)) (head_room tree (1 + i)) (read ∙ own-origin origins i d inside) (rounded ∙ head-rounded tree count i h counted head)
  where
    joined : (o r a b : ℕ) → o ≡ a → r ≡ b → o + r ≡ a + b + 0
    joined o r a b e f = omega arith

pub end_is : (origins sizes : List ℕ) (i d e o z : ℕ) → i < length origins → i < length sizes → o ≡ get_or origins i d → z ≡ get_or sizes i e → o + z ≡ sizes_of origins (1 + i) + sizes_of sizes (1 + i)
end_is origins sizes i d e o z inside within read sized = joined o z _ _ (read ∙ own-origin origins i d inside) (sized ∙ own-origin sizes i e within)
  where
    joined : (o z a b : ℕ) → o ≡ a → z ≡ b → o + z ≡ a + b
    joined o z a b e f = omega arith
