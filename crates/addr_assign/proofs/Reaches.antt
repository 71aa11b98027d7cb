-- How far segments reach, section by section.
use Rattle.std.proofs.Common.{◌≡◌, ◌≢◌, ℕ, ◌+◌, ◌*◌, ◌<◌, ◌≤◌, true, false, ◌==◌, cond, if◌then◌else◌, nat_lt, ◌&&◌, add_comm, List, [], ◌∷◌, ◌++◌, length, map, filter, take, get_or, set, sum_by, All, refl, sym, ap, ◌∙◌, arith, zero-add, append-nil, append_assoc}
use Rattle.std.specs.List.{range_with_len}
use Rattle.std.proofs.lemmas.Bool.{ne_eqb}
use Rattle.std.proofs.lemmas.List.{take_more, map-append}
use Rattle.std.proofs.lemmas.List.Elements.{filter-append}
use Rattle.std.proofs.lemmas.List.Sums.{sum_by-cons, sum_by-append, sum_by-le}
use Rattle.sym_mod.specs.declared.program.Section.{Section}
use Rattle.sym_mod.specs.Sound.{IsSoundSection}
use Rattle.linking_model.specs.Numbers.{round8, extent}
use Rattle.linking_model.specs.Tree.{Tree}
use Rattle.linking_model.specs.Places.{segtab_length, has_segtab, head_lengths, head_room, section_lengths, room_in}
use Rattle.linking_model.proofs.Trees.{same_tells}
use Rattle.addr_assign.specs.Reach.{reach}
use Rattle.addr_assign.proofs.Ranges.{set_range}

-- ---- extents

pub extent-push : (xs : List ℕ) (n : ℕ) → extent (xs ++ n ∷ []) ≡ round8 (extent xs) + n
extent-push [] n = omega arith
extent-push (b ∷ []) n = omega arith
extent-push (b ∷ c ∷ bs) n = joined b (extent (c ∷ bs)) (extent ((c ∷ bs) ++ n ∷ [])) n (extent-push (c ∷ bs) n)
  where
    joined : (b e w n : ℕ) → w ≡ round8 e + n → round8 b + w ≡ round8 (round8 b + e) + n
    joined b e w n is = omega arith

-- the room of all is the extent, rounded
pub rooms-extent : (xs : List ℕ) → sum_by round8 xs ≡ round8 (extent xs)
rooms-extent [] = refl
rooms-extent (b ∷ []) = zero-add (round8 b)
rooms-extent (b ∷ c ∷ bs) = sum_by-cons round8 b (c ∷ bs) ∙ joined b (extent (c ∷ bs)) (sum_by round8 (c ∷ bs)) (rooms-extent (c ∷ bs))
  where
    joined : (b e w : ℕ) → w ≡ round8 e → round8 b + w ≡ round8 (round8 b + e)
    joined b e w is = omega arith

-- ---- one section more

lengths-push : (s : ℕ) (xs : List Section) (x : Section) → section_lengths (xs ++ x ∷ []) s ≡ section_lengths xs s ++ section_lengths (x ∷ []) s
lengths-push s xs x = ap (λ l. map (λ z. z.length) l) (filter-append (λ z. z.segment == s) xs (x ∷ [])) ∙ map-append (λ z. z.length) (filter (λ z. z.segment == s) xs) (filter (λ z. z.segment == s) (x ∷ []))

lengths-own : (s : ℕ) (x : Section) → x.segment ≡ s → section_lengths (x ∷ []) s ≡ x.length ∷ []
lengths-own s x here = rw (here, same_tells s) refl

lengths-other : (s : ℕ) (x : Section) → x.segment ≢ s → section_lengths (x ∷ []) s ≡ []
lengths-other s x differ = rw (ne_eqb x.segment s differ) refl

reach-own : (tree : Tree) (xs : List Section) (x : Section) (s : ℕ) → x.segment ≡ s → reach tree (xs ++ x ∷ []) s ≡ round8 (reach tree xs s) + x.length
unfolding reach
reach-own tree xs x s here =
    ap (λ l. extent (head_lengths tree s ++ l)) (lengths-push s xs x ∙ ap (λ l. section_lengths xs s ++ l) (lengths-own s x here))
    ∙ (ap (λ l. extent l) (sym (append_assoc (head_lengths tree s) (section_lengths xs s) (x.length ∷ [])))
    ∙ extent-push (head_lengths tree s ++ section_lengths xs s) x.length)

reach-other : (tree : Tree) (xs : List Section) (x : Section) (s : ℕ) → x.segment ≢ s → reach tree (xs ++ x ∷ []) s ≡ reach tree xs s
unfolding reach
reach-other tree xs x s differ =
    ap (λ l. extent (head_lengths tree s ++ l)) (lengths-push s xs x ∙ (ap (λ l. section_lengths xs s ++ l) (lengths-other s x differ) ∙ append-nil (section_lengths xs s)))

-- the list of reaches after one section more
pub reach_step : (tree : Tree) (xs : List Section) (k : ℕ) (d : Section) (n j v : ℕ) → k < length xs → j < n → (get_or xs k d).segment ≡ 1 + j → v ≡ round8 (reach tree (take k xs) (1 + j)) + (get_or xs k d).length → set (map (reach tree (take k xs)) (range_with_len 1 n)) j v ≡ map (reach tree (take (k + 1) xs)) (range_with_len 1 n)
reach_step tree xs k d n j v low inside here is =
    let more : take (k + 1) xs ≡ take k xs ++ get_or xs k d ∷ [] = take_more xs k d low in
    set_range (reach tree (take k xs)) (reach tree (take (k + 1) xs)) 1 n j v inside
    (ap (λ l. reach tree l (1 + j)) more ∙ (reach-own tree (take k xs) (get_or xs k d) (1 + j) here ∙ sym is))
    (λ s differ. ap (λ l. reach tree l s) more ∙ reach-other tree (take k xs) (get_or xs k d) s (λ e. differ (sym e ∙ here)))

-- before any section
pub reach_head : (tree : Tree) (s : ℕ) → reach tree [] s ≡ (if has_segtab tree s then segtab_length tree else 0)
unfolding reach
reach_head tree s =
    ap (λ l. extent l) (append-nil (head_lengths tree s))
    ∙ elim (has_segtab tree s) as (λ b. extent (if b then segtab_length tree ∷ [] else []) ≡ (if b then segtab_length tree else 0)) [
      | true ↦ refl
      | false ↦ refl
    ]

-- ---- rooms

pub rooms : (s : ℕ) (xs : List Section) → sum_by (room_in s) xs ≡ sum_by round8 (section_lengths xs s)
rooms s [] = refl
rooms s (x ∷ xs) =
    sum_by-cons (room_in s) x xs ∙ ap (λ k. room_in s x + k) (rooms s xs)
    ∙ elim (x.segment == s) as (λ b. (if b then round8 x.length else 0) + sum_by round8 (section_lengths xs s) ≡ sum_by round8 (map (λ z. z.length) (cond b (x ∷ filter (λ z. z.segment == s) xs) (filter (λ z. z.segment == s) xs)))) [
      | true ↦ sym (sum_by-cons round8 x.length (section_lengths xs s))
      | false ↦ zero-add (sum_by round8 (section_lengths xs s))
    ]

head : (tree : Tree) (s : ℕ) → sum_by round8 (head_lengths tree s) ≡ head_room tree s
head tree s =
    elim (has_segtab tree s) as (λ b. sum_by round8 (if b then segtab_length tree ∷ [] else []) ≡ (if b then round8 (segtab_length tree) else 0)) [
      | true ↦ zero-add (round8 (segtab_length tree))
      | false ↦ refl
    ]

-- what stands in a segment takes its reach, rounded
pub rooms-reach : (tree : Tree) (xs : List Section) (s : ℕ) → head_room tree s + sum_by (room_in s) xs ≡ round8 (reach tree xs s)
unfolding reach
rooms-reach tree xs s =
    ap (λ k. head_room tree s + k) (rooms s xs)
    ∙ (ap (λ k. k + sum_by round8 (section_lengths xs s)) (sym (head tree s))
    ∙ (sym (sum_by-append round8 (head_lengths tree s) (section_lengths xs s)) ∙ rooms-extent (head_lengths tree s ++ section_lengths xs s)))

-- ---- bounds

room-bound : (s : ℕ) (x : Section) → x.length ≤ 16777215 → room_in s x ≤ 16777222
room-bound s x small =
    elim (x.segment == s) as (λ b. (if b then round8 x.length else 0) ≤ 16777222) [
      | true ↦ rounded x.length small
      | false ↦ omega arith
    ]
  where
    rounded : (n : ℕ) → n ≤ 16777215 → round8 n ≤ 16777222
    rounded n h = omega arith

pub rooms-bound : (s : ℕ) (xs : List Section) → All IsSoundSection xs → sum_by (room_in s) xs ≤ length xs * 16777222
rooms-bound s xs sound = sum_by-le (room_in s) 16777222 xs (λ k d inside. room-bound s (get_or xs k d) (sound k d inside).size)

pub head-bound : (tree : Tree) (s : ℕ) → length tree ≤ 255 → head_room tree s ≤ 1032
head-bound tree s few =
    elim (has_segtab tree s) as (λ b. (if b then round8 (segtab_length tree) else 0) ≤ 1032) [
      | true ↦ within (length tree) few
      | false ↦ omega arith
    ]
  where
    within : (n : ℕ) → n ≤ 255 → round8 (8 + 4 * n) ≤ 1032
    within n h = omega arith

pub reach-bound : (tree : Tree) (xs : List Section) (s : ℕ) → length tree ≤ 255 → All IsSoundSection xs → length xs ≤ 32511 → reach tree xs s ≤ 1099511627776
reach-bound tree xs s few sound short =
    let total : head_room tree s + sum_by (room_in s) xs ≡ round8 (reach tree xs s) = rooms-reach tree xs s in
    let most : sum_by (room_in s) xs ≤ length xs * 16777222 = rooms-bound s xs sound in
    let front : head_room tree s ≤ 1032 = head-bound tree s few in
    within (head_room tree s) (sum_by (room_in s) xs) (reach tree xs s) (length xs) total most front short
  where
    within : (h m r n : ℕ) → h + m ≡ round8 r → m ≤ n * 16777222 → h ≤ 1032 → n ≤ 32511 → r ≤ 1099511627776
    within h m r n is most front short = omega arith

pub head_is : (tree : Tree) (count i v : ℕ) → count ≡ length tree → v ≡ (if nat_lt 1 count && i + 1 == 1 then 8 + 4 * count else 0) → v ≡ reach tree [] (1 + i)
head_is tree count i v counted is =
    is ∙ (ap (λ s. if nat_lt 1 count && s == 1 then 8 + 4 * count else 0) (add_comm i 1)
    ∙ (ap (λ n. if nat_lt 1 n && 1 + i == 1 then 8 + 4 * n else 0) counted ∙ sym (reach_head tree (1 + i))))
