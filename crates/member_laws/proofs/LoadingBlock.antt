-- In one block the parts of a segment stand one behind the other.
use Rattle.std.proofs.Common.{arith, ◌≡◌, ◌≢◌, inl, ℕ, suc, ◌+◌, ◌*◌, ◌<◌, ◌≤◌, true, ◌==◌, if◌then◌else◌, List, [], ◌∷◌, ◌++◌, map, flat_map, length, take, sum_by, get_or, refl, sym, ◌∙◌, ap, subst, add-zero, length-append}
use Rattle.std.specs.Option.{option_map_or}
use Rattle.std.specs.List.{AllByRecursion as Each, range_with_len}
use Rattle.std.proofs.lemmas.Bool.{cond_both, eqb-true, ne_eqb}
use Rattle.std.proofs.lemmas.List.Sums.{sum_by_more, sum_by-take-le}
use Rattle.std.proofs.lemmas.Option.{get_or_from_slice_get}
use Rattle.load_recs.specs.declared.items.SymbolItem.{SymbolItem}
use Rattle.linking_model.specs.Numbers.{round8}
use Rattle.linking_model.specs.Tree.{Tree, segments, parent_of, region_of}
use Rattle.linking_model.specs.Places.{Laid, has_segtab, head_room, segtab_length, entry_count, origin, room_in, place, place_after, table_place, segment_of_section}
use Rattle.linking_model.specs.TableBytes.{status_of, segtab_bytes}
use Rattle.linking_model.specs.Linked.{block}
use Rattle.linking_model.specs.Run.{sections_in}
use Rattle.linking_model.proofs.Sums.{sections_are_apart, round8-bound}
use Rattle.linking_model.proofs.Trees.{if_same}
use Rattle.member_model.specs.SymbolList.{symbols_written}
use Rattle.member_model.specs.Symbols.{address_in_module}
use Rattle.member_model.specs.Parts.{Part, SegmentTable, OneSection, EntryTable, parts, parts_in, part_place, part_bytes, part_number}
use Rattle.member_model.specs.Loaded.{in_block}
use Rattle.member_laws.specs.Linkable.{IsLinkable}
use Rattle.member_laws.specs.Storing.{SegmentsLoadLinked}
use Rattle.member_laws.proofs.LoadingLists.{Among, Pairs, each_append, each_map, each_filter, each_place, among_front, among_behind, pairs_append, pairs_weaker, pairs_map, pairs_filter, pairs_of_each, pairs_of_places}
use Rattle.member_laws.proofs.LoadingSymbols.{address_of_part}
use Rattle.member_laws.proofs.LoadingFields.{now_at, Apart}
use Rattle.member_laws.proofs.LoadingTargets.{Found, within, among_parts_in, section_is_part}
use Rattle.member_laws.proofs.LoadingConstants.{Agree}
use Rattle.member_laws.proofs.LoadingSections.{size_of_section}
use Rattle.member_laws.proofs.LoadingSegment.{each_among, Fits, segment_loads}

-- ---- places

place_is : (P : Laid) (i s : ℕ) → segment_of_section P.program i ≡ s
    → place P i ≡ origin P s + head_room P.tree s + sum_by (room_in s) (take i P.program.sections)
unfolding place place_after
place_is P i s here = ap (λ s. place_after P s (take i P.program.sections)) here

table_is_at : (P : Laid) (s : ℕ) → table_place P s ≡ origin P s + head_room P.tree s + sum_by (room_in s) P.program.sections
unfolding table_place place_after
table_is_at P s = refl

head_fits : (tree : Tree) (s : ℕ) → has_segtab tree s ≡ true → segtab_length tree ≤ head_room tree s
head_fits tree s has =
    subst (λ n. segtab_length tree ≤ n) (sym (ap (λ b. if b then round8 (segtab_length tree) else 0) has)) (round8-bound (segtab_length tree))

length_segments : (tree : Tree) → length (segments tree) ≡ length tree
unfolding segments
length_segments [] = refl
length_segments (x ∷ older) =
    length-append (segments older) ((length older + 1) ∷ []) ∙ (ap (λ n. n + 1) (length_segments older) ∙ next (length older))
  where
    next : (n : ℕ) → n + 1 ≡ suc n
    next n = omega arith

length_rows : (tree : Tree) (resident : List ℕ) (ss : List ℕ)
    → length (flat_map (λ s. parent_of tree s ∷ region_of tree s ∷ status_of resident s ∷ 0 ∷ []) ss) ≡ 4 * length ss
length_rows tree resident [] = refl
length_rows tree resident (s ∷ ss) = ap (λ n. suc (suc (suc (suc n)))) (length_rows tree resident ss) ∙ more (length ss)
  where
    more : (n : ℕ) → suc (suc (suc (suc (4 * n)))) ≡ 4 * suc n
    more n = omega arith

-- the length of the segment table
pub size_of_segtab : (tree : Tree) (resident : List ℕ) → length (segtab_bytes tree resident) ≡ segtab_length tree
unfolding segtab_bytes
size_of_segtab tree resident =
    ap (λ n. suc (suc (suc (suc (suc (suc (suc (suc n)))))))) (length_rows tree resident (segments tree) ∙ ap (λ n. 4 * n) (length_segments tree))
    ∙ sum (4 * length tree)
  where
    sum : (n : ℕ) → suc (suc (suc (suc (suc (suc (suc (suc n))))))) ≡ 8 + n
    sum n = omega arith

-- ---- one behind the other

-- y stands behind x
record Behind (P : Laid) (x y : Part) : Type 0 where
  pub differ : x ≢ y
  pub behind : part_place P x + length (part_bytes P x) ≤ part_place P y

table_not_section : (i : ℕ) → SegmentTable ≡ OneSection i → ⊥
table_not_section i same = cc

table_not_entries : (s : ℕ) → SegmentTable ≡ EntryTable s → ⊥
table_not_entries s same = cc

section_not_entries : (i s : ℕ) → OneSection i ≡ EntryTable s → ⊥
section_not_entries i s same = cc

sections_differ : (i j : ℕ) → i < j → OneSection i ≡ OneSection j → ⊥
sections_differ i j before same = omega (arith, before, number i j same)
  where
    number : (i j : ℕ) → OneSection i ≡ OneSection j → i ≡ j
    number i j same = cc

sections_behind : (P : Laid) (s i j : ℕ) → i < j → i < length P.program.sections → j < length P.program.sections
    → segment_of_section P.program i ≡ s → segment_of_section P.program j ≡ s → Behind P (OneSection i) (OneSection j)
sections_behind P s i j before first last here there =
    let x : Found P.program.sections i (λ x. Unit {0}) = within P.program.sections i first in
    let y : Found P.program.sections j (λ x. Unit {0}) = within P.program.sections j last in
    record {
      differ = sections_differ i j before;
      behind =
          subst (λ n. place P i + n ≤ place P j) (sym (size_of_section P i ∙ ap (λ o. option_map_or (λ z. z.length) o 0) x.found))
          (sections_are_apart P i j x.item y.item before x.found y.found
          (sym (ap (λ o. option_map_or (λ z. z.segment) o 0) x.found) ∙ (here ∙ (sym there ∙ ap (λ o. option_map_or (λ z. z.segment) o 0) y.found))));
    }

section_behind_table : (P : Laid) (s i : ℕ) → has_segtab P.tree s ≡ true → segment_of_section P.program i ≡ s → Behind P SegmentTable (OneSection i)
section_behind_table P s i has here = record {
  differ = table_not_section i;
  behind =
      after (length (part_bytes P SegmentTable)) (segtab_length P.tree) (origin P s) (head_room P.tree s)
      (sum_by (room_in s) (take i P.program.sections)) (place P i) (size_of_segtab P.tree (1 ∷ [])) (head_fits P.tree s has) (place_is P i s here);
}
  where
    after : (n l o h r p : ℕ) → n ≡ l → l ≤ h → p ≡ o + h + r → 0 + n ≤ p
    after n l o h r p size fits is = omega arith

entries_behind_table : (P : Laid) (s : ℕ) → has_segtab P.tree s ≡ true → Behind P SegmentTable (EntryTable s)
entries_behind_table P s has = record {
  differ = table_not_entries s;
  behind =
      after (length (part_bytes P SegmentTable)) (segtab_length P.tree) (origin P s) (head_room P.tree s)
      (sum_by (room_in s) P.program.sections) (table_place P s) (size_of_segtab P.tree (1 ∷ [])) (head_fits P.tree s has) (table_is_at P s);
}
  where
    after : (n l o h r p : ℕ) → n ≡ l → l ≤ h → p ≡ o + h + r → 0 + n ≤ p
    after n l o h r p size fits is = omega arith

entries_behind_section : (P : Laid) (s i : ℕ) → i < length P.program.sections → segment_of_section P.program i ≡ s
    → Behind P (OneSection i) (EntryTable s)
entries_behind_section P s i inside here =
    let x : Found P.program.sections i (λ x. Unit {0}) = within P.program.sections i inside in
    let more : sum_by (room_in s) (take (i + 1) P.program.sections) ≡ sum_by (room_in s) (take i P.program.sections) + room_in s (get_or P.program.sections i x.item)
    = sum_by_more (room_in s) P.program.sections i x.item inside in
    let within_all : sum_by (room_in s) (take (i + 1) P.program.sections) ≤ sum_by (room_in s) P.program.sections
    = sum_by-take-le (room_in s) P.program.sections (i + 1) in
    record {
      differ = section_not_entries i s;
      behind =
          after (place P i) (length (part_bytes P (OneSection i))) (table_place P s) (origin P s) (head_room P.tree s)
          (sum_by (room_in s) (take i P.program.sections)) (sum_by (room_in s) P.program.sections) (room_in s (get_or P.program.sections i x.item))
          (sum_by (room_in s) (take (i + 1) P.program.sections))
          (place_is P i s here) (table_is_at P s) more within_all (long x);
    }
  where
    after : (p n t o h r all k m : ℕ) → p ≡ o + h + r → t ≡ o + h + all → m ≡ r + k → m ≤ all → n ≤ k → p + n ≤ t
    after p n t o h r all k m is end more reach fits = omega arith

    long : (x : Found P.program.sections i (λ x. Unit {0})) → length (part_bytes P (OneSection i)) ≤ room_in s (get_or P.program.sections i x.item)
    long x =
        let item : get_or P.program.sections i x.item ≡ x.item = get_or_from_slice_get P.program.sections i x.item x.item x.found in
        let size : length (part_bytes P (OneSection i)) ≡ x.item.length = size_of_section P i ∙ ap (λ o. option_map_or (λ z. z.length) o 0) x.found in
        let same : x.item.segment ≡ s = sym (ap (λ o. option_map_or (λ z. z.segment) o 0) x.found) ∙ here in
        let room : room_in s x.item ≡ round8 x.item.length = ap (λ k. if k == s then round8 x.item.length else 0) same ∙ if_same s (round8 x.item.length) 0 in
        subst (λ n. length (part_bytes P (OneSection i)) ≤ n) (sym (ap (room_in s) item ∙ room))
        (subst (λ n. n ≤ round8 x.item.length) (sym size) (round8-bound x.item.length))

parts_behind : (P : Laid) (s : ℕ) → Pairs (Behind P) (parts_in P s)
parts_behind P s =
    pairs_append (Behind P) (first ++ middle) last
    (pairs_append (Behind P) first middle
    (cond_both (has_segtab P.tree s) (SegmentTable ∷ []) [] (Pairs (Behind P)) (λ has. (tt, tt)) (λ none. tt))
    (pairs_map (Behind P) (λ i. OneSection i) (sections_in P.program s)
    (pairs_filter (λ i j. Behind P (OneSection i) (OneSection j)) (λ i. segment_of_section P.program i == s) (range_with_len 0 (length P.program.sections))
    (pairs_of_places _ 0 (length P.program.sections)
    (λ i j low before high here there.
    sections_behind P s i j before (omega (arith, before, high)) (omega (arith, high)) (eqb-true _ s here) (eqb-true _ s there)))))
    (cond_both (has_segtab P.tree s) (SegmentTable ∷ []) [] (Each (λ x. Each (Behind P x) middle))
    (λ has. (sections (Behind P SegmentTable) (λ i inside here. section_behind_table P s i has here), tt)) (λ none. tt)))
    (cond_both (entry_count P s == 0) [] (EntryTable s ∷ []) (Pairs (Behind P)) (λ none. tt) (λ some. (tt, tt)))
    (each_append (λ x. Each (Behind P x) last) first middle
    (cond_both (has_segtab P.tree s) (SegmentTable ∷ []) [] (Each (λ x. Each (Behind P x) last))
    (λ has. (before_last SegmentTable (entries_behind_table P s has), tt)) (λ none. tt))
    (sections (λ x. Each (Behind P x) last) (λ i inside here. before_last (OneSection i) (entries_behind_section P s i inside here))))
  where
    first : List Part
    first = if has_segtab P.tree s then SegmentTable ∷ [] else []

    middle : List Part
    middle = map (λ i. OneSection i) (sections_in P.program s)

    last : List Part
    last = if entry_count P s == 0 then [] else EntryTable s ∷ []

    sections : (R : Part → Type 0) → ((i : ℕ) → i < length P.program.sections → segment_of_section P.program i ≡ s → R (OneSection i)) → Each R middle
    sections R holds =
        each_map R (λ i. OneSection i) (sections_in P.program s)
        (each_filter (λ i. R (OneSection i)) (λ i. segment_of_section P.program i == s) (range_with_len 0 (length P.program.sections))
        (each_place _ 0 (length P.program.sections) (λ i low high here. holds i (omega (arith, high)) (eqb-true _ s here))))

    before_last : (x : Part) → Behind P x (EntryTable s) → Each (Behind P x) last
    before_last x behind = cond_both (entry_count P s == 0) [] (EntryTable s ∷ []) (Each (Behind P x)) (λ none. tt) (λ some. (behind, tt))

-- ---- in one block

table_among : (P : Laid) (s : ℕ) → has_segtab P.tree s ≡ true → Among SegmentTable (parts_in P s)
table_among P s has =
    among_front SegmentTable ((if has_segtab P.tree s then SegmentTable ∷ [] else []) ++ map (λ i. OneSection i) (sections_in P.program s))
    (if entry_count P s == 0 then [] else EntryTable s ∷ [])
    (among_front SegmentTable (if has_segtab P.tree s then SegmentTable ∷ [] else []) (map (λ i. OneSection i) (sections_in P.program s))
    (subst (λ b. Among SegmentTable (if b then SegmentTable ∷ [] else [])) (sym has) (inl refl)))

entries_among : (P : Laid) (s : ℕ) → 0 < entry_count P s → Among (EntryTable s) (parts_in P s)
entries_among P s some =
    among_behind (EntryTable s) ((if has_segtab P.tree s then SegmentTable ∷ [] else []) ++ map (λ i. OneSection i) (sections_in P.program s))
    (if entry_count P s == 0 then [] else EntryTable s ∷ [])
    (subst (λ b. Among (EntryTable s) (if b then [] else EntryTable s ∷ [])) (sym (ne_eqb (entry_count P s) 0 (λ none. omega (arith, none, some)))) (inl refl))

-- a part stands at its place from the origin on
pub at_place : (P : Laid) (at : ℕ) (symbols : List SymbolItem) (x : Part) → symbols ≡ symbols_written P → Among x (parts P)
    → in_block symbols at (part_number P x) ≡ at + part_place P x
at_place P at symbols x is among =
    ap (λ symbols. at + address_in_module symbols (part_number P x)) is ∙ ap (λ n. at + n) (address_of_part P x among)

block_agrees : (P : Laid) (at : ℕ) (symbols : List SymbolItem) → IsLinkable P → symbols ≡ symbols_written P → Agree P (in_block symbols at) (block P at)
block_agrees P at symbols link is = record {
  section = λ i inside. at_place P at symbols (OneSection i) is (section_is_part P i link inside);
  called = λ i j b y inside symbol defined away. moved at (table_place P b) (place P j);
}
  where
    moved : (a t p : ℕ) → a + t + p ≡ t + (a + p)
    moved a t p = omega arith

pub block_fits : (P : Laid) (at s : ℕ) (symbols : List SymbolItem) → IsLinkable P → 1 ≤ s → s ≤ length P.tree → symbols ≡ symbols_written P
    → Fits P (in_block symbols at) (block P at) s
block_fits P at s symbols link first last is = record {
  agree = block_agrees P at symbols link is;
  segment_table = λ has. at_place P at symbols SegmentTable is (among_parts_in P s SegmentTable first last (table_among P s has)) ∙ add-zero at;
  table = λ some. at_place P at symbols (EntryTable s) is (among_parts_in P s (EntryTable s) first last (entries_among P s some));
  apart =
      pairs_weaker (λ x y. Among x (parts_in P s) × Among y (parts_in P s) × Behind P x y) (Apart P (in_block symbols at)) (parts_in P s)
      (λ x y all. record { differ = all.2.differ; apart = inl (moved x y all.0 all.1 all.2.behind) })
      (pairs_of_each (Behind P) (λ x. Among x (parts_in P s)) (parts_in P s) (parts_behind P s) (each_among (parts_in P s)));
}
  where
    further : (a p n r b c : ℕ) → b ≡ a + p → c ≡ a + r → p + n ≤ r → b + n ≤ c
    further a p n r b c first last behind = omega arith

    moved : (x y : Part) → Among x (parts_in P s) → Among y (parts_in P s) → part_place P x + length (part_bytes P x) ≤ part_place P y
        → now_at P (in_block symbols at) x + length (part_bytes P x) ≤ now_at P (in_block symbols at) y
    moved x y one other behind =
        further at (part_place P x) (length (part_bytes P x)) (part_place P y) (now_at P (in_block symbols at) x) (now_at P (in_block symbols at) y)
        (at_place P at symbols x is (among_parts_in P s x first last one)) (at_place P at symbols y is (among_parts_in P s y first last other)) behind

pub segments_load_linked : SegmentsLoadLinked
segments_load_linked P n s at F link some first last holds a =
    segment_loads P n s F (in_block F.symbols at) (block P at) a link some first last holds
    (block_fits P at s F.symbols link first last holds.symbols)
