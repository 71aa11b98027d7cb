-- The parts of a segment stand in it, and so in the module.
use Rattle.std.proofs.Common.{◌≡◌, ℕ, zero, suc, ◌+◌, ◌*◌, ◌<◌, ◌≤◌, max, Bool, true, false, ◌&&◌, ◌||◌, ◌==◌, if◌then◌else◌, List, [], ◌∷◌, ◌++◌, map, filter, length, replicate, Option, Some, None, slice_get, refl, sym, ap, subst, ◌∙◌, inl, inr, arith}
use Rattle.std.specs.Prelude.{IsSomeAnd, All}
use Rattle.std.specs.Option.{option_map_or}
use Rattle.std.proofs.lemmas.Bool.{eqb-true, eqb-false, and_parts}
use Rattle.std.proofs.lemmas.Bool.Decides.{eqb_tells}
use Rattle.std.proofs.lemmas.List.{length-append, length-map}
use Rattle.std.proofs.lemmas.List.Concat.{length-flat_map}
use Rattle.std.proofs.lemmas.List.FromFn.{length-map-range_with_len, length-enumerate_from}
use Rattle.std.proofs.lemmas.List.Sums.{sum_by-cons, sum_by-append}
use Rattle.std.specs.List.{AllByRecursion, range_with_len, enumerate_from, flat_map, sum_by}
use Rattle.sym_mod.specs.declared.program.Section.{Section}
use Rattle.sym_mod.specs.declared.program.Target.{Target}
use Rattle.linking_model.specs.Numbers.{greatest, extent}
use Rattle.linking_model.specs.Tree.{Tree, segments, parent_of, region_of, is_in}
use Rattle.linking_model.specs.Places.{Laid, is_overlay, has_segtab, segtab_length, entab_length, entry_count, entries_of, origin, size, end_of, module_length, place, table_place, segment_of_section, length_of_section, section_lengths, table_lengths}
use Rattle.linking_model.specs.Tables.{segment_of}
use Rattle.linking_model.specs.Linked.{block, linked_byte, address_of}
use Rattle.linking_model.specs.TableBytes.{status_of, segtab_bytes, entab_bytes, entry_bytes}
use Rattle.linking_model.specs.Run.{sections_in}
use Rattle.linking_model.specs.Laws.{LiesInSegment}
use Rattle.linking_model.proofs.Extents.{sections_lie_in_segments, tables_end_segments}
use Rattle.linking_model.proofs.Origins.{is_in-segments}
use Rattle.linking_model.proofs.Trees.{greatest-cons}
use Rattle.member_model.specs.Parts.{Part, SegmentTable, OneSection, EntryTable, parts_in, part_place, part_segment, part_length, part_bytes}
use Rattle.member_laws.proofs.Lists.{each-append, each-map, each-weaker, each-passes, each-filter}

-- ---- which parts a segment has

-- section i stands in segment s
pub record StandsIn (P : Laid) (s i : ℕ) : Type 0 where
  pub section : Section
  pub there : slice_get P.program.sections i ≡ Some section
  pub here : section.segment ≡ s

-- the part is one of segment s
abbrev pub IsPartOf : Laid → ℕ → Part → Type 0
IsPartOf P s SegmentTable = has_segtab P.tree s ≡ true
IsPartOf P s (OneSection i) = StandsIn P s i
IsPartOf P s (EntryTable t) = (t ≡ s) × (0 < entry_count P s)

-- the numbers of a range are within it
range-within : (a n : ℕ) → AllByRecursion (λ i. i < a + n) (range_with_len a n)
range-within a zero = tt
range-within a (suc n) = (omega arith, each-weaker (λ i. i < a + 1 + n) (λ i. i < a + suc n) (λ i low. omega arith) (range_with_len (a + 1) n) (range-within (a + 1) n))

from_range : (sections : List Section) (i s : ℕ) → i < length sections → (option_map_or (λ x. x.segment) (slice_get sections i) 0 == s) ≡ true → (x : Section) × (slice_get sections i ≡ Some x) × (x.segment ≡ s)
from_range [] i s low here = absurd (omega arith)
from_range (x ∷ xs) zero s low here = (x, refl, eqb-true x.segment s here)
from_range (x ∷ xs) (suc i) s low here = from_range xs i s (omega arith) here

both : {X : Type 0} (P Q R : X → Type 0) → ((x : X) → P x → Q x → R x) → (xs : List X) → AllByRecursion P xs → AllByRecursion Q xs → AllByRecursion R xs
both P Q R joined [] a b = tt
both P Q R joined (x ∷ xs) a b = (joined x a.0 b.0, both P Q R joined xs a.1 b.1)

sections-stand : (P : Laid) (s : ℕ) → AllByRecursion (StandsIn P s) (sections_in P.program s)
sections-stand P s =
    let test : ℕ → Bool = λ i. segment_of_section P.program i == s in
    both (λ i. i < 0 + length P.program.sections) (λ i. test i ≡ true) (StandsIn P s)
    (λ i low here. let found = from_range P.program.sections i s (omega arith) here in record { section = found.0; there = found.1; here = found.2 })
    (sections_in P.program s)
    (each-filter (λ i. i < 0 + length P.program.sections) test (range_with_len 0 (length P.program.sections)) (range-within 0 (length P.program.sections)))
    (each-passes test (range_with_len 0 (length P.program.sections)))

pub parts-stand : (P : Laid) (s : ℕ) → AllByRecursion (IsPartOf P s) (parts_in P s)
parts-stand P s =
    each-append (IsPartOf P s) _ (if entry_count P s == 0 then [] else EntryTable s ∷ [])
    (each-append (IsPartOf P s) (if has_segtab P.tree s then SegmentTable ∷ [] else []) (map (λ i. OneSection i) (sections_in P.program s))
    (head (has_segtab P.tree s) refl) (each-map (IsPartOf P s) (λ i. OneSection i) (sections_in P.program s) (sections-stand P s)))
    (table (entry_count P s == 0) refl)
  where
    head : (b : Bool) → has_segtab P.tree s ≡ b → AllByRecursion (IsPartOf P s) (if b then SegmentTable ∷ [] else [])
    head true e = (e, tt)
    head false e = tt

    table : (b : Bool) → (entry_count P s == 0) ≡ b → AllByRecursion (IsPartOf P s) (if b then [] else EntryTable s ∷ [])
    table true e = tt
    table false e = ((refl, above (entry_count P s) e), tt)
      where
        above : (n : ℕ) → (n == 0) ≡ false → 0 < n
        above zero e = absurd cc
        above (suc n) e = omega arith

-- ---- where they stand

pub greatest-at : (f : ℕ → ℕ) (xs : List ℕ) (s : ℕ) → is_in s xs ≡ true → f s ≤ greatest (map f xs)
greatest-at f [] s there = cc
greatest-at f (x ∷ xs) s there =
    let e : greatest (map f (x ∷ xs)) ≡ max (f x) (greatest (map f xs)) = greatest-cons (f x) (map f xs) in
    elim (eqb_tells x s) as (λ _. f s ≤ greatest (map f (x ∷ xs))) [
      | inl w ↦ let same : f x ≡ f s = ap f w.1 in omega arith
      | inr w ↦ let rest : f s ≤ greatest (map f xs) = greatest-at f xs s (sym (ap (λ b. b || is_in s xs) w.0) ∙ there) in omega arith
    ]

pub segments-end : (P : Laid) (s : ℕ) → 1 ≤ s → s ≤ length P.tree → end_of P s ≤ module_length P
segments-end P s low high = greatest-at (end_of P) (segments P.tree) s (is_in-segments P.tree s low high)

extent-first : (n : ℕ) (after : List ℕ) → n ≤ extent (n ∷ after)
extent-first n [] = omega arith
extent-first n (m ∷ after) = omega arith

size-with : (b : Bool) (n : ℕ) (sections tables : List ℕ) → b ≡ true → n ≤ extent ((if b then n ∷ [] else []) ++ sections ++ tables)
size-with true n sections tables e = extent-first n (sections ++ tables)
size-with false n sections tables e = absurd cc

-- the segment table is within the segment that has it
head-within : (P : Laid) (s : ℕ) → has_segtab P.tree s ≡ true → segtab_length P.tree ≤ size P s
unfolding size
head-within P s has =
    size-with (has_segtab P.tree s) (segtab_length P.tree) (section_lengths P.program.sections s) (table_lengths (entry_count P s)) has

-- ---- the bytes of tables

flat-size : {X : Type 0} (f : X → List ℕ) (n : ℕ) (xs : List X) → ((x : X) → length (f x) ≡ n) → length (flat_map f xs) ≡ n * length xs
flat-size f n [] same = sym (none n)
  where
    none : (n : ℕ) → n * 0 ≡ 0
    none n = grind arith
flat-size f n (x ∷ xs) same =
    length-append (f x) (flat_map f xs) ∙ total (length (f x)) (length (flat_map f xs)) n (length xs) (n * suc (length xs)) (same x) (flat-size f n xs same) (more n (length xs))
  where
    more : (n k : ℕ) → n * suc k ≡ n * k + n
    more n k = grind arith

    total : (a b n k l : ℕ) → a ≡ n → b ≡ n * k → l ≡ n * k + n → a + b ≡ l
    total a b n k l p q r = omega arith

pub segments-length : (tree : Tree) → length (segments tree) ≡ length tree
unfolding segments
segments-length [] = refl
segments-length (x ∷ older) =
    let e : length (segments older ++ (length older + 1) ∷ []) ≡ length (segments older) + 1 = length-append (segments older) ((length older + 1) ∷ []) in
    let f : length (segments older) ≡ length older = segments-length older in
    e ∙ omega arith

segtab-bytes : (tree : Tree) (resident : List ℕ) → length (segtab_bytes tree resident) ≡ segtab_length tree
unfolding segtab_bytes
segtab-bytes tree resident =
    eight _ (length (segments tree)) (length tree) (flat-size (λ s. parent_of tree s ∷ region_of tree s ∷ status_of resident s ∷ 0 ∷ []) 4 (segments tree) (λ s. refl)) (segments-length tree)
  where
    eight : (a b c : ℕ) → a ≡ 4 * b → b ≡ c → suc (suc (suc (suc (suc (suc (suc (suc a))))))) ≡ 8 + 4 * c
    eight a b c p q = omega arith

entab-bytes : (P : Laid) (address : Target → ℕ) (s : ℕ) → length (entab_bytes P address s) ≡ entab_length (entry_count P s)
unfolding entab_bytes
entab-bytes P address s =
    let entry : ℕ × Target → List ℕ = λ (i, y). entry_bytes (entry_count P s) i (address y) (segment_of P.program y) s in
    let entries = flat_map entry (enumerate_from 0 (entries_of P s)) in
    twelve (length (entries ++ (10 ∷ 45 ∷ 0 ∷ 0 ∷ []))) (length entries) (length (enumerate_from 0 (entries_of P s))) (entry_count P s) (length-append entries (10 ∷ 45 ∷ 0 ∷ 0 ∷ []))
    (flat-size entry 12 (enumerate_from 0 (entries_of P s)) (λ x. refl)) (length-enumerate_from 0 (entries_of P s))
  where
    twelve : (all a b c : ℕ) → all ≡ a + 4 → a ≡ 12 * b → b ≡ c → suc (suc (suc (suc (suc (suc (suc (suc all))))))) ≡ 12 * c + 12
    twelve all a b c o p q = omega arith

-- ---- parts

-- a part, which ends with its segment or before
pub record StandsWell (P : Laid) (s : ℕ) (x : Part) : Type 0 where
  pub segment : part_segment P x ≡ s
  pub ends : part_place P x + part_length P x ≤ end_of P s
  pub bytes : length (part_bytes P x) ≡ part_length P x

pub segment-at : (P : Laid) (i : ℕ) (x : Section) → slice_get P.program.sections i ≡ Some x → segment_of_section P.program i ≡ x.segment
segment-at P i x there = ap (λ o. option_map_or (λ (y : Section). y.segment) o 0) there

pub length-at : (P : Laid) (i : ℕ) (x : Section) → slice_get P.program.sections i ≡ Some x → length_of_section P.program i ≡ x.length
length-at P i x there = ap (λ o. option_map_or (λ (y : Section). y.length) o 0) there

pub stands_well : (P : Laid) (s : ℕ) (x : Part) → 1 ≤ s → IsPartOf P s x → StandsWell P s x
stands_well P s SegmentTable low is =
    let root : s ≡ 1 = eqb-true s 1 (and_parts (is_overlay P.tree) (s == 1) is).1 in
    let within : segtab_length P.tree ≤ size P s = head-within P s is in
    record { segment = sym root; ends = omega arith; bytes = segtab-bytes P.tree (1 ∷ []) }
stands_well P s (OneSection i) low is =
    let lies : LiesInSegment P i is.section = sections_lie_in_segments P i is.section is.there in
    let len : length_of_section P.program i ≡ is.section.length = length-at P i is.section is.there in
    let end : place P i + is.section.length ≤ end_of P is.section.segment = lies.ends in
    record {
      segment = segment-at P i is.section is.there ∙ is.here;
      ends = rw len (subst (λ t. place P i + is.section.length ≤ end_of P t) is.here end);
      bytes = length-map-range_with_len (linked_byte P (block P 0) i) 0 (length_of_section P.program i);
    }
stands_well P s (EntryTable t) low is =
    let ends : table_place P s + entab_length (entry_count P s) ≡ end_of P s = tables_end_segments P s is.1 in
    record {
      segment = is.0;
      ends = rw (is.0) (omega arith);
      bytes = entab-bytes P (address_of P.program (block P 0)) t;
    }
