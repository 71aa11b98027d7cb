-- Each part has its number, by its place among all parts.
use Rattle.std.proofs.Common.{◌≡◌, ℕ, zero, suc, ◌+◌, ◌<◌, ◌≤◌, ◌^◌, Bool, true, false, ◌&&◌, ◌==◌, if◌then◌else◌, List, [], ◌∷◌, ◌++◌, map, length, Option, Some, None, option_map, slice_get, position, inl, inr, zero-add, add-zero, refl, sym, ap, subst, ◌∙◌, arith}
use Rattle.std.specs.Prelude.{unwrap_or}
use Rattle.std.proofs.lemmas.Bool.{eqb-true, eq-eqb, ne_eqb}
use Rattle.std.proofs.lemmas.Iterator.Adapters.{position_from-zero}
use Rattle.std.proofs.lemmas.Option.{slice_get_within}
use Rattle.std.specs.List.{range_with_len, position_from}
use Rattle.sym_mod.specs.declared.program.Section.{Section}
use Rattle.linking_model.specs.Tree.{Tree, segments}
use Rattle.linking_model.specs.Places.{Laid, has_segtab, entry_count, segment_of_section}
use Rattle.linking_model.specs.Run.{sections_in}
use Rattle.member_model.specs.Parts.{Part, SegmentTable, OneSection, EntryTable, parts, parts_in, part_eq, part_number}
use Rattle.member_model.specs.SymbolList.{symbols_written}
use Rattle.member_laws.specs.Linkable.{IsLinkable, StandsInTree}
use Rattle.member_laws.proofs.Counts.{symbols_few, parts-within}
use Rattle.member_laws.proofs.Membership.{Has, has-each, has-all, has-left, has-right, has-map, has-flat_map, from-flat_map, has-filter, has-range, from-range, has-at, get-within, found_from}
use Rattle.member_laws.proofs.Standing.{StandsIn, IsPartOf, parts-stand, segment-at}

-- ---- segments

range-more : (a n : ℕ) → range_with_len a (suc n) ≡ range_with_len a n ++ (a + n) ∷ []
range-more a zero = ap (λ k. k ∷ []) (sym (add-zero a))
range-more a (suc n) = ap (λ l. a ∷ l) (range-more (a + 1) n ∙ ap (λ k. range_with_len (a + 1) n ++ k ∷ []) (moved a n))
  where
    moved : (a n : ℕ) → a + 1 + n ≡ a + suc n
    moved a n = omega arith

pub segments-range : (tree : Tree) → segments tree ≡ range_with_len 1 (length tree)
unfolding segments
segments-range [] = refl
segments-range (x ∷ older) =
    ap (λ l. l ++ (length older + 1) ∷ []) (segments-range older)
    ∙ ap (λ k. range_with_len 1 (length older) ++ k ∷ []) (other (length older)) ∙ sym (range-more 1 (length older))
  where
    other : (n : ℕ) → n + 1 ≡ 1 + n
    other n = omega arith

pub has-segment : (tree : Tree) (s : ℕ) → 1 ≤ s → s ≤ length tree → Has (segments tree) s
has-segment tree s low high = rw (segments-range tree) (has-range 1 (length tree) s low (omega arith))

pub from-segment : (tree : Tree) (s : ℕ) → Has (segments tree) s → (1 ≤ s) × (s ≤ length tree)
from-segment tree s there =
    let r = from-range 1 (length tree) s (subst (λ l. Has l s) (segments-range tree) there) in (r.0, omega arith)

-- ---- parts

-- a part of the program, with its segment
pub record IsPart (P : Laid) (x : Part) : Type 0 where
  pub in_segment : ℕ
  pub low : 1 ≤ in_segment
  pub high : in_segment ≤ length P.tree
  pub is : IsPartOf P in_segment x

has-part-in : (P : Laid) (s : ℕ) (x : Part) → IsPartOf P s x → Has (parts_in P s) x
has-part-in P s SegmentTable is =
    has-left _ (if entry_count P s == 0 then [] else EntryTable s ∷ []) SegmentTable
    (has-left (if has_segtab P.tree s then SegmentTable ∷ [] else []) (map (λ i. OneSection i) (sections_in P.program s)) SegmentTable
    (subst (λ b. Has (if b then SegmentTable ∷ [] else []) SegmentTable) (sym is) (inl refl)))
has-part-in P s (OneSection i) is =
    has-left _ (if entry_count P s == 0 then [] else EntryTable s ∷ []) (OneSection i)
    (has-right (if has_segtab P.tree s then SegmentTable ∷ [] else []) (map (λ j. OneSection j) (sections_in P.program s)) (OneSection i)
    (has-map (λ j. OneSection j) (sections_in P.program s) i
    (has-filter (λ j. segment_of_section P.program j == s) (range_with_len 0 (length P.program.sections)) i
    (has-range 0 (length P.program.sections) i (omega arith) (let low = slice_get_within P.program.sections i is.section is.there in omega arith))
    (eq-eqb (segment_of_section P.program i) s (segment-at P i is.section is.there ∙ is.here)))))
has-part-in P s (EntryTable t) is =
    has-right _ (if entry_count P s == 0 then [] else EntryTable s ∷ []) (EntryTable t)
    (subst (λ b. Has (if b then [] else EntryTable s ∷ []) (EntryTable t)) (sym (ne_eqb (entry_count P s) 0 (let some : 0 < entry_count P s = is.1 in omega arith))) (inl (ap EntryTable (sym (is.0)))))

pub has-part : (P : Laid) (x : Part) → IsPart P x → Has (parts P) x
has-part P x is = has-flat_map (parts_in P) (segments P.tree) is.in_segment x (has-segment P.tree is.in_segment is.low is.high) (has-part-in P is.in_segment x is.is)

pub from-part : (P : Laid) (x : Part) → Has (parts P) x → IsPart P x
from-part P x there =
    let found = from-flat_map (parts_in P) (segments P.tree) x there in
    let within = from-segment P.tree found.source found.there in
    record { in_segment = found.source; low = within.0; high = within.1; is = has-each (IsPartOf P found.source) (parts_in P found.source) x (parts-stand P found.source) found.within }

-- a section of the program is a part
pub section-part : (P : Laid) (i : ℕ) (x : Section) → IsLinkable P → slice_get P.program.sections i ≡ Some x → IsPart P (OneSection i)
section-part P i x links there =
    let in_tree : StandsInTree P.tree x = has-all (StandsInTree P.tree) P.program.sections x links.in_tree (has-at P.program.sections i x there) in
    record { in_segment = x.segment; low = in_tree.first; high = in_tree.last; is = record { section = x; there = there; here = refl } }

-- ---- numbers

pub part-same : (x y : Part) → part_eq x y ≡ true → x ≡ y
part-same SegmentTable SegmentTable e = refl
part-same SegmentTable (OneSection j) e = absurd cc
part-same SegmentTable (EntryTable t) e = absurd cc
part-same (OneSection i) SegmentTable e = absurd cc
part-same (OneSection i) (OneSection j) e = ap OneSection (eqb-true i j e)
part-same (OneSection i) (EntryTable t) e = absurd cc
part-same (EntryTable s) SegmentTable e = absurd cc
part-same (EntryTable s) (OneSection j) e = absurd cc
part-same (EntryTable s) (EntryTable t) e = ap EntryTable (eqb-true s t e)

pub part-eq-itself : (x : Part) → part_eq x x ≡ true
part-eq-itself SegmentTable = refl
part-eq-itself (OneSection i) = eq-eqb i i refl
part-eq-itself (EntryTable s) = eq-eqb s s refl

-- the part stands at the place that its number tells
pub record IsNumbered (P : Laid) (x : Part) : Type 0 where
  pub place : ℕ
  pub there : slice_get (parts P) place ≡ Some x
  pub number : part_number P x ≡ place + 1

pub is-numbered : (P : Laid) (x : Part) → IsPart P x → IsNumbered P x
is-numbered P x is =
    let found = found_from (part_eq x) 0 (parts P) x (has-part P x is) (part-eq-itself x) in
    let same : x ≡ found.item = part-same x found.item found.passes in
    record {
      place = found.place;
      there = found.there ∙ ap Some (sym same);
      number =
          ap (λ o. unwrap_or (option_map (λ k. k + 1) o) 0) (position_from-zero (part_eq x) (parts P) ∙ found.is)
          ∙ ap (λ k. k + 1) (zero-add found.place);
    }

-- numbers of parts are from 1 to their count
pub number-within : (P : Laid) (x : Part) → IsPart P x → (1 ≤ part_number P x) × (part_number P x ≤ length (parts P))
number-within P x is =
    let numbered = is-numbered P x is in
    let number : part_number P x ≡ numbered.place + 1 = numbered.number in
    let low : numbered.place < length (parts P) = slice_get_within (parts P) numbered.place x numbered.there in
    (omega arith, omega arith)

-- and have two bytes
pub number_fits : (P : Laid) (x : Part) → IsLinkable P → IsPart P x → part_number P x < 2 ^ 16
number_fits P x links is =
    let within = number-within P x is in
    let all : length (parts P) ≤ length (symbols_written P) = parts-within P in
    let few : length (symbols_written P) ≤ 32767 = symbols_few P links in
    let most : part_number P x ≤ length (parts P) = within.1 in
    omega arith
