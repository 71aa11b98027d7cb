-- A store touches a constant by the relocation items of a member where it does by the constants of the program.
use Rattle.std.proofs.Common.{◌≡◌, ◌⊎◌, inl, inr, ℕ, ◌+◌, ◌<◌, ◌≤◌, Bool, true, false, ◌&&◌, ◌==◌, if◌then◌else◌, List, [], ◌∷◌, filter, find, flat_map, length, Option, Some, None, is_some, refl, sym, ◌∙◌, subst, arith}
use Rattle.std.specs.Prelude.{nat_lt, nat_le}
use Rattle.std.specs.List.{AllByRecursion as Each, list_any, range_with_len}
use Rattle.std.proofs.lemmas.Bool.{cases_lt, false≢true, eqb-true, eq-eqb, and_parts, and_from, lt-ltb, ltb-true, le-leb, leb-true}
use Rattle.sym_mod.specs.declared.program.Constant.{Constant}
use Rattle.load_recs.specs.declared.items.RldItem.{RldItem}
use Rattle.linking_model.specs.Numbers.{is_among}
use Rattle.linking_model.specs.Places.{Laid, place, segment_of_section, length_of_section}
use Rattle.linking_model.specs.Linked.{covers, constant_at}
use Rattle.linking_model.specs.Run.{is_touched as is_touched_by_symbols}
use Rattle.member_model.specs.Symbols.{field_length}
use Rattle.member_model.specs.Facts.{Field}
use Rattle.member_model.specs.Parts.{Part, OneSection, parts_in, part_number}
use Rattle.member_model.specs.ByteRun.{is_touched}
use Rattle.member_laws.specs.Linkable.{IsLinkable}
use Rattle.member_laws.specs.Gathered.{items_of, fields_in}
use Rattle.member_laws.proofs.Apart.{items-fit}
use Rattle.member_laws.proofs.Clear.{strip}
use Rattle.member_laws.proofs.LoadingLists.{Among, at_one, each_weaker, each_both, each_map, each_flat_map, among_map, among_flat, found_among, found_passes}
use Rattle.member_laws.proofs.LoadingSections.{lies_there}
use Rattle.member_laws.proofs.LoadingSegment.{each_among}
use Rattle.member_laws.proofs.LoadingSymbols.{numbers_differ}
use Rattle.member_laws.proofs.LoadingTargets.{among_parts_in, section_among, section_is_part}
use Rattle.member_laws.proofs.Numbered.{IsPart}
use Rattle.member_laws.proofs.PartItems.{FitsPart}
use Rattle.member_laws.proofs.Standing.{IsPartOf, parts-stand}
use Rattle.run_laws.specs.Fields.{IsWritten, HoldsFields, spot_at, StoresTouchAlike}
use Rattle.run_laws.proofs.ItemsOfConstants.{Passing, any_passes, any_among, found_some, IsOfConstant, sound_at, written_items_of, is_placed, item_there}
use Rattle.run_laws.proofs.NotesRight.{range_each}
use Rattle.run_laws.proofs.TreesStart.{some_of_range}

-- ---- the constant of an item

-- by its section's number, an item of any part is one of a constant of that section
abbrev IsTold : Laid → ℕ → RldItem → Type 0
IsTold P i z = z.p ≡ part_number P (OneSection i) → IsOfConstant P i z

told_in_part : (P : Laid) (n i s : ℕ) (x : Part) → IsLinkable P → i < length P.program.sections → 1 ≤ s → s ≤ length P.tree → Among x (parts_in P s)
    → Each (IsTold P i) (items_of P n x)
told_in_part P n i s x link inside low high among =
    each_weaker (λ z. Among z (items_of P n x) × FitsPart P x (strip z)) (IsTold P i) (items_of P n x)
    (λ z both same.
    at_one (IsOfConstant P i) z (items_of P n (OneSection i)) (written_items_of P n i link inside)
    (subst (λ y. Among z (items_of P n y))
    (numbers_differ P x (OneSection i) (among_parts_in P s x low high among) (section_is_part P i link inside) (sym both.1.number ∙ same)) both.0))
    (each_both (λ z. Among z (items_of P n x)) (λ z. FitsPart P x (strip z)) (items_of P n x) (each_among (items_of P n x)) (items-fit P n x link part))
  where
    part : IsPart P x
    part = record { in_segment = s; low = low; high = high; is = at_one (IsPartOf P s) x (parts_in P s) (parts-stand P s) among }

pub told_by_field : (P : Laid) (n i : ℕ) (f : Field) → IsLinkable P → i < length P.program.sections → IsWritten P n f
    → f.item.p ≡ part_number P (OneSection i) → IsOfConstant P i f.item
told_by_field P n i f link inside written =
    at_one (λ (g : Field). IsTold P i g.item) f (fields_in P n f.segment)
    (each_map (λ (g : Field). IsTold P i g.item) (λ x. record { segment = f.segment; item = x }) (flat_map (items_of P n) (parts_in P f.segment))
    (each_flat_map (IsTold P i) (items_of P n) (parts_in P f.segment)
    (each_weaker (λ x. Among x (parts_in P f.segment)) _ (parts_in P f.segment)
    (λ x among. told_in_part P n i f.segment x link inside written.0 written.1 among) (each_among (parts_in P f.segment))))) written.2

-- ---- the item of a constant

among_of_filter : {X : Type 0} (test : X → Bool) (x : X) (xs : List X) → Among x (filter test xs) → Among x xs
among_of_filter test x [] among = among
among_of_filter {X = X} test x (y ∷ ys) among = by_test (test y) among (λ rest. among_of_filter test x ys rest)
  where
    by_test : (b : Bool) → Among x (if b then y ∷ filter test ys else filter test ys) → (Among x (filter test ys) → Among x ys) → Among x (y ∷ ys)
    by_test true (inl same) later = inl same
    by_test true (inr rest) later = inr (later rest)
    by_test false rest later = inr (later rest)

pub field_there : (P : Laid) (n i : ℕ) (fields : List Field) (z : RldItem) → i < length P.program.sections → HoldsFields P n (segment_of_section P.program i) fields
    → Among z (items_of P n (OneSection i)) → Among (record { segment = segment_of_section P.program i; item = z }) fields
field_there P n i fields z inside holds among =
    among_of_filter (λ (f : Field). f.segment == segment_of_section P.program i) _ fields
    (subst (Among (record { segment = segment_of_section P.program i; item = z })) (sym holds.own)
    (among_map (λ x. record { segment = segment_of_section P.program i; item = x }) z (flat_map (items_of P n) (parts_in P (segment_of_section P.program i)))
    (among_flat (items_of P n) (OneSection i) z (parts_in P (segment_of_section P.program i)) (section_among P i (segment_of_section P.program i) inside refl) among)))

-- ---- both ways

pub same_truth : (a b : Bool) → (a ≡ true → b ≡ true) → (b ≡ true → a ≡ true) → a ≡ b
same_truth true b one other = sym (one refl)
same_truth false true one other = other refl
same_truth false false one other = refl

pub there_at : (constants : List Constant) (i k : ℕ) (c : Constant) → Among c constants → c.section ≡ i → c.offset ≤ k → k < c.offset + c.length
    → is_some (constant_at constants i k) ≡ true
unfolding constant_at
there_at constants i k c among here low high =
    found_some (covers i k) c constants among
    (and_from (c.section == i) (is_among c.offset c.length k) (eq-eqb c.section i here)
    (and_from (nat_le c.offset k) (nat_lt k (c.offset + c.length)) (le-leb c.offset k low) (lt-ltb k (c.offset + c.length) high)))

-- the constant in which a byte lies
pub record LiesIn (constants : List Constant) (i k : ℕ) : Type 0 where
  pub constant : Constant
  pub among : Among constant constants
  pub section : constant.section ≡ i
  pub from : constant.offset ≤ k
  pub to : k < constant.offset + constant.length

pub lies_in : (constants : List Constant) (i k : ℕ) → is_some (constant_at constants i k) ≡ true → LiesIn constants i k
unfolding constant_at
lies_in constants i k some = by_cases (find (covers i k) constants) refl some
  where
    by_cases : (o : Option Constant) → find (covers i k) constants ≡ o → is_some o ≡ true → LiesIn constants i k
    by_cases None none some = absurd (false≢true some)
    by_cases (Some c) found some =
        let both = and_parts (c.section == i) (is_among c.offset c.length k) (found_passes (covers i k) c constants found) in
        let bounds = and_parts (nat_le c.offset k) (nat_lt k (c.offset + c.length)) both.1 in
        record {
          constant = c;
          among = found_among (covers i k) c constants found;
          section = eqb-true c.section i both.0;
          from = leb-true c.offset k bounds.0;
          to = ltb-true k (c.offset + c.length) bounds.1;
        }

-- a byte of a constant is a byte of its section
pub constant_within : (P : Laid) (i k : ℕ) → IsLinkable P → is_some (constant_at P.program.constants i k) ≡ true → k < length_of_section P.program i
constant_within P i k link some =
    let is : LiesIn P.program.constants i k = lies_in P.program.constants i k some in
    let fits : is.constant.offset + is.constant.length ≤ length_of_section P.program is.constant.section =
    (lies_there P.program is.constant.section is.constant.offset is.constant.length (sound_at P is.constant link is.among).inside).inside in
    below k is.constant.offset is.constant.length (length_of_section P.program i) is.to
    (subst (λ j. is.constant.offset + is.constant.length ≤ length_of_section P.program j) is.section fits)
  where
    below : (k o l n : ℕ) → k < o + l → o + l ≤ n → k < n
    below k o l n low fits = omega (arith, low, fits)

-- what a touched item says
record Touches (P : Laid) (i o count : ℕ) (f : Field) : Type 0 where
  pub number : f.item.p ≡ part_number P (OneSection i)
  pub some : 0 < count
  pub from : f.item.address < place P i + o + count
  pub to : place P i + o < f.item.address + field_length f.item

touches : (P : Laid) (i o count : ℕ) (f : Field) → is_touched (spot_at P i) (place P i + o) count f ≡ true → Touches P i o count f
touches P i o count f holds =
    let a = and_parts (f.item.p == part_number P (OneSection i) && nat_lt 0 count && nat_lt f.item.address (place P i + o + count)) (nat_lt (place P i + o) (f.item.address + field_length f.item)) holds in
    let b = and_parts (f.item.p == part_number P (OneSection i) && nat_lt 0 count) (nat_lt f.item.address (place P i + o + count)) a.0 in
    let c = and_parts (f.item.p == part_number P (OneSection i)) (nat_lt 0 count) b.0 in
    record {
      number = eqb-true f.item.p (part_number P (OneSection i)) c.0;
      some = ltb-true 0 count c.1;
      from = ltb-true f.item.address (place P i + o + count) b.1;
      to = ltb-true (place P i + o) (f.item.address + field_length f.item) a.1;
    }

touches_again : (P : Laid) (i o count : ℕ) (f : Field) → Touches P i o count f → is_touched (spot_at P i) (place P i + o) count f ≡ true
touches_again P i o count f is =
    and_from (f.item.p == part_number P (OneSection i) && nat_lt 0 count && nat_lt f.item.address (place P i + o + count)) (nat_lt (place P i + o) (f.item.address + field_length f.item))
    (and_from (f.item.p == part_number P (OneSection i) && nat_lt 0 count) (nat_lt f.item.address (place P i + o + count))
    (and_from (f.item.p == part_number P (OneSection i)) (nat_lt 0 count) (eq-eqb f.item.p (part_number P (OneSection i)) is.number) (lt-ltb 0 count is.some))
    (lt-ltb f.item.address (place P i + o + count) is.from))
    (lt-ltb (place P i + o) (f.item.address + field_length f.item) is.to)

range_bounds : (o count k : ℕ) → Among k (range_with_len o count) → (o ≤ k) × (k < o + count)
range_bounds o count k among = at_one (λ k. (o ≤ k) × (k < o + count)) k (range_with_len o count) (range_each _ o count (λ k low high. (low, high))) among

-- a byte that is stored and lies in a constant
record Shared (o count k l : ℕ) : Type 0 where
  pub byte : ℕ
  pub from : o ≤ byte
  pub to : byte < o + count
  pub first : k ≤ byte
  pub last : byte < k + l

shared : (p a l k o count : ℕ) → a ≡ p + k → 1 ≤ l → 0 < count → a < p + o + count → p + o < a + l → (o < k) ⊎ (k ≤ o) → Shared o count k l
shared p a l k o count is long some low high (inl later) = record {
  byte = k;
  from = omega (arith, later);
  to = omega (arith, is, low);
  first = omega arith;
  last = omega (arith, long);
}
shared p a l k o count is long some low high (inr before) = record {
  byte = o;
  from = omega arith;
  to = omega (arith, some);
  first = before;
  last = omega (arith, is, high);
}

pub stores_touch_alike : StoresTouchAlike
stores_touch_alike P n i o count fields link some inside holds = same_truth _ _ by_symbols by_fields
  where
    by_symbols : list_any (is_touched (spot_at P i) (place P i + o) count) fields ≡ true → is_touched_by_symbols P.program i o count ≡ true
    by_symbols touched = of_item (any_passes (is_touched (spot_at P i) (place P i + o) count) fields touched)
      where
        of_item : Passing (is_touched (spot_at P i) (place P i + o) count) fields → is_touched_by_symbols P.program i o count ≡ true
        of_item f =
            let is : Touches P i o count f.item = touches P i o count f.item f.passes in
            let of_one : IsOfConstant P i f.item.item =
            told_by_field P n i f.item link inside (at_one (IsWritten P n) f.item fields holds.written f.among) is.number in
            let long : 1 ≤ of_one.constant.length = (sound_at P of_one.constant link of_one.among).not_empty in
            let both : Shared o count of_one.constant.offset of_one.constant.length =
            shared (place P i) f.item.item.address of_one.constant.length of_one.constant.offset o count of_one.address long is.some is.from
            (subst (λ l. place P i + o < f.item.item.address + l) of_one.long is.to) (cases_lt o of_one.constant.offset) in
            some_of_range (λ k. is_some (constant_at P.program.constants i k)) o count both.byte both.from both.to
            (there_at P.program.constants i both.byte of_one.constant of_one.among of_one.section both.first both.last)

    by_fields : is_touched_by_symbols P.program i o count ≡ true → list_any (is_touched (spot_at P i) (place P i + o) count) fields ≡ true
    by_fields touched = of_byte (any_passes (λ k. is_some (constant_at P.program.constants i k)) (range_with_len o count) touched)
      where
        below : (p a l k o count t : ℕ) → a ≡ p + k → (o ≤ t) × (t < o + count) → k ≤ t → a < p + o + count
        below p a l k o count t is within first = omega (arith, is, within.0, within.1, first)

        above : (p a l k o count t : ℕ) → a ≡ p + k → (o ≤ t) × (t < o + count) → t < k + l → p + o < a + l
        above p a l k o count t is within last = omega (arith, is, within.0, within.1, last)

        of_byte : Passing (λ k. is_some (constant_at P.program.constants i k)) (range_with_len o count) → list_any (is_touched (spot_at P i) (place P i + o) count) fields ≡ true
        of_byte k =
            let bounds : (o ≤ k.item) × (k.item < o + count) = range_bounds o count k.item k.among in
            let c : LiesIn P.program.constants i k.item = lies_in P.program.constants i k.item k.passes in
            let z : Passing (is_placed (place P i + c.constant.offset) c.constant.length) (items_of P n (OneSection i)) =
            item_there P n i c.constant link some inside c.among c.section in
            let placed = and_parts (z.item.address == place P i + c.constant.offset) (field_length z.item == c.constant.length) z.passes in
            let address : z.item.address ≡ place P i + c.constant.offset = eqb-true z.item.address (place P i + c.constant.offset) placed.0 in
            let long : field_length z.item ≡ c.constant.length = eqb-true (field_length z.item) c.constant.length placed.1 in
            let of_one : IsOfConstant P i z.item = at_one (IsOfConstant P i) z.item (items_of P n (OneSection i)) (written_items_of P n i link inside) z.among in
            any_among (is_touched (spot_at P i) (place P i + o) count) (record { segment = segment_of_section P.program i; item = z.item }) fields
            (field_there P n i fields z.item inside holds z.among)
            (touches_again P i o count (record { segment = segment_of_section P.program i; item = z.item })
            (record {
              number = of_one.number;
              some = omega (arith, bounds.0, bounds.1);
              from = below (place P i) z.item.address c.constant.length c.constant.offset o count k.item address bounds c.from;
              to =
                  subst (λ l. place P i + o < z.item.address + l) (sym long)
                  (above (place P i) z.item.address c.constant.length c.constant.offset o count k.item address bounds c.to);
            }))
