-- The relocation item by which a call goes is that of the branch constant by which it goes, and the number in storage
-- is that constant's.
use Rattle.std.proofs.Common.{◌≡◌, inl, inr, ℕ, ◌+◌, ◌-◌, ◌%◌, ◌^◌, ◌<◌, ◌≤◌, Bool, true, false, ◌&&◌, ◌==◌, List, [], ◌∷◌, find, length, Option, Some, None, is_some, slice_index, refl, sym, ap, ◌∙◌, subst, arith}
use Rattle.std.specs.Prelude.{nat_le, nat_lt}
use Rattle.std.specs.List.{AllByRecursion as Each}
use Rattle.std.proofs.Math.Nat.{mod-lt}
use Rattle.std.proofs.lemmas.Bool.{false≢true, eqb-true, eq-eqb, and_parts, and_from, leb-true, le-leb, lt-ltb, ltb-true}
use Rattle.byteorder.specs.Endian.{big_bytes}
use Rattle.sym_mod.specs.declared.program.Constant.{Constant}
use Rattle.sym_mod.specs.declared.program.Term.{Term}
use Rattle.linking_model.specs.Numbers.{is_among}
use Rattle.linking_model.specs.Places.{Laid, place, segment_of_section}
use Rattle.linking_model.specs.Tables.{is_branch, only_target}
use Rattle.linking_model.specs.Linked.{Placement, branch_address, covers, constant_at, byte_of, number_in, linked_byte}
use Rattle.linking_model.specs.Run.{Storage, is_vcon_at as is_vcon_by_symbols}
use Rattle.member_model.specs.Symbols.{field_kind, field_length}
use Rattle.member_model.specs.Facts.{Field}
use Rattle.member_model.specs.Parts.{OneSection, part_number, target_number}
use Rattle.member_model.specs.Calling.{number_in as number_at}
use Rattle.member_model.specs.ByteRun.{is_vcon_at}
use Rattle.member_laws.specs.Linkable.{IsLinkable}
use Rattle.member_laws.specs.Gathered.{items_of}
use Rattle.member_laws.proofs.LoadingLists.{Among, at_one, found_among, found_passes, not_found, none_found}
use Rattle.member_laws.proofs.LoadingNumbers.{power_some, held_number}
use Rattle.member_laws.proofs.LoadingTerms.{kind_code}
use Rattle.run_laws.specs.Agreement.{HoldsConstants}
use Rattle.run_laws.specs.Fields.{IsWritten, HoldsFields, spot_at}
use Rattle.run_laws.proofs.ItemsOfConstants.{Passing, IsOfConstant, sound_at, written_items_of, is_placed, item_there, found_some}
use Rattle.run_laws.proofs.PartBytes.{find_only}
use Rattle.run_laws.proofs.TouchedConstants.{told_by_field, field_there, there_at}
use Rattle.run_laws.proofs.BranchConstants.{same_constant, branch_of_code, branch_is, IsCall, call_again, HasTarget, has_target}

-- ---- its item

-- the item by which the call goes
pub record GoesBy (P : Laid) (i o : ℕ) (c : Constant) (fields : List Field) : Type 0 where
  pub field : Field
  pub found : find (is_vcon_at (spot_at P i) o) fields ≡ Some field
  pub long : field_length field.item ≡ c.length
  pub refers : field.item.r ≡ target_number P (only_target c.terms)

-- what an item says by which a call may go
record IsCallItem (P : Laid) (i o : ℕ) (f : Field) : Type 0 where
  pub number : f.item.p ≡ part_number P (OneSection i)
  pub address : f.item.address ≡ place P i + o
  pub kind : field_kind f.item ≡ 1
  pub long : 3 ≤ field_length f.item

is_call_item : (P : Laid) (i o : ℕ) (f : Field) → is_vcon_at (spot_at P i) o f ≡ true → IsCallItem P i o f
is_call_item P i o f passes =
    let a = and_parts (f.item.p == part_number P (OneSection i) && f.item.address == place P i + o && field_kind f.item == 1) (nat_le 3 (field_length f.item)) passes in
    let b = and_parts (f.item.p == part_number P (OneSection i) && f.item.address == place P i + o) (field_kind f.item == 1) a.0 in
    let d = and_parts (f.item.p == part_number P (OneSection i)) (f.item.address == place P i + o) b.0 in
    record {
      number = eqb-true f.item.p (part_number P (OneSection i)) d.0;
      address = eqb-true f.item.address (place P i + o) d.1;
      kind = eqb-true (field_kind f.item) 1 b.1;
      long = leb-true 3 (field_length f.item) a.1;
    }

call_item_again : (P : Laid) (i o : ℕ) (f : Field) → IsCallItem P i o f → is_vcon_at (spot_at P i) o f ≡ true
call_item_again P i o f is =
    and_from (f.item.p == part_number P (OneSection i) && f.item.address == place P i + o && field_kind f.item == 1) (nat_le 3 (field_length f.item))
    (and_from (f.item.p == part_number P (OneSection i) && f.item.address == place P i + o) (field_kind f.item == 1)
    (and_from (f.item.p == part_number P (OneSection i)) (f.item.address == place P i + o)
    (eq-eqb f.item.p (part_number P (OneSection i)) is.number) (eq-eqb f.item.address (place P i + o) is.address))
    (eq-eqb (field_kind f.item) 1 is.kind)) (le-leb 3 (field_length f.item) is.long)

-- the constant of such an item
constant_of_item : (P : Laid) (n i o : ℕ) (f : Field) → IsLinkable P → i < length P.program.sections → IsWritten P n f → IsCallItem P i o f
    → (of_one : IsOfConstant P i f.item) × IsCall P i o of_one.constant
constant_of_item P n i o f link inside written is =
    let of_one : IsOfConstant P i f.item = told_by_field P n i f link inside written is.number in (
      of_one,
      record {
        among = of_one.among;
        kind = branch_of_code of_one.constant.kind (sym of_one.kind ∙ is.kind);
        section = of_one.section;
        offset = same_offset (place P i) of_one.constant.offset o (sym of_one.address ∙ is.address);
        long = subst (λ k. 3 ≤ k) of_one.long is.long;
      },
    )
  where
    same_offset : (p a b : ℕ) → p + a ≡ p + b → a ≡ b
    same_offset p a b same = omega (arith, same)

at_place : (P : Laid) (i o : ℕ) (c : Constant) → IsLinkable P → IsCall P i o c → (c.offset ≤ o) × (o < c.offset + c.length)
at_place P i o c link is = (omega (arith, is.offset), omega (arith, is.offset, is.long))

pub no_item : (P : Laid) (n i o : ℕ) (fields : List Field) → IsLinkable P → i < length P.program.sections → Each (IsWritten P n) fields
    → find (is_vcon_by_symbols i o) P.program.constants ≡ None → find (is_vcon_at (spot_at P i) o) fields ≡ None
no_item P n i o fields link inside written none = none_found (is_vcon_at (spot_at P i) o) fields (fails fields written)
  where
    not_true : (b : Bool) → (b ≡ true → ⊥) → b ≡ false
    not_true true fails = absurd (fails refl)
    not_true false fails = refl

    no_call : (f : Field) → IsWritten P n f → IsCallItem P i o f → ⊥
    no_call f w is =
        let of_one = constant_of_item P n i o f link inside w is in
        false≢true
        (sym (at_one (λ c. is_vcon_by_symbols i o c ≡ false) of_one.0.constant P.program.constants (not_found (is_vcon_by_symbols i o) P.program.constants none) of_one.0.among)
        ∙ call_again P i o of_one.0.constant of_one.1)

    fails : (fs : List Field) → Each (IsWritten P n) fs → Each (λ f. is_vcon_at (spot_at P i) o f ≡ false) fs
    fails [] each = tt
    fails (f ∷ fs) each = (not_true (is_vcon_at (spot_at P i) o f) (λ passes. no_call f each.0 (is_call_item P i o f passes)), fails fs each.1)

pub goes_by : (P : Laid) (n i o : ℕ) (c : Constant) (fields : List Field) → IsLinkable P → 1 ≤ n → i < length P.program.sections
    → HoldsFields P n (segment_of_section P.program i) fields → IsCall P i o c → GoesBy P i o c fields
goes_by P n i o c fields link some inside holds call = by_cases (find (is_vcon_at (spot_at P i) o) fields) refl there
  where
    z : Passing (is_placed (place P i + c.offset) c.length) (items_of P n (OneSection i))
    z = item_there P n i c link some inside call.among call.section

    of_z : IsOfConstant P i z.item
    of_z = at_one (IsOfConstant P i) z.item (items_of P n (OneSection i)) (written_items_of P n i link inside) z.among

    placed : (z.item.address ≡ place P i + c.offset) × (field_length z.item ≡ c.length)
    placed =
        let both = and_parts (z.item.address == place P i + c.offset) (field_length z.item == c.length) z.passes in
        (eqb-true z.item.address (place P i + c.offset) both.0, eqb-true (field_length z.item) c.length both.1)

    same_place : (p a b o : ℕ) → p + a ≡ p + b → b ≡ o → a ≡ o
    same_place p a b o same is = omega (arith, same, is)

    from_offset : (p a o : ℕ) → a ≡ p → p ≡ o → a ≤ o
    from_offset p a o same is = omega (arith, same, is)

    below_end : (a l o : ℕ) → a ≡ o → 1 ≤ l → o < a + l
    below_end a l o is some = omega (arith, is, some)

    z_offset : of_z.constant.offset ≡ o
    z_offset = same_place (place P i) of_z.constant.offset c.offset o (sym of_z.address ∙ placed.0) call.offset

    z_is : of_z.constant ≡ c
    z_is =
        same_constant P of_z.constant c i o link of_z.among call.among of_z.section call.section
        (omega (arith, z_offset), below_end of_z.constant.offset of_z.constant.length o z_offset (sound_at P of_z.constant link of_z.among).not_empty)
        (at_place P i o c link call)

    z_kind : field_kind z.item ≡ 1
    z_kind = of_z.kind ∙ ap (λ (d : Constant). kind_code d.kind) z_is ∙ ap kind_code (branch_is c.kind call.kind)

    there : is_some (find (is_vcon_at (spot_at P i) o) fields) ≡ true
    there =
        found_some (is_vcon_at (spot_at P i) o) (record { segment = segment_of_section P.program i; item = z.item }) fields
        (field_there P n i fields z.item inside holds z.among)
        (call_item_again P i o (record { segment = segment_of_section P.program i; item = z.item })
        (record {
          number = of_z.number;
          address = placed.0 ∙ ap (λ k. place P i + k) call.offset;
          kind = z_kind;
          long = subst (λ k. 3 ≤ k) (sym placed.1) call.long;
        }))

    by_cases : (f : Option Field) → find (is_vcon_at (spot_at P i) o) fields ≡ f → is_some f ≡ true → GoesBy P i o c fields
    by_cases None none some = absurd (false≢true some)
    by_cases (Some f) found some =
        let among : Among f fields = found_among (is_vcon_at (spot_at P i) o) f fields found in
        let of_one = constant_of_item P n i o f link inside (at_one (IsWritten P n) f fields holds.written among)
        (is_call_item P i o f (found_passes (is_vcon_at (spot_at P i) o) f fields found)) in
        let is : of_one.0.constant ≡ c =
        same_constant P of_one.0.constant c i o link of_one.0.among call.among of_one.0.section call.section (at_place P i o of_one.0.constant link of_one.1)
        (at_place P i o c link call) in
        let target : HasTarget P c = has_target P c link call.among call.kind in
        record {
          field = f;
          found = found;
          long = of_one.0.long ∙ ap (λ (d : Constant). d.length) is;
          refers =
              of_one.0.refers
              ∙ ap (λ (t : Term). target_number P t.target) (only_one of_one.0.term target.term (subst (Among of_one.0.term) (ap (λ (d : Constant). d.terms) is ∙ target.only) of_one.0.has))
              ∙ ap (λ ts. target_number P (only_target ts)) (sym target.only);
        }
      where
        only_one : (t u : Term) → Among t (u ∷ []) → t ≡ u
        only_one t u (inl same) = sym same
        only_one t u (inr none) = absurd none

-- ---- its number

constant_there : (P : Laid) (c : Constant) (i k : ℕ) → IsLinkable P → Among c P.program.constants → c.section ≡ i → c.offset ≤ k → k < c.offset + c.length
    → constant_at P.program.constants i k ≡ Some c
unfolding constant_at
constant_there P c i k link among here low high =
    find_only (covers i k) P.program.constants c among
    (and_from (c.section == i) (is_among c.offset c.length k) (eq-eqb c.section i here)
    (and_from (nat_le c.offset k) (nat_lt k (c.offset + c.length)) (le-leb c.offset k low) (lt-ltb k (c.offset + c.length) high)))
    (λ d there passes.
    let both = and_parts (d.section == i) (is_among d.offset d.length k) passes in
    let bounds = and_parts (nat_le d.offset k) (nat_lt k (d.offset + d.length)) both.1 in
    same_constant P d c i k link there among (eqb-true d.section i both.0) here (leb-true d.offset k bounds.0, ltb-true k (d.offset + d.length) bounds.1) (low, high))

linked_is : (P : Laid) (Q : Placement) (i k : ℕ) → linked_byte P Q i k ≡ byte_of P Q i k (constant_at P.program.constants i k)
unfolding linked_byte
linked_is P Q i k = refl

number_small : (P : Laid) (Q : Placement) (c : Constant) → number_in P Q c < 256 ^ c.length
unfolding number_in
number_small P Q c = mod-lt _ (power_some c.length)

branch_number : (P : Laid) (Q : Placement) (c : Constant) → is_branch c.kind ≡ true
    → number_in P Q c ≡ branch_address P Q (segment_of_section P.program c.section) (only_target c.terms) % 256 ^ c.length
unfolding number_in
branch_number P Q c branch = rw (branch_is c.kind branch) refl

pub number_held : (P : Laid) (Q : Placement) (i o : ℕ) (c : Constant) (M : Storage) → IsLinkable P → i < length P.program.sections
    → HoldsConstants P Q (segment_of_section P.program i) M → IsCall P i o c
    → number_at M (Q.section i + o) c.length ≡ branch_address P Q (segment_of_section P.program i) (only_target c.terms) % 256 ^ c.length
number_held P Q i o c M link inside holds call =
    held_number M (Q.section i + o) c.length (number_in P Q c) (number_small P Q c) byte
    ∙ branch_number P Q c call.kind
    ∙ ap (λ k. branch_address P Q (segment_of_section P.program k) (only_target c.terms) % 256 ^ c.length) call.section
  where
    grouped : (a o j : ℕ) → a + o + j ≡ a + (o + j)
    grouped a o j = omega arith

    back : (a o j : ℕ) → a ≡ o → o + j - a ≡ j
    back a o j is = omega (arith, is)

    byte : (j : ℕ) → j < c.length → M (Q.section i + o + j) ≡ slice_index (big_bytes c.length (number_in P Q c)) j
    byte j low =
        let from : c.offset ≤ o + j = omega (arith, call.offset) in
        let to : o + j < c.offset + c.length = omega (arith, call.offset, low) in
        ap M (grouped (Q.section i) o j)
        ∙ holds.bytes i (o + j) inside refl (there_at P.program.constants i (o + j) c call.among call.section from to)
        ∙ linked_is P Q i (o + j)
        ∙ ap (byte_of P Q i (o + j)) (constant_there P c i (o + j) link call.among call.section from to)
        ∙ ap (slice_index (big_bytes c.length (number_in P Q c))) (back c.offset o j call.offset)
