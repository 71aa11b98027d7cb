-- The symbol items of a program are such as a record may hold.
use Rattle.std.proofs.Common.{◌≡◌, ℕ, zero, suc, ◌+◌, ◌-◌, ◌*◌, ◌/◌, ◌%◌, ◌<◌, ◌≤◌, ◌^◌, Bool, true, false, ◌||◌, ◌==◌, if◌then◌else◌, List, [], ◌∷◌, ◌++◌, map, length, Option, Some, None, slice_get, inl, inr, refl, sym, ap, subst, ◌∙◌, arith}
use Rattle.std.specs.Prelude.{IsSomeAnd, All, slice_index, IsTrue}
use Rattle.std.specs.Option.{option_map_or}
use Rattle.std.proofs.Math.Nat.{mod-add-div, mod-lt}
use Rattle.std.proofs.lemmas.Bool.{eqb-true, or_cases}
use Rattle.std.proofs.lemmas.List.Elements.{recursion_from_All}
use Rattle.std.specs.List.{AllByRecursion, enumerate_from}
use Rattle.le_bytes.specs.declared.name.Name.{Name}
use Rattle.le_bytes.specs.Names.{blank_bytes, is_blank}
use Rattle.sym_mod.specs.Sound.{IsSoundLabel, IsSoundRegister, IsAlignment, HasName}
use Rattle.sym_mod.specs.declared.program.Section.{Section}
use Rattle.sym_mod.specs.declared.program.SecKind.{SecKind}
use Rattle.sym_mod.specs.declared.program.SecKind.TheVariants.{Sd, Pc, Cm}
use Rattle.sym_mod.specs.declared.program.Label.{Label}
use Rattle.sym_mod.specs.declared.program.Unknown.{Unknown}
use Rattle.sym_mod.specs.declared.program.Register.{Register}
use Rattle.load_recs.specs.declared.items.SymbolItem.{SymbolItem}
use Rattle.load_recs.specs.declared.items.SymbolKind.TheVariants.{Er, Wx}
use Rattle.load_recs.specs.Items.{is_alignment}
use Rattle.load_recs.specs.ItemBytes.{SuitsKind, IsSymbol}
use Rattle.linking_model.specs.Places.{Laid, place, end_of, module_length}
use Rattle.linking_model.specs.Points.{displacements, registers_end, next_multiple}
use Rattle.linking_model.specs.Laws.{LiesInSegment}
use Rattle.linking_model.proofs.Extents.{sections_lie_in_segments}
use Rattle.member_model.specs.Parts.{Part, SegmentTable, OneSection, EntryTable, parts, section_kind, section_name, name_as, part_name, part_kind, part_place, part_length, part_number}
use Rattle.member_model.specs.SymbolList.{symbol_kind, part_symbol, label_symbol, unresolved_symbol, register_symbol, symbols_written}
use Rattle.member_laws.specs.Linkable.{IsLinkable, HasEightBytes, StandsInTree}
use Rattle.member_laws.proofs.Lists.{each-append, each-map}
use Rattle.member_laws.proofs.Membership.{Has, each-of, has-all, has-at, from-enumerate}
use Rattle.member_laws.proofs.Numbered.{IsPart, from-part, section-part, number_fits}
use Rattle.member_laws.proofs.Standing.{StandsIn, IsPartOf, StandsWell, stands_well, segments-end}

-- what is there and has a property
pub some-and : {X : Type 0} (o : Option X) (P : X → Type 0) → IsSomeAnd o P → (x : X) × (o ≡ Some x) × P x
some-and None P is = absurd is
some-and (Some x) P is = (x, refl, is)

-- ---- parts

pub kind-at : (P : Laid) (i : ℕ) (x : Section) → slice_get P.program.sections i ≡ Some x → section_kind P i ≡ x.kind
kind-at P i x there = ap (λ o. option_map_or (λ (y : Section). y.kind) o Sd) there

name-at : (P : Laid) (i : ℕ) (x : Section) → slice_get P.program.sections i ≡ Some x → section_name P i ≡ name_as x.kind x.name
name-at P i x there = ap (λ o. option_map_or (λ (y : Section). name_as y.kind y.name) o (record { 0 = blank_bytes })) there

name-eight : (kind : SecKind) (name : Name) → HasEightBytes name → HasEightBytes (name_as kind name)
name-eight Sd name is = is
name-eight Pc name is = refl
name-eight Cm name is = is

suits-by : (kind : SecKind) (name : Name) (item : SymbolItem) → item.name ≡ name_as kind name → SuitsKind (symbol_kind kind) item
suits-by Sd name item e = tt
suits-by Pc name item e = ap (λ n. n.0) e
suits-by Cm name item e = tt

-- a part ends with the module or before
pub part-ends : (P : Laid) (x : Part) → IsPart P x → part_place P x + part_length P x ≤ module_length P
part-ends P x is =
    let well = stands_well P is.in_segment x is.low is.is in
    let ends : part_place P x + part_length P x ≤ end_of P is.in_segment = well.ends in
    let all : end_of P is.in_segment ≤ module_length P = segments-end P is.in_segment is.low is.high in
    omega arith

part-name-eight : (P : Laid) (x : Part) (s : ℕ) → IsLinkable P → IsPartOf P s x → HasEightBytes (part_name P x)
part-name-eight P SegmentTable s links is = refl
part-name-eight P (OneSection i) s links is =
    let whole : HasEightBytes is.section.name = has-all (λ x. HasEightBytes x.name) P.program.sections is.section links.whole_names.sections (has-at P.program.sections i is.section is.there) in
    subst HasEightBytes (sym (name-at P i is.section is.there)) (name-eight is.section.kind is.section.name whole)
part-name-eight P (EntryTable t) s links is = refl

part-suits : (P : Laid) (x : Part) (s : ℕ) → IsPartOf P s x → SuitsKind (part_symbol P x).kind (part_symbol P x)
part-suits P SegmentTable s is = tt
part-suits P (OneSection i) s is =
    subst (λ k. SuitsKind (symbol_kind k) (part_symbol P (OneSection i))) (sym (kind-at P i is.section is.there))
    (suits-by is.section.kind is.section.name (part_symbol P (OneSection i)) (name-at P i is.section is.there))
part-suits P (EntryTable t) s is = tt

part-is : (P : Laid) (x : Part) → IsLinkable P → IsPart P x → IsSymbol (part_symbol P x)
part-is P x links is =
    let ends : part_place P x + part_length P x ≤ module_length P = part-ends P x is in
    let fits : module_length P ≤ 4194304 = links.module_fits in
    record { name = part-name-eight P x is.in_segment links is.is; address = omega arith; length_fits = omega arith; suits = part-suits P x is.in_segment is.is }

-- ---- labels

-- the section of a label, in which it stands or at its end
pub record IsOwned (P : Laid) (x : Label) : Type 0 where
  pub section : Section
  pub there : slice_get P.program.sections x.section ≡ Some section
  pub inside : x.offset ≤ section.length

pub is-owned : (P : Laid) (x : Label) → IsSoundLabel P.program x → IsOwned P x
is-owned P x sound =
    let found = some-and (slice_get P.program.sections x.section) (λ y. x.offset ≤ y.length) sound.inside in
    record { section = found.0; there = found.1; inside = found.2 }

-- a place in a section or at its end is one in the module or at its end
pub place-within : (P : Laid) (i o : ℕ) (x : Section) → IsLinkable P → slice_get P.program.sections i ≡ Some x → o ≤ x.length → place P i + o ≤ module_length P
place-within P i o x links there inside =
    let in_tree : StandsInTree P.tree x = has-all (StandsInTree P.tree) P.program.sections x links.in_tree (has-at P.program.sections i x there) in
    let lies : LiesInSegment P i x = sections_lie_in_segments P i x there in
    let ends : place P i + x.length ≤ end_of P x.segment = lies.ends in
    let all : end_of P x.segment ≤ module_length P = segments-end P x.segment in_tree.first in_tree.last in
    omega arith

label-is : (P : Laid) (x : Label) → IsLinkable P → IsSoundLabel P.program x → HasEightBytes x.name → IsSymbol (label_symbol P x)
label-is P x links sound whole =
    let owned = is-owned P x sound in
    let within : place P x.section + x.offset ≤ module_length P = place-within P x.section x.offset owned.section links owned.there owned.inside in
    let fits : module_length P ≤ 4194304 = links.module_fits in
    let number : part_number P (OneSection x.section) < 2 ^ 16 = number_fits P (OneSection x.section) links (section-part P x.section owned.section links owned.there) in
    record { name = whole; address = omega arith; length_fits = omega arith; suits = (sound.name, number) }

-- ---- unresolved names

unresolved-is : (x : Unknown) → HasName x.name → HasEightBytes x.name → IsSymbol (unresolved_symbol x)
unresolved-is x named whole =
    record { name = whole; address = omega arith; length_fits = omega arith; suits = by_weak x.weak }
  where
    by_weak : (b : Bool) → SuitsKind (if b then Wx else Er) (unresolved_symbol x)
    by_weak true = named
    by_weak false = named

-- ---- registers

-- what holds of one, two, four and eight holds of an alignment
on-alignment : (P : ℕ → Type 0) → P 1 → P 2 → P 4 → P 8 → (n : ℕ) → IsAlignment n → P n
on-alignment P one two four eight n is =
    elim (or_cases (n == 1 || n == 2 || n == 4) (n == 8) is) [
      | inr e ↦ subst P (sym (eqb-true n 8 e)) eight
      | inl a ↦ elim (or_cases (n == 1 || n == 2) (n == 4) a) [
        | inr e ↦ subst P (sym (eqb-true n 4 e)) four
        | inl b ↦ elim (or_cases (n == 1) (n == 2) b) [
          | inr e ↦ subst P (sym (eqb-true n 2 e)) two
          | inl e ↦ subst P (sym (eqb-true n 1 e)) one
        ]
      ]
    ]

multiple-above : (n align : ℕ) → IsAlignment align → n ≤ next_multiple n align
multiple-above n align is = on-alignment (λ a. n ≤ next_multiple n a) (omega arith) (omega arith) (omega arith) (omega arith) align is

end-above : (registers : List Register) (at : ℕ) → AllByRecursion IsSoundRegister registers → at ≤ registers_end at registers
unfolding registers_end
end-above [] at sound = omega arith
end-above (r ∷ rs) at sound =
    let next : at ≤ next_multiple at r.align = multiple-above at r.align sound.0.align in
    let rest : next_multiple at r.align + r.length ≤ registers_end (next_multiple at r.align + r.length) rs = end-above rs (next_multiple at r.align + r.length) sound.1 in
    omega arith

pub displacement-below : (registers : List Register) (at k : ℕ) → AllByRecursion IsSoundRegister registers → slice_index (displacements at registers) k ≤ registers_end at registers
unfolding displacements registers_end
displacement-below [] at k sound = omega arith
displacement-below (r ∷ rs) at zero sound =
    let rest : next_multiple at r.align + r.length ≤ registers_end (next_multiple at r.align + r.length) rs = end-above rs (next_multiple at r.align + r.length) sound.1 in
    omega arith
displacement-below (r ∷ rs) at (suc k) sound = displacement-below rs (next_multiple at r.align + r.length) k sound.1

register-is : (registers : List Register) (k : ℕ) (x : Register) → AllByRecursion IsSoundRegister registers → registers_end 0 registers ≤ 16777215 → IsSoundRegister x → HasEightBytes x.name
    → IsSymbol (register_symbol registers (k, x))
register-is registers k x all fits sound whole =
    let below : slice_index (displacements 0 registers) k ≤ registers_end 0 registers = displacement-below registers 0 k all in
    let size : x.length ≤ 16777215 = sound.size in
    record {
      name = whole;
      address = omega arith;
      length_fits = omega arith;
      suits = on-alignment (λ a. is_alignment (a - 1) ≡ true) refl refl refl refl x.align sound.align;
    }

-- ---- all of them

pub symbols_are : (P : Laid) → IsLinkable P → AllByRecursion IsSymbol (symbols_written P)
unfolding symbols_written
symbols_are P links =
    each-append IsSymbol _ (map (register_symbol P.program.registers) (enumerate_from 0 P.program.registers))
    (each-append IsSymbol _ (map unresolved_symbol P.program.unresolved)
    (each-append IsSymbol (map (part_symbol P) (parts P)) (map (label_symbol P) P.program.labels)
    (each-map IsSymbol (part_symbol P) (parts P) (each-of _ (parts P) (λ x there. part-is P x links (from-part P x there))))
    (each-map IsSymbol (label_symbol P) P.program.labels (each-of _ P.program.labels (λ x there.
    label-is P x links (has-all (IsSoundLabel P.program) P.program.labels x links.sound.labels there) (has-all (λ y. HasEightBytes y.name) P.program.labels x links.whole_names.labels there)))))
    (each-map IsSymbol unresolved_symbol P.program.unresolved (each-of _ P.program.unresolved (λ x there.
    unresolved-is x (has-all (λ y. HasName y.name) P.program.unresolved x links.sound.unresolved there) (has-all (λ y. HasEightBytes y.name) P.program.unresolved x links.whole_names.unresolved there)))))
    (each-map IsSymbol (register_symbol P.program.registers) (enumerate_from 0 P.program.registers) (each-of _ (enumerate_from 0 P.program.registers) (λ y there.
    let at = from-enumerate 0 P.program.registers y there in
    let has = has-at P.program.registers at.0 y.1 at.1 in
    register-is P.program.registers y.0 y.1 (recursion_from_All IsSoundRegister P.program.registers links.sound.registers) links.registers_fit
    (has-all IsSoundRegister P.program.registers y.1 links.sound.registers has) (has-all (λ z. HasEightBytes z.name) P.program.registers y.1 links.whole_names.registers has))))
