-- The terms of relocation items that had no fault refer to what their kinds allow.
use Rattle.std.proofs.Common.{arith, ◌≡◌, ℕ, ◌-◌, inl, inr, Bool, true, false, not, ◌&&◌, ◌||◌, ◌==◌, nat_lt, if◌then◌else◌, List, Option, Some, None, refl, sym, ap, subst, ◌∙◌}
use Rattle.std.specs.Prelude.{IsSomeAnd, IsFalse}
use Rattle.std.specs.List.{list_any, AllByRecursion}
use Rattle.std.specs.Option.{option_map_or}
use Rattle.std.proofs.lemmas.Bool.{eqb-true}
use Rattle.std.proofs.lemmas.Slice.Eq.{bytes_eq-Decides}
use Rattle.le_bytes.specs.Names.{is_blank}
use Rattle.load_recs.specs.ItemBytes.{SuitsKind}
use Rattle.load_recs.specs.Kinds.{is_outside_kind}
use Rattle.load_recs.specs.declared.items.SymbolKind.{SymbolKind}
use Rattle.load_recs.specs.declared.items.SymbolKind.TheVariants.{Sd, Er, Lr, Pc, Cm, Pr, Null, Wx}
use Rattle.load_recs.specs.declared.items.SymbolItem.{SymbolItem}
use Rattle.load_recs.specs.declared.items.RldItem.{RldItem}
use Rattle.load_recs.proofs.Spelled.{tested}
use Rattle.sym_mod.specs.declared.module.Kind.{Kind}
use Rattle.sym_mod.specs.declared.module.Kind.TheVariants.{Address, Branch, Displacement, Total as TotalKind}
use Rattle.sym_mod.specs.declared.module.Item.{Item}
use Rattle.sym_mod.specs.declared.module.SymTerm.{SymTerm}
use Rattle.sym_mod.specs.declared.module.SymTarget.TheVariants.{Named, Own}
use Rattle.sym_mod.specs.declared.module.ItemKind.TheVariants as item
use Rattle.sym_mod.specs.Kinds.{is_register}
use Rattle.sym_mod.specs.Reserved.{is_reserved}
use Rattle.sym_mod.specs.Sound.{HasName, IsAddress, RefersToSymbol, FitsKind, is_register_named}
use Rattle.member_model.specs.Symbols.{symbol_at, is_sd, is_table, field_kind, is_minus, is_referable_kind, is_register_kind}
use Rattle.member_model.specs.ReadBack.{is_gone, is_gone_as, new_number, item_as, items_of, kind_of_field, reference, term_for, term_of, private_item, plain_item}
use Rattle.mod_read.specs.Judged.{IsJudgedSymbol, IsJudgedField}
use Rattle.mod_read.proofs.SameFields.{or_right}
use Rattle.mod_read.proofs.KeptItems.{stands, item_found}
use Rattle.mod_read.proofs.Members.{has_each, has_at, any_at}
use Rattle.mod_read.proofs.SoundItems.{is_address, reserved_named}

-- a term of a constant of this kind
pub record IsSoundTerm (items : List Item) (kind : Kind) (t : SymTerm) : Type 0 where
  pub target : FitsKind items kind t.target
  pub base : IsAddress t.base

pub judged_at : (symbols : List SymbolItem) (n : ℕ) (y : SymbolItem) → AllByRecursion (IsJudgedSymbol symbols) symbols → symbol_at symbols n ≡ Some y → IsJudgedSymbol symbols y
judged_at symbols n y judged found = has_each (IsJudgedSymbol symbols) symbols y judged (has_at symbols (n - 1) y (stands symbols n y found).there)

-- ---- references

outside_named : (y : SymbolItem) (kind : SymbolKind) → SuitsKind kind y → is_outside_kind kind ≡ true → HasName y.name
outside_named y Er suits is = suits
outside_named y Wx suits is = suits
outside_named y Sd suits is = cc
outside_named y Lr suits is = cc
outside_named y Pc suits is = cc
outside_named y Cm suits is = cc
outside_named y Pr suits is = cc
outside_named y Null suits is = cc

and_later : (a b : Bool) → (a && b) ≡ true → b ≡ true
and_later true b h = h
and_later false b h = cc

table_named : (y : SymbolItem) → is_table y ≡ true → HasName y.name
table_named y is = reserved_named y.name (and_later (is_sd y.kind) _ is)

gone_named : (symbols : List SymbolItem) (y : SymbolItem) (kind : SymbolKind) → SuitsKind kind y → is_referable_kind kind ≡ true → is_gone_as symbols y kind ≡ true → HasName y.name
gone_named symbols y Lr suits may gone = suits.0
gone_named symbols y Null suits may gone = cc
gone_named symbols y Pr suits may gone = cc
gone_named symbols y Sd suits may gone = table_named y gone
gone_named symbols y Er suits may gone = table_named y gone
gone_named symbols y Pc suits may gone = table_named y gone
gone_named symbols y Cm suits may gone = table_named y gone
gone_named symbols y Wx suits may gone = table_named y gone

sd_no_register : (x : SymbolItem) (blank : Bool) → is_register (let made : Item = if blank then private_item x else plain_item x.name item.Sd x.address x.length in made).kind ≡ false
sd_no_register x true = refl
sd_no_register x false = refl

no_register : (symbols : List SymbolItem) (y : SymbolItem) (kind : SymbolKind) → is_referable_kind kind ≡ true → is_register (item_as symbols y kind).kind ≡ false
no_register symbols y Sd may = sd_no_register y (is_blank y.name)
no_register symbols y Pc may = refl
no_register symbols y Cm may = refl
no_register symbols y Lr may = refl
no_register symbols y Er may = refl
no_register symbols y Wx may = refl
no_register symbols y Pr may = cc
no_register symbols y Null may = cc

record IsSoundReference (items : List Item) (t : SymTerm) : Type 0 where
  pub target : RefersToSymbol items t.target
  pub base : IsAddress t.base

reference_sound : (symbols : List SymbolItem) (x : RldItem) (y : SymbolItem) → AllByRecursion (IsJudgedSymbol symbols) symbols → symbol_at symbols x.r ≡ Some y → is_referable_kind y.kind ≡ true
    → IsSoundReference (items_of symbols) (reference symbols x y)
reference_sound symbols x y judged found may = by_kinds (is_outside_kind y.kind) (is_gone symbols y) refl refl
  where
    by_kinds : (outside gone : Bool) → is_outside_kind y.kind ≡ outside → is_gone symbols y ≡ gone
        → IsSoundReference (items_of symbols)
        (if outside then record { minus = is_minus x; target = Named y.name; base = 0 }
        else (if gone then record { minus = is_minus x; target = Named y.name; base = y.address }
        else record { minus = is_minus x; target = Own (new_number symbols x.r); base = y.address }))
    by_kinds true gone o g = record { target = outside_named y y.kind (judged_at symbols x.r y judged found).held.suits o; base = omega arith }
    by_kinds false true o g = record {
      target = gone_named symbols y y.kind (judged_at symbols x.r y judged found).held.suits may g;
      base = is_address y.address (judged_at symbols x.r y judged found).held.address;
    }
    by_kinds false false o g = record {
      target = subst (λ o. IsSomeAnd o (λ made. IsFalse (is_register made.kind))) (sym (item_found symbols x.r y found g)) (no_register symbols y y.kind may);
      base = is_address y.address (judged_at symbols x.r y judged found).held.address;
    }

-- ---- registers

register_gone : (symbols : List SymbolItem) (y : SymbolItem) (kind : SymbolKind) → y.kind ≡ kind → is_register_kind kind ≡ true → is_gone_as symbols y kind ≡ false
register_gone symbols y Pr is may = ap (λ k. is_sd k && is_reserved y.name) is
register_gone symbols y Sd is may = cc
register_gone symbols y Er is may = cc
register_gone symbols y Lr is may = cc
register_gone symbols y Pc is may = cc
register_gone symbols y Cm is may = cc
register_gone symbols y Null is may = cc
register_gone symbols y Wx is may = cc

register_item : (symbols : List SymbolItem) (y : SymbolItem) (kind : SymbolKind) → is_register_kind kind ≡ true → is_register_named y.name (item_as symbols y kind) ≡ true
register_item symbols y Pr may = (bytes_eq-Decides y.name.0 y.name.0).1 refl
register_item symbols y Sd may = cc
register_item symbols y Er may = cc
register_item symbols y Lr may = cc
register_item symbols y Pc may = cc
register_item symbols y Cm may = cc
register_item symbols y Null may = cc
register_item symbols y Wx may = cc

register_there : (symbols : List SymbolItem) (n : ℕ) (y : SymbolItem) → symbol_at symbols n ≡ Some y → is_register_kind y.kind ≡ true → list_any (is_register_named y.name) (items_of symbols) ≡ true
register_there symbols n y found may =
    any_at (is_register_named y.name) (items_of symbols) (new_number symbols n) (item_as symbols y y.kind)
    (item_found symbols n y found (register_gone symbols y y.kind refl may)) (register_item symbols y y.kind may)

-- ---- terms

-- the symbol fits an item of this kind
abbrev fits_as : ℕ → Option SymbolItem → Bool
fits_as n o =
    if nat_lt n 2 then option_map_or (λ y. is_referable_kind y.kind) o false
    else (nat_lt 2 n || option_map_or (λ y. is_register_kind y.kind) o false)

module _ (symbols : List SymbolItem) (x : RldItem) (judged : AllByRecursion (IsJudgedSymbol symbols) symbols) where
  address_sound : (o : Option SymbolItem) → symbol_at symbols x.r ≡ o → option_map_or (λ y. is_referable_kind y.kind) o false ≡ true → IsSoundTerm (items_of symbols) Address (term_for symbols x Address o)
  address_sound None found may = cc
  address_sound (Some y) found may =
      let sound : IsSoundReference (items_of symbols) (reference symbols x y) = reference_sound symbols x y judged found may in
      record { target = sound.target; base = sound.base }

  branch_sound : (o : Option SymbolItem) → symbol_at symbols x.r ≡ o → option_map_or (λ y. is_referable_kind y.kind) o false ≡ true → IsSoundTerm (items_of symbols) Branch (term_for symbols x Branch o)
  branch_sound None found may = cc
  branch_sound (Some y) found may =
      let sound : IsSoundReference (items_of symbols) (reference symbols x y) = reference_sound symbols x y judged found may in
      record { target = sound.target; base = sound.base }

  displacement_sound : (o : Option SymbolItem) → symbol_at symbols x.r ≡ o → option_map_or (λ y. is_register_kind y.kind) o false ≡ true
      → IsSoundTerm (items_of symbols) Displacement (term_for symbols x Displacement o)
  displacement_sound None found may = cc
  displacement_sound (Some y) found may = record { target = register_there symbols x.r y found may; base = omega arith }

  total_sound : (o : Option SymbolItem) → IsSoundTerm (items_of symbols) TotalKind (term_for symbols x TotalKind o)
  total_sound None = record { target = tt; base = omega arith }
  total_sound (Some y) = record { target = tt; base = omega arith }

  total_kind : (n : ℕ) → (n == 0) ≡ false → (n == 1) ≡ false → (n == 2) ≡ false → TotalKind ≡ kind_of_field n
  total_kind n a b c = rw (a, b, c) refl

  sound_as : (n : ℕ) → fits_as n (symbol_at symbols x.r) ≡ true → IsSoundTerm (items_of symbols) (kind_of_field n) (term_for symbols x (kind_of_field n) (symbol_at symbols x.r))
  sound_as n fine =
      let o : Option SymbolItem = symbol_at symbols x.r in
      elim (tested (n == 0)) [
        | inl e ↦ subst (λ k. IsSoundTerm (items_of symbols) (kind_of_field k) (term_for symbols x (kind_of_field k) (symbol_at symbols x.r))) (sym (eqb-true n 0 e))
            (address_sound (symbol_at symbols x.r) refl (ap (λ k. fits_as k (symbol_at symbols x.r)) (sym (eqb-true n 0 e)) ∙ fine))
        | inr a ↦ elim (tested (n == 1)) [
          | inl e ↦ subst (λ k. IsSoundTerm (items_of symbols) (kind_of_field k) (term_for symbols x (kind_of_field k) (symbol_at symbols x.r))) (sym (eqb-true n 1 e))
              (branch_sound (symbol_at symbols x.r) refl (ap (λ k. fits_as k (symbol_at symbols x.r)) (sym (eqb-true n 1 e)) ∙ fine))
          | inr b ↦ elim (tested (n == 2)) [
            | inl e ↦ subst (λ k. IsSoundTerm (items_of symbols) (kind_of_field k) (term_for symbols x (kind_of_field k) (symbol_at symbols x.r))) (sym (eqb-true n 2 e))
                (displacement_sound (symbol_at symbols x.r) refl (ap (λ k. fits_as k (symbol_at symbols x.r)) (sym (eqb-true n 2 e)) ∙ fine))
            | inr c ↦ subst (λ k. IsSoundTerm (items_of symbols) k (term_for symbols x k (symbol_at symbols x.r))) (total_kind n a b c) (total_sound (symbol_at symbols x.r))
          ]
        ]
      ]

pub term_sound : (symbols : List SymbolItem) (x : RldItem) → AllByRecursion (IsJudgedSymbol symbols) symbols → IsJudgedField symbols x → IsSoundTerm (items_of symbols) (kind_of_field (field_kind x)) (term_of symbols x)
term_sound symbols x judged field = sound_as symbols x judged (field_kind x) field.symbol

-- ---- signs

reference_sign : (symbols : List SymbolItem) (x : RldItem) (y : SymbolItem) → (reference symbols x y).minus ≡ is_minus x
reference_sign symbols x y = by_kinds (is_outside_kind y.kind) (is_gone symbols y)
  where
    by_kinds : (outside gone : Bool)
        → (let t : SymTerm = if outside then record { minus = is_minus x; target = Named y.name; base = 0 }
        else (if gone then record { minus = is_minus x; target = Named y.name; base = y.address }
        else record { minus = is_minus x; target = Own (new_number symbols x.r); base = y.address }) in t).minus ≡ is_minus x
    by_kinds true gone = refl
    by_kinds false true = refl
    by_kinds false false = refl

sign_as : (symbols : List SymbolItem) (x : RldItem) (kind : Kind) (o : Option SymbolItem) → is_minus x ≡ false → (term_for symbols x kind o).minus ≡ false
sign_as symbols x Address (Some y) plus = reference_sign symbols x y ∙ plus
sign_as symbols x Branch (Some y) plus = reference_sign symbols x y ∙ plus
sign_as symbols x Displacement (Some y) plus = refl
sign_as symbols x TotalKind (Some y) plus = refl
sign_as symbols x Address None plus = refl
sign_as symbols x Branch None plus = refl
sign_as symbols x Displacement None plus = refl
sign_as symbols x TotalKind None plus = refl

plus_of : (minus other : Bool) → (minus && not other) ≡ false → other ≡ false → minus ≡ false
plus_of true other h e = sym (ap not e) ∙ h
plus_of false other h e = refl

-- a term of another constant than an address is added
pub added : (symbols : List SymbolItem) (x : RldItem) → IsJudgedField symbols x → (field_kind x == 0) ≡ false → (term_of symbols x).minus ≡ false
added symbols x field other =
    sign_as symbols x (kind_of_field (field_kind x)) (symbol_at symbols x.r)
    (plus_of (is_minus x) (field_kind x == 0) (or_right _ (is_minus x && not (field_kind x == 0)) field.flag) other)
