-- The items of the module of a good member are sound.
use Rattle.std.proofs.Common.{arith, ◌≡◌, ℕ, ◌+◌, ◌^◌, ◌<◌, ◌≤◌, ◌⊎◌, inl, inr, Bool, true, false, not, ◌&&◌, ◌||◌, ◌==◌, nat_lt, if◌then◌else◌, List, Option, Some, None, refl, sym, ap, subst, ◌∙◌}
use Rattle.std.specs.Prelude.{IsSomeAnd, IsTrue}
use Rattle.std.specs.List.{filter, AllByRecursion}
use Rattle.std.specs.Option.{option_map_or}
use Rattle.std.proofs.lemmas.Bool.{ltb-false, eqb-true}
use Rattle.std.proofs.lemmas.Slice.Eq.{bytes_eq-Decides}
use Rattle.le_bytes.specs.declared.name.Name.{Name}
use Rattle.le_bytes.specs.declared.record_what.RecWhat.TheVariants.{BadEsdid, SectionOutside}
use Rattle.le_bytes.specs.Names.{is_blank, name_eq}
use Rattle.load_recs.specs.Items.{is_alignment}
use Rattle.load_recs.specs.ItemBytes.{IsSymbol, SuitsKind}
use Rattle.load_recs.specs.Kinds.{is_text_kind}
use Rattle.load_recs.specs.declared.items.SymbolKind.{SymbolKind}
use Rattle.load_recs.specs.declared.items.SymbolKind.TheVariants.{Sd, Er, Lr, Pc, Cm, Pr, Null, Wx}
use Rattle.load_recs.specs.declared.items.SymbolItem.{SymbolItem}
use Rattle.load_recs.proofs.Spelled.{tested}
use Rattle.sym_mod.specs.declared.module.ItemKind.TheVariants as item
use Rattle.sym_mod.specs.Kinds.{has_text}
use Rattle.sym_mod.specs.Reserved.{is_reserved, segment_table, entry_table}
use Rattle.sym_mod.specs.Sound.{HasName, IsAddress, IsAlignment, IsSoundItem, StandsInOwner}
use Rattle.member_model.specs.Symbols.{symbol_at, is_sd, is_table, end_of}
use Rattle.member_model.specs.Faults.{when, label_fault}
use Rattle.member_model.specs.ReadBack.{is_gone, is_gone_as, plain_item, private_item, item_as, items_of}
use Rattle.mod_read.specs.Judged.{IsJudgedSymbol}
use Rattle.mod_read.proofs.SameFields.{or_left, or_right}
use Rattle.mod_read.proofs.JudgedFields.{when_none}
use Rattle.mod_read.proofs.KeptItems.{item_found, IsSectionOf, section_item, text_item, text_section}
use Rattle.mod_read.proofs.Members.{each_map, filter_each, each_of, has_each}

pub is_address : (n : ℕ) → n < 2 ^ 24 → IsAddress n
is_address n small = omega arith

-- ---- names

name_same : (m n : Name) → name_eq m n ≡ true → m ≡ n
name_same m n same = ap (λ (bytes : List ℕ). let name : Name = record { 0 = bytes } in name) ((bytes_eq-Decides m.0 n.0).0 same)

or_cases : (x y : Bool) → (x || y) ≡ true → (x ≡ true) ⊎ (y ≡ true)
or_cases true y some = inl refl
or_cases false y some = inr some

-- the names of tables are not blank
pub reserved_named : (name : Name) → is_reserved name ≡ true → HasName name
reserved_named name reserved = elim (or_cases (name_eq name segment_table) (name_eq name entry_table) reserved) [
  | inl e ↦ ap is_blank (name_same name segment_table e)
  | inr e ↦ ap is_blank (name_same name entry_table e)
]

-- ---- alignments

aligned : (n : ℕ) → is_alignment n ≡ true → IsAlignment (n + 1)
aligned n fine =
    elim (tested (n == 0)) [
      | inl e ↦ subst (λ n. IsAlignment (n + 1)) (sym (eqb-true n 0 e)) refl
      | inr a ↦ elim (tested (n == 1)) [
        | inl e ↦ subst (λ n. IsAlignment (n + 1)) (sym (eqb-true n 1 e)) refl
        | inr b ↦ elim (tested (n == 3)) [
          | inl e ↦ subst (λ n. IsAlignment (n + 1)) (sym (eqb-true n 3 e)) refl
          | inr c ↦ elim (tested (n == 7)) [
            | inl e ↦ subst (λ n. IsAlignment (n + 1)) (sym (eqb-true n 7 e)) refl
            | inr d ↦ absurd (none n a b c d fine)
          ]
        ]
      ]
    ]
  where
    none : (n : ℕ) → (n == 0) ≡ false → (n == 1) ≡ false → (n == 3) ≡ false → (n == 7) ≡ false → is_alignment n ≡ true → ⊥
    none n a b c d fine = absurd (grind (arith, a, b, c, d, fine))

-- ---- labels

-- a section that has text is gone where it is a table
pub text_gone : (symbols : List SymbolItem) (y : SymbolItem) (kind : SymbolKind) → is_text_kind kind ≡ true → is_gone_as symbols y kind ≡ is_table y
text_gone symbols y Sd is = refl
text_gone symbols y Pc is = refl
text_gone symbols y Cm is = cc
text_gone symbols y Er is = cc
text_gone symbols y Lr is = cc
text_gone symbols y Pr is = cc
text_gone symbols y Null is = cc
text_gone symbols y Wx is = cc

record StandsIn (x owner : SymbolItem) : Type 0 where
  pub text : is_text_kind owner.kind ≡ true
  pub from : owner.address ≤ x.address
  pub to : x.address ≤ end_of owner

label_stands : (x owner : SymbolItem) → label_fault x (Some owner) ≡ None → StandsIn x owner
label_stands x owner fine = by_kind (is_text_kind owner.kind) refl fine
  where
    by_kind : (t : Bool) → is_text_kind owner.kind ≡ t → (if not t then Some BadEsdid else when (nat_lt x.address owner.address || nat_lt (end_of owner) x.address) SectionOutside) ≡ None → StandsIn x owner
    by_kind false e h = cc
    by_kind true e h =
        let none : (nat_lt x.address owner.address || nat_lt (end_of owner) x.address) ≡ false = when_none (nat_lt x.address owner.address || nat_lt (end_of owner) x.address) SectionOutside h in
        record {
          text = e;
          from = ltb-false x.address owner.address (or_left (nat_lt x.address owner.address) (nat_lt (end_of owner) x.address) none);
          to = ltb-false (end_of owner) x.address (or_right (nat_lt x.address owner.address) (nat_lt (end_of owner) x.address) none);
        }

owner_stands : (symbols : List SymbolItem) (x : SymbolItem) (o : Option SymbolItem) → symbol_at symbols x.length ≡ o → label_fault x o ≡ None → option_map_or is_table o false ≡ false
    → StandsInOwner (items_of symbols) (item_as symbols x Lr) item.Label
owner_stands symbols x None there fine kept = cc
owner_stands symbols x (Some owner) there fine kept =
    let stands : StandsIn x owner = label_stands x owner fine in
    let stays : is_gone symbols owner ≡ false = text_gone symbols owner owner.kind stands.text ∙ kept in
    let made : IsSectionOf (item_as symbols owner owner.kind) owner = section_item symbols owner owner.kind (text_section owner.kind stands.text) in
    subst (λ o. IsSomeAnd o (λ y. IsTrue (has_text y.kind) × (y.base ≤ x.address) × (x.address ≤ y.base + y.length)))
    (sym (item_found symbols x.length owner there stays)) (
      text_item symbols owner owner.kind stands.text,
      subst (λ n. n ≤ x.address) (sym made.base) stands.from,
      reach x.address owner.address owner.length _ _ made.base made.size stands.to,
    )
  where
    reach : (a from size base len : ℕ) → base ≡ from → len ≡ size → a ≤ from + size → a ≤ base + len
    reach a from size base len e f h = omega arith

-- ---- an item

sd_sound : (symbols : List SymbolItem) (x : SymbolItem) (blank : Bool) → IsSymbol x → is_reserved x.name ≡ false
    → IsSoundItem (items_of symbols) (if blank then private_item x else plain_item x.name item.Sd x.address x.length)
sd_sound symbols x true held named = record { name = refl; base = is_address x.address held.address; size = is_address x.length held.length_fits; align = tt; owner = tt }
sd_sound symbols x false held named = record { name = named; base = is_address x.address held.address; size = is_address x.length held.length_fits; align = tt; owner = tt }

item_sound : (symbols : List SymbolItem) (x : SymbolItem) (kind : SymbolKind) → x.kind ≡ kind → IsJudgedSymbol symbols x → SuitsKind kind x → is_gone_as symbols x kind ≡ false
    → IsSoundItem (items_of symbols) (item_as symbols x kind)
item_sound symbols x Sd is judged suits kept = sd_sound symbols x (is_blank x.name) judged.held (ap (λ k. is_sd k && is_reserved x.name) (sym is) ∙ kept)
item_sound symbols x Pc is judged suits kept =
    record { name = refl; base = is_address x.address judged.held.address; size = is_address x.length judged.held.length_fits; align = tt; owner = tt }
item_sound symbols x Cm is judged suits kept =
    record { name = tt; base = is_address x.address judged.held.address; size = is_address x.length judged.held.length_fits; align = tt; owner = tt }
item_sound symbols x Lr is judged suits kept =
    record {
      name = suits.0;
      base = is_address x.address judged.held.address;
      size = omega arith;
      align = tt;
      owner = owner_stands symbols x (symbol_at symbols x.length) refl (judged.label is) kept;
    }
item_sound symbols x Pr is judged suits kept =
    record { name = tt; base = omega arith; size = is_address x.length judged.held.length_fits; align = aligned x.segment suits; owner = tt }
item_sound symbols x Er is judged suits kept = record { name = suits; base = omega arith; size = omega arith; align = tt; owner = tt }
item_sound symbols x Wx is judged suits kept = record { name = suits; base = omega arith; size = omega arith; align = tt; owner = tt }
item_sound symbols x Null is judged suits kept = absurd cc

untrue : (b : Bool) → not b ≡ true → b ≡ false
untrue true h = sym h
untrue false h = refl

pub items_sound : (symbols : List SymbolItem) → AllByRecursion (IsJudgedSymbol symbols) symbols → AllByRecursion (IsSoundItem (items_of symbols)) (items_of symbols)
items_sound symbols judged =
    each_map (IsSoundItem (items_of symbols)) (λ x. item_as symbols x x.kind) (filter (λ x. not (is_gone symbols x)) symbols)
    (filter_each (λ x. IsSoundItem (items_of symbols) (item_as symbols x x.kind)) (λ x. not (is_gone symbols x)) symbols
    (each_of (λ x. not (is_gone symbols x) ≡ true → IsSoundItem (items_of symbols) (item_as symbols x x.kind)) symbols
    (λ x there passes.
    let one : IsJudgedSymbol symbols x = has_each (IsJudgedSymbol symbols) symbols x judged there in
    item_sound symbols x x.kind refl one one.held.suits (untrue (is_gone symbols x) passes))))
