-- A sound module stays sound without the sections and labels of a name.
use Rattle.std.proofs.Common.{◌≡◌, ℕ, ◌+◌, ◌≤◌, Bool, true, false, not, ◌&&◌, ◌||◌, List, [], ◌∷◌, zero, suc, map, slice_get, Option, Some, IsSomeAnd, IsTrue, refl, sym, ap, ◌∙◌, subst, ◌⊎◌, inl, inr}
use Rattle.std.specs.List.{AllByRecursion}
use Rattle.std.specs.Option.{option_map_or}
use Rattle.std.proofs.lemmas.List.{length-map}
use Rattle.std.proofs.lemmas.List.Elements.{recursion_from_All}
use Rattle.std.proofs.lemmas.Slice.Eq.{bytes_eq-Decides}
use Rattle.le_bytes.specs.declared.name.Name.{Name}
use Rattle.le_bytes.specs.Names.{name_eq}
use Rattle.sym_mod.specs.declared.module.Item.{Item}
use Rattle.sym_mod.specs.declared.module.ItemKind.{ItemKind}
use Rattle.sym_mod.specs.declared.module.ItemKind.TheVariants.{Sd, Pc, Cm, Label, Er, Wx, Register}
use Rattle.sym_mod.specs.declared.module.SymTarget.{SymTarget}
use Rattle.sym_mod.specs.declared.module.SymTarget.TheVariants.{Own, Named, Register as NamedRegister, Total as AllRegisters}
use Rattle.sym_mod.specs.declared.module.SymModule.{SymModule}
use Rattle.sym_mod.specs.Kinds.{has_text, is_register, is_label, is_sd, is_cm}
use Rattle.sym_mod.specs.Sound.{HasName, HasProperName, StandsInOwner, IsSoundItem, IsSoundModule}
use Rattle.sym_edit.specs.Without.{stays}
use Rattle.sym_edit.specs.SoundWithout.{MayGo, IsNamedIfGone, IsSoundBut}
use Rattle.sym_edit.specs.Edited.{is_section_named, is_defined_as, stands_in, gone_with}
use Rattle.sym_edit.proofs.Moved.{all_at, some_at}

pub name_same : (m n : Name) → name_eq m n ≡ true → m ≡ n
name_same m n same = ap (λ (bytes : List ℕ). let name : Name = record { 0 = bytes } in name) ((bytes_eq-Decides m.0 n.0).0 same)

-- whether an item goes
abbrev goes : Name → List Item → Item → Bool
goes old items x = is_defined_as old x || stands_in old items x

-- what the list says of an item is what the test says
told : (f : Item → Bool) (items : List Item) (i : ℕ) (x : Item) (b : Bool) → slice_get (map f items) i ≡ Some b → slice_get items i ≡ Some x → f x ≡ b
told f [] i x b is there = absurd (cc is)
told f (y ∷ items) zero x b is there = cc (is, there)
told f (y ∷ items) (suc i) x b is there = told f items i x b is there

-- and the other way round
asked : (f : Item → Bool) (items : List Item) (i : ℕ) (x : Item) → slice_get items i ≡ Some x → slice_get (map f items) i ≡ Some (f x)
asked f [] i x there = absurd (cc there)
asked f (y ∷ items) zero x there = cc there
asked f (y ∷ items) (suc i) x there = asked f items i x there

either : (b c : Bool) → (b || c) ≡ true → (b ≡ true) ⊎ (c ≡ true)
either true c is = inl refl
either false c is = inr is

neither : (b c : Bool) → (b || c) ≡ false → (b ≡ false) × (c ≡ false)
neither true c is = absurd (cc is)
neither false c is = (refl, is)

both : (b c : Bool) → (b && c) ≡ true → (b ≡ true) × (c ≡ true)
both true c is = (refl, is)
both false c is = absurd (cc is)

-- what has the name has a name
named_as : (old : Name) (x : Item) (b : Bool) → HasName old → (b && name_eq x.name old) ≡ true → HasName x.name
named_as old x b has is =
    let same : x.name ≡ old = name_same x.name old (both b (name_eq x.name old) is).1 in
    subst HasName (sym same) has

label_named : (name : Name) (kind : ItemKind) → is_label kind ≡ true → HasProperName name kind → HasName name
label_named name Label is h = h
label_named name Sd is h = absurd (cc is)
label_named name Pc is h = absurd (cc is)
label_named name Cm is h = absurd (cc is)
label_named name Er is h = absurd (cc is)
label_named name Wx is h = absurd (cc is)
label_named name Register is h = absurd (cc is)

goes_named : (old : Name) (items : List Item) (x : Item) → HasName old → IsSoundItem items x → goes old items x ≡ true → HasName x.name
goes_named old items x has s is = elim (either (is_defined_as old x) (stands_in old items x) is) [
  | inl defined ↦ named_as old x (is_sd x.kind || is_cm x.kind || is_label x.kind) has defined
  | inr stands ↦ label_named x.name x.kind (both (is_label x.kind) (option_map_or (is_section_named old) (slice_get items x.owner) false) stands).0 s.name
]

defined_kind : (kind : ItemKind) (b : Bool) → ((is_sd kind || is_cm kind || is_label kind) && b) ≡ true → is_register kind ≡ false
defined_kind Register b is = absurd (cc is)
defined_kind Sd b is = refl
defined_kind Pc b is = refl
defined_kind Cm b is = refl
defined_kind Label b is = refl
defined_kind Er b is = refl
defined_kind Wx b is = refl

label_kind : (kind : ItemKind) (b : Bool) → (is_label kind && b) ≡ true → is_register kind ≡ false
label_kind Register b is = absurd (cc is)
label_kind Sd b is = refl
label_kind Pc b is = refl
label_kind Cm b is = refl
label_kind Label b is = refl
label_kind Er b is = refl
label_kind Wx b is = refl

goes_symbol : (old : Name) (items : List Item) (x : Item) → goes old items x ≡ true → is_register x.kind ≡ false
goes_symbol old items x is = elim (either (is_defined_as old x) (stands_in old items x) is) [
  | inl defined ↦ defined_kind x.kind (name_eq x.name old) defined
  | inr stands ↦ label_kind x.kind (option_map_or (is_section_named old) (slice_get items x.owner) false) stands
]

-- an SD or PC that is no section of the name stays
owner_kind : (kind : ItemKind) (b c : Bool) → has_text kind ≡ true → ((is_sd kind || is_cm kind) && b) ≡ false → (((is_sd kind || is_cm kind || is_label kind) && b) || (is_label kind && c)) ≡ false
owner_kind Sd b c has is = rw is refl
owner_kind Pc b c has is = refl
owner_kind Cm b c has is = absurd (cc has)
owner_kind Label b c has is = absurd (cc has)
owner_kind Er b c has is = absurd (cc has)
owner_kind Wx b c has is = absurd (cc has)
owner_kind Register b c has is = absurd (cc has)

owner_stays : (old : Name) (items : List Item) (x : Item) → StandsInOwner items x Label → x.kind ≡ Label → goes old items x ≡ false → stays (gone_with old items) x.owner ≡ true
owner_stays old items x owner label is =
    let there = some_at (λ (y : Item). IsTrue (has_text y.kind) × (y.base ≤ x.base) × (x.base ≤ y.base + y.length)) (slice_get items x.owner) owner in
    let no_stand : stands_in old items x ≡ false = (neither (is_defined_as old x) (stands_in old items x) is).1 in
    let no_section : is_section_named old there.0 ≡ false = section_no x.kind (slice_get items x.owner) there.0 label there.1 no_stand in
    let kept : goes old items there.0 ≡ false = owner_kind there.0.kind (name_eq there.0.name old) (option_map_or (is_section_named old) (slice_get items there.0.owner) false) there.2.0 no_section in
    ap (λ o. option_map_or not o false) (asked (goes old items) items x.owner there.0 there.1 ∙ ap Some kept)
  where
    section_no : (kind : ItemKind) (o : Option Item) (y : Item) → kind ≡ Label → o ≡ Some y → (is_label kind && option_map_or (is_section_named old) o false) ≡ false → is_section_named old y ≡ false
    section_no kind o y label there is = rw (label, there) at is

may_go : (old : Name) (m : SymModule) → IsSoundModule m → HasName old → MayGo (gone_with old m.items) m.items
may_go old m s has =
    let all = recursion_from_All (IsSoundItem m.items) m.items s.items in
    record {
      symbols = λ i x goes_ is. goes_symbol old m.items x (told (goes old m.items) m.items i x true goes_ is);
      labels = λ i x stays_ is label.
          owner_stays old m.items x (subst (StandsInOwner m.items x) label (all_at (IsSoundItem m.items) m.items i x all is).owner) label
          (told (goes old m.items) m.items i x false stays_ is);
    }

-- what the list says of an item, the test says of it
found : (f : Item → Bool) (items : List Item) (i : ℕ) → slice_get (map f items) i ≡ Some true → IsSomeAnd (slice_get items i) (λ x. f x ≡ true)
found f [] i is = absurd (cc is)
found f (y ∷ items) zero is = cc is
found f (y ∷ items) (suc i) is = found f items i is

named_at : (items : List Item) (i : ℕ) (f : Item → Bool) (P : Item → Type 0) → ((x : Item) → P x → f x ≡ true → HasName x.name) → AllByRecursion P items → IsSomeAnd (slice_get items i) (λ x. f x ≡ true) → IsSomeAnd (slice_get items i) (λ x. HasName x.name)
named_at [] i f P has all h = absurd h
named_at (y ∷ items) zero f P has all h = has y all.0 h
named_at (y ∷ items) (suc i) f P has all h = named_at items i f P has all.1 h

named_target : (old : Name) (m : SymModule) (target : SymTarget) → IsSoundModule m → HasName old → IsNamedIfGone (gone_with old m.items) m.items target
named_target old m (Own i) s has = λ is.
    named_at m.items i (goes old m.items) (IsSoundItem m.items) (λ x sound there. goes_named old m.items x has sound there)
    (recursion_from_All (IsSoundItem m.items) m.items s.items) (found (goes old m.items) m.items i is)
named_target old m (Named name) s has = tt
named_target old m (NamedRegister name) s has = tt
named_target old m AllRegisters s has = tt

pub sound_but : (old : Name) (m : SymModule) → IsSoundModule m → HasName old → IsSoundBut (gone_with old m.items) m
sound_but old m s has =
    let all = recursion_from_All (IsSoundItem m.items) m.items s.items in
    record {
      long = length-map m.items (goes old m.items);
      going = may_go old m s has;
      items = λ i x stays_ is. all_at (IsSoundItem m.items) m.items i x all is;
      fragments = s.fragments;
      constants = s.constants;
      named = λ k d within l e inside. named_target old m _ s has;
      apart = s.apart;
      entry = s.entry;
    }
