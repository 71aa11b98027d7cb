-- A module that is sound but for the names of what goes is sound without it.
use Rattle.std.proofs.Common.{◌≡◌, ℕ, ◌+◌, ◌≤◌, Bool, true, false, not, cond, List, [], ◌∷◌, zero, suc, length, map, slice_get, filter_map, Option, Some, None, option_map, IsSomeAnd, IsTrue, refl, sym, ap, ◌∙◌, subst, arith, ◌⊎◌, inl, inr}
use Rattle.std.specs.Prelude.{All, IsFalse, unwrap_or}
use Rattle.std.specs.List.{list_any}
use Rattle.std.specs.Option.{option_map_or}
use Rattle.std.proofs.lemmas.List.Elements.{All-from_recursion, recursion_from_All, All-map}
use Rattle.le_bytes.specs.declared.name.Name.{Name}
use Rattle.sym_mod.specs.declared.module.Item.{Item}
use Rattle.sym_mod.specs.declared.module.ItemKind.{ItemKind}
use Rattle.sym_mod.specs.declared.module.ItemKind.TheVariants.{Sd, Pc, Cm, Label, Er, Wx, Register}
use Rattle.sym_mod.specs.declared.module.Kind.{Kind}
use Rattle.sym_mod.specs.declared.module.Kind.TheVariants.{Address, Branch, Displacement, Total as TotalKind}
use Rattle.sym_mod.specs.declared.module.Frag.{Frag}
use Rattle.sym_mod.specs.declared.module.SymConst.{SymConst}
use Rattle.sym_mod.specs.declared.module.SymTerm.{SymTerm}
use Rattle.sym_mod.specs.declared.module.SymTarget.{SymTarget}
use Rattle.sym_mod.specs.declared.module.SymTarget.TheVariants.{Own, Named, Register as NamedRegister, Total as AllRegisters}
use Rattle.sym_mod.specs.declared.module.SymEntry.{SymEntry}
use Rattle.sym_mod.specs.declared.module.SymEntry.TheVariants.{None as NoEntry, At, Named as AtName}
use Rattle.sym_mod.specs.declared.module.SymModule.{SymModule}
use Rattle.sym_mod.specs.Kinds.{has_text, is_section, is_register, is_label}
use Rattle.sym_mod.specs.Sound.{HasName, StandsInOwner, IsSoundItem, LieInItem, is_register_named, RefersToSymbol, FitsKind, HaveProperSigns, IsAddress, IsSoundConst, AreApart, IsSoundEntry, IsSoundModule}
use Rattle.sym_edit.specs.Without.{stays, stay_before, new_number, item_without, remaining, fragment_without, reference, target_without, term_without, constant_without, entry_without, without}
use Rattle.sym_edit.specs.SoundWithout.{MayGo, IsNamedIfGone, IsSoundBut}
use Rattle.sym_edit.proofs.Numbered.{numbered, same_place, number_staying, number_going}
use Rattle.sym_edit.proofs.Moved.{moved, all_remaining, any_remaining, all_filter_map, all_pairs, each_pair, pairs_filter_map, map-map, some_at}

-- ---- items

-- the items that stay
abbrev pub left : List Bool → List Item → List Item
left gone items = map (item_without gone) (remaining gone items)

-- an item with another owner, where it is a label
abbrev with_owner : Bool → Item → ℕ → Item
with_owner b x n = cond b (record x { owner = n }) x

name_same_case : (b : Bool) (x : Item) (n : ℕ) → (with_owner b x n).name ≡ x.name
name_same_case true x n = refl
name_same_case false x n = refl

kind_same_case : (b : Bool) (x : Item) (n : ℕ) → (with_owner b x n).kind ≡ x.kind
kind_same_case true x n = refl
kind_same_case false x n = refl

base_same_case : (b : Bool) (x : Item) (n : ℕ) → (with_owner b x n).base ≡ x.base
base_same_case true x n = refl
base_same_case false x n = refl

length_same_case : (b : Bool) (x : Item) (n : ℕ) → (with_owner b x n).length ≡ x.length
length_same_case true x n = refl
length_same_case false x n = refl

pub name-item_without : (gone : List Bool) (x : Item) → (item_without gone x).name ≡ x.name
unfolding item_without
name-item_without gone x = name_same_case (is_label x.kind) x (unwrap_or (new_number gone x.owner) x.owner)

pub kind-item_without : (gone : List Bool) (x : Item) → (item_without gone x).kind ≡ x.kind
unfolding item_without
kind-item_without gone x = kind_same_case (is_label x.kind) x (unwrap_or (new_number gone x.owner) x.owner)

pub base-item_without : (gone : List Bool) (x : Item) → (item_without gone x).base ≡ x.base
unfolding item_without
base-item_without gone x = base_same_case (is_label x.kind) x (unwrap_or (new_number gone x.owner) x.owner)

pub length-item_without : (gone : List Bool) (x : Item) → (item_without gone x).length ≡ x.length
unfolding item_without
length-item_without gone x = length_same_case (is_label x.kind) x (unwrap_or (new_number gone x.owner) x.owner)

-- bytes that lie in an item that stays lie in it still
lie_left : (gone : List Bool) (items : List Item) (i offset n : ℕ) → stays gone i ≡ true → LieInItem items i offset n → LieInItem (left gone items) (stay_before gone i) offset n
lie_left gone items i offset n is h =
    moved (item_without gone) (λ x. IsTrue (has_text x.kind) × (offset + n ≤ x.length)) (λ x. IsTrue (has_text x.kind) × (offset + n ≤ x.length))
    (λ x p. rw (kind-item_without gone x, length-item_without gone x) p) gone items i is h

label_kind : (kind : ItemKind) → is_label kind ≡ true → kind ≡ Label
label_kind Label is = refl
label_kind Sd is = absurd (cc is)
label_kind Pc is = absurd (cc is)
label_kind Cm is = absurd (cc is)
label_kind Er is = absurd (cc is)
label_kind Wx is = absurd (cc is)
label_kind Register is = absurd (cc is)

no_owner : (items : List Item) (x : Item) (kind : ItemKind) → is_label kind ≡ false → StandsInOwner items x kind
no_owner items x Label is = absurd (cc is)
no_owner items x Sd is = tt
no_owner items x Pc is = tt
no_owner items x Cm is = tt
no_owner items x Er is = tt
no_owner items x Wx is = tt
no_owner items x Register is = tt

owner_left : (gone : List Bool) (items : List Item) (x : Item) → stays gone x.owner ≡ true → StandsInOwner items x Label → StandsInOwner (left gone items) (record x { owner = unwrap_or (new_number gone x.owner) x.owner }) Label
owner_left gone items x is h = rw (number_staying gone x.owner is) (
    moved (item_without gone)
    (λ owner. IsTrue (has_text owner.kind) × (owner.base ≤ x.base) × (x.base ≤ owner.base + owner.length))
    (λ owner. IsTrue (has_text owner.kind) × (owner.base ≤ x.base) × (x.base ≤ owner.base + owner.length))
    (λ owner p. rw (kind-item_without gone owner, base-item_without gone owner, length-item_without gone owner) p)
    gone items x.owner is h
    )

item_case : (gone : List Bool) (items : List Item) (x : Item) (b : Bool) → is_label x.kind ≡ b → (x.kind ≡ Label → stays gone x.owner ≡ true) → IsSoundItem items x → IsSoundItem (left gone items) (with_owner b x (unwrap_or (new_number gone x.owner) x.owner))
item_case gone items x true is owned s =
    let label : x.kind ≡ Label = label_kind x.kind is in
    let owner : StandsInOwner items x Label = subst (StandsInOwner items x) label s.owner in
    record {
      name = s.name;
      base = s.base;
      size = s.size;
      align = s.align;
      owner = subst (StandsInOwner (left gone items) (record x { owner = unwrap_or (new_number gone x.owner) x.owner })) (sym label) (owner_left gone items x (owned label) owner);
    }
item_case gone items x false is owned s = record {
  name = s.name;
  base = s.base;
  size = s.size;
  align = s.align;
  owner = no_owner (left gone items) x x.kind is;
}

item_left : (gone : List Bool) (items : List Item) (x : Item) → (x.kind ≡ Label → stays gone x.owner ≡ true) → IsSoundItem items x → IsSoundItem (left gone items) (item_without gone x)
unfolding item_without
item_left gone items x owned s = item_case gone items x (is_label x.kind) refl owned s

-- ---- text

fragment_case : (gone : List Bool) (items : List Item) (f : Frag) (o : Option ℕ) (y : Frag) → new_number gone f.item ≡ o → option_map (λ n. record f { item = n }) o ≡ Some y → LieInItem items f.item f.offset (length f.bytes) → LieInItem (left gone items) y.item y.offset (length y.bytes)
fragment_case gone items f None y number is h = absurd (cc is)
fragment_case gone items f (Some n) y number is h =
    let at = numbered gone f.item n number in
    let same : record f { item = n } ≡ y = cc is in
    subst (λ (z : Frag). LieInItem (left gone items) z.item z.offset (length z.bytes)) same
    (subst (λ (k : ℕ). LieInItem (left gone items) k f.offset (length f.bytes)) at.1 (lie_left gone items f.item f.offset (length f.bytes) at.0 h))

fragment_left : (gone : List Bool) (items : List Item) (f y : Frag) → fragment_without gone f ≡ Some y → LieInItem items f.item f.offset (length f.bytes) → LieInItem (left gone items) y.item y.offset (length y.bytes)
unfolding fragment_without
fragment_left gone items f y is h = fragment_case gone items f (new_number gone f.item) y refl is h

-- ---- targets

register_stays : (gone : List Bool) (items : List Item) (name : Name) → length gone ≡ length items → MayGo gone items → IsTrue (list_any (is_register_named name) items) → IsTrue (list_any (is_register_named name) (left gone items))
register_stays gone items name long may some =
    any_remaining (item_without gone) (is_register_named name) (is_register_named name)
    (λ x p. rw (kind-item_without gone x, name-item_without gone x) p)
    gone items long (λ i x goes is. rw (may.symbols i x goes is) refl) some

bool_cases : (b : Bool) → (b ≡ true) ⊎ (b ≡ false)
bool_cases true = inl refl
bool_cases false = inr refl

-- an item that is one of the module and does not stay goes
goes_case : (o : Option Bool) (b : Bool) → o ≡ Some b → option_map_or not o false ≡ false → o ≡ Some true
goes_case o true is not_staying = is
goes_case o false is not_staying = absurd (cc (ap (λ (z : Option Bool). option_map_or not z false) is, not_staying))

one_of_two : (gone : List Bool) (items : List Item) (i : ℕ) (x : Item) → length gone ≡ length items → slice_get items i ≡ Some x → (b : Bool) × (slice_get gone i ≡ Some b)
one_of_two [] [] i x long is = absurd (cc is)
one_of_two [] (y ∷ items) i x long is = absurd (omega arith)
one_of_two (g ∷ gone) [] i x long is = absurd (omega arith)
one_of_two (g ∷ gone) (y ∷ items) zero x long is = (g, refl)
one_of_two (g ∷ gone) (y ∷ items) (suc i) x long is = one_of_two gone items i x (omega arith) is

own_case : (gone : List Bool) (items : List Item) (i : ℕ) → length gone ≡ length items → (stays gone i ≡ true) ⊎ (stays gone i ≡ false) → IsNamedIfGone gone items (Own i) → RefersToSymbol items (Own i) → RefersToSymbol (left gone items) (reference i (new_number gone i) (slice_get items i))
own_case gone items i long (inl is) named h =
    rw (number_staying gone i is)
    (moved (item_without gone) (λ x. IsFalse (is_register x.kind)) (λ x. IsFalse (is_register x.kind)) (λ x p. rw (kind-item_without gone x) p) gone items i is h)
own_case gone items i long (inr is) named h =
    let there = some_at (λ (x : Item). IsFalse (is_register x.kind)) (slice_get items i) h in
    let one = one_of_two gone items i there.0 long there.1 in
    let has : HasName there.0.name = name_at (slice_get items i) there.0 there.1 (named (goes_case (slice_get gone i) one.0 one.1 is)) in
    rw (number_going gone i is, there.1) has
  where
    name_at : (o : Option Item) (x : Item) → o ≡ Some x → IsSomeAnd o (λ y. HasName y.name) → HasName x.name
    name_at o x is h = rw is at h

symbol_left : (gone : List Bool) (items : List Item) (target : SymTarget) → length gone ≡ length items → IsNamedIfGone gone items target → RefersToSymbol items target → RefersToSymbol (left gone items) (target_without gone items target)
unfolding target_without
symbol_left gone items (Own i) long named h = own_case gone items i long (bool_cases (stays gone i)) named h
symbol_left gone items (Named name) long named h = h
symbol_left gone items (NamedRegister name) long named h = absurd h
symbol_left gone items AllRegisters long named h = absurd h

target_left : (gone : List Bool) (items : List Item) (kind : Kind) (target : SymTarget) → length gone ≡ length items → MayGo gone items → IsNamedIfGone gone items target → FitsKind items kind target → FitsKind (left gone items) kind (target_without gone items target)
unfolding target_without
target_left gone items Address target long may named h = symbol_left gone items target long named h
target_left gone items Branch target long may named h = symbol_left gone items target long named h
target_left gone items Displacement (NamedRegister name) long may named h = register_stays gone items name long may h
target_left gone items Displacement (Own i) long may named h = absurd h
target_left gone items Displacement (Named name) long may named h = absurd h
target_left gone items Displacement AllRegisters long may named h = absurd h
target_left gone items TotalKind AllRegisters long may named h = tt
target_left gone items TotalKind (Own i) long may named h = absurd h
target_left gone items TotalKind (Named name) long may named h = absurd h
target_left gone items TotalKind (NamedRegister name) long may named h = absurd h

-- ---- constants

all_terms : (P Q : SymTerm → Type 0) (f : SymTerm → SymTerm) (terms : List SymTerm) → ((t : SymTerm) → P t → Q (f t)) → All P terms → All Q (map f terms)
all_terms P Q f terms keeps all = All-map Q f terms (λ k d within. keeps _ (all k d within))

-- a sound constant, whose terms have names where they go
abbrev IsConstBut : List Bool → List Item → SymConst → Type 0
IsConstBut gone items c = IsSoundConst items c × All (λ t. IsNamedIfGone gone items t.target) c.terms

const_sound : (gone : List Bool) (items : List Item) (c : SymConst) (n : ℕ) → length gone ≡ length items → MayGo gone items → (stays gone c.item ≡ true) × (stay_before gone c.item ≡ n) → IsConstBut gone items c → IsSoundConst (left gone items) (record c { item = n; terms = map (term_without gone items) c.terms })
const_sound gone items c n long may at s = record {
  not_empty = s.0.not_empty;
  short = s.0.short;
  inside = subst (λ (k : ℕ). LieInItem (left gone items) k c.offset c.length) at.1 (lie_left gone items c.item c.offset c.length at.0 s.0.inside);
  signs = subst (HaveProperSigns c.kind) (sym (map-map (term_without gone items) (λ (t : SymTerm). t.minus) (λ (t : SymTerm). t.minus) (λ t. refl) c.terms)) s.0.signs;
  targets = all_terms (λ t. IsNamedIfGone gone items t.target × FitsKind items c.kind t.target) (λ t. FitsKind (left gone items) c.kind t.target) (term_without gone items) c.terms
      (λ t both. target_left gone items c.kind t.target long may both.0 both.1) (λ k d within. (s.1 k d within, s.0.targets k d within));
  bases = all_terms (λ t. IsAddress t.base) (λ t. IsAddress t.base) (term_without gone items) c.terms (λ t small. small) s.0.bases;
}

const_case : (gone : List Bool) (items : List Item) (c : SymConst) (o : Option ℕ) (y : SymConst) → length gone ≡ length items → MayGo gone items → new_number gone c.item ≡ o → option_map (λ n. record c { item = n; terms = map (term_without gone items) c.terms }) o ≡ Some y → IsConstBut gone items c → IsSoundConst (left gone items) y
const_case gone items c None y long may number is s = absurd (cc is)
const_case gone items c (Some n) y long may number is s =
    let same : record c { item = n; terms = map (term_without gone items) c.terms } ≡ y = cc is in
    subst (IsSoundConst (left gone items)) same (const_sound gone items c n long may (numbered gone c.item n number) s)

const_left : (gone : List Bool) (items : List Item) (c y : SymConst) → length gone ≡ length items → MayGo gone items → constant_without gone items c ≡ Some y → IsConstBut gone items c → IsSoundConst (left gone items) y
unfolding constant_without
const_left gone items c y long may is s = const_case gone items c (new_number gone c.item) y long may refl is s

-- where the constant stands, and that it is as long
record StandsAs (gone : List Bool) (c y : SymConst) : Type 0 where
  staying : stays gone c.item ≡ true
  at : stay_before gone c.item ≡ y.item
  offset : c.offset ≡ y.offset
  size : c.length ≡ y.length

stands_case : (gone : List Bool) (items : List Item) (c : SymConst) (o : Option ℕ) (y : SymConst) → new_number gone c.item ≡ o → option_map (λ n. record c { item = n; terms = map (term_without gone items) c.terms }) o ≡ Some y → StandsAs gone c y
stands_case gone items c None y number is = absurd (cc is)
stands_case gone items c (Some n) y number is =
    let same : record c { item = n; terms = map (term_without gone items) c.terms } ≡ y = cc is in
    let at = numbered gone c.item n number in
    subst (StandsAs gone c) same (record { staying = at.0; at = at.1; offset = refl; size = refl })

stands_as : (gone : List Bool) (items : List Item) (c y : SymConst) → constant_without gone items c ≡ Some y → StandsAs gone c y
unfolding constant_without
stands_as gone items c y is = stands_case gone items c (new_number gone c.item) y refl is

apart_left : (gone : List Bool) (items : List Item) (c d u v : SymConst) → constant_without gone items c ≡ Some u → constant_without gone items d ≡ Some v → AreApart c d → AreApart u v
apart_left gone items c d u v one two apart same =
    let a = stands_as gone items c u one in
    let b = stands_as gone items d v two in
    let there : c.item ≡ d.item = same_place gone c.item d.item a.staying b.staying (a.at ∙ same ∙ sym b.at) in
    rw (sym a.offset, sym a.size, sym b.offset, sym b.size) (apart there)

-- ---- the entry

entry_case : (gone : List Bool) (items : List Item) (i offset : ℕ) (o : Option ℕ) → new_number gone i ≡ o → IsSoundEntry items (At i offset) → IsSoundEntry (left gone items) (option_map_or (λ n. At n offset) o NoEntry)
entry_case gone items i offset None number h = tt
entry_case gone items i offset (Some n) number h =
    let at = numbered gone i n number in
    subst (λ (k : ℕ). IsSoundEntry (left gone items) (At k offset)) at.1
    (moved (item_without gone) (λ x. IsTrue (is_section x.kind) × (offset ≤ x.length)) (λ x. IsTrue (is_section x.kind) × (offset ≤ x.length))
    (λ x p. rw (kind-item_without gone x, length-item_without gone x) p) gone items i at.0 h)

entry_left : (gone : List Bool) (items : List Item) (e : SymEntry) → IsSoundEntry items e → IsSoundEntry (left gone items) (entry_without gone e)
unfolding entry_without
entry_left gone items NoEntry h = tt
entry_left gone items (At i offset) h = entry_case gone items i offset (new_number gone i) refl h
entry_left gone items (AtName name) h = h

-- ---- the module

pub left_sound : (gone : List Bool) (m : SymModule) → IsSoundBut gone m → IsSoundModule (without gone m)
unfolding without
left_sound gone m s =
    let items = left gone m.items in
    record {
      items = All-from_recursion (IsSoundItem items) items (all_remaining (item_without gone) (IsSoundItem items) gone m.items
          (λ i x stays is. item_left gone m.items x (λ label. s.going.labels i x stays is label) (s.items i x stays is)));
      fragments = All-from_recursion (λ f. LieInItem items f.item f.offset (length f.bytes)) (filter_map (fragment_without gone) m.fragments)
          (all_filter_map (fragment_without gone) (λ f. LieInItem m.items f.item f.offset (length f.bytes)) (λ f. LieInItem items f.item f.offset (length f.bytes))
          (λ f y is h. fragment_left gone m.items f y is h) m.fragments
          (recursion_from_All (λ f. LieInItem m.items f.item f.offset (length f.bytes)) m.fragments s.fragments));
      constants = All-from_recursion (IsSoundConst items) (filter_map (constant_without gone m.items) m.constants)
          (all_filter_map (constant_without gone m.items) (IsConstBut gone m.items) (IsSoundConst items)
          (λ c y is h. const_left gone m.items c y s.long s.going is h) m.constants
          (recursion_from_All (IsConstBut gone m.items) m.constants (λ k d within. (s.constants k d within, s.named k d within))));
      apart = all_pairs AreApart (filter_map (constant_without gone m.items) m.constants)
          (pairs_filter_map (constant_without gone m.items) AreApart AreApart (λ c d u v one two apart. apart_left gone m.items c d u v one two apart)
          m.constants (each_pair AreApart m.constants s.apart));
      entry = entry_left gone m.items m.entry s.entry;
    }

-- put together from its parts
pub left_whole : (gone numbers : List Bool) (m : SymModule) (from items : List Item) (old fragments : List Frag) (was constants : List SymConst) (entry : SymEntry) → numbers ≡ gone → from ≡ m.items → old ≡ m.fragments → was ≡ m.constants → items ≡ map (item_without numbers) (remaining gone from) → fragments ≡ filter_map (fragment_without numbers) old → constants ≡ filter_map (constant_without numbers from) was → entry ≡ entry_without numbers m.entry → IsSoundBut gone m → IsSoundModule (record { items = items; fragments = fragments; constants = constants; entry = entry })
unfolding without
left_whole gone numbers m from items old fragments was constants entry n f o w a b c d s =
    let same : record { items = items; fragments = fragments; constants = constants; entry = entry } ≡ without gone m = rw (a, b, c, d, n, f, o, w) refl in
    subst IsSoundModule (sym same) (left_sound gone m s)
