-- Items, entry and text of the module.
use Rattle.std.proofs.Common.{arith, ◌≡◌, ℕ, zero, suc, ◌+◌, ◌-◌, ◌≤◌, Bool, true, false, not, if◌then◌else◌, List, [], ◌∷◌, length, map, take, slice_get, Option, Some, None, refl, sym, ◌∙◌, ap, subst}
use Rattle.std.specs.Prelude.{IsTrue, IsSomeAnd}
use Rattle.std.specs.List.{list_any, AllByRecursion}
use Rattle.std.specs.Option.{option_map_or}
use Rattle.le_bytes.specs.declared.card_what.CardWhat.{CardWhat}
use Rattle.le_bytes.specs.declared.card_what.CardWhat.TheVariants.{UnknownEsdid, LabelOutside, EntryOutside}
use Rattle.le_bytes.specs.Names.{is_blank}
use Rattle.obj_cards.specs.declared.card.EsdKind.{EsdKind}
use Rattle.obj_cards.specs.declared.card.EsdKind.TheVariants.{Sd, Ld, Er, Pc, Cm, Pr, Wx}
use Rattle.obj_cards.specs.declared.card.EsdItem.{EsdItem}
use Rattle.obj_cards.specs.declared.card.TxtCard.{TxtCard}
use Rattle.obj_cards.specs.declared.card.EndStart.{EndStart}
use Rattle.sym_mod.specs.declared.module.ItemKind.{ItemKind}
use Rattle.sym_mod.specs.Kinds.{has_text as has_item_text}
use Rattle.sym_mod.specs.Sound.{StandsInOwner, IsSoundItem, LieInItem, IsSoundEntry}
use Rattle.obj_read.specs.declared.numbered.Numbered.{Numbered}
use Rattle.obj_read.specs.Facts.{is_label, has_text, with_esdid}
use Rattle.obj_read.specs.Module.{symbol, symbol_kind, owner_for, base_of, number_or, fragment}
use Rattle.obj_read.specs.Faults.{when, if_text, section_of, lie_in, label_fault, labels_fault, start_fault, is_text_outside}
use Rattle.obj_read.specs.Kept.{IsKeptItem, HasSection}
use Rattle.obj_read.proofs.Kept.{or_none_left, or_none_right, when_none, not_false}
use Rattle.obj_cards.specs.declared.card.EndStart.TheVariants.{None as NoStart, At as StartAt, Named as StartNamed}
use Rattle.obj_cards.specs.End.{IsEndStart}
use Rattle.sym_mod.specs.declared.module.ItemKind.TheVariants.{Sd as Section, Pc as Private}
use Rattle.sym_mod.specs.Kinds.{is_section}
use Rattle.obj_read.specs.Module.{entry}
use Rattle.obj_read.proofs.Joined.{or_left, or_right}
use Rattle.obj_read.proofs.Found.{Found, found_section, base_found, at_section, lie_from, lie_to, lies_in_item, proper_name, proper_alignment, small_length, address_small}

pub section_is : (k : ItemKind) → has_item_text k ≡ true → is_section k ≡ true
section_is Section has = refl
section_is Private has = refl
section_is _ has = cc

-- ---- labels and entry

pub label_step : (b : Bool) (fault : Option CardWhat) → (if b then fault else None) ≡ None → b ≡ true → fault ≡ None
label_step true fault none is = none
label_step false fault none is = cc

pub labels_clear : (items more : List Numbered) → labels_fault items more ≡ None
    → AllByRecursion (λ x. is_label x.item.kind ≡ true → label_fault items x.item ≡ None) more
labels_clear items [] none = tt
labels_clear items (l ∷ more) none = (
  label_step (is_label l.item.kind) (label_fault items l.item) (or_none_left (if is_label l.item.kind then label_fault items l.item else None) (labels_fault items more) none),
  labels_clear items more (or_none_right (if is_label l.item.kind then label_fault items l.item else None) (labels_fault items more) none),
)

pub lies_at : (o : Option EsdItem) (lies : EsdItem → Bool) (w u : CardWhat) → option_map_or (λ x. when (not (lies x)) w) o (Some u) ≡ None
    → (s : EsdItem) × (o ≡ Some s) × (lies s ≡ true)
lies_at None lies w u none = cc
lies_at (Some s) lies w u none = (s, refl, not_false (lies s) (when_none (not (lies s)) w none))

pub proper_owner : (items : List Numbered) (x : Numbered) (k : EsdKind) (b : Bool) → x.item.kind ≡ k
    → (is_label k ≡ true → label_fault items x.item ≡ None) → StandsInOwner (map (symbol items) items) (symbol items x) (symbol_kind k b)
proper_owner items x Ld b is clear =
    let s : (s : EsdItem) × (section_of items x.item.length ≡ Some s) × (lie_in s x.item.address 0 ≡ true) =
    lies_at (section_of items x.item.length) (λ x'. lie_in x' x.item.address 0) LabelOutside UnknownEsdid (clear refl) in
    let f : Found items x.item.length s.0 = found_section items x.item.length s.0 s.1 in
    let from : s.0.address ≤ x.item.address = lie_from s.0 x.item.address 0 s.2 in
    let to : x.item.address + 0 ≤ s.0.address + s.0.length = lie_to s.0 x.item.address 0 s.2 in
    subst (λ n. IsSomeAnd (slice_get (map (symbol items) items) n) (λ owner. IsTrue (has_item_text owner.kind) × (owner.base ≤ x.item.address) × (x.item.address ≤ owner.base + owner.length)))
    (ap (λ k. owner_for items x.item k) (sym is))
    (at_section items x.item.length s.0 (λ owner. IsTrue (has_item_text owner.kind) × (owner.base ≤ x.item.address) × (x.item.address ≤ owner.base + owner.length)) f
    (λ o text base len. (text, omega arith, omega arith)))
proper_owner items x Sd true is clear = tt
proper_owner items x Sd false is clear = tt
proper_owner items x Er b is clear = tt
proper_owner items x Pc b is clear = tt
proper_owner items x Cm b is clear = tt
proper_owner items x Pr b is clear = tt
proper_owner items x Wx b is clear = tt

pub sound_item : (items : List Numbered) (x : Numbered) → IsKeptItem x × (is_label x.item.kind ≡ true → label_fault items x.item ≡ None)
    → IsSoundItem (map (symbol items) items) (symbol items x)
sound_item items x both = record {
  name = proper_name x.item.kind x.item both.0.item.suits both.0.name;
  base = address_small x.item.address both.0.item.address;
  size = small_length x.item.kind x.item (address_small x.item.length both.0.item.length);
  align = proper_alignment x.item.kind x.item (is_blank x.item.name) both.0.item.suits;
  owner = proper_owner items x x.item.kind (is_blank x.item.name) refl both.1;
}

pub sound_entry : (items : List Numbered) (start : EndStart) → IsEndStart start → start_fault items start ≡ None
    → IsSoundEntry (map (symbol items) items) (entry items start)
sound_entry items NoStart good none = tt
sound_entry items (StartAt a id) good none =
    let s : (s : EsdItem) × (section_of items id ≡ Some s) × (lie_in s a 0 ≡ true) =
    lies_at (section_of items id) (λ x. lie_in x a 0) EntryOutside UnknownEsdid none in
    let f : Found items id s.0 = found_section items id s.0 s.1 in
    let b : base_of items id ≡ s.0.address = base_found items id s.0 f in
    let from : s.0.address ≤ a = lie_from s.0 a 0 s.2 in
    let to : a + 0 ≤ s.0.address + s.0.length = lie_to s.0 a 0 s.2 in
    at_section items id s.0 (λ x. IsTrue (is_section x.kind) × (a - base_of items id ≤ x.length)) f
    (λ o text base len. (section_is o.kind text, omega arith))
sound_entry items (StartNamed name) good none = good

-- ---- text

pub any_none : {X : Type 0} (p : X → Bool) (xs : List X) → list_any p xs ≡ false → AllByRecursion (λ x. p x ≡ false) xs
any_none p [] none = tt
any_none p (x ∷ xs) none = (or_left (p x) (list_any p xs) none, any_none p xs (or_right (p x) (list_any p xs) none))

pub section_some_step : (b : Bool) (i : EsdItem) → b ≡ true → (if b then Some i else None) ≡ Some i
section_some_step true i is = refl
section_some_step false i is = cc

pub section_some : (o : Option Numbered) → option_map_or (λ x. has_text x.item.kind) o false ≡ true → (s : EsdItem) × (option_map_or if_text o None ≡ Some s)
section_some None has = cc
section_some (Some x) has = (x.item, section_some_step (has_text x.item.kind) x.item has)

-- bytes that are not found outside a section that is there
pub inside : (items : List Numbered) (id a n m : ℕ) → HasSection items id → option_map_or (λ x. not (lie_in x a n)) (section_of items id) false ≡ false → m ≤ n
    → LieInItem (map (symbol items) items) (number_or items id) (a - base_of items id) m
inside items id a n m has none fewer =
    let s : (s : EsdItem) × (section_of items id ≡ Some s) = section_some (with_esdid id items) has in
    let lies : lie_in s.0 a n ≡ true = not_false (lie_in s.0 a n) (sym (ap (λ o. option_map_or (λ x. not (lie_in x a n)) o false) s.1) ∙ none) in
    lies_in_item items id a n m s.0 (found_section items id s.0 s.1) lies fewer

pub take_short : {X : Type 0} (n : ℕ) (xs : List X) → length (take n xs) ≤ n
take_short zero [] = omega arith
take_short (suc n) [] = omega arith
take_short zero (x ∷ xs) = omega arith
take_short (suc n) (x ∷ xs) = let h : length (take n xs) ≤ n = take_short n xs in omega arith

pub sound_text : (items : List Numbered) (t : TxtCard) → HasSection items t.esdid × (is_text_outside items t ≡ false)
    → LieInItem (map (symbol items) items) (fragment items t).item (fragment items t).offset (length (fragment items t).bytes)
sound_text items t both = inside items t.esdid t.address t.count (length (take t.count t.bytes)) both.0 both.1 (take_short t.count t.bytes)
