-- A sound module stays sound when a name becomes another that is not blank and not that of an overlay table.
use Rattle.std.proofs.Common.{◌≡◌, ℕ, ◌+◌, ◌≤◌, Bool, true, false, cond, List, map, IsTrue, refl, sym, subst}
use Rattle.std.specs.Prelude.{All, IsFalse}
use Rattle.std.proofs.lemmas.List.Elements.{All-from_recursion, recursion_from_All, All-map}
use Rattle.le_bytes.specs.declared.name.Name.{Name}
use Rattle.le_bytes.specs.Names.{name_eq, is_blank}
use Rattle.sym_mod.specs.declared.module.Item.{Item}
use Rattle.sym_mod.specs.declared.module.ItemKind.{ItemKind}
use Rattle.sym_mod.specs.declared.module.ItemKind.TheVariants.{Sd, Pc, Cm, Label, Er, Wx, Register}
use Rattle.sym_mod.specs.declared.module.Kind.{Kind}
use Rattle.sym_mod.specs.declared.module.Kind.TheVariants.{Address, Branch, Displacement, Total as TotalKind}
use Rattle.sym_mod.specs.declared.module.SymConst.{SymConst}
use Rattle.sym_mod.specs.declared.module.SymTerm.{SymTerm}
use Rattle.sym_mod.specs.declared.module.SymTarget.{SymTarget}
use Rattle.sym_mod.specs.declared.module.SymTarget.TheVariants.{Own, Named, Register as NamedRegister, Total as AllRegisters}
use Rattle.sym_mod.specs.declared.module.SymEntry.{SymEntry}
use Rattle.sym_mod.specs.declared.module.SymEntry.TheVariants.{None as NoEntry, At, Named as AtName}
use Rattle.sym_mod.specs.declared.module.SymModule.{SymModule}
use Rattle.sym_mod.specs.Kinds.{has_text, is_section, is_register}
use Rattle.sym_mod.specs.Reserved.{is_reserved}
use Rattle.sym_mod.specs.Sound.{HasName, HasProperName, StandsInOwner, IsSoundItem, LieInItem, is_register_named, RefersToSymbol, FitsKind, HaveProperSigns, IsAddress, IsSoundConst, AreApart, IsSoundEntry, IsSoundModule}
use Rattle.sym_edit.specs.Renamed.{new_name, item_renamed, target_renamed, term_renamed, constant_renamed, entry_renamed, renamed}
use Rattle.sym_edit.proofs.Moved.{all_mapped, all_pairs, each_pair, pairs_mapped, some_mapped, any_mapped, map-map}
use Rattle.sym_edit.proofs.SoundGone.{name_same}

-- the names of an edit that renames
pub record MayRename (old new : Name) : Type 0 where
  pub old_named : HasName old
  pub new_named : HasName new
  pub free : IsFalse (is_reserved new)

-- ---- names

has_name_case : (old new name : Name) (b : Bool) → name_eq name old ≡ b → HasName new → HasName name → HasName (cond b new name)
has_name_case old new name true is has named = has
has_name_case old new name false is has named = named

has_name : (old new name : Name) → HasName new → HasName name → HasName (new_name old new name)
unfolding new_name
has_name old new name has named = has_name_case old new name (name_eq name old) refl has named

free_case : (new name : Name) (b : Bool) → IsFalse (is_reserved new) → IsFalse (is_reserved name) → IsFalse (is_reserved (cond b new name))
free_case new name true free was = free
free_case new name false free was = was

free_name : (old new name : Name) → IsFalse (is_reserved new) → IsFalse (is_reserved name) → IsFalse (is_reserved (new_name old new name))
unfolding new_name
free_name old new name free was = free_case new name (name_eq name old) free was

blank_case : (old new name : Name) (b : Bool) → name_eq name old ≡ b → HasName old → IsTrue (is_blank name) → IsTrue (is_blank (cond b new name))
blank_case old new name true is has blank =
    let same : name ≡ old = name_same name old is in
    absurd (cc (subst (λ (z : Name). is_blank z ≡ false) (sym same) has, blank))
blank_case old new name false is has blank = blank

blank_name : (old new name : Name) → HasName old → IsTrue (is_blank name) → IsTrue (is_blank (new_name old new name))
unfolding new_name
blank_name old new name has blank = blank_case old new name (name_eq name old) refl has blank

proper_name : (old new name : Name) (kind : ItemKind) → MayRename old new → HasProperName name kind → HasProperName (new_name old new name) kind
proper_name old new name Sd may h = free_name old new name may.free h
proper_name old new name Pc may h = blank_name old new name may.old_named h
proper_name old new name Label may h = has_name old new name may.new_named h
proper_name old new name Er may h = has_name old new name may.new_named h
proper_name old new name Wx may h = has_name old new name may.new_named h
proper_name old new name Cm may h = tt
proper_name old new name Register may h = tt

-- ---- items

-- an item with another name, where it is no register
abbrev with_name : Bool → Item → Name → Item
with_name b x name = cond b x (record x { name = name })

kind_same_case : (b : Bool) (x : Item) (name : Name) → (with_name b x name).kind ≡ x.kind
kind_same_case true x name = refl
kind_same_case false x name = refl

base_same_case : (b : Bool) (x : Item) (name : Name) → (with_name b x name).base ≡ x.base
base_same_case true x name = refl
base_same_case false x name = refl

length_same_case : (b : Bool) (x : Item) (name : Name) → (with_name b x name).length ≡ x.length
length_same_case true x name = refl
length_same_case false x name = refl

kind-item_renamed : (old new : Name) (x : Item) → (item_renamed old new x).kind ≡ x.kind
unfolding item_renamed
kind-item_renamed old new x = kind_same_case (is_register x.kind) x (new_name old new x.name)

base-item_renamed : (old new : Name) (x : Item) → (item_renamed old new x).base ≡ x.base
unfolding item_renamed
base-item_renamed old new x = base_same_case (is_register x.kind) x (new_name old new x.name)

length-item_renamed : (old new : Name) (x : Item) → (item_renamed old new x).length ≡ x.length
unfolding item_renamed
length-item_renamed old new x = length_same_case (is_register x.kind) x (new_name old new x.name)

register_case : (name : Name) (x : Item) (y : Name) (b : Bool) → is_register x.kind ≡ b → is_register_named name (with_name b x y) ≡ is_register_named name x
register_case name x y true is = refl
register_case name x y false is = rw is refl

register_same : (old new name : Name) (x : Item) → is_register_named name (item_renamed old new x) ≡ is_register_named name x
unfolding item_renamed
register_same old new name x = register_case name x (new_name old new x.name) (is_register x.kind) refl

module _ (old new : Name) (items : List Item) where
  abbrev after : List Item
  after = map (item_renamed old new) items

  owner_same : (x : Item) (kind : ItemKind) → StandsInOwner items x kind → StandsInOwner after x kind
  owner_same x Label h =
      some_mapped (item_renamed old new)
      (λ owner. IsTrue (has_text owner.kind) × (owner.base ≤ x.base) × (x.base ≤ owner.base + owner.length))
      (λ owner. IsTrue (has_text owner.kind) × (owner.base ≤ x.base) × (x.base ≤ owner.base + owner.length))
      (λ owner p. rw (kind-item_renamed old new owner, base-item_renamed old new owner, length-item_renamed old new owner) p)
      items x.owner h
  owner_same x Sd h = h
  owner_same x Pc h = h
  owner_same x Cm h = h
  owner_same x Er h = h
  owner_same x Wx h = h
  owner_same x Register h = h

  item_case : (x : Item) (b : Bool) → MayRename old new → IsSoundItem items x → IsSoundItem after (with_name b x (new_name old new x.name))
  item_case x true may s = record { name = s.name; base = s.base; size = s.size; align = s.align; owner = owner_same x x.kind s.owner }
  item_case x false may s = record {
    name = proper_name old new x.name x.kind may s.name;
    base = s.base;
    size = s.size;
    align = s.align;
    owner = owner_same (record x { name = new_name old new x.name }) x.kind (owner_named x.kind s.owner);
  }
    where
      owner_named : (kind : ItemKind) → StandsInOwner items x kind → StandsInOwner items (record x { name = new_name old new x.name }) kind
      owner_named Label h = h
      owner_named Sd h = h
      owner_named Pc h = h
      owner_named Cm h = h
      owner_named Er h = h
      owner_named Wx h = h
      owner_named Register h = h

  item_sound : (x : Item) → MayRename old new → IsSoundItem items x → IsSoundItem after (item_renamed old new x)
  unfolding item_renamed
  item_sound x may s = item_case x (is_register x.kind) may s

  -- bytes lie in an item as they did
  lie_same : (i offset n : ℕ) → LieInItem items i offset n → LieInItem after i offset n
  lie_same i offset n h =
      some_mapped (item_renamed old new) (λ x. IsTrue (has_text x.kind) × (offset + n ≤ x.length)) (λ x. IsTrue (has_text x.kind) × (offset + n ≤ x.length))
      (λ x p. rw (kind-item_renamed old new x, length-item_renamed old new x) p) items i h

  -- ---- constants

  symbol_same : (target : SymTarget) → MayRename old new → RefersToSymbol items target → RefersToSymbol after (target_renamed old new target)
  unfolding target_renamed
  symbol_same (Own i) may h =
      some_mapped (item_renamed old new) (λ x. IsFalse (is_register x.kind)) (λ x. IsFalse (is_register x.kind)) (λ x p. rw (kind-item_renamed old new x) p) items i h
  symbol_same (Named name) may h = has_name old new name may.new_named h
  symbol_same (NamedRegister name) may h = absurd h
  symbol_same AllRegisters may h = absurd h

  target_same : (kind : Kind) (target : SymTarget) → MayRename old new → FitsKind items kind target → FitsKind after kind (target_renamed old new target)
  unfolding target_renamed
  target_same Address target may h = symbol_same target may h
  target_same Branch target may h = symbol_same target may h
  target_same Displacement (NamedRegister name) may h =
      rw (any_mapped (item_renamed old new) (is_register_named name) (is_register_named name) (register_same old new name) items) h
  target_same Displacement (Own i) may h = absurd h
  target_same Displacement (Named name) may h = absurd h
  target_same Displacement AllRegisters may h = absurd h
  target_same TotalKind AllRegisters may h = tt
  target_same TotalKind (Own i) may h = absurd h
  target_same TotalKind (Named name) may h = absurd h
  target_same TotalKind (NamedRegister name) may h = absurd h

  all_terms : (P Q : SymTerm → Type 0) (terms : List SymTerm) → ((t : SymTerm) → P t → Q (term_renamed old new t)) → All P terms → All Q (map (term_renamed old new) terms)
  all_terms P Q terms keeps all = All-map Q (term_renamed old new) terms (λ k d within. keeps _ (all k d within))

  const_sound : (c : SymConst) → MayRename old new → IsSoundConst items c → IsSoundConst after (constant_renamed old new c)
  unfolding constant_renamed
  const_sound c may s = record {
    not_empty = s.not_empty;
    short = s.short;
    inside = lie_same c.item c.offset c.length s.inside;
    signs = subst (HaveProperSigns c.kind) (sym (map-map (term_renamed old new) (λ (t : SymTerm). t.minus) (λ (t : SymTerm). t.minus) (λ t. refl) c.terms)) s.signs;
    targets = all_terms (λ t. FitsKind items c.kind t.target) (λ t. FitsKind after c.kind t.target) c.terms (λ t fits. target_same c.kind t.target may fits) s.targets;
    bases = all_terms (λ t. IsAddress t.base) (λ t. IsAddress t.base) c.terms (λ t small. small) s.bases;
  }

  apart_same : (c d : SymConst) → AreApart c d → AreApart (constant_renamed old new c) (constant_renamed old new d)
  unfolding constant_renamed
  apart_same c d apart = apart

  -- ---- the entry

  -- as long as it keeps its name
  pub entry_kept : (e : SymEntry) → IsSoundEntry items e → IsSoundEntry after e
  entry_kept NoEntry h = h
  entry_kept (AtName name) h = h
  entry_kept (At i offset) h =
      some_mapped (item_renamed old new) (λ x. IsTrue (is_section x.kind) × (offset ≤ x.length)) (λ x. IsTrue (is_section x.kind) × (offset ≤ x.length))
      (λ x p. rw (kind-item_renamed old new x, length-item_renamed old new x) p) items i h

  entry_same : (e : SymEntry) → MayRename old new → IsSoundEntry items e → IsSoundEntry after (entry_renamed old new e)
  unfolding entry_renamed
  entry_same NoEntry may h = h
  entry_same (At i offset) may h = entry_kept (At i offset) h
  entry_same (AtName name) may h = has_name old new name may.new_named h

-- ---- the module

pub renamed_sound : (old new : Name) (m : SymModule) → MayRename old new → IsSoundModule m → IsSoundModule (renamed old new m)
unfolding renamed
renamed_sound old new m may s =
    let items = map (item_renamed old new) m.items in
    record {
      items = All-from_recursion (IsSoundItem items) items (all_mapped (item_renamed old new) (IsSoundItem m.items) (IsSoundItem items)
          (λ x sound. item_sound old new m.items x may sound) m.items (recursion_from_All (IsSoundItem m.items) m.items s.items));
      fragments = λ k d within. lie_same old new m.items _ _ _ (s.fragments k d within);
      constants = All-from_recursion (IsSoundConst items) (map (constant_renamed old new) m.constants)
          (all_mapped (constant_renamed old new) (IsSoundConst m.items) (IsSoundConst items)
          (λ c sound. const_sound old new m.items c may sound) m.constants (recursion_from_All (IsSoundConst m.items) m.constants s.constants));
      apart = all_pairs AreApart (map (constant_renamed old new) m.constants)
          (pairs_mapped (constant_renamed old new) AreApart AreApart (λ c d apart. apart_same old new m.items c d apart) m.constants (each_pair AreApart m.constants s.apart));
      entry = entry_same old new m.items m.entry may s.entry;
    }

-- the same where the entry stays as it was
pub renamed_entry_sound : (old new : Name) (m : SymModule) → MayRename old new → IsSoundModule m → IsSoundModule (record (renamed old new m) { entry = m.entry })
unfolding renamed
renamed_entry_sound old new m may s =
    let t = renamed_sound old new m may s in
    record { items = t.items; fragments = t.fragments; constants = t.constants; apart = t.apart; entry = entry_kept old new m.items m.entry s.entry }
