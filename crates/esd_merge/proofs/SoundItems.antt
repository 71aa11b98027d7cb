-- Sections, labels, unresolved names, registers and starts of merged modules are sound.
use Rattle.std.proofs.Common.{◌≡◌, ℕ, suc, ◌+◌, ◌-◌, ◌<◌, ◌≤◌, max, Bool, true, false, not, ◌&&◌, ◌||◌, cond, List, [], ◌∷◌, length, map, fold, slice_get, Option, Some, None, option_map, is_some, IsSomeAnd, IsTrue, refl, sym, ap, ◌∙◌, subst, arith, filter, filter_map, ◌⊎◌, inl, inr}
use Rattle.std.specs.Prelude.{All, ⊤, nat_lt}
use Rattle.std.specs.List.{find, list_any, AllByRecursion, enumerate_from}
use Rattle.std.specs.Option.{option_and_then, option_map_or}
use Rattle.std.proofs.lemmas.List.Elements.{All-from_recursion, recursion_from_All}
use Rattle.std.proofs.lemmas.Bool.Decides.{nat_tests}
use Rattle.le_bytes.specs.declared.name.Name.{Name}
use Rattle.le_bytes.specs.Names.{name_eq, is_blank}
use Rattle.sym_mod.specs.declared.module.Item.{Item}
use Rattle.sym_mod.specs.declared.module.ItemKind.{ItemKind}
use Rattle.sym_mod.specs.declared.module.ItemKind.TheVariants.{Sd, Pc, Cm, Label as LabelItem, Er, Wx, Register as RegisterItem}
use Rattle.sym_mod.specs.declared.module.Kind.{Kind}
use Rattle.sym_mod.specs.declared.module.Kind.TheVariants.{Address, Branch, Displacement, Total as TotalKind}
use Rattle.sym_mod.specs.declared.module.SymConst.{SymConst}
use Rattle.sym_mod.specs.declared.module.SymTerm.{SymTerm}
use Rattle.sym_mod.specs.declared.module.SymTarget.{SymTarget}
use Rattle.sym_mod.specs.declared.module.SymTarget.TheVariants.{Own, Named, Register as InRegister, Total as OfAll}
use Rattle.sym_mod.specs.declared.module.SymEntry.{SymEntry}
use Rattle.sym_mod.specs.declared.module.SymEntry.TheVariants.{None as NoEntry, At, Named as AtName}
use Rattle.sym_mod.specs.declared.module.SymModule.{SymModule}
use Rattle.sym_mod.specs.declared.program.Section.{Section}
use Rattle.sym_mod.specs.declared.program.Label.{Label}
use Rattle.sym_mod.specs.declared.program.Unknown.{Unknown}
use Rattle.sym_mod.specs.declared.program.StartAt.{StartAt}
use Rattle.sym_mod.specs.declared.program.StartAt.TheVariants.{At as StartsAt, Named as StartsAtName}
use Rattle.sym_mod.specs.Kinds.{kind_of, is_sd, is_er, is_wx, is_label, is_register, has_text, is_section}
use Rattle.sym_mod.specs.Sound.{HasName, IsAddress, IsAlignment, HasProperName, HasProperAlignment, StandsInOwner, IsSoundItem, FitsKind, IsSoundConst, IsSoundEntry, IsSoundModule, IsSoundSection, StandsInSection, IsSoundLabel, IsSoundRegister, IsSoundStart}
use Rattle.linking_model.specs.Names.{firsts}
use Rattle.linking_model.specs.Kept.{Read, Sight, Symbol, ByName, Private, sights, sights_in, sights_from, is_at, sight_at, is_sd_named, is_area_named, kept_sd, areas, kept_as, section_symbol_for, section_symbol, section_symbols, section_number, kept_in, kept_constants, appearance, rank_of}
use Rattle.linking_model.specs.Merged.{named_section, private_section, section_of, sections, label_at, is_label_named, kept_labels, label_of, labels, definition, has_item, is_referred, is_name_target, is_label_target, is_referenced, is_weak, unknown_of, unresolved, register_items, register_of, registers, start_of, starts, program_of}
use Rattle.esd_lists.proofs.Firsts.{name_same, name_refl}
use Rattle.esd_lists.proofs.Sights.{find_passes, find_among, sight_at_is, seen_at}
use Rattle.esd_lists.proofs.Each.{both_true, either_true, all_at, all_made, all_given, all_mapped, all_passing, all_less, all_join, any_found, all_fold, all_in_order}
use Rattle.esd_merge.specs.Added.{IsSoundRead, IsMerged}
use Rattle.esd_merge.proofs.Homes.{IsLocated, located, all_found, Fits, fits_case, number_at, aligned}

-- ---- the items that are seen

-- the item is one of a sound module
abbrev IsSeenSound : List Read → Sight → Type 0
IsSeenSound rs x = (r : Read) × (slice_get rs x.of_module ≡ Some r) × IsSoundModule r.module_ × IsSoundItem r.module_.items x.item

-- these modules stand from number k on
abbrev StandFrom : List Read → ℕ → List Read → Type 0
StandFrom rs k ys = (i : ℕ) (r : Read) → slice_get ys i ≡ Some r → slice_get rs (k + i) ≡ Some r

stands_here : (rs : List Read) (k : ℕ) (r : Read) (ys : List Read) → StandFrom rs k (r ∷ ys) → slice_get rs k ≡ Some r
stands_here rs k r ys stand =
    let same : k + 0 ≡ k = omega arith in
    rw same at (stand 0 r refl)

stands_later : (rs : List Read) (k : ℕ) (r : Read) (ys : List Read) → StandFrom rs k (r ∷ ys) → StandFrom rs (k + 1) ys
stands_later rs k r ys stand i z e =
    let same : k + suc i ≡ k + 1 + i = omega arith in
    rw same at (stand (suc i) z e)

from_zero : (rs : List Read) → StandFrom rs 0 rs
from_zero rs i r e =
    let same : 0 + i ≡ i = omega arith in
    rw same e

sound_in : (rs : List Read) (m k : ℕ) (r : Read) (items : List Item) → slice_get rs m ≡ Some r → IsSoundModule r.module_ → AllByRecursion (IsSoundItem r.module_.items) items → AllByRecursion (IsSeenSound rs) (sights_in m r.segment k items)
sound_in rs m k r [] there sound all = tt
sound_in rs m k r (x ∷ items) there sound all = ((r, there, sound, all.0), sound_in rs m (k + 1) r items there sound all.1)

sound_from : (rs : List Read) (m : ℕ) (ys : List Read) → StandFrom rs m ys → AllByRecursion IsSoundRead ys → AllByRecursion (IsSeenSound rs) (sights_from m ys)
sound_from rs m [] stand all = tt
sound_from rs m (r ∷ ys) stand all =
    all_join (IsSeenSound rs) (sights_in m r.segment 0 r.module_.items) (sights_from (m + 1) ys)
    (sound_in rs m 0 r r.module_.items (stands_here rs m r ys stand) all.0.sound (recursion_from_All (IsSoundItem r.module_.items) r.module_.items all.0.sound.items))
    (sound_from rs (m + 1) ys (stands_later rs m r ys stand) all.1)

sights_sound : (rs : List Read) → IsMerged rs → AllByRecursion (IsSeenSound rs) (sights rs)
sights_sound rs m = sound_from rs 0 rs (from_zero rs) (recursion_from_All IsSoundRead rs m.reads)

-- the module has the number, and is sound
abbrev IsNumbered : List Read → ℕ × Read → Type 0
IsNumbered rs x = (slice_get rs x.0 ≡ Some x.1) × IsSoundModule x.1.module_

numbered_from : (rs : List Read) (k : ℕ) (ys : List Read) → StandFrom rs k ys → AllByRecursion IsSoundRead ys → AllByRecursion (IsNumbered rs) (enumerate_from k ys)
numbered_from rs k [] stand all = tt
numbered_from rs k (r ∷ ys) stand all = ((stands_here rs k r ys stand, all.0.sound), numbered_from rs (k + 1) ys (stands_later rs k r ys stand) all.1)

numbered : (rs : List Read) → IsMerged rs → AllByRecursion (IsNumbered rs) (enumerate_from 0 rs)
numbered rs m = numbered_from rs 0 rs (from_zero rs) (recursion_from_All IsSoundRead rs m.reads)

-- ---- names by kinds, as they are kept

name_case : (x : Item) (b : Bool) (kind : ItemKind) → is_blank x.name ≡ b → x.kind ≡ kind → HasProperName x.name kind → HasProperName x.name (kind_of x)
name_case x true Sd d e h = rw (d, e) d
name_case x true Pc d e h = rw (d, e) d
name_case x true Cm d e h = rw (d, e) h
name_case x true LabelItem d e h = absurd (cc (d, h))
name_case x true Er d e h = absurd (cc (d, h))
name_case x true Wx d e h = absurd (cc (d, h))
name_case x true RegisterItem d e h = rw (d, e) h
name_case x false Sd d e h = rw (d, e) h
name_case x false Pc d e h = absurd (cc (d, h))
name_case x false Cm d e h = rw (d, e) h
name_case x false LabelItem d e h = rw (d, e) h
name_case x false Er d e h = rw (d, e) h
name_case x false Wx d e h = rw (d, e) h
name_case x false RegisterItem d e h = rw (d, e) h

proper_name : (x : Item) (kind : ItemKind) → HasProperName x.name x.kind → kind_of x ≡ kind → HasProperName x.name kind
proper_name x kind h e = subst (HasProperName x.name) e (name_case x (is_blank x.name) x.kind refl refl h)

owner_case : (items : List Item) (x : Item) (b : Bool) (kind : ItemKind) → is_blank x.name ≡ b → x.kind ≡ kind → StandsInOwner items x kind → StandsInOwner items x (kind_of x)
owner_case items x true Sd d e h = rw (d, e) h
owner_case items x true Pc d e h = rw (d, e) h
owner_case items x true Cm d e h = rw (d, e) h
owner_case items x true LabelItem d e h = rw (d, e) h
owner_case items x true Er d e h = rw (d, e) h
owner_case items x true Wx d e h = rw (d, e) h
owner_case items x true RegisterItem d e h = rw (d, e) h
owner_case items x false Sd d e h = rw (d, e) h
owner_case items x false Pc d e h = rw (d, e) h
owner_case items x false Cm d e h = rw (d, e) h
owner_case items x false LabelItem d e h = rw (d, e) h
owner_case items x false Er d e h = rw (d, e) h
owner_case items x false Wx d e h = rw (d, e) h
owner_case items x false RegisterItem d e h = rw (d, e) h

sd_is : (k : ItemKind) → is_sd k ≡ true → k ≡ Sd
sd_is Sd e = refl
sd_is Pc e = absurd cc
sd_is Cm e = absurd cc
sd_is LabelItem e = absurd cc
sd_is Er e = absurd cc
sd_is Wx e = absurd cc
sd_is RegisterItem e = absurd cc

label_is : (k : ItemKind) → is_label k ≡ true → k ≡ LabelItem
label_is Sd e = absurd cc
label_is Pc e = absurd cc
label_is Cm e = absurd cc
label_is LabelItem e = refl
label_is Er e = absurd cc
label_is Wx e = absurd cc
label_is RegisterItem e = absurd cc

register_is : (k : ItemKind) → is_register k ≡ true → k ≡ RegisterItem
register_is Sd e = absurd cc
register_is Pc e = absurd cc
register_is Cm e = absurd cc
register_is LabelItem e = absurd cc
register_is Er e = absurd cc
register_is Wx e = absurd cc
register_is RegisterItem e = refl

-- ---- sections

-- there is an item that the section is made of
abbrev HasItem : List Read → Symbol → Type 0
HasItem rs (ByName y) = kept_sd rs y ≡ None → 0 < length (areas rs y)
HasItem rs (Private m n) = is_some (sight_at rs m n) ≡ true

some_find : {A : Type 0} (p : A → Bool) (xs : List A) → list_any p xs ≡ true → find p xs ≡ None → ⊥
some_find p [] e none = absurd cc
some_find p (x ∷ xs) e none = chosen p x xs (p x) e none (some_find p xs)
  where
    chosen : {A : Type 0} (p : A → Bool) (x : A) (xs : List A) (b : Bool) → (b || list_any p xs) ≡ true → cond b (Some x) (find p xs) ≡ None → (list_any p xs ≡ true → find p xs ≡ None → ⊥) → ⊥
    chosen p x xs true e none more = absurd cc
    chosen p x xs false e none more = more e none

some_filter : {A : Type 0} (p : A → Bool) (xs : List A) → list_any p xs ≡ true → 0 < length (filter p xs)
some_filter p [] e = absurd cc
some_filter p (x ∷ xs) e = chosen p x xs (p x) e (some_filter p xs)
  where
    chosen : {A : Type 0} (p : A → Bool) (x : A) (xs : List A) (b : Bool) → (b || list_any p xs) ≡ true → (list_any p xs ≡ true → 0 < length (filter p xs)) → 0 < length (cond b (x ∷ filter p xs) (filter p xs))
    chosen p x xs true e more = omega arith
    chosen p x xs false e more = more e

item_case : (rs : List Read) (x : Sight) (kind : ItemKind) (y : Symbol) → IsLocated rs x → kind_of x.item ≡ kind → section_symbol_for x kind ≡ Some y → HasItem rs y
item_case rs x Sd y there kind e =
    let name : ByName x.item.name ≡ y = cc in
    let here : is_sd_named x.item.name x ≡ true = rw (kind, name_refl x.item.name) refl in
    let some : list_any (is_sd_named x.item.name) (sights rs) ≡ true = find_among (is_at x.of_module x.number) (is_sd_named x.item.name) (sights rs) x there here in
    subst (HasItem rs) name (λ none. absurd (some_find (is_sd_named x.item.name) (sights rs) some none))
item_case rs x Pc y there kind e =
    let name : Private x.of_module x.number ≡ y = cc in
    subst (HasItem rs) name (rw there refl)
item_case rs x Cm y there kind e =
    let name : ByName x.item.name ≡ y = cc in
    let here : is_area_named x.item.name x ≡ true = rw (kind, name_refl x.item.name) refl in
    let some : list_any (is_area_named x.item.name) (sights rs) ≡ true = find_among (is_at x.of_module x.number) (is_area_named x.item.name) (sights rs) x there here in
    subst (HasItem rs) name (λ none. some_filter (is_area_named x.item.name) (sights rs) some)
item_case rs x LabelItem y there kind e = absurd cc
item_case rs x Er y there kind e = absurd cc
item_case rs x Wx y there kind e = absurd cc
item_case rs x RegisterItem y there kind e = absurd cc

symbols_have : (rs : List Read) → AllByRecursion (HasItem rs) (section_symbols rs)
symbols_have rs =
    all_fold (HasItem rs) [] (filter_map section_symbol (sights rs)) tt
    (all_made (IsLocated rs) (HasItem rs) section_symbol (λ x y there e. item_case rs x (kind_of x.item) y there refl e) (sights rs) (located rs))

has_section : (rs : List Read) (y : Symbol) → HasItem rs y → is_some (section_of rs y) ≡ true
has_section rs (ByName y) h = refl
has_section rs (Private m n) h = some_mapped (private_section rs (Private m n)) (sight_at rs m n) h
  where
    some_mapped : {A B : Type 0} (f : A → B) (o : Option A) → is_some o ≡ true → is_some (option_map f o) ≡ true
    some_mapped f None e = absurd cc
    some_mapped f (Some x) e = refl

-- each symbol of a section makes a section
pub each_section : (rs : List Read) → AllByRecursion (λ y. is_some (section_of rs y) ≡ true) (section_symbols rs)
each_section rs = all_less (HasItem rs) (λ y. is_some (section_of rs y) ≡ true) (has_section rs) (section_symbols rs) (symbols_have rs)

-- item x is kept in section j, in which it fits
abbrev pub IsKeptIn : List Read → Sight → ℕ → Type 0
IsKeptIn rs x j = (y : Symbol) × (sec : Section) × (slice_get (sections rs) j ≡ Some sec) × Fits rs y x sec

kept_case : (rs : List Read) (k i j : ℕ) (x : Sight) (o : Option Symbol) → sight_at rs k i ≡ Some x → kept_as rs x (kind_of x.item) ≡ o → option_and_then (section_number rs) o ≡ Some j → IsKeptIn rs x j
kept_case rs k i j x None found kept e = absurd cc
kept_case rs k i j x (Some y) found kept e =
    let fits = fits_case rs k i x y (kind_of x.item) found refl kept in
    (y, fits.0, aligned (section_of rs) (section_symbols rs) j y fits.0 (each_section rs) (number_at rs y j e) fits.1.is, fits.1)

-- an item that is kept has a section, in which it fits
pub kept_section : (rs : List Read) (k i j : ℕ) (x : Sight) → sight_at rs k i ≡ Some x → kept_in rs k i ≡ Some j → IsKeptIn rs x j
unfolding kept_in
kept_section rs k i j x found e =
    kept_case rs k i j x (kept_as rs x (kind_of x.item)) found refl (ap (λ (o : Option Sight). option_and_then (section_number rs) (option_and_then (λ x. kept_as rs x (kind_of x.item)) o)) (sym found) ∙ e)

fold_within : (most n : ℕ) (xs : List Sight) → n ≤ most → AllByRecursion (λ (x : Sight). x.item.length ≤ most) xs → fold (λ n x. max n x.item.length) n xs ≤ most
fold_within most n [] low all = low
fold_within most n (x ∷ xs) low all = fold_within most (max n x.item.length) xs (omega (arith, low, all.0)) all.1

areas_low : (rs : List Read) (y : Name) → IsMerged rs → AllByRecursion (λ (x : Sight). IsAddress x.item.length) (areas rs y)
areas_low rs y m =
    all_less (λ (x : Sight). IsSeenSound rs x × (is_area_named y x ≡ true)) (λ (x : Sight). IsAddress x.item.length) (λ x h. h.0.3.size) (areas rs y)
    (all_passing (IsSeenSound rs) (is_area_named y) (sights rs) (sights_sound rs m))

length_of_map : {A B : Type 0} (f : A → B) (xs : List A) → 0 < length xs → 0 < length (map f xs)
length_of_map f [] low = low
length_of_map f (x ∷ xs) low = omega arith

named_sound : (rs : List Read) (y : Name) (o : Option Sight) → IsMerged rs → kept_sd rs y ≡ o → HasItem rs (ByName y) → IsSoundSection (named_section rs y o)
named_sound rs y None m e has = record {
  kind = length_of_map (λ (x : Sight). x.segment) (areas rs y) (has e);
  size = fold_within 16777215 0 (areas rs y) (omega arith) (areas_low rs y m);
}
named_sound rs y (Some x) m e has =
    let sound : IsSeenSound rs x = all_found (IsSeenSound rs) (is_sd_named y) (sights rs) x (sights_sound rs m) e in
    let is = both_true (is_sd (kind_of x.item)) (name_eq x.item.name y) (find_passes (is_sd_named y) (sights rs) x e) in
    let proper : HasProperName x.item.name Sd = proper_name x.item Sd sound.3.name (sd_is (kind_of x.item) is.0) in
    record {
      kind = subst (λ (z : Name). HasProperName z Sd) (name_same x.item.name y is.1) proper;
      size = fold_within 16777215 0 (x ∷ areas rs y) (omega arith) (sound.3.size, areas_low rs y m);
    }

private_sound : (rs : List Read) (y : Symbol) (o : Option Sight) (sec : Section) → AllByRecursion (IsSeenSound rs) (sights rs) → (p : Sight → Bool) → find p (sights rs) ≡ o → option_map (private_section rs y) o ≡ Some sec → IsSoundSection sec
private_sound rs y None sec all p found e = absurd cc
private_sound rs y (Some x) sec all p found e =
    let sound : IsSeenSound rs x = all_found (IsSeenSound rs) p (sights rs) x all found in
    let same : private_section rs y x ≡ sec = cc in
    let here : IsSoundSection (private_section rs y x) = record { kind = refl; size = sound.3.size } in
    subst IsSoundSection same here

section_sound : (rs : List Read) → IsMerged rs → (y : Symbol) (sec : Section) → HasItem rs y → section_of rs y ≡ Some sec → IsSoundSection sec
section_sound rs m (ByName y) sec has e =
    let same : named_section rs y (kept_sd rs y) ≡ sec = cc in
    subst IsSoundSection same (named_sound rs y (kept_sd rs y) m refl has)
section_sound rs m (Private k i) sec has e = private_sound rs (Private k i) (sight_at rs k i) sec (sights_sound rs m) (is_at k i) refl e

pub sections_sound : (rs : List Read) → IsMerged rs → All IsSoundSection (sections rs)
sections_sound rs m =
    All-from_recursion IsSoundSection (sections rs) (all_made (HasItem rs) IsSoundSection (section_of rs) (section_sound rs m) (section_symbols rs) (symbols_have rs))

-- ---- where labels and starts stand

stands_in : (rs : List Read) (i offset : ℕ) (s : Section) → slice_get (sections rs) i ≡ Some s → offset ≤ s.length → StandsInSection (program_of rs) i offset
unfolding program_of
stands_in rs i offset s e low = rw e low

seen_there : (rs : List Read) (k i : ℕ) (r : Read) (x : Item) → slice_get rs k ≡ Some r → slice_get r.module_.items i ≡ Some x → sight_at rs k i ≡ Some (seen_at k r.segment i x)
seen_there rs k i r x there here = sight_at_is rs k i ∙ rw (there, here) refl

-- what stands in an item stands in the section that it is kept in
stands_kept : (rs : List Read) (k n offset i : ℕ) (r : Read) (x : Item) → slice_get rs k ≡ Some r → slice_get r.module_.items n ≡ Some x → offset ≤ x.length → kept_in rs k n ≡ Some i → StandsInSection (program_of rs) i offset
stands_kept rs k n offset i r x there here low kept =
    let home = kept_section rs k n i (seen_at k r.segment n x) (seen_there rs k n r x there here) kept in
    let room : x.length ≤ home.1.length = home.3.room in
    stands_in rs i offset home.1 home.2 (omega (arith, low, room))

map_case : {A B : Type 0} (f : A → B) (o : Option A) (y : B) → option_map f o ≡ Some y → (x : A) × (o ≡ Some x) × (f x ≡ y)
map_case f None y e = absurd cc
map_case f (Some x) y e = (x, refl, cc)

-- ---- labels

abbrev label_in : List Read → Sight → ℕ → Label
label_in rs x i = record {
  name = x.item.name;
  rank = rank_of rs (ByName x.item.name);
  section = i;
  offset = x.item.base - option_map_or (λ o. o.item.base) (sight_at rs x.of_module x.item.owner) 0;
}

owner_stands : (items : List Item) (x : Item) → IsSoundItem items x → kind_of x ≡ LabelItem → StandsInOwner items x LabelItem
owner_stands items x sound e = subst (StandsInOwner items x) e (owner_case items x (is_blank x.name) x.kind refl refl sound.owner)

label_stands : (rs : List Read) (x : Sight) (r : Read) (i : ℕ) (o : Option Item) → slice_get rs x.of_module ≡ Some r → slice_get r.module_.items x.item.owner ≡ o → HasName x.item.name
    → IsSomeAnd o (λ owner. IsTrue (has_text owner.kind) × (owner.base ≤ x.item.base) × (x.item.base ≤ owner.base + owner.length)) → kept_in rs x.of_module x.item.owner ≡ Some i
    → IsSoundLabel (program_of rs) (label_in rs x i)
label_stands rs x r i None there here named stands kept = absurd stands
label_stands rs x r i (Some w) there here named stands kept =
    let base : option_map_or (λ (o : Sight). o.item.base) (sight_at rs x.of_module x.item.owner) 0 ≡ w.base = rw (seen_there rs x.of_module x.item.owner r w there here) refl in
    let low : x.item.base - w.base ≤ w.length = omega (arith, stands.2) in
    record {
      name = named;
      inside = rw base (stands_kept rs x.of_module x.item.owner (x.item.base - w.base) i r w there here low kept);
    }

label_sound : (rs : List Read) (y : Name) (x : Sight) (l : Label) → IsSeenSound rs x × (is_label_named y x ≡ true) → label_at rs x ≡ Some l → IsSoundLabel (program_of rs) l
label_sound rs y x l h e =
    let r : Read = h.0.0 in
    let kind : kind_of x.item ≡ LabelItem = label_is (kind_of x.item) (both_true (is_label (kind_of x.item)) (name_eq x.item.name y) h.1).0 in
    let from = map_case (label_in rs x) (kept_in rs x.of_module x.item.owner) l e in
    subst (IsSoundLabel (program_of rs)) from.2
    (label_stands rs x r from.0 (slice_get r.module_.items x.item.owner) h.0.1 refl (proper_name x.item LabelItem h.0.3.name kind) (owner_stands r.module_.items x.item h.0.3 kind) from.1)

label_of_sound : (rs : List Read) → IsMerged rs → (y : Symbol) (l : Label) → ⊤ → label_of rs y ≡ Some l → IsSoundLabel (program_of rs) l
label_of_sound rs m (ByName y) l h e =
    all_at (IsSoundLabel (program_of rs)) (kept_labels rs y) 0 l
    (all_made (λ (x : Sight). IsSeenSound rs x × (is_label_named y x ≡ true)) (IsSoundLabel (program_of rs)) (label_at rs) (label_sound rs y) (filter (is_label_named y) (sights rs))
    (all_passing (IsSeenSound rs) (is_label_named y) (sights rs) (sights_sound rs m))) e
label_of_sound rs m (Private k i) l h e = absurd cc

pub labels_sound : (rs : List Read) → IsMerged rs → All (IsSoundLabel (program_of rs)) (labels rs)
labels_sound rs m =
    All-from_recursion (IsSoundLabel (program_of rs)) (labels rs)
    (all_made (λ (y : Symbol). ⊤) (IsSoundLabel (program_of rs)) (label_of rs) (label_of_sound rs m) (appearance rs) (all_given (λ (y : Symbol). ⊤) (λ y. tt) (appearance rs)))

-- ---- unresolved names

fits_named : (items : List Item) (kind : Kind) (y : Name) → FitsKind items kind (Named y) → HasName y
fits_named items Address y h = h
fits_named items Branch y h = h
fits_named items Displacement y h = absurd h
fits_named items TotalKind y h = absurd h

own_named : (items : List Item) (y : Name) (n : ℕ) (o : Option Item) → AllByRecursion (IsSoundItem items) items → slice_get items n ≡ o → option_map_or (λ (x : Item). is_label x.kind && name_eq x.name y) o false ≡ true → HasName y
own_named items y n None all there e = absurd cc
own_named items y n (Some x) all there e =
    let sound : IsSoundItem items x = all_at (IsSoundItem items) items n x all there in
    let is = both_true (is_label x.kind) (name_eq x.name y) e in
    subst HasName (name_same x.name y is.1) (subst (HasProperName x.name) (label_is x.kind is.0) sound.name)

target_named : (m : SymModule) (y : Name) (kind : Kind) (t : SymTarget) → AllByRecursion (IsSoundItem m.items) m.items → FitsKind m.items kind t → (is_name_target y t || is_label_target y m t) ≡ true → HasName y
target_named m y kind (Own n) all fits e = own_named m.items y n (slice_get m.items n) all refl e
target_named m y kind (Named z) all fits e = chosen (either_true (name_eq z y) false e)
  where
    chosen : (name_eq z y ≡ true) ⊎ (false ≡ true) → HasName y
    chosen (inl h) = subst HasName (name_same z y h) (fits_named m.items kind z fits)
    chosen (inr h) = absurd cc
target_named m y kind (InRegister z) all fits e = absurd cc
target_named m y kind OfAll all fits e = absurd cc

constants_kept : (rs : List Read) (k : ℕ) (m : SymModule) → IsSoundModule m → AllByRecursion (IsSoundConst m.items) (kept_constants rs k m)
constants_kept rs k m sound =
    let passing : AllByRecursion (λ (c : SymConst). IsSoundConst m.items c × (is_some (kept_in rs k c.item) ≡ true)) (filter (λ (c : SymConst). is_some (kept_in rs k c.item)) m.constants) =
    all_passing (IsSoundConst m.items) (λ (c : SymConst). is_some (kept_in rs k c.item)) m.constants (recursion_from_All (IsSoundConst m.items) m.constants sound.constants) in
    all_in_order (IsSoundConst m.items) (filter (λ (c : SymConst). is_some (kept_in rs k c.item)) m.constants)
    (all_less (λ (c : SymConst). IsSoundConst m.items c × (is_some (kept_in rs k c.item) ≡ true)) (IsSoundConst m.items) (λ c h. h.0) (filter (λ (c : SymConst). is_some (kept_in rs k c.item)) m.constants) passing)

abbrev means_name : Name → SymModule → SymTarget → Bool
means_name y m t = is_name_target y t || is_label_target y m t

constant_named : (m : SymModule) (y : Name) (c : SymConst) → IsSoundModule m → IsSoundConst m.items c → list_any (λ (t : SymTerm). means_name y m t.target) c.terms ≡ true → HasName y
constant_named m y c sound of_c e =
    let term = any_found (λ (t : SymTerm). FitsKind m.items c.kind t.target) (λ (t : SymTerm). means_name y m t.target) c.terms (recursion_from_All (λ (t : SymTerm). FitsKind m.items c.kind t.target) c.terms of_c.targets) e in
    target_named m y c.kind term.0.target (recursion_from_All (IsSoundItem m.items) m.items sound.items) term.1 term.2

referred_named : (rs : List Read) (y : Name) → IsMerged rs → is_referred rs (means_name y) ≡ true → HasName y
referred_named rs y m e =
    let read = any_found (IsNumbered rs) (λ (x : ℕ × Read). list_any (λ (c : SymConst). list_any (λ (t : SymTerm). means_name y x.1.module_ t.target) c.terms) (kept_constants rs x.0 x.1.module_)) (enumerate_from 0 rs) (numbered rs m) e in
    let body : SymModule = read.0.1.module_ in
    let const = any_found (IsSoundConst body.items) (λ (c : SymConst). list_any (λ (t : SymTerm). means_name y body t.target) c.terms) (kept_constants rs read.0.0 body) (constants_kept rs read.0.0 body read.1.1) read.2 in
    constant_named body y const.0 read.1.1 const.1 const.2

reference_named : (x : Item) (kind : ItemKind) → kind_of x ≡ kind → (is_er kind || is_wx kind) ≡ true → HasProperName x.name x.kind → HasName x.name
reference_named x Sd is e h = absurd cc
reference_named x Pc is e h = absurd cc
reference_named x Cm is e h = absurd cc
reference_named x LabelItem is e h = absurd cc
reference_named x Er is e h = proper_name x Er h is
reference_named x Wx is e h = proper_name x Wx h is
reference_named x RegisterItem is e h = absurd cc

item_named : (rs : List Read) (y : Name) → IsMerged rs → has_item rs (λ k. is_er k || is_wx k) y ≡ true → HasName y
item_named rs y m e =
    let item = any_found (IsSeenSound rs) (λ (x : Sight). (is_er (kind_of x.item) || is_wx (kind_of x.item)) && name_eq x.item.name y) (sights rs) (sights_sound rs m) e in
    let is = both_true (is_er (kind_of item.0.item) || is_wx (kind_of item.0.item)) (name_eq item.0.item.name y) item.2 in
    subst HasName (name_same item.0.item.name y is.1) (reference_named item.0.item (kind_of item.0.item) refl is.0 item.1.3.name)

referenced_named : (rs : List Read) (y : Name) → IsMerged rs → is_referenced rs y ≡ true → HasName y
referenced_named rs y m e = chosen (either_true (has_item rs (λ k. is_er k || is_wx k) y) (is_referred rs (means_name y)) e)
  where
    chosen : (has_item rs (λ k. is_er k || is_wx k) y ≡ true) ⊎ (is_referred rs (means_name y) ≡ true) → HasName y
    chosen (inl h) = item_named rs y m h
    chosen (inr h) = referred_named rs y m h

unknown_case : (rs : List Read) (y : Name) (b : Bool) (weak : Bool) (u : Unknown) → (b ≡ true → HasName y) → cond b (Some (let x : Unknown = record { name = y; weak = weak } in x)) None ≡ Some u → HasName u.name
unknown_case rs y true weak u named e =
    let same : (let x : Unknown = record { name = y; weak = weak } in x) ≡ u = cc in
    subst (λ (x : Unknown). HasName x.name) same (named refl)
unknown_case rs y false weak u named e = absurd cc

unknown_named : (rs : List Read) → IsMerged rs → (y : Symbol) (u : Unknown) → ⊤ → unknown_of rs y ≡ Some u → HasName u.name
unknown_named rs m (ByName y) u h e =
    unknown_case rs y (is_referenced rs y && not (is_some (definition rs y))) (is_weak rs y) u
    (λ d. referenced_named rs y m (both_true (is_referenced rs y) (not (is_some (definition rs y))) d).0) e
unknown_named rs m (Private k i) u h e = absurd cc

pub unresolved_named : (rs : List Read) → IsMerged rs → All (λ x. HasName x.name) (unresolved rs)
unfolding unresolved
unresolved_named rs m =
    All-from_recursion (λ (x : Unknown). HasName x.name) (filter_map (unknown_of rs) (appearance rs))
    (all_made (λ (y : Symbol). ⊤) (λ (x : Unknown). HasName x.name) (unknown_of rs) (unknown_named rs m) (appearance rs) (all_given (λ (y : Symbol). ⊤) (λ y. tt) (appearance rs)))

-- ---- registers

max_case : (P : ℕ → Type 0) (a b : ℕ) (c : Bool) → nat_lt a b ≡ c → P a → P b → P (max a b)
max_case P a b true e pa pb =
    let low : a < b = grind (arith, nat_tests) in
    let same : b ≡ max a b = omega (arith, low) in
    subst P same pb
max_case P a b false e pa pb =
    let low : b ≤ a = grind (arith, nat_tests) in
    let same : a ≡ max a b = omega (arith, low) in
    subst P same pa

fold_holds : (P : ℕ → Type 0) (n : ℕ) (xs : List Sight) → P n → AllByRecursion (λ (x : Sight). P x.item.align) xs → P (fold (λ n x. max n x.item.align) n xs)
fold_holds P n [] here all = here
fold_holds P n (x ∷ xs) here all = fold_holds P (max n x.item.align) xs (max_case P n x.item.align (nat_lt n x.item.align) refl here all.0) all.1

abbrev IsSized : Sight → Type 0
IsSized x = IsAddress x.item.length × IsAlignment x.item.align

registers_sized : (rs : List Read) → IsMerged rs → AllByRecursion IsSized (register_items rs)
registers_sized rs m =
    all_less (λ (x : Sight). IsSeenSound rs x × (is_register x.item.kind ≡ true)) IsSized (λ x h. (h.0.3.size, subst (HasProperAlignment x.item.align) (register_is x.item.kind h.1) h.0.3.align)) (register_items rs)
    (all_passing (IsSeenSound rs) (λ (x : Sight). is_register x.item.kind) (sights rs) (sights_sound rs m))

named_sized : (rs : List Read) (y : Name) → IsMerged rs → AllByRecursion IsSized (filter (λ x. name_eq x.item.name y) (register_items rs))
named_sized rs y m =
    all_less (λ (x : Sight). IsSized x × (name_eq x.item.name y ≡ true)) IsSized (λ x h. h.0) (filter (λ x. name_eq x.item.name y) (register_items rs))
    (all_passing IsSized (λ (x : Sight). name_eq x.item.name y) (register_items rs) (registers_sized rs m))

register_sound : (rs : List Read) → IsMerged rs → (y : Name) → IsSoundRegister (register_of rs y)
register_sound rs m y =
    let items : List Sight = filter (λ x. name_eq x.item.name y) (register_items rs) in
    let sized : AllByRecursion IsSized items = named_sized rs y m in
    record {
      size = fold_within 16777215 0 items (omega arith) (all_less IsSized (λ (x : Sight). IsAddress x.item.length) (λ x h. h.0) items sized);
      align = fold_holds IsAlignment 1 items refl (all_less IsSized (λ (x : Sight). IsAlignment x.item.align) (λ x h. h.1) items sized);
    }

pub registers_sound : (rs : List Read) → IsMerged rs → All IsSoundRegister (registers rs)
registers_sound rs m =
    All-from_recursion IsSoundRegister (registers rs)
    (all_mapped IsSoundRegister (register_of rs) (register_sound rs m) (firsts name_eq (map (λ x. x.item.name) (register_items rs))))

-- ---- starts

start_stands : (rs : List Read) (k n offset i : ℕ) (r : Read) (o : Option Item) → slice_get rs k ≡ Some r → slice_get r.module_.items n ≡ o
    → IsSomeAnd o (λ x. IsTrue (is_section x.kind) × (offset ≤ x.length)) → kept_in rs k n ≡ Some i → StandsInSection (program_of rs) i offset
start_stands rs k n offset i r None there here stands kept = absurd stands
start_stands rs k n offset i r (Some x) there here stands kept = stands_kept rs k n offset i r x there here stands.1 kept

start_case : (rs : List Read) (k : ℕ) (r : Read) (entry : SymEntry) (s : StartAt) → r.module_.entry ≡ entry → slice_get rs k ≡ Some r → IsSoundEntry r.module_.items entry → start_of rs (k, r) ≡ Some s → IsSoundStart (program_of rs) s
start_case rs k r NoEntry s is there sound e = absurd (cc (rw is at e))
start_case rs k r (At n offset) s is there sound e =
    let from = map_case (λ (i : ℕ). StartsAt i offset) (kept_in rs k n) s (rw is at e) in
    subst (IsSoundStart (program_of rs)) from.2 (start_stands rs k n offset from.0 r (slice_get r.module_.items n) there refl sound from.1)
start_case rs k r (AtName y) s is there sound e =
    let same : StartsAtName y ≡ s = cc (rw is at e) in
    subst (IsSoundStart (program_of rs)) same sound

pub starts_sound : (rs : List Read) → IsMerged rs → All (IsSoundStart (program_of rs)) (starts rs)
starts_sound rs m =
    All-from_recursion (IsSoundStart (program_of rs)) (starts rs)
    (all_made (IsNumbered rs) (IsSoundStart (program_of rs)) (start_of rs) (λ x s h e. start_case rs x.0 x.1 x.1.module_.entry s refl h.0 h.1.entry e) (enumerate_from 0 rs) (numbered rs m))
