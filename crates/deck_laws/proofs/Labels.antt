-- Each label of a merged program lies in a section that has text, as each label of its modules does in an item.
use Rattle.std.proofs.Common.{arith, ◌≡◌, ℕ, suc, ◌+◌, ◌-◌, Bool, true, false, List, [], ◌∷◌, slice_get, Option, Some, None, option_map, refl, sym, ◌∙◌, ap, subst, filter, ◌⊎◌, inl, inr}
use Rattle.std.specs.Prelude.{IsSomeAnd, IsTrue, ⊤}
use Rattle.std.specs.List.{AllByRecursion}
use Rattle.std.specs.Option.{option_map_or}
use Rattle.std.proofs.lemmas.List.Elements.{recursion_from_All}
use Rattle.le_bytes.specs.declared.name.Name.{Name}
use Rattle.le_bytes.specs.Names.{is_blank, name_eq}
use Rattle.sym_mod.specs.declared.module.Item.{Item}
use Rattle.sym_mod.specs.declared.module.ItemKind.{ItemKind}
use Rattle.sym_mod.specs.declared.module.ItemKind.TheVariants.{Sd, Pc, Cm, Label as LabelItem, Er, Wx, Register as RegisterItem}
use Rattle.sym_mod.specs.declared.program.Section.{Section}
use Rattle.sym_mod.specs.declared.program.SecKind.TheVariants.{Sd as SdSection, Pc as PcSection}
use Rattle.sym_mod.specs.declared.program.Label.{Label}
use Rattle.sym_mod.specs.Kinds.{kind_of, has_text, is_label}
use Rattle.linking_model.specs.Kept.{Read, Sight, Symbol, ByName, Private, sights, sights_in, sights_from, sight_at, kept_in, appearance, rank_of}
use Rattle.linking_model.specs.Merged.{sections, label_at, is_label_named, kept_labels, label_of, labels}
use Rattle.esd_lists.proofs.Each.{both_true, all_at, all_made, all_given, all_passing, all_join}
use Rattle.esd_lists.proofs.Sights.{seen_at, sight_at_is}
use Rattle.esd_merge.proofs.Homes.{home_of}
use Rattle.member_laws.specs.Linkable.{HasEightBytes, HasText}
use Rattle.deck_laws.specs.Whole.{LiesInText, IsWholeRead}

-- ---- the items that are seen

-- the item is one of a module, in which its label lies in text, and it has a name of eight bytes
record IsSeen (rs : List Read) (x : Sight) : Type 0 where
  read : Read
  there : slice_get rs x.of_module ≡ Some read
  text : LiesInText read.module_.items x.item x.item.kind
  name : HasEightBytes x.item.name

-- these modules stand from number k on
abbrev StandFrom : List Read → ℕ → List Read → Type 0
StandFrom rs k ys = (i : ℕ) (r : Read) → slice_get ys i ≡ Some r → slice_get rs (k + i) ≡ Some r

stands_here : (rs : List Read) (k : ℕ) (r : Read) (ys : List Read) → StandFrom rs k (r ∷ ys) → slice_get rs k ≡ Some r
stands_here rs k r ys stand =
    let same : k + 0 ≡ k = omega arith in
    rw same at (stand 0 r refl)

stands_later : (rs : List Read) (k : ℕ) (r : Read) (ys : List Read) → StandFrom rs k (r ∷ ys) → StandFrom rs (k + 1) ys
stands_later rs k r ys stand i z e =
    let same : k + suc i ≡ k + 1 + i = omega arith in
    rw same at (stand (suc i) z e)

from_zero : (rs : List Read) → StandFrom rs 0 rs
from_zero rs i r e =
    let same : 0 + i ≡ i = omega arith in
    rw same e

seen_in : (rs : List Read) (m k : ℕ) (r : Read) (items : List Item) → slice_get rs m ≡ Some r
    → AllByRecursion (λ x. LiesInText r.module_.items x x.kind) items → AllByRecursion (λ x. HasEightBytes x.name) items
    → AllByRecursion (IsSeen rs) (sights_in m r.segment k items)
seen_in rs m k r [] there text names = tt
seen_in rs m k r (x ∷ items) there text names =
    (record { read = r; there = there; text = text.0; name = names.0 }, seen_in rs m (k + 1) r items there text.1 names.1)

seen_from : (rs : List Read) (m : ℕ) (ys : List Read) → StandFrom rs m ys → AllByRecursion IsWholeRead ys → AllByRecursion (IsSeen rs) (sights_from m ys)
seen_from rs m [] stand all = tt
seen_from rs m (r ∷ ys) stand all =
    all_join (IsSeen rs) (sights_in m r.segment 0 r.module_.items) (sights_from (m + 1) ys)
    (seen_in rs m 0 r r.module_.items (stands_here rs m r ys stand)
    (recursion_from_All (λ (x : Item). LiesInText r.module_.items x x.kind) r.module_.items all.0.labels)
    (recursion_from_All (λ (x : Item). HasEightBytes x.name) r.module_.items all.0.names))
    (seen_from rs (m + 1) ys (stands_later rs m r ys stand) all.1)

seen_all : (rs : List Read) → AllByRecursion IsWholeRead rs → AllByRecursion (IsSeen rs) (sights rs)
seen_all rs all = seen_from rs 0 rs (from_zero rs) all

-- ---- where a label lies

abbrev OwnerHasText : List Item → Item → Type 0
OwnerHasText items x = IsSomeAnd (slice_get items x.owner) (λ owner. IsTrue (has_text owner.kind))

owner_case : (items : List Item) (x : Item) (b : Bool) (kind : ItemKind) → is_blank x.name ≡ b → x.kind ≡ kind → is_label (kind_of x) ≡ true → LiesInText items x kind → OwnerHasText items x
owner_case items x b LabelItem d e is text = text
owner_case items x true Sd d e is text = let no_label : false ≡ true = rw (d, e) at is in absurd cc
owner_case items x false Sd d e is text = let no_label : false ≡ true = rw (d, e) at is in absurd cc
owner_case items x true Pc d e is text = let no_label : false ≡ true = rw (d, e) at is in absurd cc
owner_case items x false Pc d e is text = let no_label : false ≡ true = rw (d, e) at is in absurd cc
owner_case items x true Cm d e is text = let no_label : false ≡ true = rw (d, e) at is in absurd cc
owner_case items x false Cm d e is text = let no_label : false ≡ true = rw (d, e) at is in absurd cc
owner_case items x true Er d e is text = let no_label : false ≡ true = rw (d, e) at is in absurd cc
owner_case items x false Er d e is text = let no_label : false ≡ true = rw (d, e) at is in absurd cc
owner_case items x true Wx d e is text = let no_label : false ≡ true = rw (d, e) at is in absurd cc
owner_case items x false Wx d e is text = let no_label : false ≡ true = rw (d, e) at is in absurd cc
owner_case items x true RegisterItem d e is text = let no_label : false ≡ true = rw (d, e) at is in absurd cc
owner_case items x false RegisterItem d e is text = let no_label : false ≡ true = rw (d, e) at is in absurd cc

text_kind : (x : Item) (b : Bool) (k : ItemKind) → is_blank x.name ≡ b → x.kind ≡ k → has_text k ≡ true → has_text (kind_of x) ≡ true
text_kind x true Sd d e h = rw (d, e) refl
text_kind x false Sd d e h = rw (d, e) refl
text_kind x true Pc d e h = rw (d, e) refl
text_kind x false Pc d e h = rw (d, e) refl
text_kind x b Cm d e h = absurd cc
text_kind x b LabelItem d e h = absurd cc
text_kind x b Er d e h = absurd cc
text_kind x b Wx d e h = absurd cc
text_kind x b RegisterItem d e h = absurd cc

abbrev SectionHasText : List Read → ℕ → Type 0
SectionHasText rs i = IsSomeAnd (slice_get (sections rs) i) (λ y. HasText y.kind)

of_kind : (rs : List Read) (i : ℕ) (y : Section) → slice_get (sections rs) i ≡ Some y → (y.kind ≡ SdSection) ⊎ (y.kind ≡ PcSection) → SectionHasText rs i
of_kind rs i y there (inl kind) = rw (there, kind) tt
of_kind rs i y there (inr kind) = rw (there, kind) tt

-- the section in which an item that has text is kept has text
kept_text : (rs : List Read) (m n i : ℕ) (r : Read) (o : Option Item) → slice_get rs m ≡ Some r → slice_get r.module_.items n ≡ o → IsSomeAnd o (λ x. IsTrue (has_text x.kind)) → kept_in rs m n ≡ Some i → SectionHasText rs i
kept_text rs m n i r None at_m at_n text kept = absurd text
kept_text rs m n i r (Some x) at_m at_n text kept =
    let found = home_of rs m n i kept in
    let seen : sight_at rs m n ≡ Some (seen_at m r.segment n x) = sight_at_is rs m n ∙ rw (at_m, at_n) refl in
    let same : found.0 ≡ seen_at m r.segment n x = cc (found.3.seen, seen) in
    let item : found.0.item ≡ x = ap (λ (z : Sight). z.item) same in
    of_kind rs i found.2 found.3.there (found.3.fits.text (subst (λ (z : Item). has_text (kind_of z) ≡ true) (sym item) (text_kind x (is_blank x.name) x.kind refl refl text)))

-- ---- the labels

-- the label lies in a section that has text, and has a name of eight bytes
abbrev pub IsWholeLabel : List Read → Label → Type 0
IsWholeLabel rs x = SectionHasText rs x.section × HasEightBytes x.name

abbrev label_in : List Read → Sight → ℕ → Label
label_in rs x i = record {
  name = x.item.name;
  rank = rank_of rs (ByName x.item.name);
  section = i;
  offset = x.item.base - option_map_or (λ o. o.item.base) (sight_at rs x.of_module x.item.owner) 0;
}

map_case : {A B : Type 0} (f : A → B) (o : Option A) (y : B) → option_map f o ≡ Some y → (x : A) × (o ≡ Some x) × (f x ≡ y)
map_case f None y e = absurd cc
map_case f (Some x) y e = (x, refl, cc)

label_whole : (rs : List Read) (y : Name) (x : Sight) (l : Label) → IsSeen rs x × (is_label_named y x ≡ true) → label_at rs x ≡ Some l → IsWholeLabel rs l
label_whole rs y x l seen e =
    let at = seen.0 in
    let is : is_label (kind_of x.item) ≡ true = (both_true (is_label (kind_of x.item)) (name_eq x.item.name y) seen.1).0 in
    let from = map_case (label_in rs x) (kept_in rs x.of_module x.item.owner) l e in
    let owner : OwnerHasText at.read.module_.items x.item = owner_case at.read.module_.items x.item (is_blank x.item.name) x.item.kind refl refl is at.text in
    subst (IsWholeLabel rs) from.2
    (kept_text rs x.of_module x.item.owner from.0 at.read (slice_get at.read.module_.items x.item.owner) at.there refl owner from.1, at.name)

label_of_whole : (rs : List Read) → AllByRecursion IsWholeRead rs → (y : Symbol) (l : Label) → ⊤ → label_of rs y ≡ Some l → IsWholeLabel rs l
label_of_whole rs all (ByName y) l h e =
    all_at (IsWholeLabel rs) (kept_labels rs y) 0 l
    (all_made (λ (x : Sight). IsSeen rs x × (is_label_named y x ≡ true)) (IsWholeLabel rs) (label_at rs) (label_whole rs y) (filter (is_label_named y) (sights rs))
    (all_passing (IsSeen rs) (is_label_named y) (sights rs) (seen_all rs all))) e
label_of_whole rs all (Private m n) l h e = absurd cc

pub labels_whole : (rs : List Read) → AllByRecursion IsWholeRead rs → AllByRecursion (IsWholeLabel rs) (labels rs)
labels_whole rs all =
    all_made (λ (y : Symbol). ⊤) (IsWholeLabel rs) (label_of rs) (label_of_whole rs all) (appearance rs) (all_given (λ (y : Symbol). ⊤) (λ y. tt) (appearance rs))
