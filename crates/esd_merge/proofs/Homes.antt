-- Where an item is kept there is a section that it fits in.
use Rattle.std.proofs.Common.{◌≡◌, ℕ, zero, suc, ◌+◌, ◌≤◌, max, Bool, true, false, ◌&&◌, ◌==◌, cond, List, [], ◌∷◌, ◌++◌, fold, slice_get, Option, Some, None, is_some, refl, sym, ap, ◌∙◌, subst, arith, filter, filter_map, ◌⊎◌, inl, inr}
use Rattle.std.specs.List.{find, list_any, AllByRecursion, cons_option, position_from}
use Rattle.std.specs.Option.{option_and_then}
use Rattle.std.proofs.lemmas.Bool.Decides.{nat_tests}
use Rattle.le_bytes.specs.declared.name.Name.{Name}
use Rattle.sym_mod.specs.declared.module.Item.{Item}
use Rattle.sym_mod.specs.declared.module.ItemKind.{ItemKind}
use Rattle.sym_mod.specs.declared.module.ItemKind.TheVariants.{Sd, Pc, Cm, Label as LabelItem, Er, Wx, Register}
use Rattle.sym_mod.specs.declared.program.Section.{Section}
use Rattle.sym_mod.specs.declared.program.SecKind.TheVariants.{Sd as SdSection, Pc as PcSection}
use Rattle.sym_mod.specs.Kinds.{kind_of, has_text}
use Rattle.linking_model.specs.Names.{with_first}
use Rattle.linking_model.specs.Kept.{Read, Sight, Symbol, section_symbol_for, ByName, Private, symbol_eq, sights, sights_in, sights_from, is_at, sight_at, is_area_named, kept_sd, areas, kept_as, section_symbol, section_symbols, section_number, kept_in}
use Rattle.linking_model.specs.Merged.{greatest_length, named_section, private_section, section_of, sections}
use Rattle.esd_lists.proofs.Firsts.{name_refl, symbol_same, position_is}
use Rattle.esd_lists.proofs.Sights.{sight_at_is}

-- ---- each sight stands at its place

abbrev pub IsLocated : List Read → Sight → Type 0
IsLocated rs z = sight_at rs z.of_module z.number ≡ Some z

all_join : {A : Type 0} (P : A → Type 0) (xs ys : List A) → AllByRecursion P xs → AllByRecursion P ys → AllByRecursion P (xs ++ ys)
all_join P [] ys a b = b
all_join P (x ∷ xs) ys a b = (a.0, all_join P xs ys a.1 b)

located_in : (rs : List Read) (m k : ℕ) (r : Read) (items : List Item) → slice_get rs m ≡ Some r → ((i : ℕ) → slice_get r.module_.items (k + i) ≡ slice_get items i)
    → AllByRecursion (IsLocated rs) (sights_in m r.segment k items)
located_in rs m k r [] at_m there = tt
located_in rs m k r (x ∷ items) at_m there =
    let same : k + 0 ≡ k = omega arith in
    let here : slice_get r.module_.items k ≡ Some x = rw same at (there 0) in
    let later : (i : ℕ) → slice_get r.module_.items (k + 1 + i) ≡ slice_get items i = λ i.
    let shift : k + suc i ≡ k + 1 + i = omega arith in
    rw shift at (there (suc i)) in
    (sight_at_is rs m k ∙ rw (at_m, here) refl, located_in rs m (k + 1) r items at_m later)

located_from : (rs : List Read) (m : ℕ) (ys : List Read) → ((i : ℕ) (r : Read) → slice_get ys i ≡ Some r → slice_get rs (m + i) ≡ Some r) → AllByRecursion (IsLocated rs) (sights_from m ys)
located_from rs m [] stand = tt
located_from rs m (r ∷ ys) stand =
    let same : m + 0 ≡ m = omega arith in
    let here : slice_get rs m ≡ Some r = rw same at (stand 0 r refl) in
    let zero_on : (i : ℕ) → slice_get r.module_.items (0 + i) ≡ slice_get r.module_.items i = λ i.
    let none : 0 + i ≡ i = omega arith in
    rw none refl in
    let later : (i : ℕ) (z : Read) → slice_get ys i ≡ Some z → slice_get rs (m + 1 + i) ≡ Some z = λ i z e.
    let shift : m + suc i ≡ m + 1 + i = omega arith in
    rw shift at (stand (suc i) z e) in
    all_join (IsLocated rs) (sights_in m r.segment 0 r.module_.items) (sights_from (m + 1) ys) (located_in rs m 0 r r.module_.items here zero_on) (located_from rs (m + 1) ys later)

pub located : (rs : List Read) → AllByRecursion (IsLocated rs) (sights rs)
located rs = located_from rs 0 rs (λ i r e.
    let none : 0 + i ≡ i = omega arith in
    rw none e)

found_case : {A : Type 0} (P : A → Type 0) (x z : A) (o : Option A) (b : Bool) → P x → (o ≡ Some z → P z) → cond b (Some x) o ≡ Some z → P z
found_case P x z o true here more e =
    let same : x ≡ z = cc in
    subst P same here
found_case P x z o false here more e = more e

pub all_found : {A : Type 0} (P : A → Type 0) (p : A → Bool) (xs : List A) (z : A) → AllByRecursion P xs → find p xs ≡ Some z → P z
all_found P p [] z all e = absurd cc
all_found P p (x ∷ xs) z all e = found_case P x z (find p xs) (p x) all.0 (all_found P p xs z all.1) e

pub both_true : (a b : Bool) → (a && b) ≡ true → (a ≡ true) × (b ≡ true)
both_true true b e = (refl, e)
both_true false b e = absurd cc

pub num_same : (a b : ℕ) → (a == b) ≡ true → a ≡ b
num_same a b e = grind (arith, nat_tests)

-- two sights at one place are one
pub same_place : (rs : List Read) (x z : Sight) → IsLocated rs x → IsLocated rs z → is_at z.of_module z.number x ≡ true → z ≡ x
same_place rs x z at_x at_z e =
    let both = both_true (x.of_module == z.of_module) (x.number == z.number) e in
    let m : x.of_module ≡ z.of_module = num_same x.of_module z.of_module both.0 in
    let n : x.number ≡ z.number = num_same x.number z.number both.1 in
    let found : sight_at rs z.of_module z.number ≡ Some x = subst (λ (j : ℕ). sight_at rs z.of_module j ≡ Some x) n (subst (λ (j : ℕ). sight_at rs j x.number ≡ Some x) m at_x) in
    cc (found, at_z)

-- ---- a section that an item is kept in

-- the section has room for the item, and is no area where the item has text
pub record Fits (rs : List Read) (y : Symbol) (x : Sight) (sec : Section) : Type 0 where
  pub is : section_of rs y ≡ Some sec
  pub room : x.item.length ≤ sec.length
  pub text : has_text (kind_of x.item) ≡ true → (sec.kind ≡ SdSection) ⊎ (sec.kind ≡ PcSection)

fold_low : (a : ℕ) (xs : List Sight) → a ≤ fold (λ n x. max n x.item.length) a xs
fold_low a [] = omega arith
fold_low a (x ∷ xs) =
    let more : max a x.item.length ≤ fold (λ n x. max n x.item.length) (max a x.item.length) xs = fold_low (max a x.item.length) xs in
    omega (arith, more)

room_case : (p q : Sight → Bool) (x y : Sight) (ys : List Sight) (n : ℕ) (b : Bool) → q x ≡ b → p y ≡ true → cond b (Some x) (find q ys) ≡ Some y → (q y ≡ true → p y ≡ true)
    → (find q ys ≡ Some y → (m : ℕ) → y.item.length ≤ fold (λ n x. max n x.item.length) m (filter p ys)) → (c : Bool) → p x ≡ c
    → y.item.length ≤ fold (λ n x. max n x.item.length) n (cond c (x ∷ filter p ys) (filter p ys))
room_case p q x y ys n true e pass found give more true here =
    let same : x ≡ y = cc in
    let low : max n x.item.length ≤ fold (λ n x. max n x.item.length) (max n x.item.length) (filter p ys) = fold_low (max n x.item.length) (filter p ys) in
    let at_x : x.item.length ≤ fold (λ n x. max n x.item.length) (max n x.item.length) (filter p ys) = omega (arith, low) in
    subst (λ (z : Sight). z.item.length ≤ fold (λ n x. max n x.item.length) (max n x.item.length) (filter p ys)) same at_x
room_case p q x y ys n true e pass found give more false here =
    let same : x ≡ y = cc in
    let there : p x ≡ true = subst (λ (z : Sight). p z ≡ true) (sym same) pass in
    absurd (cc (there, here))
room_case p q x y ys n false e pass found give more true here = more found (max n x.item.length)
room_case p q x y ys n false e pass found give more false here = more found n

-- what is found and passes is not above the greatest
pub room_in : (p q : Sight → Bool) (xs : List Sight) (y : Sight) (n : ℕ) → find q xs ≡ Some y → p y ≡ true → y.item.length ≤ fold (λ n x. max n x.item.length) n (filter p xs)
room_in p q [] y n found pass = absurd cc
room_in p q (x ∷ xs) y n found pass = room_case p q x y xs n (q x) refl pass found (λ e. pass) (λ e m. room_in p q xs y m e pass) (p x) refl

first_case : (x : Sight) (y : Symbol) (f : Sight) (b : Bool) → is_at f.of_module f.number x ≡ b → cond b (Some (ByName x.item.name)) None ≡ Some y → is_at f.of_module f.number x ≡ true
first_case x y f true e h = e
first_case x y f false e h = absurd cc

pub first_named : (rs : List Read) (x : Sight) (y : Symbol) (o : Option Sight) → kept_sd rs x.item.name ≡ o → IsLocated rs x → option_and_then (λ first. cond (is_at first.of_module first.number x) (Some (ByName x.item.name)) None) o ≡ Some y → o ≡ Some x
first_named rs x y None e at_x kept = absurd cc
first_named rs x y (Some f) e at_x kept =
    let place : is_at f.of_module f.number x ≡ true = first_case x y f (is_at f.of_module f.number x) refl kept in
    ap Some (same_place rs x f at_x (all_found (IsLocated rs) _ (sights rs) f (located rs) e) place)

pub name_case : (x : Sight) (y : Symbol) (o : Option Sight) → option_and_then (λ first. cond (is_at first.of_module first.number x) (Some (ByName x.item.name)) None) o ≡ Some y → ByName x.item.name ≡ y
name_case x y None e = absurd cc
name_case x y (Some f) e = chosen (is_at f.of_module f.number x) e
  where
    chosen : (b : Bool) → cond b (Some (ByName x.item.name)) None ≡ Some y → ByName x.item.name ≡ y
    chosen true e = cc
    chosen false e = absurd cc

fold_more : (a b : ℕ) (xs : List Sight) → a ≤ b → fold (λ n x. max n x.item.length) a xs ≤ fold (λ n x. max n x.item.length) b xs
fold_more a b [] low = low
fold_more a b (x ∷ xs) low = fold_more (max a x.item.length) (max b x.item.length) xs (omega (arith, low))

area_room : (rs : List Read) (y : Name) (o : Option Sight) (n : ℕ) → n ≤ greatest_length (areas rs y) → n ≤ (named_section rs y o).length
area_room rs y None n low = low
area_room rs y (Some f) n low =
    let more : fold (λ n x. max n x.item.length) 0 (areas rs y) ≤ fold (λ n x. max n x.item.length) (max 0 f.item.length) (areas rs y) = fold_more 0 (max 0 f.item.length) (areas rs y) (omega arith) in
    omega (arith, low, more)

pub fits_case : (rs : List Read) (k i : ℕ) (x : Sight) (y : Symbol) (kind : ItemKind) → sight_at rs k i ≡ Some x → kind_of x.item ≡ kind → kept_as rs x kind ≡ Some y → (sec : Section) × Fits rs y x sec
fits_case rs k i x y Sd found kind kept =
    let at_x : IsLocated rs x = all_found (IsLocated rs) (is_at k i) (sights rs) x (located rs) found in
    let first : kept_sd rs x.item.name ≡ Some x = first_named rs x y (kept_sd rs x.item.name) refl at_x kept in
    let name : ByName x.item.name ≡ y = name_case x y (kept_sd rs x.item.name) kept in
    let low : max 0 x.item.length ≤ fold (λ n x. max n x.item.length) (max 0 x.item.length) (areas rs x.item.name) = fold_low (max 0 x.item.length) (areas rs x.item.name) in
    (named_section rs x.item.name (Some x), record { is = subst (λ (s : Symbol). section_of rs s ≡ Some (named_section rs x.item.name (Some x))) name (rw first refl); room = omega (arith, low); text = λ e. inl refl })
fits_case rs k i x y Pc found kind kept =
    let at_x : IsLocated rs x = all_found (IsLocated rs) (is_at k i) (sights rs) x (located rs) found in
    let name : Private x.of_module x.number ≡ y = cc in
    (private_section rs (Private x.of_module x.number) x, record { is = subst (λ (s : Symbol). section_of rs s ≡ Some (private_section rs (Private x.of_module x.number) x)) name (rw at_x refl); room = omega arith; text = λ e. inr refl })
fits_case rs k i x y Cm found kind kept =
    let name : ByName x.item.name ≡ y = cc in
    let here : is_area_named x.item.name x ≡ true = rw (kind, name_refl x.item.name) refl in
    let low : x.item.length ≤ greatest_length (areas rs x.item.name) = room_in (is_area_named x.item.name) (is_at k i) (sights rs) x 0 found here in
    (named_section rs x.item.name (kept_sd rs x.item.name), record { is = subst (λ (s : Symbol). section_of rs s ≡ Some (named_section rs x.item.name (kept_sd rs x.item.name))) name refl; room = area_room rs x.item.name (kept_sd rs x.item.name) x.item.length low; text = λ e. absurd (cc (rw kind at e)) })
fits_case rs k i x y LabelItem found kind kept = absurd cc
fits_case rs k i x y Er found kind kept = absurd cc
fits_case rs k i x y Wx found kind kept = absurd cc
fits_case rs k i x y Register found kind kept = absurd cc

-- ---- its number

from_case : (s x : Symbol) (n j : ℕ) (xs : List Symbol) (b : Bool) → symbol_eq s x ≡ b → (position_from (symbol_eq s) (n + 1) xs ≡ Some j → (i : ℕ) × (j ≡ n + 1 + i) × (slice_get xs i ≡ Some s))
    → cond b (Some n) (position_from (symbol_eq s) (n + 1) xs) ≡ Some j → (i : ℕ) × (j ≡ n + i) × (slice_get (x ∷ xs) i ≡ Some s)
from_case s x n j xs true d more h =
    let here : n ≡ j = cc in
    (0, omega (arith, here), ap Some (sym (symbol_same s x d)))
from_case s x n j xs false d more h =
    let later = more h in
    (suc later.0, omega (arith, later.1), later.2)

from_at : (s : Symbol) (n j : ℕ) (xs : List Symbol) → position_from (symbol_eq s) n xs ≡ Some j → (i : ℕ) × (j ≡ n + i) × (slice_get xs i ≡ Some s)
from_at s n j [] e = absurd cc
from_at s n j (x ∷ xs) e = from_case s x n j xs (symbol_eq s x) refl (from_at s (n + 1) j xs) e

pub number_at : (rs : List Read) (y : Symbol) (j : ℕ) → section_number rs y ≡ Some j → slice_get (section_symbols rs) j ≡ Some y
number_at rs y j e =
    let at_i = from_at y 0 j (section_symbols rs) (sym (position_is (symbol_eq y) (section_symbols rs)) ∙ e) in
    let same : j ≡ at_i.0 = omega (arith, at_i.1) in
    rw same at_i.2

later_at : {B : Type 0} (ys : List B) (y : B) (j : ℕ) (o : Option B) → is_some o ≡ true → slice_get ys j ≡ Some y → slice_get (cons_option o ys) (suc j) ≡ Some y
later_at ys y j None h e = absurd cc
later_at ys y j (Some w) h e = e

pub aligned : {A B : Type 0} (f : A → Option B) (xs : List A) (j : ℕ) (x : A) (y : B) → AllByRecursion (λ x. is_some (f x) ≡ true) xs → slice_get xs j ≡ Some x → f x ≡ Some y → slice_get (filter_map f xs) j ≡ Some y
aligned f [] j x y all e is = absurd cc
aligned {A} {B} f (z ∷ xs) zero x y all e is =
    let same : z ≡ x = cc in
    let here : f z ≡ Some y = subst (λ (w : A). f w ≡ Some y) (sym same) is in
    rw here refl
aligned f (z ∷ xs) (suc j) x y all e is = later_at (filter_map f xs) y j (f z) all.0 (aligned f xs j x y all.1 e is)

-- ---- each section symbol makes a section

some_same : {A : Type 0} {x y : A} → Some x ≡ Some y → x ≡ y
some_same e = cc

section_made : (rs : List Read) (z : Sight) (kind : ItemKind) (y : Symbol) → IsLocated rs z → section_symbol_for z kind ≡ Some y → is_some (section_of rs y) ≡ true
section_made rs z Sd y at_z e = subst (λ (s : Symbol). is_some (section_of rs s) ≡ true) (some_same e) refl
section_made rs z Pc y at_z e = subst (λ (s : Symbol). is_some (section_of rs s) ≡ true) (some_same e) (rw at_z refl)
section_made rs z Cm y at_z e = subst (λ (s : Symbol). is_some (section_of rs s) ≡ true) (some_same e) refl
section_made rs z LabelItem y at_z e = absurd cc
section_made rs z Er y at_z e = absurd cc
section_made rs z Wx y at_z e = absurd cc
section_made rs z Register y at_z e = absurd cc

made_case : (rs : List Read) (o : Option Symbol) (ys : List Symbol) → ((y : Symbol) → o ≡ Some y → is_some (section_of rs y) ≡ true) → AllByRecursion (λ y. is_some (section_of rs y) ≡ true) ys
    → AllByRecursion (λ y. is_some (section_of rs y) ≡ true) (cons_option o ys)
made_case rs None ys here more = more
made_case rs (Some y) ys here more = (here y refl, more)

all_made : (rs : List Read) (xs : List Sight) → AllByRecursion (IsLocated rs) xs → AllByRecursion (λ y. is_some (section_of rs y) ≡ true) (filter_map section_symbol xs)
all_made rs [] all = tt
all_made rs (x ∷ xs) all = made_case rs (section_symbol x) (filter_map section_symbol xs) (λ y e. section_made rs x (kind_of x.item) y all.0 e) (all_made rs xs all.1)

put_all : (P : Symbol → Type 0) (ys : List Symbol) (x : Symbol) (b : Bool) → AllByRecursion P ys → P x → AllByRecursion P (cond b ys (ys ++ x ∷ []))
put_all P ys x true all here = all
put_all P ys x false all here = all_join P ys (x ∷ []) all (here, tt)

fold_all : (P : Symbol → Type 0) (ys xs : List Symbol) → AllByRecursion P ys → AllByRecursion P xs → AllByRecursion P (fold (with_first symbol_eq) ys xs)
fold_all P ys [] a b = a
fold_all P ys (x ∷ xs) a b = fold_all P (with_first symbol_eq ys x) xs (put_all P ys x (list_any (symbol_eq x) ys) a b.0) b.1

pub sections_made : (rs : List Read) → AllByRecursion (λ y. is_some (section_of rs y) ≡ true) (section_symbols rs)
sections_made rs = fold_all (λ y. is_some (section_of rs y) ≡ true) [] (filter_map section_symbol (sights rs)) tt (all_made rs (sights rs) (located rs))

-- ---- the home of an item

-- an item that is kept in section j, and the section
pub record Home (rs : List Read) (k i j : ℕ) (x : Sight) (y : Symbol) (sec : Section) : Type 0 where
  pub seen : sight_at rs k i ≡ Some x
  pub kept : kept_as rs x (kind_of x.item) ≡ Some y
  pub fits : Fits rs y x sec
  pub there : slice_get (sections rs) j ≡ Some sec

symbol_case : (rs : List Read) (k i j : ℕ) (x : Sight) (o : Option Symbol) → sight_at rs k i ≡ Some x → kept_as rs x (kind_of x.item) ≡ o → option_and_then (section_number rs) o ≡ Some j
    → (y : Symbol) × (sec : Section) × Home rs k i j x y sec
symbol_case rs k i j x None found e number = absurd cc
symbol_case rs k i j x (Some y) found e number =
    let fits = fits_case rs k i x y (kind_of x.item) found refl e in
    (y, fits.0, record { seen = found; kept = e; fits = fits.1; there = aligned (section_of rs) (section_symbols rs) j y fits.0 (sections_made rs) (number_at rs y j number) fits.1.is })

sight_case : (rs : List Read) (k i j : ℕ) (o : Option Sight) → sight_at rs k i ≡ o → option_and_then (section_number rs) (option_and_then (λ x. kept_as rs x (kind_of x.item)) o) ≡ Some j
    → (x : Sight) × (y : Symbol) × (sec : Section) × Home rs k i j x y sec
sight_case rs k i j None found number = absurd cc
sight_case rs k i j (Some x) found number =
    let home = symbol_case rs k i j x (kept_as rs x (kind_of x.item)) found refl number in
    (x, home.0, home.1, home.2)

-- what is kept in section j fits there
pub home_of : (rs : List Read) (k i j : ℕ) → kept_in rs k i ≡ Some j → (x : Sight) × (y : Symbol) × (sec : Section) × Home rs k i j x y sec
unfolding kept_in
home_of rs k i j number = sight_case rs k i j (sight_at rs k i) refl number
