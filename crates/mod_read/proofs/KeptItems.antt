-- Where the symbol items that are kept stand among the items of the module.
use Rattle.std.proofs.Common.{arith, ◌≡◌, ℕ, zero, suc, ◌+◌, ◌-◌, ◌<◌, ◌≤◌, ◌⊎◌, inl, inr, Bool, true, false, not, cond, ◌==◌, if◌then◌else◌, List, [], ◌∷◌, map, take, slice_get, Option, Some, None, refl, sym, ap, subst, ◌∙◌}
use Rattle.std.specs.Prelude.{IsSomeAnd, IsTrue}
use Rattle.std.specs.List.{filter, count_by}
use Rattle.std.specs.Option.{option_map_or}
use Rattle.std.proofs.lemmas.List.Sums.{sum_by-cons}
use Rattle.load_recs.specs.Kinds.{is_text_kind, is_section_kind}
use Rattle.load_recs.specs.declared.items.SymbolKind.{SymbolKind}
use Rattle.load_recs.specs.declared.items.SymbolKind.TheVariants.{Sd, Er, Lr, Pc, Cm, Pr, Null, Wx}
use Rattle.load_recs.specs.declared.items.SymbolItem.{SymbolItem}
use Rattle.le_bytes.specs.Names.{is_blank}
use Rattle.sym_mod.specs.declared.module.Item.{Item}
use Rattle.sym_mod.specs.declared.module.ItemKind.TheVariants as item
use Rattle.sym_mod.specs.Kinds.{has_text, is_section}
use Rattle.sym_mod.specs.Sound.{LieInItem}
use Rattle.member_model.specs.Symbols.{symbol_at, address_in_module}
use Rattle.member_model.specs.ReadBack.{is_gone, is_kept_at, new_number, plain_item, private_item, item_as, items_of}
use Rattle.mod_read.specs.Numbering.{is_kept}
use Rattle.mod_read.specs.Judged.{LiesIn}

-- ---- counting what passes

count_cons : {X : Type 0} (p : X → Bool) (x : X) (xs : List X) → count_by p (x ∷ xs) ≡ cond (p x) 1 0 + count_by p xs
count_cons p x xs = sum_by-cons (λ x. cond (p x) 1 0) x xs

get_next : {X : Type 0} (x : X) (xs : List X) (n m : ℕ) → m ≡ 1 + n → slice_get (x ∷ xs) m ≡ slice_get xs n
get_next x xs n m e = ap (λ k. slice_get (x ∷ xs) k) (e ∙ (let f : 1 + n ≡ suc n = omega arith in f))

passed_step : {X Y : Type 0} (f : X → Y) (y : X) (rest : List X) (b : Bool) (n m : ℕ) (x : X) → m ≡ cond b 1 0 + n → slice_get (map f rest) n ≡ Some (f x)
    → slice_get (map f (cond b (y ∷ rest) rest)) m ≡ Some (f x)
passed_step f y rest true n m x e there = get_next (f y) (map f rest) n m e ∙ there
passed_step f y rest false n m x e there = ap (λ k. slice_get (map f rest) k) (e ∙ (let g : 0 + n ≡ n = omega arith in g)) ∙ there

first_step : {X Y : Type 0} (f : X → Y) (y x : X) (rest : List X) (b : Bool) → b ≡ true → y ≡ x → slice_get (map f (cond b (y ∷ rest) rest)) 0 ≡ Some (f x)
first_step f y x rest true e same = ap (λ z. Some (f z)) same
first_step f y x rest false e same = cc

-- an element that passes stands where so many pass before it
pub filter_at : {X Y : Type 0} (f : X → Y) (p : X → Bool) (xs : List X) (k : ℕ) (x : X) → slice_get xs k ≡ Some x → p x ≡ true
    → slice_get (map f (filter p xs)) (count_by p (take k xs)) ≡ Some (f x)
filter_at f p [] k x there passes = cc
filter_at f p (y ∷ ys) zero x there passes =
    let same : y ≡ x = cc there in first_step f y x (filter p ys) (p y) (ap p same ∙ passes) same
filter_at f p (y ∷ ys) (suc k) x there passes =
    passed_step f y (filter p ys) (p y) (count_by p (take k ys)) (count_by p (y ∷ take k ys)) x (count_cons p y (take k ys)) (filter_at f p ys k x there passes)

-- more pass before a later place
count_grows : {X : Type 0} (p : X → Bool) (xs : List X) (k j : ℕ) (x : X) → slice_get xs k ≡ Some x → p x ≡ true → k < j → count_by p (take k xs) < count_by p (take j xs)
count_grows p [] k j x there passes low = cc
count_grows p (y ∷ ys) zero zero x there passes low = absurd (omega (arith, low))
count_grows p (y ∷ ys) zero (suc j) x there passes low =
    let same : y ≡ x = cc there in
    some_first (p y) (count_by p (take j ys)) _ (ap p same ∙ passes) (count_cons p y (take j ys))
  where
    some_first : (b : Bool) (n m : ℕ) → b ≡ true → m ≡ cond b 1 0 + n → 0 < m
    some_first true n m e is = omega (arith, is)
    some_first false n m e is = cc
count_grows p (y ∷ ys) (suc k) zero x there passes low = absurd (omega (arith, low))
count_grows p (y ∷ ys) (suc k) (suc j) x there passes low =
    both (cond (p y) 1 0) (count_cons p y (take k ys)) (count_cons p y (take j ys)) (count_grows p ys k j x there passes (omega (arith, low)))
  where
    both : (c : ℕ) {a b m n : ℕ} → a ≡ c + m → b ≡ c + n → m < n → a < b
    both c e f h = omega arith

three_ways : (k j : ℕ) → (k ≡ j) ⊎ ((k < j) ⊎ (j < k))
three_ways k j = grind arith

-- ---- by number

pub record Stands (symbols : List SymbolItem) (n : ℕ) (x : SymbolItem) : Type 0 where
  pub some : 1 ≤ n
  pub there : slice_get symbols (n - 1) ≡ Some x

pub stands : (symbols : List SymbolItem) (n : ℕ) (x : SymbolItem) → symbol_at symbols n ≡ Some x → Stands symbols n x
stands symbols n x found = by_number (n == 0) refl found
  where
    at_least : (n : ℕ) → (n == 0) ≡ false → 1 ≤ n
    at_least n e = grind (arith, e)

    by_number : (t : Bool) → (n == 0) ≡ t → (if t then None else slice_get symbols (n - 1)) ≡ Some x → Stands symbols n x
    by_number true e h = cc
    by_number false e h = record { some = at_least n e; there = h }

is_kept_of : (symbols : List SymbolItem) (x : SymbolItem) → is_gone symbols x ≡ false → is_kept symbols x ≡ true
is_kept_of symbols x kept = ap not kept

pub item_found : (symbols : List SymbolItem) (n : ℕ) (x : SymbolItem) → symbol_at symbols n ≡ Some x → is_gone symbols x ≡ false
    → slice_get (items_of symbols) (new_number symbols n) ≡ Some (item_as symbols x x.kind)
item_found symbols n x found kept =
    filter_at (λ x. item_as symbols x x.kind) (is_kept symbols) symbols (n - 1) x (stands symbols n x found).there (is_kept_of symbols x kept)

-- items that are kept have numbers of their own
pub same_number : (symbols : List SymbolItem) (n m : ℕ) (x y : SymbolItem) → symbol_at symbols n ≡ Some x → is_gone symbols x ≡ false → symbol_at symbols m ≡ Some y → is_gone symbols y ≡ false
    → new_number symbols n ≡ new_number symbols m → n ≡ m
same_number symbols n m x y found kept other also same =
    let a : Stands symbols n x = stands symbols n x found in
    let b : Stands symbols m y = stands symbols m y other in
    elim (three_ways (n - 1) (m - 1)) [
      | inl e ↦ equal n m a.some b.some e
      | inr o ↦ elim o [
        | inl low ↦ absurd (clash _ _ same (count_grows (is_kept symbols) symbols (n - 1) (m - 1) x a.there (is_kept_of symbols x kept) low))
        | inr high ↦ absurd (clash _ _ (sym same) (count_grows (is_kept symbols) symbols (m - 1) (n - 1) y b.there (is_kept_of symbols y also) high))
      ]
    ]
  where
    equal : (n m : ℕ) → 1 ≤ n → 1 ≤ m → n - 1 ≡ m - 1 → n ≡ m
    equal n m h i e = omega arith

    clash : (a b : ℕ) → a ≡ b → a < b → ⊥
    clash a b e h = absurd (omega arith)

kept_some : (symbols : List SymbolItem) (o : Option SymbolItem) (x : SymbolItem) → o ≡ Some x → option_map_or (λ x. not (is_gone symbols x)) o false ≡ true → is_gone symbols x ≡ false
kept_some symbols o x is kept = untrue (is_gone symbols x) (ap (λ o. option_map_or (λ x. not (is_gone symbols x)) o false) (sym is) ∙ kept)
  where
    untrue : (b : Bool) → not b ≡ true → b ≡ false
    untrue true h = sym h
    untrue false h = refl

-- the item that is kept there is not gone
pub kept_there : (symbols : List SymbolItem) (n : ℕ) (x : SymbolItem) → symbol_at symbols n ≡ Some x → is_kept_at symbols n ≡ true → is_gone symbols x ≡ false
kept_there symbols n x found kept = kept_some symbols (symbol_at symbols n) x found kept

-- ---- sections

-- the item is a section of the same address and length
pub record IsSectionOf (made : Item) (x : SymbolItem) : Type 0 where
  pub section : is_section made.kind ≡ true
  pub base : made.base ≡ x.address
  pub size : made.length ≡ x.length

sd_item : (x : SymbolItem) (blank : Bool) → IsSectionOf (if blank then private_item x else plain_item x.name item.Sd x.address x.length) x
sd_item x true = record { section = refl; base = refl; size = refl }
sd_item x false = record { section = refl; base = refl; size = refl }

pub section_item : (symbols : List SymbolItem) (x : SymbolItem) (kind : SymbolKind) → is_section_kind kind ≡ true → IsSectionOf (item_as symbols x kind) x
section_item symbols x Sd is = sd_item x (is_blank x.name)
section_item symbols x Pc is = record { section = refl; base = refl; size = refl }
section_item symbols x Cm is = record { section = refl; base = refl; size = refl }
section_item symbols x Er is = cc
section_item symbols x Lr is = cc
section_item symbols x Pr is = cc
section_item symbols x Null is = cc
section_item symbols x Wx is = cc

sd_text : (x : SymbolItem) (blank : Bool) → has_text (let made : Item = if blank then private_item x else plain_item x.name item.Sd x.address x.length in made).kind ≡ true
sd_text x true = refl
sd_text x false = refl

pub text_item : (symbols : List SymbolItem) (x : SymbolItem) (kind : SymbolKind) → is_text_kind kind ≡ true → has_text (item_as symbols x kind).kind ≡ true
text_item symbols x Sd is = sd_text x (is_blank x.name)
text_item symbols x Pc is = refl
text_item symbols x Cm is = cc
text_item symbols x Er is = cc
text_item symbols x Lr is = cc
text_item symbols x Pr is = cc
text_item symbols x Null is = cc
text_item symbols x Wx is = cc

pub text_section : (kind : SymbolKind) → is_text_kind kind ≡ true → is_section_kind kind ≡ true
text_section Sd is = refl
text_section Pc is = refl
text_section Cm is = cc
text_section Er is = cc
text_section Lr is = cc
text_section Pr is = cc
text_section Null is = cc
text_section Wx is = cc

pub address_is : (symbols : List SymbolItem) (n : ℕ) (x : SymbolItem) → symbol_at symbols n ≡ Some x → address_in_module symbols n ≡ x.address
address_is symbols n x found = ap (λ o. option_map_or (λ x. x.address) o 0) found

inside : (a n from base len size : ℕ) → base ≡ from → len ≡ size → from ≤ a → a + n ≤ from + size → a - base + n ≤ len
inside a n from base len size e f low high = omega arith

-- what lies in a section that is kept lies in its item
pub lies_there : (symbols : List SymbolItem) (number address n : ℕ) → LiesIn symbols number address n → is_kept_at symbols number ≡ true
    → LieInItem (items_of symbols) (new_number symbols number) (address - address_in_module symbols number) n
lies_there symbols number address n lies kept =
    let x : SymbolItem = lies.section in
    let made : IsSectionOf (item_as symbols x x.kind) x = section_item symbols x x.kind (text_section x.kind lies.text) in
    subst (λ o. IsSomeAnd o (λ made. IsTrue (has_text made.kind) × (address - address_in_module symbols number + n ≤ made.length)))
    (sym (item_found symbols number x lies.there (kept_there symbols number x lies.there kept)))
    (text_item symbols x x.kind lies.text, inside address n x.address (address_in_module symbols number) (item_as symbols x x.kind).length x.length (address_is symbols number x lies.there) made.size lies.from lies.to)
