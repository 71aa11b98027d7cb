-- An item that is found, and its symbol.
use Rattle.std.proofs.Common.{arith, ◌≡◌, ℕ, zero, suc, ◌+◌, ◌-◌, ◌<◌, ◌≤◌, ◌^◌, Bool, true, false, ◌||◌, ◌==◌, nat_lt, cond, if◌then◌else◌, List, [], ◌∷◌, length, map, slice_get, Option, Some, None, unwrap_or, refl, sym, ◌∙◌, ap, subst}
use Rattle.std.specs.Prelude.{IsTrue, IsSomeAnd}
use Rattle.std.specs.List.{position_or_len, AllByRecursion}
use Rattle.std.specs.Option.{option_map_or}
use Rattle.std.proofs.lemmas.List.Folds.{find_at}
use Rattle.le_bytes.specs.Names.{is_blank}
use Rattle.obj_cards.specs.declared.card.EsdKind.{EsdKind}
use Rattle.obj_cards.specs.declared.card.EsdKind.TheVariants.{Sd, Ld, Er, Pc, Cm, Pr, Wx}
use Rattle.obj_cards.specs.declared.card.EsdItem.{EsdItem}
use Rattle.obj_cards.specs.Esd.{SuitsKind, is_alignment}
use Rattle.sym_mod.specs.declared.module.Item.{Item}
use Rattle.sym_mod.specs.Kinds.{has_text as has_item_text}
use Rattle.sym_mod.specs.Sound.{HasProperName, HasProperAlignment, LieInItem}
use Rattle.obj_read.specs.declared.numbered.Numbered.{Numbered}
use Rattle.obj_read.specs.Facts.{has_text, has_esdid, with_esdid}
use Rattle.obj_read.specs.Module.{symbol, symbol_kind, length_for, align_for, base_of, number_or}
use Rattle.obj_read.specs.Faults.{takes_reserved_name, if_text, section_of, lie_in}

pub all_map : {X Y : Type 0} (P : Y → Type 0) (F : X → Y) (xs : List X) → AllByRecursion (λ x. P (F x)) xs → AllByRecursion P (map F xs)
all_map P F [] all = tt
all_map P F (x ∷ xs) all = (all.0, all_map P F xs all.1)

pub all_both : {X : Type 0} (P Q : X → Type 0) (xs : List X) → AllByRecursion P xs → AllByRecursion Q xs → AllByRecursion (λ x. P x × Q x) xs
all_both P Q [] p q = tt
all_both P Q (x ∷ xs) p q = ((p.0, q.0), all_both P Q xs p.1 q.1)

-- ---- an item that is found

pub there_step : (k n : ℕ) → k < n → unwrap_or (cond (nat_lt k n) (Some k) None) 0 ≡ k
there_step k n within = grind (arith, within)

pub get_within : {X : Type 0} (xs : List X) (k : ℕ) (x : X) → slice_get xs k ≡ Some x → k < length xs
get_within [] k x there = cc
get_within (y ∷ xs) zero x there = omega arith
get_within (y ∷ xs) (suc k) x there = let h : k < length xs = get_within xs k x there in omega arith

pub get_mapped : {X Y : Type 0} (F : X → Y) (xs : List X) (k : ℕ) (x : X) → slice_get xs k ≡ Some x → slice_get (map F xs) k ≡ Some (F x)
get_mapped F [] k x there = cc
get_mapped F (y ∷ xs) zero x there = let same : y ≡ x = cc there in ap (λ z. Some (F z)) same
get_mapped F (y ∷ xs) (suc k) x there = get_mapped F xs k x there

pub found_there : (items : List Numbered) (id : ℕ) (x : Numbered) → with_esdid id items ≡ Some x → slice_get items (number_or items id) ≡ Some x
found_there items id x found =
    let at : slice_get items (position_or_len (has_esdid id) items) ≡ Some x = sym (find_at (has_esdid id) items) ∙ found in
    ap (λ k. slice_get items k) (there_step (position_or_len (has_esdid id) items) (length items) (get_within items (position_or_len (has_esdid id) items) x at)) ∙ at

pub found_symbol : (items : List Numbered) (id : ℕ) (x : Numbered) → with_esdid id items ≡ Some x
    → slice_get (map (symbol items) items) (number_or items id) ≡ Some (symbol items x)
found_symbol items id x found = get_mapped (symbol items) items (number_or items id) x (found_there items id x found)

-- ---- a section that is found

pub section_text : (k : EsdKind) (blank : Bool) → has_text k ≡ true → has_item_text (symbol_kind k blank) ≡ true
section_text Sd true has = refl
section_text Sd false has = refl
section_text Pc blank has = refl
section_text Ld blank has = cc
section_text Er blank has = cc
section_text Cm blank has = cc
section_text Pr blank has = cc
section_text Wx blank has = cc

pub section_length : (k : EsdKind) (i : EsdItem) → has_text k ≡ true → length_for i k ≡ i.length
section_length Sd i has = refl
section_length Pc i has = refl
section_length Ld i has = cc
section_length Er i has = refl
section_length Cm i has = refl
section_length Pr i has = refl
section_length Wx i has = refl

pub record Found (items : List Numbered) (id : ℕ) (s : EsdItem) : Type 0 where
  pub x : Numbered
  pub is : with_esdid id items ≡ Some x
  pub item : x.item ≡ s
  pub text : has_text x.item.kind ≡ true

pub if_found : (b : Bool) (i s : EsdItem) → (if b then Some i else None) ≡ Some s → (i ≡ s) × (b ≡ true)
if_found true i s is = (cc, refl)
if_found false i s is = cc

pub section_step : (o : Option Numbered) (s : EsdItem) → option_map_or if_text o None ≡ Some s
    → (x : Numbered) × (o ≡ Some x) × (x.item ≡ s) × (has_text x.item.kind ≡ true)
section_step None s is = cc
section_step (Some x) s is =
    let both : (x.item ≡ s) × (has_text x.item.kind ≡ true) = if_found (has_text x.item.kind) x.item s is in
    (x, refl, both.0, both.1)

pub found_section : (items : List Numbered) (id : ℕ) (s : EsdItem) → section_of items id ≡ Some s → Found items id s
found_section items id s is =
    let f : (x : Numbered) × (with_esdid id items ≡ Some x) × (x.item ≡ s) × (has_text x.item.kind ≡ true) = section_step (with_esdid id items) s is in
    record { x = f.0; is = f.1; item = f.2; text = f.3 }

pub base_found : (items : List Numbered) (id : ℕ) (s : EsdItem) → Found items id s → base_of items id ≡ s.address
base_found items id s f = ap (λ o. option_map_or (λ x. x.item.address) o 0) f.is ∙ ap (λ i. i.address) f.item

-- what holds of the symbol of a section that is found
pub at_section : (items : List Numbered) (id : ℕ) (s : EsdItem) (P : Item → Type 0) → Found items id s
    → ((o : Item) → (has_item_text o.kind ≡ true) → (o.base ≡ s.address) → (o.length ≡ s.length) → P o)
    → IsSomeAnd (slice_get (map (symbol items) items) (number_or items id)) P
at_section items id s P f holds =
    subst (λ o. IsSomeAnd o P) (sym (found_symbol items id f.x f.is))
    (holds (symbol items f.x) (section_text f.x.item.kind (is_blank f.x.item.name) f.text) (ap (λ i. i.address) f.item)
    (section_length f.x.item.kind f.x.item f.text ∙ ap (λ i. i.length) f.item))

pub lie_from : (x : EsdItem) (a n : ℕ) → lie_in x a n ≡ true → x.address ≤ a
lie_from x a n lies = grind (arith, lies)

pub lie_to : (x : EsdItem) (a n : ℕ) → lie_in x a n ≡ true → a + n ≤ x.address + x.length
lie_to x a n lies = grind (arith, lies)

-- bytes that lie in the section lie in its item
pub lies_in_item : (items : List Numbered) (id a n m : ℕ) (s : EsdItem) → Found items id s → lie_in s a n ≡ true → m ≤ n
    → LieInItem (map (symbol items) items) (number_or items id) (a - base_of items id) m
lies_in_item items id a n m s f lies fewer =
    let b : base_of items id ≡ s.address = base_found items id s f in
    let from : s.address ≤ a = lie_from s a n lies in
    let to : a + n ≤ s.address + s.length = lie_to s a n lies in
    at_section items id s (λ x. IsTrue (has_item_text x.kind) × (a - base_of items id + m ≤ x.length)) f
    (λ o text base len. (text, omega arith))

-- ---- items

pub blank_is : (b : Bool) (i : EsdItem) → is_blank i.name ≡ b → takes_reserved_name Sd i ≡ false → HasProperName i.name (symbol_kind Sd b)
blank_is true i is free = is
blank_is false i is free = free

pub proper_name : (k : EsdKind) (i : EsdItem) → SuitsKind k i → takes_reserved_name k i ≡ false → HasProperName i.name (symbol_kind k (is_blank i.name))
proper_name Sd i suits free = blank_is (is_blank i.name) i refl free
proper_name Ld i suits free = suits.0
proper_name Er i suits free = suits.0
proper_name Pc i suits free = ap (λ n. is_blank n) suits.0
proper_name Cm i suits free = tt
proper_name Pr i suits free = tt
proper_name Wx i suits free = suits.0

pub alignment : (a : ℕ) → is_alignment a ≡ true → ((a + 1) == 1 || (a + 1) == 2 || (a + 1) == 4 || (a + 1) == 8) ≡ true
alignment a is = grind (arith, is)

pub proper_alignment : (k : EsdKind) (i : EsdItem) (b : Bool) → SuitsKind k i → HasProperAlignment (align_for i k) (symbol_kind k b)
proper_alignment Sd i true suits = tt
proper_alignment Sd i false suits = tt
proper_alignment Ld i b suits = tt
proper_alignment Er i b suits = tt
proper_alignment Pc i b suits = tt
proper_alignment Cm i b suits = tt
proper_alignment Pr i b suits = alignment i.align suits.1
proper_alignment Wx i b suits = tt

pub small_length : (k : EsdKind) (i : EsdItem) → i.length ≤ 16777215 → length_for i k ≤ 16777215
small_length Sd i small = small
small_length Ld i small = omega arith
small_length Er i small = small
small_length Pc i small = small
small_length Cm i small = small
small_length Pr i small = small
small_length Wx i small = small

pub address_small : (n : ℕ) → n < 2 ^ 24 → n ≤ 16777215
address_small n small = omega (arith, small)
