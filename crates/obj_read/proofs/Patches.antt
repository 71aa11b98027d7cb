-- Constants of the module.
use Rattle.std.proofs.Common.{arith, ◌≡◌, ℕ, zero, suc, ◌≤◌, ◌⊎◌, inl, inr, Bool, true, false, ◌==◌, nat_lt, cond, if◌then◌else◌, List, [], ◌∷◌, ◌++◌, map, slice_get, Option, Some, None, refl, sym, ◌∙◌, ap, subst}
use Rattle.std.specs.Prelude.{IsFalse, IsSomeAnd}
use Rattle.std.specs.List.{filter, list_any, AllByRecursion}
use Rattle.std.specs.Option.{option_map_or}
use Rattle.std.proofs.lemmas.List.Elements.{All-from_recursion}
use Rattle.le_bytes.specs.Names.{is_blank}
use Rattle.obj_cards.specs.declared.card.EsdKind.{EsdKind}
use Rattle.obj_cards.specs.declared.card.EsdKind.TheVariants.{Sd, Ld, Er, Pc, Cm, Pr, Wx}
use Rattle.obj_cards.specs.declared.card.CardRld.{CardRld}
use Rattle.sym_mod.specs.Sound.{IsAddress, IsSoundConst}
use Rattle.obj_read.specs.declared.numbered.Numbered.{Numbered}
use Rattle.obj_read.specs.Facts.{has_esdid, with_esdid}
use Rattle.obj_read.specs.Module.{symbol, symbol_kind, base_of, number_or, constant}
use Rattle.obj_read.specs.Faults.{is_term_outside}
use Rattle.obj_read.specs.Kept.{IsKeptItem}
use Rattle.obj_read.proofs.Joined.{all_weaker}
use Rattle.std.proofs.Common.{◌*◌, bit_and, nat_eq}
use Rattle.std.specs.Str.{bytes_eq}
use Rattle.std.specs.Int.{bit_at}
use Rattle.std.proofs.lemmas.Nat.Bits.{and_pow}
use Rattle.obj_cards.specs.Rld.{IsCardRld, is_rld_flag}
use Rattle.sym_mod.specs.declared.module.Kind.{Kind}
use Rattle.sym_mod.specs.declared.module.Kind.TheVariants.{Address, Branch, Displacement, Total}
use Rattle.sym_mod.specs.declared.module.SymTarget.TheVariants.{Register as InRegister, Total as TotalTarget}
use Rattle.sym_mod.specs.Kinds.{is_register as is_item_register}
use Rattle.sym_mod.specs.Sound.{HaveProperSigns, FitsKind, is_register_named}
use Rattle.obj_read.specs.Facts.{is_register as is_esd_register, is_referable}
use Rattle.obj_read.specs.Flags.{kind_of_flag, length_of_flag, is_minus}
use Rattle.obj_read.specs.Module.{same_place, leaders, term, target_of, base_for}
use Rattle.obj_read.specs.Faults.{is_address, joins, fits_kind}
use Rattle.obj_read.specs.Kept.{IsKeptTerm, AreJoined}
use Rattle.obj_read.proofs.Joined.{or_first, or_later, joins_parts, joined_terms}
use Rattle.obj_read.proofs.Found.{all_map, all_both, found_symbol, address_small}
use Rattle.obj_read.proofs.Labels.{inside}

-- ---- constants

pub all_leaders_step : (b : Bool) (P : CardRld → Type 0) (t : CardRld) (l m : List CardRld) → P t → AllByRecursion P l → AllByRecursion P m
    → AllByRecursion P (if b then l else t ∷ m)
all_leaders_step true P t l m is all more = all
all_leaders_step false P t l m is all more = (is, more)

pub all_leaders : (P : CardRld → Type 0) (seen ts : List CardRld) → AllByRecursion P ts → AllByRecursion P (leaders seen ts)
all_leaders P seen [] all = tt
all_leaders P seen (t ∷ ts) all =
    all_leaders_step (list_any (same_place t) seen) P t (leaders seen ts) (leaders (seen ++ t ∷ []) ts) all.0 (all_leaders P seen ts all.1) (all_leaders P (seen ++ t ∷ []) ts all.1)

pub all_filter_step : (b : Bool) (P : CardRld → Type 0) (t : CardRld) (l : List CardRld) → P t → AllByRecursion P l → AllByRecursion P (cond b (t ∷ l) l)
all_filter_step true P t l is all = (is, all)
all_filter_step false P t l is all = all

pub all_filter : (P : CardRld → Type 0) (p : CardRld → Bool) (ts : List CardRld) → AllByRecursion P ts → AllByRecursion P (filter p ts)
all_filter P p [] all = tt
all_filter P p (t ∷ ts) all = all_filter_step (p t) P t (filter p ts) all.0 (all_filter P p ts all.1)

pub some_length : (flag : ℕ) → 1 ≤ length_of_flag flag
some_length flag = omega arith

pub short_length : (flag : ℕ) → length_of_flag flag ≤ 4
short_length flag = omega arith

pub minus_bit : (n : ℕ) → (bit_and n 2 == 0) ≡ true → is_minus n ≡ false
minus_bit n off = let e : bit_and n 2 ≡ bit_at n 1 * 2 = and_pow n 1 in grind (arith, e, off)

-- a constant that is no address has a flag without a sign
pub flag_step : (n : ℕ) → nat_lt n 16 ≡ false → is_rld_flag n ≡ true → (bit_and n 2 == 0) ≡ true
flag_step n high good = grind (arith, high, good)

pub kind_high : (n : ℕ) (k : Kind) → kind_of_flag n ≡ k → is_address k ≡ false → nat_lt n 16 ≡ false
kind_high n k is other = grind (arith, is, other)

pub address_kind : (k : Kind) → is_address k ≡ true → k ≡ Address
address_kind Address is = refl
address_kind Branch is = cc
address_kind Displacement is = cc
address_kind Total is = cc

pub one_sign : (k : Kind) (b : Bool) → (is_address k ≡ false → b ≡ false) → HaveProperSigns k (b ∷ [])
one_sign Address b off = tt
one_sign Branch b off = off refl
one_sign Displacement b off = off refl
one_sign Total b off = off refl

pub sound_signs : (items : List Numbered) (g : CardRld) (ts : List CardRld) → IsCardRld g → AreJoined g ts
    → HaveProperSigns (kind_of_flag g.flag) (map (λ t. t.minus) (map (term items) ts))
sound_signs items g [] good joined = absurd joined
sound_signs items g (f ∷ []) good joined =
    one_sign (kind_of_flag g.flag) (is_minus f.flag)
    (λ other. ap (λ f. is_minus f.flag) joined.0
    ∙ minus_bit g.flag (flag_step g.flag (kind_high g.flag (kind_of_flag g.flag) refl other) good.flag))
sound_signs items g (f ∷ h ∷ ts) good joined =
    subst (λ k. HaveProperSigns k (map (λ t. t.minus) (map (term items) (f ∷ h ∷ ts))))
    (sym (address_kind (kind_of_flag g.flag) (joins_parts h g joined.1.0).second)) tt

-- the kind of a term is that of its constant
pub kind_of_joined : (f g : CardRld) → (f ≡ g) ⊎ (joins f g ≡ true) → kind_of_flag f.flag ≡ kind_of_flag g.flag
kind_of_joined f g either = elim either [
  | inl same ↦ ap (λ f. kind_of_flag f.flag) same
  | inr j ↦ address_kind (kind_of_flag f.flag) (joins_parts f g j).first ∙ sym (address_kind (kind_of_flag g.flag) (joins_parts f g j).second)
]

pub no_register : (k : EsdKind) (b : Bool) → is_referable k ≡ true → is_item_register (symbol_kind k b) ≡ false
no_register Sd true is = refl
no_register Sd false is = refl
no_register Ld b is = cc
no_register Er b is = refl
no_register Pc b is = refl
no_register Cm b is = refl
no_register Pr b is = cc
no_register Wx b is = refl

pub found_some : (φ : Numbered → Bool) (o : Option Numbered) → option_map_or φ o false ≡ true → (x : Numbered) × (o ≡ Some x) × (φ x ≡ true)
found_some φ None is = cc
found_some φ (Some x) is = (x, refl, is)

pub sound_reference : (items : List Numbered) (r : ℕ) → option_map_or (λ x. is_referable x.item.kind) (with_esdid r items) false ≡ true
    → IsSomeAnd (slice_get (map (symbol items) items) (number_or items r)) (λ x. IsFalse (is_item_register x.kind))
sound_reference items r fits =
    let f : (x : Numbered) × (with_esdid r items ≡ Some x) × (is_referable x.item.kind ≡ true) = found_some (λ x. is_referable x.item.kind) (with_esdid r items) fits in
    subst (λ o. IsSomeAnd o (λ x. IsFalse (is_item_register x.kind))) (sym (found_symbol items r f.0 f.1))
    (no_register f.0.item.kind (is_blank f.0.item.name) f.2)

pub bytes_self : (xs : List ℕ) → bytes_eq xs xs ≡ true
bytes_self [] = refl
bytes_self (x ∷ xs) = let one : nat_eq x x ≡ true = grind arith in rw (one, bytes_self xs) refl

pub register_kind : (k : EsdKind) (b : Bool) → is_esd_register k ≡ true → is_item_register (symbol_kind k b) ≡ true
register_kind Pr b is = refl
register_kind Sd b is = cc
register_kind Ld b is = cc
register_kind Er b is = cc
register_kind Pc b is = cc
register_kind Cm b is = cc
register_kind Wx b is = cc

pub any_of_get : {X : Type 0} (q : X → Bool) (xs : List X) (k : ℕ) (x : X) → slice_get xs k ≡ Some x → q x ≡ true → list_any q xs ≡ true
any_of_get q [] k x there is = cc
any_of_get q (y ∷ xs) zero x there is = let same : x ≡ y = cc there in or_first (q y) (list_any q xs) (ap q (sym same) ∙ is)
any_of_get q (y ∷ xs) (suc k) x there is = or_later (q y) (list_any q xs) (any_of_get q xs k x there is)

pub sound_register : (items : List Numbered) (f : CardRld) → option_map_or (λ x. is_esd_register x.item.kind) (with_esdid f.r items) false ≡ true
    → FitsKind (map (symbol items) items) Displacement (target_of items f Displacement)
sound_register items f fits =
    let x : (x : Numbered) × (with_esdid f.r items ≡ Some x) × (is_esd_register x.item.kind ≡ true) = found_some (λ x. is_esd_register x.item.kind) (with_esdid f.r items) fits in
    let same : is_register_named x.0.item.name (symbol items x.0) ≡ true =
    rw (register_kind x.0.item.kind (is_blank x.0.item.name) x.2, bytes_self x.0.item.name.0) refl in
    subst (λ o. FitsKind (map (symbol items) items) Displacement (option_map_or (λ x. InRegister x.item.name) o TotalTarget)) (sym x.1)
    (any_of_get (is_register_named x.0.item.name) (map (symbol items) items) (number_or items f.r) (symbol items x.0) (found_symbol items f.r x.0 x.1) same)

pub sound_target : (items : List Numbered) (f : CardRld) (k : Kind) → fits_kind items f.r k ≡ true → FitsKind (map (symbol items) items) k (target_of items f k)
sound_target items f Address fits = sound_reference items f.r fits
sound_target items f Branch fits = sound_reference items f.r fits
sound_target items f Displacement fits = sound_register items f fits
sound_target items f Total fits = tt

pub small_step : (b : Bool) (x : Numbered) (o : Option Numbered) → x.item.address ≤ 16777215
    → option_map_or (λ x. x.item.address) o 0 ≤ 16777215 → option_map_or (λ x. x.item.address) (cond b (Some x) o) 0 ≤ 16777215
small_step true x o small rest = small
small_step false x o small rest = rest

pub small_base : (id : ℕ) (items : List Numbered) → AllByRecursion IsKeptItem items → base_of items id ≤ 16777215
small_base id [] all = omega arith
small_base id (x ∷ items) all = small_step (has_esdid id x) x (with_esdid id items) (address_small x.item.address all.0.item.address) (small_base id items all.1)

pub sound_base : (items : List Numbered) (f : CardRld) (k : Kind) → AllByRecursion IsKeptItem items → base_for items f k ≤ 16777215
sound_base items f Address all = small_base f.r items all
sound_base items f Branch all = small_base f.r items all
sound_base items f Displacement all = omega arith
sound_base items f Total all = omega arith

-- what a term that was kept makes of the constant of its leader
pub sound_term : (items : List Numbered) (g f : CardRld) → IsKeptTerm items f × ((f ≡ g) ⊎ (joins f g ≡ true))
    → FitsKind (map (symbol items) items) (kind_of_flag g.flag) (term items f).target
sound_term items g f both =
    subst (λ k. FitsKind (map (symbol items) items) k (target_of items f (kind_of_flag f.flag))) (kind_of_joined f g both.1)
    (sound_target items f (kind_of_flag f.flag) both.0.fits)

pub record IsKeptLeader (items : List Numbered) (terms : List CardRld) (g : CardRld) : Type 0 where
  pub kept : IsKeptTerm items g
  pub inside : is_term_outside items g ≡ false
  pub joined : AreJoined g (filter (same_place g) terms)

pub sound_constant : (items : List Numbered) (terms : List CardRld) → AllByRecursion IsKeptItem items → AllByRecursion (IsKeptTerm items) terms
    → (g : CardRld) → IsKeptLeader items terms g → IsSoundConst (map (symbol items) items) (constant items terms g)
sound_constant items terms good all g leader =
    let ts : List CardRld = filter (same_place g) terms in
    record {
      not_empty = some_length g.flag;
      short = short_length g.flag;
      inside = inside items g.p g.address (length_of_flag g.flag) (length_of_flag g.flag) leader.kept.section leader.inside (omega arith);
      signs = sound_signs items g ts leader.kept.card leader.joined;
      targets = All-from_recursion (λ t. FitsKind (map (symbol items) items) (kind_of_flag g.flag) t.target) (map (term items) ts)
          (all_map (λ t. FitsKind (map (symbol items) items) (kind_of_flag g.flag) t.target) (term items) ts
          (all_weaker (λ f. IsKeptTerm items f × ((f ≡ g) ⊎ (joins f g ≡ true))) (λ f. FitsKind (map (symbol items) items) (kind_of_flag g.flag) (term items f).target) ts
          (sound_term items g)
          (all_both (IsKeptTerm items) (λ f. (f ≡ g) ⊎ (joins f g ≡ true)) ts (all_filter (IsKeptTerm items) (same_place g) terms all) (joined_terms g ts leader.joined))));
      bases = All-from_recursion (λ t. IsAddress t.base) (map (term items) ts)
          (all_map (λ t. IsAddress t.base) (term items) ts (all_weaker (IsKeptTerm items) (λ f. IsAddress (term items f).base) ts
          (λ f _. sound_base items f (kind_of_flag f.flag) good) (all_filter (IsKeptTerm items) (same_place g) terms all)));
    }
