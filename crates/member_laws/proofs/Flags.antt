-- What the flag of a term's relocation item says.
use Rattle.std.proofs.Common.{◌≡◌, ℕ, zero, suc, ◌+◌, ◌-◌, ◌*◌, ◌/◌, ◌%◌, ◌<◌, ◌≤◌, Bool, true, false, not, ◌&&◌, ◌==◌, nat_lt, if◌then◌else◌, List, [], ◌∷◌, map, inl, inr, refl, sym, subst, ap, ◌∙◌, arith}
use Rattle.std.proofs.lemmas.Bool.{and_parts, eqb-true, not-true}
use Rattle.member_model.specs.Faults.{differ}
use Rattle.std.specs.Bool.{⊤}
use Rattle.sym_mod.specs.Sound.{HaveProperSigns, TargetFitsKind}
use Rattle.sym_mod.specs.declared.module.Kind.{Kind}
use Rattle.sym_mod.specs.declared.module.Kind.TheVariants.{Address, Branch, Displacement, Total as TotalKind}
use Rattle.sym_mod.specs.declared.program.Program.{Program}
use Rattle.sym_mod.specs.declared.program.Target.{Target}
use Rattle.sym_mod.specs.declared.program.Target.TheVariants.{Section as InSection, Label as AtLabel, Unresolved, Register as OfRegister, Total}
use Rattle.sym_mod.specs.declared.program.Term.{Term}
use Rattle.load_recs.specs.Relocations.{is_wrong_flag, field_kind}
use Rattle.member_model.specs.Chunks.{kind_flag, outside_flag}
use Rattle.member_laws.proofs.Membership.{Has}
use Rattle.member_laws.proofs.Targets.{is_unresolved}

-- 0 A-type, 1 V-type, 2 displacement, 3 total
abbrev pub kind_number : Kind → ℕ
kind_number Address = 0
kind_number Branch = 1
kind_number Displacement = 2
kind_number TotalKind = 3

-- bit 0 of the flag, where the symbol is outside
abbrev pub outside_bit : Bool → ℕ
outside_bit true = 128
outside_bit false = 0

-- bit 6, where the value is taken off
abbrev pub minus_bit : Bool → ℕ
minus_bit minus = if minus then 2 else 0

-- only an address is taken off, and only an address or a branch refers to what is outside
abbrev pub MayHave : Kind → Bool → Bool → Type 0
MayHave Address minus outside = ⊤
MayHave Branch minus outside = minus ≡ false
MayHave Displacement minus outside = (minus ≡ false) × (outside ≡ false)
MayHave TotalKind minus outside = (minus ≡ false) × (outside ≡ false)

-- the flag of an item of this kind and length
abbrev pub flag_of : Bool → Kind → ℕ → Bool → ℕ
flag_of outside kind len minus = outside_bit outside + kind_flag kind + 4 * (len - 1) + minus_bit minus

pub record FlagSays (flag : ℕ) (kind : Kind) (len : ℕ) (outside : Bool) : Type 0 where
  pub even : flag % 2 ≡ 0
  pub right : is_wrong_flag flag ≡ false
  pub of_kind : field_kind flag ≡ kind_number kind
  pub of_length : flag / 4 % 4 + 1 ≡ len
  pub marked : nat_lt 127 flag ≡ outside

on-length : (P : ℕ → Type 0) → P 1 → P 2 → P 3 → P 4 → (n : ℕ) → 1 ≤ n → n ≤ 4 → P n
on-length P a b c d zero low high = absurd (omega arith)
on-length P a b c d (suc zero) low high = a
on-length P a b c d (suc (suc zero)) low high = b
on-length P a b c d (suc (suc (suc zero))) low high = c
on-length P a b c d (suc (suc (suc (suc zero)))) low high = d
on-length P a b c d (suc (suc (suc (suc (suc n))))) low high = absurd (omega arith)

abbrev Says : Kind → Bool → Bool → ℕ → Type 0
Says kind minus outside len = FlagSays (flag_of outside kind len minus) kind len outside

-- the same as one test
abbrev says : Kind → Bool → Bool → ℕ → Bool
says kind minus outside len =
    let flag = flag_of outside kind len minus in
    flag % 2 == 0 && not (is_wrong_flag flag) && field_kind flag == kind_number kind && flag / 4 % 4 + 1 == len && not (differ (nat_lt 127 flag) outside)

agree : (a b : Bool) → not (differ a b) ≡ true → a ≡ b
agree true true e = refl
agree true false e = absurd cc
agree false true e = absurd cc
agree false false e = refl

from-test : (kind : Kind) (minus outside : Bool) (len : ℕ) → says kind minus outside len ≡ true → Says kind minus outside len
from-test kind minus outside len e =
    let flag : ℕ = flag_of outside kind len minus in
    let a = and_parts (flag % 2 == 0 && not (is_wrong_flag flag) && field_kind flag == kind_number kind && flag / 4 % 4 + 1 == len) (not (differ (nat_lt 127 flag) outside)) e in
    let b = and_parts (flag % 2 == 0 && not (is_wrong_flag flag) && field_kind flag == kind_number kind) (flag / 4 % 4 + 1 == len) a.0 in
    let c = and_parts (flag % 2 == 0 && not (is_wrong_flag flag)) (field_kind flag == kind_number kind) b.0 in
    let d = and_parts (flag % 2 == 0) (not (is_wrong_flag flag)) c.0 in
    record {
      even = eqb-true (flag % 2) 0 d.0;
      right = not-true (is_wrong_flag flag) d.1;
      of_kind = eqb-true (field_kind flag) (kind_number kind) c.1;
      of_length = eqb-true (flag / 4 % 4 + 1) len b.1;
      marked = agree (nat_lt 127 flag) outside a.1;
    }

by-length : (kind : Kind) (minus outside : Bool) → says kind minus outside 1 ≡ true → says kind minus outside 2 ≡ true → says kind minus outside 3 ≡ true → says kind minus outside 4 ≡ true
    → (len : ℕ) → 1 ≤ len → len ≤ 4 → Says kind minus outside len
by-length kind minus outside a b c d len low high =
    from-test kind minus outside len (on-length (λ n. says kind minus outside n ≡ true) a b c d len low high)

pub flag-says : (kind : Kind) (len : ℕ) (minus outside : Bool) → 1 ≤ len → len ≤ 4 → MayHave kind minus outside → Says kind minus outside len
flag-says Address len true true low high may = by-length Address true true refl refl refl refl len low high
flag-says Address len true false low high may = by-length Address true false refl refl refl refl len low high
flag-says Address len false true low high may = by-length Address false true refl refl refl refl len low high
flag-says Address len false false low high may = by-length Address false false refl refl refl refl len low high
flag-says Branch len true outside low high may = absurd cc
flag-says Branch len false true low high may = by-length Branch false true refl refl refl refl len low high
flag-says Branch len false false low high may = by-length Branch false false refl refl refl refl len low high
flag-says Displacement len true outside low high may = absurd cc
flag-says Displacement len false true low high may = absurd cc
flag-says Displacement len false false low high may = by-length Displacement false false refl refl refl refl len low high
flag-says TotalKind len true outside low high may = absurd cc
flag-says TotalKind len false true low high may = absurd cc
flag-says TotalKind len false false low high may = by-length TotalKind false false refl refl refl refl len low high

-- ---- the flag of a term

outside-is : (y : Target) → outside_flag y ≡ outside_bit (is_unresolved y)
outside-is (InSection i) = refl
outside-is (AtLabel i) = refl
outside-is (Unresolved i) = refl
outside-is (OfRegister i) = refl
outside-is Total = refl

-- the signs of the terms of a constant that is no address: one, which is added
abbrev IsOther : Kind → Type 0
IsOther Address = ⊥
IsOther kind = ⊤

only-one : (x t : Term) → Has (x ∷ []) t → x ≡ t
only-one x t there = elim there [ inl e ↦ e | inr later ↦ absurd later ]

only-plus : (kind : Kind) (terms : List Term) (t : Term) → HaveProperSigns kind (map (λ x. x.minus) terms) → IsOther kind → Has terms t → t.minus ≡ false
only-plus kind [] t signs other there = absurd there
only-plus Address (x ∷ xs) t signs other there = absurd other
only-plus Branch (x ∷ []) t signs other there = ap (λ z. z.minus) (sym (only-one x t there)) ∙ signs
only-plus Branch (x ∷ y ∷ xs) t signs other there = absurd signs
only-plus Displacement (x ∷ []) t signs other there = ap (λ z. z.minus) (sym (only-one x t there)) ∙ signs
only-plus Displacement (x ∷ y ∷ xs) t signs other there = absurd signs
only-plus TotalKind (x ∷ []) t signs other there = ap (λ z. z.minus) (sym (only-one x t there)) ∙ signs
only-plus TotalKind (x ∷ y ∷ xs) t signs other there = absurd signs

may-have : (p : Program) (kind : Kind) (terms : List Term) (t : Term) → HaveProperSigns kind (map (λ x. x.minus) terms) → TargetFitsKind p kind t.target → Has terms t
    → MayHave kind t.minus (is_unresolved t.target)
may-have p Address terms t signs fits there = tt
may-have p Branch terms t signs fits there = only-plus Branch terms t signs tt there
may-have p Displacement terms t signs fits there = (only-plus Displacement terms t signs tt there, register t.target fits)
  where
    register : (y : Target) → TargetFitsKind p Displacement y → is_unresolved y ≡ false
    register (OfRegister i) is = refl
    register (InSection i) is = absurd is
    register (AtLabel i) is = absurd is
    register (Unresolved i) is = absurd is
    register Total is = absurd is
may-have p TotalKind terms t signs fits there = (only-plus TotalKind terms t signs tt there, total t.target fits)
  where
    total : (y : Target) → TargetFitsKind p TotalKind y → is_unresolved y ≡ false
    total Total is = refl
    total (OfRegister i) is = absurd is
    total (InSection i) is = absurd is
    total (AtLabel i) is = absurd is
    total (Unresolved i) is = absurd is

-- what the flag of the item of a term of a sound constant says
pub term_flag : (p : Program) (kind : Kind) (len : ℕ) (terms : List Term) (t : Term) → 1 ≤ len → len ≤ 4 → HaveProperSigns kind (map (λ x. x.minus) terms) → TargetFitsKind p kind t.target → Has terms t
    → FlagSays (outside_flag t.target + kind_flag kind + 4 * (len - 1) + (if t.minus then 2 else 0)) kind len (is_unresolved t.target)
term_flag p kind len terms t low high signs fits there =
    subst (λ n. FlagSays (n + kind_flag kind + 4 * (len - 1) + (if t.minus then 2 else 0)) kind len (is_unresolved t.target)) (sym (outside-is t.target))
    (flag-says kind len t.minus (is_unresolved t.target) low high (may-have p kind terms t signs fits there))
