-- The flag of a term's relocation item, by its parts.
use Rattle.std.proofs.Common.{◌≡◌, ℕ, ◌+◌, ◌-◌, ◌*◌, ◌/◌, ◌%◌, ◌≤◌, ◌<◌, Bool, true, false, not, ◌&&◌, ◌==◌, ◌⊎◌, inl, inr, if◌then◌else◌, List, [], ◌∷◌, map, All, refl, ap, ◌∙◌, arith}
use Rattle.std.specs.Prelude.{⊤, IsFalse}
use Rattle.std.proofs.lemmas.List.Elements.{All-nil, All-cons}
use Rattle.sym_mod.specs.declared.module.Kind.{Kind}
use Rattle.sym_mod.specs.declared.module.Kind.TheVariants.{Address, Branch, Displacement, Total as TotalKind}
use Rattle.sym_mod.specs.declared.program.Program.{Program}
use Rattle.sym_mod.specs.declared.program.Term.{Term}
use Rattle.sym_mod.specs.declared.program.Target.{Target}
use Rattle.sym_mod.specs.declared.program.Target.TheVariants.{Section as InSection, Label as AtLabel, Unresolved, Register as OfRegister, Total}
use Rattle.sym_mod.specs.Sound.{HaveProperSigns, TargetFitsKind}
use Rattle.load_recs.specs.Forms.{is_one_of}
use Rattle.load_recs.specs.Relocations.{is_joined, is_wrong_flag}
use Rattle.member_model.specs.Chunks.{kind_flag, outside_flag}

-- ---- a flag by its parts: not defined, the kind, the length less one, and subtracted

abbrev flag : ℕ → ℕ → ℕ → ℕ → ℕ
flag outside kind more minus = 128 * outside + 16 * kind + 4 * more + 2 * minus

length_in : (o k l m : ℕ) → l < 4 → m ≤ 1 → flag o k l m / 4 % 4 ≡ l
length_in o k l m short once = omega arith

kind_in : (o k l m : ℕ) → l < 4 → m ≤ 1 → flag o k l m / 16 ≡ 8 * o + k
kind_in o k l m short once = omega arith

minus_in : (o k l m : ℕ) → m ≤ 1 → flag o k l m / 2 % 2 ≡ m
minus_in o k l m once = omega arith

even : (o k l m : ℕ) → flag o k l m % 2 ≡ 0
even o k l m = omega arith

flag_alone : (f : ℕ) → f % 2 ≡ 0 → is_joined f ≡ false
flag_alone f e = rw e refl

flag_known : (f v e : ℕ) → f / 16 ≡ v → f / 2 % 2 ≡ e → is_one_of (0 ∷ 1 ∷ 2 ∷ 3 ∷ 8 ∷ 9 ∷ []) v ≡ true → (e == 1 && not (v % 8 == 0)) ≡ false
    → is_wrong_flag f ≡ false
flag_known f v e kind minus there right = rw (kind, minus, there) right

-- ---- the parts of a term

abbrev outside : Target → ℕ
outside (Unresolved _) = 1
outside _ = 0

abbrev kind_number : Kind → ℕ
kind_number Address = 0
kind_number Branch = 1
kind_number Displacement = 2
kind_number TotalKind = 3

abbrev minus : Bool → ℕ
minus m = if m then 1 else 0

outside_is : (y : Target) → outside_flag y ≡ 128 * outside y
outside_is (InSection i) = refl
outside_is (AtLabel i) = refl
outside_is (Unresolved i) = refl
outside_is (OfRegister i) = refl
outside_is Total = refl

kind_is : (k : Kind) → kind_flag k ≡ 16 * kind_number k
kind_is Address = refl
kind_is Branch = refl
kind_is Displacement = refl
kind_is TotalKind = refl

minus_is : (m : Bool) → (if m then 2 else 0) ≡ 2 * minus m
minus_is true = refl
minus_is false = refl

minus_once : (m : Bool) → minus m ≤ 1
minus_once true = omega arith
minus_once false = omega arith

-- the flag of a term of a constant of this kind and length
abbrev pub flag_of : Kind → ℕ → Target → Bool → ℕ
flag_of kind length target m = outside_flag target + kind_flag kind + 4 * (length - 1) + (if m then 2 else 0)

flag_is : (kind : Kind) (length : ℕ) (target : Target) (m : Bool) → flag_of kind length target m ≡ flag (outside target) (kind_number kind) (length - 1) (minus m)
flag_is kind length target m = rw (outside_is target, kind_is kind, minus_is m) refl

-- ---- what a term may be

-- an address may be subtracted, and no other constant
abbrev pub SignFits : Kind → Bool → Type 0
SignFits Address m = ⊤
SignFits kind m = IsFalse m

pub signs_fit : (kind : Kind) (terms : List Term) → HaveProperSigns kind (map (λ t. t.minus) terms) → All (λ t. SignFits kind t.minus) terms
signs_fit Address terms proper = λ k d below. tt
signs_fit Branch [] proper = absurd proper
signs_fit Branch (t ∷ []) proper = All-cons (λ t. SignFits Branch t.minus) t [] proper (All-nil (λ t. SignFits Branch t.minus))
signs_fit Branch (t ∷ u ∷ rest) proper = absurd proper
signs_fit Displacement [] proper = absurd proper
signs_fit Displacement (t ∷ []) proper = All-cons (λ t. SignFits Displacement t.minus) t [] proper (All-nil (λ t. SignFits Displacement t.minus))
signs_fit Displacement (t ∷ u ∷ rest) proper = absurd proper
signs_fit TotalKind [] proper = absurd proper
signs_fit TotalKind (t ∷ []) proper = All-cons (λ t. SignFits TotalKind t.minus) t [] proper (All-nil (λ t. SignFits TotalKind t.minus))
signs_fit TotalKind (t ∷ u ∷ rest) proper = absurd proper

inside_or_out : (y : Target) → (outside y ≡ 0) ⊎ (outside y ≡ 1)
inside_or_out (InSection i) = inl refl
inside_or_out (AtLabel i) = inl refl
inside_or_out (Unresolved i) = inr refl
inside_or_out (OfRegister i) = inl refl
inside_or_out Total = inl refl

register_inside : (p : Program) (y : Target) → TargetFitsKind p Displacement y → outside y ≡ 0
register_inside p (InSection i) fits = refl
register_inside p (AtLabel i) fits = refl
register_inside p (Unresolved i) fits = absurd fits
register_inside p (OfRegister i) fits = refl
register_inside p Total fits = refl

total_inside : (p : Program) (y : Target) → TargetFitsKind p TotalKind y → outside y ≡ 0
total_inside p (InSection i) fits = refl
total_inside p (AtLabel i) fits = refl
total_inside p (Unresolved i) fits = absurd fits
total_inside p (OfRegister i) fits = refl
total_inside p Total fits = refl

-- bits 0 to 3 mean something, and what is subtracted is an address
abbrev Means : ℕ → ℕ → Type 0
Means v e = (is_one_of (0 ∷ 1 ∷ 2 ∷ 3 ∷ 8 ∷ 9 ∷ []) v ≡ true) × ((e == 1 && not (v % 8 == 0)) ≡ false)

addresses_mean : (o : ℕ) (m : Bool) → (o ≡ 0) ⊎ (o ≡ 1) → Means (8 * o + 0) (minus m)
addresses_mean o true (inl e) = rw e (refl, refl)
addresses_mean o true (inr e) = rw e (refl, refl)
addresses_mean o false (inl e) = rw e (refl, refl)
addresses_mean o false (inr e) = rw e (refl, refl)

calls_mean : (o : ℕ) (m : Bool) → (o ≡ 0) ⊎ (o ≡ 1) → IsFalse m → Means (8 * o + 1) (minus m)
calls_mean o true either plus = absurd (let e : true ≡ false = plus in cc)
calls_mean o false (inl e) plus = rw e (refl, refl)
calls_mean o false (inr e) plus = rw e (refl, refl)

others_mean : (o k : ℕ) (m : Bool) → o ≡ 0 → (k ≡ 2) ⊎ (k ≡ 3) → IsFalse m → Means (8 * o + k) (minus m)
others_mean o k true inside either plus = absurd (let e : true ≡ false = plus in cc)
others_mean o k false inside (inl e) plus = rw (inside, e) (refl, refl)
others_mean o k false inside (inr e) plus = rw (inside, e) (refl, refl)

means : (p : Program) (kind : Kind) (y : Target) (m : Bool) → TargetFitsKind p kind y → SignFits kind m → Means (8 * outside y + kind_number kind) (minus m)
means p Address y m fits sign = addresses_mean (outside y) m (inside_or_out y)
means p Branch y m fits sign = calls_mean (outside y) m (inside_or_out y) sign
means p Displacement y m fits sign = others_mean (outside y) 2 m (register_inside p y fits) (inl refl) sign
means p TotalKind y m fits sign = others_mean (outside y) 3 m (total_inside p y fits) (inr refl) sign

-- ---- the flag of a term

module _ (p : Program) (kind : Kind) (length : ℕ) (y : Target) (m : Bool) (some : 1 ≤ length) (short : length ≤ 4) where
  pub term_alone : is_joined (flag_of kind length y m) ≡ false
  term_alone = flag_alone (flag_of kind length y m) (ap (λ f. f % 2) (flag_is kind length y m) ∙ even (outside y) (kind_number kind) (length - 1) (minus m))

  pub term_length : flag_of kind length y m / 4 % 4 ≡ length - 1
  term_length = ap (λ f. f / 4 % 4) (flag_is kind length y m) ∙ length_in (outside y) (kind_number kind) (length - 1) (minus m) (omega arith) (minus_once m)

  pub term_known : TargetFitsKind p kind y → SignFits kind m → is_wrong_flag (flag_of kind length y m) ≡ false
  term_known fits sign =
      let meant = means p kind y m fits sign in
      flag_known (flag_of kind length y m) (8 * outside y + kind_number kind) (minus m)
      (ap (λ f. f / 16) (flag_is kind length y m) ∙ kind_in (outside y) (kind_number kind) (length - 1) (minus m) (omega arith) (minus_once m))
      (ap (λ f. f / 2 % 2) (flag_is kind length y m) ∙ minus_in (outside y) (kind_number kind) (length - 1) (minus m) (minus_once m))
      meant.0 meant.1
