-- The relocation items of the constants of a section.
use Rattle.std.proofs.Common.{arith, ◌≡◌, ℕ, ◌+◌, ◌-◌, ◌*◌, ◌/◌, ◌%◌, ◌≤◌, Bool, true, false, ◌==◌, if◌then◌else◌, map, filter, flat_map, sum_by, refl, sym, ◌∙◌, ap, subst}
use Rattle.std.specs.List.{AllByRecursion as Each}
use Rattle.std.proofs.lemmas.Bool.{eqb-true}
use Rattle.sym_mod.specs.declared.module.Kind.{Kind}
use Rattle.sym_mod.specs.declared.module.Kind.TheVariants.{Address, Branch, Displacement, Total as TotalKind}
use Rattle.sym_mod.specs.declared.program.Constant.{Constant}
use Rattle.sym_mod.specs.declared.program.Term.{Term}
use Rattle.sym_mod.specs.declared.program.Target.{Target}
use Rattle.sym_mod.specs.declared.program.Target.TheVariants.{Section as InSection, Label as AtLabel, Unresolved, Register as OfRegister, Total}
use Rattle.load_recs.specs.declared.items.RldItem.{RldItem}
use Rattle.linking_model.specs.Places.{Laid}
use Rattle.member_model.specs.Symbols.{field_length, field_kind, is_minus}
use Rattle.member_model.specs.Parts.{OneSection}
use Rattle.member_model.specs.Chunks.{kind_flag, outside_flag, term_item, section_items, part_items}
use Rattle.member_laws.proofs.LoadingLists.{each_weaker, each_map, each_filter, each_flat_map, each_in_order, each_always, sum_same, sum_map, sum_filter, sum_flat_map, sum_in_order}
use Rattle.member_laws.proofs.LoadingItems.{IsEven}

-- ---- flags

-- the kind as the flag has it
abbrev pub kind_code : Kind → ℕ
kind_code Address = 0
kind_code Branch = 1
kind_code Displacement = 2
kind_code TotalKind = 3

kind_small : (k : Kind) → kind_code k ≤ 3
kind_small Address = omega arith
kind_small Branch = omega arith
kind_small Displacement = omega arith
kind_small TotalKind = omega arith

kind_is : (k : Kind) → kind_flag k ≡ 16 * kind_code k
kind_is Address = refl
kind_is Branch = refl
kind_is Displacement = refl
kind_is TotalKind = refl

abbrev outside_code : Target → ℕ
outside_code (Unresolved i) = 1
outside_code _ = 0

outside_small : (y : Target) → outside_code y ≤ 1
outside_small (InSection i) = omega arith
outside_small (AtLabel i) = omega arith
outside_small (Unresolved i) = omega arith
outside_small (OfRegister i) = omega arith
outside_small Total = omega arith

outside_is : (y : Target) → outside_flag y ≡ 128 * outside_code y
outside_is (InSection i) = refl
outside_is (AtLabel i) = refl
outside_is (Unresolved i) = refl
outside_is (OfRegister i) = refl
outside_is Total = refl

abbrev minus_code : Bool → ℕ
minus_code true = 1
minus_code false = 0

minus_small : (b : Bool) → minus_code b ≤ 1
minus_small true = omega arith
minus_small false = omega arith

minus_is : (b : Bool) → (if b then 2 else 0) ≡ 2 * minus_code b
minus_is true = refl
minus_is false = refl

minus_back : (b : Bool) → (minus_code b == 1) ≡ b
minus_back true = refl
minus_back false = refl

flag_even : (a b l e : ℕ) → (128 * a + 16 * b + 4 * (l - 1) + 2 * e) % 2 ≡ 0
flag_even a b l e = omega arith

flag_length : (a b l e : ℕ) → 1 ≤ l → l ≤ 4 → e ≤ 1 → (128 * a + 16 * b + 4 * (l - 1) + 2 * e) / 4 % 4 + 1 ≡ l
flag_length a b l e some short small = omega arith

flag_minus : (a b l e : ℕ) → e ≤ 1 → (128 * a + 16 * b + 4 * (l - 1) + 2 * e) / 2 % 2 ≡ e
flag_minus a b l e small = omega arith

flag_kind : (a b l e : ℕ) → a ≤ 1 → b ≤ 3 → 1 ≤ l → l ≤ 4 → e ≤ 1 → (128 * a + 16 * b + 4 * (l - 1) + 2 * e) / 16 % 8 ≡ b
flag_kind a b l e one few some short small = omega arith

-- what the item of a term says
pub record IsTermItem (c : Constant) (t : Term) (z : RldItem) : Type 0 where
  pub even : IsEven z
  pub long : field_length z ≡ c.length
  pub kind : field_kind z ≡ kind_code c.kind
  pub minus : is_minus z ≡ t.minus

pub is_term_item : (P : Laid) (c : Constant) (t : Term) → 1 ≤ c.length → c.length ≤ 4 → IsTermItem c t (term_item P c t)
is_term_item P c t some short =
    let a : ℕ = outside_code t.target in
    let b : ℕ = kind_code c.kind in
    let e : ℕ = minus_code t.minus in
    record {
      even = ap (λ f. f % 2) flag ∙ flag_even a b c.length e;
      long = ap (λ f. f / 4 % 4 + 1) flag ∙ flag_length a b c.length e some short (minus_small t.minus);
      kind = ap (λ f. f / 16 % 8) flag ∙ flag_kind a b c.length e (outside_small t.target) (kind_small c.kind) some short (minus_small t.minus);
      minus = ap (λ f. f / 2 % 2 == 1) flag ∙ (ap (λ n. n == 1) (flag_minus a b c.length e (minus_small t.minus)) ∙ minus_back t.minus);
    }
  where
    flag : (term_item P c t).flag
        ≡ 128 * outside_code t.target + 16 * kind_code c.kind + 4 * (c.length - 1) + 2 * minus_code t.minus
    flag =
        ap (λ n. n + kind_flag c.kind + 4 * (c.length - 1) + (if t.minus then 2 else 0)) (outside_is t.target)
        ∙ (ap (λ n. 128 * outside_code t.target + n + 4 * (c.length - 1) + (if t.minus then 2 else 0)) (kind_is c.kind)
        ∙ ap (λ n. 128 * outside_code t.target + 16 * kind_code c.kind + 4 * (c.length - 1) + n) (minus_is t.minus))

-- ---- all items of a section

pub section_items_are : (P : Laid) (i : ℕ) → part_items P (OneSection i) ≡ section_items P i
unfolding part_items
section_items_are P i = refl

pub each_section_item : (Q : RldItem → Type 0) (P : Laid) (i : ℕ)
    → Each (λ c. c.section ≡ i → Each (λ t. Q (term_item P c t)) c.terms) P.program.constants → Each Q (part_items P (OneSection i))
each_section_item Q P i all =
    subst (Each Q) (sym (section_items_are P i))
    (each_in_order Q _ (flat_map (λ (c : Constant). map (term_item P c) c.terms) (filter (λ c. c.section == i) P.program.constants))
    (each_flat_map Q (λ (c : Constant). map (term_item P c) c.terms) (filter (λ c. c.section == i) P.program.constants)
    (each_filter (λ (c : Constant). Each Q (map (term_item P c) c.terms)) (λ c. c.section == i) P.program.constants
    (each_weaker (λ (c : Constant). c.section ≡ i → Each (λ t. Q (term_item P c t)) c.terms) _ P.program.constants
    (λ c holds passes. each_map Q (term_item P c) c.terms (holds (eqb-true c.section i passes))) all))))

pub sum_section_items : (f : RldItem → ℕ) (P : Laid) (i : ℕ)
    → sum_by f (part_items P (OneSection i))
    ≡ sum_by (λ (c : Constant). if c.section == i then sum_by (λ t. f (term_item P c t)) c.terms else 0) P.program.constants
sum_section_items f P i =
    ap (sum_by f) (section_items_are P i)
    ∙ (sum_in_order f _ (flat_map (λ (c : Constant). map (term_item P c) c.terms) (filter (λ c. c.section == i) P.program.constants))
    ∙ (sum_flat_map f (λ (c : Constant). map (term_item P c) c.terms) (filter (λ c. c.section == i) P.program.constants)
    ∙ (sum_same (λ (c : Constant). sum_by f (map (term_item P c) c.terms)) (λ (c : Constant). sum_by (λ t. f (term_item P c t)) c.terms)
    (filter (λ c. c.section == i) P.program.constants)
    (each_always _ (filter (λ c. c.section == i) P.program.constants) (λ c. sum_map f (term_item P c) c.terms))
    ∙ sum_filter (λ (c : Constant). sum_by (λ t. f (term_item P c t)) c.terms) (λ c. c.section == i) P.program.constants)))
