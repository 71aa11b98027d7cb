-- Addresses, offsets and segments of a program whose parts fit together.
use Rattle.std.proofs.Common.{arith, ◌≡◌, ℕ, zero, suc, ◌+◌, ◌≤◌, Bool, true, false, List, [], ◌∷◌, length, map, slice_index, All, IsSomeAnd, refl, subst, Option, Some, None, slice_get, ◌-◌, unwrap_or, nat_lt}
use Rattle.std.specs.Option.{option_map_or}
use Rattle.std.specs.List.{position, position_or_len}
use Rattle.std.proofs.lemmas.Option.{get_or_from_slice_get, slice_get_within}
use Rattle.sym_mod.specs.Sound.{IsAddress, IsSoundProgram, IsSoundSection, IsSoundLabel, IsSoundConstant, LieInSection, HaveProperSigns, IsSymbolOf, TargetFitsKind}
use Rattle.sym_mod.specs.declared.module.Kind.{Kind}
use Rattle.sym_mod.specs.declared.module.Kind.TheVariants.{Branch}
use Rattle.sym_mod.specs.declared.program.Program.{Program}
use Rattle.sym_mod.specs.declared.program.Section.{Section}
use Rattle.sym_mod.specs.declared.program.Label.{Label}
use Rattle.sym_mod.specs.declared.program.Target.{Target}
use Rattle.sym_mod.specs.declared.program.Term.{Term}
use Rattle.sym_mod.specs.declared.program.Constant.{Constant}
use Rattle.sym_mod.specs.declared.program.Places.{Places}
use Rattle.linking_model.specs.Places.{Laid, segment_of_section}
use Rattle.linking_model.specs.Tables.{only_target}
use Rattle.relocate.specs.Listed.{table_of}
use Rattle.relocate.specs.Ready.{AreSmall, FitTogether, StandsInTree}

-- a fact of all elements, at one that is there
pub of_each : {A : Type 0} (P : A → Type 0) (xs : List A) (i : ℕ) (x : A) → All P xs → slice_get xs i ≡ Some x → P x
of_each P xs i x all found = subst P (get_or_from_slice_get xs i x x found) (all i x (slice_get_within xs i x found))

pub small_number : (xs : List ℕ) (i : ℕ) → All IsAddress xs → slice_index xs i ≤ 16777215
small_number [] i all = omega arith
small_number (x ∷ xs) zero all = all 0 0 (omega arith)
small_number (x ∷ xs) (suc i) all = small_number xs i (λ k d within. all (suc k) d (omega (arith, within)))

-- an element that is there and what holds of it
pub record Found {A : Type 0} (xs : List A) (i : ℕ) (P : A → Type 0) : Type 0 where
  pub item : A
  pub found : slice_get xs i ≡ Some item
  pub holds : P item

pub there : {A : Type 0} (xs : List A) (i : ℕ) (P : A → Type 0) → IsSomeAnd (slice_get xs i) P → Found xs i P
there {A = A} xs i P some = by_cases (slice_get xs i) refl some
  where
    by_cases : (o : Option A) → slice_get xs i ≡ o → IsSomeAnd o P → Found xs i P
    by_cases None none some = absurd some
    by_cases (Some x) found some = record { item = x; found = found; holds = some }

small_offset : (p : Program) (i : ℕ) (o : Option Label) → IsSoundProgram p → slice_get p.labels i ≡ o
    → option_map_or (λ x. x.offset) o 0 ≤ 16777215
small_offset p i None sound found = omega arith
small_offset p i (Some x) sound found =
    let label : IsSoundLabel p x = of_each (IsSoundLabel p) p.labels i x sound.labels found in
    let at : Found p.sections x.section (λ s. x.offset ≤ s.length) = there p.sections x.section (λ s. x.offset ≤ s.length) label.inside in
    let section : IsSoundSection at.item = of_each IsSoundSection p.sections x.section at.item sound.sections at.found in
    omega (arith, at.holds, section.size)

pub are_small : (P : Laid) (a : Places) → FitTogether P a → AreSmall P.program a
are_small P a fit = record {
  sections = λ i. small_number a.sections i fit.sections;
  labels = λ i. small_offset P.program i (slice_get P.program.labels i) fit.sound refl;
}

-- ---- the section of a constant

pub in_section : (p : Program) (i offset n : ℕ) → LieInSection p i offset n → Found p.sections i (λ x. offset + n ≤ x.length)
in_section p i offset n inside =
    by_cases (there p.sections i _ inside)
  where
    by_cases : {P : Section → Type 0} → Found p.sections i (λ x. P x × (offset + n ≤ x.length)) → Found p.sections i (λ x. offset + n ≤ x.length)
    by_cases found = record { item = found.item; found = found.found; holds = found.holds.1 }

pub section_of_constant : (P : Laid) (a : Places) (c : Constant) → FitTogether P a → IsSoundConstant P.program c
    → (1 ≤ segment_of_section P.program c.section) × (segment_of_section P.program c.section ≤ length P.tree)
section_of_constant P a c fit sound =
    let at : Found P.program.sections c.section (λ x. c.offset + c.length ≤ x.length) = in_section P.program c.section c.offset c.length sound.inside in
    let stands : StandsInTree P.tree at.item = of_each (StandsInTree P.tree) P.program.sections c.section at.item fit.in_tree at.found in
    rw at.found (stands.first, stands.last)

-- ---- the target of a branch constant

first_fits : (p : Program) (kind : Kind) (terms : List Term) → HaveProperSigns Branch (map (λ t. t.minus) terms)
    → All (λ t. TargetFitsKind p Branch t.target) terms → IsSymbolOf p (only_target terms)
first_fits p kind [] signs fit = absurd signs
first_fits p kind (t ∷ terms) signs fit = fit 0 t (omega arith)

pub branch_symbol : (p : Program) (c : Constant) → IsSoundConstant p c → c.kind ≡ Branch → IsSymbolOf p (only_target c.terms)
branch_symbol p c sound is =
    first_fits p c.kind c.terms (subst (λ k. HaveProperSigns k (map (λ t. t.minus) c.terms)) is sound.signs)
    (subst (λ k. All (λ t. TargetFitsKind p k t.target) c.terms) is sound.targets)

-- ---- entries

pub few_entries : (entries : List (List Target)) (s : ℕ) → All (λ x. length x ≤ 340) entries → length (table_of entries s) ≤ 340
few_entries entries s few = by_cases (slice_get entries (s - 1)) refl
  where
    by_cases : (o : Option (List Target)) → slice_get entries (s - 1) ≡ o → length (option_map_or (λ x. x) o []) ≤ 340
    by_cases None none = omega arith
    by_cases (Some x) found = of_each (λ x. length x ≤ 340) entries (s - 1) x few found

pub place_within : (f : Target → Bool) (xs : List Target) → unwrap_or (position f xs) 0 ≤ length xs
place_within f xs = by_cases (nat_lt (position_or_len f xs) (length xs)) refl
  where
    by_cases : (b : Bool) → nat_lt (position_or_len f xs) (length xs) ≡ b → unwrap_or (position f xs) 0 ≤ length xs
    by_cases true inside = rw inside (grind (arith, inside))
    by_cases false past = rw past (omega arith)
