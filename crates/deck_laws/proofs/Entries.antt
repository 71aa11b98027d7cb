-- A program with a section in the root is entered in the root.
use Rattle.std.proofs.Common.{arith, ◌≡◌, ℕ, suc, ◌+◌, ◌<◌, ◌≤◌, ◌==◌, not, nat_lt, ◌||◌, Bool, true, false, List, [], ◌∷◌, length, refl, subst, Option, Some, None, cond, unwrap_or, get_or}
use Rattle.std.specs.Prelude.{filter_map, find, position, slice_get, option_map, option_and_then, IsSomeAnd, IsTrue}
use Rattle.std.specs.Option.{option_map_or, option_or}
use Rattle.std.specs.List.{list_any, position_or_len}
use Rattle.std.proofs.lemmas.Bool.{eqb-true}
use Rattle.std.proofs.lemmas.Option.{slice_get-get_or}
use Rattle.std.proofs.lemmas.List.Elements.{recursion_from_All}
use Rattle.std.proofs.lemmas.List.Quantifiers.{position-Some}
use Rattle.le_bytes.specs.declared.name.Name.{Name}
use Rattle.le_bytes.specs.Names.{name_eq}
use Rattle.sym_mod.specs.declared.program.Program.{Program}
use Rattle.sym_mod.specs.declared.program.Section.{Section}
use Rattle.sym_mod.specs.declared.program.SecKind.TheVariants.{Pc as PcSection}
use Rattle.sym_mod.specs.declared.program.Label.{Label}
use Rattle.sym_mod.specs.declared.program.StartAt.{StartAt}
use Rattle.sym_mod.specs.declared.program.StartAt.TheVariants.{At as StartsAt, Named as StartsAtName}
use Rattle.sym_mod.specs.Sound.{IsSoundProgram, IsSoundLabel, IsSoundStart}
use Rattle.linking_model.specs.Settled.{has_root_section, is_section_named}
use Rattle.linking_model.specs.Places.{segment_of_section}
use Rattle.linking_model.specs.Points.{Point, in_root, label_point, point_of, start_point, first_of_root, default_point}
use Rattle.esd_lists.proofs.Each.{all_at, all_made}
use Rattle.esd_merge.proofs.Homes.{all_found}

-- a byte of a section of the root, or its end
abbrev pub IsEntry : Program → Point → Type 0
IsEntry p x = IsSomeAnd (slice_get p.sections x.section) (λ y. (y.segment ≡ 1) × (x.offset ≤ y.length))

in_section : (o : Option Section) (offset : ℕ) → (option_map_or (λ x. x.segment) o 0 == 1) ≡ true → ((s : Section) → o ≡ Some s → offset ≤ s.length)
    → IsSomeAnd o (λ y. (y.segment ≡ 1) × (offset ≤ y.length))
in_section None offset root within = absurd cc
in_section (Some s) offset root within = (eqb-true s.segment 1 root, within s refl)

rooted : (p : Program) (x y : Point) → ((s : Section) → slice_get p.sections x.section ≡ Some s → x.offset ≤ s.length) → in_root p x ≡ Some y → IsEntry p y
rooted p x y within is = chosen (segment_of_section p x.section == 1) refl is
  where
    chosen : (b : Bool) → (segment_of_section p x.section == 1) ≡ b → cond b (Some x) None ≡ Some y → IsEntry p y
    chosen true root there =
        let same : x ≡ y = cc in
        subst (IsEntry p) same (in_section (slice_get p.sections x.section) x.offset root within)
    chosen false away there = absurd cc

reaches : (o : Option Section) (offset : ℕ) → IsSomeAnd o (λ x. offset ≤ x.length) → (s : Section) → o ≡ Some s → offset ≤ s.length
reaches None offset stands s is = absurd stands
reaches (Some x) offset stands s is =
    let same : x ≡ s = cc in
    subst (λ (z : Section). offset ≤ z.length) same stands

-- a place that a name means
named : (p : Program) → IsSoundProgram p → (name : Name) (y : Point) → point_of p name ≡ Some y → IsEntry p y
named p sound name y is = sections (position (is_section_named name) p.sections) is
  where
    labels : (o : Option Label) → find (λ x. name_eq x.name name) p.labels ≡ o
        → option_and_then (in_root p) (option_map (λ x. record { section = x.section; offset = x.offset }) o) ≡ Some y → IsEntry p y
    labels None none there = absurd cc
    labels (Some l) at there =
        let inside : IsSoundLabel p l = all_found (IsSoundLabel p) (λ x. name_eq x.name name) p.labels l (recursion_from_All (IsSoundLabel p) p.labels sound.labels) at in
        rooted p (record { section = l.section; offset = l.offset }) y (reaches (slice_get p.sections l.section) l.offset inside.inside) there

    sections : (o : Option ℕ) → option_and_then (in_root p) (option_or (option_map (λ i. record { section = i; offset = 0 }) o) (label_point p name)) ≡ Some y → IsEntry p y
    sections None there = labels (find (λ x. name_eq x.name name) p.labels) refl there
    sections (Some i) there = rooted p (record { section = i; offset = 0 }) y (λ s at. omega arith) there

started : (p : Program) → IsSoundProgram p → (s : StartAt) (y : Point) → IsSoundStart p s → start_point p s ≡ Some y → IsEntry p y
started p sound (StartsAt i offset) y inside is = rooted p (record { section = i; offset = offset }) y (reaches (slice_get p.sections i) offset inside) is
started p sound (StartsAtName name) y has is = named p sound name y is

-- ---- the first section of the root

any_at : (b rest : Bool) (k n : ℕ) → (b || rest) ≡ true → (rest ≡ true → k < n) → cond (not b) (1 + k) 0 < suc n
any_at true rest k n some below = omega arith
any_at false rest k n some below = omega (arith, below some)

any_within : {X : Type 0} (test : X → Bool) (xs : List X) → list_any test xs ≡ true → position_or_len test xs < length xs
any_within test [] some = absurd cc
any_within test (x ∷ xs) some = any_at (test x) (list_any test xs) (position_or_len test xs) (length xs) some (any_within test xs)

not_none : (k n : ℕ) → k < n → cond (nat_lt k n) (Some k) None ≡ None → ⊥
not_none k n below none = grind (arith, below, none)

-- a section, whichever
nothing : Section
nothing = record { name = record { 0 = [] }; kind = PcSection; rank = 0; segment = 0; users = []; length = 0 }

has_first : (p : Program) → IsTrue (has_root_section p) → IsEntry p (first_of_root p)
has_first p root = chosen (position test p.sections) refl
  where
    test : Section → Bool
    test = λ x. x.segment == 1

    chosen : (o : Option ℕ) → position test p.sections ≡ o → IsEntry p (record { section = unwrap_or o 0; offset = 0 })
    chosen (Some i) is =
        let there = position-Some test p.sections i nothing is in
        let at : slice_get p.sections i ≡ Some (get_or p.sections i nothing) = slice_get-get_or p.sections i nothing there.0 in
        rw at (eqb-true (get_or p.sections i nothing).segment 1 there.1, omega arith)
    chosen None is = absurd (not_none (position_or_len test p.sections) (length p.sections) (any_within test p.sections root) is)

-- where a program without ENTRY is entered
pub entered : (p : Program) → IsSoundProgram p → IsTrue (has_root_section p) → IsEntry p (default_point p)
entered p sound root = chosen (slice_get (filter_map (start_point p) p.starts) 0) refl
  where
    chosen : (o : Option Point) → slice_get (filter_map (start_point p) p.starts) 0 ≡ o → IsEntry p (unwrap_or o (first_of_root p))
    chosen None none = has_first p root
    chosen (Some x) is =
        all_at (IsEntry p) (filter_map (start_point p) p.starts) 0 x
        (all_made (IsSoundStart p) (IsEntry p) (start_point p) (λ s y inside gives. started p sound s y inside gives) p.starts (recursion_from_All (IsSoundStart p) p.starts sound.starts)) is
