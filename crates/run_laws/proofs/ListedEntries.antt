-- A call that is not direct goes by an entry: its target has a holder, and an entry in the holder's table.
use Rattle.std.proofs.Common.{◌≡◌, ◌⊎◌, inl, inr, ℕ, zero, suc, ◌+◌, ◌-◌, ◌<◌, ◌≤◌, Bool, true, false, not, ◌&&◌, ◌||◌, ◌==◌, if◌then◌else◌, List, [], ◌∷◌, map, filter_map, position, length, Option, Some, None, unwrap_or, option_map, is_some, slice_get, refl, sym, ap, ◌∙◌, subst, arith}
use Rattle.std.specs.List.{list_any, enumerate_from, range_with_len}
use Rattle.std.specs.Option.{option_map_or}
use Rattle.std.proofs.lemmas.Bool.{false≢true, eqb-true, eq-eqb, and_from}
use Rattle.std.proofs.lemmas.Option.{slice_get-map}
use Rattle.sym_mod.specs.Kinds.{is_private}
use Rattle.sym_mod.specs.Sound.{IsSymbolOf}
use Rattle.sym_mod.specs.declared.program.Program.{Program}
use Rattle.sym_mod.specs.declared.program.Constant.{Constant}
use Rattle.sym_mod.specs.declared.program.Term.{Term}
use Rattle.sym_mod.specs.declared.program.Target.{Target}
use Rattle.sym_mod.specs.declared.program.Target.TheVariants.{Section as InSection, Label as AtLabel, Unresolved, Register as OfRegister, Total}
use Rattle.linking_model.specs.Names.{name_below, inserted, in_order}
use Rattle.linking_model.specs.Places.{Laid, entries_of, segment_of_section}
use Rattle.linking_model.specs.Tables.{is_branch, is_defined, target_eq, is_called_from, holder, is_direct, is_exclusive, is_refused, refused_reference, Reference, reference, comes_before, only_target, NamedTarget, named_section, private_section, named_label, named_targets, targets_in_order, has_entry, entries}
use Rattle.linking_model.proofs.Holders.{calls_have_holders, holders_hold_for_themselves}
use Rattle.member_laws.specs.Linkable.{IsLinkable}
use Rattle.member_laws.proofs.LoadingLists.{Among, at_one, among_front, among_behind, among_map, among_filter, not_found}
use Rattle.member_laws.proofs.LoadingTargets.{Found, within}
use Rattle.member_laws.proofs.Numbered.{segments-range}
use Rattle.run_laws.specs.Answers.{IsRunnable}
use Rattle.run_laws.proofs.FoundTables.{among_enumerated, among_filter_map}
use Rattle.run_laws.proofs.ItemsOfConstants.{any_among}
use Rattle.run_laws.proofs.FirstPlaces.{IsFirstAt, first_at, none_at}

-- ---- lists in order

among_inserted : {X : Type 0} (before : X → X → Bool) (y x : X) (xs : List X) → (y ≡ x) ⊎ Among x xs → Among x (inserted before y xs)
among_inserted before y x [] there = there
among_inserted {X = X} before y x (z ∷ zs) there = by_test (before z y) there (λ later. among_inserted before y x zs later)
  where
    by_test : (b : Bool) → (y ≡ x) ⊎ Among x (z ∷ zs) → ((y ≡ x) ⊎ Among x zs → Among x (inserted before y zs))
        → Among x (if b then z ∷ inserted before y zs else y ∷ z ∷ zs)
    by_test true (inl here) rest = inr (rest (inl here))
    by_test true (inr (inl here)) rest = inl here
    by_test true (inr (inr later)) rest = inr (rest (inr later))
    by_test false there rest = there

among_in_order : {X : Type 0} (before : X → X → Bool) (x : X) (xs : List X) → Among x xs → Among x (in_order before xs)
among_in_order before x [] there = there
among_in_order before x (y ∷ ys) (inl here) = among_inserted before y x (in_order before ys) (inl here)
among_in_order before x (y ∷ ys) (inr later) = among_inserted before y x (in_order before ys) (inr (among_in_order before x ys later))

-- ---- targets

pub same_target : (y : Target) → is_defined y ≡ true → target_eq y y ≡ true
same_target (InSection i) defined = eq-eqb i i refl
same_target (AtLabel i) defined = eq-eqb i i refl
same_target (Unresolved i) defined = absurd (false≢true defined)
same_target (OfRegister i) defined = absurd (false≢true defined)
same_target Total defined = absurd (false≢true defined)

target_is : (y z : Target) → is_defined y ≡ true → target_eq y z ≡ true → z ≡ y
target_is (InSection i) (InSection j) defined same = ap (λ k. InSection k) (sym (eqb-true i j same))
target_is (AtLabel i) (AtLabel j) defined same = ap (λ k. AtLabel k) (sym (eqb-true i j same))
target_is (InSection i) (AtLabel j) defined same = absurd (false≢true same)
target_is (InSection i) (Unresolved j) defined same = absurd (false≢true same)
target_is (InSection i) (OfRegister j) defined same = absurd (false≢true same)
target_is (InSection i) Total defined same = absurd (false≢true same)
target_is (AtLabel i) (InSection j) defined same = absurd (false≢true same)
target_is (AtLabel i) (Unresolved j) defined same = absurd (false≢true same)
target_is (AtLabel i) (OfRegister j) defined same = absurd (false≢true same)
target_is (AtLabel i) Total defined same = absurd (false≢true same)
target_is (Unresolved i) z defined same = absurd (false≢true defined)
target_is (OfRegister i) z defined same = absurd (false≢true defined)
target_is Total z defined same = absurd (false≢true defined)

-- what may have an entry is listed
target_listed : (p : Program) (y : Target) → IsSymbolOf p y → is_defined y ≡ true → Among y (targets_in_order p)
target_listed p (InSection i) inside defined = by_kind (is_private at.item.kind) refl
  where
    at : Found p.sections i (λ x. Unit {0})
    at = within p.sections i inside

    numbered : Among (i, at.item) (enumerate_from 0 p.sections)
    numbered = subst (λ k. Among (k, at.item) (enumerate_from 0 p.sections)) (plain i) (among_enumerated 0 p.sections i at.item at.found)
      where
        plain : (i : ℕ) → 0 + i ≡ i
        plain i = omega arith

    by_kind : (b : Bool) → is_private at.item.kind ≡ b → Among (InSection i) (targets_in_order p)
    by_kind false named =
        among_front (InSection i) (map (λ (x : NamedTarget). x.target) (in_order (λ (x y : NamedTarget). name_below x.name y.name) (named_targets p)))
        (filter_map private_section (enumerate_from 0 p.sections))
        (among_map (λ (x : NamedTarget). x.target) (record { name = at.item.name; target = InSection i })
        (in_order (λ (x y : NamedTarget). name_below x.name y.name) (named_targets p))
        (among_in_order (λ (x y : NamedTarget). name_below x.name y.name) (record { name = at.item.name; target = InSection i }) (named_targets p)
        (among_front (record { name = at.item.name; target = InSection i }) (filter_map named_section (enumerate_from 0 p.sections))
        (map named_label (enumerate_from 0 p.labels))
        (among_filter_map named_section (enumerate_from 0 p.sections) (i, at.item) (record { name = at.item.name; target = InSection i }) numbered
        (ap (λ b. if b then None else Some (record { name = at.item.name; target = InSection i })) named)))))
    by_kind true private =
        among_behind (InSection i) (map (λ (x : NamedTarget). x.target) (in_order (λ (x y : NamedTarget). name_below x.name y.name) (named_targets p)))
        (filter_map private_section (enumerate_from 0 p.sections))
        (among_filter_map private_section (enumerate_from 0 p.sections) (i, at.item) (InSection i) numbered
        (ap (λ b. if b then Some (InSection i) else None) private))
target_listed p (AtLabel i) inside defined =
    among_front (AtLabel i) (map (λ (x : NamedTarget). x.target) (in_order (λ (x y : NamedTarget). name_below x.name y.name) (named_targets p)))
    (filter_map private_section (enumerate_from 0 p.sections))
    (among_map (λ (x : NamedTarget). x.target) (record { name = at.item.name; target = AtLabel i })
    (in_order (λ (x y : NamedTarget). name_below x.name y.name) (named_targets p))
    (among_in_order (λ (x y : NamedTarget). name_below x.name y.name) (record { name = at.item.name; target = AtLabel i }) (named_targets p)
    (among_behind (record { name = at.item.name; target = AtLabel i }) (filter_map named_section (enumerate_from 0 p.sections))
    (map named_label (enumerate_from 0 p.labels))
    (among_map named_label (i, at.item) (enumerate_from 0 p.labels) numbered))))
  where
    at : Found p.labels i (λ x. Unit {0})
    at = within p.labels i inside

    numbered : Among (i, at.item) (enumerate_from 0 p.labels)
    numbered = subst (λ k. Among (k, at.item) (enumerate_from 0 p.labels)) (plain i) (among_enumerated 0 p.labels i at.item at.found)
      where
        plain : (i : ℕ) → 0 + i ≡ i
        plain i = omega arith
target_listed p (Unresolved i) inside defined = absurd (false≢true defined)
target_listed p (OfRegister i) inside defined = absurd (false≢true defined)
target_listed p Total inside defined = absurd (false≢true defined)

-- ---- holders

-- a branch constant in segment a refers to y
pub record IsCalled (P : Laid) (a : ℕ) (y : Target) : Type 0 where
  pub constant : Constant
  pub among : Among constant P.program.constants
  pub branch : is_branch constant.kind ≡ true
  pub here : segment_of_section P.program constant.section ≡ a
  pub target : only_target constant.terms ≡ y
  pub defined : is_defined y ≡ true

called_from : (P : Laid) (a : ℕ) (y : Target) → IsCalled P a y → is_called_from P.program y a ≡ true
called_from P a y is =
    any_among (λ (c : Constant). is_branch c.kind && segment_of_section P.program c.section == a && list_any (λ (t : Term). target_eq t.target y) c.terms)
    is.constant P.program.constants is.among
    (and_from (is_branch is.constant.kind && segment_of_section P.program is.constant.section == a) (list_any (λ (t : Term). target_eq t.target y) is.constant.terms)
    (and_from (is_branch is.constant.kind) (segment_of_section P.program is.constant.section == a) is.branch (eq-eqb (segment_of_section P.program is.constant.section) a is.here))
    (of_terms is.constant.terms is.target))
  where
    of_terms : (terms : List Term) → only_target terms ≡ y → list_any (λ (t : Term). target_eq t.target y) terms ≡ true
    of_terms [] target = absurd (false≢true (ap is_defined target ∙ is.defined))
    of_terms (t ∷ terms) target = ap (λ b. b || list_any (λ (t : Term). target_eq t.target y) terms) (ap (λ z. target_eq z y) target ∙ same_target y is.defined)

not_refused : (P : Laid) (a : ℕ) (y : Target) → IsRunnable P → IsCalled P a y → is_exclusive P.program P.tree a y ≡ true → is_some (holder P.program P.tree a y) ≡ true
unfolding refused_reference
not_refused P a y runs is exclusive =
    held (is_exclusive P.program P.tree a y) (is_some (holder P.program P.tree a y)) exclusive
    (at_one (λ (x : Reference). is_refused P.program P.tree true x ≡ false) here (in_order comes_before (filter_map (reference P.program) P.program.constants))
    (not_found (is_refused P.program P.tree true) (in_order comes_before (filter_map (reference P.program) P.program.constants)) runs.holders)
    (among_in_order comes_before here (filter_map (reference P.program) P.program.constants)
    (among_filter_map (reference P.program) P.program.constants is.constant here is.among referred)))
  where
    here : Reference
    here = record { segment = a; section = is.constant.section; offset = is.constant.offset; target = y }

    referred : reference P.program is.constant ≡ Some here
    referred =
        ap (λ b. if b && is_defined (only_target is.constant.terms)
        then Some (record { segment = segment_of_section P.program is.constant.section; section = is.constant.section; offset = is.constant.offset; target = only_target is.constant.terms })
        else None) is.branch
        ∙ ap (λ z. if is_defined z
        then Some (record { segment = segment_of_section P.program is.constant.section; section = is.constant.section; offset = is.constant.offset; target = z })
        else None) is.target
        ∙ ap (λ b. if b
        then Some (record { segment = segment_of_section P.program is.constant.section; section = is.constant.section; offset = is.constant.offset; target = y })
        else None) is.defined
        ∙ ap (λ k. Some (record { segment = k; section = is.constant.section; offset = is.constant.offset; target = y })) is.here

    held : (e h : Bool) → e ≡ true → (e && not (true && h)) ≡ false → h ≡ true
    held true true is fine = refl
    held true false is fine = absurd (false≢true (sym fine))
    held false h is fine = absurd (false≢true is)

-- the table in which the target of a call that is not direct has its entry, and where
pub record HasEntry (P : Laid) (a : ℕ) (y : Target) : Type 0 where
  pub table : ℕ
  pub holds : holder P.program P.tree a y ≡ Some table
  pub place : ℕ
  pub listed : slice_get (entries_of P table) place ≡ Some y
  pub is : unwrap_or (position (target_eq y) (entries_of P table)) 0 ≡ place

entries_are : (P : Laid) (b : ℕ) → IsLinkable P → 1 ≤ b → b ≤ length P.tree → entries_of P b ≡ entries P.program P.tree b
entries_are P b link low high =
    ap (λ es. option_map_or (λ x. x) (slice_get es (b - 1)) []) (link.entries ∙ ap (map (entries P.program P.tree)) (segments-range P.tree))
    ∙ ap (λ o. option_map_or (λ x. x) o []) (slice_get-map (entries P.program P.tree) (range_with_len 1 (length P.tree)) (b - 1))
    ∙ ap (λ o. option_map_or (λ x. x) (option_map (entries P.program P.tree) o) []) (in_range 1 (length P.tree) (b - 1) (omega (arith, low, high)))
    ∙ ap (entries P.program P.tree) (back b low)
  where
    back : (b : ℕ) → 1 ≤ b → 1 + (b - 1) ≡ b
    back b low = omega (arith, low)

    in_range : (a n k : ℕ) → k < n → slice_get (range_with_len a n) k ≡ Some (a + k)
    in_range a zero k low = absurd (omega (arith, low))
    in_range a (suc n) zero low = ap Some (plain a)
      where
        plain : (a : ℕ) → a ≡ a + 0
        plain a = omega arith
    in_range a (suc n) (suc k) low = in_range (a + 1) n k (omega (arith, low)) ∙ ap Some (moved a k)
      where
        moved : (a k : ℕ) → a + 1 + k ≡ a + suc k
        moved a k = omega arith

entry_listed : (P : Laid) (b : ℕ) (y : Target) → IsLinkable P → 1 ≤ b → b ≤ length P.tree → IsSymbolOf P.program y → is_defined y ≡ true
    → holder P.program P.tree b y ≡ Some b → Among y (entries_of P b)
unfolding entries
entry_listed P b y link low high symbol defined holds =
    subst (Among y) (sym (entries_are P b link low high))
    (among_filter (has_entry P.program P.tree b) y (targets_in_order P.program)
    (ap (λ o. option_map_or (λ h. h == b) o false) holds ∙ eq-eqb b b refl) (target_listed P.program y symbol defined))

pub has_entry_for : (P : Laid) (a : ℕ) (y : Target) → IsLinkable P → IsRunnable P → 1 ≤ a → a ≤ length P.tree → IsSymbolOf P.program y → IsCalled P a y
    → is_direct P.program P.tree a y ≡ false → ((b : ℕ) → holder P.program P.tree a y ≡ Some b → (1 ≤ b) × (b ≤ length P.tree)) → HasEntry P a y
has_entry_for P a y link runs low high symbol called direct bounds = by_holder (holder P.program P.tree a y) refl some
  where
    some : is_some (holder P.program P.tree a y) ≡ true
    some = by_exclusive (is_exclusive P.program P.tree a y) refl
      where
        by_exclusive : (b : Bool) → is_exclusive P.program P.tree a y ≡ b → is_some (holder P.program P.tree a y) ≡ true
        by_exclusive true exclusive = not_refused P a y runs called exclusive
        by_exclusive false none = calls_have_holders P.program P.tree a y low high (called_from P a y called) direct none

    by_holder : (o : Option ℕ) → holder P.program P.tree a y ≡ o → is_some o ≡ true → HasEntry P a y
    by_holder None none some = absurd (false≢true some)
    by_holder (Some b) holds some = by_place (position (target_eq y) (entries_of P b)) refl
      where
        within_tree : (1 ≤ b) × (b ≤ length P.tree)
        within_tree = bounds b holds

        listed : Among y (entries_of P b)
        listed =
            entry_listed P b y link within_tree.0 within_tree.1 symbol called.defined (holders_hold_for_themselves P.program P.tree a y b link.tree low high holds)

        by_place : (o : Option ℕ) → position (target_eq y) (entries_of P b) ≡ o → HasEntry P a y
        by_place None none =
            absurd (false≢true
            (sym (at_one (λ z. target_eq y z ≡ false) y (entries_of P b) (none_at (target_eq y) (entries_of P b) none) listed) ∙ same_target y called.defined))
        by_place (Some k) found =
            let first : IsFirstAt (target_eq y) (entries_of P b) k = first_at (target_eq y) (entries_of P b) k found in
            record {
              table = b;
              holds = holds;
              place = k;
              listed = first.there ∙ ap Some (target_is y first.item called.defined first.passes);
              is = ap (λ o. unwrap_or o 0) found;
            }
