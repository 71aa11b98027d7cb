-- A program of one segment has no entries, and its addresses make the block's placement.
use Rattle.std.proofs.Common.{arith, ◌≡◌, ℕ, zero, suc, ◌+◌, ◌<◌, ◌≤◌, Bool, true, false, not, ◌&&◌, ◌||◌, ◌==◌, List, [], ◌∷◌, length, map, filter, filter_map, reverse, get_or, All, IsTrue, refl, sym, ◌∙◌, ap, subst, None, slice_get}
use Rattle.std.specs.List.{list_any, enumerate_from, find}
use Rattle.std.specs.Option.{option_map_or, is_some}
use Rattle.std.proofs.lemmas.Bool.{false≢true}
use Rattle.std.proofs.lemmas.List.{get_or-map, length-map}
use Rattle.std.proofs.lemmas.List.FromFn.{get_or-map-range_with_len, length-map-range_with_len}
use Rattle.sym_mod.specs.Sound.{IsAddress, IsSoundProgram, IsSoundConstant, IsSymbolOf}
use Rattle.sym_mod.specs.Kinds.{is_private}
use Rattle.sym_mod.specs.declared.module.Kind.{Kind}
use Rattle.sym_mod.specs.declared.module.Kind.TheVariants.{Address, Branch, Displacement, Total as TotalKind}
use Rattle.sym_mod.specs.declared.program.Program.{Program}
use Rattle.sym_mod.specs.declared.program.Section.{Section}
use Rattle.sym_mod.specs.declared.program.Label.{Label}
use Rattle.sym_mod.specs.declared.program.Constant.{Constant}
use Rattle.sym_mod.specs.declared.program.Target.{Target}
use Rattle.sym_mod.specs.declared.program.Target.TheVariants.{Section as InSection, Label as AtLabel, Unresolved, Register as OfRegister, Total}
use Rattle.linking_model.specs.Tree.{root, path, segments, region_of, is_below, is_away}
use Rattle.linking_model.specs.Places.{place, module_length, segment_of_section, length_of_section, entry_count}
use Rattle.linking_model.specs.Tables.{named_section, private_section, named_label, targets_in_order, segment_of, section_of_label, is_called_from, needs_entry, has_entry, entries, holder, is_branch, is_defined, is_direct, only_target}
use Rattle.linking_model.specs.Linked.{block}
use Rattle.addr_assign.specs.Laid.{places_of}
use Rattle.relocate.specs.Ready.{StandsInTree, FitTogether}
use Rattle.relocate.specs.Agreeing.{MakePlacement, IsReached}
use Rattle.relocate.proofs.Bounds.{Found, branch_symbol, in_section}
use Rattle.relocate.proofs.Held.{targets_split}
use Rattle.relocate.proofs.Agreeing.{label_section}
use Rattle.std.proofs.lemmas.Option.{slice_get_within}
use Rattle.block_storage.specs.Storage.{alone, moved}
use Rattle.block_storage.proofs.Alone.{section_one, ends_inside, addresses, address_at}

-- ---- no entries

and_false : (a : Bool) → (a && false) ≡ false
and_false true = refl
and_false false = refl

-- the root is its own path
root_path : path (root ∷ []) 1 ≡ 1 ∷ []
unfolding path
root_path = refl

needs_nothing : (p : Program) (y : Target) → segment_of p y ≡ 1 → needs_entry p (root ∷ []) y 1 ≡ false
unfolding path region_of
needs_nothing p y here =
    ap (λ t. is_called_from p y 1 && (is_below (root ∷ []) t 1 || is_away (root ∷ []) t 1)) here ∙ and_false (is_called_from p y 1)

pub has_no_entry : (p : Program) (y : Target) → segment_of p y ≡ 1 → has_entry p (root ∷ []) 1 y ≡ false
unfolding holder
has_no_entry p y here =
    let none : find (needs_entry p (root ∷ []) y) (reverse (path (root ∷ []) 1)) ≡ None =
    ap (λ r. find (needs_entry p (root ∷ []) y) (reverse r)) root_path ∙ rw (needs_nothing p y here) refl in
    ap (λ o. option_map_or (λ h. h == 1) o false) none

filter_none : (f : Target → Bool) (xs : List Target) → list_any f xs ≡ false → filter f xs ≡ []
filter_none f [] none = refl
filter_none f (x ∷ xs) none = by_cases (f x) refl (filter_none f xs)
  where
    by_cases : (b : Bool) → f x ≡ b → (list_any f xs ≡ false → filter f xs ≡ []) → filter f (x ∷ xs) ≡ []
    by_cases true first rest = absurd (false≢true (sym (rw first at none)))
    by_cases false first rest = rw first (rest (rw first at none))

named_none : (f : Target → Bool) (k : ℕ) (xs : List Section) → ((i j : ℕ) → j ≡ k + i → i < length xs → f (InSection j) ≡ false)
    → list_any (λ n. f n.target) (filter_map named_section (enumerate_from k xs)) ≡ false
named_none f k [] none = refl
named_none f k (x ∷ xs) none =
    by_cases (is_private x.kind) refl (named_none f (k + 1) xs (λ i j at within. none (suc i) j (omega (arith, at)) (omega (arith, within))))
  where
    own : f (InSection k) ≡ false
    own = none 0 k (omega arith) (omega arith)

    by_cases : (b : Bool) → is_private x.kind ≡ b → list_any (λ n. f n.target) (filter_map named_section (enumerate_from (k + 1) xs)) ≡ false
        → list_any (λ n. f n.target) (filter_map named_section (enumerate_from k (x ∷ xs))) ≡ false
    by_cases true kind rest = rw kind rest
    by_cases false kind rest = rw (kind, own) rest

private_none : (f : Target → Bool) (k : ℕ) (xs : List Section) → ((i j : ℕ) → j ≡ k + i → i < length xs → f (InSection j) ≡ false)
    → list_any f (filter_map private_section (enumerate_from k xs)) ≡ false
private_none f k [] none = refl
private_none f k (x ∷ xs) none =
    by_cases (is_private x.kind) refl (private_none f (k + 1) xs (λ i j at within. none (suc i) j (omega (arith, at)) (omega (arith, within))))
  where
    own : f (InSection k) ≡ false
    own = none 0 k (omega arith) (omega arith)

    by_cases : (b : Bool) → is_private x.kind ≡ b → list_any f (filter_map private_section (enumerate_from (k + 1) xs)) ≡ false
        → list_any f (filter_map private_section (enumerate_from k (x ∷ xs))) ≡ false
    by_cases true kind rest = rw (kind, own) rest
    by_cases false kind rest = rw kind rest

labels_none : (f : Target → Bool) (k : ℕ) (xs : List Label) → ((i j : ℕ) → j ≡ k + i → i < length xs → f (AtLabel j) ≡ false)
    → list_any (λ n. f n.target) (map named_label (enumerate_from k xs)) ≡ false
labels_none f k [] none = refl
labels_none f k (x ∷ xs) none =
    rw (none 0 k (omega arith) (omega arith)) (labels_none f (k + 1) xs (λ i j at within. none (suc i) j (omega (arith, at)) (omega (arith, within))))

label_one : (p : Program) (i : ℕ) → IsSoundProgram p → All (StandsInTree (root ∷ [])) p.sections → i < length p.labels
    → segment_of p (AtLabel i) ≡ 1
label_one p i sound stand within =
    section_one p (section_of_label p i) stand (label_section p i (slice_get p.labels i) sound within refl)

pub no_entries : (p : Program) → IsSoundProgram p → All (StandsInTree (root ∷ [])) p.sections → entries p (root ∷ []) 1 ≡ []
unfolding entries
no_entries p sound stand =
    filter_none (has_entry p (root ∷ []) 1) (targets_in_order p)
    (targets_split p (has_entry p (root ∷ []) 1)
    ∙ rw (
      named_none (has_entry p (root ∷ []) 1) 0 p.sections (λ i j at within. has_no_entry p (InSection j) (section_one p j stand (omega (arith, at, within)))),
      labels_none (has_entry p (root ∷ []) 1) 0 p.labels (λ i j at within. has_no_entry p (AtLabel j) (label_one p j sound stand (omega (arith, at, within)))),
      private_none (has_entry p (root ∷ []) 1) 0 p.sections (λ i j at within. has_no_entry p (InSection j) (section_one p j stand (omega (arith, at, within)))),
    )
    refl)

pub alone_is_planned : (p : Program) → IsSoundProgram p → All (StandsInTree (root ∷ [])) p.sections
    → (alone p).entries ≡ map (entries p (root ∷ [])) (segments (root ∷ []))
unfolding segments
alone_is_planned p sound stand = ap (λ x. x ∷ []) (sym (no_entries p sound stand))

-- ---- addresses

pub near_each : (p : Program) (at : ℕ) → All (StandsInTree (root ∷ [])) p.sections → at + module_length (alone p) ≤ 16777215
    → All (λ n. at + n ≤ 16777215) (addresses p)
near_each p at stand near = λ k d within.
    let there : k < length p.sections = subst (λ n. k < n) (length-map-range_with_len (place (alone p)) 0 (length p.sections)) within in
    let is : get_or (addresses p) k d ≡ place (alone p) k = get_or-map-range_with_len (place (alone p)) 0 (length p.sections) k k d there (omega arith) in
    let end : place (alone p) k + length_of_section p k ≤ module_length (alone p) = ends_inside p k stand there in
    rw is (omega (arith, end, near))

added_each : (at : ℕ) (ns : List ℕ) → All (λ n. at + n ≤ 16777215) ns → All IsAddress (map (λ n. at + n) ns)
added_each at ns all = λ k d within.
    let there : k < length ns = subst (λ n. k < n) (length-map ns (λ n. at + n)) within in
    rw (get_or-map (λ n. at + n) ns k 0 d there) (all k 0 there)

pub sections_are : (p : Program) → (places_of (alone p)).sections ≡ addresses p
unfolding places_of
sections_are p = refl

pub fit_together : (p : Program) (at : ℕ) → IsSoundProgram p → All (StandsInTree (root ∷ [])) p.sections
    → at + module_length (alone p) ≤ 16777215 → FitTogether (alone p) (moved at (places_of (alone p)))
fit_together p at sound stand near = record {
  sound = sound;
  tree = refl;
  sections = rw (sections_are p) (added_each at (addresses p) (near_each p at stand near));
  tables = λ k d within. absurd (omega (arith, within));
  in_tree = stand;
  entries = alone_is_planned p sound stand;
  few = few;
}
  where
    few : All (λ x. length x ≤ 340) (alone p).entries
    few zero d within = omega arith
    few (suc k) d within = absurd (omega (arith, within))

pub make_block : (p : Program) (at : ℕ) → MakePlacement (alone p) (moved at (places_of (alone p))) (block (alone p) at)
unfolding places_of
make_block p at = record {
  section = λ i within.
      get_or-map (λ n. at + n) (addresses p) i 0 0 (subst (λ n. i < n) (sym (length-map-range_with_len (place (alone p)) 0 (length p.sections))) within)
      ∙ ap (λ n. at + n) (address_at p i within);
  table = λ s first last some.
      let one : s ≡ 1 = omega (arith, first, last) in
      absurd (omega (arith, subst (λ k. 0 < entry_count (alone p) k) one some));
  registers = refl;
  total = refl;
}

-- ---- calls

direct_one : (p : Program) (s : ℕ) (y : Target) → segment_of p y ≡ 1 → s ≡ 1 → is_direct p (root ∷ []) s y ≡ true
unfolding path
direct_one p s y here same = rw (here, same) refl

or_first : (a b : Bool) → a ≡ true → (a || b) ≡ true
or_first true b first = refl
or_first false b first = absurd (false≢true first)

target_reached : (p : Program) (s : ℕ) (y : Target) → IsSoundProgram p → All (StandsInTree (root ∷ [])) p.sections → s ≡ 1 → IsSymbolOf p y
    → IsTrue (not (is_defined y) || is_direct p (root ∷ []) s y || is_some (holder p (root ∷ []) s y))
target_reached p s (InSection i) sound stand one symbol = or_first (is_direct p (root ∷ []) s (InSection i)) _ (direct_one p s (InSection i) (section_one p i stand symbol) one)
target_reached p s (AtLabel i) sound stand one symbol = or_first (is_direct p (root ∷ []) s (AtLabel i)) _ (direct_one p s (AtLabel i) (label_one p i sound stand symbol) one)
target_reached p s (Unresolved i) sound stand one symbol = refl
target_reached p s (OfRegister i) sound stand one symbol = absurd symbol
target_reached p s Total sound stand one symbol = absurd symbol

kind_reached : (p : Program) (c : Constant) (kind : Kind) → IsSoundProgram p → All (StandsInTree (root ∷ [])) p.sections → IsSoundConstant p c
    → c.kind ≡ kind
    → IsTrue (not (is_branch kind) || not (is_defined (only_target c.terms)) || is_direct p (root ∷ []) (segment_of_section p c.section) (only_target c.terms) || is_some (holder p (root ∷ []) (segment_of_section p c.section) (only_target c.terms)))
kind_reached p c Address sound stand fit is = refl
kind_reached p c Displacement sound stand fit is = refl
kind_reached p c TotalKind sound stand fit is = refl
kind_reached p c Branch sound stand fit is =
    let at : Found p.sections c.section (λ x. c.offset + c.length ≤ x.length) = in_section p c.section c.offset c.length fit.inside in
    target_reached p (segment_of_section p c.section) (only_target c.terms) sound stand
    (section_one p c.section stand (slice_get_within p.sections c.section at.item at.found)) (branch_symbol p c fit is)

pub all_reached : (p : Program) → IsSoundProgram p → All (StandsInTree (root ∷ [])) p.sections → All (IsReached (alone p)) p.constants
all_reached p sound stand = λ k d within.
    kind_reached p (get_or p.constants k d) (get_or p.constants k d).kind sound stand (sound.constants k d within) refl
