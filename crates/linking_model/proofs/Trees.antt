-- Paths, parents and regions, segment by segment, and the laws of trees.
use Rattle.std.proofs.Common.{◌≡◌, ◌≢◌, ℕ, ◌+◌, ◌<◌, ◌≤◌, fold, max, map, Bool, true, false, ◌==◌, ◌&&◌, nat_lt, is_some, if◌then◌else◌, List, [], ◌∷◌, ◌++◌, reverse, length, Option, Some, None, slice_get, position, option_map, refl, ◌∙◌, arith, inl, inr}
use Rattle.std.proofs.lemmas.Bool.{ltb-false}
use Rattle.std.proofs.lemmas.Bool.Decides.{eqb_tells}
use Rattle.std.proofs.lemmas.List.{reverse-append}
use Rattle.linking_model.specs.declared.segment.Segment.{Segment}
use Rattle.linking_model.specs.Numbers.{greatest}
use Rattle.le_bytes.specs.declared.name.Name.{Name}
use Rattle.le_bytes.specs.Names.{name_eq}
use Rattle.std.proofs.lemmas.List.Quantifiers.{position-Some}
use Rattle.linking_model.specs.Tree.{OverlayFault, overlaid, overlay_fault, first_of, next_segment, Tree, MayBegin, IsTree, path, parent_of, region_of, regions, is_in, is_on_path}
use Rattle.linking_model.specs.Laws.{PathsBeginAtRoot, SegmentsAreOnTheirPaths, HasParent, SegmentsHaveParents, StatementsMakeTrees, StatementsKeepTreesSmall}

-- ---- one segment at a time

pub if_same : {A : Type 0} (n : ℕ) (a b : A) → (if n == n then a else b) ≡ a
if_same n a b = elim (eqb_tells n n) [ inl w ↦ rw (w.0) refl | inr w ↦ absurd (w.1 refl) ]

pub same_tells : (n : ℕ) → (n == n) ≡ true
same_tells n = elim (eqb_tells n n) [ inl w ↦ w.0 | inr w ↦ absurd (w.1 refl) ]

if_other : {A : Type 0} (s n : ℕ) (a b : A) → s ≢ n → (if s == n then a else b) ≡ b
if_other s n a b differ = elim (eqb_tells s n) [ inl w ↦ absurd (differ w.1) | inr w ↦ rw (w.0) refl ]

pub path-newest : (x : Segment) (older : Tree) → path (x ∷ older) (length older + 1) ≡ (length older + 1) ∷ path older x.parent
unfolding path
path-newest x older = if_same (length older + 1) _ _

pub path-older : (x : Segment) (older : Tree) (s : ℕ) → s ≢ length older + 1 → path (x ∷ older) s ≡ path older s
unfolding path
path-older x older s differ = if_other s (length older + 1) _ _ differ

pub region_of-newest : (x : Segment) (older : Tree) → region_of (x ∷ older) (length older + 1) ≡ x.region
unfolding region_of
region_of-newest x older = if_same (length older + 1) _ _

pub region_of-older : (x : Segment) (older : Tree) (s : ℕ) → s ≢ length older + 1 → region_of (x ∷ older) s ≡ region_of older s
unfolding region_of
region_of-older x older s differ = if_other s (length older + 1) _ _ differ

pub parent_of-newest : (x : Segment) (older : Tree) → parent_of (x ∷ older) (length older + 1) ≡ x.parent
unfolding parent_of
parent_of-newest x older = if_same (length older + 1) _ _

pub parent_of-older : (x : Segment) (older : Tree) (s : ℕ) → s ≢ length older + 1 → parent_of (x ∷ older) s ≡ parent_of older s
unfolding parent_of
parent_of-older x older s differ = if_other s (length older + 1) _ _ differ

-- ---- paths

-- the first of a list stays the first of a longer one
first-append : {A : Type 0} (xs ys : List A) (x : A) → slice_get xs 0 ≡ Some x → slice_get (xs ++ ys) 0 ≡ Some x
first-append [] ys x h = cc
first-append (z ∷ zs) ys x h = h

pub reverse-cons : {A : Type 0} (x : A) (xs : List A) → reverse (x ∷ xs) ≡ reverse xs ++ x ∷ []
reverse-cons x xs = reverse-append (x ∷ []) xs

pub path-root : (x : Segment) → path (x ∷ []) 1 ≡ 1 ∷ []
unfolding path
path-root x = refl

pub paths_begin_at_root : PathsBeginAtRoot
paths_begin_at_root [] s t low high = absurd t
paths_begin_at_root (x ∷ []) s t low high = let e : s ≡ 1 = omega arith in rw (e, path-root x) refl
paths_begin_at_root (x ∷ y ∷ older) s t low high =
    elim (eqb_tells s (length (y ∷ older) + 1)) as (λ _. slice_get (reverse (path (x ∷ y ∷ older) s)) 0 ≡ Some 1) [
      | inl w ↦ rw (w.1, path-newest x (y ∷ older), reverse-cons (length (y ∷ older) + 1) (path (y ∷ older) x.parent))
          (first-append _ _ 1 (paths_begin_at_root (y ∷ older) x.parent t.1 t.0.below_root t.0.below_earlier))
      | inr w ↦ rw (path-older x (y ∷ older) s w.1) (paths_begin_at_root (y ∷ older) s t.1 low (omega arith))
    ]

is_in-first : (s : ℕ) (list : List ℕ) → is_in s (s ∷ list) ≡ true
is_in-first s list = rw (same_tells s) refl

pub segments_are_on_their_paths : SegmentsAreOnTheirPaths
segments_are_on_their_paths [] s low high = let no : ⊥ = omega arith in absurd no
segments_are_on_their_paths (x ∷ older) s low high =
    elim (eqb_tells s (length older + 1)) as (λ _. is_on_path (x ∷ older) s s ≡ true) [
      | inl w ↦ rw (w.1, path-newest x older) (is_in-first (length older + 1) (path older x.parent))
      | inr w ↦ rw (path-older x older s w.1) (segments_are_on_their_paths older s low (omega arith))
    ]

-- ---- parents and regions

greatest-from : (a : ℕ) (xs : List ℕ) → fold max a xs ≡ max a (greatest xs)
greatest-from a [] = omega arith
greatest-from a (x ∷ xs) =
    let one : fold max (max a x) xs ≡ max (max a x) (greatest xs) = greatest-from (max a x) xs in
    let other : fold max (max 0 x) xs ≡ max (max 0 x) (greatest xs) = greatest-from (max 0 x) xs in
    rw (one, other) (omega arith)

pub greatest-cons : (x : ℕ) (xs : List ℕ) → greatest (x ∷ xs) ≡ max x (greatest xs)
greatest-cons x xs = let from : fold max (max 0 x) xs ≡ max (max 0 x) (greatest xs) = greatest-from (max 0 x) xs in rw from (omega arith)

regions-cons : (x : Segment) (older : Tree) → regions (x ∷ older) ≡ max x.region (regions older)
unfolding regions
regions-cons x older = greatest-cons x.region (map (λ y. y.region) older)

newest_has_parent : (x : Segment) (older : Tree) → MayBegin older x → HasParent (x ∷ older) (length older + 1)
newest_has_parent x older may =
    let parent : parent_of (x ∷ older) (length older + 1) ≡ x.parent = parent_of-newest x older in
    let region : region_of (x ∷ older) (length older + 1) ≡ x.region = region_of-newest x older in
    let above : region_of (x ∷ older) x.parent ≡ region_of older x.parent = region_of-older x older x.parent (omega arith) in
    record {
      below_root = rw parent may.below_root;
      earlier = rw parent (omega arith);
      numbered = rw region may.numbered;
      bounded = rw (region, regions-cons x older) (omega arith);
      same_region = rw (parent, region, above) may.same_region;
    }

older_has_parent : (x : Segment) (older : Tree) (s : ℕ) → s ≤ length older → HasParent older s → HasParent (x ∷ older) s
older_has_parent x older s high has =
    let parent : parent_of (x ∷ older) s ≡ parent_of older s = parent_of-older x older s (omega arith) in
    let region : region_of (x ∷ older) s ≡ region_of older s = region_of-older x older s (omega arith) in
    let above : region_of (x ∷ older) (parent_of older s) ≡ region_of older (parent_of older s) = region_of-older x older (parent_of older s) (omega arith) in
    record {
      below_root = rw parent has.below_root;
      earlier = rw parent has.earlier;
      numbered = rw region has.numbered;
      bounded = rw (region, regions-cons x older) (omega arith);
      same_region = rw (parent, region, above) has.same_region;
    }

pub segments_have_parents : SegmentsHaveParents
segments_have_parents [] s t low high = absurd t
segments_have_parents (x ∷ []) s t low high = let no : ⊥ = omega arith in absurd no
segments_have_parents (x ∷ y ∷ older) s t low high =
    elim (eqb_tells s (length (y ∷ older) + 1)) as (λ _. HasParent (x ∷ y ∷ older) s) [
      | inl w ↦ rw (w.1) (newest_has_parent x (y ∷ older) t.0)
      | inr w ↦ older_has_parent x (y ∷ older) s (omega arith) (segments_have_parents (y ∷ older) s t.1 low (omega arith))
    ]

-- the root is in region 1
pub region_of-root : (tree : Tree) → IsTree tree → region_of tree 1 ≡ 1
unfolding region_of
region_of-root [] t = absurd t
region_of-root (x ∷ []) t = rw t refl
region_of-root (x ∷ y ∷ older) t = if_other 1 (length (y ∷ older) + 1) _ _ (omega arith) ∙ region_of-root (y ∷ older) t.1

regions-root : (tree : Tree) → IsTree tree → 1 ≤ regions tree
unfolding regions
regions-root [] t = absurd t
regions-root (x ∷ []) t = rw t (omega arith)
regions-root (x ∷ y ∷ older) t =
    let below : 1 ≤ regions (y ∷ older) = regions-root (y ∷ older) t.1 in
    rw (greatest-cons x.region (map (λ z. z.region) (y ∷ older))) (omega arith)

-- a region that some segment has
pub record IsRegion (tree : Tree) (r : ℕ) : Type 0 where
  pub numbered : 1 ≤ r
  pub bounded : r ≤ regions tree

pub segments_have_regions : (tree : Tree) (s : ℕ) → IsTree tree → 1 ≤ s → s ≤ length tree → IsRegion tree (region_of tree s)
segments_have_regions tree s t low high =
    elim (eqb_tells s 1) as (λ _. IsRegion tree (region_of tree s)) [
      | inl w ↦ rw (w.1, region_of-root tree t) (record { numbered = omega arith; bounded = regions-root tree t })
      | inr w ↦ let has : HasParent tree s = segments_have_parents tree s t (omega arith) high in record { numbered = has.numbered; bounded = has.bounded }
    ]

-- ---- OVERLAY statements

tree-cons : (x : Segment) (tree : Tree) → IsTree tree → MayBegin tree x → IsTree (x ∷ tree)
tree-cons x [] t may = absurd t
tree-cons x (y ∷ older) t may = (may, t)

first-within : (place : Option ℕ) (n first : ℕ) → ((i : ℕ) → place ≡ Some i → i < n) → option_map (λ i. i + 2) place ≡ Some first → (2 ≤ first) × (first ≤ n + 1)
first-within None n first within is = cc
first-within (Some i) n first within is =
    let same : i + 2 ≡ first = cc in let low : i < n = within i refl in (omega arith, omega arith)

first_of-within : (symbols : List Name) (symbol : Name) (first : ℕ) → first_of symbols symbol ≡ Some first → (2 ≤ first) × (first ≤ length symbols + 1)
first_of-within symbols symbol first is =
    first-within (position (λ x. name_eq x symbol) symbols) (length symbols) first
    (λ i h. (position-Some (λ x. name_eq x symbol) symbols i symbol h).0) is

next_may_begin : (tree : Tree) (symbols : List Name) (symbol : Name) (region : Bool) (found : Option ℕ) → IsTree tree → length tree ≡ length symbols + 1 → first_of symbols symbol ≡ found → MayBegin tree (next_segment tree region found)
next_may_begin tree symbols symbol region (Some first) t size is =
    let within : (2 ≤ first) × (first ≤ length symbols + 1) = first_of-within symbols symbol first is in
    let has : HasParent tree first = segments_have_parents tree first t within.0 (omega arith) in
    record {
      below_root = has.below_root;
      below_earlier = omega arith;
      numbered = has.numbered;
      next = omega arith;
      same_region = has.same_region;
    }
next_may_begin tree symbols symbol true None t size is =
    record {
      below_root = omega arith;
      below_earlier = omega arith;
      numbered = omega arith;
      next = omega arith;
      same_region = inl refl;
    }
next_may_begin tree symbols symbol false None t size is =
    let region : IsRegion tree (region_of tree (length tree)) = segments_have_regions tree (length tree) t (omega arith) (omega arith) in
    record {
      below_root = omega arith;
      below_earlier = omega arith;
      numbered = region.numbered;
      next = omega arith;
      same_region = inr refl;
    }

pub statements_make_trees : StatementsMakeTrees
unfolding overlaid
statements_make_trees o symbol region t size =
    tree-cons (next_segment o.tree region (first_of o.symbols symbol)) o.tree t
    (next_may_begin o.tree o.symbols symbol region (first_of o.symbols symbol) t size refl)

-- what the last statement's tests tell where there is no fault
no_fault : (region used fifth many : Bool) (a b c : OverlayFault) → (if region && used then Some a else (if region && fifth then Some b else (if many then Some c else None))) ≡ None → (many ≡ false) × (region ≡ true → fifth ≡ false)
no_fault true true fifth many a b c h = cc
no_fault true false true many a b c h = cc
no_fault true false false true a b c h = cc
no_fault true false false false a b c h = (refl, λ _. refl)
no_fault false used fifth true a b c h = cc
no_fault false used fifth false a b c h = (refl, λ no. cc)

-- the region of the next segment is one of those so far, or with REGION the next
next_region : (tree : Tree) (symbols : List Name) (symbol : Name) (region : Bool) (found : Option ℕ) → IsTree tree → length tree ≡ length symbols + 1 → first_of symbols symbol ≡ found → (region ≡ true → regions tree ≤ 3) → regions tree ≤ 4 → (next_segment tree region found).region ≤ 4
next_region tree symbols symbol region (Some first) t size is more few =
    let within : (2 ≤ first) × (first ≤ length symbols + 1) = first_of-within symbols symbol first is in
    let has : HasParent tree first = segments_have_parents tree first t within.0 (omega arith) in
    let bounded : region_of tree first ≤ regions tree = has.bounded in omega arith
next_region tree symbols symbol true None t size is more few = let bound : regions tree ≤ 3 = more refl in omega arith
next_region tree symbols symbol false None t size is more few =
    let region : IsRegion tree (region_of tree (length tree)) = segments_have_regions tree (length tree) t (omega arith) (omega arith) in
    let bounded : region_of tree (length tree) ≤ regions tree = region.bounded in omega arith

pub statements_keep_trees_small : StatementsKeepTreesSmall
unfolding overlaid overlay_fault
statements_keep_trees_small o symbol region t size small fault =
    let tests : (nat_lt 254 (length o.tree) ≡ false) × (region ≡ true → nat_lt 3 (regions o.tree) ≡ false) =
    no_fault region (is_some (first_of o.symbols symbol)) (nat_lt 3 (regions o.tree)) (nat_lt 254 (length o.tree)) _ _ _ fault in
    let short : length o.tree ≤ 254 = ltb-false 254 (length o.tree) tests.0 in
    let next : (next_segment o.tree region (first_of o.symbols symbol)).region ≤ 4 =
    next_region o.tree o.symbols symbol region (first_of o.symbols symbol) t size refl (λ is. ltb-false 3 (regions o.tree) (tests.1 is)) small.few_regions in
    let few : regions o.tree ≤ 4 = small.few_regions in
    record {
      few_segments = omega arith;
      few_regions = rw (regions-cons (next_segment o.tree region (first_of o.symbols symbol)) o.tree) (omega arith);
    }
