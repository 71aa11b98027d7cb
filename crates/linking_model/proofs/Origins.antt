-- Where segments begin, by their parents and by lower regions.
use Rattle.std.proofs.Common.{◌≡◌, ◌≢◌, ℕ, zero, suc, ◌+◌, ◌%◌, ◌<◌, ◌≤◌, max, true, false, ◌==◌, nat_lt, List, [], ◌∷◌, length, map, filter, drop, sum_by, refl, sym, add-zero, le_refl, le_trans, ◌++◌, ◌||◌, ap, ◌∙◌, arith, inl, inr}
use Rattle.std.proofs.lemmas.Bool.{lt-ltb, le-ltb, ltb-true, ltb-false, ne_eqb, false≢true}
use Rattle.std.proofs.lemmas.Bool.Decides.{eqb_tells}
use Rattle.std.proofs.lemmas.List.Folds.{list_any-append}
use Rattle.std.proofs.lemmas.List.Sums.{sum_by-cons}
use Rattle.linking_model.proofs.Sums.{round8-bound}
use Rattle.linking_model.proofs.Bytes.{or-true}
use Rattle.linking_model.specs.declared.segment.Segment.{Segment}
use Rattle.linking_model.specs.Numbers.{round8, greatest}
use Rattle.linking_model.specs.Tree.{Tree, IsTree, MayBegin, path, parent_of, region_of, segments, is_in, is_on_path}
use Rattle.linking_model.specs.Places.{above_in_region, depth, ends_from, region_start, origin_by}
use Rattle.linking_model.specs.Laws.{HasParent, OriginsFollowParents, OriginsFollowRegions, AncestorsEndBefore, LowerRegionsEndBefore, end_below}
use Rattle.linking_model.proofs.Trees.{same_tells, greatest-cons, path-newest, path-older, path-root, parent_of-newest, parent_of-older, region_of-root, segments_have_parents}

-- ---- a path goes by the parent

pub path-parent : (tree : Tree) (s : ℕ) → IsTree tree → 2 ≤ s → s ≤ length tree → path tree s ≡ s ∷ path tree (parent_of tree s)
path-parent [] s t low high = absurd t
path-parent (x ∷ []) s t low high = let no : ⊥ = omega arith in absurd no
path-parent (x ∷ y ∷ older) s t low high =
    elim (eqb_tells s (length (y ∷ older) + 1)) as (λ _. path (x ∷ y ∷ older) s ≡ s ∷ path (x ∷ y ∷ older) (parent_of (x ∷ y ∷ older) s)) [
      | inl w ↦ newest x (y ∷ older) s t.0 w.1
      | inr w ↦
          let has : HasParent (y ∷ older) s = segments_have_parents (y ∷ older) s t.1 low (omega arith) in
          let above : parent_of (y ∷ older) s ≢ length (y ∷ older) + 1 = omega arith in
          rw (parent_of-older x (y ∷ older) s w.1, path-older x (y ∷ older) s w.1, path-older x (y ∷ older) (parent_of (y ∷ older) s) above)
          (path-parent (y ∷ older) s t.1 low (omega arith))
    ]
  where
    newest : (x : Segment) (rest : Tree) (s : ℕ) → MayBegin rest x → s ≡ length rest + 1 → path (x ∷ rest) s ≡ s ∷ path (x ∷ rest) (parent_of (x ∷ rest) s)
    newest x rest s may is =
        let above : x.parent ≢ length rest + 1 = omega arith in
        rw (is, path-newest x rest, parent_of-newest x rest, path-older x rest x.parent above) refl

pub path-start : (tree : Tree) → IsTree tree → path tree 1 ≡ 1 ∷ []
path-start [] t = absurd t
path-start (x ∷ []) t = path-root x
path-start (x ∷ y ∷ older) t = path-older x (y ∷ older) 1 (omega arith) ∙ path-start (y ∷ older) t.1

-- a path begins with its segment
pub path-own : (tree : Tree) (s : ℕ) → IsTree tree → 1 ≤ s → s ≤ length tree → path tree s ≡ s ∷ drop 1 (path tree s)
path-own tree s t low high =
    elim (eqb_tells s 1) as (λ _. path tree s ≡ s ∷ drop 1 (path tree s)) [
      | inl w ↦ rw (w.1, path-start tree t) refl
      | inr w ↦ let up : path tree s ≡ s ∷ path tree (parent_of tree s) = path-parent tree s t (omega arith) high in rw up refl
    ]

-- ---- depth

filter-same : (f : ℕ → ℕ) (p r : ℕ) (rest : List ℕ) → f p ≡ r → filter (λ a. f a == r) (p ∷ rest) ≡ p ∷ filter (λ a. f a == r) rest
filter-same f p r rest is = rw (is, same_tells r) refl

filter-other : (f : ℕ → ℕ) (p r : ℕ) (rest : List ℕ) → f p ≢ r → filter (λ a. f a == r) (p ∷ rest) ≡ filter (λ a. f a == r) rest
filter-other f p r rest differ = rw (ne_eqb (f p) r differ) refl

above-same : (tree : Tree) (s p : ℕ) → path tree s ≡ s ∷ path tree p → path tree p ≡ p ∷ drop 1 (path tree p) → region_of tree s ≡ region_of tree p → above_in_region tree s ≡ p ∷ above_in_region tree p
above-same tree s p up own same =
    ap (λ l. filter (λ a. region_of tree a == region_of tree s) (drop 1 l)) up
    ∙ ap (λ l. filter (λ a. region_of tree a == region_of tree s) l) own
    ∙ filter-same (region_of tree) p (region_of tree s) (drop 1 (path tree p)) (sym same)
    ∙ ap (λ r. p ∷ filter (λ a. region_of tree a == r) (drop 1 (path tree p))) same

pub depth-same : (tree : Tree) (sizes : ℕ → ℕ) (s p : ℕ) → path tree s ≡ s ∷ path tree p → path tree p ≡ p ∷ drop 1 (path tree p) → region_of tree s ≡ region_of tree p → depth tree sizes s ≡ round8 (sizes p) + depth tree sizes p
unfolding depth
depth-same tree sizes s p up own same =
    ap (λ l. sum_by (λ a. round8 (sizes a)) l) (above-same tree s p up own same)
    ∙ sum_by-cons (λ a. round8 (sizes a)) p (above_in_region tree p)

pub depth-root : (tree : Tree) (sizes : ℕ → ℕ) (s : ℕ) → path tree s ≡ s ∷ 1 ∷ [] → region_of tree s ≢ region_of tree 1 → depth tree sizes s ≡ 0
unfolding depth
depth-root tree sizes s up differ =
    ap (λ l. sum_by (λ a. round8 (sizes a)) l)
    (ap (λ l. filter (λ a. region_of tree a == region_of tree s) (drop 1 l)) up
    ∙ filter-other (region_of tree) 1 (region_of tree s) [] (λ same. differ (sym same)))

-- ---- multiples of 8

sum_by-round8 : (sizes : ℕ → ℕ) (xs : List ℕ) → sum_by (λ a. round8 (sizes a)) xs % 8 ≡ 0
sum_by-round8 sizes [] = refl
sum_by-round8 sizes (x ∷ xs) =
    let rest : sum_by (λ a. round8 (sizes a)) xs % 8 ≡ 0 = sum_by-round8 sizes xs in
    rw (sum_by-cons (λ a. round8 (sizes a)) x xs) (rounded-plus (sizes x) (sum_by (λ a. round8 (sizes a)) xs) rest)
  where
    rounded-plus : (n m : ℕ) → m % 8 ≡ 0 → (round8 n + m) % 8 ≡ 0
    rounded-plus n m h = omega arith

pub depth-round : (tree : Tree) (sizes : ℕ → ℕ) (s : ℕ) → depth tree sizes s % 8 ≡ 0
unfolding depth
depth-round tree sizes s = sum_by-round8 sizes (above_in_region tree s)

max-round : (a n : ℕ) → a % 8 ≡ 0 → max a (round8 n) % 8 ≡ 0
max-round a n h = omega arith

pub region_start-round : (tree : Tree) (sizes : ℕ → ℕ) (r : ℕ) → region_start tree sizes r % 8 ≡ 0
unfolding region_start
region_start-round tree sizes zero = refl
region_start-round tree sizes (suc r) =
    max-round (region_start tree sizes r) (greatest (ends_from tree sizes (region_start tree sizes r) r)) (region_start-round tree sizes r)

rounded-sum : (a b n : ℕ) → a % 8 ≡ 0 → b % 8 ≡ 0 → a + (round8 n + b) ≡ round8 (a + b + n)
rounded-sum a b n h k = omega arith

pub origins_follow_parents : OriginsFollowParents
unfolding origin_by
origins_follow_parents tree sizes s t low high same =
    let p : ℕ = parent_of tree s in
    let has : HasParent tree s = segments_have_parents tree s t low high in
    let up : path tree s ≡ s ∷ path tree (parent_of tree s) = path-parent tree s t low high in
    let own : path tree (parent_of tree s) ≡ parent_of tree s ∷ drop 1 (path tree (parent_of tree s)) = path-own tree (parent_of tree s) t has.below_root (omega arith) in
    rw (same, depth-same tree sizes s (parent_of tree s) up own same)
    (rounded-sum (region_start tree sizes (region_of tree (parent_of tree s))) (depth tree sizes (parent_of tree s)) (sizes (parent_of tree s)) (region_start-round tree sizes (region_of tree (parent_of tree s))) (depth-round tree sizes (parent_of tree s)))

-- ---- lower regions

-- the greatest of f over the elements whose g is below r
abbrev upto : (ℕ → ℕ) → (ℕ → ℕ) → ℕ → List ℕ → ℕ
upto f g r xs = greatest (map f (filter (λ t. nat_lt (g t) r) xs))

-- the greatest of h over the elements whose g is r
abbrev over : (ℕ → ℕ) → (ℕ → ℕ) → ℕ → List ℕ → ℕ
over h g r xs = greatest (map h (filter (λ t. g t == r) xs))

upto-cons_in : (f g : ℕ → ℕ) (r x : ℕ) (xs : List ℕ) → g x < r → upto f g r (x ∷ xs) ≡ max (f x) (upto f g r xs)
upto-cons_in f g r x xs low = rw (lt-ltb (g x) r low) (greatest-cons (f x) (map f (filter (λ t. nat_lt (g t) r) xs)))

upto-cons_out : (f g : ℕ → ℕ) (r x : ℕ) (xs : List ℕ) → r ≤ g x → upto f g r (x ∷ xs) ≡ upto f g r xs
upto-cons_out f g r x xs high = rw (le-ltb (g x) r high) refl

over-cons_in : (h g : ℕ → ℕ) (r x : ℕ) (xs : List ℕ) → g x ≡ r → over h g r (x ∷ xs) ≡ max (h x) (over h g r xs)
over-cons_in h g r x xs is = ap (λ l. greatest (map h l)) (filter-same g x r xs is) ∙ greatest-cons (h x) (map h (filter (λ t. g t == r) xs))

over-cons_out : (h g : ℕ → ℕ) (r x : ℕ) (xs : List ℕ) → g x ≢ r → over h g r (x ∷ xs) ≡ over h g r xs
over-cons_out h g r x xs differ = ap (λ l. greatest (map h l)) (filter-other g x r xs differ)

split_step : (f h g : ℕ → ℕ) (r x : ℕ) (xs : List ℕ) → (g x ≡ r → f x ≡ h x) → upto f g (suc r) xs ≡ max (upto f g r xs) (over h g r xs) → upto f g (suc r) (x ∷ xs) ≡ max (upto f g r (x ∷ xs)) (over h g r (x ∷ xs))
split_step f h g r x xs agree rest =
    elim (eqb_tells (g x) r) as (λ _. upto f g (suc r) (x ∷ xs) ≡ max (upto f g r (x ∷ xs)) (over h g r (x ∷ xs))) [
      | inl w ↦ equal (agree w.1) w.1
      | inr w ↦ elim (nat_lt (g x) r) as (λ b. nat_lt (g x) r ≡ b → upto f g (suc r) (x ∷ xs) ≡ max (upto f g r (x ∷ xs)) (over h g r (x ∷ xs))) [
        | true ↦ λ e. lower (ltb-true (g x) r e)
        | false ↦ λ e. higher w.1 (ltb-false (g x) r e)
      ] refl
    ]
  where
    lower : g x < r → upto f g (suc r) (x ∷ xs) ≡ max (upto f g r (x ∷ xs)) (over h g r (x ∷ xs))
    lower low = rw (upto-cons_in f g (suc r) x xs (omega arith), upto-cons_in f g r x xs low, over-cons_out h g r x xs (omega arith), rest) (omega arith)

    equal : f x ≡ h x → g x ≡ r → upto f g (suc r) (x ∷ xs) ≡ max (upto f g r (x ∷ xs)) (over h g r (x ∷ xs))
    equal same is = rw (upto-cons_in f g (suc r) x xs (omega arith), upto-cons_out f g r x xs (omega arith), over-cons_in h g r x xs is, rest, same) (omega arith)

    higher : g x ≢ r → r ≤ g x → upto f g (suc r) (x ∷ xs) ≡ max (upto f g r (x ∷ xs)) (over h g r (x ∷ xs))
    higher differ high = rw (upto-cons_out f g (suc r) x xs (omega arith), upto-cons_out f g r x xs high, over-cons_out h g r x xs differ) rest

-- the greatest over the regions up to r is that over the lower ones and that over r
split_greatest : (f h g : ℕ → ℕ) (r : ℕ) (xs : List ℕ) → ((s : ℕ) → g s ≡ r → f s ≡ h s) → upto f g (suc r) xs ≡ max (upto f g r xs) (over h g r xs)
split_greatest f h g r [] agree = refl
split_greatest f h g r (x ∷ xs) agree = split_step f h g r x xs (agree x) (split_greatest f h g r xs agree)

round8-max : (a b : ℕ) → max (round8 a) (round8 b) ≡ round8 (max a b)
round8-max a b = omega arith

none_below : (f g : ℕ → ℕ) (xs : List ℕ) → upto f g 0 xs ≡ 0
none_below f g [] = refl
none_below f g (x ∷ xs) = upto-cons_out f g 0 x xs (omega arith) ∙ none_below f g xs

-- where a region starts, said by the ends of segments
pub region_start-ends : (tree : Tree) (sizes : ℕ → ℕ) (r : ℕ) → region_start tree sizes r ≡ round8 (end_below tree sizes r)
unfolding region_start origin_by
region_start-ends tree sizes zero = rw (none_below (λ t. origin_by tree sizes t + sizes t) (region_of tree) (segments tree)) refl
region_start-ends tree sizes (suc r) =
    let start : region_start tree sizes r ≡ round8 (end_below tree sizes r) = region_start-ends tree sizes r in
    let split : end_below tree sizes (suc r) ≡ max (end_below tree sizes r) (greatest (ends_from tree sizes (region_start tree sizes r) r)) = split_greatest (λ t. origin_by tree sizes t + sizes t) (λ t. region_start tree sizes r + depth tree sizes t + sizes t) (region_of tree) r (segments tree) (λ s is. ap (λ k. region_start tree sizes k + depth tree sizes s + sizes s) is) in
    rw split (ap (λ a. max a (round8 (greatest (ends_from tree sizes (region_start tree sizes r) r)))) start ∙ round8-max (end_below tree sizes r) (greatest (ends_from tree sizes (region_start tree sizes r) r)))

pub origins_follow_regions : OriginsFollowRegions
unfolding origin_by
origins_follow_regions tree sizes s t low high differ =
    let has : HasParent tree s = segments_have_parents tree s t low high in
    let up : path tree s ≡ s ∷ path tree (parent_of tree s) = path-parent tree s t low high in
    elim has.same_region as (λ _. region_start tree sizes (region_of tree s) + depth tree sizes s ≡ round8 (end_below tree sizes (region_of tree s))) [
      | inl below_root ↦
          let from_root : path tree s ≡ s ∷ 1 ∷ [] = up ∙ ap (λ p. s ∷ path tree p) below_root ∙ ap (λ l. s ∷ l) (path-start tree t) in
          let apart : region_of tree s ≢ region_of tree 1 = λ same. differ (same ∙ ap (λ p. region_of tree p) (sym below_root)) in
          rw (depth-root tree sizes s from_root apart) (add-zero (region_start tree sizes (region_of tree s)) ∙ region_start-ends tree sizes (region_of tree s))
      | inr same ↦ absurd (differ same)
    ]

-- ---- what ends before a segment begins

pub is_in-segments : (tree : Tree) (s : ℕ) → 1 ≤ s → s ≤ length tree → is_in s (segments tree) ≡ true
unfolding segments
is_in-segments [] s low high = let no : ⊥ = omega arith in absurd no
is_in-segments (x ∷ older) s low high =
    elim (eqb_tells s (length older + 1)) as (λ _. is_in s (segments older ++ (length older + 1) ∷ []) ≡ true) [
      | inl w ↦ rw (w.1, list_any-append (λ r. r == (length older + 1)) (segments older) ((length older + 1) ∷ []), same_tells (length older + 1)) (or-true (is_in (length older + 1) (segments older)))
      | inr w ↦ rw (list_any-append (λ r. r == s) (segments older) ((length older + 1) ∷ []), is_in-segments older s low (omega arith)) refl
    ]

upto-bound : (f g : ℕ → ℕ) (r t : ℕ) (xs : List ℕ) → is_in t xs ≡ true → g t < r → f t ≤ upto f g r xs
upto-bound f g r t [] there low = cc
upto-bound f g r t (x ∷ xs) there low =
    elim (eqb_tells x t) as (λ _. f t ≤ upto f g r (x ∷ xs)) [
      | inl w ↦ rw (w.1, upto-cons_in f g r t xs low) (omega arith)
      | inr w ↦
          let later : is_in t xs ≡ true = sym (ap (λ b. b || is_in t xs) w.0) ∙ there in
          let rest : f t ≤ upto f g r xs = upto-bound f g r t xs later low in
          le_trans rest (upto-grows f g r x xs)
    ]
  where
    upto-grows : (f g : ℕ → ℕ) (r x : ℕ) (xs : List ℕ) → upto f g r xs ≤ upto f g r (x ∷ xs)
    upto-grows f g r x xs =
        elim (nat_lt (g x) r) as (λ b. nat_lt (g x) r ≡ b → upto f g r xs ≤ upto f g r (x ∷ xs)) [
          | true ↦ λ e. rw (upto-cons_in f g r x xs (ltb-true (g x) r e)) (omega arith)
          | false ↦ λ e. rw (upto-cons_out f g r x xs (ltb-false (g x) r e)) (le_refl _)
        ] refl

starts_before : (tree : Tree) (sizes : ℕ → ℕ) (s : ℕ) → region_start tree sizes (region_of tree s) ≤ origin_by tree sizes s
unfolding origin_by
starts_before tree sizes s = omega arith

pub lower_regions_end_before : LowerRegionsEndBefore
lower_regions_end_before tree sizes t s low high below =
    let end : origin_by tree sizes t + sizes t ≤ end_below tree sizes (region_of tree s) = upto-bound (λ k. origin_by tree sizes k + sizes k) (region_of tree) (region_of tree s) t (segments tree) (is_in-segments tree t low high) below in
    let start : end_below tree sizes (region_of tree s) ≤ region_start tree sizes (region_of tree s) = rw (region_start-ends tree sizes (region_of tree s)) (round8-bound (end_below tree sizes (region_of tree s))) in
    le_trans end (le_trans start (starts_before tree sizes s))

pub parent_ends_before : (tree : Tree) (sizes : ℕ → ℕ) (s : ℕ) → IsTree tree → 2 ≤ s → s ≤ length tree → origin_by tree sizes (parent_of tree s) + sizes (parent_of tree s) ≤ origin_by tree sizes s
parent_ends_before tree sizes s t low high =
    let has : HasParent tree s = segments_have_parents tree s t low high in
    elim (eqb_tells (region_of tree s) (region_of tree (parent_of tree s))) as (λ _. origin_by tree sizes (parent_of tree s) + sizes (parent_of tree s) ≤ origin_by tree sizes s) [
      | inl w ↦ rw (origins_follow_parents tree sizes s t low high w.1) (round8-bound (origin_by tree sizes (parent_of tree s) + sizes (parent_of tree s)))
      | inr w ↦ lower_regions_end_before tree sizes (parent_of tree s) s has.below_root (omega arith) (lower has w.1)
    ]
  where
    lower : HasParent tree s → region_of tree s ≢ region_of tree (parent_of tree s) → region_of tree (parent_of tree s) < region_of tree s
    lower has differ =
        elim has.same_region as (λ _. region_of tree (parent_of tree s) < region_of tree s) [
          | inl below_root ↦
              let first : region_of tree (parent_of tree s) ≡ 1 = ap (λ p. region_of tree p) below_root ∙ region_of-root tree t in
              let numbered : 1 ≤ region_of tree s = has.numbered in omega arith
          | inr same ↦ absurd (differ same)
        ]

pub only_one : (a b : ℕ) → is_in a (b ∷ []) ≡ true → a ≡ b
only_one a b h = elim (eqb_tells b a) [ inl w ↦ sym w.1 | inr w ↦ absurd (false≢true (sym (ap (λ c. c || false) w.0) ∙ h)) ]

-- what is on a path, but not its end, is on the path without that end
pub further : (a s : ℕ) (path rest : List ℕ) → path ≡ s ∷ rest → a ≢ s → is_in a path ≡ true → is_in a rest ≡ true
further a s path rest up differ on = sym (ap (λ c. c || is_in a rest) (ne_eqb s a (λ e. differ (sym e)))) ∙ sym (ap (λ l. is_in a l) up) ∙ on

ancestors_within : (n : ℕ) (tree : Tree) (sizes : ℕ → ℕ) (a s : ℕ) → s ≤ n → IsTree tree → 1 ≤ s → s ≤ length tree → is_on_path tree a s ≡ true → a ≢ s → origin_by tree sizes a + sizes a ≤ origin_by tree sizes s
ancestors_within zero tree sizes a s bound t low high on differ = let no : ⊥ = omega arith in absurd no
ancestors_within (suc n) tree sizes a s bound t low high on differ =
    elim (eqb_tells s 1) as (λ _. origin_by tree sizes a + sizes a ≤ origin_by tree sizes s) [
      | inl w ↦ absurd (differ (only_one a 1 (sym (ap (λ l. is_in a l) (ap (λ k. path tree k) w.1 ∙ path-start tree t)) ∙ on) ∙ sym w.1))
      | inr w ↦
          let has : HasParent tree s = segments_have_parents tree s t (omega arith) high in
          let end : origin_by tree sizes (parent_of tree s) + sizes (parent_of tree s) ≤ origin_by tree sizes s = parent_ends_before tree sizes s t (omega arith) high in
          let up : is_in a (path tree (parent_of tree s)) ≡ true = further a s (path tree s) (path tree (parent_of tree s)) (path-parent tree s t (omega arith) high) differ on in
          elim (eqb_tells a (parent_of tree s)) as (λ _. origin_by tree sizes a + sizes a ≤ origin_by tree sizes s) [
            | inl v ↦ rw (v.1) end
            | inr v ↦
                let before : origin_by tree sizes a + sizes a ≤ origin_by tree sizes (parent_of tree s) = ancestors_within n tree sizes a (parent_of tree s) (omega arith) t has.below_root (omega arith) up v.1 in
                omega arith
          ]
    ]

pub ancestors_end_before : AncestorsEndBefore
ancestors_end_before tree sizes a s t low high on differ = ancestors_within s tree sizes a s (le_refl s) t low high on differ
