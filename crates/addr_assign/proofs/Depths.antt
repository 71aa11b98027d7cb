-- How far segments are from where their regions start, by their parents.
use Rattle.std.proofs.Common.{◌≡◌, ◌≢◌, ℕ, suc, ◌+◌, ◌-◌, ◌*◌, ◌<◌, ◌≤◌, Bool, true, false, ◌==◌, nat_lt, cond, if◌then◌else◌, List, [], ◌∷◌, length, map, filter, drop, sum_by, get_or, Option, Some, None, refl, sym, le_trans, ap, ◌∙◌, arith, inl, inr}
use Rattle.std.specs.Prelude.{All}
use Rattle.std.specs.List.{range_with_len}
use Rattle.std.proofs.lemmas.Bool.{ltb-true, ltb-false}
use Rattle.std.proofs.lemmas.Bool.Decides.{eqb_tells}
use Rattle.std.proofs.lemmas.List.{get_or_past}
use Rattle.std.proofs.lemmas.List.FromFn.{get_or-map-range_with_len, length-map-range_with_len}
use Rattle.std.proofs.lemmas.List.Sums.{sum_by-cons}
use Rattle.linking_model.specs.Numbers.{round8}
use Rattle.linking_model.specs.Tree.{Tree, IsTree, path, parent_of, region_of}
use Rattle.linking_model.specs.Places.{depth}
use Rattle.linking_model.specs.Laws.{HasParent}
use Rattle.linking_model.proofs.Trees.{path-newest, path-older, parent_of-older, segments_have_parents}
use Rattle.linking_model.proofs.Origins.{path-parent, path-start, path-own, depth-same, depth-root}
use Rattle.addr_assign.specs.Sizes.{sizes_of}

-- ---- sizes as a list

pub sizes_bound : (xs : List ℕ) (m s : ℕ) → All (λ n. n ≤ m) xs → sizes_of xs s ≤ m
unfolding sizes_of
sizes_bound xs m s all =
    elim (nat_lt (s - 1) (length xs)) as (λ b. nat_lt (s - 1) (length xs) ≡ b → get_or xs (s - 1) 0 ≤ m) [
      | true ↦ λ e. all (s - 1) 0 (ltb-true (s - 1) (length xs) e)
      | false ↦ λ e. rw (get_or_past xs (s - 1) 0 (ltb-false (s - 1) (length xs) e)) (omega arith)
    ] refl

pub sizes_listed : (f : ℕ → ℕ) (n s : ℕ) (xs : List ℕ) → xs ≡ map f (range_with_len 1 n) → 1 ≤ s → s ≤ n → sizes_of xs s ≡ f s
unfolding sizes_of
sizes_listed f n s xs is low high =
    ap (λ l. get_or l (s - 1) 0) is ∙ get_or-map-range_with_len f 1 n (s - 1) s 0 (omega arith) (omega arith)

-- ---- the depth is bounded

path_short : (tree : Tree) (s : ℕ) → length (path tree s) ≤ length tree
unfolding path
path_short [] s = omega arith
path_short (x ∷ older) s =
    elim (eqb_tells s (length older + 1)) as (λ _. length (path (x ∷ older) s) ≤ length (x ∷ older)) [
      | inl w ↦
          let rest : length (path older x.parent) ≤ length older = path_short older x.parent in
          let long : length (path (x ∷ older) s) ≡ length ((length older + 1) ∷ path older x.parent) = ap (λ k. length (path (x ∷ older) k)) w.1 ∙ ap (λ l. length l) (path-newest x older) in
          omega (arith, long, rest)
      | inr w ↦
          let rest : length (path older s) ≤ length older = path_short older s in
          let long : length (path (x ∷ older) s) ≡ length (path older s) = ap (λ l. length l) (path-older x older s w.1) in
          omega (arith, long, rest)
    ]

filter_sum : (f : ℕ → ℕ) (p : ℕ → Bool) (xs : List ℕ) → sum_by f (filter p xs) ≤ sum_by f xs
filter_sum f p [] = omega arith
filter_sum f p (x ∷ xs) =
    let rest : sum_by f (filter p xs) ≤ sum_by f xs = filter_sum f p xs in
    elim (p x) as (λ b. sum_by f (cond b (x ∷ filter p xs) (filter p xs)) ≤ sum_by f (x ∷ xs)) [
      | true ↦ rw (sum_by-cons f x (filter p xs), sum_by-cons f x xs) (omega arith)
      | false ↦ rw (sum_by-cons f x xs) (omega arith)
    ]

drop_sum : (f : ℕ → ℕ) (xs : List ℕ) → sum_by f (drop 1 xs) ≤ sum_by f xs
drop_sum f [] = omega arith
drop_sum f (x ∷ xs) = rw (sum_by-cons f x xs) (omega arith)

sum_bound : (f : ℕ → ℕ) (m : ℕ) (xs : List ℕ) → ((x : ℕ) → f x ≤ m) → sum_by f xs ≤ length xs * m
sum_bound f m [] each = omega arith
sum_bound f m (x ∷ xs) each =
    let rest : sum_by f xs ≤ length xs * m = sum_bound f m xs each in
    rw (sum_by-cons f x xs) (more (f x) (sum_by f xs) (length xs) (each x) rest)
  where
    more : (a s n : ℕ) → a ≤ m → s ≤ n * m → a + s ≤ suc n * m
    more a s n h k = grind (arith, h, k)

rounded_bound : (n : ℕ) → n ≤ 2199023255552 → round8 n ≤ 2199023255552
rounded_bound n h = omega arith

pub depth_bound : (tree : Tree) (xs : List ℕ) (s : ℕ) → length tree ≤ 255 → All (λ n. n ≤ 2199023255552) xs → depth tree (sizes_of xs) s ≤ 560750930165760
unfolding depth
depth_bound tree xs s short all =
    let rounded : (a : ℕ) → round8 (sizes_of xs a) ≤ 2199023255552 = λ a. rounded_bound (sizes_of xs a) (sizes_bound xs 2199023255552 a all) in
    le_trans (filter_sum (λ a. round8 (sizes_of xs a)) (λ a. region_of tree a == region_of tree s) (drop 1 (path tree s)))
    (le_trans (drop_sum (λ a. round8 (sizes_of xs a)) (path tree s))
    (le_trans (sum_bound (λ a. round8 (sizes_of xs a)) 2199023255552 (path tree s) rounded)
    (many (length (path tree s)) (length tree) (path_short tree s) short)))
  where
    many : (a b : ℕ) → a ≤ b → b ≤ 255 → a * 2199023255552 ≤ 560750930165760
    many a b h k = omega arith

-- ---- the depth goes by the parent

parent_of-root : (tree : Tree) → IsTree tree → parent_of tree 1 ≡ 0
unfolding parent_of
parent_of-root [] t = absurd t
parent_of-root (x ∷ []) t = rw t refl
parent_of-root (x ∷ y ∷ older) t = parent_of-older x (y ∷ older) 1 (omega arith) ∙ parent_of-root (y ∷ older) t.1

top : (tree : Tree) (s : ℕ) → IsTree tree → 1 ≤ s → s ≤ length tree → parent_of tree s ≡ 0 → s ≡ 1
top tree s t low high none =
    elim (eqb_tells s 1) as (λ _. s ≡ 1) [
      | inl w ↦ w.1
      | inr w ↦ let has : HasParent tree s = segments_have_parents tree s t (omega arith) high in
          let up : 1 ≤ parent_of tree s = has.below_root in omega arith
    ]

not_root : (tree : Tree) (s p : ℕ) → IsTree tree → 1 ≤ s → parent_of tree s ≡ p → 1 ≤ p → 2 ≤ s
not_root tree s p t low is some =
    elim (eqb_tells s 1) as (λ _. 2 ≤ s) [
      | inl w ↦ let none : parent_of tree s ≡ 0 = ap (λ k. parent_of tree k) w.1 ∙ parent_of-root tree t in omega arith
      | inr w ↦ omega arith
    ]

depth_root : (tree : Tree) (sizes : ℕ → ℕ) → IsTree tree → depth tree sizes 1 ≡ 0
unfolding depth
depth_root tree sizes t =
    ap (λ l. sum_by (λ a. round8 (sizes a)) (filter (λ a. region_of tree a == region_of tree 1) (drop 1 l))) (path-start tree t)

pub depth_top : (tree : Tree) (sizes : ℕ → ℕ) (s : ℕ) → IsTree tree → 1 ≤ s → s ≤ length tree → parent_of tree s ≡ 0 → depth tree sizes s ≡ 0
depth_top tree sizes s t low high none = ap (λ k. depth tree sizes k) (top tree s t low high none) ∙ depth_root tree sizes t

pub parent_before : (tree : Tree) (s p : ℕ) → IsTree tree → 1 ≤ s → s ≤ length tree → parent_of tree s ≡ p → 1 ≤ p → p < s
parent_before tree s p t low high is some =
    let has : HasParent tree s = segments_have_parents tree s t (not_root tree s p t low is some) high in
    let earlier : parent_of tree s < s = has.earlier in omega arith

pub depth_below : (tree : Tree) (sizes : ℕ → ℕ) (s p : ℕ) → IsTree tree → 1 ≤ s → s ≤ length tree → parent_of tree s ≡ p → 1 ≤ p → region_of tree p ≡ region_of tree s → depth tree sizes s ≡ round8 (sizes p) + depth tree sizes p
depth_below tree sizes s p t low high is some same =
    let before : p < s = parent_before tree s p t low high is some in
    depth-same tree sizes s p
    (path-parent tree s t (not_root tree s p t low is some) high ∙ ap (λ k. s ∷ path tree k) is)
    (path-own tree p t some (omega arith)) (sym same)

pub depth_beside : (tree : Tree) (sizes : ℕ → ℕ) (s p : ℕ) → IsTree tree → 1 ≤ s → s ≤ length tree → parent_of tree s ≡ p → 1 ≤ p → region_of tree p ≢ region_of tree s → depth tree sizes s ≡ 0
depth_beside tree sizes s p t low high is some differ =
    let below : 2 ≤ s = not_root tree s p t low is some in
    let has : HasParent tree s = segments_have_parents tree s t below high in
    elim has.same_region as (λ _. depth tree sizes s ≡ 0) [
      | inl first ↦
          let one : p ≡ 1 = sym is ∙ first in
          depth-root tree sizes s (path-parent tree s t below high ∙ ap (λ k. s ∷ path tree k) first ∙ ap (λ l. s ∷ l) (path-start tree t))
          (λ same. differ (ap (λ k. region_of tree k) one ∙ sym same))
      | inr same ↦ absurd (differ (ap (λ k. region_of tree k) (sym is) ∙ sym same))
    ]

-- ---- the answer of a tree that is asked for a parent

abbrev pub Told : ℕ → Option ℕ → Type 0
Told n answer = answer ≡ (if n == 0 then None else Some n)

told_some : (n p : ℕ) (answer : Option ℕ) → Told n answer → answer ≡ Some p → (n ≡ p) × (1 ≤ p)
told_some n p answer told is =
    elim (eqb_tells n 0) as (λ _. (n ≡ p) × (1 ≤ p)) [
      | inl w ↦ absurd (none (told ∙ ap (λ b. if b then None else Some n) w.0) is)
      | inr w ↦ let same : n ≡ p = some (told ∙ ap (λ b. if b then None else Some n) w.0) is in (same, omega arith)
    ]
  where
    none : answer ≡ None → answer ≡ Some p → ⊥
    none h k = cc

    some : answer ≡ Some n → answer ≡ Some p → n ≡ p
    some h k = cc

told_none : (n : ℕ) (answer : Option ℕ) → Told n answer → answer ≡ None → n ≡ 0
told_none n answer told is =
    elim (eqb_tells n 0) as (λ _. n ≡ 0) [
      | inl w ↦ w.1
      | inr w ↦ absurd (some (told ∙ ap (λ b. if b then None else Some n) w.0) is)
    ]
  where
    some : answer ≡ Some n → answer ≡ None → ⊥
    some h k = cc

pub above_before : (tree : Tree) (s p : ℕ) (answer : Option ℕ) → IsTree tree → 1 ≤ s → s ≤ length tree → Told (parent_of tree s) answer → answer ≡ Some p → p < s
above_before tree s p answer t low high told is =
    let told_is : (parent_of tree s ≡ p) × (1 ≤ p) = told_some (parent_of tree s) p answer told is in
    parent_before tree s p t low high told_is.0 told_is.1

pub depth_none : (tree : Tree) (sizes : ℕ → ℕ) (s : ℕ) (answer : Option ℕ) → IsTree tree → 1 ≤ s → s ≤ length tree → Told (parent_of tree s) answer → answer ≡ None → 0 ≡ depth tree sizes s
depth_none tree sizes s answer t low high told is = sym (depth_top tree sizes s t low high (told_none (parent_of tree s) answer told is))

pub depth_past : (tree : Tree) (sizes : ℕ → ℕ) (s p : ℕ) (answer : Option ℕ) (a b size rounded above : ℕ) (depths : List ℕ) → IsTree tree → 1 ≤ s → s ≤ length tree → Told (parent_of tree s) answer → answer ≡ Some p → a ≡ region_of tree p → b ≡ region_of tree s → a ≡ b → size ≡ sizes p → rounded ≡ round8 size → depths ≡ map (depth tree sizes) (range_with_len 1 (s - 1)) → above ≡ sizes_of depths p → rounded + above ≡ depth tree sizes s
depth_past tree sizes s p answer a b size rounded above depths t low high told is a_is b_is same size_is rounded_is listed above_is =
    let told_is : (parent_of tree s ≡ p) × (1 ≤ p) = told_some (parent_of tree s) p answer told is in
    let before : p < s = parent_before tree s p t low high told_is.0 told_is.1 in
    let below : depth tree sizes s ≡ round8 (sizes p) + depth tree sizes p = depth_below tree sizes s p t low high told_is.0 told_is.1 (sym a_is ∙ same ∙ b_is) in
    let parent : above ≡ depth tree sizes p = above_is ∙ sizes_listed (depth tree sizes) (s - 1) p depths listed told_is.1 (omega arith) in
    let size_rounded : rounded ≡ round8 (sizes p) = rounded_is ∙ ap (λ n. round8 n) size_is in
    rw (below, parent, size_rounded) refl

pub depth_apart : (tree : Tree) (sizes : ℕ → ℕ) (s p : ℕ) (answer : Option ℕ) (a b : ℕ) → IsTree tree → 1 ≤ s → s ≤ length tree → Told (parent_of tree s) answer → answer ≡ Some p → a ≡ region_of tree p → b ≡ region_of tree s → a ≢ b → 0 ≡ depth tree sizes s
depth_apart tree sizes s p answer a b t low high told is a_is b_is differ =
    let told_is : (parent_of tree s ≡ p) × (1 ≤ p) = told_some (parent_of tree s) p answer told is in
    sym (depth_beside tree sizes s p t low high told_is.0 told_is.1 (λ same. differ (a_is ∙ same ∙ sym b_is)))

pub listed_long : (f : ℕ → ℕ) (a n : ℕ) (xs : List ℕ) → xs ≡ map f (range_with_len a n) → length xs ≡ n
listed_long f a n xs is = ap (λ l. length l) is ∙ length-map-range_with_len f a n

-- what stands in a list of depths is bounded as a depth is
pub listed_depth : (tree : Tree) (sizes depths : List ℕ) (n s d : ℕ) → length tree ≤ 255 → All (λ k. k ≤ 2199023255552) sizes → depths ≡ map (depth tree (sizes_of sizes)) (range_with_len 1 n) → 1 ≤ s → s ≤ n → d ≡ sizes_of depths s → d ≤ 560750930165760
listed_depth tree sizes depths n s d short all is low high here =
    let own : d ≡ depth tree (sizes_of sizes) s = here ∙ sizes_listed (depth tree (sizes_of sizes)) n s depths is low high in
    rw own (depth_bound tree sizes s short all)

pub told_low : (n p : ℕ) (answer : Option ℕ) → Told n answer → answer ≡ Some p → 1 ≤ p
told_low n p answer told is = (told_some n p answer told is).1

pub rounded_small : (n m : ℕ) → n ≤ 2199023255552 → m ≡ round8 n → m ≤ 2199023255552
rounded_small n m h is = rw is (rounded_bound n h)
