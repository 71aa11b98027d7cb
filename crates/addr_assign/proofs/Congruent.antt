-- Origins depend on the sizes of segments of the tree alone.
use Rattle.std.proofs.Common.{◌≡◌, ℕ, zero, suc, ◌+◌, ◌<◌, ◌≤◌, max, Bool, true, false, ◌==◌, List, [], ◌∷◌, ◌++◌, length, map, filter, drop, sum_by, refl, sym, ap, ◌∙◌, arith, inl, inr, cond}
use Rattle.std.specs.List.{range_with_len}
use Rattle.std.proofs.lemmas.Bool.Decides.{eqb_tells}
use Rattle.std.proofs.lemmas.List.Sums.{sum_by-cons}
use Rattle.linking_model.specs.Numbers.{round8, greatest}
use Rattle.linking_model.specs.Tree.{Tree, path, region_of, segments}
use Rattle.linking_model.specs.Places.{depth, ends_from, region_start, origin_by}
use Rattle.linking_model.proofs.Trees.{path-newest, path-older}

-- the same for the numbers of n segments
abbrev pub Agree : ℕ → (ℕ → ℕ) → (ℕ → ℕ) → Type 0
Agree n f g = (a : ℕ) → 1 ≤ a → a ≤ n → f a ≡ g a

-- ---- the numbers of segments are a range

last : (a n j : ℕ) → a + n ≡ j → range_with_len a (suc n) ≡ range_with_len a n ++ j ∷ []
last a zero j e = let same : a ≡ j = omega arith in ap (λ k. k ∷ []) same
last a (suc n) j e = ap (λ l. a ∷ l) (last (a + 1) n j (omega arith))

pub segments-range : (tree : Tree) → segments tree ≡ range_with_len 1 (length tree)
unfolding segments
segments-range [] = refl
segments-range (x ∷ older) = ap (λ l. l ++ (length older + 1) ∷ []) (segments-range older) ∙ sym (last 1 (length older) (length older + 1) (omega arith))

-- ---- depths

sum-cons : (f g : ℕ → ℕ) (q : ℕ → Bool) (x : ℕ) (xs : List ℕ) → f x ≡ g x → sum_by f (filter q xs) ≡ sum_by g (filter q xs) → sum_by f (filter q (x ∷ xs)) ≡ sum_by g (filter q (x ∷ xs))
sum-cons f g q x xs own rest =
    elim (q x) as (λ b. sum_by f (cond b (x ∷ filter q xs) (filter q xs)) ≡ sum_by g (cond b (x ∷ filter q xs) (filter q xs))) [
      | true ↦ sum_by-cons f x (filter q xs) ∙ (ap (λ n. n + sum_by f (filter q xs)) own ∙ (ap (λ n. g x + n) rest ∙ sym (sum_by-cons g x (filter q xs))))
      | false ↦ rest
    ]

sum-path : (tree : Tree) (f g : ℕ → ℕ) (q : ℕ → Bool) (s : ℕ) → Agree (length tree) f g → sum_by f (filter q (path tree s)) ≡ sum_by g (filter q (path tree s))
unfolding path
sum-path [] f g q s same = refl
sum-path (x ∷ older) f g q s same =
    elim (eqb_tells s (length older + 1)) as (λ _. sum_by f (filter q (path (x ∷ older) s)) ≡ sum_by g (filter q (path (x ∷ older) s))) [
      | inl w ↦ rw (w.1, path-newest x older) (sum-cons f g q (length older + 1) (path older x.parent) (same (length older + 1) (omega arith) (omega arith)) (sum-path older f g q x.parent (λ a low high. same a low (omega (arith, high)))))
      | inr w ↦ rw (path-older x older s w.1) (sum-path older f g q s (λ a low high. same a low (omega (arith, high))))
    ]

sum-above : (tree : Tree) (f g : ℕ → ℕ) (q : ℕ → Bool) (s : ℕ) → Agree (length tree) f g → sum_by f (filter q (drop 1 (path tree s))) ≡ sum_by g (filter q (drop 1 (path tree s)))
unfolding path
sum-above [] f g q s same = refl
sum-above (x ∷ older) f g q s same =
    elim (eqb_tells s (length older + 1)) as (λ _. sum_by f (filter q (drop 1 (path (x ∷ older) s))) ≡ sum_by g (filter q (drop 1 (path (x ∷ older) s)))) [
      | inl w ↦ rw (w.1, path-newest x older) (sum-path older f g q x.parent (λ a low high. same a low (omega (arith, high))))
      | inr w ↦ rw (path-older x older s w.1) (sum-above older f g q s (λ a low high. same a low (omega (arith, high))))
    ]

pub depth-same_sizes : (tree : Tree) (f g : ℕ → ℕ) (s : ℕ) → Agree (length tree) f g → depth tree f s ≡ depth tree g s
unfolding depth
depth-same_sizes tree f g s same = sum-above tree (λ a. round8 (f a)) (λ a. round8 (g a)) (λ a. region_of tree a == region_of tree s) s (λ a low high. ap (λ n. round8 n) (same a low high))

-- ---- regions

map-filter : (f g : ℕ → ℕ) (q : ℕ → Bool) (a n : ℕ) → ((s : ℕ) → a ≤ s → s < a + n → f s ≡ g s) → map f (filter q (range_with_len a n)) ≡ map g (filter q (range_with_len a n))
map-filter f g q a zero same = refl
map-filter f g q a (suc n) same =
    let rest : map f (filter q (range_with_len (a + 1) n)) ≡ map g (filter q (range_with_len (a + 1) n)) = map-filter f g q (a + 1) n (λ s low high. same s (omega (arith, low)) (omega (arith, high))) in
    let own : f a ≡ g a = same a (omega arith) (omega arith) in
    elim (q a) as (λ b. map f (cond b (a ∷ filter q (range_with_len (a + 1) n)) (filter q (range_with_len (a + 1) n))) ≡ map g (cond b (a ∷ filter q (range_with_len (a + 1) n)) (filter q (range_with_len (a + 1) n)))) [
      | true ↦ ap (λ v. v ∷ map f (filter q (range_with_len (a + 1) n))) own ∙ ap (λ l. g a ∷ l) rest
      | false ↦ rest
    ]

ends-same_sizes : (tree : Tree) (f g : ℕ → ℕ) (start r : ℕ) → Agree (length tree) f g → ends_from tree f start r ≡ ends_from tree g start r
ends-same_sizes tree f g start r same =
    ap (λ l. map (λ s. start + depth tree f s + f s) (filter (λ s. region_of tree s == r) l)) (segments-range tree)
    ∙ (map-filter (λ s. start + depth tree f s + f s) (λ s. start + depth tree g s + g s) (λ s. region_of tree s == r) 1 (length tree) (λ s low high. one s low (omega (arith, high)))
    ∙ sym (ap (λ l. map (λ s. start + depth tree g s + g s) (filter (λ s. region_of tree s == r) l)) (segments-range tree)))
  where
    one : (s : ℕ) → 1 ≤ s → s ≤ length tree → start + depth tree f s + f s ≡ start + depth tree g s + g s
    one s low high = ap (λ d. start + d + f s) (depth-same_sizes tree f g s same) ∙ ap (λ z. start + depth tree g s + z) (same s low high)

start-same_sizes : (tree : Tree) (f g : ℕ → ℕ) (r : ℕ) → Agree (length tree) f g → region_start tree f r ≡ region_start tree g r
unfolding region_start
start-same_sizes tree f g zero same = refl
start-same_sizes tree f g (suc r) same =
    ap (λ a. max a (round8 (greatest (ends_from tree f a r)))) (start-same_sizes tree f g r same)
    ∙ ap (λ l. max (region_start tree g r) (round8 (greatest l))) (ends-same_sizes tree f g (region_start tree g r) r same)

pub origin-same_sizes : (tree : Tree) (f g : ℕ → ℕ) (s : ℕ) → Agree (length tree) f g → origin_by tree f s ≡ origin_by tree g s
unfolding origin_by
origin-same_sizes tree f g s same =
    ap (λ a. a + depth tree f s) (start-same_sizes tree f g (region_of tree s) same)
    ∙ ap (λ d. region_start tree g (region_of tree s) + d) (depth-same_sizes tree f g s same)
