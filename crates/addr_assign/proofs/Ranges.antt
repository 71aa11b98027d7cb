-- Lists made from a function of the number of a segment.
use Rattle.std.proofs.Common.{◌≡◌, ◌≢◌, ℕ, zero, suc, ◌+◌, ◌<◌, ◌≤◌, max, List, [], ◌∷◌, ◌++◌, map, get_or, set, All, refl, sym, ap, ◌∙◌, arith, inl, inr, length-set, get_or-set_same, get_or-set_other, ext_get_or}
use Rattle.std.specs.List.{range_with_len}
use Rattle.std.proofs.lemmas.Bool.Decides.{eqb_tells}
use Rattle.std.proofs.lemmas.List.FromFn.{length-map-range_with_len, get_or-map-range_with_len, map-range_with_len_more}
use Rattle.linking_model.specs.Numbers.{greatest}
use Rattle.linking_model.proofs.Trees.{greatest-cons}

-- one element of the list becomes another
pub set_range : (f g : ℕ → ℕ) (a n j v : ℕ) → j < n → g (a + j) ≡ v → ((s : ℕ) → s ≢ a + j → g s ≡ f s) → set (map f (range_with_len a n)) j v ≡ map g (range_with_len a n)
set_range f g a n j v low is other =
    ext_get_or 0 (set (map f (range_with_len a n)) j v) (map g (range_with_len a n))
    (length-set (map f (range_with_len a n)) j v ∙ (length-map-range_with_len f a n ∙ sym (length-map-range_with_len g a n)))
    (λ k inside. at k (omega (arith, length-set (map f (range_with_len a n)) j v, length-map-range_with_len f a n)))
  where
    at : (k : ℕ) → k < n → get_or (set (map f (range_with_len a n)) j v) k 0 ≡ get_or (map g (range_with_len a n)) k 0
    at k inside =
        elim (eqb_tells k j) as (λ _. get_or (set (map f (range_with_len a n)) j v) k 0 ≡ get_or (map g (range_with_len a n)) k 0) [
          | inl w ↦
              ap (λ i. get_or (set (map f (range_with_len a n)) j v) i 0) w.1
              ∙ (get_or-set_same (map f (range_with_len a n)) j v 0 (omega (arith, low, length-map-range_with_len f a n))
              ∙ (sym is ∙ sym (get_or-map-range_with_len g a n k (a + j) 0 inside (omega (arith, w.1)))))
          | inr w ↦
              get_or-set_other (map f (range_with_len a n)) j k v 0 w.1
              ∙ (get_or-map-range_with_len f a n k (a + k) 0 inside refl
              ∙ (sym (other (a + k) (λ e. w.1 (omega (arith, e)))) ∙ sym (get_or-map-range_with_len g a n k (a + k) 0 inside refl)))
        ]

-- the same function on the numbers of the range
pub same_range : (f g : ℕ → ℕ) (a n : ℕ) → ((s : ℕ) → a ≤ s → s < a + n → f s ≡ g s) → map f (range_with_len a n) ≡ map g (range_with_len a n)
same_range f g a zero same = refl
same_range f g a (suc n) same =
    ap (λ v. v ∷ map f (range_with_len (a + 1) n)) (same a (omega arith) (omega arith))
    ∙ ap (λ l. g a ∷ l) (same_range f g (a + 1) n (λ s low high. same s (omega (arith, low)) (omega (arith, high))))

-- a bound of the function is a bound of the list
pub all_range : (f : ℕ → ℕ) (m a n : ℕ) → ((s : ℕ) → a ≤ s → s < a + n → f s ≤ m) → All (λ k. k ≤ m) (map f (range_with_len a n))
all_range f m a n bound = λ i d inside. at i d (omega (arith, inside, length-map-range_with_len f a n))
  where
    at : (i d : ℕ) → i < n → get_or (map f (range_with_len a n)) i d ≤ m
    at i d inside = rw (get_or-map-range_with_len f a n i (a + i) d inside refl) (bound (a + i) (omega arith) (omega (arith, inside)))

-- each element is within the greatest
pub greatest_range : (f : ℕ → ℕ) (a n s : ℕ) → a ≤ s → s < a + n → f s ≤ greatest (map f (range_with_len a n))
greatest_range f a zero s low high = let no : ⊥ = omega (arith, low, high) in absurd no
greatest_range f a (suc n) s low high =
    elim (eqb_tells s a) as (λ _. f s ≤ greatest (f a ∷ map f (range_with_len (a + 1) n))) [
      | inl w ↦ rw (greatest-cons (f a) (map f (range_with_len (a + 1) n)), w.1) (within (f a) (greatest (map f (range_with_len (a + 1) n))))
      | inr w ↦
          let rest : f s ≤ greatest (map f (range_with_len (a + 1) n)) = greatest_range f (a + 1) n s (omega (arith, low, w.1)) (omega (arith, high)) in
          rw (greatest-cons (f a) (map f (range_with_len (a + 1) n))) (later (f s) (f a) (greatest (map f (range_with_len (a + 1) n))) rest)
    ]
  where
    within : (x y : ℕ) → x ≤ max x y
    within x y = omega arith

    later : (z x y : ℕ) → z ≤ y → z ≤ max x y
    later z x y h = omega arith

-- one element more
pub push_range : (f : ℕ → ℕ) (a i v : ℕ) (xs : List ℕ) → xs ≡ map f (range_with_len a i) → v ≡ f (a + i) → xs ++ v ∷ [] ≡ map f (range_with_len a (i + 1))
push_range f a i v xs was is = ap (λ l. l ++ v ∷ []) was ∙ (ap (λ k. map f (range_with_len a i) ++ k ∷ []) is ∙ sym (map-range_with_len_more f a i (a + i) refl))

pub read_range : (f : ℕ → ℕ) (a n i s d : ℕ) (xs : List ℕ) → xs ≡ map f (range_with_len a n) → i < n → a + i ≡ s → get_or xs i d ≡ f s
read_range f a n i s d xs are inside at = ap (λ l. get_or l i d) are ∙ get_or-map-range_with_len f a n i s d inside at
