-- A list of the values of numbers that is changed at one place.
use Rattle.std.proofs.Common.{◌≡◌, ◌≢◌, ℕ, zero, suc, ◌+◌, ◌<◌, ◌∷◌, map, set, refl, ap, ◌∙◌, sym, arith}
use Rattle.std.specs.List.{range_with_len}

same_range : {A : Type 0} (f g : ℕ → A) (out a n : ℕ) → out < a → ((s : ℕ) → s ≢ out → g s ≡ f s)
    → map f (range_with_len a n) ≡ map g (range_with_len a n)
same_range f g out a zero above same = refl
same_range f g out a (suc n) above same =
    let here : g a ≡ f a = same a (omega arith) in
    rw here (ap (λ vs. f a ∷ vs) (same_range f g out (a + 1) n (omega arith) same))

-- one number's value is set in a list of the values of numbers
pub set_range : {A : Type 0} (f g : ℕ → A) (a n j : ℕ) (v : A) → j < n → g (a + j) ≡ v → ((s : ℕ) → s ≢ a + j → g s ≡ f s)
    → set (map f (range_with_len a n)) j v ≡ map g (range_with_len a n)
set_range f g a zero j v below here others = absurd (omega arith)
set_range f g a (suc n) zero v below here others =
    let at : a + 0 ≡ a = omega arith in
    let first : g a ≡ v = ap g (sym at) ∙ here in
    rw first (ap (λ vs. v ∷ vs) (same_range f g a (a + 1) n (omega arith) (λ s apart. others s (λ e. apart (e ∙ at)))))
set_range f g a (suc n) (suc j) v below here others =
    let at : a + suc j ≡ a + 1 + j = omega arith in
    let first : g a ≡ f a = others a (λ e. absurd (omega arith)) in
    rw first (ap (λ vs. f a ∷ vs) (set_range f g (a + 1) n j v (omega arith) (ap g (sym at) ∙ here) (λ s apart. others s (λ e. apart (e ∙ at)))))
