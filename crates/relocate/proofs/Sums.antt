-- A sum modulo m, one term after the other.
use Rattle.std.proofs.Common.{◌≡◌, ℕ, ◌+◌, ◌%◌, ◌<◌, List, length, take, sum_by, get_or, sym, ◌∙◌, ap, add_assoc}
use Rattle.std.proofs.Math.Nat.{mod-add-mod}
use Rattle.std.proofs.lemmas.List.Sums.{sum_by_more}

pub one_more : {X : Type 0} (f : X → ℕ) (xs : List X) (i : ℕ) (d : X) (m stored number : ℕ)
    → i < length xs
    → number ≡ (stored + sum_by f (take i xs)) % m
    → (number + f (get_or xs i d)) % m ≡ (stored + sum_by f (take (i + 1) xs)) % m
one_more f xs i d m stored number within so =
    rw so
    (mod-add-mod (stored + sum_by f (take i xs)) m (f (get_or xs i d))
    ∙ ap (λ n. n % m)
    (add_assoc stored (sum_by f (take i xs)) (f (get_or xs i d))
    ∙ ap (λ n. stored + n) (sym (sum_by_more f xs i d within))))
