-- Numbers that move, modulo m, and as they stand in bytes.
use Rattle.std.proofs.Common.{arith, ◌≡◌, ℕ, zero, suc, ◌+◌, ◌-◌, ◌*◌, ◌/◌, ◌%◌, ◌^◌, ◌<◌, ◌≤◌, Bool, true, false, List, [], ◌∷◌, map, slice_index, sum_by, refl, sym, ◌∙◌, ap, add_assoc, add_comm, add-zero, append-nil, mod-lt, mod-eq_of_lt}
use Rattle.std.specs.List.{AllByRecursion as Each, range_with_len}
use Rattle.std.proofs.Math.Nat.{mod-add-mod, add-mul-mod_self_left, mod-add-div, one-le-pow}
use Rattle.std.proofs.lemmas.List.Sums.{sum_by-cons}
use Rattle.std.proofs.lemmas.List.FromFn.{get_or-map-range_with_len}
use Rattle.byteorder.specs.Endian.{big_number, big_bytes, big_from}
use Rattle.byteorder.specs.Numbers.{big_from-bytes}
use Rattle.linking_model.specs.Linked.{signed_difference}

-- ---- modulo m

-- what is added and taken off again counts for nothing
pub cancel : (m z x : ℕ) → 0 < m → (x + (z + (m - z % m))) % m ≡ x % m
cancel m z x some =
    let rest : z % m < m = mod-lt z some in
    let whole : z % m + m * (z / m) ≡ z = mod-add-div z m in
    ap (λ n. n % m) (turned x z (z % m) (m * (z / m)) m whole rest ∙ ap (λ n. x + n) (one_more m (z / m)))
    ∙ add-mul-mod_self_left x m (z / m + 1)
  where
    turned : (x z r p m : ℕ) → r + p ≡ z → r < m → x + (z + (m - r)) ≡ x + (p + m)
    turned x z r p m whole rest = omega arith

    one_more : (m k : ℕ) → m * k + m ≡ m * (k + 1)
    one_more m k = omega arith

mod_left : (a b c m : ℕ) → a % m ≡ b % m → (a + c) % m ≡ (b + c) % m
mod_left a b c m same = sym (mod-add-mod a m c) ∙ (ap (λ n. (n + c) % m) same ∙ mod-add-mod b m c)

mod_cancel : (a b c m : ℕ) → 0 < m → (a + c) % m ≡ (b + c) % m → a % m ≡ b % m
mod_cancel a b c m some same =
    sym (cancel m c a some)
    ∙ (ap (λ n. n % m) (sym (add_assoc a c (m - c % m)))
    ∙ (mod_left (a + c) (b + c) (m - c % m) m same
    ∙ (ap (λ n. n % m) (add_assoc b c (m - c % m)) ∙ cancel m c b some)))

-- a term whose target moves with its section from z on to q on, with an assembled address b
pub moved_term : (m : ℕ) (minus : Bool) (z o q b : ℕ) → 0 < m
    → (signed_difference m minus (z + o) b + signed_difference m minus q z) % m ≡ signed_difference m minus (q + o) b % m
moved_term m false z o q b some =
    ap (λ n. n % m) (turned z o (m - b % m) q (m - z % m)) ∙ cancel m z ((q + o) + (m - b % m)) some
  where
    turned : (z o u q w : ℕ) → ((z + o) + u) + (q + w) ≡ ((q + o) + u) + (z + w)
    turned z o u q w = omega arith
moved_term m true z o q b some =
    mod_cancel ((b + (m - (z + o) % m)) + (z + (m - q % m))) (b + (m - (q + o) % m)) (q + o) m some
    (ap (λ n. n % m) (turned b (m - (z + o) % m) z (m - q % m) q o)
    ∙ (cancel m q (b + ((z + o) + (m - (z + o) % m))) some
    ∙ (cancel m (z + o) b some
    ∙ (sym (cancel m (q + o) b some) ∙ ap (λ n. n % m) (regroup b (q + o) (m - (q + o) % m))))))
  where
    turned : (b u z w q o : ℕ) → ((b + u) + (z + w)) + (q + o) ≡ (b + ((z + o) + u)) + (q + w)
    turned b u z w q o = omega arith

    regroup : (b c u : ℕ) → b + (c + u) ≡ (b + u) + c
    regroup b c u = omega arith

-- an address that is a at first and b in the end moves as far as z moves to q
pub moved_address : (m a z q b : ℕ) → 0 < m → a + q ≡ b + z → (a % m + (q + (m - z % m))) % m ≡ b % m
moved_address m a z q b some same =
    mod-add-mod a m (q + (m - z % m)) ∙ (ap (λ n. n % m) (regroup a q (m - z % m) b z same) ∙ cancel m z b some)
  where
    regroup : (a q w b z : ℕ) → a + q ≡ b + z → a + (q + w) ≡ b + (z + w)
    regroup a q w b z same = omega arith

-- a sum moves as its parts do
pub moved_sum : {X : Type 0} (m k : ℕ) (f s g : X → ℕ) (xs : List X) → Each (λ x. (f x + s x) % m ≡ g x % m) xs
    → (k + sum_by f xs + sum_by s xs) % m ≡ (k + sum_by g xs) % m
moved_sum m k f s g [] same = ap (λ n. n % m) (add-zero (k + 0))
moved_sum m k f s g (x ∷ xs) same =
    let first : sum_by f (x ∷ xs) ≡ f x + sum_by f xs = sum_by-cons f x xs in
    let second : sum_by s (x ∷ xs) ≡ s x + sum_by s xs = sum_by-cons s x xs in
    ap (λ n. n % m) (ap (λ n. k + n + sum_by s (x ∷ xs)) first ∙ ap (λ n. k + (f x + sum_by f xs) + n) second)
    ∙ (ap (λ n. n % m) (regroup k (f x) (sum_by f xs) (s x) (sum_by s xs))
    ∙ (mod_left (f x + s x) (g x) (k + sum_by f xs + sum_by s xs) m same.0
    ∙ (ap (λ n. n % m) (add_comm (g x) (k + sum_by f xs + sum_by s xs))
    ∙ (mod_left (k + sum_by f xs + sum_by s xs) (k + sum_by g xs) (g x) m (moved_sum m k f s g xs same.1)
    ∙ ap (λ n. n % m) (turned k (sum_by g xs) (g x) ∙ ap (λ n. k + n) (sym (sum_by-cons g x xs)))))))
  where
    regroup : (k a b c d : ℕ) → (k + (a + b)) + (c + d) ≡ (a + c) + ((k + b) + d)
    regroup k a b c d = omega arith

    turned : (k b a : ℕ) → (k + b) + a ≡ k + (a + b)
    turned k b a = omega arith

-- ---- in bytes

pub power_some : (n : ℕ) → 0 < 256 ^ n
power_some n = one-le-pow n 256 (omega arith)

big_from_same : (i n : ℕ) (xs ys : List ℕ) → ((j : ℕ) → i ≤ j → j < i + n → slice_index xs j ≡ slice_index ys j)
    → big_from i n xs ≡ big_from i n ys
big_from_same i zero xs ys same = refl
big_from_same i (suc n) xs ys same =
    rw (same i (omega arith) (omega arith), big_from_same (suc i) n xs ys (λ j low high. same j (omega (arith, low)) (omega (arith, high)))) refl

number_of_bytes : (n x : ℕ) → big_number n (big_bytes n x) ≡ x % 256 ^ n
number_of_bytes n x = ap (big_number n) (sym (append-nil (big_bytes n x))) ∙ big_from-bytes n x []

-- the number whose bytes stand in storage from an address on
pub held_number : (M : ℕ → ℕ) (at n x : ℕ) → x < 256 ^ n → ((j : ℕ) → j < n → M (at + j) ≡ slice_index (big_bytes n x) j)
    → big_number n (map M (range_with_len at n)) ≡ x
held_number M at n x small held =
    big_from_same 0 n (map M (range_with_len at n)) (big_bytes n x)
    (λ j low high.
    let below : j < n = omega (arith, high) in
    get_or-map-range_with_len M at n j (at + j) 0 below refl ∙ held j below)
    ∙ (number_of_bytes n x ∙ mod-eq_of_lt small)

-- four bytes of a number are those of what is left modulo their number
pub four_bytes : (x : ℕ) → big_bytes 4 (x % 256 ^ 4) ≡ big_bytes 4 x
four_bytes x = joined _ _ _ _ _ _ _ _ (omega arith) (omega arith) (omega arith) (omega arith)
  where
    joined : (a b c d e f g h : ℕ) → a ≡ e → b ≡ f → c ≡ g → d ≡ h → a ∷ b ∷ c ∷ d ∷ [] ≡ e ∷ f ∷ g ∷ h ∷ []
    joined a b c d e f g h p q r s = cc
