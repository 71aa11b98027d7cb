-- A shift modulo 2 to the power of 32, added to the number of a field, is the shift modulo the field's size.
use Rattle.std.proofs.Common.{arith, ◌≡◌, ℕ, zero, suc, ◌+◌, ◌-◌, ◌*◌, ◌/◌, ◌%◌, ◌^◌, ◌<◌, ◌≤◌, Bool, true, false, if◌then◌else◌, refl, sym, ◌∙◌, ap}
use Rattle.std.proofs.Math.Nat.{mod-add-mod, mod-lt, mod-add-div, add-mul-mod_self_left}
use Rattle.linking_model.specs.Linked.{difference, signed_difference}
use Rattle.fetch_storage.specs.Shifts.{shift_between}

pub first_remainder : (n k m : ℕ) → (n % m + k) % m ≡ (n + k) % m
first_remainder n k m = mod-add-mod n m k

-- a remainder of a multiple
mod_of_multiple : (x m c : ℕ) → x % (m * c) % m ≡ x % m
mod_of_multiple x m c =
    let q : ℕ = x / (m * c) in
    let whole : x % (m * c) + m * c * q ≡ x = mod-add-div x (m * c) in
    let parts : x ≡ x % (m * c) + m * (c * q) = grind (arith, whole) in
    sym (ap (λ n. n % m) parts ∙ add-mul-mod_self_left (x % (m * c)) m (c * q))

-- two numbers that differ by multiples of m
pub same_remainder : (x y m i j : ℕ) → x + m * i ≡ y + m * j → x % m ≡ y % m
same_remainder x y m i j same =
    sym (add-mul-mod_self_left x m i) ∙ (ap (λ n. n % m) same ∙ add-mul-mod_self_left y m j)

add_remainder : (n x y m : ℕ) → x % m ≡ y % m → (n + x) % m ≡ (n + y) % m
add_remainder n x y m same =
    ap (λ k. k % m) (turned n x) ∙ (sym (mod-add-mod x m n) ∙ (ap (λ k. (k + n) % m) same ∙ (mod-add-mod y m n ∙ ap (λ k. k % m) (turned y n))))
  where
    turned : (a b : ℕ) → a + b ≡ b + a
    turned a b = omega arith

-- from a to b, modulo w, is from a to b modulo m, which divides w
plus_same : (to from m c : ℕ) → 0 < m → 0 < c → difference (m * c) to from % (m * c) % m ≡ difference m to from % m
plus_same to from m c some_m some_c =
    let w : ℕ = m * c in
    let r : ℕ = from % w in
    let t : ℕ = r / m in
    let some_w : 0 < w = grind (arith, some_m, some_c) in
    let below : r < w = mod-lt from some_w in
    let low : r % m ≡ from % m = mod_of_multiple from m c in
    let parts : r % m + m * t ≡ r = mod-add-div r m in
    let small : from % m < m = mod-lt from some_m in
    mod_of_multiple (difference w to from) m c
    ∙ same_remainder (difference w to from) (difference m to from) m (t + 1) c (balanced to r (from % m) m c t below small (sym parts ∙ ap (λ k. k + m * t) low))
  where
    balanced : (to r s m c t : ℕ) → r < m * c → s < m → r ≡ s + m * t → to + (m * c - r) + m * (t + 1) ≡ to + (m - s) + m * c
    balanced to r s m c t below small is =
        let w : ℕ = m * c in
        let spread : m * (t + 1) ≡ m * t + m = grind arith in
        rw spread (omega (arith, below, small, is))

times : (m c w k : ℕ) → w ≡ m * c → m * (c * k) ≡ w * k
times m c w k is = rw is (grind arith)

-- and back
minus_same : (to from m c : ℕ) → 0 < m → 0 < c → (m * c - difference (m * c) to from % (m * c)) % m ≡ difference m from to % m
minus_same to from m c some_m some_c =
    let w : ℕ = m * c in
    let D : ℕ = difference w to from in
    let s : ℕ = D % w in
    let some_w : 0 < w = grind (arith, some_m, some_c) in
    let below : s < w = mod-lt D some_w in
    let turned : (w - s + to) % m ≡ from % m = same_remainder (w - s + to) from m (c * (from / w)) (c * (D / w)) (balanced to from w s (D / w) (from / w) (from % w) m c refl below (mod-lt from some_w) (mod-add-div D w) (mod-add-div from w)) in
    let small : to % m < m = mod-lt to some_m in
    let back : (w - s) % m ≡ (w - s + to + (m - to % m)) % m =
    same_remainder (w - s) (w - s + to + (m - to % m)) m (to / m + 1) 0 (over (w - s) to (to % m) m (to / m) small (sym (mod-add-div to m))) in
    back ∙ shifted (w - s + to) from (m - to % m) m turned
  where
    balanced : (to from w s j k r m c : ℕ) → w ≡ m * c → s < w → r < w → s + w * j ≡ to + (w - r) → r + w * k ≡ from
        → w - s + to + m * (c * k) ≡ from + m * (c * j)
    balanced to from w s j k r m c is below low sum whole =
        rw (times m c w k is, times m c w j is) (omega (arith, below, low, sum, whole))

    over : (x to s m q : ℕ) → s < m → to ≡ s + m * q → x + m * (q + 1) ≡ x + to + (m - s) + m * 0
    over x to s m q small is =
        let spread : m * (q + 1) ≡ m * q + m = grind arith in
        let none : m * 0 ≡ 0 = grind arith in
        rw (spread, none) (omega (arith, small, is))

    shifted : (x y z m : ℕ) → x % m ≡ y % m → (x + z) % m ≡ (y + z) % m
    shifted x y z m same = sym (mod-add-mod x m z) ∙ (ap (λ k. (k + z) % m) same ∙ mod-add-mod y m z)

-- ---- fields of one to four bytes

size_divides : (n : ℕ) → 1 ≤ n → n ≤ 4 → 256 ^ n * 256 ^ (4 - n) ≡ 2 ^ 32
size_divides zero some most = absurd (omega (arith, some))
size_divides (suc zero) some most = refl
size_divides (suc (suc zero)) some most = refl
size_divides (suc (suc (suc zero))) some most = refl
size_divides (suc (suc (suc (suc zero)))) some most = refl
size_divides (suc (suc (suc (suc (suc n))))) some most = absurd (omega (arith, most))

power_some : (n : ℕ) → 0 < 256 ^ n
power_some zero = omega arith
power_some (suc n) = let rest = power_some n in grind arith

-- what the shift of a symbol, or minus that, adds to a field of n bytes
pub added_same : (number to from n : ℕ) (minus : Bool) → 1 ≤ n → n ≤ 4
    → (number + (if minus then 2 ^ 32 - shift_between to from else shift_between to from)) % 256 ^ n
    ≡ (number + signed_difference (256 ^ n) minus to from) % 256 ^ n
added_same number to from n false some most =
    add_remainder number (shift_between to from) (difference (256 ^ n) to from) (256 ^ n)
    (ap (λ w. difference w to from % w % 256 ^ n) (sym (size_divides n some most)) ∙ plus_same to from (256 ^ n) (256 ^ (4 - n)) (power_some n) (power_some (4 - n)))
added_same number to from n true some most =
    add_remainder number (2 ^ 32 - shift_between to from) (difference (256 ^ n) from to) (256 ^ n)
    (ap (λ w. (w - difference w to from % w) % 256 ^ n) (sym (size_divides n some most)) ∙ minus_same to from (256 ^ n) (256 ^ (4 - n)) (power_some n) (power_some (4 - n)))
