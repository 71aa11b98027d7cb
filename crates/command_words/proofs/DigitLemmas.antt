-- How large a number of a few digits is.
use Rattle.std.proofs.Common.{ℕ, ◌≡◌, ◌+◌, ◌*◌, ◌^◌, ◌<◌, ◌≤◌, arith, add-one, lit<}
use Rattle.std.proofs.Math.Nat.{mul-le-mul_left, mul-le-mul_right, pow-le-pow_right, pow-suc}

-- at most five digits have a value below 16 ^ 5
pub value_small : (v i : ℕ) → v < 16 ^ i → i < 6 → v < 1048576
value_small v i below few =
    let most : 16 ^ i ≤ 16 ^ 5 = pow-le-pow_right (lit< tt) {i = i} {j = 5} (omega arith) in omega arith

-- one more digit fits 32 bits
pub more_fits : (v b d i : ℕ) → v < 16 ^ i → i < 6 → b ≤ 16 → d < b → v * b + d < 4294967296
more_fits v b d i below few base digit =
    let small : v < 1048576 = value_small v i below few in
    let times : v * b ≤ v * 16 = mul-le-mul_left v base in omega arith

pub product_fits : (v b i : ℕ) → v < 16 ^ i → i < 6 → b ≤ 16 → v * b < 4294967296
product_fits v b i below few base =
    let small : v < 1048576 = value_small v i below few in
    let times : v * b ≤ v * 16 = mul-le-mul_left v base in omega arith

-- one more digit keeps the value below the next power
pub more_below : (v b d i : ℕ) → v < 16 ^ i → b ≤ 16 → d < b → v * b + d < 16 ^ (i + 1)
more_below v b d i below base digit =
    let times : v * b ≤ v * 16 = mul-le-mul_left v base in
    let power : (v + 1) * 16 ≤ 16 ^ i * 16 = mul-le-mul_right 16 (omega arith) in
    let step : 16 ^ (i + 1) ≡ 16 ^ i * 16 = rw add-one (pow-suc 16 i) in omega arith
