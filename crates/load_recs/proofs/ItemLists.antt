-- Items of one size by their number.
use Rattle.std.proofs.Common.{◌≡◌, ℕ, ◌+◌, ◌-◌, ◌/◌, ◌<◌, suc, Bool, true, false, List, length, map, Some, refl, ap, ◌∙◌, arith}
use Rattle.std.specs.Prelude.{slice_get}
use Rattle.std.specs.List.{list_any, range_with_len}
use Rattle.std.proofs.lemmas.Option.{slice_get-get_or}
use Rattle.std.proofs.lemmas.List.FromFn.{length-map-range_with_len, get_or-map-range_with_len}
use Rattle.load_recs.specs.Items.{item_at, values_of}

-- the value of item k stands at k among all values
pub value_listed : {A : Type 0} (value : List ℕ → A) (n k : ℕ) (bytes : List ℕ) → k < length bytes / n
    → slice_get (values_of value n bytes) k ≡ Some (value (item_at n k bytes))
unfolding values_of
value_listed value n k bytes below =
    let count = length bytes / n in
    slice_get-get_or (map (λ j. value (item_at n j bytes)) (range_with_len 0 count)) k (value (item_at n k bytes)) (omega (arith, length-map-range_with_len (λ j. value (item_at n j bytes)) 0 count))
    ∙ ap Some (get_or-map-range_with_len (λ j. value (item_at n j bytes)) 0 count k k (value (item_at n k bytes)) below (omega arith))

-- an item that passes the test ends a search
pub any_found : (p : ℕ → Bool) (k n : ℕ) → k < n → p k ≡ true → list_any p (range_with_len k (n - k)) ≡ true
any_found p k n below passes =
    let e : n - k ≡ suc (n - (k + 1)) = omega arith in
    rw (e, passes) refl

-- one that does not leaves the rest
pub any_passed : (p : ℕ → Bool) (k n : ℕ) → k < n → p k ≡ false
    → list_any p (range_with_len k (n - k)) ≡ list_any p (range_with_len (k + 1) (n - (k + 1)))
any_passed p k n below fails =
    let e : n - k ≡ suc (n - (k + 1)) = omega arith in
    rw (e, fails) refl
