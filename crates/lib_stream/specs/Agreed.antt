-- What holds of any list and any count.
use Rattle.std.proofs.Common.{◌≡◌, ℕ, ◌≤◌, List, length, Some, refl, subst, arith}
use Rattle.lib_stream.specs.Sources.{length_of, AreRecords}

-- a list agrees with its own number of records and their own lengths
pub own_records : (records told : List (List ℕ)) → Some records ≡ Some told → AreRecords told (length records) (length_of records)
own_records records told same =
    let is : records ≡ told = cc in
    subst (λ (rs : List (List ℕ)). AreRecords rs (length records) (length_of records)) is (record { counted = refl; measured = λ n within. refl })

-- a count that stays does not fall
pub no_fewer : (n : ℕ) → n ≤ n
no_fewer n = omega arith
