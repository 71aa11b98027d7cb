-- What a call of records that are told leaves and counts.
use Rattle.std.proofs.Common.{◌≡◌, ℕ, ◌-◌, ◌≤◌, List, [], length, Some, Result, Ok, Err, refl, sym, subst, arith}
use Rattle.std.specs.Prelude.{get_or}
use Rattle.std.proofs.lemmas.Option.{get_or_from_slice_get}
use Rattle.le_io.specs.declared.store.Failed.{Failed}
use Rattle.le_io.specs.Counts.{Counts, Rose, CountsCall}
use Rattle.lib_stream.specs.Sources.{IsRecord, SameRecords, HasCause, CountsFault, length_of}

-- the same records are told
pub same_told : (old new : List (List ℕ)) → new ≡ old → SameRecords (Some old) (Some new) (length old) (length new) (length_of old) (length_of new)
same_told old new same = subst (λ (rs : List (List ℕ)). SameRecords (Some old) (Some rs) (length old) (length rs) (length_of old) (length_of rs)) (sym same)
    (record { list = refl; total = refl; lengths = λ n. refl })

rose_by : (before now : ℕ) → CountsCall before now → Rose before now
rose_by before now counted = omega (arith, counted)

-- a fault that is counted is a cause, where the store is as it was
pub counted_cause : {X : Type 0} (before now : ℕ) (counts : Counts) (answer : Result X Failed) → CountsFault before now answer → HasCause before now counts counts answer
counted_cause before now counts (Ok x) same = (same, record { no_read_fault = λ p. refl; no_put_fault = λ p. refl })
counted_cause before now counts (Err e) counted = (counted.0, rose_by before now counted.1)

-- a record has its length
pub has_length : (records : List (List ℕ)) (n : ℕ) (bytes : List ℕ) → IsRecord records n bytes → length bytes ≤ length_of records n
has_length records n bytes is =
    let same : get_or records (n - 1) [] ≡ bytes = get_or_from_slice_get records (n - 1) bytes [] is in
    subst (λ (bs : List ℕ). length bytes ≤ length bs) (sym same) (omega arith)
