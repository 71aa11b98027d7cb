-- Calls of a placement one after the other.
use Rattle.std.proofs.Common.{◌≡◌, refl, subst, IfErr, Result, Ok, Err}
use Rattle.le_io.specs.Counts.{Rose}
use Rattle.prog_fetch.specs.declared.fault.ScatterFault.{ScatterFault}
use Rattle.prog_fetch.specs.declared.fault.ScatterFault.TheVariants.{NotScatter, Record, NoStorage, ReadFault, Memory}
use Rattle.prog_fetch.specs.Scattering.{HasReason}
use Rattle.prog_fetch.specs.Sources.{Seen, NothingFailed}
use Rattle.prog_fetch.proofs.Calls.{none_failed_on}

-- the answer of a call that reads nothing
pub other_reason : {X : Type 0} (a b : Seen) (answer : Result X ScatterFault) → NothingFailed a b
    → IfErr answer (λ why. why ≡ ReadFault → ⊥) → HasReason a b answer
other_reason a b (Ok x) none other = none
other_reason a b (Err NotScatter) none other = none
other_reason a b (Err (Record number what)) none other = none
other_reason a b (Err (NoStorage name)) none other = none
other_reason a b (Err ReadFault) none other = absurd (other refl)
other_reason a b (Err Memory) none other = none

-- the answer of the last call
pub reason_on : {X : Type 0} (a b c : Seen) (answer : Result X ScatterFault) → NothingFailed a b → HasReason b c answer → HasReason a c answer
reason_on a b c (Ok x) first then = none_failed_on a b c first then
reason_on a b c (Err NotScatter) first then = none_failed_on a b c first then
reason_on a b c (Err (Record number what)) first then = none_failed_on a b c first then
reason_on a b c (Err (NoStorage name)) first then = none_failed_on a b c first then
reason_on a b c (Err ReadFault) first then = subst (λ n. Rose n c.faults) first.records then
reason_on a b c (Err Memory) first then = none_failed_on a b c first then

-- the answer of the call before it
pub same_reason : {X Y : Type 0} (a b : Seen) (x : Result X ScatterFault) (y : Result Y ScatterFault) (why : ScatterFault) → x ≡ Err why → y ≡ Err why
    → HasReason a b x → HasReason a b y
same_reason a b x y NotScatter x_is y_is reason = rw y_is (rw x_is at reason)
same_reason a b x y (Record number what) x_is y_is reason = rw y_is (rw x_is at reason)
same_reason a b x y (NoStorage name) x_is y_is reason = rw y_is (rw x_is at reason)
same_reason a b x y ReadFault x_is y_is reason = rw y_is (rw x_is at reason)
same_reason a b x y Memory x_is y_is reason = rw y_is (rw x_is at reason)
