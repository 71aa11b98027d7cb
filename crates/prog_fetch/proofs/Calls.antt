-- Calls one after the other: what one leaves, the next takes up.
use Rattle.std.proofs.Common.{arith, ◌≡◌, ℕ, List, IfErr, refl, sym, ◌∙◌, subst, Option, Result, Ok, Err}
use Rattle.le_io.specs.Counts.{Counts, NoneFalls, Rose}
use Rattle.prog_fetch.specs.declared.fault.FetchFault.{FetchFault}
use Rattle.prog_fetch.specs.declared.fault.FetchFault.TheVariants.{At, ReadFault, Memory}
use Rattle.pds_directory.specs.declared.entry.Entry.{Entry}
use Rattle.member_walk.specs.Walked.{Walked}
use Rattle.prog_fetch.specs.Reading.{ShowsFault}
use Rattle.prog_fetch.specs.Sources.{Seen, Stays, NothingFailed, HasReason}

stand : (a b c : Counts) → NoneFalls a b → NoneFalls b c → NoneFalls a c
stand a b c first then = record {
  faults_stand = λ path. omega (arith, first.faults_stand path, then.faults_stand path);
  put_faults_stand = λ path. omega (arith, first.put_faults_stand path, then.put_faults_stand path);
  misses_stand = λ path. omega (arith, first.misses_stand path, then.misses_stand path);
  longs_stand = λ path. omega (arith, first.longs_stand path, then.longs_stand path);
}

pub stays_none : (a : Seen) → Stays a a
stays_none a = record {
  records = record { list = refl; total = refl; lengths = λ n. refl };
  held = record { keeps = refl; held = λ m. refl };
  files = refl;
  counts = record {
    faults_stand = λ path. omega arith;
    put_faults_stand = λ path. omega arith;
    misses_stand = λ path. omega arith;
    longs_stand = λ path. omega arith;
  };
}

pub stays_on : (a b c : Seen) → Stays a b → Stays b c → Stays a c
stays_on a b c first then = record {
  records = record {
    list = then.records.list ∙ first.records.list;
    total = then.records.total ∙ first.records.total;
    lengths = λ n. then.records.lengths n ∙ first.records.lengths n;
  };
  held = record { keeps = then.held.keeps ∙ first.held.keeps; held = λ m. then.held.held m ∙ first.held.held m };
  files = then.files ∙ first.files;
  counts = stand a.counts b.counts c.counts first.counts then.counts;
}

pub none_failed : (a : Seen) → NothingFailed a a
none_failed a = record { records = refl; store = record { no_read_fault = λ path. refl; no_put_fault = λ path. refl } }

pub none_failed_on : (a b c : Seen) → NothingFailed a b → NothingFailed b c → NothingFailed a c
none_failed_on a b c first then = record {
  records = then.records ∙ first.records;
  store = record {
    no_read_fault = λ path. then.store.no_read_fault path ∙ first.store.no_read_fault path;
    no_put_fault = λ path. then.store.no_put_fault path ∙ first.store.no_put_fault path;
  };
}

pub reason_on : {X : Type 0} (a b c : Seen) (answer : Result X FetchFault) → NothingFailed a b → HasReason b c answer → HasReason a c answer
reason_on a b c (Ok x) first then = none_failed_on a b c first then
reason_on a b c (Err (At number what)) first then = none_failed_on a b c first then
reason_on a b c (Err ReadFault) first then = subst (λ n. Rose n c.faults) first.records then
reason_on a b c (Err Memory) first then = none_failed_on a b c first then

-- what is said of the records after a call is said of those before it
pub as_before : (P : Option (List (List ℕ)) → ℕ → Type 0) (a b : Seen) → Stays a b → P b.list b.total → P a.list a.total
as_before P a b stays after = subst (λ n. P a.list n) stays.records.total (subst (λ l. P l b.total) stays.records.list after)

pub as_after : (P : Option (List (List ℕ)) → ℕ → Type 0) (a b : Seen) → Stays a b → P a.list a.total → P b.list b.total
as_after P a b stays before = subst (λ n. P b.list n) (sym stays.records.total) (subst (λ l. P l a.total) (sym stays.records.list) before)

-- the answer of a call that reads nothing
pub shown_reason : {X : Type 0} (a b : Seen) (e : Entry) (w : Walked) (bytes : List ℕ) (answer : Result X FetchFault) → NothingFailed a b
    → IfErr answer (ShowsFault e w bytes) → HasReason a b answer
shown_reason a b e w bytes (Ok x) none shows = none
shown_reason a b e w bytes (Err (At number what)) none shows = none
shown_reason a b e w bytes (Err ReadFault) none shows = absurd shows
shown_reason a b e w bytes (Err Memory) none shows = none

pub other_reason : {X : Type 0} (a b : Seen) (answer : Result X FetchFault) → NothingFailed a b
    → IfErr answer (λ why. why ≡ ReadFault → ⊥) → HasReason a b answer
other_reason a b (Ok x) none other = none
other_reason a b (Err (At number what)) none other = none
other_reason a b (Err ReadFault) none other = absurd (other refl)
other_reason a b (Err Memory) none other = none

-- the answer of the call before it
pub same_reason : {X Y : Type 0} (a b : Seen) (x : Result X FetchFault) (y : Result Y FetchFault) (why : FetchFault) → x ≡ Err why → y ≡ Err why
    → HasReason a b x → HasReason a b y
same_reason a b x y (At number what) x_is y_is reason = rw y_is (rw x_is at reason)
same_reason a b x y ReadFault x_is y_is reason = rw y_is (rw x_is at reason)
same_reason a b x y Memory x_is y_is reason = rw y_is (rw x_is at reason)
