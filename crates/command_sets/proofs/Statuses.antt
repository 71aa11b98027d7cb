-- What the causes of steps say of the whole.
use Rattle.std.proofs.Common.{arith, ◌≡◌, ℕ, ◌≤◌, List, Option, Some, None, Result, Ok, Err, inl, inr, refl, sym, ◌∙◌, subst}
use Rattle.std.specs.Prelude.{IsSomeAnd}
use Rattle.le_bytes.specs.declared.name.Name.{Name}
use Rattle.le_bytes.specs.declared.refusal.Refusal.{Refusal}
use Rattle.le_bytes.specs.declared.refusal.Refusal.TheVariants.{SetAbsent, TooLong}
use Rattle.command_words.specs.Keys.{syslmod}
use Rattle.le_io.specs.Counts.{Files, Counts, Rose, NoneFalls, NoFault, PutFaultsRose}
use Rattle.le_io.specs.Reads.{OthersStay, PutsTold, PutHasCause as PutCause}
use Rattle.le_io.specs.declared.store.Failed.{Failed}
use Rattle.command_sets.specs.declared.answer.Answer.{Answer}
use Rattle.command_sets.specs.declared.answer.Put.{Put}
use Rattle.command_sets.specs.declared.status.Status.{Status}
use Rattle.command_sets.specs.declared.status.Status.TheVariants as status
use Rattle.command_sets.specs.declared.status.Fault.TheVariants as fault
use Rattle.command_sets.specs.declared.stop.Stop.{Stop}
use Rattle.command_sets.specs.declared.stop.Stop.TheVariants.{Read, Memory}
use Rattle.command_words.specs.Meaning.{path_of}
use Rattle.command_sets.specs.Causes.{AtPath, Completes, HasStatus, Holds, KeepsQuiet, FilesAfter, StoreHasCause, SinkHasCause, RefusalHasCause, IsFinal, IsOwn, IsOwnRefusal, PrintedStatus}
use Rattle.command_sets.specs.Reading.{SetsHaveCause}
use Rattle.command_sets.specs.Ending.{EndHasCause, EndsAs, IsOfGoodWords, PutHasCause, PutTold, RefusesAs}

-- what holds of something that is there goes over into what follows from it
pub some_so : {A : Type 0} {P Q : A → Type 0} (o : Option A) → IsSomeAnd o P → ((x : A) → P x → Q x) → IsSomeAnd o Q
some_so None there so = absurd there
some_so (Some x) there so = so x there

none_so : {A : Type 0} {P : A → Type 0} (o : Option A) → IsSomeAnd o P → ((x : A) → P x → ⊥) → ⊥
none_so None there no_one = there
none_so (Some x) there no_one = no_one x there

-- ---- counts

pub no_fault : (a b c : Counts) → NoFault a b → NoFault b c → NoFault a c
no_fault a b c first second = record {
  no_read_fault = λ path. second.no_read_fault path ∙ first.no_read_fault path;
  no_put_fault = λ path. second.no_put_fault path ∙ first.no_put_fault path;
}

pub none_falls : (a b c : Counts) → NoneFalls a b → NoneFalls b c → NoneFalls a c
none_falls a b c first second = record {
  faults_stand = λ path. omega (arith, first.faults_stand path, second.faults_stand path);
  put_faults_stand = λ path. omega (arith, first.put_faults_stand path, second.put_faults_stand path);
  misses_stand = λ path. omega (arith, first.misses_stand path, second.misses_stand path);
  longs_stand = λ path. omega (arith, first.longs_stand path, second.longs_stand path);
}

rose_later : (a b c : ℕ) → Rose a b → b ≤ c → Rose a c
rose_later a b c rose stands = omega (arith, rose, stands)

rose_before : (a b c : ℕ) → a ≤ b → Rose b c → Rose a c
rose_before a b c stands rose = omega (arith, stands, rose)

-- ---- a status by itself

pub own_cause : (old new : Counts) (words : List (List ℕ)) (s : Status) → NoFault old new → IsOwn s → StoreHasCause old new words s
own_cause old new words (status.Refused r) none own = (none, refusal r own)
  where
    refusal : (x : Refusal) → IsOwnRefusal x → RefusalHasCause old new words x
    refusal (SetAbsent dd) own_x = absurd own_x
    refusal (TooLong dd) own_x = absurd own_x
    refusal _ own_x = tt
own_cause old new words (status.Fault f) none own = absurd own
own_cause old new words status.Memory none own = absurd own
own_cause old new words _ none own = none

pub own_final : (s : Status) → IsOwn s → IsFinal s
own_final (status.Fault f) own = absurd own
own_final status.Memory own = absurd own
own_final _ own = tt

pub own_good : (s : Status) → IsOwn s → IsOfGoodWords s
own_good (status.BadWords word what) own = own
own_good _ own = tt

-- an answer carried out calls no word bad that it did not
pub good_end : (answered result : Status) → IsOfGoodWords answered → EndsAs answered result → IsOfGoodWords result
good_end answered result good (inl (inl same)) = subst IsOfGoodWords (sym same) good
good_end answered result good (inl (inr printing)) = subst IsOfGoodWords (sym printing) tt
good_end answered result good (inr putting) = subst IsOfGoodWords (sym putting) tt

final_quiet : (before after : Option (List ℕ)) (s : Status) → IsFinal s → KeepsQuiet before after s
final_quiet before after (status.Fault f) final = absurd final
final_quiet before after status.Memory final = absurd final
final_quiet before after _ final = tt

-- once the text was handed to the sink nothing has to be as it was
pub printed_quiet : (before after : Option (List ℕ)) (answered result : Status) → IsFinal answered → PrintedStatus answered result → KeepsQuiet before after result
printed_quiet before after answered result final (inl same) = subst (KeepsQuiet before after) (sym same) (final_quiet before after answered final)
printed_quiet before after answered result final (inr printing) = subst (KeepsQuiet before after) (sym printing) tt

-- ---- one step after another

refusal_later : (a b c : Counts) (words : List (List ℕ)) (r : Refusal) → NoneFalls b c → RefusalHasCause a b words r → RefusalHasCause a c words r
refusal_later a b c words (SetAbsent dd) falls cause =
    some_so (path_of words dd) cause (λ path rose. rose_later (a.misses path) (b.misses path) (c.misses path) rose (falls.misses_stand path))
refusal_later a b c words (TooLong dd) falls cause =
    some_so (path_of words dd) cause (λ path rose. rose_later (a.longs path) (b.longs path) (c.longs path) rose (falls.longs_stand path))
refusal_later a b c words _ falls cause = tt

refusal_before : (a b c : Counts) (words : List (List ℕ)) (r : Refusal) → NoneFalls a b → RefusalHasCause b c words r → RefusalHasCause a c words r
refusal_before a b c words (SetAbsent dd) falls cause =
    some_so (path_of words dd) cause (λ path rose. rose_before (a.misses path) (b.misses path) (c.misses path) (falls.misses_stand path) rose)
refusal_before a b c words (TooLong dd) falls cause =
    some_so (path_of words dd) cause (λ path rose. rose_before (a.longs path) (b.longs path) (c.longs path) (falls.longs_stand path) rose)
refusal_before a b c words _ falls cause = tt

-- sets read after others of which no read failed
pub sets_later : {A : Type 0} (a b c : Counts) (words : List (List ℕ)) (r : Result (Result A Refusal) Stop)
    → NoneFalls a b → NoFault a b → SetsHaveCause b c words r → SetsHaveCause a c words r
sets_later a b c words (Ok (Ok x)) falls none cause = no_fault a b c none cause
sets_later a b c words (Ok (Err refusal)) falls none cause =
    (no_fault a b c none cause.0, refusal_before a b c words refusal falls cause.1)
sets_later a b c words (Err (Read dd)) falls none cause =
    some_so (path_of words dd) cause (λ path rose. rose_before (a.faults path) (b.faults path) (c.faults path) (falls.faults_stand path) rose)
sets_later a b c words (Err Memory) falls none cause = no_fault a b c none cause

-- a final status after the put, in which no call failed
final_cause : (a b c : Counts) (words : List (List ℕ)) (s : Status) → NoneFalls b c → NoFault b c → NoFault a b → IsFinal s
    → StoreHasCause a b words s → StoreHasCause a c words s
final_cause a b c words (status.Refused r) falls after none final cause =
    (no_fault a b c none after, refusal_later a b c words r falls cause.1)
final_cause a b c words (status.Fault f) falls after none final cause = absurd final
final_cause a b c words status.Memory falls after none final cause = absurd final
final_cause a b c words _ falls after none final cause = no_fault a b c none after

final_end : (b c : Counts) (words : List (List ℕ)) (s : Status) → IsFinal s → EndHasCause b c words s → NoFault b c
final_end b c words (status.Fault f) final cause = absurd final
final_end b c words _ final cause = cause

-- an answer carried out
pub carried_out : (a b c : Counts) (words : List (List ℕ)) (answered result : Status) → NoneFalls a b → NoneFalls b c → NoFault a b → IsFinal answered
    → StoreHasCause a b words answered → EndsAs answered result → EndHasCause b c words result → StoreHasCause a c words result
carried_out a b c words answered result before falls none final cause (inl (inl same)) ended =
    let after : NoFault b c = final_end b c words answered final (subst (EndHasCause b c words) same ended) in
    subst (StoreHasCause a c words) (sym same) (final_cause a b c words answered falls after none final cause)
carried_out a b c words answered result before falls none final cause (inl (inr printing)) ended =
    let after : NoFault b c = subst (EndHasCause b c words) printing ended in
    subst (StoreHasCause a c words) (sym printing) (no_fault a b c none after)
carried_out a b c words answered result before falls none final cause (inr putting) ended =
    let failed : EndHasCause b c words (status.Fault (fault.Write syslmod)) = subst (EndHasCause b c words) putting ended in
    subst (StoreHasCause a c words) (sym putting)
    (refl, some_so (path_of words syslmod) failed.1 (λ path rose. rose_before (a.put_faults path) (b.put_faults path) (c.put_faults path) (before.put_faults_stand path) rose))

-- ---- completeness

of_itself : (s : Status) → HasStatus s s
of_itself (status.Fault f) = tt
of_itself status.Memory = tt
of_itself _ = refl

pub has_status : (answered result : Status) → EndsAs answered result → HasStatus answered result
has_status answered result (inl (inl same)) = subst (HasStatus answered) (sym same) (of_itself answered)
has_status answered result (inl (inr printing)) = subst (HasStatus answered) (sym printing) tt
has_status answered result (inr putting) = subst (HasStatus answered) (sym putting) tt

pub has_status_refused : (answered result : Status) → RefusesAs answered result → HasStatus answered result
has_status_refused answered result (inl (inl same)) = subst (HasStatus answered) (sym same) (of_itself answered)
has_status_refused answered result (inl (inr printing)) = subst (HasStatus answered) (sym printing) tt
has_status_refused answered result (inr wanting) = subst (HasStatus answered) (sym wanting) tt

pub completes : (old new : Counts) (before after : ℕ) (words : List (List ℕ)) (answered result : Status) → HasStatus answered result
    → StoreHasCause old new words result → SinkHasCause before after result → Completes old new before after answered result
completes old new before after words answered (status.Fault (fault.Read dd)) is store sink none = absurd (none_so (path_of words dd) store none.reads)
completes old new before after words answered (status.Fault (fault.Write dd)) is store sink none = absurd (none_so (path_of words dd) store.1 none.puts)
completes old new before after words answered (status.Fault fault.Print) is store sink none = absurd (none.writes sink)
completes old new before after words answered status.Memory is store sink none = inr refl
completes old new before after words answered _ is store sink none = inl is

-- ---- files

final_files : (words : List (List ℕ)) (before after : Files) (answer : Answer) (s : Status) → IsFinal s → Holds words before after answer.put
    → FilesAfter words before after answer s
final_files words before after answer (status.Fault f) final held = absurd final
final_files words before after answer status.Memory final held = absurd final
final_files words before after answer _ final held = held

-- the put was done, and the text printed or not
pub printed_files : (words : List (List ℕ)) (before after : Files) (answer : Answer) (result : Status) → IsFinal answer.status
    → PrintedStatus answer.status result → Holds words before after answer.put → FilesAfter words before after answer result
printed_files words before after answer result final (inl same) held =
    subst (FilesAfter words before after answer) (sym same) (final_files words before after answer answer.status final held)
printed_files words before after answer result final (inr printing) held = subst (FilesAfter words before after answer) (sym printing) held

pub printed_cause : (b c : Counts) (words : List (List ℕ)) (answered result : Status) → IsFinal answered → PrintedStatus answered result → NoFault b c → EndHasCause b c words result
printed_cause b c words answered result final (inl same) none = subst (EndHasCause b c words) (sym same) (final_no answered final)
  where
    final_no : (s : Status) → IsFinal s → EndHasCause b c words s
    final_no (status.Fault f) final_s = absurd final_s
    final_no _ final_s = none
printed_cause b c words answered result final (inr printing) none = subst (EndHasCause b c words) (sym printing) none

-- a put by the path of its data set
pub put_told : (words : List (List ℕ)) (before after : Files) (put : Put) (path : List ℕ) (result : Result (Unit {0}) Failed) → path_of words put.dd ≡ Some path
    → PutsTold before after path put.image result → PutTold words before after (Some put) result
put_told words before after put path (Ok done) named told =
    subst (λ o. IsSomeAnd o (λ x. (after x ≡ Some put.image) × OthersStay before after x)) (sym named) told
put_told words before after put path (Err failed) named told = subst (λ o. IsSomeAnd o (OthersStay before after)) (sym named) told

pub put_cause : (old new : Counts) (words : List (List ℕ)) (dd : Name) (path : List ℕ) (result : Result (Unit {0}) Failed) → dd ≡ syslmod → path_of words dd ≡ Some path
    → PutCause old new path result → PutHasCause old new words result
put_cause old new words dd path (Ok done) is named cause = cause
put_cause old new words dd path (Err failed) is named cause =
    subst (λ x. AtPath words x (PutFaultsRose old new)) is (subst (λ o. IsSomeAnd o (PutFaultsRose old new)) (sym named) cause)

-- ---- a bad word

pub refused_files : (words : List (List ℕ)) (files : Files) (answer : Answer) (result : Status) → answer.put ≡ None → IsFinal answer.status
    → RefusesAs answer.status result → FilesAfter words files files answer result
refused_files words files answer result none final (inl (inl same)) =
    subst (FilesAfter words files files answer) (sym same) (final_files words files files answer answer.status final (subst (Holds words files files) (sym none) refl))
refused_files words files answer result none final (inl (inr printing)) =
    subst (FilesAfter words files files answer) (sym printing) (subst (Holds words files files) (sym none) refl)
refused_files words files answer result none final (inr wanting) = subst (FilesAfter words files files answer) (sym wanting) refl
