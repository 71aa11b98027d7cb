-- What holds while a set is read whole, and how each answer of a read of a piece leads on from there.
use Rattle.std.proofs.Common.{◌≡◌, ℕ, ◌+◌, ◌-◌, ◌^◌, ◌≤◌, min, List, [], ◌++◌, length, take, drop, Option, None, Some, Ok, IsSomeAnd, refl, sym, ◌∙◌, ap, subst, arith, length-append}
use Rattle.std.proofs.lemmas.List.{length-take-le, take_all}
use Rattle.std.proofs.Math.Seq.{take-add, take-append_seam}
use Rattle.le_io.specs.declared.store.TheConstants.{SET_LIMIT}
use Rattle.le_io.specs.declared.whole.ReadStop.{ReadStop}
use Rattle.le_io.specs.declared.whole.ReadStop.TheVariants as stop
use Rattle.le_io.specs.Counts.{Files, Counts, NoneFalls, NoFault, Rose, WhereTold}
use Rattle.le_io.specs.Piece.{IsNext, PieceTold}
use Rattle.le_io.specs.Whole.{StopTold, StopHasCause}

-- the bytes so far are the front of the set, within the limit, and no read failed
pub record ReadSoFar (told_first told : Option Files) (first now : Counts) (path bytes : List ℕ) : Type 0 where
  pub same_told : told ≡ told_first
  pub limit : length bytes ≤ SET_LIMIT
  pub front : WhereTold told_first (λ files. (file : List ℕ) → files path ≡ Some file → take (length bytes) file ≡ bytes)
  pub none_falls : NoneFalls first now
  pub no_fault : NoFault first now

pub none_falls_on : (a b c : Counts) → NoneFalls a b → NoneFalls b c → NoneFalls a c
none_falls_on a b c ab bc =
    record {
      faults_stand = λ p. let x = ab.faults_stand p in let y = bc.faults_stand p in omega arith;
      put_faults_stand = λ p. let x = ab.put_faults_stand p in let y = bc.put_faults_stand p in omega arith;
      misses_stand = λ p. let x = ab.misses_stand p in let y = bc.misses_stand p in omega arith;
      longs_stand = λ p. let x = ab.longs_stand p in let y = bc.longs_stand p in omega arith;
    }

pub no_fault_on : (a b c : Counts) → NoFault a b → NoFault b c → NoFault a c
no_fault_on a b c ab bc =
    record {
      no_read_fault = λ p. bc.no_read_fault p ∙ ab.no_read_fault p;
      no_put_fault = λ p. bc.no_put_fault p ∙ ab.no_put_fault p;
    }

min_later : (most a b now : ℕ) → a ≤ b → min (b + 1) most ≤ now → min (a + 1) most ≤ now
min_later most a b now le rose = omega arith

pub rose_later : (a b now : ℕ) → a ≤ b → Rose b now → Rose a now
rose_later a b now le rose = min_later (2 ^ 64 - 1) a b now le rose

-- a buffer that was lent and filled to its length holds what was put into it
pub refilled : (len : ℕ) (new old : List ℕ) → length new ≡ len → take len (new ++ drop (length new) old) ≡ new
refilled len new old same = rw (← same) (take-append_seam new (drop (length new) old))

-- before the first read
pub read_nothing : (told : Option Files) (counts : Counts) (path : List ℕ) → ReadSoFar told told counts counts path []
read_nothing told counts path =
    record {
      same_told = refl;
      limit = omega arith;
      front = λ files is file at. refl;
      none_falls = record { faults_stand = λ p. omega arith; put_faults_stand = λ p. omega arith; misses_stand = λ p. omega arith; longs_stand = λ p. omega arith };
      no_fault = record { no_read_fault = λ p. refl; no_put_fault = λ p. refl };
    }

-- the piece after the bytes so far
next_front : (file bytes into : List ℕ) (n : ℕ) → n ≤ length into → take (length bytes) file ≡ bytes → IsNext file (length bytes) n into → take (length (bytes ++ take n into)) file ≡ bytes ++ take n into
next_front file bytes into n within front next =
    rw (length-append bytes (take n into), length-take-le n into within, take-add (length bytes) n file, front, sym next.bytes) refl

pub read_more : (told_first told after : Option Files) (first now later : Counts) (path bytes into longer : List ℕ) (at n : ℕ) → ReadSoFar told_first told first now path bytes → at ≡ length bytes → n ≤ length into → at + n ≤ SET_LIMIT → WhereTold told (λ files. PieceTold files path at into (Ok n)) → after ≡ told → NoneFalls now later → NoFault now later → longer ≡ bytes ++ take n into → ReadSoFar told_first after first later path longer
read_more told_first told after first now later path bytes into longer at n so_far here within limit piece same counts fault grown =
    let next : (file : List ℕ) → IsNext file at n into → IsNext file (length bytes) n into = λ file f. rw here at f in
    rw grown
    (record {
      same_told = same ∙ so_far.same_told;
      limit = rw (length-append bytes (take n into), length-take-le n into within, sym here) limit;
      front = λ files is file found.
          let piece_there : IsSomeAnd (files path) (λ f. IsNext f at n into) = piece files (so_far.same_told ∙ is) in
          next_front file bytes into n within (so_far.front files is file found)
          (next file (subst (λ (o : Option (List ℕ)). IsSomeAnd o (λ f. IsNext f at n into)) found piece_there));
      none_falls = none_falls_on first now later so_far.none_falls counts;
      no_fault = no_fault_on first now later so_far.no_fault fault;
    })

-- at the end the bytes so far are the whole set
all_of : (o : Option (List ℕ)) (bytes into : List ℕ) → ((file : List ℕ) → o ≡ Some file → take (length bytes) file ≡ bytes) → IsSomeAnd o (λ f. IsNext f (length bytes) 0 into) → o ≡ Some bytes
all_of None bytes into front next = absurd next
all_of (Some file) bytes into front next = ap Some (sym (take_all (length bytes) file (next.at_end.0 refl)) ∙ front file refl)

pub read_whole : (told_first told : Option Files) (first now : Counts) (path bytes into : List ℕ) (at n : ℕ) → ReadSoFar told_first told first now path bytes → at ≡ length bytes → n ≡ 0 → WhereTold told (λ files. PieceTold files path at into (Ok n)) → WhereTold told_first (λ files. files path ≡ Some bytes)
read_whole told_first told first now path bytes into at n so_far here none piece files is =
    let here_piece : IsSomeAnd (files path) (λ f. IsNext f at n into) = piece files (so_far.same_told ∙ is) in
    all_of (files path) bytes into (so_far.front files is) (rw (here, none) at here_piece)

-- a read that stopped says of the whole set what it says of the piece
pub stop_told : (told_first told : Option Files) (path : List ℕ) (why : ReadStop) → told ≡ told_first → WhereTold told (λ files. StopTold files path why) → WhereTold told_first (λ files. StopTold files path why)
stop_told told_first told path why same piece files is = piece files (same ∙ is)

pub stop_cause : (first now later : Counts) (path : List ℕ) (why : ReadStop) → NoneFalls first now → NoFault first now → StopHasCause now later path why → StopHasCause first later path why
stop_cause first now later path stop.Absent falls none cause =
    (no_fault_on first now later none cause.0, rose_later (first.misses path) (now.misses path) (later.misses path) (falls.misses_stand path) cause.1)
stop_cause first now later path stop.TooLong falls none cause =
    (no_fault_on first now later none cause.0, rose_later (first.longs path) (now.longs path) (later.longs path) (falls.longs_stand path) cause.1)
stop_cause first now later path stop.Failed falls none cause =
    rose_later (first.faults path) (now.faults path) (later.faults path) (falls.faults_stand path) cause
stop_cause first now later path stop.Memory falls none cause = no_fault_on first now later none cause
