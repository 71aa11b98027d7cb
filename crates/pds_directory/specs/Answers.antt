-- Reading goes on from step to step, and its first fault is the answer.
use Rattle.std.specs.Prelude.{◌≡◌, Result, Ok, Err}
use Rattle.le_bytes.specs.declared.library_fault.LibFault.{LibFault}
use Rattle.pds_directory.specs.declared.stop.LibStop.{LibStop}
use Rattle.pds_directory.specs.declared.stop.LibStop.TheVariants as stops

-- the next step on what was read, or the fault
infixl 10 ◌>>=◌
abbrev pub ◌>>=◌ : {A B : Type 0} → Result A LibFault → (A → Result B LibFault) → Result B LibFault
(Ok x) >>= f = f x
(Err e) >>= f = Err e

-- want of memory, or the fault that reading gives
abbrev pub Fails : {Y : Type 0} → LibStop → Result Y LibFault → Type 0
Fails stops.Memory read = Unit {0}
Fails (stops.Bad f) read = read ≡ Err f

-- What a function returned, seen by view, is what reading gives, unless memory ran out.
abbrev pub Gives : {X Y : Type 0} → (X → Y) → Result X LibStop → Result Y LibFault → Type 0
Gives view (Ok x) read = read ≡ Ok (view x)
Gives view (Err e) read = Fails e read
