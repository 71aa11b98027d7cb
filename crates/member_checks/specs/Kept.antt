-- What a call answers that judges items or a record and keeps them.
use Rattle.std.specs.Prelude.{◌≡◌, Option, Some, None, Result, Ok, Err}
use Rattle.le_bytes.specs.declared.record_what.RecWhat.{RecWhat}
use Rattle.member_checks.specs.declared.refused.Refused.{Refused}
use Rattle.member_checks.specs.declared.refused.Refused.TheVariants.{What, Memory}

-- the value where nothing is wrong, else the first fault
abbrev pub Keeps : {A : Type 0} → Option RecWhat → A → Result A Refused → Type 0
Keeps fault value (Ok x) = (fault ≡ None) × (x ≡ value)
Keeps fault value (Err (What what)) = fault ≡ Some what
Keeps fault value (Err Memory) = Unit {0}
