-- What a call that reads a record answers.
use Rattle.std.specs.Prelude.{◌≡◌, Result, Ok, Err, MatchResult}
use Rattle.load_recs.specs.declared.records.Rec.{Rec}
use Rattle.load_recs.specs.declared.records.RecFault.{RecFault}
use Rattle.load_recs.specs.Records.{Record, record_of}

-- the record or fault that the bytes give, wherever they lie in memory
abbrev pub Gives : Result Rec RecFault → Result Record RecFault → Type 0
Gives answer read = MatchResult answer (λ r. read ≡ Ok (record_of r)) (λ fault. read ≡ Err fault)
