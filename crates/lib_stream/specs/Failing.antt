-- Records of which one call fails.
use Rattle.std.specs.Prelude.{ℕ, List}
use Rattle.lib_stream.specs.declared.failing.FailingRecords.{FailingRecords}

-- the records that are lent
abbrev pub records_in : FailingRecords → List (List ℕ)
records_in source = source.records

-- the number, from 1, of the call that fails
abbrev pub failing_call : FailingRecords → ℕ
failing_call source = source.fails

-- how many calls there were, as far as a u64 goes
abbrev pub calls_made : FailingRecords → ℕ
calls_made source = source.made

-- how many of them failed
abbrev pub calls_failed : FailingRecords → ℕ
calls_failed source = source.failed
