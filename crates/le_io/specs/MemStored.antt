-- What a store in memory tells, which of its calls are to fail, and how many there were.
use Rattle.std.specs.Prelude.{ℕ, List}
use Rattle.le_io.specs.declared.memory_store.MemStore.{MemStore}
use Rattle.le_io.specs.Counts.{Files, Counts}
use Rattle.le_io.specs.Stored.{files_in}
use Rattle.le_io.specs.Tallied.{counts_of}

abbrev pub files_of : MemStore → Files
files_of s = files_in s.files.items

abbrev pub store_counts : MemStore → Counts
store_counts s = counts_of s.tally

abbrev pub store_fails : MemStore → List ℕ
store_fails s = s.calls.fail.items

abbrev pub store_calls : MemStore → ℕ
store_calls s = s.calls.made
