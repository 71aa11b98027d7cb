-- The rows of a library, which are its entries with where their records are kept.
use Rattle.std.specs.Prelude.{◌≡◌, ℕ, ◌+◌, ◌-◌, ◌<◌, ◌≤◌, Bool, true, false, List, length, map, filter, drop, if◌then◌else◌, Result, Ok, Err, is_ok}
use Rattle.pds_directory.specs.declared.entry.Span.{Span}
use Rattle.pds_directory.specs.declared.entry.Listed.{Listed}
use Rattle.pds_directory.specs.declared.entry.Entry.{Entry}
use Rattle.pds_lib.specs.declared.member.StowFault.{StowFault}
use Rattle.pds_lib.specs.declared.member.StowFault.TheVariants.{Exists, TooManyRecords, Memory}
use Rattle.pds_lib.specs.declared.table.Row.{Row}
use Rattle.pds_lib.specs.declared.table.Store.{Store}
use Rattle.pds_lib.specs.declared.table.Store.TheVariants.{Read, Given}
use Rattle.pds_directory.specs.Header.{most_records}
use Rattle.pds_directory.specs.Places.{run_length}
use Rattle.pds_lib.specs.Grammar.{main_of}
use Rattle.pds_lib.specs.Contents.{record_count}
use Rattle.pds_lib.specs.Stored.{row_name, held}
use Rattle.pds_lib.specs.declared.member.Member.{Member}
use Rattle.std.specs.Global.{Vec}
use Rattle.pds_lib.specs.Stow.{has_name, put_in, put_all, stays, entries_for}

-- how many records the member of a main entry has
abbrev pub main_count : List Span → Listed → ℕ
main_count places x = if x.entry.alias then 0 else run_length (drop (x.first - 1) places)

-- the row of an entry that was read
abbrev pub row_of : List Span → List Listed → Listed → Row
row_of places xs x =
    record {
      entry = record x.entry { main = main_of xs x };
      user_data = x.user_data;
      store = Read (x.first - 1) (run_length (drop (x.first - 1) places));
    }

-- the row of an entry that is stowed
abbrev pub row_for : Store → Entry → Row
row_for store e = record { entry = e; user_data = record { at = 0; len = 0 }; store = store }

-- what was put into rows, or why not
abbrev pub PutsRows : Result (Unit {0}) StowFault → List Row → Result (List Row) StowFault → Type 0
PutsRows (Ok done) new read = read ≡ Ok new
PutsRows (Err Memory) new read = Unit {0}
PutsRows (Err (Exists n)) new read = read ≡ Err (Exists n)
PutsRows (Err (TooManyRecords n)) new read = ⊥

-- the same for one row
abbrev pub PutsRow : Result (Unit {0}) StowFault → List Row → List Row → Row → Type 0
PutsRow (Ok done) old new r = (has_name row_name old r.entry.name ≡ false) × (new ≡ put_in row_name old r)
PutsRow (Err Memory) old new r = Unit {0}
PutsRow (Err (Exists n)) old new r = (has_name row_name old r.entry.name ≡ true) × (n ≡ r.entry.name)
PutsRow (Err (TooManyRecords n)) old new r = ⊥

-- the rows that stay, with those of a member whose records are given after so many
abbrev pub left_of : List Row → Member → Bool → List Row
left_of rows m replace = filter (λ (r : Row). stays m replace r.entry) rows

-- the rows after a stow, or the name that is there already
unfoldable pub rows_stowed : ℕ → List Row → Member → Bool → Result (List Row) StowFault
rows_stowed n rows m replace = put_all row_name (row_for (Given n)) (left_of rows m replace) (entries_for m)

-- how many records there are then
abbrev pub total_after : List Span → List (List (List ℕ)) → List Row → Member → Bool → List ℕ → ℕ
total_after places given rows m replace image = record_count (map (held image places given) (left_of rows m replace)) + length m.records + 1

-- what a stow answers in rows
abbrev pub StowsRows : Result (Vec Row) StowFault → Result (List Row) StowFault → (List ℕ → ℕ) → Type 0
StowsRows (Ok v) read total = (read ≡ Ok v.items) × ((image : List ℕ) → total image ≤ most_records)
StowsRows (Err Memory) read total = Unit {0}
StowsRows (Err (Exists n)) read total = read ≡ Err (Exists n)
StowsRows (Err (TooManyRecords n)) read total = (is_ok read ≡ true) × ((image : List ℕ) → n ≡ total image) × (most_records < n)

-- the same of a stow into these rows
abbrev pub StowsInto : List Span → List (List (List ℕ)) → List Row → Member → Bool → Result (Vec Row) StowFault → Type 0
StowsInto places given rows m replace result =
    StowsRows result (rows_stowed (length given) rows m replace) (total_after places given rows m replace)
