-- Where the records of an entry are kept: in the image that was read, or as they were stowed.
use Rattle.std.specs.Prelude.{ℕ, ◌^◌, List, [], map, length, take, drop, Bool, true, nat_lt, slice_index_or, find, Option}
use Rattle.le_bytes.specs.declared.name.Name.{Name}
use Rattle.le_bytes.specs.Names.{name_eq}
use Rattle.pds_directory.specs.declared.entry.Span.{Span}
use Rattle.pds_lib.specs.declared.table.Row.{Row}
use Rattle.pds_lib.specs.declared.table.Store.{Store}
use Rattle.pds_lib.specs.declared.table.Store.TheVariants.{Read, Given}
use Rattle.pds_directory.specs.Parts.{part}
use Rattle.pds_directory.specs.declared.kinds.LibKind.{LibKind}
use Rattle.pds_directory.specs.declared.kinds.Version.{Version}
use Rattle.pds_lib.specs.Contents.{Held, Contents}

-- the name of the entry of a row
abbrev pub row_name : Row → Name
row_name r = r.entry.name

-- the row with a name
abbrev pub row_with : List Row → Name → Option Row
row_with rows n = find (λ (r : Row). name_eq (row_name r) n) rows

-- the records that are kept so
abbrev pub stored : List ℕ → List Span → List (List (List ℕ)) → Store → List (List ℕ)
stored image places given (Read first count) = map (part image) (take count (drop first places))
stored image places given (Given i) = slice_index_or given i []

-- a row as the member that it is kept for
abbrev pub held : List ℕ → List Span → List (List (List ℕ)) → Row → Held
held image places given r =
    record { entry = r.entry; user_data = part image r.user_data; records = stored image places given r.store }

-- the library that is kept so
abbrev pub contents : Version → LibKind → List ℕ → List Span → List (List (List ℕ)) → List Row → Contents
contents version kind image places given rows = record { version = version; kind = kind; members = map (held image places given) rows }

-- what was stowed is among so many
abbrev pub is_there : ℕ → Store → Bool
is_there count (Read first n) = true
is_there count (Given i) = nat_lt i count

-- the records of a row are among what was stowed, if they were stowed
abbrev pub row_is_there : ℕ → Row → Bool
row_is_there count r = is_there count r.store

-- a member has no more records than three bytes count
abbrev pub is_few : List (List ℕ) → Bool
is_few records = nat_lt (length records) (2 ^ 24)
