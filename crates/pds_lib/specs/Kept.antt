-- What holds of the parts that a library is kept in.
use Rattle.std.specs.Prelude.{◌≡◌, ℕ, ◌<◌, ◌^◌, List, length, map, IsTrue}
use Rattle.std.specs.List.{list_all}
use Rattle.pds_directory.specs.declared.kinds.LibKind.{LibKind}
use Rattle.pds_directory.specs.declared.kinds.Version.{Version}
use Rattle.pds_directory.specs.declared.entry.Entry.{Entry}
use Rattle.pds_directory.specs.declared.entry.Span.{Span}
use Rattle.pds_directory.specs.Order.{ascends}
use Rattle.pds_lib.specs.declared.table.Row.{Row}
use Rattle.pds_lib.specs.Sound.{IsSound}
use Rattle.pds_lib.specs.Stored.{contents, is_few, row_is_there, row_name}

-- the entries are those of the rows, whose names ascend, and four bytes count them
abbrev pub IsTable : List Row → List Entry → Type 0
IsTable rows entries = (entries ≡ map (λ (r : Row). r.entry) rows) × IsTrue (ascends row_name rows) × (length rows < 2 ^ 32)

-- three bytes count the records of the image and of each member that was stowed, the records of each row are there,
-- and the library is sound
abbrev pub IsKept : Version → LibKind → List ℕ → List Span → List (List (List ℕ)) → List Row → Type 0
IsKept version kind image places given rows =
    (length places < 2 ^ 24) × IsTrue (list_all is_few given) × IsTrue (list_all (row_is_there (length given)) rows)
    × IsSound (contents version kind image places given rows)
