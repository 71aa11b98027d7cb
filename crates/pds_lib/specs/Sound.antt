-- What holds of a library that was read or stowed into.
use Rattle.std.specs.Prelude.{◌≡◌, ℕ, ◌≤◌, ◌<◌, ◌^◌, ◌%◌, Bool, true, false, List, [], length, find, Some}
use Rattle.std.specs.List.{AllByRecursion}
use Rattle.std.specs.Str.{bytes_eq}
use Rattle.le_bytes.specs.Names.{name_eq}
use Rattle.pds_directory.specs.declared.kinds.LibKind.{LibKind}
use Rattle.pds_directory.specs.declared.kinds.LibKind.TheVariants.{Cards, Modules}
use Rattle.pds_directory.specs.declared.entry.Entry.{Entry}
use Rattle.pds_directory.specs.Header.{most_records}
use Rattle.pds_directory.specs.Places.{width, has_length}
use Rattle.pds_directory.specs.Directory.{last_name}
use Rattle.pds_directory.specs.Order.{ascends}
use Rattle.pds_lib.specs.Contents.{Held, held_name, Contents, record_count}

-- a record is not empty, its length can be written, and it may stand in a library of this kind
abbrev pub IsRecord : Contents → List ℕ → Type 0
IsRecord lib r = (0 < length r) × (length r < 256 ^ width lib.version) × (has_length lib.kind (length r) ≡ true)

-- what a library of this kind keeps of an entry and its user data can be written
abbrev pub HasData : LibKind → Entry → List ℕ → Type 0
HasData Cards e user = (e.attr ≡ 0) × (e.length ≡ 0) × (e.entry ≡ 0) × (e.entry_section ≡ 0) × (length user % 2 ≡ 0) × (length user ≤ 62)
HasData Modules e user = (e.length < 2 ^ 24) × (e.entry < 2 ^ 24) × (e.entry_section < 2 ^ 16) × (user ≡ [])

-- a main entry is its own, and an alias has the records of its main entry
abbrev pub HasMain : Bool → Contents → Held → Type 0
HasMain false lib h = h.entry.main ≡ h.entry.name
HasMain true lib h =
    (m : Held) × (find (λ (g : Held). name_eq g.entry.name h.entry.main) lib.members ≡ Some m) × (m.entry.alias ≡ false) × (h.records ≡ m.records)

-- names of eight bytes, of which none is the last one's, and data, main entry and records that can be written
pub record IsHeld (lib : Contents) (h : Held) : Type 0 where
  pub name : length h.entry.name.0 ≡ 8
  pub main_name : length h.entry.main.0 ≡ 8
  pub not_last : bytes_eq h.entry.name.0 last_name ≡ false
  pub user : HasData lib.kind h.entry h.user_data
  pub main : HasMain h.entry.alias lib h
  pub records : AllByRecursion (IsRecord lib) h.records

-- names ascend, each entry is sound, and three bytes count the records
pub record IsSound (lib : Contents) : Type 0 where
  pub ascending : ascends held_name lib.members ≡ true
  pub members : AllByRecursion (IsHeld lib) lib.members
  pub few : record_count lib.members ≤ most_records
