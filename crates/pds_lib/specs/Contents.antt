-- A library: version, kind, and its members by name.
use Rattle.std.specs.Prelude.{ℕ, ◌+◌, if◌then◌else◌, List, [], map, length, find, sum_by, Option}
use Rattle.std.specs.Option.{option_map_or}
use Rattle.le_bytes.specs.declared.name.Name.{Name}
use Rattle.le_bytes.specs.Names.{name_eq}
use Rattle.pds_directory.specs.declared.kinds.LibKind.{LibKind}
use Rattle.pds_directory.specs.declared.kinds.Version.{Version}
use Rattle.pds_directory.specs.declared.entry.Entry.{Entry}

-- an entry with its user data, which are kept of a library of cards, and the records of its member
pub record Held : Type 0 where
  pub entry : Entry
  pub user_data : List ℕ
  pub records : List (List ℕ)

-- a library as it is seen from outside
pub record Contents : Type 0 where
  pub version : Version
  pub kind : LibKind
  pub members : List Held

-- the name of the entry of a member
abbrev pub held_name : Held → Name
held_name h = h.entry.name

-- the entries of a library in their order
abbrev pub entries_of : Contents → List Entry
entries_of lib = map (λ (h : Held). h.entry) lib.members

-- the entry with a name, main or alias
abbrev pub find_entry : Contents → Name → Option Entry
find_entry lib n = find (λ (e : Entry). name_eq e.name n) (entries_of lib)

-- the records of the member of an entry
abbrev pub records_of : Contents → Entry → List (List ℕ)
records_of lib e = option_map_or (λ (h : Held). h.records) (find (λ (h : Held). name_eq h.entry.name e.name) lib.members) []

-- the user data that are kept of an entry
abbrev pub user_data_of : Contents → Entry → List ℕ
user_data_of lib e = option_map_or (λ (h : Held). h.user_data) (find (λ (h : Held). name_eq h.entry.name e.name) lib.members) []

-- the records that an entry adds: of a main entry its own and the one that ends them
abbrev pub entry_count : Held → ℕ
entry_count h = if h.entry.alias then 0 else length h.records + 1

-- the records of all members and those that end them
abbrev pub record_count : List Held → ℕ
record_count hs = sum_by entry_count hs
