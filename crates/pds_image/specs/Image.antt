-- The image of a library.
use Rattle.std.specs.Prelude.{ℕ, ◌+◌, ◌/◌, Bool, not, ◌&&◌, if◌then◌else◌, List, [], ◌∷◌, ◌++◌, length, map, sum_by, Option, Some, None}
use Rattle.std.specs.Option.{option_map_or}
use Rattle.std.specs.List.{flat_map}
use Rattle.le_bytes.specs.declared.name.Name.{Name}
use Rattle.le_bytes.specs.Names.{name_eq}
use Rattle.pds_directory.specs.declared.entry.Entry.{Entry}
use Rattle.pds_directory.specs.Header.{mark}
use Rattle.pds_lib.specs.Contents.{Contents, entries_of, records_of, user_data_of}
use Rattle.pds_image.specs.Spelling.{number_bytes, data_bytes, entry_bytes, closing, blocks_of, record_bytes, version_byte, kind_byte}

-- the records that an entry adds: of a main entry its own and the one that ends them
abbrev pub added : Contents → Entry → ℕ
added lib e = if e.alias then 0 else length (records_of lib e) + 1

abbrev pub records_in : Contents → List Entry → ℕ
records_in lib es = sum_by (added lib) es

-- the main entry of a name
abbrev pub is_main : Name → Entry → Bool
is_main n e = not e.alias && name_eq e.name n

-- the number of the first record of the member of a name, where the first entry begins with record k
unfoldable pub first_from : ℕ → Contents → List Entry → Name → Option ℕ
first_from k lib [] n = None
first_from k lib (e ∷ es) n = if is_main n e then Some k else first_from (k + added lib e) lib es n

-- the same in the whole library; 0 of a member that is not there
abbrev pub first_record : Contents → Name → ℕ
first_record lib n = option_map_or (λ k. k) (first_from 1 lib (entries_of lib) n) 0

unfoldable pub spelled_entry : Contents → Entry → List ℕ
spelled_entry lib e = entry_bytes e (data_bytes lib.kind e (user_data_of lib e)) (first_record lib e.main)

-- the entries in their order and the last one, in as few blocks as hold them so
abbrev pub directory_bytes : Contents → List ℕ
directory_bytes lib = blocks_of [] (map (spelled_entry lib) (entries_of lib) ++ closing ∷ [])

-- the records of a main entry and the one that ends its member
unfoldable pub body_bytes : Contents → Entry → List ℕ
body_bytes lib e = if e.alias then [] else flat_map (record_bytes lib.version) (records_of lib e) ++ record_bytes lib.version []

-- mark, version, kind, and how many blocks and records follow
unfoldable pub header_bytes : Contents → List ℕ
header_bytes lib =
    mark ++ version_byte lib.version ∷ kind_byte lib.kind ∷ 0 ∷ 0
    ∷ number_bytes 4 (length (directory_bytes lib) / 256) ++ number_bytes 4 (records_in lib (entries_of lib))

-- header, directory, and the members in the order of their names
abbrev pub written : Contents → List ℕ
written lib = header_bytes lib ++ directory_bytes lib ++ flat_map (body_bytes lib) (entries_of lib)

-- the most bytes that an image may have
abbrev pub most_bytes : ℕ
most_bytes = 67108864
