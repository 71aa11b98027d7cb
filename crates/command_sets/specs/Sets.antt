-- The data sets that a command reads: in the order of their words, or the first that is refused.
use Rattle.std.specs.Prelude.{ℕ, Bool, false, not, ◌&&◌, ◌==◌, nat_lt, if◌then◌else◌, List, [], ◌∷◌, length, take, slice_get, Option, Some, None, option_map, unwrap_or, is_some, Result, Ok, Err}
use Rattle.std.specs.Result.{result_unwrap_or}
use Rattle.std.specs.Str.{bytes_eq}
use Rattle.std.specs.Option.{option_and_then, option_map_or}
use Rattle.le_bytes.specs.declared.name.Name.{Name}
use Rattle.le_bytes.specs.Names.{name_eq}
use Rattle.le_bytes.specs.declared.library_fault.LibFault.{LibFault}
use Rattle.le_bytes.specs.declared.refusal.Refusal.{Refusal}
use Rattle.le_bytes.specs.declared.refusal.Refusal.TheVariants.{SetAbsent, TooLong, NotLibrary, Library}
use Rattle.le_io.specs.Counts.{Files}
use Rattle.command_words.specs.Keys.{syslin, syslmod}
use Rattle.command_words.specs.declared.command.Command.{Command}
use Rattle.command_words.specs.declared.command.Command.TheVariants.{Go, Link}
use Rattle.command_words.specs.Meaning.{command_of, data_set_in, options_of, path_of}
use Rattle.pds_directory.specs.declared.kinds.LibKind.TheVariants.{Modules}
use Rattle.pds_directory.specs.declared.kinds.Version.{Version}
use Rattle.pds_directory.specs.declared.kinds.Version.TheVariants.{One, Two}
use Rattle.pds_lib.specs.declared.set.Body.{Body}
use Rattle.pds_lib.specs.declared.set.Body.TheVariants.{Cards, Lib}
use Rattle.pds_lib.specs.declared.set.Set.{Set}
use Rattle.pds_lib.specs.Contents.{Contents}
use Rattle.pds_lib.specs.Grammar.{library_of}
use Rattle.pds_directory.specs.Header.{mark}

-- the greatest number of bytes of a data set, and of a library that is put
abbrev pub set_limit : ℕ
set_limit = 67108864

-- what stands at the path of the data set with this data definition name; nothing where no word names it
abbrev pub file_at : List (List ℕ) → Files → Name → Option (List ℕ)
file_at words files dd = option_and_then files (path_of words dd)

-- a word names SYSLMOD
abbrev pub names_output : List (List ℕ) → Bool
names_output words = is_some (path_of words syslmod)

-- ---- libraries

-- a library of load modules without members
abbrev pub empty_library : Version → Contents
empty_library version = record { version = version; kind = Modules; members = [] }

-- the version of a library that is new
abbrev pub new_version : List (List ℕ) → Version
new_version words = if (options_of words).dcbs then Two else One

-- SYSLMOD may be new for a command that links, with this version then
abbrev pub made_by : Option Command → Version → Option Version
made_by (Some Link) version = Some version
made_by (Some Go) version = Some version
made_by _ version = None

abbrev pub made_version : List (List ℕ) → Option Version
made_version words = made_by (command_of words) (new_version words)

-- a library without members where one of this version may be new, and else this refusal
abbrev pub new_library : Option Version → Refusal → Result Body Refusal
new_library (Some version) refusal = Ok (Lib (empty_library version))
new_library None refusal = Err refusal

-- the bytes begin as a library does, and do not say that it is one of cards
abbrev pub is_for_modules : List ℕ → Bool
is_for_modules bytes =
    bytes_eq (take 8 bytes) mark && not (option_map_or (λ b. b == 198) (slice_get bytes 9) false)

-- the library of SYSLMOD, or what is wrong with its image
abbrev pub whole_library : Result Contents LibFault → Result Body Refusal
whole_library (Ok lib) = Ok (Lib lib)
whole_library (Err fault) = Err (Library syslmod fault)

-- SYSLMOD, of which no bytes are a new library where it may be new
abbrev pub output_of : Option Version → List ℕ → Result Body Refusal
output_of new bytes =
    if length bytes == 0 then new_library new (NotLibrary syslmod)
    else if is_for_modules bytes then whole_library (library_of bytes)
    else Err (NotLibrary syslmod)

-- ---- one set

-- SYSLMOD is a library of load modules, and any other set is cards
abbrev pub body_of : Option Version → Name → List ℕ → Result Body Refusal
body_of new dd bytes = if name_eq dd syslmod then output_of new bytes else Ok (Cards bytes)

-- what is made of the bytes that stand at the path of a set, if there are any; no SYSLMOD is a new library where it
-- may be new
abbrev pub body_at : Option Version → Name → Option (List ℕ) → Result Body Refusal
body_at new dd None = if name_eq dd syslmod then new_library new (SetAbsent dd) else Err (SetAbsent dd)
body_at new dd (Some bytes) = if nat_lt set_limit (length bytes) then Err (TooLong dd) else body_of new dd bytes

-- with its name
abbrev pub set_as : Name → Result Body Refusal → Result Set Refusal
set_as dd (Ok body) = Ok (record { dd = dd; body = body })
set_as dd (Err refusal) = Err refusal

-- the set of this data definition name
unfoldable pub set_at : List (List ℕ) → Files → Name → Result Set Refusal
set_at words files dd = set_as dd (body_at (made_version words) dd (file_at words files dd))

-- ---- all sets

-- a set before the others
abbrev pub set_before : Set → Result (List Set) Refusal → Result (List Set) Refusal
set_before set (Ok sets) = Ok (set ∷ sets)
set_before set (Err refusal) = Err refusal

-- what a word names, if it names a set, before what the words after it name
abbrev pub with_set : Option (Result Set Refusal) → Result (List Set) Refusal → Result (List Set) Refusal
with_set None rest = rest
with_set (Some (Ok set)) rest = set_before set rest
with_set (Some (Err refusal)) rest = Err refusal

-- the set that a word names
abbrev pub set_of_word : (Name → Result Set Refusal) → List ℕ → Option (Result Set Refusal)
set_of_word read word = option_map (λ s. read s.key) (data_set_in word)

-- the sets that the words name, in their order
unfoldable pub sets_in : (Name → Result Set Refusal) → List (List ℕ) → Result (List Set) Refusal
sets_in read [] = Ok []
sets_in read (word ∷ words) = with_set (set_of_word read word) (sets_in read words)

-- the sets of the command
abbrev pub sets_of : List (List ℕ) → Files → Result (List Set) Refusal
sets_of words files = sets_in (set_at words files) words

-- ---- SYSLIN and SYSLMOD of files

-- the bytes that stand at SYSLIN, and none where no word names it
abbrev pub cards_at : List (List ℕ) → Files → List ℕ
cards_at words files = unwrap_or (file_at words files syslin) []

-- the library of this image, or one of this version without members where there are no bytes; where an image holds no
-- library no set is read
abbrev pub library_or_new : Version → Option (List ℕ) → Contents
library_or_new version None = empty_library version
library_or_new version (Some image) =
    if length image == 0 then empty_library version else result_unwrap_or (library_of image) (empty_library version)

-- the library that stands at SYSLMOD, or one without members
abbrev pub library_at : List (List ℕ) → Files → Contents
library_at words files = library_or_new (new_version words) (file_at words files syslmod)
