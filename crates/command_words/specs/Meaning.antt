-- What good words mean. The command is the first of the words.
use Rattle.std.specs.Prelude.{ℕ, List, [], ◌∷◌, Option, Some, None, unwrap_or, if◌then◌else◌}
use Rattle.std.specs.Option.{option_and_then}
use Rattle.std.specs.List.{filter_map}
use Rattle.le_bytes.specs.Names.{name_of_text}
use Rattle.le_bytes.specs.declared.name.Name.{Name}
use Rattle.command_words.specs.Keys.{parm, member, origin, areas, tempname, is_reserved}
use Rattle.command_words.specs.Word.{KeyValue, key_value, value_in}
use Rattle.command_words.specs.Digits.{hex_number, generator_size}
use Rattle.command_words.specs.Lists.{options_in, areas_in, one_area}
use Rattle.command_words.specs.Table.{command_named}
use Rattle.command_words.specs.declared.command.Command.{Command}
use Rattle.command_words.specs.declared.options.Options.{Options}
use Rattle.command_words.specs.declared.areas.AreaRange.{AreaRange}

abbrev pub command_of : List (List ℕ) → Option Command
command_of [] = None
command_of (first ∷ rest) = command_named first

-- the value of MEMBER, as a name
unfoldable pub member_of : List (List ℕ) → Option Name
member_of words = option_and_then name_of_text (value_in member words)

-- the name of a load module that no NAME statement ends
abbrev pub module_name_of : List (List ℕ) → Name
module_name_of words = unwrap_or (member_of words) tempname

-- the value of ORIGIN, 0 where it is not given
unfoldable pub origin_of : List (List ℕ) → ℕ
origin_of words = unwrap_or (option_and_then hex_number (value_in origin words)) 0

-- the value of AREAS, no area where it is not given
unfoldable pub areas_of : List (List ℕ) → List AreaRange
areas_of words = areas_in (unwrap_or (value_in areas words) [])

-- the storage of `tasks`: the one area of AREAS, empty where that is not one area from a multiple of 8 on
unfoldable pub storage_of : List (List ℕ) → AreaRange
storage_of words = unwrap_or (option_and_then one_area (value_in areas words)) (record { from = 0; to = 0 })

-- the options of PARM, none where it is not given
unfoldable pub options_of : List (List ℕ) → Options
options_of words = options_in (unwrap_or (value_in parm words) [])

-- the size in PARM of `gen`, 1 where it is not given
unfoldable pub size_of : List (List ℕ) → ℕ
size_of words = unwrap_or (option_and_then generator_size (value_in parm words)) 1

-- the data definition name and the path of a word that names a data set
unfoldable pub data_set_in : List ℕ → Option KeyValue
data_set_in word = option_and_then (λ s. if is_reserved s.key then None else Some s) (key_value word)

-- the data sets in the order of their words
abbrev pub data_sets_of : List (List ℕ) → List KeyValue
data_sets_of words = filter_map data_set_in words

-- the path of the data set with this data definition name
unfoldable pub path_of : List (List ℕ) → Name → Option (List ℕ)
path_of words dd = if is_reserved dd then None else value_in dd words
