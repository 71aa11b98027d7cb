-- The first bad word.
use Rattle.std.specs.Prelude.{ℕ, ◌+◌, Bool, true, ◌&&◌, ◌||◌, not, if◌then◌else◌, List, [], ◌∷◌, ◌++◌, length, Option, Some, None, option_map, is_some, find, map, take, drop, String, string_bytes}
use Rattle.std.specs.List.{list_any}
use Rattle.std.specs.Option.{option_map_or, option_or}
use Rattle.le_bytes.specs.Names.{name_of_text, name_eq}
use Rattle.le_bytes.specs.declared.name.Name.{Name}
use Rattle.le_bytes.specs.declared.word_what.WordWhat.{WordWhat}
use Rattle.le_bytes.specs.declared.word_what.WordWhat.TheVariants.{NoCommand, UnknownCommand, NotKeyValue, Repeated, NotUsed, Excluded, BadValue, Missing}
use Rattle.command_words.specs.Keys.{parm, member, origin, areas, syspunch}
use Rattle.command_words.specs.Word.{KeyValue, key_value, is_given}
use Rattle.command_words.specs.Digits.{hex_number, generator_size}
use Rattle.command_words.specs.Lists.{is_option_list, is_area_list, one_area}
use Rattle.command_words.specs.Table.{command_named, required_of, is_used}
use Rattle.command_words.specs.declared.command.Command.{Command}
use Rattle.command_words.specs.declared.command.Command.TheVariants.{List as ListCommand, Gen, Tasks}
use Rattle.command_words.specs.declared.judging.BadWord.{BadWord}

-- the key is one of ORIGIN and AREAS, and the other stood before
abbrev pub is_excluded : Name → List (List ℕ) → Bool
is_excluded key before =
    (name_eq key origin && is_given areas before) || (name_eq key areas && is_given origin before)

abbrev pub is_parm : Command → List ℕ → Bool
is_parm Gen value = is_some (generator_size value)
is_parm command value = is_option_list command value

abbrev pub are_areas_of : Command → List ℕ → Bool
are_areas_of Tasks value = is_some (one_area value)
are_areas_of _ value = is_area_list value

-- the value has the form that its key asks for
abbrev pub is_good_value : Command → Name → List ℕ → Bool
is_good_value command key value =
    if name_eq key parm then is_parm command value
    else if name_eq key member then is_some (name_of_text value)
    else if name_eq key origin then is_some (hex_number value)
    else if name_eq key areas then are_areas_of command value
    else true

-- what is wrong with a key and its value after these words
abbrev pub setting_fault : Command → List (List ℕ) → KeyValue → Option WordWhat
setting_fault command before s =
    if is_given s.key before then Some Repeated
    else if not (is_used command s.key) then Some NotUsed
    else if is_excluded s.key before then Some Excluded
    else if not (is_good_value command s.key s.value) then Some BadValue
    else None

-- what is wrong with a word after these words
unfoldable pub word_fault : Command → List (List ℕ) → List ℕ → Option WordWhat
word_fault command before word = option_map_or (setting_fault command before) (key_value word) (Some NotKeyValue)

-- the first bad word of `rest`, which stands after `before`
abbrev pub bad_setting : Command → List (List ℕ) → List (List ℕ) → Option BadWord
bad_setting command before [] = None
bad_setting command before (word ∷ rest) =
    option_or (option_map (λ what. record { word = length before + 1; what = what }) (word_fault command before word))
    (bad_setting command (before ++ word ∷ []) rest)

-- the first bad word from place i on, where places count from 0
abbrev pub bad_from : {Z : Type 0} → Command → List (String Z) → ℕ → Option BadWord
bad_from command words i = bad_setting command (map string_bytes (take i words)) (map string_bytes (drop i words))

-- the keys that these words have to give: `list` asks for MEMBER where it is to put statements
abbrev pub asked_keys : Command → List (List ℕ) → List Name
asked_keys ListCommand words = required_of ListCommand ++ (if is_given syspunch words then member ∷ [] else [])
asked_keys command words = required_of command

-- the key is one of them
abbrev pub is_asked : Command → List (List ℕ) → Name → Bool
is_asked command words key = list_any (λ known. name_eq known key) (asked_keys command words)

-- the first of them that no word gives
unfoldable pub missing_key : Command → List (List ℕ) → Option Name
missing_key command words = find (λ key. not (is_given key words)) (asked_keys command words)

abbrev pub bad_after : Command → List ℕ → List (List ℕ) → Option BadWord
bad_after command first rest =
    option_or (bad_setting command (first ∷ []) rest)
    (option_map (λ key. record { word = length rest + 2; what = Missing key }) (missing_key command (first ∷ rest)))

-- the first bad word, counted from 1, and what is wrong with it: no word at all, a first word that is no
-- command, a word that is bad after those before it, or a key that no word gives
unfoldable pub bad_word : List (List ℕ) → Option BadWord
bad_word [] = Some (record { word = 1; what = NoCommand })
bad_word (first ∷ rest) =
    option_map_or (λ command. bad_after command first rest) (command_named first) (Some (record { word = 1; what = UnknownCommand }))
