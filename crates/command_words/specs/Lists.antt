-- Comma lists: options and areas.
use Rattle.std.specs.Prelude.{ℕ, ◌==◌, ◌%◌, ◌^◌, ◌<◌, ◌≤◌, Bool, true, false, ◌&&◌, ◌||◌, not, nat_le, nat_lt, if◌then◌else◌, List, [], ◌∷◌, Option, Some, None, codes}
use Rattle.std.specs.Borrow.{Bor}
use Rattle.std.specs.Str.{bytes_eq}
use Rattle.std.specs.List.{slice_split, list_any, list_all, filter_map, before_first, after_first}
use Rattle.std.specs.Option.{option_and_then, option_map_or}
use Rattle.command_words.specs.Digits.{hex_number}
use Rattle.command_words.specs.declared.command.Command.{Command}
use Rattle.command_words.specs.declared.command.Command.TheVariants.{Link, Go, Ldr}
use Rattle.command_words.specs.declared.options.Options.{Options}
use Rattle.command_words.specs.declared.areas.AreaRange.{AreaRange}

-- the parts between the commas
abbrev pub pieces : List ℕ → List (List ℕ)
pieces text = slice_split (λ c. c == 44) text

-- the parts of what stands after a comma, if there is one
abbrev pub later_pieces : Option (Bor (List ℕ)) → List (List ℕ)
later_pieces rest = option_map_or (λ text. pieces text.now) rest []

-- the comma list has the word
abbrev pub lists : List ℕ → List ℕ → Bool
lists text word = list_any (λ piece. bytes_eq piece word) (pieces text)

abbrev pub loading_options : List (List ℕ)
loading_options = codes "MAP" ∷ codes "LET" ∷ codes "NCAL" ∷ []

abbrev pub linking_options : List (List ℕ)
linking_options =
    codes "MAP" ∷ codes "LET" ∷ codes "NCAL" ∷ codes "XREF" ∷ codes "XCAL" ∷ codes "OVLY" ∷ codes "SCTR"
    ∷ codes "DCBS" ∷ codes "RENT" ∷ []

-- the option words of a command
abbrev pub option_words : Command → List (List ℕ)
option_words Link = linking_options
option_words Go = linking_options
option_words Ldr = loading_options
option_words _ = []

abbrev pub is_loading_option : List ℕ → Bool
is_loading_option word = list_any (bytes_eq word) loading_options

abbrev pub is_linking_option : List ℕ → Bool
is_linking_option word = list_any (bytes_eq word) linking_options

unfoldable pub is_option : Command → List ℕ → Bool
is_option command word = list_any (bytes_eq word) (option_words command)

abbrev pub are_options : Command → List ℕ → Bool
are_options command text = list_all (is_option command) (pieces text)

-- each word is an option of the command, and OVLY stands beside neither SCTR nor RENT
unfoldable pub is_option_list : Command → List ℕ → Bool
is_option_list command text =
    are_options command text
    && not (lists text (codes "OVLY") && (lists text (codes "SCTR") || lists text (codes "RENT")))

-- the options that a comma list turns on
unfoldable pub options_in : List ℕ → Options
options_in text = record {
  map = lists text (codes "MAP");
  xref = lists text (codes "XREF");
  let_on = lists text (codes "LET");
  ncal = lists text (codes "NCAL");
  xcal = lists text (codes "XCAL");
  ovly = lists text (codes "OVLY");
  sctr = lists text (codes "SCTR");
  dcbs = lists text (codes "DCBS");
  rent = lists text (codes "RENT");
}

-- the area `from-to`
unfoldable pub area_in : List ℕ → Option AreaRange
area_in piece =
    option_and_then (λ from. option_and_then (λ to. if nat_lt from to then Some (record { from = from; to = to }) else None)
    (hex_number (after_first (λ c. c == 45) piece))) (hex_number (before_first (λ c. c == 45) piece))

-- each piece is an area, the first from `low` on and each other from the end of the one before on
abbrev pub are_areas : ℕ → List (List ℕ) → Bool
are_areas low [] = true
are_areas low (piece ∷ rest) = option_map_or (λ a. nat_le low a.from && are_areas a.to rest) (area_in piece) false

-- the areas ascend and do not meet
unfoldable pub is_area_list : List ℕ → Bool
is_area_list text = are_areas 0 (pieces text)

-- one area, from a multiple of 8 on
unfoldable pub one_area : List ℕ → Option AreaRange
one_area text = option_and_then (λ a. if a.from % 8 == 0 then Some a else None) (area_in text)

-- the areas of a comma list, in order; none where it is no list of areas
unfoldable pub areas_in : List ℕ → List AreaRange
areas_in text = if is_area_list text then filter_map area_in (pieces text) else []

-- an area is not empty, and lies below 16 MB
pub record IsArea (a : AreaRange) : Type 0 where
  pub ascends : a.from < a.to
  pub fits : a.to < 2 ^ 24

-- areas from `low` on that ascend and do not meet
abbrev pub AreAreas : ℕ → List AreaRange → Type 0
AreAreas low [] = Unit {0}
AreAreas low (a ∷ rest) = (low ≤ a.from) × IsArea a × AreAreas a.to rest
