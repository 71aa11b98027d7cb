-- The data sets that are linked from.
use Rattle.std.specs.Prelude.{ℕ, Bool, List, [], find}
use Rattle.std.specs.List.{list_any}
use Rattle.std.specs.Option.{option_map_or}
use Rattle.le_bytes.specs.declared.name.Name.{Name}
use Rattle.le_bytes.specs.Names.{name_eq}
use Rattle.command_words.specs.Keys.{syslin}
use Rattle.pds_lib.specs.declared.set.Body.{Body}
use Rattle.pds_lib.specs.declared.set.Body.TheVariants.{Cards, Lib}
use Rattle.pds_lib.specs.declared.set.Set.{Set}

-- some set has this data definition name
abbrev pub has_set : Name → List Set → Bool
has_set dd sets = list_any (λ (x : Set). name_eq x.dd dd) sets

-- the bytes of a sequential set of cards; a library has none
abbrev pub cards_in : Body → List ℕ
cards_in (Cards bytes) = bytes
cards_in (Lib _) = []

-- the cards of the primary input: of the first set that is named SYSLIN
abbrev pub primary_cards : List Set → List ℕ
primary_cards sets = option_map_or (λ (x : Set). cards_in x.body) (find (λ (x : Set). name_eq x.dd syslin) sets) []
