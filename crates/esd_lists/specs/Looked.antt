-- What the index and the modules that were read say of an item.
use Rattle.std.specs.Prelude.{ℕ, ◌≤◌, if◌then◌else◌, List, length, position, slice_get, Option, None, unwrap_or, option_map, option_and_then}
use Rattle.std.specs.List.{IsDistinct}
use Rattle.linking_model.specs.Kept.{Sight, Symbol, symbol_eq, section_symbol}
use Rattle.esd_index.specs.Contents.{Contents}
use Rattle.esd_lists.specs.declared.reading.Reading.{Reading}
use Rattle.esd_lists.specs.Held.{is_marked_in}

-- there are few enough symbols, and none stands twice
pub record IsNumbered (c : Contents) : Type 0 where
  pub symbols : length c.symbols ≤ 32511
  pub sections : length c.sections ≤ 32511
  pub registers : length c.registers ≤ 32511
  pub symbols_apart : IsDistinct symbol_eq c.symbols
  pub sections_apart : IsDistinct symbol_eq c.sections
  pub controls_apart : IsDistinct symbol_eq c.controls

-- the place of a symbol in the order of first appearance
abbrev pub rank_by : Contents → Symbol → ℕ
rank_by c y = unwrap_or (position (symbol_eq y) c.symbols) 0

-- the number of a section
abbrev pub number_by : Contents → Symbol → Option ℕ
number_by c y = position (symbol_eq y) c.sections

-- item i of module k
abbrev pub seen_by : List Reading → ℕ → ℕ → Option Sight
seen_by xs k i =
    option_and_then (λ (r : Reading). option_map (λ x. record { of_module = k; number = i; segment = r.segment; item = x }) (slice_get r.read.items i)) (slice_get xs k)

-- the number of the section in which item i of module k is kept
unfoldable pub home_by : Contents → List Reading → ℕ → ℕ → Option ℕ
home_by c xs k i = if is_marked_in xs k i then option_and_then (number_by c) (option_and_then section_symbol (seen_by xs k i)) else None
