-- The lines of events (this project's profile).
use Rattle.std.specs.Prelude.{◌≡◌, ℕ, List, [], ◌∷◌, map, length, take, drop, codes}
use Rattle.hex.specs.Hex.{encode_lower}
use Rattle.le_bytes.specs.declared.name.Name.{Name}
use Rattle.le_bytes.specs.declared.place.Place.{Place}
use Rattle.map_list.specs.Printed.{printed_name, a6, decimal, line}
use Rattle.list_text.specs.References.{place_text}

-- a call through the constant at a place, and the address that it reaches
unfoldable pub call_line : Place → ℕ → List ℕ
call_line place address =
    line (codes "CALL") (place_text place.section place.offset ∷ codes "=" ∷ a6 address ∷ [])

-- a store of bytes from a place on
unfoldable pub store_line : Place → List ℕ → List ℕ
store_line place bytes = line (codes "STORE") (place_text place.section place.offset ∷ encode_lower bytes ∷ [])

-- the resident segments
unfoldable pub where_line : List ℕ → List ℕ
where_line segments = line (codes "WHERE") (map decimal segments)

-- the line before the dump of a section
unfoldable pub dump_head : Name → List ℕ
dump_head section = line (codes "DUMP") (printed_name section ∷ [])

-- the text stands at the front, `end` is its length, and the rest is as before
pub record Writes (old text new : List ℕ) (end : ℕ) : Type 0 where
  pub text_is : take end new ≡ text
  pub end_is : end ≡ length text
  pub rest_is : drop end new ≡ drop end old
