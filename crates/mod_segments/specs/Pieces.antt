-- Pieces of text as the definitions of members speak of them, and what a part keeps to be cut into pieces.
use Rattle.std.specs.Prelude.{ℕ, ◌+◌, ◌-◌, ◌^◌, ◌<◌, ◌≤◌, All}
use Rattle.std.specs.List.Sorted.{IsNonDecreasingBy}
use Rattle.load_recs.specs.Records.{IsTextHead, most_text}
use Rattle.load_recs.specs.declared.items.RldItem.{RldItem}
use Rattle.member_model.specs.Symbols.{field_length}
use Rattle.member_model.specs.Pieces.{Piece as Seen, text_head}
use Rattle.mod_segments.specs.Chunks.{IsItem, IsChunk}
use Rattle.mod_segments.specs.declared.piece.Piece.{Piece}
use Rattle.mod_segments.specs.declared.piece.PlacedPart.{PlacedPart}

-- the same piece
abbrev pub seen : Piece → Seen
seen x = record { section = x.section; address = x.address; bytes = x.bytes; chunks = x.chunks }

-- records can hold what the piece has
pub record IsPiece (x : Seen) : Type 0 where
  pub text : IsTextHead (text_head x)
  pub chunks : All IsChunk x.chunks

-- the address of the last byte of the item's field
abbrev pub last_byte : RldItem → ℕ
last_byte x = x.address + (field_length x - 1)

-- the part has a number of two bytes and ends within the greatest module, and its items stand in the order of their
-- last bytes, none of which is before the part
pub record IsPart (x : PlacedPart) : Type 0 where
  pub number : x.number < 2 ^ 16
  pub end : x.address + x.length ≤ 16777216
  pub each : All IsItem x.items.now
  pub ordered : IsNonDecreasingBy last_byte x.items.now
  pub inside : All (λ item. x.address ≤ last_byte item) x.items.now

-- the length of a piece: one byte or more, and no more than a record of text has
pub record IsPieceLength (n : ℕ) : Type 0 where
  pub some : 1 ≤ n
  pub most : n ≤ most_text
