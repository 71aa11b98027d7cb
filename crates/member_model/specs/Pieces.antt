-- Text in pieces, with the chunks of relocation items that follow each, as the records of a segment (this project's
-- profile).
use Rattle.std.specs.Prelude.{ℕ, ◌+◌, ◌-◌, ◌*◌, Bool, true, ◌==◌, if◌then◌else◌, List, [], ◌∷◌, ◌++◌, map, filter, length, take, slice_get, unwrap_or}
use Rattle.std.specs.List.{enumerate_from}
use Rattle.load_recs.specs.Records.{Record, ControlRecord, RldRecord, ControlRldRecord, TextRecord}
use Rattle.load_recs.specs.declared.items.RldItem.{RldItem}
use Rattle.load_recs.specs.declared.records.Ends.{Ends}
use Rattle.load_recs.specs.declared.records.TextHead.{TextHead}
use Rattle.linking_model.specs.Numbers.{is_among}
use Rattle.member_model.specs.Symbols.{field_length}
use Rattle.member_model.specs.Facts.{nothing_ends}
use Rattle.member_model.specs.Cuts.{cuts}
use Rattle.member_model.specs.Chunks.{chunks, chunk_bytes}

-- a piece of the text of one section, and the bytes of the chunks that follow it
pub record Piece : Type 0 where
  pub section : ℕ
  pub address : ℕ
  pub bytes : List ℕ
  pub chunks : List (List ℕ)

-- ---- from text to pieces

-- the last byte of the item's field is one of the n from address a on
abbrev pub ends_among : ℕ → ℕ → RldItem → Bool
ends_among a n x = is_among a n (x.address + (field_length x - 1))

-- piece k of section `section`, which stands at an address and has these relocation items
abbrev pub piece_of : ℕ → ℕ → List RldItem → ℕ → ℕ × List ℕ → Piece
piece_of section address items n (k, bytes) = record {
  section = section;
  address = address + n * k;
  bytes = bytes;
  chunks = map chunk_bytes (chunks (filter (ends_among (address + n * k) (length bytes)) items));
}

-- the text of a section in pieces of n bytes, the last one shorter
unfoldable pub pieces : ℕ → ℕ → ℕ → List RldItem → List ℕ → List Piece
pieces n section address items bytes = map (piece_of section address items n) (enumerate_from 0 (cuts n bytes))

-- ---- from pieces to records

-- what a control record tells of the piece
abbrev pub text_head : Piece → TextHead
text_head x = record { address = x.address; length = length x.bytes; section = x.section }

-- a control record, with a chunk where one comes along
abbrev pub control_record : Ends → List ℕ → Piece → Record
control_record ends carried x =
    if length carried == 0 then ControlRecord ends (text_head x) else ControlRldRecord ends carried (text_head x)

-- the last chunks of a segment
abbrev pub last_records : Ends → List (List ℕ) → List Record
last_records ends [] = []
last_records ends (x ∷ []) = RldRecord ends x ∷ []
last_records ends (x ∷ y ∷ rest) = RldRecord nothing_ends x ∷ last_records ends (y ∷ rest)

-- of the chunks of a piece the last joins the next control record, and is a record of its own where there is none
unfoldable pub piece_records : Ends → List ℕ → List Piece → List Record
piece_records ends carried [] = []
piece_records ends carried (x ∷ []) =
    control_record (if length x.chunks == 0 then ends else nothing_ends) carried x ∷ TextRecord x.bytes ∷ last_records ends x.chunks
piece_records ends carried (x ∷ y ∷ rest) =
    let last = length x.chunks - 1 in
    control_record nothing_ends carried x ∷ TextRecord x.bytes ∷ map (λ chunk. RldRecord nothing_ends chunk) (take last x.chunks)
    ++ piece_records ends (unwrap_or (slice_get x.chunks last) []) (y ∷ rest)

-- a segment without text is one record without items
abbrev pub records_or_empty : Ends → List Piece → List Record
records_or_empty ends [] = RldRecord ends [] ∷ []
records_or_empty ends (x ∷ rest) = piece_records ends [] (x ∷ rest)

-- what the last record of segment s of so many ends
abbrev pub ends_at : ℕ → ℕ → Ends
ends_at count s = record { segment = true; «module» = s == count }
