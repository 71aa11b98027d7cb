-- What the records of a segment are made of, and that a library can hold each.
use Rattle.std.specs.Prelude.{ℕ, ◌-◌, ◌^◌, ◌<◌, List, [], ◌∷◌, map, length, take, slice_get, unwrap_or}
use Rattle.load_recs.specs.Records.{Record, RldRecord, TextRecord}
use Rattle.load_recs.specs.declared.records.Ends.{Ends}
use Rattle.member_model.specs.Facts.{nothing_ends}
use Rattle.member_model.specs.Pieces.{Piece, control_record}

-- a record of a library has 1 to 65,535 bytes
pub record IsStored (bytes : List ℕ) : Type 0 where
  pub some : 0 < length bytes
  pub most : length bytes < 2 ^ 16

-- a control record, with the chunk that joins it, and the text of the piece
abbrev pub text_records : Ends → List ℕ → Piece → List Record
text_records ends carried x = control_record ends carried x ∷ TextRecord x.bytes ∷ []

-- a record for each chunk, with which nothing ends
abbrev pub chunk_records : List (List ℕ) → List Record
chunk_records chunks = map (λ chunk. RldRecord nothing_ends chunk) chunks

-- the chunks but the last
abbrev pub but_last : List (List ℕ) → List (List ℕ)
but_last chunks = take (length chunks - 1) chunks

-- the last chunk, empty where there is none
abbrev pub last_of : List (List ℕ) → List ℕ
last_of chunks = unwrap_or (slice_get chunks (length chunks - 1)) []
