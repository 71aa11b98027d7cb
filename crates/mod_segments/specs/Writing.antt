-- The records of a segment that is being written, of which the last piece is held back until it is known whether others follow.
use Rattle.std.specs.Prelude.{◌≡◌, ⊤, List, [], ◌∷◌, ◌++◌, Option, None, Some, map, All}
use Rattle.load_recs.specs.Records.{rec_bytes, AreRlds}
use Rattle.load_recs.specs.declared.records.Ends.{Ends}
use Rattle.member_model.specs.Pieces.{Piece as Seen, piece_records, records_or_empty}
use Rattle.mod_segments.specs.Pieces.{seen, IsPiece}
use Rattle.mod_segments.specs.declared.piece.Piece.{Piece}
use Rattle.mod_segments.specs.declared.recording.Records.{Records}
use Rattle.mod_segments.specs.declared.recording.SegmentRecords.{SegmentRecords}

-- records can hold what the piece has, if there is one
abbrev pub FitsHeld : Option Piece → Type 0
FitsHeld None = ⊤
FitsHeld (Some x) = IsPiece (seen x)

-- records can hold the chunk that joins the next control record, and the piece that is held back
pub record IsReady (x : SegmentRecords) : Type 0 where
  pub carried : AreRlds x.records.carried
  pub held : FitsHeld x.held

-- with any pieces after these, the records of all are those that are there, then those of the piece that is held back
-- and of the others; without a piece nothing is there
abbrev pub GoesOn : Records → Option Piece → List Seen → Type 0
GoesOn records None pieces = (pieces ≡ []) × (records ≡ record { done = []; carried = [] })
GoesOn records (Some x) pieces =
    (ends : Ends) (rest : List Seen)
    → records.done ++ map rec_bytes (piece_records ends records.carried (seen x ∷ rest)) ≡ map rec_bytes (records_or_empty ends (pieces ++ rest))

-- these are its pieces
pub record HasPieces (x : SegmentRecords) (pieces : List Seen) : Type 0 where
  pub each : All IsPiece pieces
  pub written : GoesOn x.records x.held pieces
