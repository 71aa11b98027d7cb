-- The pieces of records that are being written, as pieces are put after them and when all are there.
use Rattle.std.proofs.Common.{◌≡◌, ℕ, List, [], ◌∷◌, ◌++◌, Some, None, map, sym, ap, subst, ◌∙◌, append_assoc}
use Rattle.std.proofs.lemmas.List.{append-nil}
use Rattle.load_recs.specs.Records.{RldRecord, rec_bytes}
use Rattle.load_recs.specs.declared.records.Ends.{Ends}
use Rattle.member_model.specs.Facts.{nothing_ends}
use Rattle.member_model.specs.Pieces.{Piece as Seen, piece_records, records_or_empty}
use Rattle.mod_segments.specs.Pieces.{seen}
use Rattle.mod_segments.specs.Records.{text_records, chunk_records, but_last, last_of}
use Rattle.mod_segments.specs.Writing.{GoesOn}
use Rattle.mod_segments.specs.declared.piece.Piece.{Piece}
use Rattle.mod_segments.specs.declared.recording.Records.{Records}
use Rattle.mod_segments.proofs.Recorded.{continued}

-- the first piece is held back
pub first_held : (records : Records) (x : Piece) (before : List Seen) → GoesOn records None before → GoesOn records (Some x) (before ++ seen x ∷ [])
first_held records x before (none, start) ends rest =
    subst (λ r. r.done ++ map rec_bytes (piece_records ends r.carried (seen x ∷ rest)) ≡ map rec_bytes (records_or_empty ends ((before ++ seen x ∷ []) ++ rest))) (sym start)
    (ap (λ v. map rec_bytes (records_or_empty ends ((v ++ seen x ∷ []) ++ rest))) (sym none))

-- the piece that was held back is written, and the next one is held back
pub next_held : (old new : Records) (y x : Piece) (before : List Seen) → GoesOn old (Some y) before
    → new ≡ record {
      done = old.done ++ map rec_bytes (text_records nothing_ends old.carried (seen y) ++ chunk_records (but_last y.chunks));
      carried = last_of y.chunks;
    }
    → GoesOn new (Some x) (before ++ seen x ∷ [])
next_held old new y x before so_far added ends rest =
    let total : List (List ℕ) = map rec_bytes (records_or_empty ends ((before ++ seen x ∷ []) ++ rest)) in
    subst (λ r. r.done ++ map rec_bytes (piece_records ends r.carried (seen x ∷ rest)) ≡ total) (sym added)
    (continued old.done total ends old.carried (seen y) (seen x) rest
    (so_far ends (seen x ∷ rest) ∙ ap (λ v. map rec_bytes (records_or_empty ends v)) (sym (append_assoc before (seen x ∷ []) rest))))

-- the piece that was held back is the last
pub last_written : (records : Records) (y : Piece) (ends : Ends) (pieces : List Seen) (all : List (List ℕ)) → GoesOn records (Some y) pieces
    → all ≡ records.done ++ map rec_bytes (piece_records ends records.carried (seen y ∷ [])) → all ≡ map rec_bytes (records_or_empty ends pieces)
last_written records y ends pieces all so_far written =
    written ∙ (so_far ends [] ∙ ap (λ v. map rec_bytes (records_or_empty ends v)) (append-nil pieces))

-- there is none
pub none_written : (records : Records) (ends : Ends) (pieces : List Seen) (all : List (List ℕ)) → GoesOn records None pieces
    → all ≡ records.done ++ rec_bytes (RldRecord ends []) ∷ [] → all ≡ map rec_bytes (records_or_empty ends pieces)
none_written records ends pieces all (none, start) written =
    written
    ∙ (ap (λ r. r.done ++ rec_bytes (RldRecord ends []) ∷ []) start ∙ ap (λ v. map rec_bytes (records_or_empty ends v)) (sym none))
