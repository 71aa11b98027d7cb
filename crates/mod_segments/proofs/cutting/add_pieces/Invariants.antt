use Rattle.std.proofs.Common.{◌≡◌, ◌+◌, ◌++◌, List, map}
use Rattle.std.specs.List.{range_with_len}
use Rattle.member_model.specs.Pieces.{Piece as Seen}
use Rattle.mod_segments.specs.Writing.{IsReady, HasPieces}
use Rattle.mod_segments.proofs.Cut.{piece_number, ending_from, end_of_pieces}
use Rattle.mod_segments.proofs.cutting.add_pieces.Given as goal

abbrev pub invariant-loop-k : goal.invariant-loop-k
invariant-loop-k g l = record {
  made : (before : List Seen) → HasPieces l.fn.records before → HasPieces l.records
      (before ++ map (piece_number l.part.number l.part.address l.part.items.now l.most (g.T.PartText.text l.text)) (range_with_len 0 l.k));
  rest : l.rest ≡ ending_from (l.part.address + end_of_pieces l.most l.k l.part.length) l.part.items.now;
  ready : IsReady l.records;
}
