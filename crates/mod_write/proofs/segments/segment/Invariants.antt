use Rattle.std.proofs.Common.{map, take}
use Rattle.std.specs.Prelude.{flat_map}
use Rattle.member_model.specs.Written.{part_pieces}
use Rattle.mod_parts.specs.Seen.{seen}
use Rattle.mod_segments.specs.Writing.{IsReady, HasPieces}
use Rattle.mod_write.proofs.segments.segment.Given as goal

abbrev pub invariant-loop-part : goal.invariant-loop-part
invariant-loop-part g l = record {
  made : HasPieces l.records (flat_map (part_pieces l.from.list.now l.from.piece) (map seen (take l.part-index l.parts)));
  ready : IsReady l.records;
}
