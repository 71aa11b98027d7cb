use Rattle.std.proofs.Common.{◌≡◌, ◌++◌, ◌≤◌, drop}
use Rattle.mod_segments.specs.Chunks.{IsItem, begun, size, chunks_from}
use Rattle.mod_segments.proofs.chunking.filled.Given as goal

abbrev pub invariant-loop-item : goal.invariant-loop-item
invariant-loop-item l = record {
  made : l.made ++ chunks_from l.chunk (drop l.item-index l.rest) ≡ chunks_from (begun l.fn.first) l.rest;
  last : IsItem l.chunk.last;
  short : size l.chunk ≤ 240;
}
