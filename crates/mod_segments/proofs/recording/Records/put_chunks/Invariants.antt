use Rattle.std.proofs.Common.{◌≡◌, ◌++◌, map, take}
use Rattle.load_recs.specs.Records.{rec_bytes}
use Rattle.mod_segments.specs.Records.{chunk_records}
use Rattle.mod_segments.proofs.recording.Records.put_chunks.Given as goal

abbrev pub invariant-loop-chunk : goal.invariant-loop-chunk
invariant-loop-chunk l =
    l.self ≡ record l.fn.self { done = l.fn.self.done ++ map rec_bytes (chunk_records (take l.chunk-index l.chunks)) }
