use Rattle.std.proofs.Common.{◌<◌, ◌-◌, vec_len}
use Rattle.le_io.specs.declared.store.TheConstants.{SET_LIMIT}
use Rattle.le_io.proofs.ReadSoFar.{ReadSoFar}
use Rattle.le_io.proofs.whole.read_all.Given as goal

abbrev pub invariant-loop-bytes : goal.invariant-loop-bytes
invariant-loop-bytes g l =
    record {
      so_far : ReadSoFar (g.S.Store.told l.initial.s) (g.S.Store.told l.s) (g.S.Store.counts l.initial.s) (g.S.Store.counts l.s) l.path l.bytes.items;
      room : 0 < vec_len l.buffer;
    }

abbrev pub decreases-loop-bytes : goal.decreases-loop-bytes
decreases-loop-bytes g l = SET_LIMIT - vec_len l.bytes
