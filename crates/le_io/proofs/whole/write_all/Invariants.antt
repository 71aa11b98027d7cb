use Rattle.std.proofs.Common.{length, ◌-◌, ◌≡◌, ◌≤◌, take}
use Rattle.le_io.specs.Counts.{Gains}
use Rattle.le_io.proofs.whole.write_all.Given as goal

abbrev pub invariant-loop-done : goal.invariant-loop-done
invariant-loop-done g l =
    record {
      inside : l.done ≤ length l.b;
      gained : Gains (g.K.Sink.held l.initial.k) (g.K.Sink.held l.k) (take l.done l.b);
      no_fault : g.K.Sink.faults l.k ≡ g.K.Sink.faults l.initial.k;
    }

abbrev pub decreases-loop-done : goal.decreases-loop-done
decreases-loop-done g l = length l.b - l.done
