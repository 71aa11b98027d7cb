use Rattle.std.proofs.Common.{◌≡◌, take}
use Rattle.le_io.specs.Counts.{WhereTold, NoneFalls, NoFault}
use Rattle.lib_stream.specs.Sources.{SameRecords, SameHeld}
use Rattle.format_rows.proofs.streams.read_each.Given as goal

abbrev pub invariant-loop-before : goal.invariant-loop-before
invariant-loop-before g l =
    record {
      told : WhereTold (g.R.RecordSource.list l.initial.r l.initial.s) (λ told. l.records ≡ take l.before told);
      stays : SameRecords (g.R.RecordSource.list l.initial.r l.initial.s) (g.R.RecordSource.list l.r l.s) (g.R.RecordSource.total l.initial.r) (g.R.RecordSource.total l.r) (g.R.RecordSource.lengths l.initial.r) (g.R.RecordSource.lengths l.r);
      holds : SameHeld (g.R.RecordSource.keeps l.initial.r) (g.R.RecordSource.keeps l.r) (g.R.RecordSource.held l.initial.r) (g.R.RecordSource.held l.r);
      store : g.S.Store.told l.s ≡ g.S.Store.told l.initial.s;
      counts : NoneFalls (g.S.Store.counts l.initial.s) (g.S.Store.counts l.s);
      faults : g.R.RecordSource.faults l.r l.s ≡ g.R.RecordSource.faults l.initial.r l.initial.s;
      no_fault : NoFault (g.S.Store.counts l.initial.s) (g.S.Store.counts l.s);
    }
