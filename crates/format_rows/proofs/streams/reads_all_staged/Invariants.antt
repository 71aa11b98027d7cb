use Rattle.std.proofs.Common.{◌≡◌}
use Rattle.format_rows.proofs.streams.reads_all_staged.Given as goal

abbrev pub invariant-loop-before : goal.invariant-loop-before
invariant-loop-before g l =
    record {
      keeps : g.R.RecordSource.keeps l.r ≡ g.R.RecordSource.keeps l.initial.r;
      total : g.R.RecordSource.total l.r ≡ g.R.RecordSource.total l.initial.r;
    }
