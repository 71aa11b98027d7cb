use Rattle.std.proofs.Common.{◌≡◌}
use Rattle.prog_fetch.specs.Reading.{HasText}
use Rattle.prog_fetch.specs.Sources.{seen, Stays, NothingFailed}
use Rattle.prog_fetch.proofs.fetching.read_texts.Given as goal

abbrev pub invariant-loop-before : goal.invariant-loop-before
invariant-loop-before g l =
    let see = seen g.R.RecordSource.list g.R.RecordSource.total g.R.RecordSource.lengths g.R.RecordSource.keeps g.R.RecordSource.held g.S.Store.told g.R.RecordSource.faults g.S.Store.counts in
    record {
      text : HasText l.task.entry.now (g.R.RecordSource.list l.initial.r l.initial.s) (g.R.RecordSource.total l.initial.r) l.task.placement.now l.walk l.parts;
      counted : l.walk.number ≡ l.before;
      stays : Stays (see l.initial.r l.initial.s) (see l.r l.s);
      none_failed : NothingFailed (see l.initial.r l.initial.s) (see l.r l.s);
    }
