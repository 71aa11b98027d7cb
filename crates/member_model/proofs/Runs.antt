-- Runs of members.
use Rattle.std.proofs.Common.{refl}
use Rattle.member_model.specs.ByteRun.{run_from}
use Rattle.member_model.specs.Laws.{RefusedEventsChangeNothing}

pub refused_events_change_nothing : RefusedEventsChangeNothing
unfolding run_from
refused_events_change_nothing m S e events why refused = rw refused refl
