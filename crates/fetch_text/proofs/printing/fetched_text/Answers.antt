use Rattle.fetch_text.proofs.Answering.{stopped, stopped_some, refused, refused_some}
use Rattle.fetch_text.proofs.printing.fetched_text.Goals as goal

pub returns-in-Ok-clause-answer : goal.returns-in-Ok-clause-answer
returns-in-Ok-clause-answer g c =
    stopped_some (g.R.RecordSource.list c.args.r.now c.args.s.now) (g.R.RecordSource.total c.args.r.now) c.args.e.now c.args.origin c.in-Ok.placement
    c.in-Err-fetch.fault c.stop_of.result c.in-Ok.ensures c.stop_of.ensures c.in-Err-fetch.ensures.answer

pub returns-in-Ok-clause-told : goal.returns-in-Ok-clause-told
returns-in-Ok-clause-told g c = λ records is.
    stopped c.args.e.now records c.args.origin c.in-Ok.placement c.in-Err-fetch.fault c.stop_of.result c.in-Ok.ensures c.stop_of.ensures
    (c.in-Err-fetch.ensures.told records is)

pub returns-clause-answer : goal.returns-clause-answer
returns-clause-answer g c =
    refused_some (g.R.RecordSource.list c.args.r.now c.args.s.now) (g.R.RecordSource.total c.args.r.now) (g.R.RecordSource.lengths c.args.r.now)
    c.args.e.now c.args.origin c.in-Err.what (g.met.R.RecordSource.agrees c.args.r.now c.args.s.now) c.in-Err.ensures

pub returns-clause-told : goal.returns-clause-told
returns-clause-told g c = λ records is. refused c.args.e.now records c.args.origin c.in-Err.what c.in-Err.ensures
