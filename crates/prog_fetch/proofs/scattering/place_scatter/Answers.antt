use Rattle.std.proofs.Common.{◌≡◌, Err, false, sym, ◌∙◌}
use Rattle.member_model.specs.Placing.{may_scatter}
use Rattle.prog_fetch.specs.declared.fault.ScatterFault.TheVariants.{NotScatter}
use Rattle.prog_fetch.proofs.Heading.{any_answers, places_told, placement_some}
use Rattle.prog_fetch.proofs.scattering.place_scatter.Goals as goal

pub returns-else-may_scatter-clause-answer : goal.returns-else-may_scatter-clause-answer
returns-else-may_scatter-clause-answer g c =
    let none : may_scatter c.args.e.now ≡ false = sym c.may_scatter.ensures ∙ c.if-may_scatter.false in
    any_answers c.args.e.now c.args.areas.now (g.R.RecordSource.list c.args.r.now c.args.s.now) (g.R.RecordSource.total c.args.r.now)
    (g.R.RecordSource.lengths c.args.r.now) (Err NotScatter) (g.met.R.RecordSource.agrees c.args.r.now c.args.s.now) (λ records. none)

pub returns-then-may_scatter-clause-told : goal.returns-then-may_scatter-clause-told
returns-then-may_scatter-clause-told g c =
    places_told c.args.e.now c.args.areas.now (g.R.RecordSource.list c.args.r.now c.args.s.now) (g.R.RecordSource.total c.args.r.now) c.place_heads.result c.place_heads.ensures.answer

pub returns-then-may_scatter-clause-placement : goal.returns-then-may_scatter-clause-placement
returns-then-may_scatter-clause-placement g c =
    placement_some c.args.e.now c.args.areas.now (g.R.RecordSource.list c.args.r.now c.args.s.now) (g.R.RecordSource.total c.args.r.now) c.place_heads.result c.place_heads.ensures.answer
