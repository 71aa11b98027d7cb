use Rattle.std.proofs.Common.{◌+◌, ◌++◌, List, sym, ap, ◌∙◌, drop}
use Rattle.std.proofs.lemmas.List.{drop_more, drop_all}
use Rattle.pds_directory.specs.declared.entry.Span.{Span}
use Rattle.pds_directory.specs.Places.{ends_from}
use Rattle.pds_directory.proofs.Walk.{end_noted, no_ends_left, ends_rise}
use Rattle.pds_directory.proofs.places.ends_of.Goals as goal

pub loop-i-preserved : goal.loop-i-preserved
loop-i-preserved c =
    rw c.in_ok-note_end.ensures
    (end_noted (c.loop-i.i + 1) _ (drop (c.loop-i.i + 1) c.args.places.now) c.loop-i.ends.items _
    (ap (λ (x : List Span). c.loop-i.ends.items ++ ends_from (c.loop-i.i + 1) x) (sym (drop_more c.args.places.now c.loop-i.i _ c.loop-i-test.true)) ∙ c.loop-i.invariant))

pub returns-clause-ends : goal.returns-clause-ends
returns-clause-ends c =
    no_ends_left (c.loop-i.i + 1) c.loop-i.ends.items _
    (ap (λ (x : List Span). c.loop-i.ends.items ++ ends_from (c.loop-i.i + 1) x) (sym (drop_all c.loop-i.i c.args.places.now c.loop-i-test.false)) ∙ c.loop-i.invariant)

pub returns-clause-rise : goal.returns-clause-rise
returns-clause-rise c = rw (returns-clause-ends c) (ends_rise c.args.places.now)
