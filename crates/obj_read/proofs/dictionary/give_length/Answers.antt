use Rattle.std.proofs.Common.{rules, sym, ◌∙◌, ap}
use Rattle.obj_read.specs.Module.{with_length}
use Rattle.obj_read.proofs.Positions.{given_at, passed_at}
use Rattle.obj_read.proofs.dictionary.give_length.Goals as goal

pub returns-then-lacks_length : goal.returns-then-lacks_length
returns-then-lacks_length c =
    given_at c.args.length c.loop-i.i c.loop-i.items c.item_at-x.result (search rules) (sym c.lacks_length.ensures ∙ c.if-lacks_length.true) c.loop-i.invariant.rest
    ∙ ap (λ xs. with_length c.args.length xs) c.loop-i.invariant.same

pub loop-i-preserved : goal.loop-i-preserved
loop-i-preserved c = record {
  same = c.loop-i.invariant.same;
  rest = passed_at c.args.length c.loop-i.i c.loop-i.items c.item_at-x.result (search rules) (sym c.lacks_length.ensures ∙ c.if-lacks_length.false) c.loop-i.invariant.rest;
}
