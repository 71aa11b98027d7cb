use Rattle.std.proofs.Common.{sym, ◌∙◌}
use Rattle.obj_read.specs.Module.{constant}
use Rattle.obj_read.proofs.Leaders.{leads, leads_not}
use Rattle.obj_read.proofs.constants.with_constant.Goals as goal

pub returns-then-has_place : goal.returns-then-has_place
returns-then-has_place c =
    leads_not (constant c.args.items.now c.args.terms.now) c.args.terms.now c.args.k (record { r = 0; p = 0; flag = 0; address = 0 }) c.requires.within
    c.args.made.items c.requires.before (sym c.has_place.ensures ∙ c.if-has_place.true)

pub returns : goal.returns
returns c =
    leads (constant c.args.items.now c.args.terms.now) c.args.terms.now c.args.k (record { r = 0; p = 0; flag = 0; address = 0 }) c.requires.within
    c.args.made.items c.push.new.self.items c.in_ok-constant.field-0 c.requires.before
    (sym c.has_place.ensures ∙ c.if-has_place.false) c.in_ok-constant.ensures c.in_ok-push.ensures.items
