use Rattle.std.proofs.Common.{◌∙◌, sym}
use Rattle.sym_edit.proofs.Clashing.{clash_counted, clash_both, clash_none}
use Rattle.sym_edit.proofs.judging.clashes.Goals as goal

pub returns-then-eq : goal.returns-then-eq
returns-then-eq c = clash_counted c.args.old.now c.args.new.now c.args.items.now c.is_defined_twice.result (sym c.eq.ensures ∙ c.if-eq.true) c.is_defined_twice.ensures

pub returns-then-is_defined : goal.returns-then-is_defined
returns-then-is_defined c =
    clash_both c.args.old.now c.args.new.now c.args.items.now c.is_defined-then-is_defined.result (sym c.eq.ensures ∙ c.if-eq.false) (sym c.is_defined.ensures ∙ c.if-is_defined.true)
    c.is_defined-then-is_defined.ensures

pub returns-else-is_defined : goal.returns-else-is_defined
returns-else-is_defined c =
    clash_none c.args.old.now c.args.new.now c.args.items.now c.is_defined.result (sym c.eq.ensures ∙ c.if-eq.false) c.is_defined.ensures c.if-is_defined.false
