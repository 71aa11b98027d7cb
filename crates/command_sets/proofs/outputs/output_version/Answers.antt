use Rattle.std.proofs.Common.{arith, refl, sym, ◌∙◌, ap}
use Rattle.command_sets.specs.Libraries.{output_in}
use Rattle.command_sets.proofs.OutputSets.{is_found, is_later, is_new}
use Rattle.command_sets.proofs.outputs.output_version.Goals as goal

pub loop-set-init : goal.loop-set-init
loop-set-init c = refl

pub returns-then-eq : goal.returns-then-eq
returns-then-eq c =
    c.version_in.ensures
    ∙ ap (λ lib. lib.version)
    (is_found c.args.new c.args.sets.now c.loop-set.set-index (output_in c.args.new c.args.sets.now) c.loop-set.invariant c.set-item.result c.loop-set-test.true c.set-item.is
    (sym c.eq.ensures ∙ c.if-eq.true))

pub loop-set-preserved : goal.loop-set-preserved
loop-set-preserved c =
    is_later c.args.new c.args.sets.now c.loop-set.set-index (output_in c.args.new c.args.sets.now) c.loop-set.invariant c.set-item.result c.loop-set-test.true c.set-item.is
    (sym c.eq.ensures ∙ c.if-eq.false)

pub returns : goal.returns
returns c =
    ap (λ lib. lib.version)
    (is_new c.args.new c.args.sets.now c.loop-set.set-index (output_in c.args.new c.args.sets.now) c.loop-set.invariant (omega (arith, c.loop-set-test.false)))
