use Rattle.std.proofs.Common.{arith, ltb}
use Rattle.std.proofs.lemmas.List.Sums.{prefix_len-le-length}
use Rattle.pds_directory.proofs.Halving.{number_up, number_down}
use Rattle.pds_directory.proofs.directory.number_place.Goals as goal

pub loop-low-init : goal.loop-low-init
loop-low-init c = (omega arith, prefix_len-le-length (λ e. ltb e c.args.k) c.args.numbers.now, omega arith)

pub loop-low-preserved-then-numbers-middle : goal.loop-low-preserved-then-numbers-middle
loop-low-preserved-then-numbers-middle c =
    number_up c.args.numbers.now c.args.k _ c.loop-low.high c.requires (omega arith) c.if-numbers-middle.true c.loop-low.invariant.1 c.loop-low.invariant.2

pub loop-low-preserved : goal.loop-low-preserved
loop-low-preserved c =
    number_down c.args.numbers.now c.args.k c.loop-low.low _ (omega arith) c.if-numbers-middle.false c.loop-low.invariant.0
