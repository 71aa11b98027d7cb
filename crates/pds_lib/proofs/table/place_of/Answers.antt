use Rattle.std.proofs.Common.{sym, arith}
use Rattle.std.proofs.lemmas.List.Sums.{prefix_len-le-length}
use Rattle.pds_directory.specs.Parts.{is_below}
use Rattle.pds_lib.specs.Stored.{row_name}
use Rattle.pds_lib.proofs.Halving.{name_up, name_down}
use Rattle.pds_lib.proofs.table.place_of.Goals as goal

pub loop-low-init : goal.loop-low-init
loop-low-init c = (omega arith, prefix_len-le-length (λ r. is_below (row_name r) c.args.n.now) c.args.rows.now, omega arith)

pub loop-low-preserved-then-is_below : goal.loop-low-preserved-then-is_below
loop-low-preserved-then-is_below c =
    name_up row_name c.args.rows.now c.args.n.now _ c.loop-low.high _ c.requires (omega arith) (sym c.if-is_below.ensures) c.loop-low.invariant.1 c.loop-low.invariant.2

pub loop-low-preserved : goal.loop-low-preserved
loop-low-preserved c =
    name_down row_name c.args.rows.now c.args.n.now c.loop-low.low _ _ (omega arith) (sym c.if-is_below.ensures) c.loop-low.invariant.0
