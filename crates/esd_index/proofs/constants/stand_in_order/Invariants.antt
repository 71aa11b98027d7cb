use Rattle.std.proofs.Common.{◌≡◌, drop}
use Rattle.esd_index.specs.Sorted.{rise_from}
use Rattle.esd_index.proofs.constants.stand_in_order.Given as goal

abbrev pub invariant-loop-constant : goal.invariant-loop-constant
invariant-loop-constant l = rise_from l.item l.offset (drop l.constant-index l.constants) ≡ rise_from 0 0 l.constants
