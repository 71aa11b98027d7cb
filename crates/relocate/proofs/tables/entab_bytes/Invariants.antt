use Rattle.std.proofs.Common.{◌≡◌, ◌+◌, ◌*◌, take}
use Rattle.linking_model.specs.Linked.{address_of}
use Rattle.relocate.specs.Relocated.{placed_at}
use Rattle.relocate.proofs.Rows.{entab_front}
use Rattle.relocate.proofs.tables.entab_bytes.Given as goal

abbrev pub invariant-loop-i : goal.invariant-loop-i
invariant-loop-i l =
    take (8 + 12 * l.i) l.out ≡ entab_front l.p (address_of l.p (placed_at l.a)) l.entries l.seg l.i
