use Rattle.std.proofs.Common.{◌≡◌, ◌+◌, ◌*◌, take}
use Rattle.relocate.proofs.Rows.{segtab_front}
use Rattle.relocate.proofs.tables.segtab_bytes.Given as goal

abbrev pub invariant-loop-i : goal.invariant-loop-i
invariant-loop-i l = take (8 + 4 * l.i) l.out ≡ segtab_front l.t.tree l.i
