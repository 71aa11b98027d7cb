use Rattle.std.proofs.Common.{◌≡◌, arith, ◌+◌, ◌*◌, ◌++◌, ◌∙◌, ap, length}
use Rattle.relocate.proofs.Rows.{longer, segment_bytes, segtab_front, segment_more, segtab_whole}
use Rattle.relocate.proofs.tables.segtab_bytes.Goals as goal

pub loop-i-preserved : goal.loop-i-preserved
loop-i-preserved c =
    let row : c.copy_from_slice-in-loop-i.new.self ≡ segment_bytes c.args.t.now.tree (c.loop-i.i + 1) =
    c.copy_from_slice-in-loop-i.ensures.after ∙ c.segment_row.ensures in
    longer (8 + 4 * c.loop-i.i) (8 + 4 * (c.loop-i.i + 1)) _ c.loop-i.out (segtab_front c.args.t.now.tree c.loop-i.i) c.copy_from_slice-in-loop-i.new.self
    c.loop-i.invariant (omega (arith, c.loop-i-test.true)) (omega (arith, ap length row))
    ∙ (ap (λ l. segtab_front c.args.t.now.tree c.loop-i.i ++ l) row ∙ segment_more c.args.t.now.tree c.loop-i.i)

pub returns : goal.returns
returns c =
    segtab_whole c.args.t.now.tree c.loop-i.i (8 + 4 * c.loop-i.i) c.loop-i.out c.loop-i.invariant (omega arith) (omega arith)
