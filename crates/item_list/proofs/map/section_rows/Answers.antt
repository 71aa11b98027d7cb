use Rattle.item_list.proofs.Rows.{rows_of_more}
use Rattle.item_list.proofs.map.section_rows.Goals as goal

pub loop-k-preserved : goal.loop-k-preserved
loop-k-preserved c =
    rows_of_more c.args.origin c.args.symbols.now c.loop-k.k _ c.loop-k.rows.items _ c.list_at.result.now _ c.in_ok-labels.labels.items
    c.loop-k-test.true c.in_ok-labels.ensures c.list_at.ensures c.in_ok-push_section.ensures c.loop-k.invariant
