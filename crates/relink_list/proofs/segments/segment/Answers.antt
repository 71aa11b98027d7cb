use Rattle.std.proofs.Common.{◌∙◌, ap, sym, not}
use Rattle.relink_list.proofs.Beginning.{begun_at_region, begun_at_parent}
use Rattle.relink_list.proofs.segments.segment.Goals as goal

pub returns-then-stands_at_region : goal.returns-then-stands_at_region
returns-then-stands_at_region c =
    begun_at_region c.args.tree.now c.args.symbols.now c.args.k _ c.symbol_name.result _ c.in_ok-inserts.inserts
    c.requires.there (sym c.stands_at_region.ensures ∙ c.if-stands_at_region.true) c.symbol_name.ensures (ap not c.has_region.ensures) c.in_ok-inserts.ensures

pub returns-else-stands_at_region : goal.returns-else-stands_at_region
returns-else-stands_at_region c =
    begun_at_parent c.args.tree.now c.args.symbols.now c.args.k _ c.symbol_name-else-stands_at_region.result c.in_ok-inserts.inserts
    c.requires.there (sym c.stands_at_region.ensures ∙ c.if-stands_at_region.false) c.symbol_name-else-stands_at_region.ensures c.in_ok-inserts.ensures
