use Rattle.std.proofs.Common.{◌≡◌, ◌++◌, drop, map, filter}
use Rattle.load_recs.specs.declared.items.SymbolItem.{SymbolItem}
use Rattle.member_model.specs.Relink.{is_inserted}
use Rattle.relink_list.proofs.segments.inserts.Given as goal

abbrev pub invariant-loop-x : goal.invariant-loop-x
invariant-loop-x l =
    l.names ++ map (λ (x : SymbolItem). x.name) (filter (is_inserted l.s) (drop l.x-index l.symbols))
    ≡ map (λ (x : SymbolItem). x.name) (filter (is_inserted l.s) l.symbols)
