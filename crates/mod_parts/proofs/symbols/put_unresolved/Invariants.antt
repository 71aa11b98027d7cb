use Rattle.std.proofs.Common.{◌≡◌, ◌++◌, All, map, take}
use Rattle.load_recs.specs.ItemBytes.{IsSymbol}
use Rattle.member_model.specs.SymbolList.{unresolved_symbol}
use Rattle.mod_parts.proofs.symbols.put_unresolved.Given as goal

abbrev pub invariant-loop-unknown : goal.invariant-loop-unknown
invariant-loop-unknown l =
    (l.items.items ≡ l.fn.items.items ++ map unresolved_symbol (take l.unknown-index l.list.program.unresolved)) × All IsSymbol l.items.items
