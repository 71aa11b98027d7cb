use Rattle.std.proofs.Common.{◌≡◌, ◌++◌, All, map, take}
use Rattle.load_recs.specs.ItemBytes.{IsSymbol}
use Rattle.member_model.specs.SymbolList.{label_symbol}
use Rattle.mod_parts.proofs.symbols.put_labels.Given as goal

abbrev pub invariant-loop-label : goal.invariant-loop-label
invariant-loop-label l =
    (l.items.items ≡ l.fn.items.items ++ map (label_symbol l.list) (take l.label-index l.list.program.labels)) × All IsSymbol l.items.items
