use Rattle.std.proofs.Common.{◌≡◌, ◌++◌, All, map, flat_map}
use Rattle.std.specs.List.{range_with_len}
use Rattle.load_recs.specs.ItemBytes.{IsSymbol}
use Rattle.member_model.specs.Parts.{parts_in}
use Rattle.member_model.specs.SymbolList.{part_symbol}
use Rattle.mod_parts.proofs.symbols.put_parts.Given as goal

abbrev pub invariant-loop-i : goal.invariant-loop-i
invariant-loop-i l =
    (l.items.items ≡ l.fn.items.items ++ map (part_symbol l.list) (flat_map (parts_in l.list) (range_with_len 1 l.i))) × All IsSymbol l.items.items
