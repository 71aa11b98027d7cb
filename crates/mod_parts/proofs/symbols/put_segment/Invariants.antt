use Rattle.std.proofs.Common.{◌≡◌, ◌++◌, All, map, take}
use Rattle.load_recs.specs.ItemBytes.{IsSymbol}
use Rattle.member_model.specs.SymbolList.{part_symbol}
use Rattle.mod_parts.specs.Seen.{seen}
use Rattle.mod_parts.proofs.symbols.put_segment.Given as goal

abbrev pub invariant-loop-part : goal.invariant-loop-part
invariant-loop-part l =
    (l.items.items ≡ l.fn.items.items ++ map (part_symbol l.list) (map seen (take l.part-index l.parts))) × All IsSymbol l.items.items
