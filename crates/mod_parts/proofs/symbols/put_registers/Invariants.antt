use Rattle.std.proofs.Common.{◌≡◌, ◌++◌, All, map, take}
use Rattle.std.specs.List.{enumerate_from}
use Rattle.load_recs.specs.ItemBytes.{IsSymbol}
use Rattle.member_model.specs.SymbolList.{register_symbol}
use Rattle.mod_parts.proofs.symbols.put_registers.Given as goal

abbrev pub invariant-loop-i : goal.invariant-loop-i
invariant-loop-i l =
    (l.items.items ≡ l.fn.items.items ++ map (register_symbol l.list.program.registers) (take l.i (enumerate_from 0 l.list.program.registers))) × All IsSymbol l.items.items
