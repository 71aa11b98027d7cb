use Rattle.std.proofs.Common.{◌≡◌, map, take}
use Rattle.load_recs.specs.ItemBytes.{symbol_bytes}
use Rattle.member_model.specs.Cuts.{together}
use Rattle.mod_heads.proofs.heads.symbols_bytes.Given as goal

abbrev pub invariant-loop-item : goal.invariant-loop-item
invariant-loop-item l = l.bytes.items ≡ together (map symbol_bytes (take l.item-index l.items))
