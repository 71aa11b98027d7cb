use Rattle.std.proofs.Common.{◌≡◌, ◌++◌, map, take}
use Rattle.member_model.specs.Cuts.{together}
use Rattle.mod_parts.specs.Seen.{seen}
use Rattle.mod_heads.proofs.Summed.{address_bytes}
use Rattle.mod_heads.proofs.heads.put_addresses.Given as goal

abbrev pub invariant-loop-part : goal.invariant-loop-part
invariant-loop-part l =
    l.bytes.items ≡ l.fn.bytes.items ++ together (map (address_bytes l.list) (map seen (take l.part-index l.parts)))
