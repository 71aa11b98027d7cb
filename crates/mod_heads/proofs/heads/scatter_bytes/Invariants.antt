use Rattle.std.proofs.Common.{◌≡◌, map, flat_map}
use Rattle.std.specs.List.{range_with_len}
use Rattle.member_model.specs.Cuts.{together}
use Rattle.member_model.specs.Parts.{parts_in}
use Rattle.mod_heads.proofs.Summed.{address_bytes}
use Rattle.mod_heads.proofs.heads.scatter_bytes.Given as goal

abbrev pub invariant-loop-i : goal.invariant-loop-i
invariant-loop-i l = l.bytes.items ≡ together (map (address_bytes l.list) (flat_map (parts_in l.list) (range_with_len 1 l.i)))
