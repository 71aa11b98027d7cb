use Rattle.std.proofs.Common.{◌≡◌, ◌++◌, map, replicate}
use Rattle.byteorder.specs.Endian.{big_bytes}
use Rattle.member_model.specs.Cuts.{together}
use Rattle.mod_heads.proofs.heads.put_zeros.Given as goal

abbrev pub invariant-loop : goal.invariant-loop
invariant-loop l = l.bytes.items ≡ l.fn.bytes.items ++ together (map (big_bytes 2) (replicate l.counter 0))
