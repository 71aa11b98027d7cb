use Rattle.std.proofs.Common.{◌≡◌, ◌++◌, map, take}
use Rattle.member_model.specs.Cuts.{together}
use Rattle.mod_heads.proofs.Summed.{label_bytes}
use Rattle.mod_heads.proofs.heads.put_label_numbers.Given as goal

abbrev pub invariant-loop-label : goal.invariant-loop-label
invariant-loop-label l =
    l.bytes.items ≡ l.fn.bytes.items ++ together (map (label_bytes l.list) (take l.label-index l.list.program.labels))
