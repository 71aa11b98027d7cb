use Rattle.std.proofs.Common.{◌∙◌, length-take-le, arith}
use Rattle.hex.proofs.HexLemmas.{length-encode_with}
use Rattle.hex.specs.Hex.{encode_lower, lower_digits}
use Rattle.map_list.specs.Printed.{a6}
use Rattle.map_list.specs.Dumps.{dump_line}
use Rattle.map_list.proofs.Dumping.{filled_text, filled_rest}
use Rattle.map_list.proofs.dumps.dump_line.Goals as goal

pub returns-clause-text : goal.returns-clause-text
unfolding dump_line
returns-clause-text c =
    filled_text _ _ c.args.out.now (a6 c.args.address) (encode_lower c.args.b.now) _
    (c.copy_from_slice.ensures.after ∙ c.address_digits.ensures) (rw c.unwrap.ensures at c.encode_to_slice.ensures.written)
    (c.copy_from_slice.ensures.len ∙ length-take-le 6 c.args.out.now (omega arith))
    (length-encode_with lower_digits c.args.b.now) (omega arith)

pub returns-clause-rest : goal.returns-clause-rest
returns-clause-rest c =
    filled_rest _ _ c.args.out.now (encode_lower c.args.b.now) _
    (rw c.unwrap.ensures at c.encode_to_slice.ensures.written)
    (c.copy_from_slice.ensures.len ∙ length-take-le 6 c.args.out.now (omega arith))
    (length-encode_with lower_digits c.args.b.now) (omega arith)
