use Rattle.std.proofs.Common.{◌*◌, length, arith}
use Rattle.hex.proofs.HexLemmas.{length-encode_with}
use Rattle.hex.specs.Hex.{encode_lower, lower_digits}
use Rattle.list_text.proofs.Placing.{put_piece}
use Rattle.list_text.proofs.pieces.put_bytes.Goals as goal

pub returns-clause-puts : goal.returns-clause-puts
returns-clause-puts c =
    put_piece c.args.line.now (encode_lower c.args.b.now) _ c.args.at _ (2 * length c.args.b.now)
    (rw c.unwrap.ensures at c.encode_to_slice.ensures.written) (length-encode_with lower_digits c.args.b.now) (omega arith) (omega arith)
