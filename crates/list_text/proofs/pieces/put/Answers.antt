use Rattle.std.proofs.Common.{length, refl, arith}
use Rattle.list_text.proofs.Placing.{put_piece}
use Rattle.list_text.proofs.pieces.put.Goals as goal

pub returns : goal.returns
returns c =
    put_piece c.args.line.now c.args.text.now _ c.args.at _ (length c.args.text.now)
    c.copy_from_slice.ensures.after refl (omega arith) (omega arith)
