use Rattle.std.proofs.Common.{arith, ap, ◌∙◌, ◌++◌, List, ℕ, replicate}
use Rattle.std.proofs.lemmas.List.{take_rest}
use Rattle.list_text.proofs.Joining.{left_of_equal}
use Rattle.list_text.proofs.statements.push_rest.Goals as goal

pub returns : goal.returns
returns c =
    c.in_ok-extend_from_slice.ensures.items
    ∙ ap (λ (z : List ℕ). c.args.out.now.items ++ z) (take_rest (replicate 80 64) c.args.written ∙ left_of_equal c.args.written 80 64 (omega arith))
