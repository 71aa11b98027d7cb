use Rattle.std.proofs.Common.{lit<}
use Rattle.command_words.proofs.CutLemmas.{split_whole, split_cut}
use Rattle.command_words.proofs.areas.first_piece.Goals as goal

pub returns-in-Some-clause-parts : goal.returns-in-Some-clause-parts
returns-in-Some-clause-parts c =
    let cut = c.in-Some.ensures.byte (lit< tt) (λ w o h. h) in
    split_cut 44 c.args.text.now c.in-Some.piece.now c.in-Some.rest.now cut.0 cut.1 cut.2

pub returns-in-None-clause-parts : goal.returns-in-None-clause-parts
returns-in-None-clause-parts c = split_whole 44 c.args.text.now (c.in-None.ensures.byte (lit< tt) (λ w o h. h))
