use Rattle.std.proofs.Common.{List, Some, ◌++◌, ◌∷◌, [], sym, subst, ◌∙◌}
use Rattle.std.proofs.lemmas.List.Elements.{All-push}
use Rattle.member_model.specs.Pieces.{Piece as Seen}
use Rattle.mod_segments.specs.Pieces.{seen, IsPiece}
use Rattle.mod_segments.specs.Writing.{GoesOn}
use Rattle.mod_segments.proofs.Writing.{next_held}
use Rattle.mod_segments.proofs.recording.SegmentRecords.put.Goals as goal

pub returns-in_ok-said-clause-pieces : goal.returns-in_ok-said-clause-pieces
returns-in_ok-said-clause-pieces c before has =
    let all : List Seen = before ++ seen c.args.piece ∷ [] in
    let added : GoesOn c.add.new.self (Some c.args.piece) all =
    next_held c.args.self.now.records c.add.new.self c.in-Some.before c.args.piece before
    (subst (λ held. GoesOn c.args.self.now.records held before) (sym c.replace.ensures.value ∙ c.in-Some.is) has.written) c.in_ok-said.ensures.value in
    record {
      each = All-push IsPiece before (seen c.args.piece) has.each c.requires.piece;
      written = subst (λ records. GoesOn records c.keep.new.self.held all) (sym c.keep.ensures.records)
          (subst (λ held. GoesOn c.add.new.self held all) (sym (c.keep.ensures.held ∙ c.replace.ensures.after)) added);
    }
