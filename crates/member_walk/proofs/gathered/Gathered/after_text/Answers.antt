use Rattle.std.proofs.Common.{◌∷◌, [], ◌++◌, length, None, ap, ◌∙◌, arith}
use Rattle.member_model.specs.Facts.{ended_by}
use Rattle.member_walk.specs.Walked.{without_texts}
use Rattle.member_walk.proofs.Textless.{ended_text, right_length}
use Rattle.member_walk.proofs.gathered.Gathered.after_text.Goals as goal

pub returns : goal.returns
returns c = (
  right_length (length c.args.bytes.now) c.args.text.length (omega arith),
  c.ended_by.ensures
      ∙ (ap (ended_by c.self.inside.ends) c.taken.ensures
      ∙ (ap (λ ends. ended_by ends (without_texts (record c.args.self { due = None }))) (ap (λ F. F.ends) c.self.view_is)
      ∙ ended_text c.args.self.ends (record c.args.self { due = None })
      (c.args.self.texts ++ record { segment = c.args.self.segment; section = c.args.text.section; address = c.args.text.address; bytes = c.args.bytes.now } ∷ []))),
)
