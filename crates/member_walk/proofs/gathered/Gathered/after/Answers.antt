use Rattle.std.proofs.Common.{sym, ap, ◌∙◌}
use Rattle.member_walk.proofs.Textless.{kept_head, kept_text}
use Rattle.member_walk.proofs.gathered.Gathered.after.Goals as goal

pub returns-in-Some : goal.returns-in-Some
returns-in-Some c =
    kept_text c.args.e.now c.args.self c.in-Some.text c.args.bytes.now c.after_text.result (sym (ap (λ F. F.due) c.self.view_is) ∙ c.in-Some.is) c.after_text.ensures

pub returns-in-None : goal.returns-in-None
returns-in-None c =
    kept_head c.args.e.now c.args.self c.args.bytes.now c.after_head.result (sym (ap (λ F. F.due) c.self.view_is) ∙ c.in-None.is) (sym (ap (λ F. F.texts) c.self.view_is)) c.after_head.ensures
