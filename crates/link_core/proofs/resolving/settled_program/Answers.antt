use Rattle.std.proofs.Common.{◌≡◌, [], sym, ◌∙◌, ap, subst}
use Rattle.std.specs.Prelude.{IsTrue}
use Rattle.linking_model.specs.Tree.{plain}
use Rattle.linking_model.specs.Settled.{settled, has_root_section}
use Rattle.addr_assign.specs.Laid.{are_in_tree}
use Rattle.link_core.specs.Programs.{root_program}
use Rattle.link_core.proofs.Rooted.{rooted}
use Rattle.link_core.proofs.resolving.settled_program.Goals as goal

pub returns-in-Ok : goal.returns-in-Ok
returns-in-Ok c =
    let is : c.settle.new.p ≡ root_program c.args.merged =
    c.in-Ok.ensures.answer.2
    ∙ (ap (λ t. settled t.tree [] c.in_ok-program.program) c.requires.plain
    ∙ ap (λ p. settled plain.tree [] p) c.in_ok-program.ensures.program) in (
      is,
      record {
        sound = c.in-Ok.ensures.sound c.in_ok-program.ensures.sound;
        in_tree = subst (λ p. IsTrue (are_in_tree plain.tree p)) (sym is) (rooted c.args.merged c.requires.root);
        root = subst (λ p. IsTrue (has_root_section p)) (sym c.in-Ok.ensures.answer.2) c.in-Ok.ensures.answer.1;
      },
    )
