use Rattle.std.proofs.Common.{rules, arith, ◌≡◌, ◌∙◌, sym, ap, option_map, ℕ}
use Rattle.std.proofs.lemmas.Grind.{common_steps}
use Rattle.seg_tree.specs.Nodes.{found, found_in, passes}
use Rattle.seg_tree.specs.declared.node.Node.{out-Node}
use Rattle.seg_tree.proofs.Finding.{passes_own, passed_below, row, row_first}
use Rattle.seg_tree.proofs.node.+path_has.Goals as goal

pub returns-then-node-s : goal.returns-then-node-s
returns-then-node-s t c = grind (arith, common_steps, passes_own, row)

pub returns-in-Some-path_has : goal.returns-in-Some-path_has
returns-in-Some-path_has t c =
    passed_below _ (out-Node c.args.node.now).number (out-Node c.args.node.now).region c.args.a c.args.s c.args.passed c.is_or-in-Some.result (found c.in-Some.first.value c.args.s) (found_in (out-Node c.args.node.now).next c.args.s) (found c.args.node.now c.args.s) c.in-Some-path_has.answer (search rules)
    (row_first c.args.node.now c.in-Some.first c.args.s c.in-Some.is) c.is_or-in-Some.ensures
    (sym c.in-Some-path_has.is ∙ c.path_has.ensures ∙ ap (λ x. option_map (passes c.args.a c.args.s c.is_or-in-Some.result) (found x c.args.s)) c.deref.ensures)
