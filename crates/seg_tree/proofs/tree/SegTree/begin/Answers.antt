use Rattle.std.proofs.Common.{rules, ◌≡◌, ◌+◌, ◌∷◌, sym}
use Rattle.seg_tree.specs.Nodes.{begun}
use Rattle.seg_tree.proofs.Growing.{begun_holds, begun_tree, seen_as}
use Rattle.seg_tree.proofs.tree.SegTree.begin.Goals as goal

pub invariant_of-self-in-Ok : goal.invariant_of-self-in-Ok
invariant_of-self-in-Ok c =
    begun_holds c.self.inside.root.value c.deref_mut.result.now c.hang.new.node c.self.inside.count c.self.inside.regions c.higher-self-inside.result c.self.inside.symbols.items c.push.new.self.items c.args.next c.args.point.now c.hang.result c.in-Ok.field-0
    c.self.invariant (search rules) (search rules) c.in-Ok.is c.deref_mut.ensures.value c.hang.ensures c.higher-self-inside.ensures (search rules)

pub returns-in-Ok-clause-ok : goal.returns-in-Ok-clause-ok
returns-in-Ok-clause-ok c =
    let grown : begun c.hang.new.node (c.self.inside.count + 1) ≡ c.args.next ∷ begun c.self.inside.root.value c.self.inside.count =
    begun_tree c.self.inside.root.value c.deref_mut.result.now c.hang.new.node c.self.inside.count c.self.inside.regions c.self.inside.symbols.items c.args.next c.hang.result c.in-Ok.field-0
    c.self.invariant (search rules) c.in-Ok.is c.deref_mut.ensures.value c.hang.ensures in
    seen_as c.args.self.now _ (begun c.self.inside.root.value c.self.inside.count) c.self.inside.symbols.items c.args.next c.args.point.now (sym c.self.view_is) grown (search rules)
