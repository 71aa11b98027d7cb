use Rattle.std.proofs.Common.{arith, ◌≡◌, ◌≤◌, ◌<◌, sym, ◌∙◌, ap, Some, None}
use Rattle.std.specs.Option.{option_or}
use Rattle.linking_model.specs.Tree.{parent_of}
use Rattle.relocate.specs.Listed.{if_listed, listing}
use Rattle.relocate.proofs.Holding.{parent_answer, parent_earlier, listing_below, listing_root}
use Rattle.relocate.proofs.branches.+holder.Goals as goal

pub holder-requires : goal.holder-requires
holder-requires t c =
    let up : parent_answer (parent_of c.args.tree.now.tree c.args.segment) ≡ Some c.in-Some.parent = sym c.parent.ensures ∙ c.in-Some.is in
    let earlier : (1 ≤ c.in-Some.parent) × (c.in-Some.parent < c.args.segment) =
    parent_earlier c.args.tree.now.tree c.args.segment c.in-Some.parent c.requires.tree c.requires.first c.requires.last up in
    let below : c.in-Some.parent < c.args.segment = earlier.1 in
    (omega (arith, below), (c.requires.tree, (earlier.0, omega (arith, below, c.requires.last))))

pub returns-in-Some-holder : goal.returns-in-Some-holder
returns-in-Some-holder t c =
    let up : parent_answer (parent_of c.args.tree.now.tree c.args.segment) ≡ Some c.in-Some.parent = sym c.parent.ensures ∙ c.in-Some.is in
    let found : listing c.args.tree.now.tree c.args.t.now.entries c.in-Some.parent c.args.target ≡ Some c.in-Some-holder.above = sym c.holder.ensures ∙ c.in-Some-holder.is in
    sym (listing_below c.args.tree.now.tree c.args.t.now.entries c.args.segment c.in-Some.parent c.args.target c.requires.tree c.requires.first c.requires.last up
    ∙ ap (λ x. option_or x (if_listed c.args.t.now.entries c.args.target c.args.segment)) found)

pub returns-in-None-holder : goal.returns-in-None-holder
returns-in-None-holder t c =
    let up : parent_answer (parent_of c.args.tree.now.tree c.args.segment) ≡ Some c.in-Some.parent = sym c.parent.ensures ∙ c.in-Some.is in
    let found : listing c.args.tree.now.tree c.args.t.now.entries c.in-Some.parent c.args.target ≡ None = sym c.holder.ensures ∙ c.in-None-holder.is in
    c.listed.ensures
    ∙ sym (listing_below c.args.tree.now.tree c.args.t.now.entries c.args.segment c.in-Some.parent c.args.target c.requires.tree c.requires.first c.requires.last up
    ∙ ap (λ x. option_or x (if_listed c.args.t.now.entries c.args.target c.args.segment)) found)

pub returns-in-None : goal.returns-in-None
returns-in-None t c =
    let up : parent_answer (parent_of c.args.tree.now.tree c.args.segment) ≡ None = sym c.parent.ensures ∙ c.in-None.is in
    c.listed-in-None.ensures
    ∙ sym (listing_root c.args.tree.now.tree c.args.t.now.entries c.args.segment c.args.target c.requires.tree c.requires.first c.requires.last up)
