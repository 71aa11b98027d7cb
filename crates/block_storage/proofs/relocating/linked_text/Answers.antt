use Rattle.std.proofs.Common.{◌+◌, ◌≤◌, ◌∷◌, [], All, IsTrue, sym, ◌∙◌, ap, subst}
use Rattle.linking_model.specs.Tree.{root}
use Rattle.text_store.specs.Whole.{content_of}
use Rattle.addr_assign.specs.Laid.{are_in_tree}
use Rattle.relocate.specs.Ready.{StandsInTree}
use Rattle.relocate.proofs.Steps.{HasLengths}
use Rattle.block_storage.proofs.Alone.{stand_all}
use Rattle.block_storage.proofs.Fitting.{near_each, sections_are}
use Rattle.block_storage.proofs.InBlock.{fits, links, stored_lengths}
use Rattle.block_storage.proofs.relocating.linked_text.Goals as goal

pub moved-requires : goal.moved-requires
moved-requires c =
    let stand : All (StandsInTree (root ∷ [])) c.args.p.now.sections =
    stand_all (root ∷ []) c.args.p.now (subst (λ t. IsTrue (are_in_tree t c.args.p.now)) c.requires.one c.requires.in_tree) in
    subst (All (λ n. c.args.origin + n ≤ 16777215)) (sym (ap (λ a. a.sections) c.requires.placed ∙ sections_are c.args.p.now))
    (near_each c.args.p.now c.args.origin stand c.requires.near)

pub relocate_all-requires-clause-fit : goal.relocate_all-requires-clause-fit
relocate_all-requires-clause-fit c =
    fits c.args.p.now c.args.origin c.args.tree.now.tree c.in_ok-tables.tables.entries c.args.a.now c.in_ok-addresses.addresses
    (record {
      sound = c.requires.sound;
      stand = stand_all (root ∷ []) c.args.p.now (subst (λ t. IsTrue (are_in_tree t c.args.p.now)) c.requires.one c.requires.in_tree);
      near = c.requires.near;
      one = c.requires.one;
      empty = c.in_ok-tables.ensures;
      placed = c.requires.placed;
      moves = c.in_ok-addresses.ensures;
    })

pub relocate_all-requires-clause-lengths : goal.relocate_all-requires-clause-lengths
relocate_all-requires-clause-lengths c =
    subst (λ X. HasLengths X c.args.p.now) (sym c.in_ok-text.ensures) (stored_lengths c.args.p.now)

pub returns : goal.returns
returns c =
    c.relocate_all.ensures.content
    ∙ links c.args.p.now c.args.origin c.args.tree.now.tree c.in_ok-tables.tables.entries c.args.a.now c.in_ok-addresses.addresses (content_of c.in_ok-text.text)
    (record {
      sound = c.requires.sound;
      stand = stand_all (root ∷ []) c.args.p.now (subst (λ t. IsTrue (are_in_tree t c.args.p.now)) c.requires.one c.requires.in_tree);
      near = c.requires.near;
      one = c.requires.one;
      empty = c.in_ok-tables.ensures;
      placed = c.requires.placed;
      moves = c.in_ok-addresses.ensures;
    })
    c.in_ok-text.ensures
