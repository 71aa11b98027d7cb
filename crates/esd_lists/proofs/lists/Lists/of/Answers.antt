use Rattle.std.proofs.Common.{◌≤◌, ◌∙◌, ap, sym, List, map, subst, length}
use Rattle.std.specs.List.{position_from}
use Rattle.sym_mod.specs.declared.program.Label.{Label}
use Rattle.sym_mod.specs.declared.program.Unknown.{Unknown}
use Rattle.linking_model.specs.Merged.{labels, unresolved}
use Rattle.esd_index.specs.Contents.{now_of}
use Rattle.esd_lists.specs.Held.{as_read}
use Rattle.esd_lists.specs.Numbered.{is_named_so}
use Rattle.esd_lists.proofs.Small.{labels_few, unresolved_few}
use Rattle.esd_lists.proofs.Numbers.{numbered}
use Rattle.esd_lists.proofs.lists.Lists.of.Goals as goal

pub of-requires-clause-labels : goal.of-requires-clause-labels
of-requires-clause-labels c =
    subst (λ (ls : List Label). length ls ≤ 32511) (sym (c.as_slice.ensures ∙ c.in_ok-labels.ensures)) (labels_few (map as_read c.args.reads.now) (now_of c.args.index.now) c.requires.holds.small c.requires.holds.indexed)

pub of-requires-clause-unknowns : goal.of-requires-clause-unknowns
of-requires-clause-unknowns c =
    subst (λ (us : List Unknown). length us ≤ 32511) (sym (c.as_slice-2.ensures ∙ c.in_ok-unresolved.ensures)) (unresolved_few (map as_read c.args.reads.now) (now_of c.args.index.now) c.requires.holds.small c.requires.holds.indexed)

pub returns-clause-meanings : goal.returns-clause-meanings
returns-clause-meanings c = record {
  of_labels = λ y. c.in_ok-meanings.ensures.labels y ∙ ap (λ (ls : List Label). position_from (is_named_so y) 0 (map (λ (x : Label). x.name) ls)) (c.as_slice.ensures ∙ c.in_ok-labels.ensures) ∙ numbered (λ (x : Label). x.name) y (labels (map as_read c.args.reads.now));
  of_unknowns = λ y. c.in_ok-meanings.ensures.unknowns y ∙ ap (λ (us : List Unknown). position_from (is_named_so y) 0 (map (λ (x : Unknown). x.name) us)) (c.as_slice-2.ensures ∙ c.in_ok-unresolved.ensures) ∙ numbered (λ (x : Unknown). x.name) y (unresolved (map as_read c.args.reads.now));
}
