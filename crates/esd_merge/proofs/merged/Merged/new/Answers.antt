use Rattle.std.proofs.Common.{◌≡◌, ◌∙◌, ap, sym, List, [], map, subst}
use Rattle.esd_lists.specs.declared.reading.Reading.{Reading}
use Rattle.esd_lists.specs.Indexed.{content_of}
use Rattle.esd_lists.specs.Held.{as_read, AreMarked}
use Rattle.esd_merge.specs.Added.{IsMerged}
use Rattle.esd_merge.proofs.Joining.{none_merged, none_content}
use Rattle.esd_merge.proofs.merged.Merged.new.Goals as goal

pub invariant_of-result : goal.invariant_of-result
invariant_of-result c =
    let none : c.new.result.items ≡ [] = c.new.ensures.items in
    record {
      merged = subst (λ (xs : List Reading). IsMerged (map as_read xs)) (sym none) none_merged;
      indexed = c.new-2.ensures.now ∙ sym none_content ∙ sym (ap (λ (xs : List Reading). content_of (map as_read xs)) none);
      saved = c.new-2.ensures.marked ∙ c.new-2.ensures.now ∙ sym none_content ∙ sym (ap (λ (xs : List Reading). content_of (map as_read xs)) none);
      marked = subst (λ (xs : List Reading). AreMarked (map as_read xs) xs) (sym none) (λ k x e j. absurd cc);
    }
