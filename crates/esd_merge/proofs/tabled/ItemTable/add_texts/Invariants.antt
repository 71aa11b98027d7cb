use Rattle.std.proofs.Common.{◌≡◌, fold}
use Rattle.std.specs.Vec.Iter.{into_iter_items}
use Rattle.esd_lists.specs.Listed.{pushed}
use Rattle.esd_merge.specs.Tabled.{text_in}
use Rattle.esd_merge.proofs.tabled.ItemTable.add_texts.Given as goal

abbrev pub invariant-loop-f : goal.invariant-loop-f
invariant-loop-f l =
    fold (λ xs f. pushed xs (text_in l.self.homes.items f)) l.list (into_iter_items l.f-iterator)
    ≡ fold (λ xs f. pushed xs (text_in l.self.homes.items f)) l.initial.list (into_iter_items l.initial.f-iterator)
