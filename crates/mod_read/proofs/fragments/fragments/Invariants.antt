use Rattle.std.proofs.Common.{◌≡◌, [], fold, length}
use Rattle.std.specs.Vec.Iter.{into_iter_items, into_iter_len}
use Rattle.mod_read.specs.Gathered.{with_text}
use Rattle.mod_read.proofs.fragments.fragments.Given as goal

abbrev pub invariant-loop-text : goal.invariant-loop-text
invariant-loop-text l = record {
  made : fold (with_text l.numbering) l.made.items (into_iter_items l.text-iterator) ≡ fold (with_text l.numbering) [] (into_iter_items l.initial.text-iterator);
  left : into_iter_len l.text-iterator ≡ length (into_iter_items l.text-iterator);
}
