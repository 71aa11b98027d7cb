use Rattle.std.proofs.Common.{◌≡◌, ◌++◌, map, take}
use Rattle.member_model.specs.Chunks.{term_item}
use Rattle.mod_write.proofs.items.add_terms.Given as goal

abbrev pub invariant-loop-term : goal.invariant-loop-term
invariant-loop-term l = l.items.items ≡ l.fn.items.items ++ map (term_item l.list l.c) (take l.term-index l.term-items)
