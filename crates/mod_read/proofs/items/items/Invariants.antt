use Rattle.std.proofs.Common.{◌≡◌, [], fold, drop}
use Rattle.mod_read.specs.Gathered.{with_symbol}
use Rattle.mod_read.proofs.items.items.Given as goal

abbrev pub invariant-loop-x : goal.invariant-loop-x
invariant-loop-x l = fold (with_symbol l.numbering) l.made.items (drop l.x-index l.numbering) ≡ fold (with_symbol l.numbering) [] l.numbering
