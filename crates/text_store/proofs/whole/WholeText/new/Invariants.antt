use Rattle.std.proofs.Common.{◌≡◌, ◌+◌, ◌++◌, drop}
use Rattle.std.specs.List.{sum}
use Rattle.text_store.proofs.Zeros.{starts_from}
use Rattle.text_store.proofs.whole.WholeText.new.Given as goal

abbrev pub invariant-loop-length : goal.invariant-loop-length
invariant-loop-length l =
    (l.starts.items ++ starts_from l.end (drop l.length-index l.lengths) ≡ starts_from 0 l.fn.lengths)
    × (l.end + sum (drop l.length-index l.lengths) ≡ sum l.fn.lengths)
