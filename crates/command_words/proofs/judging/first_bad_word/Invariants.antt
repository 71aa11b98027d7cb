use Rattle.std.proofs.Common.{◌≡◌}
use Rattle.command_words.specs.Judged.{bad_from}
use Rattle.command_words.proofs.judging.first_bad_word.Given as goal

-- the words before i are good
abbrev pub invariant-loop-i : goal.invariant-loop-i
invariant-loop-i l = bad_from l.command l.words l.i ≡ bad_from l.fn.command l.fn.words 1
