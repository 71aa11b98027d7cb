use Rattle.std.proofs.Common.{◌≡◌, ◌++◌, drop, map}
use Rattle.list_text.specs.Statements.{code_of}
use Rattle.list_text.proofs.statements.push_codes.Given as goal

abbrev pub invariant-loop-c : goal.invariant-loop-c
invariant-loop-c l = l.out.items ++ map code_of (drop l.c-index l.text) ≡ l.fn.out.items ++ map code_of l.text
