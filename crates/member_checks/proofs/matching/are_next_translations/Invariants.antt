use Rattle.std.proofs.Common.{◌≡◌, drop}
use Rattle.load_recs.specs.Items.{translations_of}
use Rattle.member_checks.specs.Matching.{begins}
use Rattle.member_checks.proofs.matching.are_next_translations.Given as goal

abbrev pub invariant-loop-k : goal.invariant-loop-k
invariant-loop-k l = begins (drop l.k (translations_of l.items)) (drop l.k l.wanted) ≡ begins (translations_of l.items) l.wanted
