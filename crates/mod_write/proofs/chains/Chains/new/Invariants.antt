use Rattle.std.proofs.Common.{◌≡◌, ℕ, ◌+◌, ◌<◌, ◌≤◌, length, map, get_or}
use Rattle.std.specs.List.{range_with_len}
use Rattle.sym_mod.specs.declared.program.Constant.{Constant}
use Rattle.mod_write.specs.Chained.{next_in}
use Rattle.mod_write.proofs.chains.Chains.new.Given as goal

abbrev pub invariant-loop-place : goal.invariant-loop-place
invariant-loop-place l = record {
  first : l.first.items ≡ map (λ i. next_in l.constants i l.place) (range_with_len 0 l.sections);
  each : length l.next.items ≡ length l.constants;
  next : (k : ℕ) (c : Constant) → l.place ≤ k → k < length l.constants → c ≡ get_or l.constants k c → get_or l.next.items k 0 ≡ next_in l.constants c.section (k + 1);
}
