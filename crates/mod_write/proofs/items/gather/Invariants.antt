use Rattle.std.proofs.Common.{◌≡◌, ◌-◌, ◌++◌, length, drop}
use Rattle.mod_write.specs.Items.{terms_in}
use Rattle.mod_write.proofs.Chaining.{BeginsIn}
use Rattle.mod_write.proofs.items.gather.Given as goal

abbrev pub invariant-loop-place : goal.invariant-loop-place
invariant-loop-place l = record {
  so_far : l.items.items ++ terms_in l.list (drop l.place l.list.program.constants) l.section ≡ terms_in l.list l.list.program.constants l.section;
  own : BeginsIn l.section (drop l.place l.list.program.constants);
}

abbrev pub decreases-loop-place : goal.decreases-loop-place
decreases-loop-place l = length l.list.program.constants - l.place
