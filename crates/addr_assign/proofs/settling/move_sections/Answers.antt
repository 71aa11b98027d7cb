use Rattle.std.proofs.Common.{rules}
use Rattle.addr_assign.proofs.Moved.{settled_is, stays_sound}
use Rattle.addr_assign.proofs.settling.move_sections.Goals as goal

pub returns-clause-sound : goal.returns-clause-sound
returns-clause-sound c = λ h.
    stays_sound c.args.t.now.tree c.args.inserts.now c.args.p.now _ (search (rules, settled_is)) h
