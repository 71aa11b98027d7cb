use Rattle.prog_fetch.proofs.Heading.{head_faults, walk_other}
use Rattle.prog_fetch.proofs.scattering.judge_head.Goals as goal

pub returns-in-Ok-clause-on : goal.returns-in-Ok-clause-on
returns-in-Ok-clause-on c = record { head = c.requires.head; walked = c.in-Ok.ensures.walked }

pub returns-in-Err-clause-answer : goal.returns-in-Err-clause-answer
returns-in-Err-clause-answer c =
    rw c.scatter_fault_of.ensures (head_faults c.args.task.now.entry.now c.args.task.now.areas.now c.args.bytes.now c.args.walk.now c.in-Err.fault
    c.requires.scatter c.requires.head c.in-Err.ensures.fault)

pub returns-in-Err-clause-read : goal.returns-in-Err-clause-read
returns-in-Err-clause-read c = rw c.scatter_fault_of.ensures (walk_other c.in-Err.fault)
