use Rattle.esd_merge.proofs.Callable.{called_after}
use Rattle.esd_merge.proofs.merged.Merged.add_called.Goals as goal

pub returns-clause-called : goal.returns-clause-called
returns-clause-called c =
    called_after c.args.self.now c.put.new.self c.args.m c.args.segment c.put.result c.put.ensures.added c.put.ensures.changed
