use Rattle.std.proofs.Common.{[]}
use Rattle.esd_index.specs.declared.key.Key.TheVariants.{Named as NamedKey}
use Rattle.esd_merge.proofs.Callable.{next_least}
use Rattle.esd_merge.proofs.calls.least_place.Goals as goal

pub loop-key-preserved : goal.loop-key-preserved
loop-key-preserved c =
    next_least c.args.symbols.now.all c.args.keys.now c.loop-key.key-index c.loop-key.least c.lesser-least.result c.args.most (NamedKey (record { 0 = [] }))
    c.loop-key-test.true c.lesser-least.ensures c.loop-key.invariant
