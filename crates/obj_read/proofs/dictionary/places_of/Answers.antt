use Rattle.obj_read.proofs.Maps.{indexed_next}
use Rattle.obj_read.proofs.dictionary.places_of.Goals as goal

pub loop-k-preserved : goal.loop-k-preserved
loop-k-preserved c =
    indexed_next c.args.items.now c.loop-k.k _ c.loop-k.places c.in_ok-places.places c.loop-k-test.true c.loop-k.invariant c.in_ok-places.ensures
