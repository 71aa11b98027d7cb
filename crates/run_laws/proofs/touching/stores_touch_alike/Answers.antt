-- The law is a lemma on all programs.
use Rattle.run_laws.proofs.TouchedConstants.{stores_touch_alike}
use Rattle.run_laws.proofs.touching.stores_touch_alike.Goals as goal

pub returns : goal.returns
returns c = stores_touch_alike
