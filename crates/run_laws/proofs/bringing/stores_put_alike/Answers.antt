-- The law is a lemma on all programs.
use Rattle.run_laws.proofs.StoredBytes.{stores_put_alike}
use Rattle.run_laws.proofs.bringing.stores_put_alike.Goals as goal

pub returns : goal.returns
returns c = stores_put_alike
