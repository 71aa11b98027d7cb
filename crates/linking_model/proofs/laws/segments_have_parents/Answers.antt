-- The law is a lemma on trees.
use Rattle.linking_model.proofs.Trees.{segments_have_parents}
use Rattle.linking_model.proofs.laws.segments_have_parents.Goals as goal

pub returns : goal.returns
returns c = segments_have_parents
