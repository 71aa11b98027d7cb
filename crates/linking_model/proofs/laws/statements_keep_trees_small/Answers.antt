-- The law is a lemma on trees.
use Rattle.linking_model.proofs.Trees.{statements_keep_trees_small}
use Rattle.linking_model.proofs.laws.statements_keep_trees_small.Goals as goal

pub returns : goal.returns
returns c = statements_keep_trees_small
