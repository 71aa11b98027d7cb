-- The law is a lemma on all programs.
use Rattle.run_laws.proofs.FoundTables.{one_table_is_found}
use Rattle.run_laws.proofs.reaching.one_table_is_found.Goals as goal

pub returns : goal.returns
returns c = one_table_is_found
