-- The law is a lemma on all programs.
use Rattle.run_laws.proofs.FoundTables.{direct_addresses_are_in_no_table}
use Rattle.run_laws.proofs.reaching.direct_addresses_are_in_no_table.Goals as goal

pub returns : goal.returns
returns c = direct_addresses_are_in_no_table
