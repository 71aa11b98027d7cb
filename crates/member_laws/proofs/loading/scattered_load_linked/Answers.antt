-- The law is a lemma on scattered programs.
use Rattle.member_laws.proofs.LoadingScatter.{scattered_load_linked}
use Rattle.member_laws.proofs.loading.scattered_load_linked.Goals as goal

pub returns : goal.returns
returns c = scattered_load_linked
