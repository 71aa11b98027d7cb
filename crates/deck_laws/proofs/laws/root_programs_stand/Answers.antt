use Rattle.deck_laws.proofs.Standing.{root_stand}
use Rattle.deck_laws.proofs.laws.root_programs_stand.Goals as goal

pub returns : goal.returns
returns c = root_stand
