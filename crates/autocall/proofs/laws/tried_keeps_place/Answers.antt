use Rattle.autocall.proofs.Left.{tried_keeps}
use Rattle.autocall.proofs.laws.tried_keeps_place.Goals as goal

pub returns : goal.returns
returns c = tried_keeps
