use Rattle.autocall.proofs.Left.{added_keeps}
use Rattle.autocall.proofs.laws.added_keeps_place.Goals as goal

pub returns : goal.returns
returns c = added_keeps
