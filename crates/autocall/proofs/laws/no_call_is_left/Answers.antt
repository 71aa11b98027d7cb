use Rattle.autocall.proofs.Left.{none_left}
use Rattle.autocall.proofs.laws.no_call_is_left.Goals as goal

pub returns : goal.returns
returns c = none_left
