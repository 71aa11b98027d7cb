use Rattle.ctl_cards.proofs.Meanings.{meant}
use Rattle.ctl_cards.proofs.laws.spelled_is_meant.Goals as goal

pub returns : goal.returns
returns c = meant
