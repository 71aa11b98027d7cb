use Rattle.list_text.proofs.StatementCards.{cards_are_read_back}
use Rattle.list_text.proofs.laws.cards_are_read_back.Goals as goal

pub returns : goal.returns
returns c = cards_are_read_back
