use Rattle.list_text.proofs.CardSizes.{cards_have_eighty_bytes}
use Rattle.list_text.proofs.laws.cards_have_eighty_bytes.Goals as goal

pub returns : goal.returns
returns c = cards_have_eighty_bytes
