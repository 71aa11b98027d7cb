use Rattle.deck_laws.proofs.Standing.{decks_whole}
use Rattle.deck_laws.proofs.laws.decks_give_whole_modules.Goals as goal

pub returns : goal.returns
returns c = decks_whole
