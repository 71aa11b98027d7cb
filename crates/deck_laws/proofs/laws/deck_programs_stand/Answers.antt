use Rattle.deck_laws.proofs.Standing.{decks_stand}
use Rattle.deck_laws.proofs.laws.deck_programs_stand.Goals as goal

pub returns : goal.returns
returns c = decks_stand
