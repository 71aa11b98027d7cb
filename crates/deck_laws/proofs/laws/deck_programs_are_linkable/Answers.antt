use Rattle.deck_laws.proofs.Standing.{decks_linkable}
use Rattle.deck_laws.proofs.laws.deck_programs_are_linkable.Goals as goal

pub returns : goal.returns
returns c = decks_linkable
