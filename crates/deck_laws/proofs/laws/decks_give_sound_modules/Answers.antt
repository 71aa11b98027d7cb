use Rattle.deck_laws.proofs.Standing.{decks_sound}
use Rattle.deck_laws.proofs.laws.decks_give_sound_modules.Goals as goal

pub returns : goal.returns
returns c = decks_sound
