use Rattle.std.proofs.Common.{sym, arith}
use Rattle.std.proofs.lemmas.List.{take_all}
use Rattle.ctl_cards.proofs.reading.first_cards.Goals as goal

pub returns-then-cards-lt-MOST_CARDS : goal.returns-then-cards-lt-MOST_CARDS
returns-then-cards-lt-MOST_CARDS c = sym (take_all 32 c.args.cards.now (omega arith))
