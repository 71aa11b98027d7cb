use Rattle.std.proofs.Common.{ap, ◌∙◌}
use Rattle.load_recs.specs.Items.{symbol_of, is_wrong_symbol}
use Rattle.load_recs.proofs.ItemsAgain.{symbol_again, symbol_accepted}
use Rattle.load_recs.proofs.item_writing.put_symbol_item.Goals as goal

pub returns-clause-read_back : goal.returns-clause-read_back
returns-clause-read_back c = ap symbol_of c.spell_symbol.ensures ∙ symbol_again c.args.i.now c.requires.fits

pub returns-clause-accepted : goal.returns-clause-accepted
returns-clause-accepted c = ap is_wrong_symbol c.spell_symbol.ensures ∙ symbol_accepted c.args.i.now c.requires.fits
