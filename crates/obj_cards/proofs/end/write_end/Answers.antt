use Rattle.std.proofs.Common.{rules, ◌≡◌, ◌∙◌, ap, sym, length}
use Rattle.obj_cards.specs.Columns.{card_with}
use Rattle.obj_cards.specs.End.{end_card, end_text}
use Rattle.obj_cards.proofs.EndLaws.{end_again}
use Rattle.obj_cards.proofs.end.write_end.Goals as goal

pub returns-clause-read_back : goal.returns-clause-read_back
returns-clause-read_back c =
    let spelled : c.padded_card.result ≡ card_with (end_text c.args.e.now) = search rules in
    ap end_card spelled ∙ end_again c.args.e.now (ap length (sym (c.characters.ensures.value ∙ c.start_name-name.ensures)) ∙ c.characters.ensures.len) c.requires
