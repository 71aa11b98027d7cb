use Rattle.std.proofs.Common.{rules, ◌≡◌, ◌∙◌, ap, sym, length}
use Rattle.obj_cards.specs.Columns.{card_with}
use Rattle.obj_cards.specs.Txt.{txt_card, txt_text}
use Rattle.obj_cards.proofs.TxtLaws.{txt_again}
use Rattle.obj_cards.proofs.txt.write_txt.Goals as goal

pub returns-clause-read_back : goal.returns-clause-read_back
returns-clause-read_back c =
    let spelled : c.padded_card.result ≡ card_with (txt_text c.args.t.now) = search rules in
    ap txt_card spelled ∙ txt_again c.args.t.now (ap length (sym c.text.ensures.value) ∙ c.text.ensures.len) c.requires
