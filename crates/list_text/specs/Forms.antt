-- A statement as a line or as a card.
use Rattle.std.specs.Prelude.{ℕ, List}
use Rattle.list_text.specs.Statements.{line_of, card_of}
use Rattle.list_text.specs.declared.statements.Form.{Form}
use Rattle.list_text.specs.declared.statements.Form.TheVariants.{Lines, Cards}

abbrev pub spelled : Form → List ℕ → List ℕ
spelled Lines text = line_of text
spelled Cards text = card_of text
