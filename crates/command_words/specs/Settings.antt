-- What contracts see of words taken apart.
use Rattle.std.specs.Prelude.{ℕ, List, Option, option_map}
use Rattle.std.specs.Borrow.{Bor}
use Rattle.command_words.specs.Word.{KeyValue}
use Rattle.command_words.specs.declared.word.Setting.{Setting}

abbrev pub seen_setting : Setting → KeyValue
seen_setting s = record { key = s.key; value = s.value.now }

abbrev pub seen : Option Setting → Option KeyValue
seen setting = option_map seen_setting setting

abbrev pub text_of : Option (Bor (List ℕ)) → Option (List ℕ)
text_of text = option_map (λ t. t.now) text
