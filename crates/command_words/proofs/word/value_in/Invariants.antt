use Rattle.std.proofs.Common.{◌≡◌, drop, map, string_bytes}
use Rattle.command_words.specs.Word.{value_in}
use Rattle.command_words.proofs.word.value_in.Given as goal

-- the value is in the words that are left
abbrev pub invariant-loop-word : goal.invariant-loop-word
invariant-loop-word l = value_in l.key (map string_bytes (drop l.word-index l.words)) ≡ value_in l.key (map string_bytes l.words)
