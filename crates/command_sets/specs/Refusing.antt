-- Answers that refuse: a status and its line, and nothing is put.
use Rattle.std.specs.Prelude.{ℕ, List, [], ◌∷◌, codes, Some, None}
use Rattle.le_bytes.specs.declared.refusal.Refusal.{Refusal}
use Rattle.command_words.specs.declared.judging.BadWord.{BadWord}
use Rattle.command_words.specs.Keys.{syslin}
use Rattle.map_list.specs.Printed.{printed_name, decimal, line}
use Rattle.map_list.specs.Lines.{refusal_line, words_line}
use Rattle.command_sets.specs.declared.answer.Answer.{Answer}
use Rattle.command_sets.specs.declared.status.Status.TheVariants.{BadWords, Refused, NotBuilt}

-- a refusal
unfoldable pub refused : Refusal → Answer
refused r = record { status = Refused r; text = refusal_line r; put = None }

-- a bad word
abbrev pub bad_words : BadWord → Answer
bad_words bad = record { status = BadWords bad.word bad.what; text = words_line bad.word bad.what; put = None }

-- the line for words that ask for what is not built
abbrev pub unbuilt_line : List ℕ
unbuilt_line = line (codes "REFUSED") (codes "NOTBUILT" ∷ [])

-- the line for a card of the primary input that begins what is not built
abbrev pub unbuilt_card_line : ℕ → List ℕ
unbuilt_card_line number =
    line (codes "REFUSED") (codes "CARD" ∷ printed_name syslin ∷ decimal number ∷ codes "NOTBUILT" ∷ [])

-- words that ask for what is not built
unfoldable pub unbuilt : Answer
unbuilt = record { status = NotBuilt None; text = unbuilt_line; put = None }

-- a card that begins what is not built
unfoldable pub unbuilt_card : ℕ → Answer
unbuilt_card number = record { status = NotBuilt (Some number); text = unbuilt_card_line number; put = None }
