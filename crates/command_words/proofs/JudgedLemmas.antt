-- One word after another is judged.
use Rattle.std.proofs.Common.{ℕ, ◌≡◌, ◌+◌, ◌<◌, List, length, take, map, get_or, ◌∙◌, String, string_bytes, option_map, refl, arith, add-one, drop-cons}
use Rattle.std.specs.Option.{option_or}
use Rattle.std.proofs.Math.Seq.{take-suc}
use Rattle.std.proofs.lemmas.List.{map-append, length-map, length-take-le}
use Rattle.command_words.specs.Judged.{word_fault, bad_from}
use Rattle.command_words.specs.declared.command.Command.{Command}

pub bad_from_step : {Z : Type 0} (command : Command) (words : List (String Z)) (i : ℕ) (d : String Z) → i < length words
    → bad_from command words i ≡ option_or (option_map (λ what. record { word = i + 1; what = what })
    (word_fault command (map string_bytes (take i words)) (string_bytes (get_or words i d)))) (bad_from command words (i + 1))
bad_from_step command words i d below =
    let count : length (map string_bytes (take i words)) ≡ i = length-map (take i words) string_bytes ∙ length-take-le i words (omega arith) in
    rw (add-one i, drop-cons words i d, take-suc words i d, map-append, count, add-one i) refl
