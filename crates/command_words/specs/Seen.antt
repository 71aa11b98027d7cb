-- What contracts see of a request and of a data set.
use Rattle.std.specs.Prelude.{ℕ, List, map, string_bytes, Option, option_map}
use Rattle.command_words.specs.Word.{KeyValue}
use Rattle.command_words.specs.declared.request.DataSet.{DataSet}
use Rattle.command_words.specs.declared.request.Request.{Request}

-- the words of a request
abbrev pub words_of : Request → List (List ℕ)
words_of request = map string_bytes request.words.now

abbrev pub seen_set : Option DataSet → Option KeyValue
seen_set set = option_map (λ s. record { key = s.dd; value = s.path.now }) set
