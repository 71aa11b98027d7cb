-- The small tables of words as texts: a fault's name, and then its values.
use Rattle.std.specs.Prelude.{ℕ, List, [], ◌∷◌}
use Rattle.map_list.specs.Printed.{printed_name, a6, decimal}
use Rattle.map_list.specs.declared.words.Value.{Value}
use Rattle.map_list.specs.declared.words.Value.TheVariants.{Nothing, Number, Pair, Address, Named}
use Rattle.map_list.specs.declared.words.Words.{Words}

abbrev pub value_texts : Value → List (List ℕ)
value_texts Nothing = []
value_texts (Number n) = decimal n ∷ []
value_texts (Pair m n) = decimal m ∷ decimal n ∷ []
value_texts (Address address) = a6 address ∷ []
value_texts (Named name) = printed_name name ∷ []

abbrev pub texts_of : Words → List (List ℕ)
texts_of words = words.name.now ∷ value_texts words.value
