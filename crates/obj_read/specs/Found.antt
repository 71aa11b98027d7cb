-- What a look-up in the dictionary gives.
use Rattle.std.specs.Prelude.{◌≡◌, ℕ, List, Option, Some, None}
use Rattle.obj_read.specs.declared.numbered.Numbered.{Numbered}
use Rattle.obj_read.specs.declared.dictionary.Found.{Found}
use Rattle.obj_read.specs.Facts.{with_esdid, number_of}

abbrev pub IsFound : List Numbered → ℕ → Option Found → Type 0
IsFound items id None = (with_esdid id items ≡ None) × (number_of id items ≡ None)
IsFound items id (Some found) = (with_esdid id items ≡ Some found.item) × (number_of id items ≡ Some found.number)
