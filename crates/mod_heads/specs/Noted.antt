-- Note items by the numbers of records of the segments alone.
use Rattle.std.specs.Prelude.{ℕ, ◌+◌, List, [], ◌∷◌}
use Rattle.load_recs.specs.declared.items.NoteItem.{NoteItem}
use Rattle.linking_model.specs.Places.{Laid}
use Rattle.member_model.specs.Written.{note_item}

-- the items of segments from s on, of which the first begins with the record of this number and each has so many
unfoldable pub notes_by : Laid → ℕ → ℕ → List ℕ → List NoteItem
notes_by P number s [] = []
notes_by P number s (n ∷ counts) = note_item P number s ∷ notes_by P (number + n) (s + 1) counts
