-- What may be wrong once a member is placed, as words: the fault's name in capitals, and then its values.
use Rattle.std.specs.Prelude.{ℕ, List, [], ◌∷◌, codes}
use Rattle.map_list.specs.Printed.{printed_name, a6, decimal}
use Rattle.le_bytes.specs.declared.record_what.StartWhat.{StartWhat}
use Rattle.le_bytes.specs.declared.record_what.StartWhat.TheVariants.{BadSegtab, BadNoteList}
use Rattle.le_bytes.specs.declared.record_what.PlaceWhat.{PlaceWhat}
use Rattle.le_bytes.specs.declared.record_what.PlaceWhat.TheVariants.{BadOrigin, NoStorage, NotScatter}
use Rattle.le_bytes.specs.declared.record_what.EventWhat.{EventWhat}
use Rattle.le_bytes.specs.declared.record_what.EventWhat.TheVariants.{NoSuchPlace, NotResident, NotVcon, Unresolved, BadEntab, BadRecord, OutOfSection, TouchesConstant}

-- why an overlay member cannot be started
abbrev pub start_words : StartWhat → List (List ℕ)
start_words BadSegtab = codes "BADSEGTAB" ∷ []
start_words (BadNoteList n) = codes "BADNOTELIST" ∷ decimal n ∷ []

-- why a member cannot be placed
abbrev pub place_words : PlaceWhat → List (List ℕ)
place_words BadOrigin = codes "BADORIGIN" ∷ []
place_words (NoStorage name) = codes "NOSTORAGE" ∷ printed_name name ∷ []
place_words NotScatter = codes "NOTSCATTER" ∷ []

-- why an event is refused
abbrev pub event_words : EventWhat → List (List ℕ)
event_words NoSuchPlace = codes "NOSUCHPLACE" ∷ []
event_words (NotResident n) = codes "NOTRESIDENT" ∷ decimal n ∷ []
event_words NotVcon = codes "NOTVCON" ∷ []
event_words (Unresolved name) = codes "UNRESOLVED" ∷ printed_name name ∷ []
event_words (BadEntab address) = codes "BADENTAB" ∷ a6 address ∷ []
event_words (BadRecord n) = codes "BADRECORD" ∷ decimal n ∷ []
event_words OutOfSection = codes "OUTOFSECTION" ∷ []
event_words TouchesConstant = codes "TOUCHESCONSTANT" ∷ []
