-- Records where no text is due.
use Rattle.std.specs.Prelude.{◌≡◌, ℕ, ◌≤◌, List, length, Option, Some, None, option_map, Result, Ok, Err}
use Rattle.le_bytes.specs.declared.record_what.RecWhat.{RecWhat}
use Rattle.load_recs.specs.Faults.{what_of}
use Rattle.load_recs.specs.Records.{Record, SymbolRecord, ScatterRecord, TranslationRecord, NoteRecord, record_of}
use Rattle.load_recs.specs.Reading.{own_fault, contents}
use Rattle.load_recs.specs.declared.records.Rec.{Rec}

-- the bytes of items other than relocation items are as few as a record has
abbrev pub HasFewItems : Record → Type 0
HasFewItems (SymbolRecord first items) = length items ≤ 240
HasFewItems (ScatterRecord first items) = length items ≤ 240
HasFewItems (TranslationRecord first items) = length items ≤ 240
HasFewItems (NoteRecord first items) = length items ≤ 240
HasFewItems _ = Unit {0}

-- the record that the bytes hold where they have no fault of their own, or that fault
abbrev pub IsHead : List ℕ → Result Rec RecWhat → Type 0
IsHead bytes (Ok held) = (own_fault bytes ≡ None) × (contents bytes ≡ record_of held) × HasFewItems (record_of held)
IsHead bytes (Err what) = option_map what_of (own_fault bytes) ≡ Some what
