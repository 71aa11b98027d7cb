-- The records of a member with its text in pieces of another length. Symbol, scatter and translation items stay as
-- they were, byte by byte, and so do the first numbers of records; notes get the new record numbers (this project's
-- profile).
use Rattle.std.specs.Prelude.{ℕ, ◌+◌, ◌-◌, ◌%◌, Bool, true, false, not, ◌&&◌, ◌==◌, if◌then◌else◌, List, [], ◌∷◌, ◌++◌, map, filter, flat_map, length, take, drop, take_while}
use Rattle.std.specs.List.{range_with_len, enumerate_from}
use Rattle.pds_directory.specs.declared.entry.Entry.{Entry}
use Rattle.load_recs.specs.ItemBytes.{note_bytes}
use Rattle.load_recs.specs.Items.{notes_of}
use Rattle.load_recs.specs.Records.{Record, SymbolRecord, ScatterRecord, TranslationRecord, NoteRecord, rec_bytes}
use Rattle.load_recs.specs.Reading.{contents}
use Rattle.load_recs.specs.declared.items.SymbolItem.{SymbolItem}
use Rattle.load_recs.specs.declared.items.NoteItem.{NoteItem}
use Rattle.load_recs.specs.declared.items.RldItem.{RldItem}
use Rattle.load_recs.specs.Kinds.{is_text_kind}
use Rattle.member_model.specs.Facts.{Facts, facts}
use Rattle.member_model.specs.Faults.{segment_count}
use Rattle.member_model.specs.Loaded.{in_block, text_storage, items_in}
use Rattle.member_model.specs.Cuts.{together}
use Rattle.member_model.specs.Chunks.{by_address}
use Rattle.member_model.specs.Pieces.{Piece, pieces, records_or_empty, ends_at}

-- ---- segments

-- the item, no longer telling that the next has the same numbers
abbrev pub plain : RldItem → RldItem
plain x = record x { flag = x.flag - x.flag % 2 }

-- the items of section k of segment s, by address and then in their order
abbrev pub section_items_again : Facts → ℕ → ℕ → List RldItem
section_items_again F s k = by_address (map plain (filter (λ x. x.p == k) (items_in F s)))

-- the text of an SD or PC of segment s: the last one for a place, and 0 where there is none
abbrev pub section_text : Facts → ℕ → SymbolItem → List ℕ
section_text F s x = map (text_storage F (in_block F.symbols 0) s) (range_with_len x.address x.length)

-- the pieces of section k, where it has text and is in segment s
abbrev pub section_pieces : Facts → ℕ → ℕ → ℕ × SymbolItem → List Piece
section_pieces F n s (k, x) =
    if is_text_kind x.kind && x.segment == s
    then pieces n k x.address (section_items_again F s k) (section_text F s x) else []

-- the records of segment s of so many, in pieces of n bytes
abbrev pub segment_again : Facts → ℕ → ℕ → ℕ → List Record
segment_again F n count s =
    records_or_empty (ends_at count s) (flat_map (section_pieces F n s) (enumerate_from 1 F.symbols))

-- ---- the note list

-- the notes with new record numbers, of which the first is this one
abbrev pub notes_again : ℕ → List (List Record) → List NoteItem → List NoteItem
notes_again number [] notes = []
notes_again number (x ∷ rest) [] = []
notes_again number (x ∷ rest) (y ∷ notes) =
    record y { first = number % 16777216 } ∷ notes_again (number + length x) rest notes

-- note records that hold as many of the notes as these did
abbrev pub note_records_again : List Record → List NoteItem → List Record
note_records_again [] notes = []
note_records_again (NoteRecord first items ∷ rest) notes =
    let n = length (notes_of items) in
    NoteRecord first (together (map note_bytes (take n notes))) ∷ note_records_again rest (drop n notes)
note_records_again (_ ∷ rest) notes = note_records_again rest notes

-- ---- the member

-- a note record
abbrev pub is_note : Record → Bool
is_note (NoteRecord first items) = true
is_note _ = false

-- a record of no segment
abbrev pub is_head : Record → Bool
is_head (SymbolRecord first items) = true
is_head (ScatterRecord first items) = true
is_head (TranslationRecord first items) = true
is_head x = is_note x

-- the records that the member begins with and that are of no segment
abbrev pub head_run : List (List ℕ) → List Record
head_run records = take_while is_head (map contents records)

-- the records with text in pieces of n bytes
unfoldable pub reblocked : Entry → List (List ℕ) → ℕ → List Record
reblocked e records n =
    let F = facts records in let count = segment_count e F in
    let first = filter (λ x. not (is_note x)) (head_run records) in
    let notes = filter is_note (head_run records) in
    let segs = map (segment_again F n count) (range_with_len 1 count) in
    first ++ note_records_again notes (notes_again (length first + length notes + 1) segs F.notes) ++ together segs

-- the bytes of these records
abbrev pub reblocked_bytes : Entry → List (List ℕ) → ℕ → List (List ℕ)
reblocked_bytes e records n = map rec_bytes (reblocked e records n)
