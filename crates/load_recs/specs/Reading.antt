-- Reading a record: what is wrong with its bytes, and what they hold.
use Rattle.std.specs.Prelude.{ℕ, ◌+◌, ◌%◌, Bool, not, ◌&&◌, ◌||◌, ◌==◌, nat_lt, if◌then◌else◌, List, [], ◌∷◌, length, take, drop, slice_index, Option, Some, None, Result, Ok, Err}
use Rattle.load_recs.specs.Forms.{form_of}
use Rattle.load_recs.specs.Items.{number_at, has_wrong_symbol}
use Rattle.load_recs.specs.Relocations.{rlds_of, is_whole, has_wrong_flag}
use Rattle.load_recs.specs.Records.{Record, SymbolRecord, ScatterRecord, TranslationRecord, NoteRecord, ControlRecord, RldRecord, ControlRldRecord, TextRecord, most_text}
use Rattle.load_recs.specs.declared.forms.Form.{Form}
use Rattle.load_recs.specs.declared.forms.Form.TheVariants.{Symbols, Sections, Notes, Control, Rld, ControlRld, Unknown}
use Rattle.load_recs.specs.declared.records.TextHead.{TextHead}
use Rattle.load_recs.specs.declared.records.Expect.{Expect}
use Rattle.load_recs.specs.declared.records.Expect.TheVariants.{Head, Text}
use Rattle.load_recs.specs.declared.records.RecFault.{RecFault}
use Rattle.load_recs.specs.declared.records.RecFault.TheVariants.{UnknownId, BadLength, BadType, BadFlag}

abbrev pub form : List ℕ → Form
form [] = Unknown
form (identifier ∷ _) = form_of identifier

-- the first of a list of faults that is there
abbrev pub first_fault : List (Bool × RecFault) → Option RecFault
first_fault [] = None
first_fault ((is_there, fault) ∷ faults) = if is_there then Some fault else first_fault faults

-- ---- symbol, scatter, translation and note records

-- the count of bytes is no count of items of this size, or not what stands after the head
abbrev pub has_wrong_count : ℕ → List ℕ → Bool
has_wrong_count size bytes =
    let count = number_at 6 2 bytes in
    count == 0 || not (count % size == 0) || nat_lt 240 count || not (length bytes == 8 + count)

abbrev pub subtype : List ℕ → ℕ
subtype bytes = slice_index bytes 1

-- scatter items have 4 bytes and translation items 2
abbrev pub section_size : List ℕ → ℕ
section_size bytes = if subtype bytes == 1 then 4 else 2

-- ---- control and relocation records

abbrev pub rld_count : List ℕ → ℕ
rld_count bytes = number_at 4 2 bytes

abbrev pub rld_bytes : List ℕ → List ℕ
rld_bytes bytes = take (rld_count bytes) (drop 16 bytes)

-- what comes after the relocation items
abbrev pub end_bytes : List ℕ → List ℕ
end_bytes bytes = drop (rld_count bytes) (drop 16 bytes)

-- the counts do not make up the record, with or without what tells of a text
abbrev pub has_wrong_size : ℕ → List ℕ → Bool
has_wrong_size tail bytes =
    not (number_at 6 2 bytes == tail) || nat_lt 240 (rld_count bytes) || not (length bytes == 16 + rld_count bytes + tail)

abbrev pub text_head : List ℕ → TextHead
text_head bytes = record {
  address = number_at 9 3 bytes;
  length = number_at 14 2 bytes;
  section = number_at 0 2 (end_bytes bytes);
}

-- the text's length is none that it may have, or another at the end of the record
abbrev pub has_wrong_text_length : List ℕ → Bool
has_wrong_text_length bytes =
    let text = text_head bytes in
    text.length == 0 || nat_lt most_text text.length || not (number_at 2 2 (end_bytes bytes) == text.length)

-- ---- a record

abbrev pub fault_as : Form → List ℕ → Option RecFault
fault_as Symbols bytes = first_fault (
    (nat_lt (length bytes) 8, BadLength)
    ∷ (has_wrong_count 16 bytes, BadLength)
    ∷ (has_wrong_symbol (drop 8 bytes), BadType) ∷ [])
fault_as Sections bytes = first_fault (
    (nat_lt (length bytes) 8, BadLength)
    ∷ (not (subtype bytes == 1) && not (subtype bytes == 2), BadType)
    ∷ (has_wrong_count (section_size bytes) bytes, BadLength) ∷ [])
fault_as Notes bytes = first_fault (
    (nat_lt (length bytes) 8, BadLength)
    ∷ (has_wrong_count 12 bytes, BadLength) ∷ [])
fault_as (Control ends) bytes = first_fault (
    (nat_lt (length bytes) 16, BadLength)
    ∷ (has_wrong_size 4 bytes || not (rld_count bytes == 0), BadLength)
    ∷ (has_wrong_text_length bytes, BadLength) ∷ [])
fault_as (Rld ends) bytes = first_fault (
    (nat_lt (length bytes) 16, BadLength)
    ∷ (has_wrong_size 0 bytes, BadLength)
    ∷ (not (is_whole (rld_bytes bytes)), BadLength)
    ∷ (has_wrong_flag (rlds_of (rld_bytes bytes)), BadFlag) ∷ [])
fault_as (ControlRld ends) bytes = first_fault (
    (nat_lt (length bytes) 16, BadLength)
    ∷ (has_wrong_size 4 bytes || rld_count bytes == 0, BadLength)
    ∷ (not (is_whole (rld_bytes bytes)), BadLength)
    ∷ (has_wrong_text_length bytes, BadLength)
    ∷ (has_wrong_flag (rlds_of (rld_bytes bytes)), BadFlag) ∷ [])
fault_as Unknown bytes = Some UnknownId

-- what is wrong with a record where no text is due, if anything is
abbrev pub own_fault : List ℕ → Option RecFault
own_fault bytes = fault_as (form bytes) bytes

abbrev pub contents_as : Form → List ℕ → Record
contents_as Symbols bytes = SymbolRecord (number_at 4 2 bytes) (drop 8 bytes)
contents_as Sections bytes =
    if subtype bytes == 1 then ScatterRecord (number_at 4 2 bytes) (drop 8 bytes)
    else TranslationRecord (number_at 4 2 bytes) (drop 8 bytes)
contents_as Notes bytes = NoteRecord (number_at 4 2 bytes) (drop 8 bytes)
contents_as (Control ends) bytes = ControlRecord ends (text_head bytes)
contents_as (Rld ends) bytes = RldRecord ends (rld_bytes bytes)
contents_as (ControlRld ends) bytes = ControlRldRecord ends (rld_bytes bytes) (text_head bytes)
contents_as Unknown bytes = TextRecord bytes

-- what a record holds: bytes that begin with no identifier are text
abbrev pub contents : List ℕ → Record
contents bytes = contents_as (form bytes) bytes

abbrev pub unless : Option RecFault → Record → Result Record RecFault
unless None held = Ok held
unless (Some fault) held = Err fault

-- the record that the bytes are, or the first of their faults
abbrev pub reading : Expect → List ℕ → Result Record RecFault
reading Head bytes = unless (own_fault bytes) (contents bytes)
reading (Text length_told) bytes = if length bytes == length_told then Ok (TextRecord bytes) else Err BadLength

-- what is due where a record comes
abbrev pub expected : Record → Expect
expected (TextRecord bytes) = Text (length bytes)
expected _ = Head
