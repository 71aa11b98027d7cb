-- What a record holds, apart from where it lies in memory, and the bytes that spell it.
use Rattle.std.specs.Prelude.{◌≡◌, ℕ, ◌+◌, ◌%◌, ◌^◌, ◌<◌, ◌≤◌, true, false, if◌then◌else◌, List, [], ◌∷◌, ◌++◌, length}
use Rattle.byteorder.specs.Endian.{big_bytes}
use Rattle.load_recs.specs.Items.{has_wrong_symbol}
use Rattle.load_recs.specs.Relocations.{is_whole, has_wrong_flag, rlds_of}
use Rattle.load_recs.specs.declared.records.Ends.{Ends}
use Rattle.load_recs.specs.declared.records.TextHead.{TextHead}
use Rattle.load_recs.specs.declared.records.Rec.{Rec}
use Rattle.load_recs.specs.declared.records.Rec.TheVariants.{Cesd, Scatter, Translation, Note, Control, Rld, ControlRld, Text}

-- the number of the first item and the bytes of the items; what ends; what the text after it is
pub data Record : Type 0 where
  SymbolRecord : ℕ → List ℕ → Record
  ScatterRecord : ℕ → List ℕ → Record
  TranslationRecord : ℕ → List ℕ → Record
  NoteRecord : ℕ → List ℕ → Record
  ControlRecord : Ends → TextHead → Record
  RldRecord : Ends → List ℕ → Record
  ControlRldRecord : Ends → List ℕ → TextHead → Record
  TextRecord : List ℕ → Record

abbrev pub record_of : Rec → Record
record_of (Cesd first items) = SymbolRecord first items.now
record_of (Scatter first items) = ScatterRecord first items.now
record_of (Translation first items) = TranslationRecord first items.now
record_of (Note first items) = NoteRecord first items.now
record_of (Control ends text) = ControlRecord ends text
record_of (Rld ends items) = RldRecord ends items.now
record_of (ControlRld ends items text) = ControlRldRecord ends items.now text
record_of (Text bytes) = TextRecord bytes.now

-- ---- the spelling

abbrev pub head_record : ℕ → ℕ → ℕ → List ℕ → List ℕ
head_record identifier subtype first items =
    (identifier ∷ subtype ∷ 0 ∷ 0 ∷ []) ++ (big_bytes 2 first ++ (big_bytes 2 (length items) ++ items))

-- what is added to an identifier for what ends
abbrev pub ending : Ends → ℕ
ending ends = (if ends.segment then 4 else 0) + (if ends.module then 8 else 0)

abbrev pub text_record : ℕ → List ℕ → TextHead → List ℕ
text_record identifier items text =
    (identifier ∷ 0 ∷ 0 ∷ 0 ∷ []) ++ (big_bytes 2 (length items) ++ ((0 ∷ 4 ∷ 6 ∷ []) ++ (big_bytes 3 text.address
    ++ ((0 ∷ 0 ∷ []) ++ (big_bytes 2 text.length ++ (items ++ (big_bytes 2 text.section ++ big_bytes 2 text.length)))))))

abbrev pub rld_record : ℕ → List ℕ → List ℕ
rld_record identifier items =
    (identifier ∷ 0 ∷ 0 ∷ 0 ∷ []) ++ (big_bytes 2 (length items) ++ ((0 ∷ 0 ∷ 0 ∷ 0 ∷ 0 ∷ 0 ∷ 0 ∷ 0 ∷ 0 ∷ 0 ∷ []) ++ items))

-- the bytes of a record as they are written
abbrev pub rec_bytes : Record → List ℕ
rec_bytes (SymbolRecord first items) = head_record 32 0 first items
rec_bytes (ScatterRecord first items) = head_record 16 1 first items
rec_bytes (TranslationRecord first items) = head_record 16 2 first items
rec_bytes (NoteRecord first items) = head_record 96 0 first items
rec_bytes (ControlRecord ends text) = text_record (1 + ending ends) [] text
rec_bytes (RldRecord ends items) = rld_record (2 + ending ends) items
rec_bytes (ControlRldRecord ends items text) = text_record (3 + ending ends) items text
rec_bytes (TextRecord bytes) = bytes

-- ---- what has a spelling

-- items of this size, at least one, in at most 240 bytes
pub record AreItems (size first : ℕ) (items : List ℕ) : Type 0 where
  pub numbered : first < 2 ^ 16
  pub some : 0 < length items
  pub most : length items ≤ 240
  pub whole : length items % size ≡ 0

-- relocation items in at most 240 bytes, whose flags mean something
pub record AreRlds (items : List ℕ) : Type 0 where
  pub most : length items ≤ 240
  pub whole : is_whole items ≡ true
  pub flags : has_wrong_flag (rlds_of items) ≡ false

abbrev pub most_text : ℕ
most_text = 13030

pub record IsTextHead (text : TextHead) : Type 0 where
  pub address : text.address < 2 ^ 24
  pub some : 0 < text.length
  pub most : text.length ≤ most_text
  pub section : text.section < 2 ^ 16

-- the module ends only where its last segment does
abbrev pub AreEnds : Ends → Type 0
AreEnds ends = ends.module ≡ true → ends.segment ≡ true

abbrev pub IsRecord : Record → Type 0
IsRecord (SymbolRecord first items) = AreItems 16 first items × (has_wrong_symbol items ≡ false)
IsRecord (ScatterRecord first items) = AreItems 4 first items
IsRecord (TranslationRecord first items) = AreItems 2 first items
IsRecord (NoteRecord first items) = AreItems 12 first items
IsRecord (ControlRecord ends text) = AreEnds ends × IsTextHead text
IsRecord (RldRecord ends items) = AreEnds ends × AreRlds items
IsRecord (ControlRldRecord ends items text) = AreEnds ends × AreRlds items × (0 < length items) × IsTextHead text
IsRecord (TextRecord bytes) = (0 < length bytes) × (length bytes ≤ most_text)
