-- Items in records by the bytes of all items, 240 bytes in each record or, in the last, fewer.
use Rattle.std.specs.Prelude.{◌≡◌, ℕ, ◌+◌, ◌*◌, ◌/◌, ◌%◌, ◌≤◌, false, List, map, take, drop, length, ⊤}
use Rattle.std.specs.List.{range_with_len}
use Rattle.load_recs.specs.Items.{item_at, is_wrong_symbol}
use Rattle.load_recs.specs.Records.{Record, SymbolRecord, ScatterRecord, TranslationRecord, NoteRecord}
use Rattle.mod_heads.specs.declared.cutting.Kind.{Kind}
use Rattle.mod_heads.specs.declared.cutting.Kind.TheVariants.{Symbol, Scatter, Translation, Note}

-- the record of these items, of which the first has this number
abbrev pub record_as : Kind → ℕ → List ℕ → Record
record_as Symbol first items = SymbolRecord first items
record_as Scatter first items = ScatterRecord first items
record_as Translation first items = TranslationRecord first items
record_as Note first items = NoteRecord first items

-- the length of an item, in bytes
abbrev pub size_of : Kind → ℕ
size_of Symbol = 16
size_of Scatter = 4
size_of Translation = 2
size_of Note = 12

-- how many of them have 240 bytes
abbrev pub most_in : Kind → ℕ
most_in Symbol = 15
most_in Scatter = 60
most_in Translation = 120
most_in Note = 20

-- record k of the items, from 0
abbrev pub cut_record : Kind → List ℕ → ℕ → Record
cut_record kind items k = record_as kind (k * most_in kind + 1) (take 240 (drop (240 * k) items))

-- the records of the items
unfoldable pub cut_records : Kind → List ℕ → List Record
cut_records kind items = map (cut_record kind items) (range_with_len 0 ((length items + 239) / 240))

-- what is wanted of items of this kind beside their length: none of the symbols is wrong
abbrev pub AreProper : Kind → List ℕ → Type 0
AreProper Symbol items = (k : ℕ) → 16 * k + 16 ≤ length items → is_wrong_symbol (item_at 16 k items) ≡ false
AreProper _ items = ⊤

-- the bytes are those of whole items, as many as have numbers of two bytes
pub record AreItemsOf (kind : Kind) (items : List ℕ) : Type 0 where
  pub whole : length items % size_of kind ≡ 0
  pub few : length items ≤ size_of kind * 32767
  pub proper : AreProper kind items
