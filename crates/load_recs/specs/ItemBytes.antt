-- The bytes that spell an item, and which items have a spelling.
use Rattle.std.specs.Prelude.{◌≡◌, ℕ, ◌^◌, ◌<◌, Bool, true, false, if◌then◌else◌, List, [], ◌∷◌, ◌++◌, length, take, drop, slice_index, unwrap_or, Option, Some, None}
use Rattle.byteorder.specs.Endian.{big_bytes}
use Rattle.le_bytes.specs.Names.{blank_bytes, is_blank}
use Rattle.load_recs.specs.Items.{is_alignment, kind_of}
use Rattle.load_recs.specs.Relocations.{pointers_of, kept_by}
use Rattle.load_recs.specs.declared.items.SymbolKind.{SymbolKind}
use Rattle.load_recs.specs.declared.items.SymbolKind.TheVariants.{Sd, Er, Lr, Pc, Cm, Pr, Null, Wx}
use Rattle.load_recs.specs.declared.items.SymbolItem.{SymbolItem}
use Rattle.load_recs.specs.declared.items.NoteItem.{NoteItem}
use Rattle.load_recs.specs.declared.items.RldItem.{RldItem}
use Rattle.load_recs.specs.declared.relocation_items.Pointers.{Pointers}

abbrev pub kind_byte : SymbolKind → ℕ
kind_byte Sd = 0
kind_byte Er = 2
kind_byte Lr = 3
kind_byte Pc = 4
kind_byte Cm = 5
kind_byte Pr = 6
kind_byte Null = 7
kind_byte Wx = 10

-- the number of a label's section stands in the last two bytes
abbrev pub symbol_bytes : SymbolItem → List ℕ
symbol_bytes item =
    item.name.0 ++ (kind_byte item.kind ∷ big_bytes 3 item.address ++ (item.segment ∷ big_bytes 3 item.length))

-- the bytes of a symbol item, with those that nothing looks at as they are written: the name of private
-- code, and byte 13 of a label
abbrev pub plain_symbol_as : SymbolKind → List ℕ → List ℕ
plain_symbol_as Pc item = blank_bytes ++ drop 8 item
plain_symbol_as Lr item = take 13 item ++ (0 ∷ drop 14 item)
plain_symbol_as _ item = item

abbrev pub plain_symbol : List ℕ → List ℕ
plain_symbol item = plain_symbol_as (unwrap_or (kind_of (slice_index item 8)) Null) item

-- what an item of this kind needs beside numbers that fit
abbrev pub SuitsKind : SymbolKind → SymbolItem → Type 0
SuitsKind Pr item = is_alignment item.segment ≡ true
SuitsKind Pc item = item.name.0 ≡ blank_bytes
SuitsKind Lr item = (is_blank item.name ≡ false) × (item.length < 2 ^ 16)
SuitsKind Er item = is_blank item.name ≡ false
SuitsKind Wx item = is_blank item.name ≡ false
SuitsKind _ item = Unit {0}

pub record IsSymbol (item : SymbolItem) : Type 0 where
  pub name : length item.name.0 ≡ 8
  pub address : item.address < 2 ^ 24
  pub length_fits : item.length < 2 ^ 24
  pub suits : SuitsKind item.kind item

abbrev pub note_bytes : NoteItem → List ℕ
note_bytes item =
    (big_bytes 3 item.first ++ 0 ∷ []) ++ ((big_bytes 3 item.origin ++ 0 ∷ []) ++ (big_bytes 3 item.length ++ 0 ∷ []))

-- the bytes of a note item, with bytes 3, 7 and 11, which nothing looks at, as they are written
abbrev pub plain_note : List ℕ → List ℕ
plain_note item = (take 3 item ++ 0 ∷ []) ++ ((take 3 (drop 4 item) ++ 0 ∷ []) ++ (take 3 (drop 8 item) ++ 0 ∷ []))

pub record IsNote (item : NoteItem) : Type 0 where
  pub first_fits : item.first < 2 ^ 24
  pub origin_fits : item.origin < 2 ^ 24
  pub length_fits : item.length < 2 ^ 24

-- the numbers, unless the item is short, and the flag and address
abbrev pub rld_item_bytes : Bool → RldItem → List ℕ
rld_item_bytes short item =
    (if short then [] else big_bytes 2 item.r ++ big_bytes 2 item.p) ++ (item.flag ∷ big_bytes 3 item.address)

-- what was read of 16 or 12 bytes has a spelling, and they are that
abbrev pub SpellsSymbol : List ℕ → SymbolItem → Type 0
SpellsSymbol bytes item = IsSymbol item × (symbol_bytes item ≡ plain_symbol bytes)

abbrev pub SpellsNote : List ℕ → NoteItem → Type 0
SpellsNote bytes item = IsNote item × (note_bytes item ≡ plain_note bytes)

pub record IsRld (item : RldItem) : Type 0 where
  pub r_fits : item.r < 2 ^ 16
  pub p_fits : item.p < 2 ^ 16
  pub address_fits : item.address < 2 ^ 24

-- the numbers that have to be kept before an item
abbrev pub kept_before : Bool → RldItem → Option Pointers
kept_before short item = if short then Some (pointers_of item) else None

-- relocation items one after the other, after numbers that the first does not say, or none
abbrev pub rld_list_bytes : Option Pointers → List RldItem → List ℕ
rld_list_bytes kept [] = []
rld_list_bytes None (item ∷ items) = rld_item_bytes false item ++ rld_list_bytes (kept_by item) items
rld_list_bytes (Some _) (item ∷ items) = rld_item_bytes true item ++ rld_list_bytes (kept_by item) items
