-- Reading the symbol, scatter, translation and note items of a record.
use Rattle.std.specs.Prelude.{ℕ, ◌*◌, ◌/◌, Bool, true, false, not, ◌==◌, if◌then◌else◌, List, [], ◌∷◌, map, length, take, drop, slice_index, Option, Some, None, unwrap_or}
use Rattle.std.specs.List.{list_any, range_with_len}
use Rattle.byteorder.specs.Endian.{big_number}
use Rattle.le_bytes.specs.Names.{blank_bytes, is_blank}
use Rattle.le_bytes.specs.declared.name.Name.{Name}
use Rattle.load_recs.specs.Forms.{is_one_of}
use Rattle.load_recs.specs.declared.items.SymbolKind.{SymbolKind}
use Rattle.load_recs.specs.declared.items.SymbolKind.TheVariants.{Sd, Er, Lr, Pc, Cm, Pr, Null, Wx}
use Rattle.load_recs.specs.declared.items.SymbolItem.{SymbolItem}
use Rattle.load_recs.specs.declared.items.NoteItem.{NoteItem}

-- the big-endian number in n bytes from place at
abbrev pub number_at : ℕ → ℕ → List ℕ → ℕ
number_at at n bytes = big_number n (drop at bytes)

-- item k, from 0, of items of n bytes each
abbrev pub item_at : ℕ → ℕ → List ℕ → List ℕ
item_at n k bytes = take n (drop (n * k) bytes)

-- the values of the items of n bytes each
unfoldable pub values_of : {A : Type 0} → (List ℕ → A) → ℕ → List ℕ → List A
values_of value n bytes = map (λ k. value (item_at n k bytes)) (range_with_len 0 (length bytes / n))

-- ---- symbol items

abbrev pub kind_of : ℕ → Option SymbolKind
kind_of byte =
    if byte == 0 then Some Sd
    else (if byte == 2 then Some Er
    else (if byte == 3 then Some Lr
    else (if byte == 4 then Some Pc
    else (if byte == 5 then Some Cm
    else (if byte == 6 then Some Pr
    else (if byte == 7 then Some Null
    else (if byte == 10 then Some Wx else None)))))))

abbrev pub name_of : List ℕ → Name
name_of item = record { 0 = take 8 item }

-- private code has the blank name, whatever stands there
abbrev pub name_as : SymbolKind → List ℕ → Name
name_as Pc item = record { 0 = blank_bytes }
name_as kind item = name_of item

-- the length, or of a label the item number of its section
abbrev pub length_as : SymbolKind → List ℕ → ℕ
length_as Lr item = number_at 14 2 item
length_as kind item = number_at 13 3 item

abbrev pub symbol_as : SymbolKind → List ℕ → SymbolItem
symbol_as kind item = record {
  name = name_as kind item;
  kind = kind;
  address = number_at 9 3 item;
  segment = slice_index item 12;
  length = length_as kind item;
}

-- the symbol that 16 bytes say
abbrev pub symbol_of : List ℕ → SymbolItem
symbol_of item = symbol_as (unwrap_or (kind_of (slice_index item 8)) Null) item

abbrev pub symbols_of : List ℕ → List SymbolItem
symbols_of items = values_of symbol_of 16 items

-- an alignment of 1, 2, 4 or 8, less one
abbrev pub is_alignment : ℕ → Bool
is_alignment n = is_one_of (0 ∷ 1 ∷ 3 ∷ 7 ∷ []) n

-- the type is unknown, or asks for another alignment or for a name
abbrev pub is_wrong_as : Option SymbolKind → List ℕ → Bool
is_wrong_as None item = true
is_wrong_as (Some Pr) item = not (is_alignment (slice_index item 12))
is_wrong_as (Some Er) item = is_blank (name_of item)
is_wrong_as (Some Lr) item = is_blank (name_of item)
is_wrong_as (Some Wx) item = is_blank (name_of item)
is_wrong_as (Some _) item = false

abbrev pub is_wrong_symbol : List ℕ → Bool
is_wrong_symbol item = is_wrong_as (kind_of (slice_index item 8)) item

abbrev pub has_wrong_symbol : List ℕ → Bool
has_wrong_symbol items = list_any (λ k. is_wrong_symbol (item_at 16 k items)) (range_with_len 0 (length items / 16))

-- ---- scatter, translation and note items

-- the address that 4 bytes say: the first is not looked at
abbrev pub scatter_of : List ℕ → ℕ
scatter_of item = number_at 1 3 item

abbrev pub scatters_of : List ℕ → List ℕ
scatters_of items = values_of scatter_of 4 items

-- the number that 2 bytes say
abbrev pub translation_of : List ℕ → ℕ
translation_of item = number_at 0 2 item

abbrev pub translations_of : List ℕ → List ℕ
translations_of items = values_of translation_of 2 items

-- the segment that 12 bytes say: bytes 3, 7 and 11 are not looked at
abbrev pub note_of : List ℕ → NoteItem
note_of item = record { first = number_at 0 3 item; origin = number_at 4 3 item; length = number_at 8 3 item }

abbrev pub notes_of : List ℕ → List NoteItem
notes_of items = values_of note_of 12 items
