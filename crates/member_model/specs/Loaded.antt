-- The storage of a segment of a member: its text, and its address constants moved with what they refer to. Which
-- constants move follows GC28-6538; the records that tell of them are this project's profile.
use Rattle.std.specs.Prelude.{ℕ, ◌+◌, ◌-◌, ◌%◌, ◌^◌, Bool, not, ◌&&◌, ◌==◌, if◌then◌else◌, List, map, filter, fold, sum_by, find, slice_index, Option, Some, None}
use Rattle.std.specs.List.{range_with_len}
use Rattle.byteorder.specs.Endian.{big_number, big_bytes}
use Rattle.linking_model.specs.Numbers.{is_among}
use Rattle.linking_model.specs.Linked.{signed_difference}
use Rattle.linking_model.specs.Run.{Storage, with_piece, list_piece}
use Rattle.load_recs.specs.declared.items.SymbolItem.{SymbolItem}
use Rattle.load_recs.specs.declared.items.RldItem.{RldItem}
use Rattle.member_model.specs.Symbols.{is_address_kind, is_minus, field_length, is_outside, symbol_at, section_of, section_rank, address_in_module, same_field}
use Rattle.member_model.specs.Facts.{Facts}

-- the address of each section, by its item number
abbrev pub Addresses : Type 0
Addresses = ℕ → ℕ

-- the module in one block from an address on
abbrev pub in_block : List SymbolItem → ℕ → Addresses
in_block symbols at = λ n. at + address_in_module symbols n

-- the sections, in their order, at these addresses
abbrev pub in_places : List SymbolItem → List ℕ → Addresses
in_places symbols addresses = λ n. slice_index addresses (section_rank symbols n - 1)

-- where the byte of section n stands that is at address a in the module
abbrev pub moved : List SymbolItem → Addresses → ℕ → ℕ → ℕ
moved symbols q n a = q n + (a - address_in_module symbols n)

-- the text of segment s: the last one for a place, and 0 where there is none
unfoldable pub text_storage : Facts → Addresses → ℕ → Storage
text_storage F q s =
    fold
    (λ M t. if t.segment == s then with_piece M (list_piece (moved F.symbols q t.section t.address) t.bytes) else M)
    (λ _. 0) F.texts

-- ---- constants

-- the item adds a shift: it is of A-type or V-type, and its symbol is defined
abbrev pub is_shifted : List SymbolItem → RldItem → Bool
is_shifted symbols x = is_address_kind x && not (is_outside (symbol_at symbols x.r))

-- the relocation items of segment s
abbrev pub items_in : Facts → ℕ → List RldItem
items_in F s = map (λ x. x.item) (filter (λ x. x.segment == s) F.fields)

-- those of them that add a shift
abbrev pub shifts_of : Facts → ℕ → List RldItem
shifts_of F s = filter (is_shifted F.symbols) (items_in F s)

-- where the field of the item stands
abbrev pub field_place : Facts → Addresses → RldItem → ℕ
field_place F q x = moved F.symbols q x.p x.address

-- the field has a byte at address a
abbrev pub covers : Facts → Addresses → ℕ → RldItem → Bool
covers F q a x = is_among (field_place F q x) (field_length x) a

-- how far the symbol of the item has moved, or minus that, modulo m: a label moves with its section
abbrev pub shift : Facts → Addresses → ℕ → RldItem → ℕ
shift F q m x =
    let n = section_of F.symbols x.r in
    signed_difference m (is_minus x) (q n) (address_in_module F.symbols n)

-- the number of the field of x with all its shifts
abbrev pub shifted : Facts → Addresses → List RldItem → Storage → RldItem → ℕ
shifted F q items M x =
    let m = 256 ^ field_length x in
    (big_number (field_length x) (map M (range_with_len (field_place F q x) (field_length x)))
    + sum_by (shift F q m) (filter (same_field x) items)) % m

-- the byte at address a, in the field of this item or in none
abbrev pub loaded_byte : Facts → Addresses → List RldItem → Storage → ℕ → Option RldItem → ℕ
loaded_byte F q items M a None = M a
loaded_byte F q items M a (Some x) =
    slice_index (big_bytes (field_length x) (shifted F q items M x)) (a - field_place F q x)

-- the storage of segment s, and 0 elsewhere
unfoldable pub loaded : Facts → Addresses → ℕ → Storage
loaded F q s = λ a.
    let M = text_storage F q s in let items = shifts_of F s in
    loaded_byte F q items M a (find (covers F q a) items)
