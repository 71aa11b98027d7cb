-- Reading relocation items one after the other. After an item with bit 7 of its flag on, the next is
-- its flag and address alone and has the same numbers.
use Rattle.std.specs.Prelude.{ℕ, ◌+◌, ◌/◌, ◌%◌, Bool, false, not, ◌&&◌, ◌||◌, ◌==◌, nat_lt, if◌then◌else◌, List, [], ◌∷◌, fold, length, Option, Some, None}
use Rattle.std.specs.List.{list_any}
use Rattle.byteorder.specs.Endian.{big_number}
use Rattle.load_recs.specs.Forms.{is_one_of}
use Rattle.load_recs.specs.declared.items.RldItem.{RldItem}
use Rattle.load_recs.specs.declared.relocation_items.Pointers.{Pointers}

abbrev pub pointers_of : RldItem → Pointers
pointers_of item = record { r = item.r; p = item.p }

-- ---- the flag

-- bit 7: the next item has the same numbers
abbrev pub is_joined : ℕ → Bool
is_joined flag = flag % 2 == 1

-- bit 6: the value is taken off
abbrev pub is_minus : ℕ → Bool
is_minus flag = flag / 2 % 2 == 1

-- bits 1 to 3: 0 A-type, 1 V-type, 2 displacement, 3 total
abbrev pub field_kind : ℕ → ℕ
field_kind flag = flag / 16 % 8

-- a V-type constant
abbrev pub is_branch : ℕ → Bool
is_branch flag = field_kind flag == 1

-- A-type and V-type
abbrev pub is_address_kind : ℕ → Bool
is_address_kind flag = nat_lt (field_kind flag) 2

-- bit 0: the symbol is not defined
abbrev pub is_marked_outside : ℕ → Bool
is_marked_outside flag = nat_lt 127 flag

-- bits 4 and 5 are the length less one
abbrev pub field_length : ℕ → ℕ
field_length flag = flag / 4 % 4 + 1

-- bits 0 to 3 mean nothing, or what is taken off is no A-type constant
abbrev pub is_wrong_flag : ℕ → Bool
is_wrong_flag flag = not (is_one_of (0 ∷ 1 ∷ 2 ∷ 3 ∷ 8 ∷ 9 ∷ []) (flag / 16)) || is_minus flag && not (field_kind flag == 0)

-- ---- the items

abbrev pub numbers : ℕ → ℕ → ℕ → ℕ → Pointers
numbers a b c d = record { r = big_number 2 (a ∷ b ∷ []); p = big_number 2 (c ∷ d ∷ []) }

abbrev pub item_with : Pointers → ℕ → ℕ → ℕ → ℕ → RldItem
item_with pointers flag x y z =
    record { r = pointers.r; p = pointers.p; flag = flag; address = big_number 3 (x ∷ y ∷ z ∷ []) }

-- the numbers that the next item does not say again
abbrev pub kept_after : Pointers → ℕ → Option Pointers
kept_after pointers flag = if is_joined flag then Some pointers else None

abbrev pub kept_by : RldItem → Option Pointers
kept_by item = kept_after (pointers_of item) item.flag

-- the item that the bytes begin with and the bytes after it: of flag and address alone, and with its numbers
abbrev pub short_item : Pointers → List ℕ → Option (RldItem × List ℕ)
short_item pointers (flag ∷ x ∷ y ∷ z ∷ rest) = Some (item_with pointers flag x y z, rest)
short_item pointers _ = None

abbrev pub full_item : List ℕ → Option (RldItem × List ℕ)
full_item (a ∷ b ∷ c ∷ d ∷ rest) = short_item (numbers a b c d) rest
full_item _ = None

abbrev pub first_item : Option Pointers → List ℕ → Option (RldItem × List ℕ)
first_item (Some pointers) bytes = short_item pointers bytes
first_item None bytes = full_item bytes

-- the items of the bytes, after numbers that the first item does not say, or none
abbrev pub rlds_after : Option Pointers → List ℕ → List RldItem
rlds_after None (a ∷ b ∷ c ∷ d ∷ flag ∷ x ∷ y ∷ z ∷ rest) =
    item_with (numbers a b c d) flag x y z ∷ rlds_after (kept_after (numbers a b c d) flag) rest
rlds_after (Some pointers) (flag ∷ x ∷ y ∷ z ∷ rest) =
    item_with pointers flag x y z ∷ rlds_after (kept_after pointers flag) rest
rlds_after _ _ = []

-- the bytes after the last whole item
abbrev pub left_after : Option Pointers → List ℕ → List ℕ
left_after None (a ∷ b ∷ c ∷ d ∷ flag ∷ x ∷ y ∷ z ∷ rest) = left_after (kept_after (numbers a b c d) flag) rest
left_after (Some pointers) (flag ∷ x ∷ y ∷ z ∷ rest) = left_after (kept_after pointers flag) rest
left_after _ rest = rest

-- the relocation items of a record
abbrev pub rlds_of : List ℕ → List RldItem
rlds_of bytes = rlds_after None bytes

-- the bytes are whole items
abbrev pub is_whole : List ℕ → Bool
is_whole bytes = length (left_after None bytes) == 0

-- an item's flag is wrong, or the last promises a next item; `joined` is what one before the items promises
abbrev pub is_wrong_after : Bool → List RldItem → Bool
is_wrong_after joined items =
    list_any (λ item. is_wrong_flag item.flag) items || fold (λ _ item. is_joined item.flag) joined items

abbrev pub has_wrong_flag : List RldItem → Bool
has_wrong_flag items = is_wrong_after false items
