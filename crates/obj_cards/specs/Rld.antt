-- RLD cards: items of eight bytes, or of four where the item before says that its pointers serve again.
use Rattle.std.specs.Prelude.{◌≡◌, ℕ, ◌-◌, ◌^◌, ◌<◌, ◌≤◌, Bool, true, false, ◌&&◌, ◌||◌, ◌==◌, nat_lt, nat_le, bit_and, if◌then◌else◌, IsTrue, List, [], ◌∷◌, ◌++◌, length, take, drop, replicate, Option, Some, None, Result, Ok, Err}
use Rattle.std.specs.List.{AllByRecursion}
use Rattle.byteorder.specs.Endian.{big_number, big_bytes}
use Rattle.obj_cards.specs.declared.card.CardRld.{CardRld}
use Rattle.obj_cards.specs.declared.card.RldCard.{RldCard}
use Rattle.obj_cards.specs.declared.fault.CardFault.{CardFault}
use Rattle.obj_cards.specs.declared.fault.CardFault.TheVariants.{BadCount, BadFlag}
use Rattle.obj_cards.specs.Columns.{number_in, blanks, filled, head, rld_type}

-- what stands in the places that are not in use
abbrev pub unused_rld : CardRld
unused_rld = record { r = 0; p = 0; flag = 0; address = 0 }

abbrev pub unused_rld_card : RldCard
unused_rld_card = record { count = 0; items = replicate 13 unused_rld }

-- the next item has the pointers of the item with this flag, and omits them
abbrev pub is_shared : ℕ → Bool
is_shared flag = bit_and flag 1 == 1

-- one of the four kinds of constant, and a minus sign at address constants alone
abbrev pub is_rld_flag : ℕ → Bool
is_rld_flag flag = nat_lt flag 64 && (nat_lt flag 16 || bit_and flag 2 == 0)

-- ---- spelling

abbrev pub pointer_bytes : Bool → CardRld → List ℕ
pointer_bytes true i = []
pointer_bytes false i = big_bytes 2 i.r ++ big_bytes 2 i.p

abbrev pub field_bytes : CardRld → List ℕ
field_bytes i = i.flag ∷ big_bytes 3 i.address

-- the items, the first of them without its pointers where they are omitted
abbrev pub rld_bytes : Bool → List CardRld → List ℕ
rld_bytes omitted [] = []
rld_bytes omitted (i ∷ items) = pointer_bytes omitted i ++ field_bytes i ++ rld_bytes (is_shared i.flag) items

abbrev pub rld_text : RldCard → List ℕ
rld_text c =
    let bytes = rld_bytes false (take c.count c.items) in
    head rld_type (blanks 3) (big_bytes 2 (length bytes)) (blanks 2) ++ bytes

-- ---- reading

-- R and P of an item, where the next item has them too
abbrev pub pointers_after : CardRld → Option (ℕ × ℕ)
pointers_after i = if is_shared i.flag then Some (i.r, i.p) else None

-- the item before the others that were read
abbrev pub with_first : CardRld → Result (List CardRld) CardFault → Result (List CardRld) CardFault
with_first i (Ok items) = Ok (i ∷ items)
with_first i (Err fault) = Err fault

abbrev pub field_item : ℕ → ℕ → ℕ → ℕ → ℕ → ℕ → CardRld
field_item r p flag a b c = record { r = r; p = p; flag = flag; address = big_number 3 (a ∷ b ∷ c ∷ []) }

-- the items in the bytes from the left, or the first fault; at the start, the pointers of the item
-- before, where they serve again
unfoldable pub rld_items : Option (ℕ × ℕ) → List ℕ → Result (List CardRld) CardFault
rld_items None [] = Ok []
rld_items (Some shared) [] = Err BadFlag
rld_items (Some (r, p)) (flag ∷ a ∷ b ∷ c ∷ bytes) =
    if is_rld_flag flag
    then with_first (field_item r p flag a b c) (rld_items (pointers_after (field_item r p flag a b c)) bytes)
    else Err BadFlag
rld_items None (q ∷ r ∷ o ∷ p ∷ flag ∷ a ∷ b ∷ c ∷ bytes) =
    let item = field_item (big_number 2 (q ∷ r ∷ [])) (big_number 2 (o ∷ p ∷ [])) flag a b c in
    if is_rld_flag flag then with_first item (rld_items (pointers_after item) bytes) else Err BadFlag
rld_items _ _ = Err BadCount

abbrev pub rld_with : Result (List CardRld) CardFault → Result RldCard CardFault
rld_with (Ok items) = Ok (record { count = length items; items = filled 13 unused_rld items })
rld_with (Err fault) = Err fault

unfoldable pub rld_card : List ℕ → Result RldCard CardFault
rld_card card =
    let count = number_in 11 12 card in
    if nat_le count 56 then rld_with (rld_items None (take count (drop 16 card))) else Err BadCount

-- ---- what an RLD card is

pub record IsCardRld (i : CardRld) : Type 0 where
  pub r : i.r < 2 ^ 16
  pub p : i.p < 2 ^ 16
  pub flag : IsTrue (is_rld_flag i.flag)
  pub address : i.address < 2 ^ 24

-- an item after one that shares its pointers has the same, and after the last comes none
abbrev pub SharePointers : List CardRld → Type 0
SharePointers [] = Unit {0}
SharePointers (i ∷ []) = is_shared i.flag ≡ false
SharePointers (i ∷ j ∷ items) = (is_shared i.flag ≡ true → (j.r ≡ i.r) × (j.p ≡ i.p)) × SharePointers (j ∷ items)

pub record IsRldCard (c : RldCard) : Type 0 where
  pub count : c.count ≤ 13
  pub items : AllByRecursion IsCardRld (take c.count c.items)
  pub pointers : SharePointers (take c.count c.items)
  pub room : length (rld_bytes false (take c.count c.items)) ≤ 56
  pub unused : drop c.count c.items ≡ replicate (13 - c.count) unused_rld
