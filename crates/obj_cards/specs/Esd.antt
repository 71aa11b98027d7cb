-- ESD cards: how an item is spelled, what 16 bytes give, and what an item is.
use Rattle.std.specs.Prelude.{◌≡◌, ℕ, suc, zero, ◌*◌, ◌/◌, ◌^◌, ◌<◌, ◌≤◌, ◌-◌, Bool, true, false, not, ◌||◌, ◌==◌, if◌then◌else◌, IsTrue, List, [], ◌∷◌, ◌++◌, take, drop, replicate, slice_index, Option, Some, None, Result, Ok, Err}
use Rattle.std.specs.List.{flat_map, AllByRecursion}
use Rattle.std.specs.Option.{option_map, option_and_then}
use Rattle.byteorder.specs.Endian.{big_number, big_bytes}
use Rattle.le_bytes.specs.declared.name.Name.{Name}
use Rattle.le_bytes.specs.Names.{is_blank, blank_bytes}
use Rattle.obj_cards.specs.declared.card.EsdKind.{EsdKind}
use Rattle.obj_cards.specs.declared.card.EsdKind.TheVariants.{Sd, Ld, Er, Pc, Cm, Pr, Wx}
use Rattle.obj_cards.specs.declared.card.EsdItem.{EsdItem}
use Rattle.obj_cards.specs.declared.card.EsdCard.{EsdCard}
use Rattle.obj_cards.specs.declared.fault.CardFault.{CardFault}
use Rattle.obj_cards.specs.declared.fault.CardFault.TheVariants.{BadCount, BadEsdType}
use Rattle.obj_cards.specs.Columns.{number_in, blanks, filled, head, esd_type}

abbrev pub blank_name : Name
blank_name = record { 0 = blank_bytes }

-- what stands in the places that are not in use
abbrev pub unused_esd : EsdItem
unused_esd = record { name = blank_name; kind = Sd; address = 0; align = 0; length = 0 }

abbrev pub unused_esd_card : EsdCard
unused_esd_card = record { esdid = 0; count = 0; items = replicate 3 unused_esd }

-- ---- spelling

abbrev pub kind_code : EsdKind → ℕ
kind_code Sd = 0
kind_code Ld = 1
kind_code Er = 2
kind_code Pc = 4
kind_code Cm = 5
kind_code Pr = 6
kind_code Wx = 10

-- byte 12 of an item: a register's alignment less one, else a blank
abbrev pub align_byte : EsdKind → ℕ → ℕ
align_byte Pr align = align
align_byte _ align = 64

-- name, type, address, alignment and length
abbrev pub esd_bytes : EsdItem → List ℕ
esd_bytes i = i.name.0 ++ kind_code i.kind ∷ big_bytes 3 i.address ++ align_byte i.kind i.align ∷ big_bytes 3 i.length

abbrev pub esd_text : EsdCard → List ℕ
esd_text e = head esd_type (blanks 3) (big_bytes 2 (16 * e.count)) (big_bytes 2 e.esdid) ++ flat_map esd_bytes (take e.count e.items)

-- ---- reading

-- the kind that a type stands for, none for a type that there is not
abbrev pub kind_of : ℕ → Option EsdKind
kind_of code =
    if code == 0 then Some Sd else if code == 1 then Some Ld else if code == 2 then Some Er else if code == 4 then Some Pc
    else if code == 5 then Some Cm else if code == 6 then Some Pr else if code == 10 then Some Wx else None

-- an alignment in bytes, less one
abbrev pub is_alignment : ℕ → Bool
is_alignment a = a == 0 || a == 1 || a == 3 || a == 7

abbrev pub name_in : List ℕ → Name
name_in bytes = record { 0 = take 8 bytes }

-- what the kind asks of the 16 bytes: a register an alignment that there is, a label or reference a name
abbrev pub suits : EsdKind → List ℕ → Bool
suits Pr bytes = is_alignment (slice_index bytes 12)
suits Ld bytes = not (is_blank (name_in bytes))
suits Er bytes = not (is_blank (name_in bytes))
suits Wx bytes = not (is_blank (name_in bytes))
suits Sd bytes = true
suits Pc bytes = true
suits Cm bytes = true

-- the item of a kind: the fields that the kind has
abbrev pub item_of_kind : EsdKind → List ℕ → EsdItem
item_of_kind Sd b = record { name = name_in b; kind = Sd; address = big_number 3 (drop 9 b); align = 0; length = big_number 3 (drop 13 b) }
item_of_kind Ld b = record { name = name_in b; kind = Ld; address = big_number 3 (drop 9 b); align = 0; length = big_number 2 (drop 14 b) }
item_of_kind Er b = record { name = name_in b; kind = Er; address = 0; align = 0; length = 0 }
item_of_kind Pc b = record { name = blank_name; kind = Pc; address = big_number 3 (drop 9 b); align = 0; length = big_number 3 (drop 13 b) }
item_of_kind Cm b = record { name = name_in b; kind = Cm; address = 0; align = 0; length = big_number 3 (drop 13 b) }
item_of_kind Pr b = record { name = name_in b; kind = Pr; address = 0; align = slice_index b 12; length = big_number 3 (drop 13 b) }
item_of_kind Wx b = record { name = name_in b; kind = Wx; address = 0; align = 0; length = 0 }

-- the item that 16 bytes give, none where its type, alignment or name is wrong
unfoldable pub esd_item : List ℕ → Option EsdItem
esd_item bytes = option_and_then (λ kind. if suits kind bytes then Some (item_of_kind kind bytes) else None) (kind_of (slice_index bytes 8))

-- the item, or the fault of an ESD card whose item is wrong
abbrev pub or_bad_type : {X : Type 0} → Option X → Result X CardFault
or_bad_type (Some x) = Ok x
or_bad_type None = Err BadEsdType

-- the first n items of the bytes, none where one of them is wrong
unfoldable pub esd_items : ℕ → List ℕ → Option (List EsdItem)
esd_items zero bytes = Some []
esd_items (suc n) bytes = option_and_then (λ item. option_map (λ rest. item ∷ rest) (esd_items n (drop 16 bytes))) (esd_item (take 16 bytes))

-- the card with n items
abbrev pub esd_with : ℕ → List ℕ → Option (List EsdItem) → Result EsdCard CardFault
esd_with n card None = Err BadEsdType
esd_with n card (Some items) = Ok (record { esdid = number_in 15 16 card; count = n; items = filled 3 unused_esd items })

-- the byte count of one, two or three items
abbrev pub is_esd_size : ℕ → Bool
is_esd_size n = n == 16 || n == 32 || n == 48

unfoldable pub esd_card : List ℕ → Result EsdCard CardFault
esd_card card =
    let size = number_in 11 12 card in
    if is_esd_size size then esd_with (size / 16) card (esd_items (size / 16) (drop 16 card)) else Err BadCount

-- ---- what an ESD card is

-- no field that the kind does not have, a name where it needs one, an alignment that there is
abbrev pub SuitsKind : EsdKind → EsdItem → Type 0
SuitsKind Sd i = i.align ≡ 0
SuitsKind Ld i = (is_blank i.name ≡ false) × (i.align ≡ 0) × (i.length < 2 ^ 16)
SuitsKind Er i = (is_blank i.name ≡ false) × (i.address ≡ 0) × (i.align ≡ 0) × (i.length ≡ 0)
SuitsKind Pc i = (i.name ≡ blank_name) × (i.align ≡ 0)
SuitsKind Cm i = (i.address ≡ 0) × (i.align ≡ 0)
SuitsKind Pr i = (i.address ≡ 0) × IsTrue (is_alignment i.align)
SuitsKind Wx i = (is_blank i.name ≡ false) × (i.address ≡ 0) × (i.align ≡ 0) × (i.length ≡ 0)

pub record IsEsdItem (i : EsdItem) : Type 0 where
  pub address : i.address < 2 ^ 24
  pub length : i.length < 2 ^ 24
  pub suits : SuitsKind i.kind i

pub record IsEsdCard (e : EsdCard) : Type 0 where
  pub esdid : e.esdid < 2 ^ 16
  pub some : 1 ≤ e.count
  pub most : e.count ≤ 3
  pub items : AllByRecursion IsEsdItem (take e.count e.items)
  pub unused : drop e.count e.items ≡ replicate (3 - e.count) unused_esd
