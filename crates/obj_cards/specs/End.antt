-- END cards.
use Rattle.std.specs.Prelude.{◌≡◌, ◌≢◌, ℕ, ◌^◌, ◌<◌, false, not, ◌==◌, if◌then◌else◌, List, ◌++◌, slice_index, Option, Some, None, IfSome}
use Rattle.byteorder.specs.Endian.{big_bytes}
use Rattle.le_bytes.specs.Names.{is_blank}
use Rattle.obj_cards.specs.declared.card.EndStart.{EndStart}
use Rattle.obj_cards.specs.declared.card.EndStart.TheVariants.{None as NoStart, At, Named}
use Rattle.obj_cards.specs.declared.card.EndCard.{EndCard}
use Rattle.obj_cards.specs.Columns.{columns, number_in, are_blank, blanks, head, end_type}

-- ---- spelling

abbrev pub start_address : EndStart → List ℕ
start_address (At address esdid) = big_bytes 3 address
start_address _ = blanks 3

abbrev pub start_esdid : EndStart → List ℕ
start_esdid (At address esdid) = big_bytes 2 esdid
start_esdid _ = blanks 2

abbrev pub start_name : EndStart → List ℕ
start_name (Named name) = name.0
start_name _ = blanks 8

abbrev pub length_bytes : Option ℕ → List ℕ
length_bytes None = blanks 4
length_bytes (Some n) = big_bytes 4 n

abbrev pub end_text : EndCard → List ℕ
end_text e = head end_type (start_address e.start) (blanks 2) (start_esdid e.start) ++ (start_name e.start ++ blanks 4 ++ length_bytes e.length)

-- ---- reading

-- an address in columns 6 to 8, else a name in columns 17 to 24, else nothing
abbrev pub end_start : List ℕ → EndStart
end_start card =
    if not (are_blank (columns 6 8 card)) then At (number_in 6 8 card) (number_in 15 16 card)
    else if not (are_blank (columns 17 24 card)) then Named (record { 0 = columns 17 24 card })
    else NoStart

-- X'00' in column 29 tells a length from a blank field
abbrev pub end_length : List ℕ → Option ℕ
end_length card = if slice_index card 28 == 0 then Some (number_in 29 32 card) else None

unfoldable pub end_card : List ℕ → EndCard
end_card card = record { start = end_start card; length = end_length card }

-- ---- what an END card is

-- an address that is not three blanks, or a name that is not blank
abbrev pub IsEndStart : EndStart → Type 0
IsEndStart NoStart = Unit {0}
IsEndStart (At address esdid) = (address < 2 ^ 24) × (address ≢ 0x404040) × (esdid < 2 ^ 16)
IsEndStart (Named name) = is_blank name ≡ false

pub record IsEndCard (e : EndCard) : Type 0 where
  pub start : IsEndStart e.start
  pub length : IfSome e.length (λ n. n < 2 ^ 24)
