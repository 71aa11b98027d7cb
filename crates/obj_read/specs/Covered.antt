-- The terms of constants in a map by the bytes of their fields.
use Rattle.std.specs.Prelude.{◌≡◌, ℕ, ◌+◌, Bool, ◌&&◌, ◌==◌, nat_eq, nat_le, nat_lt, List, find, Option, Some, None}
use Rattle.std.specs.HashMap.{get, HashMap}
use Rattle.obj_cards.specs.declared.card.CardRld.{CardRld}
use Rattle.obj_read.specs.declared.terms.BytePlace.{BytePlace}
use Rattle.obj_read.specs.Faults.{covers}
use Rattle.obj_read.specs.Flags.{length_of_flag}
use Rattle.obj_read.specs.Indexed.{or_place}

-- the fields of both terms share a byte
abbrev pub touches : CardRld → CardRld → Bool
touches f g =
    f.p == g.p && nat_lt g.address (f.address + length_of_flag f.flag) && nat_lt f.address (g.address + length_of_flag g.flag)

abbrev pub byte_eq : BytePlace → BytePlace → Bool
byte_eq a b = nat_eq a.section b.section && nat_eq a.byte b.byte

abbrev pub place : ℕ → ℕ → BytePlace
place s b = record { section = s; byte = b }

-- the map has at each byte the first term whose field the byte stands in
abbrev pub IsCovered : {S : Type 0} → List CardRld → HashMap BytePlace CardRld S → Type 0
IsCovered terms covered = (s b : ℕ) → get byte_eq covered (place s b) ≡ find (covers s b) terms

-- where there is a map, it is of these terms
abbrev pub IsCoveredIfMany : {S : Type 0} → List CardRld → Option (HashMap BytePlace CardRld S) → Type 0
IsCoveredIfMany terms None = Unit {0}
IsCoveredIfMany terms (Some covered) = IsCovered terms covered

-- what the map had, and the term at the one byte if it had none there
abbrev pub CoversByte : {S : Type 0} → HashMap BytePlace CardRld S → HashMap BytePlace CardRld S → BytePlace → CardRld → Type 0
CoversByte old new at f =
    (s b : ℕ) → get byte_eq new (place s b) ≡ or_place (get byte_eq old (place s b)) (byte_eq at (place s b)) f

-- the byte is among the first n of the term's field
abbrev pub begins_at : ℕ → ℕ → CardRld → ℕ → Bool
begins_at s b f n = f.p == s && nat_le f.address b && nat_lt b (f.address + n)

-- what the map had, and the term at each of the first n bytes of its field where it had none
abbrev pub CoversBytes : {S : Type 0} → HashMap BytePlace CardRld S → HashMap BytePlace CardRld S → CardRld → ℕ → Type 0
CoversBytes old new f n =
    (s b : ℕ) → get byte_eq new (place s b) ≡ or_place (get byte_eq old (place s b)) (begins_at s b f n) f
