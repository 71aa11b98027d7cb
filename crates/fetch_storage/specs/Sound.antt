-- What the sections, the text and the constants of a member keep, so that they can stand in parts of storage.
use Rattle.std.specs.Prelude.{◌≡◌, ℕ, ◌+◌, ◌<◌, ◌≤◌, true, false, List, [], ◌∷◌, Some}
use Rattle.load_recs.specs.declared.items.SymbolItem.{SymbolItem}
use Rattle.load_recs.specs.declared.items.RldItem.{RldItem}
use Rattle.member_model.specs.Symbols.{is_section, symbol_at, end_of, field_length}
use Rattle.member_model.specs.Faults.{shares_wrongly}
use Rattle.member_model.specs.Loaded.{is_shifted}
use Rattle.fetch_places.specs.declared.placement.Placement.{Placement}
use Rattle.fetch_places.specs.declared.placement.Placement.TheVariants.{Block, Scattered}
use Rattle.fetch_storage.specs.Shifts.{moves}

-- k bytes from address a in the module on lie in section n, which is one of segment 1
pub record InSection (symbols : List SymbolItem) (n a k : ℕ) : Type 0 where
  pub section : SymbolItem
  pub found : symbol_at symbols n ≡ Some section
  pub kind : is_section section ≡ true
  pub segment : section.segment ≡ 1
  pub from : section.address ≤ a
  pub to : a + k ≤ end_of section

-- in a block, each section ends within the module
abbrev pub Suits : List SymbolItem → Placement → Type 0
Suits symbols (Block at size) = (n : ℕ) (x : SymbolItem) → symbol_at symbols n ≡ Some x → is_section x ≡ true → end_of x ≤ size
Suits symbols (Scattered addresses) = Unit {0}

-- sections of segment 1 stand in their order in the module
abbrev pub SectionsApart : List SymbolItem → Type 0
SectionsApart symbols =
    (n m : ℕ) (x y : SymbolItem) → n < m → symbol_at symbols n ≡ Some x → symbol_at symbols m ≡ Some y
    → is_section x ≡ true → is_section y ≡ true → x.segment ≡ 1 → y.segment ≡ 1 → end_of x ≤ y.address

-- the symbol that an item refers to moves
pub record HasMover (symbols : List SymbolItem) (x : RldItem) : Type 0 where
  pub mover : SymbolItem
  pub found : symbol_at symbols x.r ≡ Some mover
  pub moving : moves mover.kind ≡ true

-- a field lies in a section, and where it is shifted its symbol moves
pub record SoundField (symbols : List SymbolItem) (x : RldItem) : Type 0 where
  pub inside : InSection symbols x.p x.address (field_length x)
  pub mover : is_shifted symbols x ≡ true → HasMover symbols x

-- none that comes after x shares a byte with it wrongly
abbrev pub NoneShares : RldItem → List RldItem → Type 0
NoneShares x [] = Unit {0}
NoneShares x (y ∷ ys) = (shares_wrongly y x ≡ false) × NoneShares x ys

-- all fields are sound
abbrev pub AllSound : List SymbolItem → List RldItem → Type 0
AllSound symbols [] = Unit {0}
AllSound symbols (x ∷ xs) = SoundField symbols x × NoneShares x xs × AllSound symbols xs
