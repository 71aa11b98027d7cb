-- Laws, each the contract of a function: what is laid into parts, and what their fields become, is what storage holds.
use Rattle.std.specs.Prelude.{◌≡◌, ℕ, List, length, map}
use Rattle.load_recs.specs.declared.items.SymbolItem.{SymbolItem}
use Rattle.linking_model.specs.Run.{Storage, with_piece, list_piece}
use Rattle.member_model.specs.Facts.{Facts}
use Rattle.member_model.specs.Loaded.{moved, items_in, text_storage, loaded}
use Rattle.fetch_places.specs.declared.placement.Placement.{Placement}
use Rattle.fetch_places.specs.Addresses.{addresses_by, extents_by}
use Rattle.fetch_places.specs.Extents.{Fits}
use Rattle.fetch_storage.specs.Kept.{empty_parts, with_text, with_fields, parts_of}
use Rattle.fetch_storage.specs.Shifts.{shifts_by}
use Rattle.fetch_storage.specs.Held.{part_in, holding}
use Rattle.fetch_storage.specs.Sound.{InSection, Suits, SectionsApart, AllSound}

-- new parts are zero
abbrev pub NewPartsAreZero : Type 0
NewPartsAreZero = (symbols : List SymbolItem) (p : Placement) → Fits p symbols → empty_parts symbols p ≡ holding symbols p (λ a. 0)

-- text of a section stands where the section has moved to
abbrev pub TextStands : Type 0
TextStands =
    (symbols : List SymbolItem) (p : Placement) (M : Storage) (n a : ℕ) (bytes : List ℕ)
    → Fits p symbols → Suits symbols p → InSection symbols n a (length bytes)
    → with_text (holding symbols p M) n a bytes
    ≡ holding symbols p (with_piece M (list_piece (moved symbols (addresses_by symbols p) n a) bytes))

-- with all text laid and all fields shifted, the parts hold what is loaded
abbrev pub FieldsAreLoaded : Type 0
FieldsAreLoaded =
    (F : Facts) (p : Placement) → Fits p F.symbols → Suits F.symbols p → SectionsApart F.symbols → AllSound F.symbols (items_in F 1)
    → with_fields F.symbols (shifts_by F.symbols (addresses_by F.symbols p))
    (holding F.symbols p (text_storage F (addresses_by F.symbols p) 1)) (items_in F 1)
    ≡ holding F.symbols p (loaded F (addresses_by F.symbols p) 1)

-- the parts are what storage has in the extents of the placement
abbrev pub PartsAreExtents : Type 0
PartsAreExtents =
    (symbols : List SymbolItem) (p : Placement) (M : Storage) → Fits p symbols
    → parts_of (holding symbols p M) ≡ map (part_in M) (extents_by symbols p)
