-- What a written member has in storage: in one block each segment as it is linked there, scattered the whole program, and
-- its entry points where the program has them (this project's profile).
use Rattle.std.specs.Prelude.{◌≡◌, ℕ, ◌≤◌, Bool, true, false, ◌==◌, List, [], ◌∷◌, map, filter, drop, length, Some, None}
use Rattle.pds_directory.specs.declared.entry.Entry.{Entry}
use Rattle.pds_lib.specs.declared.member.Member.{Member}
use Rattle.pds_lib.specs.Stow.{main_entry, entries_for}
use Rattle.linking_model.specs.Places.{Laid, is_overlay, module_length}
use Rattle.linking_model.specs.Points.{Point}
use Rattle.linking_model.specs.Scattered.{Area, scattered}
use Rattle.linking_model.specs.Linked.{Placement, block, spread, point_address}
use Rattle.linking_model.specs.Run.{Storage, byte_in, pieces, start}
use Rattle.member_model.specs.SymbolList.{symbols_written}
use Rattle.member_model.specs.Facts.{Facts, walked}
use Rattle.member_model.specs.Loaded.{Addresses, in_block, in_places, moved, loaded}
use Rattle.member_model.specs.Fetched.{Fetched, fetched, fetched_over, entry_address, first_storage}
use Rattle.member_model.specs.AfterFailure.{SameBytes}
use Rattle.member_model.specs.Placing.{is_origin}
use Rattle.member_model.specs.Written.{Naming, address_of_point, item_of_point, written_bytes, member_written}
use Rattle.member_model.specs.StandsFor.{AreAreas}
use Rattle.member_laws.specs.Linkable.{IsLinkable, IsFormat, IsNamedFor, LiesInRoot}
use Rattle.member_laws.specs.Gathered.{texts_in, fields_in, records_before}
use Rattle.member_laws.specs.Laws.{Gathers}

-- ---- storage

-- the facts have the symbols of the program, and of segment s its text and relocation items, as they are written
pub record HoldsSegment (P : Laid) (n s : ℕ) (F : Facts) : Type 0 where
  pub symbols : F.symbols ≡ symbols_written P
  pub texts : filter (λ t. t.segment == s) F.texts ≡ texts_in P n s
  pub fields : filter (λ x. x.segment == s) F.fields ≡ fields_in P n s

-- what stands in segment s, linked, and 0 elsewhere: of segment 1, what a run starts with
abbrev pub linked_storage : Laid → Placement → ℕ → Storage
linked_storage P q s = byte_in (pieces P q s)

-- loaded in one block from any address on, a segment is as it is linked there
abbrev pub SegmentsLoadLinked : Type 0
SegmentsLoadLinked =
    (P : Laid) (n s at : ℕ) (F : Facts) → IsLinkable P → 1 ≤ n → 1 ≤ s → s ≤ length P.tree → HoldsSegment P n s F
    → SameBytes (loaded F (in_block F.symbols at) s) (linked_storage P (block P at) s)

-- facts without text and relocation items, with which the reading of segment s begins
pub record BeginsSegment (P : Laid) (s : ℕ) (F : Facts) : Type 0 where
  pub symbols : F.symbols ≡ symbols_written P
  pub texts : F.texts ≡ []
  pub fields : F.fields ≡ []
  pub segment : F.segment ≡ s
  pub due : F.due ≡ None

-- and so it is where it is read alone, from its first record on
abbrev pub SegmentsReadLoadLinked : Type 0
SegmentsReadLoadLinked =
    (P : Laid) (scatter : Bool) (n s at : ℕ) (F : Facts) → IsLinkable P → IsFormat P scatter n → Gathers P scatter n → 1 ≤ s
    → s ≤ length P.tree → BeginsSegment P s F
    → SameBytes
    (loaded (walked s F (drop (records_before P scatter n s) (written_bytes P scatter n))) (in_block (symbols_written P) at) s)
    (linked_storage P (block P at) s)

-- loaded over areas, a program without overlay is as it is linked there
abbrev pub ScatteredLoadLinked : Type 0
ScatteredLoadLinked =
    (P : Laid) (n : ℕ) (areas : List Area) (addresses : List ℕ) (F : Facts) → IsLinkable P → is_overlay P.tree ≡ false
    → 1 ≤ n → AreAreas 0 areas → scattered areas (map (λ x. x.length) P.program.sections) ≡ Some addresses
    → HoldsSegment P n 1 F → SameBytes (loaded F (in_places F.symbols addresses) 1) (linked_storage P (spread addresses) 1)

-- ---- entry points

-- an entry point of the member is that of the program
abbrev pub IsPlaced : Laid → Addresses → Placement → Point → Type 0
IsPlaced P a q x = moved (symbols_written P) a (item_of_point P x) (address_of_point P x) ≡ point_address q x

-- in one block, and, without overlay, with the sections at any addresses
pub record EntryIsPlaced (P : Laid) (x : Point) : Type 0 where
  pub together : (at : ℕ) → IsPlaced P (in_block (symbols_written P) at) (block P at) x
  pub apart : is_overlay P.tree ≡ false → (addresses : List ℕ)
      → IsPlaced P (in_places (symbols_written P) addresses) (spread addresses) x

-- each point in the root is
abbrev pub EntriesArePlaced : Type 0
EntriesArePlaced = (P : Laid) (x : Point) → IsLinkable P → LiesInRoot P x → EntryIsPlaced P x

-- ---- members

-- placed so, the member has the storage and the entry points of the program
pub record LoadsAt (P : Laid) (who : Naming) (m : Member) (q : Placement) (place : Entry → Fetched) : Type 0 where
  pub storage : SameBytes (first_storage (place (main_entry m))) (start P q).storage
  pub entries : map (λ e. entry_address (place e)) (entries_for m)
      ≡ point_address q who.point ∷ map (λ (name, x). point_address q x) who.aliases

-- wherever it may be placed
pub record Loads (P : Laid) (scatter : Bool) (who : Naming) (m : Member) : Type 0 where
  pub in_block : (at : ℕ) → is_origin (module_length P) at ≡ true
      → LoadsAt P who m (block P at) (λ e. fetched e m.records at)
  pub over_areas : scatter ≡ true → is_overlay P.tree ≡ false → (areas : List Area) → AreAreas 0 areas → (addresses : List ℕ)
      → scattered areas (map (λ x. x.length) P.program.sections) ≡ Some addresses
      → LoadsAt P who m (spread addresses) (λ e. fetched_over e m.records addresses)

-- a written member whose records hold what the program has loads as the program is linked
abbrev pub WrittenMembersLoad : Type 0
WrittenMembersLoad =
    (P : Laid) (scatter : Bool) (n : ℕ) (who : Naming) → IsLinkable P → IsFormat P scatter n → IsNamedFor P who
    → Gathers P scatter n → Loads P scatter who (member_written P scatter n who)
