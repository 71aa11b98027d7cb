-- What it means that a member stands for a program: wherever it may be placed, it has in storage what the program has
-- there linked, and goes through all events as the program does (this project's profile).
use Rattle.std.specs.Prelude.{◌≡◌, ℕ, ◌^◌, ◌<◌, ◌≤◌, Bool, true, false, List, [], ◌∷◌, map, length, Some, None}
use Rattle.std.specs.List.{AllByRecursion}
use Rattle.le_bytes.specs.declared.name.Name.{Name}
use Rattle.pds_directory.specs.Attributes.{has_overlay, has_scatter}
use Rattle.pds_directory.specs.declared.entry.Entry.{Entry}
use Rattle.pds_lib.specs.declared.member.AliasAt.{AliasAt}
use Rattle.pds_lib.specs.declared.member.Member.{Member}
use Rattle.pds_lib.specs.Stow.{main_entry, entries_for}
use Rattle.linking_model.specs.Places.{Laid, is_overlay, module_length}
use Rattle.linking_model.specs.Points.{Point}
use Rattle.linking_model.specs.Scattered.{Area, scattered}
use Rattle.linking_model.specs.Linked.{Placement, block, spread, point_address}
use Rattle.linking_model.specs.Run.{Event, Call, Store, Where, Dump, run, start as start_linked}
use Rattle.linking_model.specs.Run as linked
use Rattle.member_model.specs.FirstBad.{IsGood}
use Rattle.member_model.specs.Fetched.{Fetched, fetched, fetched_over, entry_address, first_storage}
use Rattle.member_model.specs.Segments.{residents}
use Rattle.member_model.specs.Starting.{start_fault}
use Rattle.member_model.specs.ByteRun.{Run, byte_run}
use Rattle.member_model.specs.AfterFailure.{SameBytes}
use Rattle.member_model.specs.Placing.{is_origin}
use Rattle.member_model.specs.Written.{Naming}

-- ---- events

-- numbers from 0 to 255
abbrev pub AreBytes : List ℕ → Type 0
AreBytes bytes = AllByRecursion (λ b. b < 256) bytes

-- eight bytes
abbrev pub IsName : Name → Type 0
IsName name = (length name.0 ≡ 8) × AreBytes name.0

-- a name has eight bytes, and an offset has four
abbrev pub IsEvent : Event → Type 0
IsEvent (Call name offset) = IsName name × (offset < 2 ^ 32)
IsEvent (Store name offset bytes) = IsName name × (offset < 2 ^ 32) × AreBytes bytes
IsEvent Where = Unit {0}
IsEvent (Dump name) = IsName name

-- ---- runs

-- a run of a member is that of a program: the same outcomes and refusal, and in the end the same segments resident,
-- by their status bytes, and the same storage
pub record RunsAlike (m : Fetched) (bytes : Run) (symbols : linked.Run) : Type 0 where
  pub outcomes : bytes.outcomes ≡ symbols.outcomes
  pub refusal : bytes.refusal ≡ symbols.refusal
  pub resident : residents m bytes.state.storage ≡ symbols.state.resident
  pub storage : SameBytes bytes.state.storage symbols.state.storage

-- ---- in one placement

-- `place` gives the member with the sections where the placement has them, by any of its entries
pub record StandsAt (P : Laid) (who : Naming) (m : Member) (q : Placement) (place : Entry → Fetched) : Type 0 where
  pub storage : SameBytes (first_storage (place (main_entry m))) (start_linked P q).storage
  pub entries : map (λ e. entry_address (place e)) (entries_for m)
      ≡ point_address q who.point ∷ map (λ (name, x). point_address q x) who.aliases
  pub starts : start_fault (place (main_entry m)) ≡ None
  pub runs : (events : List Event) → AllByRecursion IsEvent events
      → RunsAlike (place (main_entry m)) (byte_run (place (main_entry m)) events) (run P q events)

-- ---- the member

-- areas in order, none of which is empty
abbrev pub AreAreas : ℕ → List Area → Type 0
AreAreas from [] = from ≤ 16777215
AreAreas from (x ∷ rest) = (from ≤ x.mark) × (x.mark < x.end) × AreAreas x.end rest

-- the member stands for the program, which was linked with or without scatter items and named so; of the attribute only
-- the bits of overlay and scatter count
pub record StandsFor (P : Laid) (scatter : Bool) (who : Naming) (m : Member) : Type 0 where
  pub good : AllByRecursion (λ e. IsGood e m.records) (entries_for m)
  pub name : m.name ≡ who.name
  pub aliases : map (λ (a : AliasAt). a.name) m.aliases ≡ map (λ (x : Name × Point). x.0) who.aliases
  pub length : m.length ≡ module_length P
  pub overlay_bit : has_overlay m.attr ≡ is_overlay P.tree
  pub scatter_bit : has_scatter m.attr ≡ scatter
  pub in_block : (at : ℕ) → is_origin (module_length P) at ≡ true
      → StandsAt P who m (block P at) (λ e. fetched e m.records at)
  pub over_areas : scatter ≡ true → is_overlay P.tree ≡ false → (areas : List Area) → AreAreas 0 areas → (addresses : List ℕ)
      → scattered areas (map (λ x. x.length) P.program.sections) ≡ Some addresses
      → StandsAt P who m (spread addresses) (λ e. fetched_over e m.records addresses)
