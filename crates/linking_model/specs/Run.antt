-- Calls and stores of a linked program in storage, by its symbols: which segments are resident and what stands where.
-- That a call brings in the path of its target and drops what shares storage with it follows GC28-6538; the events,
-- their order of refusals and the entry tables are this project's profile.
use Rattle.std.specs.Prelude.{ℕ, ◌+◌, ◌-◌, ◌*◌, Bool, not, ◌&&◌, ◌||◌, ◌==◌, nat_lt, nat_le, if◌then◌else◌, List, [], ◌∷◌, ◌++◌, length, map, filter, find, fold, slice_get, slice_index, position, Option, Some, None, is_some}
use Rattle.std.specs.List.{list_any, range_with_len}
use Rattle.std.specs.Option.{option_map_or}
use Rattle.le_bytes.specs.declared.name.Name.{Name}
use Rattle.le_bytes.specs.Names.{blank_bytes}
use Rattle.le_bytes.specs.declared.record_what.EventWhat.{EventWhat}
use Rattle.le_bytes.specs.declared.record_what.EventWhat.TheVariants.{NoSuchPlace, NotResident, NotVcon, Unresolved, OutOfSection, TouchesConstant}
use Rattle.sym_mod.specs.declared.program.Program.{Program}
use Rattle.sym_mod.specs.declared.program.Constant.{Constant}
use Rattle.sym_mod.specs.declared.program.Target.{Target}
use Rattle.sym_mod.specs.declared.program.Target.TheVariants.{Unresolved as UnresolvedTarget}
use Rattle.linking_model.specs.Numbers.{is_among}
use Rattle.linking_model.specs.Settled.{is_section_named}
use Rattle.linking_model.specs.Tree.{Tree, segments, region_of, is_in, is_on_path}
use Rattle.linking_model.specs.Places.{Laid, has_segtab, entries_of, segment_of_section, length_of_section, size}
use Rattle.linking_model.specs.Tables.{is_branch, segment_of, only_target}
use Rattle.linking_model.specs.TableBytes.{status_of, segtab_bytes, entab_bytes}
use Rattle.linking_model.specs.Linked.{constant_at, Placement, address_of, linked_byte}

-- ---- storage

-- a byte for each address
abbrev pub Storage : Type 0
Storage = ℕ → ℕ

-- bytes that stand from an address on
pub record Piece : Type 0 where
  pub at : ℕ
  pub count : ℕ
  pub byte : ℕ → ℕ

-- the piece has a byte at the address
abbrev pub has_address : ℕ → Piece → Bool
has_address a piece = is_among piece.at piece.count a

-- the byte of the piece that has the address, and 0 between pieces
abbrev pub byte_in : List Piece → ℕ → ℕ
byte_in pieces a = option_map_or (λ piece. piece.byte (a - piece.at)) (find (has_address a) pieces) 0

-- the storage with the bytes of the piece in their places
abbrev pub with_piece : Storage → Piece → Storage
with_piece M piece = λ a. if has_address a piece then piece.byte (a - piece.at) else M a

-- the bytes of a list from an address on
abbrev pub list_piece : ℕ → List ℕ → Piece
list_piece at bytes = record { at = at; count = length bytes; byte = slice_index bytes }

-- ---- linked segments

-- `$SEGTAB`, with segment 1 alone resident
abbrev pub segtab_piece : Laid → Placement → Piece
segtab_piece P q = list_piece q.segtab (segtab_bytes P.tree (1 ∷ []))

-- section i, linked
abbrev pub section_piece : Laid → Placement → ℕ → Piece
section_piece P q i = record { at = q.section i; count = length_of_section P.program i; byte = linked_byte P q i }

-- the `$ENTAB` of segment s
abbrev pub entab_piece : Laid → Placement → ℕ → Piece
entab_piece P q s = list_piece (q.entab s) (entab_bytes P (address_of P.program q) s)

-- the numbers of the sections of segment s
abbrev pub sections_in : Program → ℕ → List ℕ
sections_in p s = filter (λ i. segment_of_section p i == s) (range_with_len 0 (length p.sections))

-- what stands in segment s, linked: the segment table of the root, with segment 1 alone resident, the sections,
-- and the entry table of a segment that has entries
abbrev pub pieces : Laid → Placement → ℕ → List Piece
pieces P q s =
    (if has_segtab P.tree s then segtab_piece P q ∷ [] else [])
    ++ map (section_piece P q) (sections_in P.program s)
    ++ (if length (entries_of P s) == 0 then [] else entab_piece P q s ∷ [])

-- the linked range of segment s of a module in one block, 0 between what stands in it
unfoldable pub segment_piece : Laid → Placement → ℕ → Piece
segment_piece P q s =
    let standing = pieces P q s in
    record { at = q.range s; count = size P s; byte = λ o. byte_in standing (q.range s + o) }

-- ---- states and events

-- the resident segments, ascending, and what stands in storage
pub record State : Type 0 where
  pub resident : List ℕ
  pub storage : Storage

-- CALL of the branch constant at a place, STORE of bytes from a place on, WHERE, and DUMP of a section
pub data Event : Type 0 where
  Call : Name → ℕ → Event
  Store : Name → ℕ → List ℕ → Event
  Where : Event
  Dump : Name → Event

-- an address that a call reached, a store that was done, the resident segments, or an address with the bytes there
pub data Outcome : Type 0 where
  Reached : ℕ → Outcome
  Stored : Outcome
  Residents : List ℕ → Outcome
  Dumped : ℕ → List ℕ → Outcome

-- what an event gives: an outcome and the state after it, or a refusal, after which the state is as before
pub data Answer : Type 0 where
  Goes : Outcome → State → Answer
  Stops : EventWhat → Answer

-- ---- calls

-- the segments that are resident after a call into segment t: its path, and those of other regions that were
abbrev pub after_call : Tree → List ℕ → ℕ → List ℕ
after_call tree resident t =
    filter (λ s. is_on_path tree s t || is_in s resident && not (region_of tree s == region_of tree t)) (segments tree)

-- segments are brought in, each on its whole range
abbrev pub brought : Laid → Placement → List ℕ → Storage → Storage
brought P q new M = fold (λ m s. with_piece m (segment_piece P q s)) M new

-- the status bytes of `$SEGTAB` say which segments are resident
abbrev pub with_status : Tree → ℕ → List ℕ → Storage → Storage
with_status tree segtab resident M =
    fold (λ m s. with_piece m (list_piece (segtab + 6 + 4 * s) (status_of resident s ∷ []))) M (segments tree)

-- the state after a call into segment t, which was not resident
abbrev pub call_into : Laid → Placement → State → ℕ → State
call_into P q S t =
    let resident = after_call P.tree S.resident t in
    let new = filter (λ s. not (is_in s S.resident)) resident in
    record { resident = resident; storage = with_status P.tree q.segtab resident (brought P q new S.storage) }

-- unresolved name i
abbrev pub unresolved_name : Program → ℕ → Name
unresolved_name p i = option_map_or (λ x. x.name) (slice_get p.unresolved i) (record { 0 = blank_bytes })

-- a call reaches the address of its target; where that is not resident, its path is brought in
abbrev pub reached : Laid → Placement → State → Target → Answer
reached P q S (UnresolvedTarget i) = Stops (Unresolved (unresolved_name P.program i))
reached P q S y =
    let t = segment_of P.program y in
    Goes (Reached (address_of P.program q y)) (if is_in t S.resident then S else call_into P q S t)

-- a branch constant of 3 or 4 bytes at offset o of section i
abbrev pub is_vcon_at : ℕ → ℕ → Constant → Bool
is_vcon_at i o c = is_branch c.kind && c.section == i && c.offset == o && nat_le 3 c.length

-- a call by this constant, which is refused where there is none
abbrev pub called : Laid → Placement → State → Option Constant → Answer
called P q S None = Stops NotVcon
called P q S (Some c) = reached P q S (only_target c.terms)

-- ---- stores and dumps

-- one of the n bytes from o on lies in a constant
abbrev pub is_touched : Program → ℕ → ℕ → ℕ → Bool
is_touched p i o n = list_any (λ k. is_some (constant_at p.constants i k)) (range_with_len o n)

-- a store of bytes from offset o of section i on
abbrev pub stored : Laid → Placement → State → ℕ → ℕ → List ℕ → Answer
stored P q S i o bytes =
    if nat_lt (length_of_section P.program i) (o + length bytes) then Stops OutOfSection
    else (if is_touched P.program i o (length bytes) then Stops TouchesConstant
    else Goes Stored (record S { storage = with_piece S.storage (list_piece (q.section i + o) bytes) }))

-- a dump of section i
abbrev pub dumped : Laid → Placement → State → ℕ → Answer
dumped P q S i =
    Goes (Dumped (q.section i) (map S.storage (range_with_len (q.section i) (length_of_section P.program i)))) S

-- ---- runs

-- the number of the section of the name
abbrev pub section_named : Program → Name → Option ℕ
section_named p name = position (is_section_named name) p.sections

-- what is done at section i, which has to be there and resident
abbrev pub if_resident : Laid → State → (ℕ → Answer) → Option ℕ → Answer
if_resident P S done None = Stops NoSuchPlace
if_resident P S done (Some i) =
    let s = segment_of_section P.program i in if is_in s S.resident then done i else Stops (NotResident s)

-- what is done at the section of the name, which has to be resident
abbrev pub at_section : Laid → State → Name → (ℕ → Answer) → Answer
at_section P S name done = if_resident P S done (section_named P.program name)

-- what one event gives
unfoldable pub step : Laid → Placement → State → Event → Answer
step P q S (Call name o) = at_section P S name (λ i. called P q S (find (is_vcon_at i o) P.program.constants))
step P q S (Store name o bytes) = at_section P S name (λ i. stored P q S i o bytes)
step P q S Where = Goes (Residents S.resident) S
step P q S (Dump name) = at_section P S name (dumped P q S)

-- segment 1 alone, linked, and 0 elsewhere
abbrev pub start : Laid → Placement → State
start P q = record { resident = 1 ∷ []; storage = byte_in (pieces P q 1) }

-- the outcomes up to the first refusal, that refusal, and the last state
pub record Run : Type 0 where
  pub outcomes : List Outcome
  pub refusal : Option EventWhat
  pub state : State

-- the rest of a run, from the state that an event leaves
abbrev pub and_then : State → Answer → (State → Run) → Run
and_then S (Stops why) rest = record { outcomes = []; refusal = Some why; state = S }
and_then S (Goes outcome S') rest = let r = rest S' in record r { outcomes = outcome ∷ r.outcomes }

-- a run from a state on
unfoldable pub run_from : Laid → Placement → State → List Event → Run
run_from P q S [] = record { outcomes = []; refusal = None; state = S }
run_from P q S (e ∷ events) = and_then S (step P q S e) (λ S'. run_from P q S' events)

-- a run from the start
abbrev pub run : Laid → Placement → List Event → Run
run P q events = run_from P q (start P q) events
