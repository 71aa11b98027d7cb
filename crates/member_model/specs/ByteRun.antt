-- Calls and stores of a member in storage, event by event. What an event asks for and what it gives are those of the
-- symbolic run, but here everything is read from storage and records (this project's profile).
use Rattle.std.specs.Prelude.{ℕ, ◌+◌, Bool, not, ◌&&◌, ◌==◌, nat_lt, nat_le, if◌then◌else◌, List, [], ◌∷◌, map, length, find, Option, Some, None, option_map}
use Rattle.std.specs.List.{list_any, range_with_len, enumerate_from}
use Rattle.std.specs.Option.{option_map_or}
use Rattle.le_bytes.specs.Names.{name_eq}
use Rattle.le_bytes.specs.declared.name.Name.{Name}
use Rattle.le_bytes.specs.declared.record_what.EventWhat.{EventWhat}
use Rattle.le_bytes.specs.declared.record_what.EventWhat.TheVariants.{NoSuchPlace, NotResident, NotVcon, Unresolved, BadEntab, BadRecord, OutOfSection, TouchesConstant}
use Rattle.load_recs.specs.declared.items.SymbolItem.{SymbolItem}
use Rattle.linking_model.specs.Run.{with_piece, list_piece, Event, Call, Store, Where, Dump, Outcome, Reached, Stored, Residents, Dumped}
use Rattle.member_model.specs.Symbols.{is_named_kind, is_private, is_table, is_outside, symbol_at, field_kind, field_length}
use Rattle.member_model.specs.Facts.{Field}
use Rattle.member_model.specs.Fetched.{Fetched, first_storage}
use Rattle.member_model.specs.Segments.{residents, is_resident}
use Rattle.member_model.specs.Calling.{State, Range, number_in, is_present, table_with, is_entry, missing, segments_bad, call_into}

-- what an event gives: an outcome and the state after it, or a refusal, after which the state is as before
pub data Answer : Type 0 where
  Goes : Outcome → State → Answer
  Stops : EventWhat → Answer

-- ---- places

-- a section, by its item number
pub record Spot : Type 0 where
  pub number : ℕ
  pub item : SymbolItem

-- an SD or CM of the name that is no table; an SD without a name is private code
abbrev pub is_place : Name → SymbolItem → Bool
is_place y x = is_named_kind x.kind && name_eq x.name y && not (is_private x) && not (is_table x)

-- the section of the name
abbrev pub spot_of : Fetched → Name → Option Spot
spot_of m y =
    option_map (λ (n, x). record { number = n; item = x }) (find (λ (n, x). is_place y x) (enumerate_from 1 m.facts.symbols))

-- ---- calls

-- a V-type item of 3 or 4 bytes at offset o of the section
abbrev pub is_vcon_at : Spot → ℕ → Field → Bool
is_vcon_at x o f =
    f.item.p == x.number && f.item.address == x.item.address + o && field_kind f.item == 1 && nat_le 3 (field_length f.item)

-- a call into segment t, which is refused at the record that is refused, if there is one
abbrev pub if_readable : Fetched → State → ℕ → ℕ → Option ℕ → Answer
if_readable m S t answer None = Goes (Reached answer) (call_into m S t)
if_readable m S t answer (Some n) = Stops (BadRecord n)

-- a call of address v, which is the answer where it is not in an entry table
abbrev pub called_at : Fetched → State → ℕ → Option Range → Answer
called_at m S v None = Goes (Reached v) S
called_at m S v (Some table) =
    let t = S.storage (v + 8) in let answer = number_in S.storage (v + 4) 4 in
    if not (is_entry m S.storage v table) then Stops (BadEntab v)
    else (if is_resident m S.storage t then Goes (Reached answer) S
    else if_readable m S t answer (segments_bad m (missing m S.storage t)))

-- the name of the symbol, or the other where there is no symbol
abbrev pub name_or : Option SymbolItem → Name → Name
name_or symbol name = option_map_or (λ y. y.name) symbol name

-- a call by this relocation item at offset o of the section
abbrev pub called_through : Fetched → State → Spot → ℕ → Field → Answer
called_through m S x o f =
    let symbol = symbol_at m.facts.symbols f.item.r in
    let v = number_in S.storage (m.addresses x.number + o) (field_length f.item) in
    if is_outside symbol then Stops (Unresolved (name_or symbol x.item.name))
    else called_at m S v (table_with m S.storage v)

-- the same, which is refused where there is no such item
abbrev pub called : Fetched → State → Spot → ℕ → Option Field → Answer
called m S x o None = Stops NotVcon
called m S x o (Some f) = called_through m S x o f

-- ---- stores and dumps

-- one of n bytes of the section from address a in the module on lies in the field
abbrev pub is_touched : Spot → ℕ → ℕ → Field → Bool
is_touched x a n f =
    f.item.p == x.number && nat_lt 0 n && nat_lt f.item.address (a + n) && nat_lt a (f.item.address + field_length f.item)

-- a store of bytes from offset o of the section on
abbrev pub stored : Fetched → State → Spot → ℕ → List ℕ → Answer
stored m S x o bytes =
    if nat_lt x.item.length (o + length bytes) then Stops OutOfSection
    else (if list_any (is_touched x (x.item.address + o) (length bytes)) S.fields then Stops TouchesConstant
    else Goes Stored (record S { storage = with_piece S.storage (list_piece (m.addresses x.number + o) bytes) }))

-- a dump of the section
abbrev pub dumped : Fetched → State → Spot → Answer
dumped m S x =
    let a = m.addresses x.number in Goes (Dumped a (map S.storage (range_with_len a x.item.length))) S

-- ---- runs

-- what is done at the section, which has to be there and resident
abbrev pub if_there : Fetched → State → (Spot → Answer) → Option Spot → Answer
if_there m S done None = Stops NoSuchPlace
if_there m S done (Some x) =
    if is_present m S.storage x.item.segment then done x else Stops (NotResident x.item.segment)

-- what is done at the section of the name, which has to be resident
abbrev pub at_spot : Fetched → State → Name → (Spot → Answer) → Answer
at_spot m S y done = if_there m S done (spot_of m y)

-- what one event gives
unfoldable pub step : Fetched → State → Event → Answer
step m S (Call y o) = at_spot m S y (λ x. called m S x o (find (is_vcon_at x o) S.fields))
step m S (Store y o bytes) = at_spot m S y (λ x. stored m S x o bytes)
step m S Where = Goes (Residents (residents m S.storage)) S
step m S (Dump y) = at_spot m S y (dumped m S)

-- after the fetch: segment 1 alone
abbrev pub start : Fetched → State
start m = record { storage = first_storage m; fields = m.facts.fields }

-- the outcomes up to the first refusal, that refusal, and the last state
pub record Run : Type 0 where
  pub outcomes : List Outcome
  pub refusal : Option EventWhat
  pub state : State

-- the rest of a run, from the state that an event leaves
abbrev pub and_then : State → Answer → (State → Run) → Run
and_then S (Stops why) rest = record { outcomes = []; refusal = Some why; state = S }
and_then S (Goes outcome S') rest = let r = rest S' in record r { outcomes = outcome ∷ r.outcomes }

-- a run from a state on
unfoldable pub run_from : Fetched → State → List Event → Run
run_from m S [] = record { outcomes = []; refusal = None; state = S }
run_from m S (e ∷ events) = and_then S (step m S e) (λ S'. run_from m S' events)

-- a run from the start
abbrev pub byte_run : Fetched → List Event → Run
byte_run m events = run_from m (start m) events
