-- Worked cases: programs, the members that are written for them, and the words in which rows are said (this project's
-- profile).
use Rattle.std.specs.Prelude.{ℕ, ◌+◌, List, [], ◌∷◌, ◌++◌, take, drop, slice_get, unwrap_or, false, Option}
use Rattle.le_bytes.specs.declared.name.Name.{Name}
use Rattle.le_bytes.specs.declared.record_what.EventWhat.{EventWhat}
use Rattle.sym_mod.specs.declared.module.Kind.TheVariants.{Address, Branch}
use Rattle.sym_mod.specs.declared.module.ItemKind.TheVariants.{Pc}
use Rattle.sym_mod.specs.declared.module.SymTarget.TheVariants.{Own}
use Rattle.pds_directory.specs.declared.entry.Entry.{Entry}
use Rattle.pds_lib.specs.declared.member.Member.{Member}
use Rattle.pds_lib.specs.Stow.{main_entry}
use Rattle.linking_model.specs.Kept.{Read}
use Rattle.linking_model.specs.Tree.{Overlays, plain}
use Rattle.linking_model.specs.Settled.{Inserts}
use Rattle.linking_model.specs.Places.{Laid}
use Rattle.linking_model.specs.Points.{default_point}
use Rattle.linking_model.specs.Linked.{block}
use Rattle.linking_model.specs.Run.{Event, Call, Store, Where, Dump, Outcome, run, start}
use Rattle.linking_model.specs.Decks.{read, item, section, label_in_first, blank_name, b_name, constant, text, plus, nested, apart_modules, a_name, c_name, root_name}
use Rattle.linking_model.specs.Cases.{laid_plain, laid_over, dump}
use Rattle.member_model.specs.Fetched.{Fetched, fetched, first_storage}
use Rattle.member_model.specs.Segments.{residents}
use Rattle.member_model.specs.ByteRun.{byte_run}
use Rattle.member_model.specs.ReadBack.{module_of}
use Rattle.member_model.specs.Written.{Naming, member_written}

-- ---- programs

-- A of eight bytes, the last four of which are the address of A plus 4
abbrev pub own_modules : List Read
own_modules =
    read 1 (section a_name 8 ∷ []) (text (0 ∷ 0 ∷ 0 ∷ 0 ∷ 0 ∷ 0 ∷ 0 ∷ 4 ∷ []) ∷ []) (constant 4 Address (plus (Own 0) ∷ []) ∷ []) ∷ []

-- the program of this section
abbrev pub own : Laid
own = laid_plain own_modules

-- A of 4096 bytes, all zero
abbrev pub long : Laid
long = laid_plain (read 1 (section a_name 4096 ∷ []) [] [] ∷ [])

-- private code of eight bytes with its own address and that of A, and A of six bytes with a label and the address of
-- the private code, in three bytes
abbrev pub private_modules : List Read
private_modules =
    read 1 (item blank_name Pc 0 8 ∷ section a_name 6 ∷ record (label_in_first b_name 2) { owner = 1 } ∷ []) []
    (constant 0 Address (plus (Own 0) ∷ []) ∷ constant 4 Branch (plus (Own 2) ∷ [])
    ∷ record (constant 3 Address (plus (Own 0) ∷ [])) { item = 1; length = 3 } ∷ [])
    ∷ []

-- the program with private code
abbrev pub private : Laid
private = laid_plain private_modules

-- ROOT calls A and C, and A calls C, which is below A
abbrev pub deep : Laid
deep = laid_over nested [] apart_modules

-- ---- members

-- TEMPNAME
abbrev pub temporary_name : Name
temporary_name = record { 0 = 227 ∷ 197 ∷ 212 ∷ 215 ∷ 213 ∷ 193 ∷ 212 ∷ 197 ∷ [] }

-- as it is written without an ENTRY or ALIAS statement
abbrev pub plain_naming : Laid → Naming
plain_naming P = record { name = temporary_name; point = default_point P.program; aliases = [] }

-- the member of a program, without scatter items and with text in pieces of 1,024 bytes
abbrev pub plain_member : Laid → Member
plain_member P = member_written P false 1024 (plain_naming P)

-- its directory entry
abbrev pub plain_entry : Laid → Entry
plain_entry P = main_entry (plain_member P)

-- such a member in a block from X'1000' on
abbrev pub plain_fetched : Laid → Fetched
plain_fetched P = fetched (plain_entry P) (plain_member P).records 0x1000

-- ---- storage

-- n bytes of a member in a block, and of its program linked there
abbrev pub loaded_bytes : Laid → ℕ → ℕ → List ℕ
loaded_bytes P at n = dump (first_storage (fetched (plain_entry P) (plain_member P).records at)) at n

-- n bytes of a program that is linked in a block
abbrev pub linked_bytes : Laid → ℕ → ℕ → List ℕ
linked_bytes P at n = dump (start P (block P at)).storage at n

-- ---- damage

-- record k, from 0, has this byte in place i
abbrev pub altered : ℕ → ℕ → ℕ → List (List ℕ) → List (List ℕ)
altered k i byte records =
    let old = unwrap_or (slice_get records k) [] in
    take k records ++ (take i old ++ byte ∷ drop (i + 1) old) ∷ drop (k + 1) records

-- ---- runs from X'1000' on

-- what is seen of a run: outcomes, refusal, which segments are resident in the end, and the first 96 bytes
pub record Seen : Type 0 where
  pub outcomes : List Outcome
  pub refusal : Option EventWhat
  pub resident : List ℕ
  pub storage : List ℕ

-- what is seen of a run of the member
abbrev pub seen_of : Fetched → List Event → Seen
seen_of m events =
    let r = byte_run m events in
    record {
      outcomes = r.outcomes;
      refusal = r.refusal;
      resident = residents m r.state.storage;
      storage = dump r.state.storage 0x1000 0x60;
    }

-- of the member of a program, by its bytes
abbrev pub seen_by_bytes : Laid → List Event → Seen
seen_by_bytes P events = seen_of (plain_fetched P) events

-- of the program, by its symbols
abbrev pub seen_by_symbols : Laid → List Event → Seen
seen_by_symbols P events =
    let r = run P (block P 0x1000) events in
    record {
      outcomes = r.outcomes;
      refusal = r.refusal;
      resident = r.state.resident;
      storage = dump r.state.storage 0x1000 0x60;
    }

-- A is called and stored into, and then C is called, below it
abbrev pub store_above : List Event
store_above = Call root_name 0 ∷ Store a_name 4 (1 ∷ 2 ∷ []) ∷ Call root_name 4 ∷ Where ∷ Dump a_name ∷ []

-- C is called at once
abbrev pub call_below : List Event
call_below = Call root_name 4 ∷ Where ∷ Dump a_name ∷ Dump c_name ∷ []

-- ---- relinking

-- the program of the member alone, over the segments of the statements and with these INSERT statements
abbrev pub relinked : Overlays → Inserts → Laid → Laid
relinked overlays inserts P =
    laid_over overlays inserts (record { module_ = module_of (plain_entry P) (plain_member P).records; segment = 1 } ∷ [])

-- of one segment
abbrev pub relinked_plain : Laid → Laid
relinked_plain P = relinked plain [] P
