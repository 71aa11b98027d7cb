-- Worked cases, laid out, with the words in which their rows are said (this project's profile).
use Rattle.std.specs.Prelude.{ℕ, List, [], ◌∷◌, map, Option}
use Rattle.std.specs.List.{range_with_len}
use Rattle.le_bytes.specs.declared.record_what.EventWhat.{EventWhat}
use Rattle.linking_model.specs.Tree.{Overlays, plain}
use Rattle.linking_model.specs.Kept.{Read}
use Rattle.linking_model.specs.Merged.{program_of}
use Rattle.linking_model.specs.Settled.{Inserts, settled}
use Rattle.linking_model.specs.Places.{Laid}
use Rattle.linking_model.specs.Tables.{laid_out}
use Rattle.linking_model.specs.Linked.{block, linked_section}
use Rattle.linking_model.specs.Run.{Storage, Event, Call, Store, Where, Dump, Outcome, run}
use Rattle.linking_model.specs.Decks.{assembled_modules, entered_modules, difference_modules, twice_modules, common_modules, register_modules, scatter_modules, fortran_modules, shared, shared_modules, crossing_modules, call_of, apart, apart_modules, root_name, a_name}

-- the program of the modules over the segments of the statements, with these INSERT statements
abbrev pub laid_over : Overlays → Inserts → List Read → Laid
laid_over overlays inserts modules =
    laid_out (settled overlays.tree inserts (program_of modules)) overlays.tree

-- over segment 1 alone
abbrev pub laid_plain : List Read → Laid
laid_plain modules = laid_over plain [] modules

-- ---- one segment

-- the program of a section that is assembled at X'100'
abbrev pub assembled : Laid
assembled = laid_plain assembled_modules

-- the program in which MAIN holds X minus Y
abbrev pub difference : Laid
difference = laid_plain difference_modules

-- the program in which two sections have one name
abbrev pub twice : Laid
twice = laid_plain twice_modules

-- the program with blank common and a weak name
abbrev pub commons : Laid
commons = laid_plain common_modules

-- the program with registers and their total
abbrev pub registering : Laid
registering = laid_plain register_modules

-- the program of three sections that is scattered
abbrev pub scattering : Laid
scattering = laid_plain scatter_modules

-- the program with a common area and a library routine
abbrev pub fortran : Laid
fortran = laid_plain fortran_modules

-- ---- overlay

-- ROOT calls A and B, which share storage
abbrev pub sharing : Laid
sharing = laid_over shared [] shared_modules

-- A calls B, which drops A; the root calls both
abbrev pub crossing : Laid
crossing = laid_over shared [] (crossing_modules (call_of 0 1 ∷ call_of 4 2 ∷ []))

-- the same, and the root calls A alone
abbrev pub unheld : Laid
unheld = laid_over shared [] (crossing_modules (call_of 0 1 ∷ []))

-- ROOT and A call C, which is in a second region
abbrev pub regional : Laid
regional = laid_over apart [] apart_modules

-- modules with entries, one of them in segment 2
abbrev pub entering : Laid
entering = laid_over shared [] entered_modules

-- A is called and stored into, and then B and A are called
abbrev pub calls_and_stores : List Event
calls_and_stores =
    Call root_name 0 ∷ Store a_name 4 (1 ∷ 2 ∷ []) ∷ Where ∷ Call root_name 4 ∷ Call root_name 0 ∷ Dump a_name ∷ []

-- A is called, stored into and called again
abbrev pub second_call : List Event
second_call = Call root_name 0 ∷ Store a_name 4 (1 ∷ 2 ∷ []) ∷ Call root_name 0 ∷ Dump a_name ∷ []

-- the root calls A, and A its second reference
abbrev pub calls_in_turn : List Event
calls_in_turn = Call root_name 0 ∷ Call a_name 0 ∷ Where ∷ []

-- ---- in a block

-- the bytes of section i in a block from an origin on
abbrev pub bytes_at : Laid → ℕ → ℕ → List ℕ
bytes_at P at i = linked_section P (block P at) i

-- n bytes of storage from an address on
abbrev pub dump : Storage → ℕ → ℕ → List ℕ
dump M a n = map M (range_with_len a n)

-- of a run in a block from X'1000' on
abbrev pub outcomes : Laid → List Event → List Outcome
outcomes P events = (run P (block P 0x1000) events).outcomes

-- the refusal that ends such a run, none where it goes to the end
abbrev pub refusal : Laid → List Event → Option EventWhat
refusal P events = (run P (block P 0x1000) events).refusal

-- the first 96 bytes that stand there after a run
abbrev pub storage : Laid → List Event → List ℕ
storage P events = dump (run P (block P 0x1000) events).state.storage 0x1000 0x60
