-- What the steps of linking answer.
use Rattle.std.specs.Prelude.{◌≡◌, ◌≤◌, ◌∷◌, [], Bool, List, Option, Some, None, Result, Ok, Err, IsTrue}
use Rattle.le_bytes.specs.declared.refusal.Refusal.{Refusal}
use Rattle.sym_mod.specs.declared.program.Program.{Program}
use Rattle.sym_mod.specs.declared.program.Places.{Places}
use Rattle.sym_mod.specs.Sound.{IsSoundProgram}
use Rattle.linking_model.specs.Kept.{Read}
use Rattle.linking_model.specs.Tree.{plain}
use Rattle.linking_model.specs.Settled.{has_root_section}
use Rattle.linking_model.specs.Places.{module_length}
use Rattle.linking_model.specs.Points.{registers_end}
use Rattle.block_storage.specs.Storage.{alone}
use Rattle.addr_assign.specs.Laid.{are_in_tree, places_of}
use Rattle.link_core.specs.declared.program.LinkedProgram.{LinkedProgram}
use Rattle.link_core.specs.declared.program.ProgramFault.{ProgramFault}
use Rattle.link_core.specs.declared.program.ProgramStop.{ProgramStop}
use Rattle.link_core.specs.declared.program.ProgramStop.TheVariants.{Fault, Memory as NoMemory}
use Rattle.link_core.specs.declared.resolving.LinkStop.{LinkStop}
use Rattle.link_core.specs.declared.resolving.LinkStop.TheVariants.{Refused, Memory}
use Rattle.link_core.specs.Programs.{root_program, root_refusal, limit_refusal, link_refusal}

-- this is refused, or memory is wanting
abbrev pub Stops : Option Refusal → LinkStop → Type 0
Stops refusal (Refused what) = refusal ≡ Some what
Stops refusal Memory = Unit {0}

-- a sound program whose sections stand in the root, of which there is one at least
pub record IsRooted (p : Program) : Type 0 where
  pub sound : IsSoundProgram p
  pub in_tree : IsTrue (are_in_tree plain.tree p)
  pub root : IsTrue (has_root_section p)

-- the program of the modules, rooted, or why there is none
abbrev pub Settles : List Read → Result Program LinkStop → Type 0
Settles rs (Ok p) = (p ≡ root_program rs) × IsRooted p
Settles rs (Err stop) = Stops (root_refusal (root_program rs)) stop

-- the addresses of a program that passes no limit
pub record IsPlaced (p : Program) (places : Places) : Type 0 where
  pub within : limit_refusal p ≡ None
  pub registers : registers_end 0 p.registers ≤ 16777215
  pub are : places ≡ places_of (alone p)
  pub short : module_length (alone p) ≤ 4194304

-- the addresses, or which limit is passed
abbrev pub Assigns : Program → Result Places LinkStop → Type 0
Assigns p (Ok places) = IsPlaced p places
Assigns p (Err stop) = Stops (limit_refusal p) stop

-- a linked program: rooted, with its segment, tables without entries, and its addresses
pub record IsLinked (linked : LinkedProgram) : Type 0 where
  pub rooted : IsRooted linked.program
  pub one : linked.tree ≡ plain
  pub empty : linked.tables.entries ≡ [] ∷ []
  pub placed : IsPlaced linked.program linked.places

-- the linked program of the modules, or its first refusal
abbrev pub Links : List Read → Bool → Result LinkedProgram LinkStop → Type 0
Links rs may (Ok linked) =
    (link_refusal (root_program rs) may ≡ None) × (linked.program ≡ root_program rs) × IsLinked linked
Links rs may (Err stop) = Stops (link_refusal (root_program rs) may) stop

-- the program of the answer, linked, or why there is none
abbrev pub GivesProgram : Result Program ProgramFault → Result LinkedProgram ProgramStop → Type 0
GivesProgram answer (Ok linked) = (answer ≡ Ok linked.program) × IsLinked linked
GivesProgram answer (Err (Fault fault)) = answer ≡ Err fault
GivesProgram answer (Err NoMemory) = Unit {0}
