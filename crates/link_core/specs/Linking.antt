-- One run of linking: what it comes to, as one function of the options and the cards of the primary input.
use Rattle.std.specs.Prelude.{◌≡◌, ℕ, Bool, not, ◌||◌, List, [], ◌∷◌, All, Result, Ok, Err}
use Rattle.le_bytes.specs.declared.refusal.Refusal.{Refusal}
use Rattle.sym_mod.specs.declared.program.Program.{Program}
use Rattle.link_core.specs.declared.linked.Linked.{Linked}
use Rattle.link_core.specs.declared.linked.LinkFault.{LinkFault}
use Rattle.link_core.specs.declared.linked.LinkFault.TheVariants.{Refused, Statement, Memory}
use Rattle.link_core.specs.declared.options.Options.{Options}
use Rattle.link_core.specs.declared.program.ProgramFault.{ProgramFault}
use Rattle.link_core.specs.declared.program.ProgramFault.TheVariants as program
use Rattle.link_core.specs.Programs.{program_of_cards}
use Rattle.link_core.specs.Modules.{may_be_unresolved, linked_module, Stands}

-- no option is on that would change the load modules and does not yet: neither map nor cross-reference is printed, and
-- there is no overlay tree
abbrev pub are_heeded : Options → Bool
are_heeded o = not (o.map || o.xref || o.xcal || o.ovly)

-- the load modules in order; or a refusal, after the load modules before the refused one; or a statement card, by its number
pub data Linking : Type 0 where
  LinkedModules : List Linked → Linking
  Refuses : Refusal → List Linked → Linking
  StatementAt : ℕ → Linking

-- the one load module of a program
abbrev pub linking_of : Options → Result Program ProgramFault → Linking
linking_of o (Ok p) = LinkedModules (linked_module o p ∷ [])
linking_of o (Err (program.Refused refusal)) = Refuses refusal []
linking_of o (Err (program.Statement number)) = StatementAt number

-- what the cards of the primary input come to
unfoldable pub linking : Options → List ℕ → Linking
linking o cards = linking_of o (program_of_cards cards (may_be_unresolved o))

-- the answer is that of the linking, unless memory is wanting
abbrev pub LinksAs : Linking → Result (List Linked) LinkFault → Type 0
LinksAs answer (Ok modules) = answer ≡ LinkedModules modules
LinksAs answer (Err (Refused refusal before)) = answer ≡ Refuses refusal before
LinksAs answer (Err (Statement number)) = answer ≡ StatementAt number
LinksAs answer (Err Memory) = Unit {0}

-- each load module stands for the program, without which there is none
abbrev pub StandFor : Options → Result Program ProgramFault → List Linked → Type 0
StandFor o (Ok p) modules = All (Stands o p) modules
StandFor o (Err fault) modules = ⊥
