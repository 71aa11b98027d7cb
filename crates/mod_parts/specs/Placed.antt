-- The addresses at which the parts of a program stand.
use Rattle.std.specs.Prelude.{Ok}
use Rattle.sym_mod.specs.declared.program.Places.{Places}
use Rattle.linking_model.specs.Places.{Laid}
use Rattle.addr_assign.specs.Answers.{AssignAnswer}

-- the addresses are those that are assigned to the program: its registers and its module are not too long, and each
-- section, table, segment and register is at its place
abbrev pub ArePlacesOf : Laid → Places → Type 0
ArePlacesOf P a = AssignAnswer P (Ok a)
