use Rattle.linkedit_top.proofs.PrintedPrograms.{stowed_modules_print_programs}
use Rattle.linkedit_top.proofs.laws.stowed_modules_print_programs.Goals as goal

pub returns : goal.returns
returns c = stowed_modules_print_programs
