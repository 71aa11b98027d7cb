use Rattle.relink_list.proofs.Printing.{texts_are_those_of_the_statements}
use Rattle.relink_list.proofs.laws.texts_are_those_of_the_statements.Goals as goal

pub returns : goal.returns
returns c = texts_are_those_of_the_statements
