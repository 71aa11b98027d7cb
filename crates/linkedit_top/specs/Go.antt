-- What `go` answers, prints and puts for its data sets.
use Rattle.std.specs.Prelude.{ℕ, List, Result, Ok, Err}
use Rattle.pds_lib.specs.declared.set.Set.{Set}
use Rattle.command_sets.specs.declared.answer.Answer.{Answer}
use Rattle.command_link.specs.declared.stowing.Stowed.{Stowed}
use Rattle.command_link.specs.Link.{stowed_for}
use Rattle.command_fetch.specs.Placed.{placed_answer}

-- the last load module is fetched from the library that it went into
abbrev pub placed_stowed : List (List ℕ) → Result Stowed Answer → Answer
placed_stowed words (Ok s) = placed_answer words s.last s.status s.text s.library
placed_stowed words (Err answer) = answer

-- the load modules are stowed as `link` stows them, and then the last is placed
abbrev pub go : List (List ℕ) → List Set → Answer
go words sets = placed_stowed words (stowed_for words sets)
