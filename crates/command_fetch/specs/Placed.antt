-- What is put and printed of a member that is placed behind the lines of others.
use Rattle.std.specs.Prelude.{ℕ, List, ◌++◌, Result, Ok, Err}
use Rattle.le_bytes.specs.declared.name.Name.{Name}
use Rattle.le_bytes.specs.declared.refusal.Refusal.{Refusal}
use Rattle.command_words.specs.Meaning.{origin_of}
use Rattle.map_list.specs.Lines.{refusal_line}
use Rattle.pds_lib.specs.Contents.{Contents}
use Rattle.command_sets.specs.declared.answer.Answer.{Answer}
use Rattle.command_sets.specs.declared.status.Status.{Status}
use Rattle.command_sets.specs.declared.status.Status.TheVariants.{Refused}
use Rattle.command_sets.specs.Libraries.{library_answer}
use Rattle.command_sets.specs.Sets.{names_output}
use Rattle.command_fetch.specs.Fetch.{member_text}

-- the status of a member that is placed, or is not
abbrev pub placed_status : Status → Result (List ℕ) Refusal → Status
placed_status status (Ok text) = status
placed_status status (Err refusal) = Refused refusal

-- its lines, or that of why it is not placed
abbrev pub placed_lines : Result (List ℕ) Refusal → List ℕ
placed_lines (Ok text) = text
placed_lines (Err refusal) = refusal_line refusal

-- the answer for the library that has the load modules: the lines of the member of this name come after theirs
abbrev pub placed_answer : List (List ℕ) → Name → Status → List ℕ → Contents → Answer
placed_answer words name status text lib =
    let placed = member_text lib name (origin_of words) in
    library_answer (names_output words) (placed_status status placed) (text ++ placed_lines placed) lib
