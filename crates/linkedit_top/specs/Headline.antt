-- What `link` and `go` put and print, said of the program of their cards.
use Rattle.std.specs.Prelude.{◌≡◌, ℕ, ◌≤◌, ◌==◌, true, if◌then◌else◌, List, [], ◌++◌, length, Option, Some, None, unwrap_or, IfSome, Result, Ok, Err, IfOk, IsOk, IsOkAnd}
use Rattle.std.specs.Result.{result_unwrap_or}
use Rattle.le_bytes.specs.declared.refusal.Refusal.{Refusal}
use Rattle.le_bytes.specs.declared.refusal.Refusal.TheVariants.{Place}
use Rattle.le_bytes.specs.declared.record_what.PlaceWhat.TheVariants.{BadOrigin}
use Rattle.le_io.specs.Counts.{Files}
use Rattle.command_words.specs.declared.command.Command.{Command}
use Rattle.command_words.specs.declared.command.Command.TheVariants.{Go, Link}
use Rattle.command_words.specs.Keys.{syslin, syslmod}
use Rattle.command_words.specs.Judged.{bad_word}
use Rattle.command_words.specs.Meaning.{command_of, module_name_of, origin_of}
use Rattle.sym_mod.specs.declared.program.Program.{Program}
use Rattle.pds_directory.specs.declared.kinds.Version.{Version}
use Rattle.pds_lib.specs.Contents.{Contents}
use Rattle.pds_lib.specs.Grammar.{library_of}
use Rattle.pds_image.specs.Image.{written}
use Rattle.member_model.specs.StandsFor.{AreBytes}
use Rattle.link_core.specs.declared.linked.Linked.{Linked}
use Rattle.link_core.specs.declared.program.ProgramFault.{ProgramFault}
use Rattle.link_core.specs.Programs.{program_of_cards}
use Rattle.link_core.specs.Modules.{Stands, linked_module, listing, may_be_unresolved, wanting_names}
use Rattle.command_sets.specs.declared.answer.Answer.{Answer}
use Rattle.command_sets.specs.declared.answer.Put.{Put}
use Rattle.command_sets.specs.declared.status.Status.{Status}
use Rattle.command_sets.specs.declared.status.Status.TheVariants.{Done, DoneWithUnresolved, Refused, Fault, Memory}
use Rattle.command_sets.specs.declared.status.Fault.TheVariants.{Read}
use Rattle.command_sets.specs.Libraries.{output_put, MayBePut}
use Rattle.command_sets.specs.Sets.{cards_at, library_or_new, library_at, empty_library, file_at, new_version, set_limit, sets_of, names_output}
use Rattle.command_link.specs.Link.{linking_options, with_module}
use Rattle.command_fetch.specs.Placed.{placed_lines, placed_status}
use Rattle.linkedit_top.specs.ByProgram.{program_text}
use Rattle.linkedit_top.specs.Outcome.{is_built, outcome}

-- ---- a program and the library that it goes into

-- the load module that a program is linked as, for this library
abbrev pub module_for : List (List ℕ) → Contents → Program → Linked
module_for words lib p = linked_module (linking_options words lib.version) p

-- the library with the member of the program, which takes the place of any of its name
abbrev pub library_with : List (List ℕ) → Contents → Program → Result Contents Refusal
library_with words lib p = with_module lib (module_for words lib p)

-- neither the program nor that library is refused, and so it is of the two
abbrev pub AreLinked : List (List ℕ) → Contents → Result Program ProgramFault → (Program → Contents → Type 0) → Type 0
AreLinked words lib r So = IsOkAnd r (λ p. IsOkAnd (library_with words lib p) (So p))

-- so it is of the two, unless the program or that library is refused
abbrev pub UnlessRefused : List (List ℕ) → Contents → Result Program ProgramFault → (Program → Contents → Type 0) → Type 0
UnlessRefused words lib r So = IfOk r (λ p. IfOk (library_with words lib p) (So p))

-- ---- what is put

-- the put is that of the library with the member, and the program stands in the member
pub record PutsProgram (words : List (List ℕ)) (before : Contents) (put : Put) (p : Program) (after : Contents) : Type 0 where
  pub is : put ≡ output_put after
  pub short : MayBePut put
  pub stands : Stands (linking_options words before.version) p (module_for words before p)

-- ---- how a command ends that links

-- done, with or without names that have to be resolved and are not
abbrev pub status_of : Program → Status
status_of p = if length (wanting_names p) == 0 then Done else DoneWithUnresolved

-- by `go` the program is placed, with the module at the origin, unless that may not be
abbrev pub program_status : Command → List (List ℕ) → Program → Status
program_status Go words p = placed_status (status_of p) (program_text p (origin_of words))
program_status _ words p = status_of p

-- the listing of the program under its name, and by `go` then where it is entered and its linked bytes, or the line of
-- the refusal of the origin
abbrev pub program_lines : Command → List (List ℕ) → Program → List ℕ
program_lines Go words p = listing (module_name_of words) p ++ placed_lines (program_text p (origin_of words))
program_lines _ words p = listing (module_name_of words) p

-- the library is put, by `go` where the words name SYSLMOD
abbrev pub put_of : Command → List (List ℕ) → Contents → Option Put
put_of Go words lib = if names_output words then Some (output_put lib) else None
put_of _ words lib = Some (output_put lib)

-- the answer for a program, and the library that its member is in
abbrev pub program_answer : Command → List (List ℕ) → Program → Contents → Answer
program_answer command words p after = record {
  status = program_status command words p;
  text = program_lines command words p;
  put = put_of command words after;
}

-- the status of a command that has linked a program: all was done, or the module may not stand at the origin
abbrev pub EndsLinked : Status → Type 0
EndsLinked Done = Unit {0}
EndsLinked DoneWithUnresolved = Unit {0}
EndsLinked (Refused (Place BadOrigin)) = Unit {0}
EndsLinked _ = ⊥

-- the answer is that for the program, and it stands in its member
pub record LinksProgram (command : Command) (words : List (List ℕ)) (before : Contents) (answer : Answer) (p : Program) (after : Contents) : Type 0 where
  pub is : answer ≡ program_answer command words p after
  pub stands : Stands (linking_options words before.version) p (module_for words before p)

-- ---- the promise

-- whatever is put has the member in which the program stands; where the status is that of a command that has linked, all
-- is that of the program; and so it is, where the words and the sets are taken, unless the program, its stow or the
-- length of the image is refused
pub record KeepsPromise (Taken : Type 0) (command : Command) (words : List (List ℕ)) (lib : Contents) (r : Result Program ProgramFault) (answer : Answer) : Type 0 where
  pub puts : IfSome answer.put (λ put. AreLinked words lib r (PutsProgram words lib put))
  pub ends : EndsLinked answer.status → AreLinked words lib r (LinksProgram command words lib answer)
  pub links : Taken → UnlessRefused words lib r (λ p after. IfSome (put_of command words after) MayBePut → LinksProgram command words lib answer p after)

-- ---- words and files

-- the program of the cards at SYSLIN, linked for that library, or what is refused of them
abbrev pub program_at : List (List ℕ) → Files → Result Program ProgramFault
program_at words files =
    program_of_cards (cards_at words files) (may_be_unresolved (linking_options words (library_at words files).version))

-- no word is bad, what they ask for is built, and no set that they name is refused
pub record AreTaken (words : List (List ℕ)) (files : Files) : Type 0 where
  pub good : bad_word words ≡ None
  pub built : is_built words ≡ true
  pub read : IsOk (sets_of words files)

-- the promise for a command that links: the program is that of the cards at SYSLIN, and goes into the library at SYSLMOD
abbrev pub LinksFiles : Command → List (List ℕ) → Files → Answer → Type 0
LinksFiles command words files answer =
    KeepsPromise (AreTaken words files) command words (library_at words files) (program_at words files) answer

-- the promise for any command; none but `link` and `go` puts anything
abbrev pub IsPromised : Option Command → List (List ℕ) → Files → Answer → Type 0
IsPromised (Some Link) words files answer = LinksFiles Link words files answer
IsPromised (Some Go) words files answer = LinksFiles Go words files answer
IsPromised _ words files answer = answer.put ≡ None

-- the promise for words and files
abbrev pub LinksAsPromised : List (List ℕ) → Files → Answer → Type 0
LinksAsPromised words files answer = IsPromised (command_of words) words files answer

-- ---- what was put, read again

-- the image that is put is read as the library with the member of the program
abbrev pub IsReadAgain : List (List ℕ) → Files → Answer → Type 0
IsReadAgain words files answer =
    IfSome answer.put (λ put. AreLinked words (library_at words files) (program_at words files) (λ p after. library_of put.image ≡ Ok after))

-- ---- when it holds

-- all was judged: no read failed, and memory was not wanting
abbrev pub IsJudged : Status → Type 0
IsJudged (Fault (Read _)) = ⊥
IsJudged Memory = ⊥
IsJudged _ = Unit {0}

-- `outcome` keeps the promise where the cards are bytes, as what is read of a store always is
abbrev pub OutcomesAreAsPromised : Type 0
OutcomesAreAsPromised =
    (words : List (List ℕ)) (files : Files) → AreBytes (cards_at words files) → LinksAsPromised words files (outcome words files)
