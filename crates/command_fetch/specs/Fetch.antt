-- What `fetch` answers and prints for its data sets, and what is printed of a member that is placed.
use Rattle.std.specs.Prelude.{ℕ, Bool, ◌||◌, if◌then◌else◌, List, Option, Some, None, Result, Ok, Err}
use Rattle.le_bytes.specs.declared.name.Name.{Name}
use Rattle.le_bytes.specs.declared.refusal.Refusal.{Refusal}
use Rattle.le_bytes.specs.declared.refusal.Refusal.TheVariants as refusal
use Rattle.command_words.specs.Keys.{syslmod}
use Rattle.command_words.specs.Meaning.{module_name_of, origin_of}
use Rattle.pds_directory.specs.declared.entry.Entry.{Entry}
use Rattle.pds_lib.specs.declared.set.Set.{Set}
use Rattle.pds_lib.specs.Contents.{Contents, find_entry, records_of}
use Rattle.member_model.specs.Symbols.{is_overlay_member, is_scatter_member}
use Rattle.fetch_text.specs.declared.stop.FetchStop.{FetchStop}
use Rattle.fetch_text.specs.declared.stop.FetchStop.TheVariants.{Place, Module, ReadFault, Memory}
use Rattle.fetch_text.specs.Told.{fetch_answer}
use Rattle.command_sets.specs.declared.status.Status.TheVariants.{Done}
use Rattle.command_sets.specs.declared.answer.Answer.{Answer}
use Rattle.command_sets.specs.Refusing.{refused, unbuilt}
use Rattle.command_sets.specs.Sets.{new_version}
use Rattle.command_sets.specs.Libraries.{output_in}

-- ---- a placed member

-- why the member of this name is refused; records that are there are never a failed read
abbrev pub stop_refusal : Name → FetchStop → Refusal
stop_refusal name (Place what) = refusal.Place what
stop_refusal name (Module number what) = refusal.Module (record { set = syslmod; member = Some name; number = number }) what
stop_refusal name ReadFault = refusal.MemberAbsent name
stop_refusal name Memory = refusal.MemberAbsent name

-- the text, or the refusal
abbrev pub told_as : Name → Result (List ℕ) FetchStop → Result (List ℕ) Refusal
told_as name (Ok text) = Ok text
told_as name (Err stop) = Err (stop_refusal name stop)

-- where the member of an entry is entered and what stands in its block at the origin, or why it is refused
unfoldable pub entry_text : Contents → Name → Entry → ℕ → Result (List ℕ) Refusal
entry_text lib name e origin = told_as name (fetch_answer e (records_of lib e) origin)

-- of the entry with this name, if there is one
abbrev pub found_text : Contents → Name → ℕ → Option Entry → Result (List ℕ) Refusal
found_text lib name origin (Some e) = entry_text lib name e origin
found_text lib name origin None = Err (refusal.MemberAbsent name)

-- of the member or alias of this name
unfoldable pub member_text : Contents → Name → ℕ → Result (List ℕ) Refusal
member_text lib name origin = found_text lib name origin (find_entry lib name)

-- ---- the command

-- the member is in overlay or in scatter format, which `fetch` does not take yet
abbrev pub is_other_form : Entry → Bool
is_other_form e = is_overlay_member e || is_scatter_member e

-- the answer that prints the text, or refuses
abbrev pub text_answer : Result (List ℕ) Refusal → Answer
text_answer (Ok text) = record { status = Done; text = text; put = None }
text_answer (Err refusal) = refused refusal

-- the answer for an entry
abbrev pub entry_answer : Contents → Name → Entry → ℕ → Answer
entry_answer lib name e origin = if is_other_form e then unbuilt else text_answer (entry_text lib name e origin)

-- the answer for the entry with this name, if there is one
abbrev pub found_answer : Contents → Name → ℕ → Option Entry → Answer
found_answer lib name origin (Some e) = entry_answer lib name e origin
found_answer lib name origin None = refused (refusal.MemberAbsent name)

-- the answer for the data sets
abbrev pub fetch : List (List ℕ) → List Set → Answer
fetch words sets =
    let lib = output_in (new_version words) sets in
    let name = module_name_of words in
    found_answer lib name (origin_of words) (find_entry lib name)
