-- What is printed of a member that is fetched into one block, by the definitions of its storage (this project's profile).
use Rattle.std.specs.Prelude.{ℕ, if◌then◌else◌, List, ◌++◌, map, Option, Some, None, Result, Ok, Err}
use Rattle.std.specs.List.{range_with_len}
use Rattle.le_bytes.specs.declared.record_what.PlaceWhat.TheVariants.{BadOrigin}
use Rattle.pds_directory.specs.declared.entry.Entry.{Entry}
use Rattle.member_model.specs.FirstBad.{Fault, fetch_bad}
use Rattle.member_model.specs.Fetched.{fetched, entry_address, first_storage}
use Rattle.member_model.specs.Placing.{is_origin}
use Rattle.map_list.specs.Lines.{entry_line}
use Rattle.map_list.specs.Dumps.{dump_text}
use Rattle.fetch_text.specs.declared.stop.FetchStop.{FetchStop}
use Rattle.fetch_text.specs.declared.stop.FetchStop.TheVariants.{Place, Module}

-- the member in storage: where it is entered, and what stands in its block
unfoldable pub fetch_text : Entry → List (List ℕ) → ℕ → List ℕ
fetch_text e records origin =
    let m = fetched e records origin in
    entry_line (entry_address m) ++ dump_text origin (map (first_storage m) (range_with_len origin e.length))

-- the text, or the fault that a fetch meets
abbrev pub unless_bad : List ℕ → Option Fault → Result (List ℕ) FetchStop
unless_bad text (Some (number, what)) = Err (Module number what)
unless_bad text None = Ok text

-- that it may not stand there, the first fault that a fetch meets, or the text
unfoldable pub fetch_answer : Entry → List (List ℕ) → ℕ → Result (List ℕ) FetchStop
fetch_answer e records origin =
    if is_origin e.length origin then unless_bad (fetch_text e records origin) (fetch_bad e records)
    else Err (Place BadOrigin)
