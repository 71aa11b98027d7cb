-- Runs of a written member in one block.
use Rattle.std.proofs.Common.{◌≡◌, ℕ, ◌≤◌, Bool, true, length, refl}
use Rattle.pds_lib.specs.Stow.{main_entry}
use Rattle.linking_model.specs.Places.{Laid, module_length}
use Rattle.linking_model.specs.Linked.{block}
use Rattle.linking_model.specs.Run.{Call}
use Rattle.member_model.specs.Placing.{is_origin}
use Rattle.member_model.specs.Written.{Naming, written_bytes, member_written}
use Rattle.member_laws.specs.Linkable.{IsLinkable, IsFormat}
use Rattle.run_laws.specs.Answers.{IsRunnable, CallsAnswerAlike, EventsAnswerAlike}
use Rattle.run_laws.specs.EntryTables.{member_at}
use Rattle.run_laws.specs.Running.{RunsStayAlike, RunsGoAlike, CallsReachSymbols}
use Rattle.run_laws.specs.Starts.{most_records}
use Rattle.run_laws.proofs.AnswersAlike.{RunsAt, step_alike}
use Rattle.run_laws.proofs.FetchedMembers.{fetched_in_block}
use Rattle.run_laws.proofs.PartBytes.{block_keeps_apart}
use Rattle.run_laws.proofs.ReachedAddresses.{block_reaches}
use Rattle.run_laws.proofs.RunsAlike.{run_ends_alike, run_alike, calls_reach}

pub runs_in_block : (P : Laid) (scatter : Bool) (n : ℕ) (who : Naming) (at : ℕ) → IsLinkable P → IsRunnable P → IsFormat P scatter n
    → length (written_bytes P scatter n) ≤ most_records → is_origin (module_length P) at ≡ true
    → RunsAt P scatter n (block P at) (member_at P scatter n who at)
runs_in_block P scatter n who at link runs format few origin = record {
  link = link;
  runs = runs;
  some = format.some;
  fetched = fetched_in_block P scatter n (main_entry (member_written P scatter n who)) at link format (record { attr = refl; length = refl });
  keeps = block_keeps_apart P at link;
  reaches = block_reaches P scatter n who at link runs format few origin;
}

pub events_answer_alike : EventsAnswerAlike
events_answer_alike P scatter n who at S T event link runs format few origin agrees =
    step_alike P scatter n (block P at) (member_at P scatter n who at) S T event (runs_in_block P scatter n who at link runs format few origin) agrees

pub calls_answer_alike : CallsAnswerAlike
calls_answer_alike P scatter n who at S T name o link runs format few origin agrees =
    events_answer_alike P scatter n who at S T (Call name o) link runs format few origin agrees

pub runs_stay_alike : RunsStayAlike
runs_stay_alike P scatter n who at events link runs format few origin =
    (run_ends_alike P scatter n (block P at) (member_at P scatter n who at) events (runs_in_block P scatter n who at link runs format few origin)).agrees

pub runs_go_alike : RunsGoAlike
runs_go_alike P scatter n who at events link runs format few origin =
    run_alike P scatter n (block P at) (member_at P scatter n who at) events (runs_in_block P scatter n who at link runs format few origin)

pub calls_reach_symbols : CallsReachSymbols
calls_reach_symbols P scatter n who at events name o link runs format few origin =
    calls_reach P scatter n (block P at) (member_at P scatter n who at) events name o (runs_in_block P scatter n who at link runs format few origin)
