-- The law of runs: after any list of events the byte run of a written member is the symbolic run of its program (this
-- project's profile).
use Rattle.std.specs.Prelude.{◌≡◌, ℕ, ◌≤◌, Bool, true, false, List, map, length, find, Some, ⊤}
use Rattle.pds_lib.specs.Stow.{main_entry}
use Rattle.le_bytes.specs.declared.name.Name.{Name}
use Rattle.sym_mod.specs.declared.program.Constant.{Constant}
use Rattle.linking_model.specs.Places.{Laid, is_overlay, module_length}
use Rattle.linking_model.specs.Scattered.{Area, scattered}
use Rattle.linking_model.specs.Tables.{is_defined, only_target}
use Rattle.linking_model.specs.Linked.{Placement, block, spread, address_of}
use Rattle.linking_model.specs.Run.{Event, Call, Outcome, Reached, section_named, is_vcon_at, run}
use Rattle.member_model.specs.Fetched.{Fetched, fetched_over}
use Rattle.member_model.specs.ByteRun.{Answer, Goes, Stops, step, byte_run}
use Rattle.member_model.specs.Placing.{is_origin}
use Rattle.member_model.specs.StandsFor.{AreAreas, RunsAlike}
use Rattle.member_model.specs.Written.{Naming, written_bytes, member_written}
use Rattle.member_laws.specs.Linkable.{IsLinkable, IsFormat}
use Rattle.run_laws.specs.Agreement.{Agrees}
use Rattle.run_laws.specs.Answers.{IsRunnable}
use Rattle.run_laws.specs.EntryTables.{member_at}
use Rattle.run_laws.specs.Starts.{most_records}

-- ---- in one block

-- in the states that any events leave both runs agree
abbrev pub RunsStayAlike : Type 0
RunsStayAlike =
    (P : Laid) (scatter : Bool) (n : ℕ) (who : Naming) (at : ℕ) (events : List Event) → IsLinkable P → IsRunnable P
    → IsFormat P scatter n → length (written_bytes P scatter n) ≤ most_records → is_origin (module_length P) at ≡ true
    → Agrees P (block P at) n (byte_run (member_at P scatter n who at) events).state (run P (block P at) events).state

-- both have the same outcomes and the same refusal, the same segments are resident, and the same bytes stand in storage
abbrev pub RunsGoAlike : Type 0
RunsGoAlike =
    (P : Laid) (scatter : Bool) (n : ℕ) (who : Naming) (at : ℕ) (events : List Event) → IsLinkable P → IsRunnable P
    → IsFormat P scatter n → length (written_bytes P scatter n) ≤ most_records → is_origin (module_length P) at ≡ true
    → RunsAlike (member_at P scatter n who at) (byte_run (member_at P scatter n who at) events) (run P (block P at) events)

-- ---- calls

-- a branch constant stands at the place, and the outcome is the address of the section or label to which it refers
pub record IsReachedFrom (P : Laid) (Q : Placement) (name : Name) (o : ℕ) (outcome : Outcome) : Type 0 where
  pub section : ℕ
  pub named : section_named P.program name ≡ Some section
  pub constant : Constant
  pub there : find (is_vcon_at section o) P.program.constants ≡ Some constant
  pub defined : is_defined (only_target constant.terms) ≡ true
  pub reached : outcome ≡ Reached (address_of P.program Q (only_target constant.terms))

-- so it is of a call that goes on
abbrev pub ReachesSymbol : Laid → Placement → Name → ℕ → Answer → Type 0
ReachesSymbol P Q name o (Goes outcome S) = IsReachedFrom P Q name o outcome
ReachesSymbol P Q name o (Stops why) = ⊤

-- after any events, a call that is not refused reaches the address of its symbol
abbrev pub CallsReachSymbols : Type 0
CallsReachSymbols =
    (P : Laid) (scatter : Bool) (n : ℕ) (who : Naming) (at : ℕ) (events : List Event) (name : Name) (o : ℕ) → IsLinkable P
    → IsRunnable P → IsFormat P scatter n → length (written_bytes P scatter n) ≤ most_records
    → is_origin (module_length P) at ≡ true
    → ReachesSymbol P (block P at) name o
    (step (member_at P scatter n who at) (byte_run (member_at P scatter n who at) events).state (Call name o))

-- ---- over areas

-- the member of the program, by its own name, with its sections at these addresses
abbrev pub member_over : Laid → Bool → ℕ → Naming → List ℕ → Fetched
member_over P scatter n who addresses =
    fetched_over (main_entry (member_written P scatter n who)) (written_bytes P scatter n) addresses

-- a member without overlay whose sections are scattered over areas runs alike too
abbrev pub ScatteredRunsGoAlike : Type 0
ScatteredRunsGoAlike =
    (P : Laid) (scatter : Bool) (n : ℕ) (who : Naming) (areas : List Area) (addresses : List ℕ) (events : List Event) → IsLinkable P
    → IsRunnable P → IsFormat P scatter n → is_overlay P.tree ≡ false → AreAreas 0 areas
    → scattered areas (map (λ x. x.length) P.program.sections) ≡ Some addresses
    → RunsAlike (member_over P scatter n who addresses) (byte_run (member_over P scatter n who addresses) events)
    (run P (spread addresses) events)
