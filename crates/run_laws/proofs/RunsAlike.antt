-- A run of a written member is that of its program, event after event.
use Rattle.std.proofs.Common.{◌≡◌, ℕ, Bool, true, false, List, [], ◌∷◌, find, Option, Some, None, refl, sym, ap, ◌∙◌, subst}
use Rattle.std.specs.Prelude.{⊤, if◌then◌else◌}
use Rattle.le_bytes.specs.declared.record_what.EventWhat.TheVariants.{NotResident}
use Rattle.sym_mod.specs.Sound.{IsSymbolOf}
use Rattle.le_bytes.specs.declared.name.Name.{Name}
use Rattle.sym_mod.specs.declared.program.Constant.{Constant}
use Rattle.sym_mod.specs.declared.program.Target.{Target}
use Rattle.sym_mod.specs.declared.program.Target.TheVariants.{Section as InSection, Label as AtLabel, Unresolved, Register as OfRegister, Total}
use Rattle.linking_model.specs.Tree.{is_in}
use Rattle.linking_model.specs.Places.{Laid, segment_of_section}
use Rattle.linking_model.specs.Tables.{is_defined, only_target}
use Rattle.linking_model.specs.Linked.{Placement, address_of}
use Rattle.linking_model.specs.Run.{Event, Call, Reached, State as SymbolState, Run as SymbolRun, Answer as SymbolAnswer, Goes as GoesBySymbols, Stops as StopsBySymbols, and_then as then_by_symbols, section_named, is_vcon_at, called, reached, if_resident, step as step_by_symbols, run_from as run_by_symbols, run}
use Rattle.member_model.specs.Fetched.{Fetched}
use Rattle.member_model.specs.Calling.{State}
use Rattle.member_model.specs.ByteRun.{Run, Answer, Goes, Stops, and_then, step, run_from, byte_run}
use Rattle.member_model.specs.StandsFor.{RunsAlike}
use Rattle.member_laws.specs.Linkable.{IsLinkable}
use Rattle.member_laws.proofs.LoadingLists.{found_among, found_passes}
use Rattle.run_laws.specs.Agreement.{Agrees}
use Rattle.run_laws.specs.Answers.{AnswerAlike}
use Rattle.run_laws.specs.Running.{IsReachedFrom, ReachesSymbol}
use Rattle.run_laws.proofs.AnswersAlike.{RunsAt, residents_told, step_alike}
use Rattle.run_laws.proofs.BegunRuns.{begin_alike}
use Rattle.run_laws.proofs.BranchConstants.{IsCall, is_call, HasTarget, has_target}

-- ---- all events

-- both runs have the same outcomes and the same refusal, and end in states that agree
pub record EndsAlike (P : Laid) (Q : Placement) (n : ℕ) (bytes : Run) (symbols : SymbolRun) : Type 0 where
  pub outcomes : bytes.outcomes ≡ symbols.outcomes
  pub refusal : bytes.refusal ≡ symbols.refusal
  pub agrees : Agrees P Q n bytes.state symbols.state

then_alike : (P : Laid) (Q : Placement) (n : ℕ) (m : Fetched) (S : State) (T : SymbolState) (events : List Event) (a : Answer) (b : SymbolAnswer)
    → Agrees P Q n S T → AnswerAlike P Q n a b
    → ((S' : State) (T' : SymbolState) → Agrees P Q n S' T' → EndsAlike P Q n (run_from m S' events) (run_by_symbols P Q T' events))
    → EndsAlike P Q n (and_then S a (λ S'. run_from m S' events)) (then_by_symbols T b (λ T'. run_by_symbols P Q T' events))
then_alike P Q n m S T events (Goes outcome S') (GoesBySymbols other T') agrees alike rest =
    let later : EndsAlike P Q n (run_from m S' events) (run_by_symbols P Q T' events) = rest S' T' alike.1 in
    record {
      outcomes = ap (λ o. o ∷ (run_from m S' events).outcomes) alike.0 ∙ ap (λ os. other ∷ os) later.outcomes;
      refusal = later.refusal;
      agrees = later.agrees;
    }
then_alike P Q n m S T events (Stops why) (StopsBySymbols other) agrees alike rest = record { outcomes = refl; refusal = ap Some alike; agrees = agrees }
then_alike P Q n m S T events (Goes outcome S') (StopsBySymbols other) agrees alike rest = absurd alike
then_alike P Q n m S T events (Stops why) (GoesBySymbols other T') agrees alike rest = absurd alike

pub ends_alike : (P : Laid) (scatter : Bool) (n : ℕ) (Q : Placement) (m : Fetched) (events : List Event) (S : State) (T : SymbolState)
    → RunsAt P scatter n Q m → Agrees P Q n S T → EndsAlike P Q n (run_from m S events) (run_by_symbols P Q T events)
unfolding run_from run_by_symbols
ends_alike P scatter n Q m [] S T at agrees = record { outcomes = refl; refusal = refl; agrees = agrees }
ends_alike P scatter n Q m (event ∷ events) S T at agrees =
    then_alike P Q n m S T events (step m S event) (step_by_symbols P Q T event) agrees (step_alike P scatter n Q m S T event at agrees)
    (λ S' T' again. ends_alike P scatter n Q m events S' T' at again)

pub run_ends_alike : (P : Laid) (scatter : Bool) (n : ℕ) (Q : Placement) (m : Fetched) (events : List Event) → RunsAt P scatter n Q m
    → EndsAlike P Q n (byte_run m events) (run P Q events)
run_ends_alike P scatter n Q m events at =
    ends_alike P scatter n Q m events _ _ at (begin_alike P scatter n Q m at.link at.keeps at.fetched)

pub run_alike : (P : Laid) (scatter : Bool) (n : ℕ) (Q : Placement) (m : Fetched) (events : List Event) → RunsAt P scatter n Q m
    → RunsAlike m (byte_run m events) (run P Q events)
run_alike P scatter n Q m events at =
    let ends : EndsAlike P Q n (byte_run m events) (run P Q events) = run_ends_alike P scatter n Q m events at in
    record {
      outcomes = ends.outcomes;
      refusal = ends.refusal;
      resident = residents_told P scatter n Q m (byte_run m events).state (run P Q events).state at ends.agrees;
      storage = ends.agrees.storage;
    }

-- ---- calls

-- what a call by symbols reaches
abbrev IsReachedBySymbols : Laid → Placement → Name → ℕ → SymbolAnswer → Type 0
IsReachedBySymbols P Q name o (GoesBySymbols outcome T) = IsReachedFrom P Q name o outcome
IsReachedBySymbols P Q name o (StopsBySymbols why) = ⊤

call_reaches : (P : Laid) (Q : Placement) (T : SymbolState) (name : Name) (o : ℕ) → IsLinkable P → IsReachedBySymbols P Q name o (step_by_symbols P Q T (Call name o))
unfolding step_by_symbols
call_reaches P Q T name o link = by_name (section_named P.program name) refl
  where
    symbol_of : (i : ℕ) (c : Constant) → find (is_vcon_at i o) P.program.constants ≡ Some c → IsSymbolOf P.program (only_target c.terms)
    symbol_of i c found =
        let call : IsCall P i o c =
        is_call P i o c (found_among (is_vcon_at i o) c P.program.constants found) (found_passes (is_vcon_at i o) c P.program.constants found) in
        let target : HasTarget P c = has_target P c link call.among call.kind in
        target.symbol

    by_target : (i : ℕ) (c : Constant) → section_named P.program name ≡ Some i → find (is_vcon_at i o) P.program.constants ≡ Some c
        → (y : Target) → only_target c.terms ≡ y → IsSymbolOf P.program y → IsReachedBySymbols P Q name o (reached P Q T y)
    by_target i c named found (InSection j) target symbol =
        record { section = i; named = named; constant = c; there = found; defined = ap is_defined target; reached = ap (λ y. Reached (address_of P.program Q y)) (sym target) }
    by_target i c named found (AtLabel j) target symbol =
        record { section = i; named = named; constant = c; there = found; defined = ap is_defined target; reached = ap (λ y. Reached (address_of P.program Q y)) (sym target) }
    by_target i c named found (Unresolved j) target symbol = tt
    by_target i c named found (OfRegister j) target symbol = absurd symbol
    by_target i c named found Total target symbol = absurd symbol

    by_constant : (i : ℕ) → section_named P.program name ≡ Some i → (c : Option Constant) → find (is_vcon_at i o) P.program.constants ≡ c
        → IsReachedBySymbols P Q name o (called P Q T c)
    by_constant i named None none = tt
    by_constant i named (Some c) found = by_target i c named found (only_target c.terms) refl (symbol_of i c found)

    by_name : (i : Option ℕ) → section_named P.program name ≡ i
        → IsReachedBySymbols P Q name o (if_resident P T (λ i. called P Q T (find (is_vcon_at i o) P.program.constants)) i)
    by_name None none = tt
    by_name (Some i) named = by_presence (is_in (segment_of_section P.program i) T.resident)
      where
        by_presence : (b : Bool) → IsReachedBySymbols P Q name o
            (if b then called P Q T (find (is_vcon_at i o) P.program.constants)
            else StopsBySymbols (NotResident (segment_of_section P.program i)))
        by_presence true = by_constant i named (find (is_vcon_at i o) P.program.constants) refl
        by_presence false = tt

reaches_alike : (P : Laid) (Q : Placement) (n : ℕ) (name : Name) (o : ℕ) (a : Answer) (b : SymbolAnswer) → AnswerAlike P Q n a b
    → IsReachedBySymbols P Q name o b → ReachesSymbol P Q name o a
reaches_alike P Q n name o (Goes outcome S) (GoesBySymbols other T) alike reaches = subst (IsReachedFrom P Q name o) (sym alike.0) reaches
reaches_alike P Q n name o (Stops why) b alike reaches = tt
reaches_alike P Q n name o (Goes outcome S) (StopsBySymbols other) alike reaches = absurd alike

pub calls_reach : (P : Laid) (scatter : Bool) (n : ℕ) (Q : Placement) (m : Fetched) (events : List Event) (name : Name) (o : ℕ)
    → RunsAt P scatter n Q m → ReachesSymbol P Q name o (step m (byte_run m events).state (Call name o))
calls_reach P scatter n Q m events name o at =
    reaches_alike P Q n name o (step m (byte_run m events).state (Call name o)) (step_by_symbols P Q (run P Q events).state (Call name o))
    (step_alike P scatter n Q m (byte_run m events).state (run P Q events).state (Call name o) at (run_ends_alike P scatter n Q m events at).agrees)
    (call_reaches P Q (run P Q events).state name o at.link)
