-- What one event gives in the byte run of a written member, and what it gives in the symbolic run of its program (this
-- project's profile).
use Rattle.std.specs.Prelude.{◌≡◌, ℕ, ◌≤◌, Bool, true, length, All, IsFalse, ⊤, None}
use Rattle.le_bytes.specs.Names.{is_blank}
use Rattle.le_bytes.specs.declared.name.Name.{Name}
use Rattle.sym_mod.specs.declared.program.SecKind.{SecKind}
use Rattle.sym_mod.specs.declared.program.SecKind.TheVariants.{Sd}
use Rattle.linking_model.specs.Places.{Laid, module_length}
use Rattle.linking_model.specs.Linked.{Placement, block}
use Rattle.linking_model.specs.Tables.{refused_reference}
use Rattle.linking_model.specs.Run.{State as SymbolState, Event, Call, Answer as SymbolAnswer, Goes as GoesBySymbols, Stops as StopsBySymbols, step as step_by_symbols}
use Rattle.member_model.specs.Calling.{State}
use Rattle.member_model.specs.ByteRun.{Answer, Goes, Stops, step}
use Rattle.member_model.specs.Placing.{is_origin}
use Rattle.member_model.specs.Written.{Naming, written_bytes}
use Rattle.member_laws.specs.Linkable.{IsLinkable, IsFormat}
use Rattle.run_laws.specs.Agreement.{Agrees}
use Rattle.run_laws.specs.EntryTables.{member_at}
use Rattle.run_laws.specs.Starts.{most_records}

-- ---- programs that run

-- a control section of kind SD has a name
abbrev pub HasNameAs : SecKind → Name → Type 0
HasNameAs Sd name = IsFalse (is_blank name)
HasNameAs kind name = ⊤

-- no control section of kind SD has a blank name, since by such a name it is a place for symbols and private code in
-- records; and each exclusive reference has a holder, since without one it has no entry
pub record IsRunnable (P : Laid) : Type 0 where
  pub named : All (λ x. HasNameAs x.kind x.name) P.program.sections
  pub holders : refused_reference P.program P.tree true ≡ None

-- ---- answers

-- both go on with one outcome to states that agree, or both stop for one reason
abbrev pub AnswerAlike : Laid → Placement → ℕ → Answer → SymbolAnswer → Type 0
AnswerAlike P Q n (Goes outcome S) (GoesBySymbols other T) = (outcome ≡ other) × Agrees P Q n S T
AnswerAlike P Q n (Stops why) (StopsBySymbols other) = why ≡ other
AnswerAlike P Q n answer other = ⊥

-- a call, whatever its place, is answered so
abbrev pub CallsAnswerAlike : Type 0
CallsAnswerAlike =
    (P : Laid) (scatter : Bool) (n : ℕ) (who : Naming) (at : ℕ) (S : State) (T : SymbolState) (name : Name) (o : ℕ) → IsLinkable P
    → IsRunnable P → IsFormat P scatter n → length (written_bytes P scatter n) ≤ most_records
    → is_origin (module_length P) at ≡ true → Agrees P (block P at) n S T
    → AnswerAlike P (block P at) n (step (member_at P scatter n who at) S (Call name o)) (step_by_symbols P (block P at) T (Call name o))

-- and so is each event
abbrev pub EventsAnswerAlike : Type 0
EventsAnswerAlike =
    (P : Laid) (scatter : Bool) (n : ℕ) (who : Naming) (at : ℕ) (S : State) (T : SymbolState) (event : Event) → IsLinkable P
    → IsRunnable P → IsFormat P scatter n → length (written_bytes P scatter n) ≤ most_records
    → is_origin (module_length P) at ≡ true → Agrees P (block P at) n S T
    → AnswerAlike P (block P at) n (step (member_at P scatter n who at) S event) (step_by_symbols P (block P at) T event)
