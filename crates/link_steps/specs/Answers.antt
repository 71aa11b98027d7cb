-- What the methods answer that take steps.
use Rattle.std.specs.Prelude.{◌≡◌, List, [], None, Result, Ok, Err, false}
use Rattle.linking_model.specs.Tree.{plain}
use Rattle.autocall.specs.Rules.{Rules}
use Rattle.sym_edit.specs.declared.fault.EditFault.{EditFault}
use Rattle.sym_edit.specs.declared.fault.EditFault.TheVariants as edit_fault
use Rattle.link_steps.specs.declared.waiting.Waiting.{Waiting}
use Rattle.link_steps.specs.declared.gathering.Gathering.{Gathering}
use Rattle.link_steps.specs.declared.stop.StepStop.{StepStop}
use Rattle.link_steps.specs.declared.stop.StepStop.TheVariants.{Refused, Memory}
use Rattle.link_steps.specs.Gathered.{After, edit_refusal}

-- nothing came
abbrev pub begun : Rules → Gathering
begun rules = record {
  merged = [];
  tree = plain;
  inserts = [];
  aliases = [];
  entry = None;
  edits = [];
  includes = 0;
  rules = rules;
  came = false;
}

-- there is no answer when out of memory, or this is what is refused
abbrev pub Stops : After → StepStop → Type 0
Stops after (Refused r) = after ≡ Err r
Stops after Memory = Unit {0}

-- what is gathered is what comes after, or why there is none
abbrev pub Steps : {A : Type 0} → After → Result A StepStop → Gathering → Type 0
Steps after (Ok _) new = after ≡ Ok new
Steps after (Err stop) new = Stops after stop

-- an edit does not apply, at its own card; or it was out of memory
abbrev pub IsEditStop : List Waiting → EditFault → StepStop → Type 0
IsEditStop edits edit_fault.Memory stop = stop ≡ Memory
IsEditStop edits fault stop = stop ≡ Refused (edit_refusal edits fault)
