-- What the steps of stowing come to.
use Rattle.std.specs.Prelude.{◌≡◌, None, Result, Ok, Err, IfOk}
use Rattle.le_bytes.specs.declared.refusal.Refusal.{Refusal}
use Rattle.pds_lib.specs.Contents.{Contents}
use Rattle.link_core.specs.declared.linked.Linked.{Linked}
use Rattle.command_sets.specs.declared.answer.Answer.{Answer}
use Rattle.command_sets.specs.Causes.{IsOwn}
use Rattle.command_sets.specs.Libraries.{PutsReadable}
use Rattle.command_link.specs.declared.stowing.Stowed.{Stowed}
use Rattle.command_link.specs.Link.{with_module}

-- the library has the load module, or it is refused
abbrev pub StowsModule : Contents → Linked → Contents → Result (Unit {0}) Refusal → Type 0
StowsModule old x new (Ok _) = with_module old x ≡ Ok new
StowsModule old x new (Err refusal) = with_module old x ≡ Err refusal

-- the status is one that the data sets give, and an answer puts nothing
abbrev pub EndsOwn : Result Stowed Answer → Type 0
EndsOwn (Ok s) = IsOwn s.status
EndsOwn (Err answer) = IsOwn answer.status × (answer.put ≡ None)

-- what is put is read as the library with the load modules
abbrev pub PutsStowed : Result Stowed Answer → Answer → Type 0
PutsStowed r answer = IfOk r (λ s. PutsReadable s.library answer)
