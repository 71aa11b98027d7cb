use Rattle.fetch_storage.proofs.Stepping.{RestIsLeft}
use Rattle.fetch_storage.proofs.parts.Parts.relocate.Given as goal

abbrev pub invariant-loop-field : goal.invariant-loop-field
invariant-loop-field l = RestIsLeft l.items l.shifts l.initial.self l.self l.fields l.field-index
