use Rattle.std.proofs.Common.{◌≡◌, ◌++◌, drop, map}
use Rattle.std.specs.Prelude.{flat_map}
use Rattle.list_text.specs.Statements.{insert_text}
use Rattle.list_text.specs.Forms.{spelled}
use Rattle.list_text.proofs.statements.push_inserts.Given as goal

abbrev pub invariant-loop-section : goal.invariant-loop-section
invariant-loop-section l =
    l.out.items ++ flat_map (spelled l.form) (map insert_text (drop l.section-index l.sections))
    ≡ l.fn.out.items ++ flat_map (spelled l.form) (map insert_text l.sections)
