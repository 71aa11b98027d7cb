use Rattle.std.proofs.Common.{◌≡◌, ◌++◌, drop}
use Rattle.std.specs.Prelude.{flat_map}
use Rattle.list_text.specs.References.{reference_line}
use Rattle.list_text.proofs.references.push_references.Given as goal

abbrev pub invariant-loop-row : goal.invariant-loop-row
invariant-loop-row l =
    l.out.items ++ flat_map reference_line (drop l.row-index l.refs) ≡ l.fn.out.items ++ flat_map reference_line l.refs
