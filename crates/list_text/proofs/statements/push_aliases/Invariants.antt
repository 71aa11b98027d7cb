use Rattle.std.proofs.Common.{◌≡◌, ◌++◌, drop, map}
use Rattle.std.specs.Prelude.{flat_map}
use Rattle.list_text.specs.Statements.{alias_text}
use Rattle.list_text.specs.Forms.{spelled}
use Rattle.list_text.proofs.statements.push_aliases.Given as goal

abbrev pub invariant-loop-name : goal.invariant-loop-name
invariant-loop-name l =
    l.out.items ++ flat_map (spelled l.form) (map alias_text (drop l.name-index l.names))
    ≡ l.fn.out.items ++ flat_map (spelled l.form) (map alias_text l.names)
