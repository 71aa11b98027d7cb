use Rattle.std.proofs.Common.{◌≡◌, ◌++◌, drop}
use Rattle.std.specs.Prelude.{flat_map}
use Rattle.link_core.specs.Modules.{name_line}
use Rattle.link_core.proofs.printing.push_names.Given as goal

abbrev pub invariant-loop-name : goal.invariant-loop-name
invariant-loop-name l =
    l.out.items ++ flat_map name_line (drop l.name-index l.names) ≡ l.fn.out.items ++ flat_map name_line l.names
