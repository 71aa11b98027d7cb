use Rattle.std.proofs.Common.{◌≡◌, ◌++◌, drop}
use Rattle.std.specs.Prelude.{flat_map}
use Rattle.list_text.specs.Directories.{entry_line}
use Rattle.list_text.proofs.directory.push_directory.Given as goal

abbrev pub invariant-loop-entry : goal.invariant-loop-entry
invariant-loop-entry l =
    l.out.items ++ flat_map entry_line (drop l.entry-index l.entries) ≡ l.fn.out.items ++ flat_map entry_line l.entries
