use Rattle.std.proofs.Common.{◌≡◌, drop, map, Some}
use Rattle.std.specs.Prelude.{string_bytes}
use Rattle.std.specs.List.{list_all}
use Rattle.linkedit_top.specs.Outcome.{is_built_setting}
use Rattle.linkedit_top.proofs.deciding.are_all_built.Given as goal

abbrev pub invariant-loop-setting : goal.invariant-loop-setting
invariant-loop-setting l =
    list_all (is_built_setting (Some l.command)) (map string_bytes (drop l.setting-index l.settings)) ≡ list_all (is_built_setting (Some l.command)) (map string_bytes l.settings)
