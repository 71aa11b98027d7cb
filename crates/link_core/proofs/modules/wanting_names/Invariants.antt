use Rattle.std.proofs.Common.{◌≡◌, ◌++◌, drop, map, filter}
use Rattle.link_core.specs.Programs.{is_wanting}
use Rattle.link_core.proofs.modules.wanting_names.Given as goal

abbrev pub invariant-loop-unknown : goal.invariant-loop-unknown
invariant-loop-unknown l =
    l.names ++ map (λ x. x.name) (filter is_wanting (drop l.unknown-index l.unresolved)) ≡ map (λ x. x.name) (filter is_wanting l.unresolved)
