use Rattle.std.proofs.Common.{refl, ap, ◌∙◌}
use Rattle.std.specs.Prelude.{slice_get, option_and_then}
use Rattle.std.proofs.Common.{ℕ, List}
use Rattle.pds_directory.specs.Directory.{owner_of}
use Rattle.pds_lib.proofs.Members.{known_count}
use Rattle.pds_lib.proofs.reading.count_for.Goals as goal

pub returns-in-Some : goal.returns-in-Some
returns-in-Some c =
    known_count c.args.places.now c.args.d.now.entries c.args.x.now.first c.in-Some.n _ refl
    (c.in-Some.ensures ∙ ap (λ (ns : List ℕ). option_and_then (slice_get ns) (owner_of c.args.d.now.entries c.args.x.now.first)) c.requires)
