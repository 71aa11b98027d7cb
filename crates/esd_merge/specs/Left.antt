-- What a name means, as it is answered, and the unresolved names that are left to yield.
use Rattle.std.specs.Prelude.{List, map, Bool, Option, Some, None}
use Rattle.le_bytes.specs.declared.name.Name.{Name}
use Rattle.sym_mod.specs.declared.program.Target.{Target}
use Rattle.sym_mod.specs.declared.program.Target.TheVariants.{Section as InSection, Label as AtLabel}
use Rattle.sym_mod.specs.declared.program.Unknown.{Unknown}
use Rattle.esd_merge.specs.declared.defined.Defined.{Defined}
use Rattle.esd_merge.specs.declared.defined.Defined.TheVariants.{Section, Label}

-- the target that a defined name means
abbrev pub target_of : Option Defined → Option Target
target_of (Some (Section i)) = Some (InSection i)
target_of (Some (Label i)) = Some (AtLabel i)
target_of None = None

-- the names, each with whether it is weak
abbrev pub name_pairs : List Unknown → List (Name × Bool)
name_pairs us = map (λ u. (u.name, u.weak)) us
