-- The name and the entry points of a member as the definitions of members speak of them.
use Rattle.std.specs.Prelude.{◌≡◌, ◌+◌, ◌-◌, ◌≤◌, map, All}
use Rattle.linking_model.specs.Places.{Laid, place, segment_of_section, length_of_section}
use Rattle.linking_model.specs.Points.{Point}
use Rattle.member_model.specs.Written.{Naming as Names}
use Rattle.mod_write.specs.declared.naming.PointAt.{PointAt}
use Rattle.mod_write.specs.declared.naming.AliasPoint.{AliasPoint}
use Rattle.mod_write.specs.declared.naming.Naming.{Naming}

-- the same point, by its offset in the section
abbrev pub seen : Laid → PointAt → Point
seen P x = record { section = x.section; offset = x.address - place P x.section }

-- the same names and points
abbrev pub named : Laid → Naming → Names
named P who = record {
  name = who.name;
  point = seen P who.point;
  aliases = map (λ (x : AliasPoint). (x.name, seen P x.point)) who.aliases;
}

-- the point lies in a section of segment 1, or at its end
pub record IsPoint (P : Laid) (x : PointAt) : Type 0 where
  pub resident : segment_of_section P.program x.section ≡ 1
  pub first : place P x.section ≤ x.address
  pub last : x.address ≤ place P x.section + length_of_section P.program x.section

-- every entry point does
pub record ArePoints (P : Laid) (who : Naming) : Type 0 where
  pub main : IsPoint P who.point
  pub aliases : All (λ (x : AliasPoint). IsPoint P x.point) who.aliases
