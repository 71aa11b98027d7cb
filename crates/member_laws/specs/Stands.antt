-- What a written member keeps of its program, wherever it is placed (this project's profile).
use Rattle.std.specs.Prelude.{◌≡◌, ℕ, Bool, List, map}
use Rattle.std.specs.List.{AllByRecursion}
use Rattle.le_bytes.specs.declared.name.Name.{Name}
use Rattle.pds_directory.specs.Attributes.{has_overlay, has_scatter}
use Rattle.pds_lib.specs.declared.member.AliasAt.{AliasAt}
use Rattle.pds_lib.specs.declared.member.Member.{Member}
use Rattle.pds_lib.specs.Stow.{entries_for}
use Rattle.linking_model.specs.Places.{Laid, is_overlay, module_length}
use Rattle.linking_model.specs.Points.{Point}
use Rattle.member_model.specs.FirstBad.{IsGood}
use Rattle.member_model.specs.Written.{Naming, member_written}
use Rattle.member_laws.specs.Linkable.{IsLinkable, IsFormat, IsNamedFor}
use Rattle.member_laws.specs.Storing.{Loads}

-- the member is good by each of its entries, has the names and the length of its program, is in overlay or scatter
-- format where it is, and loads as the program is linked; the other bits of its attribute do not count
pub record StandsPlaced (P : Laid) (scatter : Bool) (who : Naming) (m : Member) : Type 0 where
  pub good : AllByRecursion (λ e. IsGood e m.records) (entries_for m)
  pub name : m.name ≡ who.name
  pub aliases : map (λ (a : AliasAt). a.name) m.aliases ≡ map (λ (x : Name × Point). x.0) who.aliases
  pub length : m.length ≡ module_length P
  pub overlay_bit : has_overlay m.attr ≡ is_overlay P.tree
  pub scatter_bit : has_scatter m.attr ≡ scatter
  pub loads : Loads P scatter who m

-- a written member does
abbrev pub WrittenMembersStand : Type 0
WrittenMembersStand =
    (P : Laid) (scatter : Bool) (n : ℕ) (who : Naming) → IsLinkable P → IsFormat P scatter n → IsNamedFor P who
    → StandsPlaced P scatter who (member_written P scatter n who)
