-- What a library asks of the records and the directory data of a member that is put into it.
use Rattle.std.specs.Prelude.{ℕ, ◌^◌, ◌<◌, List, length}
use Rattle.std.specs.List.{AllByRecursion}
use Rattle.pds_lib.specs.declared.member.AliasAt.{AliasAt}
use Rattle.pds_lib.specs.declared.member.Member.{Member}

-- each record has 1 to 65,535 bytes, and three bytes hold the length and each entry point
pub record IsStowable (m : Member) : Type 0 where
  pub records : AllByRecursion (λ (r : List ℕ). (0 < length r) × (length r < 2 ^ 16)) m.records
  pub length : m.length < 2 ^ 24
  pub entry : m.entry < 2 ^ 24
  pub entries : AllByRecursion (λ (a : AliasAt). a.entry < 2 ^ 24) m.aliases
