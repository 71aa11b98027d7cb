-- A written member keeps what its program has.
use Rattle.std.proofs.Common.{◌≡◌, List, [], ◌∷◌, map, refl, ap}
use Rattle.le_bytes.specs.declared.name.Name.{Name}
use Rattle.pds_lib.specs.declared.member.AliasAt.{AliasAt}
use Rattle.linking_model.specs.Places.{Laid, is_overlay}
use Rattle.linking_model.specs.Points.{Point}
use Rattle.member_model.specs.Written.{alias_of, attribute}
use Rattle.member_laws.specs.Stands.{WrittenMembersStand}
use Rattle.member_laws.proofs.Gathering.{written_records_gather}
use Rattle.member_laws.proofs.Good.{written_members_are_good}
use Rattle.member_laws.proofs.LoadingMembers.{written_members_load}
use Rattle.member_laws.proofs.SymbolsFine.{overlay-bit, scatter-bit}

alias-names : (P : Laid) (xs : List (Name × Point))
    → map (λ (a : AliasAt). a.name) (map (alias_of P) xs) ≡ map (λ (x : Name × Point). x.0) xs
alias-names P [] = refl
alias-names P ((name, x) ∷ xs) = ap (λ names. name ∷ names) (alias-names P xs)

pub written_members_stand : WrittenMembersStand
written_members_stand P scatter n who linkable format named =
    record {
      good = written_members_are_good P scatter n who linkable format named;
      name = refl;
      aliases = alias-names P who.aliases;
      length = refl;
      overlay_bit = overlay-bit (is_overlay P.tree) scatter (attribute P scatter) refl;
      scatter_bit = scatter-bit (is_overlay P.tree) scatter (attribute P scatter) refl;
      loads = written_members_load P scatter n who linkable format named (written_records_gather P scatter n linkable format);
    }
