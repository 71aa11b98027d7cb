-- A written member stands for its program.
use Rattle.pds_lib.specs.Stow.{main_entry}
use Rattle.pds_lib.specs.declared.member.Member.{Member}
use Rattle.linking_model.specs.Linked.{block, spread}
use Rattle.member_model.specs.Fetched.{fetched, fetched_over}
use Rattle.member_model.specs.Written.{member_written}
use Rattle.member_laws.specs.Stands.{StandsPlaced}
use Rattle.member_laws.specs.Storing.{LoadsAt}
use Rattle.member_laws.proofs.Members.{written_members_stand}
use Rattle.run_laws.specs.Standing.{WrittenMembersStandForPrograms}
use Rattle.run_laws.specs.Starts.{Starts}
use Rattle.run_laws.proofs.BlockRuns.{runs_go_alike}
use Rattle.run_laws.proofs.ScatteredRuns.{scattered_runs_go_alike}
use Rattle.run_laws.proofs.StartedMembers.{grown_members_start}

pub written_members_stand_for_programs : WrittenMembersStandForPrograms
written_members_stand_for_programs P scatter n who link grown runs format named few =
    let stands : StandsPlaced P scatter who m = written_members_stand P scatter n who link format named in
    record {
      good = stands.good;
      name = stands.name;
      aliases = stands.aliases;
      length = stands.length;
      overlay_bit = stands.overlay_bit;
      scatter_bit = stands.scatter_bit;
      in_block = λ at origin.
          let loads : LoadsAt P who m (block P at) (λ e. fetched e m.records at) = stands.loads.in_block at origin in
          record {
            storage = loads.storage;
            entries = loads.entries;
            starts = started.together at;
            runs = λ events are. runs_go_alike P scatter n who at events link runs format few origin;
          };
      over_areas = λ scatters plain areas ordered addresses placed.
          let loads : LoadsAt P who m (spread addresses) (λ e. fetched_over e m.records addresses) =
          stands.loads.over_areas scatters plain areas ordered addresses placed in
          record {
            storage = loads.storage;
            entries = loads.entries;
            starts = started.apart plain addresses;
            runs = λ events are. scattered_runs_go_alike P scatter n who areas addresses events link runs format plain ordered placed;
          };
    }
  where
    m : Member
    m = member_written P scatter n who

    started : Starts P scatter n (main_entry m)
    started = (grown_members_start P scatter n who link grown format few).0
