-- What is printed of a load module that was fetched from the library into which it went, said of its program.
use Rattle.std.specs.Prelude.{◌≡◌, ℕ, if◌then◌else◌, List, ◌++◌, Result, Ok, Err}
use Rattle.le_bytes.specs.declared.refusal.Refusal.{Refusal}
use Rattle.le_bytes.specs.declared.refusal.Refusal.TheVariants.{Place}
use Rattle.le_bytes.specs.declared.record_what.PlaceWhat.TheVariants.{BadOrigin}
use Rattle.map_list.specs.Lines.{entry_line}
use Rattle.map_list.specs.Dumps.{dump_text}
use Rattle.sym_mod.specs.declared.program.Program.{Program}
use Rattle.linking_model.specs.Places.{module_length}
use Rattle.pds_lib.specs.Contents.{Contents}
use Rattle.member_model.specs.Placing.{is_origin}
use Rattle.member_laws.specs.Stands.{StandsPlaced}
use Rattle.block_storage.specs.Storage.{alone, storage}
use Rattle.link_core.specs.declared.linked.Linked.{Linked}
use Rattle.link_core.specs.declared.options.Options.{Options}
use Rattle.link_core.specs.Programs.{entry_address}
use Rattle.link_core.specs.Modules.{naming}
use Rattle.command_link.specs.Link.{with_module}
use Rattle.command_fetch.specs.Fetch.{member_text}

-- where the program is entered and its linked bytes, with the module at the origin, or that it may not stand there
abbrev pub program_text : Program → ℕ → Result (List ℕ) Refusal
program_text p origin =
    if is_origin (module_length (alone p)) origin
    then Ok (entry_line (entry_address p origin) ++ dump_text origin (storage (alone p) origin))
    else Err (Place BadOrigin)

-- a load module in which its program stands, stowed and then fetched from that library, prints as the program
abbrev pub StowedModulesPrintPrograms : Type 0
StowedModulesPrintPrograms =
    (lib after : Contents) (o : Options) (p : Program) (x : Linked) (origin : ℕ)
    → StandsPlaced (alone p) o.sctr (naming o.member p) x.member → with_module lib x ≡ Ok after
    → member_text after x.member.name origin ≡ program_text p origin
