-- A linked program as a load module: the member that it is written as, and the lines that are printed for it.
use Rattle.std.specs.Prelude.{◌≡◌, ℕ, Bool, false, ◌||◌, if◌then◌else◌, true, List, [], ◌++◌, map, filter, flat_map}
use Rattle.le_bytes.specs.declared.name.Name.{Name}
use Rattle.map_list.specs.Lines.{linked_line, unresolved_line}
use Rattle.sym_mod.specs.declared.program.Program.{Program}
use Rattle.sym_mod.specs.declared.program.Unknown.{Unknown}
use Rattle.linking_model.specs.Places.{module_length}
use Rattle.linking_model.specs.Points.{default_point}
use Rattle.pds_directory.specs.declared.kinds.LibKind.TheVariants.{Modules}
use Rattle.pds_directory.specs.declared.kinds.Version.{Version}
use Rattle.pds_directory.specs.declared.kinds.Version.TheVariants.{One, Two}
use Rattle.pds_lib.specs.Contents.{Contents}
use Rattle.pds_lib.specs.Stow.{MayStow}
use Rattle.member_model.specs.Written.{Naming, member_written}
use Rattle.block_storage.specs.Storage.{alone}
use Rattle.member_laws.specs.Stands.{StandsPlaced}
use Rattle.link_core.specs.declared.linked.Linked.{Linked}
use Rattle.link_core.specs.declared.options.Options.{Options}
use Rattle.link_core.specs.Programs.{entry_address, is_wanting}

-- ---- the member

-- the greatest length of a text record in a library of this version
abbrev pub piece_of : Version → ℕ
piece_of One = 1024
piece_of Two = 13030

-- a name and the entry point of the program, and no aliases
abbrev pub naming : Name → Program → Naming
naming name p = record { name = name; point = default_point p; aliases = [] }

-- ---- what is printed

-- a name that has to be resolved has a line, and a weak one has none
abbrev pub name_line : Unknown → List ℕ
name_line x = if x.weak then [] else unresolved_line x.name

-- the module by its name: its length, its entry point and what is unresolved
unfoldable pub listing : Name → Program → List ℕ
listing name p =
    linked_line name (module_length (alone p)) (entry_address p 0) ++ flat_map name_line p.unresolved

-- ---- the load module

-- LET and NCAL give leave for unresolved names
abbrev pub may_be_unresolved : Options → Bool
may_be_unresolved o = o.let_on || o.ncal

-- the names that have to be resolved and are not, in order of first appearance
abbrev pub wanting_names : Program → List Name
wanting_names p = map (λ (x : Unknown). x.name) (filter is_wanting p.unresolved)

-- no NAME statement ends it, so that it has the name of the options and replaces a member of that name
unfoldable pub linked_module : Options → Program → Linked
linked_module o p = record {
  member = member_written (alone p) o.sctr (piece_of o.version) (naming o.member p);
  replace = true;
  unresolved = wanting_names p;
  listing = listing o.member p;
}

-- the program stands in its member: that is good, has the name, the length and the attribute, and loads as the program
-- is linked
abbrev pub Stands : Options → Program → Linked → Type 0
Stands o p x = StandsPlaced (alone p) o.sctr (naming o.member p) x.member

-- the member may be stowed in every library of load modules
abbrev pub IsStowable : Linked → Type 0
IsStowable x = (lib : Contents) → lib.kind ≡ Modules → MayStow lib x.member
