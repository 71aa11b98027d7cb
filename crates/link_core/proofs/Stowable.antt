-- A member that a linked program is written as may be stowed.
use Rattle.std.proofs.Common.{◌≡◌, Bool, false, ◌||◌, refl, sym, subst}
use Rattle.le_bytes.specs.Names.{name_eq}
use Rattle.sym_mod.specs.declared.program.Program.{Program}
use Rattle.pds_directory.specs.declared.kinds.LibKind.TheVariants.{Modules}
use Rattle.pds_lib.specs.declared.member.Member.{Member}
use Rattle.pds_lib.specs.Contents.{Contents}
use Rattle.pds_lib.specs.Stow.{MayStow, is_named, last_name}
use Rattle.member_model.specs.Written.{member_written}
use Rattle.block_storage.specs.Storage.{alone}
use Rattle.mod_write.specs.Stowable.{IsStowable as CanBeStowed}
use Rattle.link_core.specs.declared.options.Options.{Options}
use Rattle.link_core.specs.Modules.{naming, piece_of}

-- the member of the program under these options
abbrev pub member_of : Options → Program → Member
member_of o p = member_written (alone p) o.sctr (piece_of o.version) (naming o.member p)

or_false : (b : Bool) → b ≡ false → (b || false) ≡ false
or_false b is = rw is refl

pub may_stow : (o : Options) (p : Program) (m : Member) → m ≡ member_of o p → CanBeStowed m → name_eq last_name o.member ≡ false
    → (lib : Contents) → lib.kind ≡ Modules → MayStow lib m
may_stow o p m is stowable name lib kind = record {
  kind = kind;
  records = stowable.records;
  not_last = subst (λ x. is_named x last_name ≡ false) (sym is) (or_false (name_eq last_name o.member) name);
  length = stowable.length;
  entry = stowable.entry;
  entries = stowable.entries;
}
