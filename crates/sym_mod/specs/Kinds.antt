-- What an item or a section of some kind is.
use Rattle.std.specs.Prelude.{Bool, true, false, ◌||◌}
use Rattle.le_bytes.specs.Names.{is_blank}
use Rattle.sym_mod.specs.declared.module.Item.{Item}
use Rattle.sym_mod.specs.declared.module.ItemKind.{ItemKind}
use Rattle.sym_mod.specs.declared.module.ItemKind.TheVariants.{Sd, Pc, Cm, Label, Er, Wx, Register}
use Rattle.sym_mod.specs.declared.program.SecKind.{SecKind}
use Rattle.sym_mod.specs.declared.program.SecKind.TheVariants.{Pc as PcSection}

abbrev pub is_sd : ItemKind → Bool
is_sd Sd = true
is_sd _ = false

abbrev pub is_pc : ItemKind → Bool
is_pc Pc = true
is_pc _ = false

abbrev pub is_cm : ItemKind → Bool
is_cm Cm = true
is_cm _ = false

abbrev pub is_label : ItemKind → Bool
is_label Label = true
is_label _ = false

abbrev pub is_er : ItemKind → Bool
is_er Er = true
is_er _ = false

abbrev pub is_wx : ItemKind → Bool
is_wx Wx = true
is_wx _ = false

abbrev pub is_register : ItemKind → Bool
is_register Register = true
is_register _ = false

-- an item that may have text and constants
abbrev pub has_text : ItemKind → Bool
has_text kind = is_sd kind || is_pc kind

-- an item that is a section
abbrev pub is_section : ItemKind → Bool
is_section kind = is_sd kind || is_pc kind || is_cm kind

-- an SD without a name is a PC
abbrev pub kind_of : Item → ItemKind
kind_of x = plain_kind (is_blank x.name) x.kind
  where
    plain_kind : Bool → ItemKind → ItemKind
    plain_kind true Sd = Pc
    plain_kind _ kind = kind

-- ---- sections of a program

abbrev pub is_private : SecKind → Bool
is_private PcSection = true
is_private _ = false
