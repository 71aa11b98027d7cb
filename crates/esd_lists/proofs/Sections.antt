-- A section that is kept is kept as its own symbol.
use Rattle.std.proofs.Common.{◌≡◌, Bool, true, false, cond, List, Option, Some, None}
use Rattle.std.specs.Option.{option_and_then}
use Rattle.sym_mod.specs.declared.module.ItemKind.{ItemKind}
use Rattle.sym_mod.specs.declared.module.ItemKind.TheVariants.{Sd, Pc, Cm, Label, Er, Wx, Register}
use Rattle.linking_model.specs.Kept.{Read, Sight, Symbol, ByName, is_at, kept_sd, kept_as, section_symbol_for}

abbrev pub first_or_none : Sight → Option Sight → Option Symbol
first_or_none x o = option_and_then (λ first. cond (is_at first.of_module first.number x) (Some (ByName x.item.name)) None) o

first_is : (x f : Sight) (y : Symbol) (b : Bool) → cond b (Some (ByName x.item.name)) None ≡ Some y → Some (ByName x.item.name) ≡ Some y
first_is x f y true e = e
first_is x f y false e = absurd cc

first_named : (x : Sight) (o : Option Sight) (y : Symbol) → first_or_none x o ≡ Some y → Some (ByName x.item.name) ≡ Some y
first_named x None y e = absurd cc
first_named x (Some f) y e = first_is x f y (is_at f.of_module f.number x) e

-- a section is kept as its own symbol
pub kept_as_section : (rs : List Read) (x : Sight) (kind : ItemKind) (y : Symbol) → kept_as rs x kind ≡ Some y → section_symbol_for x kind ≡ Some y
kept_as_section rs x Sd y e = first_named x (kept_sd rs x.item.name) y e
kept_as_section rs x Pc y e = e
kept_as_section rs x Cm y e = e
kept_as_section rs x Label y e = absurd cc
kept_as_section rs x Er y e = absurd cc
kept_as_section rs x Wx y e = absurd cc
kept_as_section rs x Register y e = absurd cc
