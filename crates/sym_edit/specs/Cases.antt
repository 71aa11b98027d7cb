-- Worked cases: a module with two sections that refer to each other, and what edits make of it (this project's
-- profile).
use Rattle.std.specs.Prelude.{ℕ, false, true, List, [], ◌∷◌, replicate}
use Rattle.le_bytes.specs.declared.name.Name.{Name}
use Rattle.sym_mod.specs.declared.module.Kind.TheVariants.{Address, Branch, Displacement}
use Rattle.sym_mod.specs.declared.module.Item.{Item}
use Rattle.sym_mod.specs.declared.module.ItemKind.{ItemKind}
use Rattle.sym_mod.specs.declared.module.ItemKind.TheVariants.{Sd, Cm, Label, Er, Register}
use Rattle.sym_mod.specs.declared.module.SymConst.{SymConst}
use Rattle.sym_mod.specs.declared.module.SymTerm.{SymTerm}
use Rattle.sym_mod.specs.declared.module.SymTarget.{SymTarget}
use Rattle.sym_mod.specs.declared.module.SymTarget.TheVariants.{Own, Named, Register as NamedRegister}
use Rattle.sym_mod.specs.declared.module.SymEntry.{SymEntry}
use Rattle.sym_mod.specs.declared.module.SymEntry.TheVariants.{None as NoEntry}
use Rattle.sym_mod.specs.declared.module.SymModule.{SymModule}

-- ---- names

-- MAIN
abbrev pub main_name : Name
main_name = record { 0 = 212 ∷ 193 ∷ 201 ∷ 213 ∷ replicate 4 64 }

-- SUB
abbrev pub sub_name : Name
sub_name = record { 0 = 226 ∷ 228 ∷ 194 ∷ replicate 5 64 }

-- NEW
abbrev pub new_name : Name
new_name = record { 0 = 213 ∷ 197 ∷ 230 ∷ replicate 5 64 }

-- E, a label of SUB
abbrev pub e_name : Name
e_name = record { 0 = 197 ∷ replicate 7 64 }

-- L, a label of MAIN
abbrev pub l_name : Name
l_name = record { 0 = 211 ∷ replicate 7 64 }

-- X, which stands elsewhere
abbrev pub x_name : Name
x_name = record { 0 = 231 ∷ replicate 7 64 }

-- ---- the parts of a module

-- an item that is no register
abbrev pub item : Name → ItemKind → ℕ → ℕ → ℕ → Item
item name kind base length owner =
    record { name = name; kind = kind; base = base; length = length; owner = owner; align = 0 }

-- a register of four bytes
abbrev pub register : Name → Item
register name = record { name = name; kind = Register; base = 0; length = 4; owner = 0; align = 4 }

-- a term that is added
abbrev pub plus : SymTarget → ℕ → SymTerm
plus target base = record { minus = false; target = target; base = base }

-- a term that is taken off
abbrev pub minus : SymTarget → ℕ → SymTerm
minus target base = record { minus = true; target = target; base = base }

-- ---- the module: SUB, then MAIN, which has the difference of E and SUB, a call of X and a register's displacement

-- MAIN and its label, where MAIN has this number, the reference to X, and the register SUB
abbrev pub main_items : ℕ → List Item
main_items n = item main_name Sd 8 16 0 ∷ item l_name Label 12 0 n ∷ item x_name Er 0 0 0 ∷ register sub_name ∷ []

-- the constant of SUB
abbrev pub sub_constant : SymConst
sub_constant = record { item = 0; offset = 0; length = 4; kind = Address; terms = plus (Own 3) 12 ∷ [] }

-- those of MAIN, where it and X have these numbers
abbrev pub main_constants : ℕ → SymTarget → SymTarget → SymTarget → List SymConst
main_constants n sub e x =
    record { item = n; offset = 0; length = 4; kind = Address; terms = plus e 4 ∷ minus sub 0 ∷ [] }
    ∷ record { item = n; offset = 4; length = 4; kind = Branch; terms = plus x 0 ∷ [] }
    ∷ record { item = n; offset = 8; length = 4; kind = Displacement; terms = plus (NamedRegister sub_name) 0 ∷ [] }
    ∷ []

abbrev pub module_at : SymEntry → SymModule
module_at entry = record {
  items = item sub_name Sd 0 8 0 ∷ item e_name Label 4 0 0 ∷ main_items 2;
  fragments = record { item = 0; offset = 4; bytes = 7 ∷ [] } ∷ record { item = 2; offset = 12; bytes = 8 ∷ [] } ∷ [];
  constants = sub_constant ∷ main_constants 2 (Own 0) (Own 1) (Own 4);
  entry = entry;
}

-- the same without SUB, where MAIN refers to it by this name
abbrev pub without_sub : Name → SymEntry → SymModule
without_sub name entry = record {
  items = main_items 0;
  fragments = record { item = 0; offset = 12; bytes = 8 ∷ [] } ∷ [];
  constants = main_constants 0 (Named name) (Named e_name) (Own 2);
  entry = entry;
}

-- the same where SUB has another name
abbrev pub with_sub_as : Name → SymEntry → SymModule
with_sub_as name entry =
    record (module_at entry) { items = item name Sd 0 8 0 ∷ item e_name Label 4 0 0 ∷ main_items 2 }

-- MAIN, in which SUB is a label
abbrev pub label_at : SymEntry → SymModule
label_at entry = record {
  items = item main_name Sd 0 8 0 ∷ item sub_name Label 4 0 0 ∷ [];
  fragments = [];
  constants = record { item = 0; offset = 0; length = 4; kind = Address; terms = plus (Own 1) 4 ∷ [] } ∷ [];
  entry = entry;
}

-- the same without the label, to which it refers by this name
abbrev pub without_label : Name → SymEntry → SymModule
without_label name entry = record {
  items = item main_name Sd 0 8 0 ∷ [];
  fragments = [];
  constants = record { item = 0; offset = 0; length = 4; kind = Address; terms = plus (Named name) 4 ∷ [] } ∷ [];
  entry = entry;
}

-- two areas of one name
abbrev pub two_of_a_name : SymModule
two_of_a_name = record {
  items = item sub_name Cm 0 8 0 ∷ item sub_name Cm 0 4 0 ∷ [];
  fragments = [];
  constants = [];
  entry = NoEntry;
}
