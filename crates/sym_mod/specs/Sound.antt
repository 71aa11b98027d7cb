-- What each module and each program keeps: the condition of every call that takes one, and what every call
-- that gives or changes one ensures. Addresses and lengths have three bytes in every format.
use Rattle.std.specs.Prelude.{◌≡◌, ◌≢◌, ℕ, ◌+◌, ◌<◌, ◌≤◌, ◌⊎◌, Bool, not, ◌&&◌, ◌||◌, ◌==◌, List, [], ◌∷◌, ◌++◌, length, map, filter, slice_get, All, AllPairs, IsTrue, IsFalse, IsSomeAnd, ⊤}
use Rattle.std.specs.List.{list_any}
use Rattle.le_bytes.specs.declared.name.Name.{Name}
use Rattle.le_bytes.specs.Names.{name_eq, is_blank}
use Rattle.sym_mod.specs.declared.module.Item.{Item}
use Rattle.sym_mod.specs.declared.module.ItemKind.{ItemKind}
use Rattle.sym_mod.specs.declared.module.ItemKind.TheVariants.{Sd, Pc, Label as LabelItem, Er, Wx, Register as RegisterItem}
use Rattle.sym_mod.specs.declared.module.Kind.{Kind}
use Rattle.sym_mod.specs.declared.module.Kind.TheVariants.{Address, Branch, Displacement, Total as TotalKind}
use Rattle.sym_mod.specs.declared.module.SymTarget.{SymTarget}
use Rattle.sym_mod.specs.declared.module.SymTarget.TheVariants.{Own, Named, Register as NamedRegister, Total as AllRegisters}
use Rattle.sym_mod.specs.declared.module.SymConst.{SymConst}
use Rattle.sym_mod.specs.declared.module.SymEntry.{SymEntry}
use Rattle.sym_mod.specs.declared.module.SymEntry.TheVariants.{None as NoEntry, At, Named as AtName}
use Rattle.sym_mod.specs.declared.module.SymModule.{SymModule}
use Rattle.sym_mod.specs.declared.program.Section.{Section}
use Rattle.sym_mod.specs.declared.program.SecKind.{SecKind}
use Rattle.sym_mod.specs.declared.program.SecKind.TheVariants.{Sd as SdSection, Pc as PcSection, Cm as CmSection}
use Rattle.sym_mod.specs.declared.program.Label.{Label}
use Rattle.sym_mod.specs.declared.program.Register.{Register}
use Rattle.sym_mod.specs.declared.program.Target.{Target}
use Rattle.sym_mod.specs.declared.program.Target.TheVariants.{Section as InSection, Label as AtLabel, Unresolved, Register as OfRegister, Total as OfAll}
use Rattle.sym_mod.specs.declared.program.Constant.{Constant}
use Rattle.sym_mod.specs.declared.program.StartAt.{StartAt}
use Rattle.sym_mod.specs.declared.program.StartAt.TheVariants.{At as StartsAt, Named as StartsAtName}
use Rattle.sym_mod.specs.declared.program.Program.{Program}
use Rattle.sym_mod.specs.Kinds.{has_text, is_section, is_register, is_private}
use Rattle.sym_mod.specs.Reserved.{is_reserved}

abbrev pub HasName : Name → Type 0
HasName name = IsFalse (is_blank name)

abbrev pub IsAddress : ℕ → Type 0
IsAddress n = n ≤ 16777215

-- a register stands at a multiple of one, two, four or eight bytes
abbrev pub IsAlignment : ℕ → Type 0
IsAlignment n = IsTrue (n == 1 || n == 2 || n == 4 || n == 8)

-- ---- items of a module

-- a label or reference has a name, a private section has none, and no section has the name of an overlay table
abbrev pub HasProperName : Name → ItemKind → Type 0
HasProperName name Sd = IsFalse (is_reserved name)
HasProperName name Pc = IsTrue (is_blank name)
HasProperName name LabelItem = HasName name
HasProperName name Er = HasName name
HasProperName name Wx = HasName name
HasProperName name _ = ⊤

abbrev pub HasProperAlignment : ℕ → ItemKind → Type 0
HasProperAlignment align RegisterItem = IsAlignment align
HasProperAlignment align _ = ⊤

-- a label stands in an SD or PC, or at its end
abbrev pub StandsInOwner : List Item → Item → ItemKind → Type 0
StandsInOwner items x LabelItem =
    IsSomeAnd (slice_get items x.owner)
    (λ owner. IsTrue (has_text owner.kind) × (owner.base ≤ x.base) × (x.base ≤ owner.base + owner.length))
StandsInOwner items x _ = ⊤

pub record IsSoundItem (items : List Item) (x : Item) : Type 0 where
  pub name : HasProperName x.name x.kind
  pub base : IsAddress x.base
  pub size : IsAddress x.length
  pub align : HasProperAlignment x.align x.kind
  pub owner : StandsInOwner items x x.kind

-- n bytes at an offset lie in an item that is an SD or PC
abbrev pub LieInItem : List Item → ℕ → ℕ → ℕ → Type 0
LieInItem items i offset n =
    IsSomeAnd (slice_get items i) (λ x. IsTrue (has_text x.kind) × (offset + n ≤ x.length))

-- ---- constants of a module

abbrev pub is_register_named : Name → Item → Bool
is_register_named name x = is_register x.kind && name_eq x.name name

-- a name, or an item that is no register
abbrev pub RefersToSymbol : List Item → SymTarget → Type 0
RefersToSymbol items (Own i) = IsSomeAnd (slice_get items i) (λ x. IsFalse (is_register x.kind))
RefersToSymbol items (Named name) = HasName name
RefersToSymbol items _ = ⊥

-- what a constant of each kind may refer to
abbrev pub FitsKind : List Item → Kind → SymTarget → Type 0
FitsKind items Address target = RefersToSymbol items target
FitsKind items Branch target = RefersToSymbol items target
FitsKind items Displacement (NamedRegister name) = IsTrue (list_any (is_register_named name) items)
FitsKind items Displacement _ = ⊥
FitsKind items TotalKind AllRegisters = ⊤
FitsKind items TotalKind _ = ⊥

-- an address has one or more terms, and any other constant one, which is added
abbrev pub HaveProperSigns : Kind → List Bool → Type 0
HaveProperSigns Address (minus ∷ more) = ⊤
HaveProperSigns Address [] = ⊥
HaveProperSigns kind (minus ∷ []) = IsFalse minus
HaveProperSigns kind _ = ⊥

pub record IsSoundConst (items : List Item) (c : SymConst) : Type 0 where
  pub not_empty : 1 ≤ c.length
  pub short : c.length ≤ 4
  pub inside : LieInItem items c.item c.offset c.length
  pub signs : HaveProperSigns c.kind (map (λ t. t.minus) c.terms)
  pub targets : All (λ t. FitsKind items c.kind t.target) c.terms
  pub bases : All (λ t. IsAddress t.base) c.terms

-- no byte is in both constants
abbrev pub AreApart : SymConst → SymConst → Type 0
AreApart c d = c.item ≡ d.item → (c.offset + c.length ≤ d.offset) ⊎ (d.offset + d.length ≤ c.offset)

-- ---- a module

abbrev pub IsSoundEntry : List Item → SymEntry → Type 0
IsSoundEntry items NoEntry = ⊤
IsSoundEntry items (At i offset) = IsSomeAnd (slice_get items i) (λ x. IsTrue (is_section x.kind) × (offset ≤ x.length))
IsSoundEntry items (AtName name) = HasName name

pub record IsSoundModule (m : SymModule) : Type 0 where
  pub items : All (IsSoundItem m.items) m.items
  pub fragments : All (λ f. LieInItem m.items f.item f.offset (length f.bytes)) m.fragments
  pub constants : All (IsSoundConst m.items) m.constants
  pub apart : AllPairs AreApart m.constants
  pub entry : IsSoundEntry m.items m.entry

-- ---- sections, labels and registers of a program

abbrev pub HasProperKind : Section → SecKind → Type 0
HasProperKind x SdSection = IsFalse (is_reserved x.name)
HasProperKind x PcSection = IsTrue (is_blank x.name)
HasProperKind x CmSection = 0 < length x.users

pub record IsSoundSection (x : Section) : Type 0 where
  pub kind : HasProperKind x x.kind
  pub size : IsAddress x.length

-- an offset in a section, or its end
abbrev pub StandsInSection : Program → ℕ → ℕ → Type 0
StandsInSection p i offset = IsSomeAnd (slice_get p.sections i) (λ x. offset ≤ x.length)

pub record IsSoundLabel (p : Program) (x : Label) : Type 0 where
  pub name : HasName x.name
  pub inside : StandsInSection p x.section x.offset

pub record IsSoundRegister (x : Register) : Type 0 where
  pub size : IsAddress x.length
  pub align : IsAlignment x.align

-- the names that mean something or are wanting: of named sections, of labels and of unresolved references
abbrev pub names_of : Program → List Name
names_of p =
    map (λ x. x.name) (filter (λ x. not (is_private x.kind)) p.sections)
    ++ map (λ x. x.name) p.labels ++ map (λ x. x.name) p.unresolved

-- ---- constants and text of a program

-- n bytes at an offset lie in a section that is an SD or PC
abbrev pub LieInSection : Program → ℕ → ℕ → ℕ → Type 0
LieInSection p i offset n =
    IsSomeAnd (slice_get p.sections i) (λ x. IsTextSection x.kind × (offset + n ≤ x.length))
  where
    IsTextSection : SecKind → Type 0
    IsTextSection CmSection = ⊥
    IsTextSection _ = ⊤

-- a section, a label or an unresolved name of the program
abbrev pub IsSymbolOf : Program → Target → Type 0
IsSymbolOf p (InSection i) = i < length p.sections
IsSymbolOf p (AtLabel i) = i < length p.labels
IsSymbolOf p (Unresolved i) = i < length p.unresolved
IsSymbolOf p _ = ⊥

abbrev pub TargetFitsKind : Program → Kind → Target → Type 0
TargetFitsKind p Address target = IsSymbolOf p target
TargetFitsKind p Branch target = IsSymbolOf p target
TargetFitsKind p Displacement (OfRegister i) = i < length p.registers
TargetFitsKind p Displacement _ = ⊥
TargetFitsKind p TotalKind OfAll = ⊤
TargetFitsKind p TotalKind _ = ⊥

pub record IsSoundConstant (p : Program) (c : Constant) : Type 0 where
  pub not_empty : 1 ≤ c.length
  pub short : c.length ≤ 4
  pub inside : LieInSection p c.section c.offset c.length
  pub signs : HaveProperSigns c.kind (map (λ t. t.minus) c.terms)
  pub targets : All (λ t. TargetFitsKind p c.kind t.target) c.terms
  pub bases : All (λ t. IsAddress t.base) c.terms

-- no byte is in both constants
abbrev pub ConstantsApart : Constant → Constant → Type 0
ConstantsApart c d = c.section ≡ d.section → (c.offset + c.length ≤ d.offset) ⊎ (d.offset + d.length ≤ c.offset)

-- ---- a program

abbrev pub IsSoundStart : Program → StartAt → Type 0
IsSoundStart p (StartsAt i offset) = StandsInSection p i offset
IsSoundStart p (StartsAtName name) = HasName name

-- a program has few enough symbols that a member can number them, two bytes each
pub record IsSoundProgram (p : Program) : Type 0 where
  pub few : length p.sections + length p.labels + length p.unresolved + length p.registers ≤ 32511
  pub sections : All IsSoundSection p.sections
  pub labels : All (IsSoundLabel p) p.labels
  pub unresolved : All (λ x. HasName x.name) p.unresolved
  pub registers : All IsSoundRegister p.registers
  pub names_differ : AllPairs (λ x y. x ≢ y) (names_of p)
  pub registers_differ : AllPairs (λ x y. x ≢ y) (map (λ r. r.name) p.registers)
  pub texts : All (λ t. LieInSection p t.section t.offset (length t.bytes)) p.texts
  pub constants : All (IsSoundConstant p) p.constants
  pub apart : AllPairs ConstantsApart p.constants
  pub starts : All (IsSoundStart p) p.starts
