-- What no fault of a member leaves of what its records hold.
use Rattle.std.specs.Prelude.{◌≡◌, ℕ, ◌+◌, ◌<◌, ◌≤◌, true, false, List, [], ◌∷◌, map, length, Option, Some, None}
use Rattle.std.specs.List.{AllByRecursion}
use Rattle.pds_directory.specs.declared.entry.Entry.{Entry}
use Rattle.load_recs.specs.declared.items.SymbolItem.{SymbolItem}
use Rattle.load_recs.specs.declared.items.SymbolKind.TheVariants.{Lr}
use Rattle.load_recs.specs.declared.items.RldItem.{RldItem}
use Rattle.load_recs.specs.declared.records.TextHead.{TextHead}
use Rattle.load_recs.specs.ItemBytes.{IsSymbol}
use Rattle.load_recs.specs.Kinds.{is_text_kind}
use Rattle.load_recs.specs.Relocations.{is_wrong_flag}
use Rattle.sym_mod.specs.Sound.{IsSoundModule}
use Rattle.member_model.specs.Symbols.{symbol_at, end_of, field_length}
use Rattle.member_model.specs.Facts.{Facts}
use Rattle.member_model.specs.Faults.{label_fault, fits, shares_wrongly}
use Rattle.member_model.specs.FirstBad.{IsGood}
use Rattle.member_model.specs.ReadBack.{module_of}

-- each element is a byte
abbrev pub AreBytes : List ℕ → Type 0
AreBytes bytes = AllByRecursion (λ b. b < 256) bytes

-- each record is bytes
abbrev pub AreRecords : List (List ℕ) → Type 0
AreRecords records = AllByRecursion AreBytes records

-- a symbol item, of which a label stands in one of these
pub record IsJudgedSymbol (symbols : List SymbolItem) (x : SymbolItem) : Type 0 where
  pub held : IsSymbol x
  pub label : x.kind ≡ Lr → label_fault x (symbol_at symbols x.length) ≡ None

-- n bytes from an address on lie in the section of a number, which has text
pub record LiesIn (symbols : List SymbolItem) (number address n : ℕ) : Type 0 where
  pub section : SymbolItem
  pub there : symbol_at symbols number ≡ Some section
  pub text : is_text_kind section.kind ≡ true
  pub from : section.address ≤ address
  pub to : address + n ≤ end_of section

pub record IsJudgedField (symbols : List SymbolItem) (x : RldItem) : Type 0 where
  pub lies : LiesIn symbols x.p x.address (field_length x)
  pub symbol : fits x (symbol_at symbols x.r) ≡ true
  pub flag : is_wrong_flag x.flag ≡ false

-- R holds of each element and each one after it
abbrev pub Pairs : {X : Type 0} → (X → X → Type 0) → List X → Type 0
Pairs R [] = Unit {0}
Pairs R (x ∷ xs) = AllByRecursion (R x) xs × Pairs R xs

-- the later of two items does not share a byte wrongly with the earlier
abbrev pub IsClear : RldItem → RldItem → Type 0
IsClear x y = shares_wrongly y x ≡ false

-- the text that is due lies in its section
abbrev pub IsJudgedDue : List SymbolItem → Option TextHead → Type 0
IsJudgedDue symbols None = Unit {0}
IsJudgedDue symbols (Some text) = LiesIn symbols text.section text.address text.length

-- the relocation items of facts
abbrev pub items_of : Facts → List RldItem
items_of F = map (λ x. x.item) F.fields

pub record IsJudged (F : Facts) : Type 0 where
  pub symbols : AllByRecursion (IsJudgedSymbol F.symbols) F.symbols
  pub texts : AllByRecursion (λ t. LiesIn F.symbols t.section t.address (length t.bytes)) F.texts
  pub due : IsJudgedDue F.symbols F.due
  pub fields : AllByRecursion (IsJudgedField F.symbols) (items_of F)
  pub clear : Pairs IsClear (items_of F)

-- the module of a good member is sound
abbrev pub GoodMembersAreSound : Type 0
GoodMembersAreSound =
    (e : Entry) (records : List (List ℕ)) → AreRecords records → IsGood e records → IsSoundModule (module_of e records)
