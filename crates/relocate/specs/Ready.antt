-- What a program, its addresses, its tree and its tables keep together, so that its constants can have their numbers.
use Rattle.std.specs.Prelude.{◌≡◌, ℕ, ◌≤◌, ◌<◌, length, map, slice_index, All}
use Rattle.sym_mod.specs.Sound.{IsAddress, IsSoundProgram}
use Rattle.sym_mod.specs.declared.program.Program.{Program}
use Rattle.sym_mod.specs.declared.program.Section.{Section}
use Rattle.sym_mod.specs.declared.program.Places.{Places}
use Rattle.sym_mod.specs.declared.program.Tables.{Tables}
use Rattle.sym_mod.specs.declared.program.Target.{Target}
use Rattle.sym_mod.specs.declared.program.Target.TheVariants.{Section as InSection, Label as AtLabel}
use Rattle.linking_model.specs.Tree.{Tree, IsTree, Overlays, segments}
use Rattle.linking_model.specs.Places.{Laid}
use Rattle.linking_model.specs.Tables.{entries}
use Rattle.linking_model.specs.Linked.{offset_of_label}

-- the section stands in a segment of the tree
pub record StandsInTree (tree : Tree) (x : Section) : Type 0 where
  pub first : 1 ≤ x.segment
  pub last : x.segment ≤ length tree

-- addresses have three bytes, sections stand in segments of the tree, and the tables are those of the program,
-- with at most 340 entries each
pub record FitTogether (P : Laid) (a : Places) : Type 0 where
  pub sound : IsSoundProgram P.program
  pub tree : IsTree P.tree
  pub sections : All IsAddress a.sections
  pub tables : All IsAddress a.tables
  pub in_tree : All (StandsInTree P.tree) P.program.sections
  pub entries : P.entries ≡ map (entries P.program P.tree) (segments P.tree)
  pub few : All (λ x. length x ≤ 340) P.entries

-- addresses of sections and offsets of labels have three bytes
pub record AreSmall (p : Program) (a : Places) : Type 0 where
  pub sections : (i : ℕ) → slice_index a.sections i ≤ 16777215
  pub labels : (i : ℕ) → offset_of_label p i ≤ 16777215

-- a program with its tree and its tables
abbrev pub laid : Program → Overlays → Tables → Laid
laid p tree tables = record { program = p; tree = tree.tree; entries = tables.entries }

-- a section or a label of the program
abbrev pub IsDefinedIn : Program → Target → Type 0
IsDefinedIn p (InSection i) = i < length p.sections
IsDefinedIn p (AtLabel i) = i < length p.labels
IsDefinedIn p _ = ⊥
