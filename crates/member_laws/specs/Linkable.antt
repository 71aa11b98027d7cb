-- Programs that are written as members: what linking gives, within the limits of a load module (this project's
-- profile); and the names and entry points that such a member may have.
use Rattle.std.specs.Prelude.{◌≡◌, ℕ, ◌≤◌, Bool, true, false, List, length, map, All, slice_get, IsSomeAnd, ⊤}
use Rattle.le_bytes.specs.declared.name.Name.{Name}
use Rattle.sym_mod.specs.Sound.{IsSoundProgram}
use Rattle.sym_mod.specs.declared.program.Program.{Program}
use Rattle.sym_mod.specs.declared.program.Section.{Section}
use Rattle.sym_mod.specs.declared.program.SecKind.{SecKind}
use Rattle.sym_mod.specs.declared.program.SecKind.TheVariants.{Cm}
use Rattle.linking_model.specs.Tree.{Tree, IsTree, IsSmall, segments}
use Rattle.linking_model.specs.Places.{Laid, is_overlay, module_length}
use Rattle.linking_model.specs.Points.{Point, registers_end}
use Rattle.linking_model.specs.Tables.{entries}
use Rattle.load_recs.specs.Records.{most_text}
use Rattle.member_model.specs.Written.{Naming}

-- the name is of eight bytes
abbrev pub HasEightBytes : Name → Type 0
HasEightBytes name = length name.0 ≡ 8

-- all names of the program are
pub record HasWholeNames (p : Program) : Type 0 where
  pub sections : All (λ x. HasEightBytes x.name) p.sections
  pub labels : All (λ x. HasEightBytes x.name) p.labels
  pub unresolved : All (λ x. HasEightBytes x.name) p.unresolved
  pub registers : All (λ x. HasEightBytes x.name) p.registers

-- the section stands in a segment of the tree
pub record StandsInTree (tree : Tree) (x : Section) : Type 0 where
  pub first : 1 ≤ x.segment
  pub last : x.segment ≤ length tree

-- a section of this kind has text
abbrev pub HasText : SecKind → Type 0
HasText Cm = ⊥
HasText _ = ⊤

-- a sound program in a small tree, with the tables that its calls ask for, each label in a section that has text, and
-- all counts and addresses within the limits
pub record IsLinkable (P : Laid) : Type 0 where
  pub sound : IsSoundProgram P.program
  pub whole_names : HasWholeNames P.program
  pub tree : IsTree P.tree
  pub small : IsSmall P.tree
  pub in_tree : All (StandsInTree P.tree) P.program.sections
  pub labels_in_text : All (λ x. IsSomeAnd (slice_get P.program.sections x.section) (λ y. HasText y.kind)) P.program.labels
  pub entries : P.entries ≡ map (entries P.program P.tree) (segments P.tree)
  pub few_entries : All (λ x. length x ≤ 340) P.entries
  pub module_fits : module_length P ≤ 4194304
  pub registers_fit : registers_end 0 P.program.registers ≤ 16777215

-- how a program may be written: scattered only without overlay, with text in pieces of 1 to 13,030 bytes
pub record IsFormat (P : Laid) (scatter : Bool) (n : ℕ) : Type 0 where
  pub scatter_alone : scatter ≡ true → is_overlay P.tree ≡ false
  pub some : 1 ≤ n
  pub most : n ≤ most_text

-- the point is in a section of the root, or at its end
abbrev pub LiesInRoot : Laid → Point → Type 0
LiesInRoot P x =
    IsSomeAnd (slice_get P.program.sections x.section) (λ y. (y.segment ≡ 1) × (x.offset ≤ y.length))

-- names of eight bytes, each with an entry point in the root
pub record IsNamedFor (P : Laid) (who : Naming) : Type 0 where
  pub name : HasEightBytes who.name
  pub point : LiesInRoot P who.point
  pub aliases : All (λ (x : Name × Point). HasEightBytes x.0 × LiesInRoot P x.1) who.aliases
