-- The laws of programs that were merged from modules: such a program may be written as a member, and stands in it.
use Rattle.std.specs.Prelude.{◌≡◌, ℕ, ◌≤◌, Bool, List, [], All, IsTrue, None, Ok}
use Rattle.le_bytes.specs.declared.name.Name.{Name}
use Rattle.sym_mod.specs.declared.module.SymModule.{SymModule}
use Rattle.sym_mod.specs.declared.program.Program.{Program}
use Rattle.sym_mod.specs.Sound.{IsSoundModule, IsSoundProgram}
use Rattle.linking_model.specs.Kept.{Read}
use Rattle.linking_model.specs.Merged.{program_of}
use Rattle.linking_model.specs.Tree.{Tree, IsTree, IsSmall, plain}
use Rattle.linking_model.specs.Settled.{Inserts, settled, has_root_section}
use Rattle.linking_model.specs.Places.{Laid, module_length}
use Rattle.linking_model.specs.Points.{registers_end, default_point}
use Rattle.linking_model.specs.Tables.{laid_out, crowded}
use Rattle.load_recs.specs.Records.{most_text}
use Rattle.member_model.specs.StandsFor.{AreBytes}
use Rattle.member_model.specs.Written.{Naming, member_written}
use Rattle.esd_merge.specs.Added.{IsMerged}
use Rattle.deck_steps.specs.Answers.{IsInRoot}
use Rattle.deck_steps.specs.Decks.{decks_of}
use Rattle.addr_assign.specs.Laid.{are_in_tree}
use Rattle.block_storage.specs.Storage.{alone}
use Rattle.member_laws.specs.Linkable.{HasEightBytes, IsLinkable, LiesInRoot}
use Rattle.member_laws.specs.Stands.{StandsPlaced}
use Rattle.deck_laws.specs.Whole.{LiesInText, IsWholeRead}

-- ---- modules

-- a sound module has each label in an item that has text
abbrev pub SoundLabelsLieInText : Type 0
SoundLabelsLieInText = (m : SymModule) → IsSoundModule m → All (λ x. LiesInText m.items x x.kind) m.items

-- whole modules that came in the root
pub record AreWholeInRoot (rs : List Read) : Type 0 where
  pub whole : All IsWholeRead rs
  pub root : All IsInRoot rs

-- the decks of a primary input give such modules
abbrev pub DecksGiveWholeModules : Type 0
DecksGiveWholeModules = (cards : List ℕ) (rs : List Read) → decks_of cards ≡ Ok rs → AreWholeInRoot rs

-- and, where the cards are bytes, modules that are sound and merge
abbrev pub DecksGiveSoundModules : Type 0
DecksGiveSoundModules = (cards : List ℕ) (rs : List Read) → AreBytes cards → decks_of cards ≡ Ok rs → IsMerged rs

-- ---- programs in a tree of segments

-- a sound program in a small tree, with few entries in each table, that passes no limit of a load module
pub record PassesNoLimit (P : Laid) : Type 0 where
  pub sound : IsSoundProgram P.program
  pub tree : IsTree P.tree
  pub small : IsSmall P.tree
  pub in_tree : IsTrue (are_in_tree P.tree P.program)
  pub few_entries : crowded P ≡ None
  pub registers : registers_end 0 P.program.registers ≤ 16777215
  pub short : module_length P ≤ 4194304

-- a program of whole modules may be written as a member, wherever its sections are settled
abbrev pub SettledProgramsAreLinkable : Type 0
SettledProgramsAreLinkable =
    (tree : Tree) (inserts : Inserts) (rs : List Read) → All IsWholeRead rs
    → PassesNoLimit (laid_out (settled tree inserts (program_of rs)) tree)
    → IsLinkable (laid_out (settled tree inserts (program_of rs)) tree)

-- ---- programs in the root alone

-- the program of modules in one segment, without INSERT
abbrev pub root_program : List Read → Program
root_program rs = settled plain.tree [] (program_of rs)

-- a program that has a section in the root and passes no limit of a load module
pub record FitsAlone (p : Program) : Type 0 where
  pub root : IsTrue (has_root_section p)
  pub registers : registers_end 0 p.registers ≤ 16777215
  pub short : module_length (alone p) ≤ 4194304

-- a program of whole modules that came in the root may be written as a member
abbrev pub RootProgramsAreLinkable : Type 0
RootProgramsAreLinkable =
    (rs : List Read) → AreWholeInRoot rs → IsSoundProgram (root_program rs) → FitsAlone (root_program rs)
    → IsLinkable (alone (root_program rs))

-- and so may the program of any decks
abbrev pub DeckProgramsAreLinkable : Type 0
DeckProgramsAreLinkable =
    (cards : List ℕ) (rs : List Read) → AreBytes cards → decks_of cards ≡ Ok rs → FitsAlone (root_program rs)
    → IsLinkable (alone (root_program rs))

-- ---- members

-- a program with a section in the root is entered in the root
abbrev pub DefaultPointsLieInRoot : Type 0
DefaultPointsLieInRoot =
    (P : Laid) → IsSoundProgram P.program → IsTrue (has_root_section P.program) → LiesInRoot P (default_point P.program)

-- a name, with the entry point of a program without ENTRY, and no alias
abbrev pub named_alone : Name → Program → Naming
named_alone name p = record { name = name; point = default_point p; aliases = [] }

-- the program stands in the member that is written for it, with or without scatter, with text in pieces of n bytes
abbrev pub StandsAlone : Program → Name → Bool → ℕ → Type 0
StandsAlone p name scatter n =
    StandsPlaced (alone p) scatter (named_alone name p) (member_written (alone p) scatter n (named_alone name p))

-- the program of whole modules that came in the root does, under any name of eight bytes
abbrev pub RootProgramsStand : Type 0
RootProgramsStand =
    (rs : List Read) (name : Name) (scatter : Bool) (n : ℕ) → AreWholeInRoot rs → IsSoundProgram (root_program rs)
    → FitsAlone (root_program rs) → HasEightBytes name → 1 ≤ n → n ≤ most_text
    → StandsAlone (root_program rs) name scatter n

-- and so does the program of any decks
abbrev pub DeckProgramsStand : Type 0
DeckProgramsStand =
    (cards : List ℕ) (rs : List Read) (name : Name) (scatter : Bool) (n : ℕ) → AreBytes cards → decks_of cards ≡ Ok rs
    → FitsAlone (root_program rs) → HasEightBytes name → 1 ≤ n → n ≤ most_text
    → StandsAlone (root_program rs) name scatter n
