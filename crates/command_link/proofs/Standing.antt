-- The program of cards that are bytes stands in its member.
use Rattle.std.proofs.Common.{arith, ◌≡◌, ℕ, ◌≤◌, nat_lt, Bool, true, false, List, refl, subst, Option, Some, None, unwrap_or, Result, Ok, Err, if◌then◌else◌}
use Rattle.std.specs.Option.{option_or, option_and_then}
use Rattle.le_bytes.specs.declared.refusal.Refusal.{Refusal}
use Rattle.le_bytes.specs.declared.refusal.Refusal.TheVariants.{NoSection, Limit}
use Rattle.le_bytes.specs.declared.refusal.Counted.TheVariants.{Registers, ModuleLength}
use Rattle.le_bytes.specs.Names.{is_name_text, name_of_text, padded}
use Rattle.command_words.specs.Keys.{member, tempname}
use Rattle.command_words.specs.Meaning.{member_of, module_name_of}
use Rattle.command_words.specs.Word.{value_in}
use Rattle.sym_mod.specs.declared.program.Program.{Program}
use Rattle.linking_model.specs.Kept.{Read}
use Rattle.linking_model.specs.Settled.{has_root_section}
use Rattle.linking_model.specs.Places.{module_length}
use Rattle.linking_model.specs.Points.{registers_end}
use Rattle.pds_directory.specs.declared.kinds.Version.{Version}
use Rattle.pds_directory.specs.declared.kinds.Version.TheVariants.{One, Two}
use Rattle.member_model.specs.StandsFor.{AreBytes}
use Rattle.member_laws.specs.Linkable.{HasEightBytes}
use Rattle.block_storage.specs.Storage.{alone}
use Rattle.deck_steps.specs.Decks.{decks_of}
use Rattle.deck_steps.specs.declared.fault.DeckFault.{DeckFault}
use Rattle.deck_laws.specs.Laws.{FitsAlone, StandsAlone}
use Rattle.deck_laws.proofs.Standing.{decks_stand}
use Rattle.link_core.specs.declared.options.Options.{Options}
use Rattle.link_core.specs.declared.program.ProgramFault.{ProgramFault}
use Rattle.link_core.specs.Programs.{root_program, root_refusal, name_refusal, limit_refusal, link_refusal, deck_fault, unless_refused, program_of_decks, program_of_cards}
use Rattle.link_core.specs.Modules.{piece_of, linked_module, Stands}

-- ---- the name of the words

named : (b : Bool) (text : List ℕ) → HasEightBytes (unwrap_or (if b then Some (record { 0 = padded text }) else None) tempname)
named true text = refl
named false text = refl

of_value : (o : Option (List ℕ)) → HasEightBytes (unwrap_or (option_and_then name_of_text o) tempname)
of_value None = refl
of_value (Some text) = named (is_name_text text) text

-- the name that words give a load module has eight bytes
pub name_whole : (words : List (List ℕ)) → HasEightBytes (module_name_of words)
unfolding member_of
name_whole words = of_value (value_in member words)

-- ---- a program that is not refused

first_none : (a b : Option Refusal) → option_or a b ≡ None → a ≡ None
first_none (Some refusal) b none = absurd cc
first_none None b none = refl

second_none : (a b : Option Refusal) → option_or a b ≡ None → b ≡ None
second_none (Some refusal) b none = absurd cc
second_none None b none = none

has_root : (b : Bool) → (if b then None else Some NoSection) ≡ None → b ≡ true
has_root true none = refl
has_root false none = absurd cc

at_most : (limit n : ℕ) → nat_lt limit n ≡ false → n ≤ limit
at_most limit n is = grind (arith, is)

registers_fit : (a b : Bool) (m n : ℕ) → (if a then Some (Limit Registers m) else (if b then Some (Limit ModuleLength n) else None)) ≡ None → a ≡ false
registers_fit true b m n none = absurd cc
registers_fit false b m n none = refl

module_fits : (a b : Bool) (m n : ℕ) → (if a then Some (Limit Registers m) else (if b then Some (Limit ModuleLength n) else None)) ≡ None → b ≡ false
module_fits true b m n none = absurd cc
module_fits false true m n none = absurd cc
module_fits false false m n none = refl

fits : (p : Program) (may : Bool) → link_refusal p may ≡ None → FitsAlone p
unfolding link_refusal
fits p may none =
    let later : option_or (name_refusal p may) (limit_refusal p) ≡ None = second_none (root_refusal p) (option_or (name_refusal p may) (limit_refusal p)) none in
    let limits : limit_refusal p ≡ None = second_none (name_refusal p may) (limit_refusal p) later in
    let total : ℕ = registers_end 0 p.registers in
    let size : ℕ = module_length (alone p) in
    record {
      root = has_root (has_root_section p) (first_none (root_refusal p) (option_or (name_refusal p may) (limit_refusal p)) none);
      registers = at_most 16777215 total (registers_fit (nat_lt 16777215 total) (nat_lt 4194304 size) total size limits);
      short = at_most 4194304 size (module_fits (nat_lt 16777215 total) (nat_lt 4194304 size) total size limits);
    }

same_program : (p q : Program) (o : Option Refusal) → unless_refused p o ≡ Ok q → p ≡ q
same_program p q None is = cc
same_program p q (Some refusal) is = cc

not_refused : (p q : Program) (o : Option Refusal) → unless_refused p o ≡ Ok q → o ≡ None
not_refused p q None is = refl
not_refused p q (Some refusal) is = cc

no_program : (fault : ProgramFault) (p : Program) → Err fault ≡ Ok p → ⊥
no_program fault p is = cc

-- ---- its member

some : (v : Version) → 1 ≤ piece_of v
some One = omega arith
some Two = omega arith

most : (v : Version) → piece_of v ≤ 13030
most One = omega arith
most Two = omega arith

module _ (o : Options) (cards : List ℕ) (may : Bool) (p : Program) (bytes : AreBytes cards) (name : HasEightBytes o.member) where
  of_decks : (d : Result (List Read) DeckFault) → decks_of cards ≡ d → program_of_decks may d ≡ Ok p → Stands o p (linked_module o p)
  unfolding linked_module
  of_decks (Err fault) at is = absurd (no_program (deck_fault fault) p is)
  of_decks (Ok rs) at is =
      let q : Program = root_program rs in
      subst (λ x. StandsAlone x o.member o.sctr (piece_of o.version)) (same_program q p (link_refusal q may) is)
      (decks_stand cards rs o.member o.sctr (piece_of o.version) bytes at (fits q may (not_refused q p (link_refusal q may) is)) name (some o.version) (most o.version))

  pub program_stands : program_of_cards cards may ≡ Ok p → Stands o p (linked_module o p)
  program_stands is = of_decks (decks_of cards) refl is
