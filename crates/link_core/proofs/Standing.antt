-- The load modules stand for the program of the cards.
use Rattle.std.proofs.Common.{arith, ◌≡◌, ℕ, ◌≤◌, Bool, List, [], ◌∷◌, All, IfOk, Option, Some, None, Result, Ok, Err, refl, sym, ◌∙◌, ap, subst}
use Rattle.std.proofs.lemmas.List.Elements.{All-nil, All-cons}
use Rattle.le_bytes.specs.declared.refusal.Refusal.{Refusal}
use Rattle.load_recs.specs.Records.{most_text}
use Rattle.sym_mod.specs.Sound.{IsSoundProgram}
use Rattle.sym_mod.specs.declared.program.Program.{Program}
use Rattle.linking_model.specs.Kept.{Read}
use Rattle.pds_directory.specs.declared.kinds.Version.{Version}
use Rattle.pds_directory.specs.declared.kinds.Version.TheVariants.{One, Two}
use Rattle.deck_steps.specs.Decks.{decks_of}
use Rattle.deck_steps.specs.declared.fault.DeckFault.{DeckFault}
use Rattle.member_laws.specs.Linkable.{HasEightBytes}
use Rattle.deck_laws.specs.Laws.{AreWholeInRoot, FitsAlone, StandsAlone}
use Rattle.deck_laws.proofs.Standing.{decks_whole, root_stand}
use Rattle.link_core.specs.declared.linked.Linked.{Linked}
use Rattle.link_core.specs.declared.linked.LinkFault.{LinkFault}
use Rattle.link_core.specs.declared.options.Options.{Options}
use Rattle.link_core.specs.declared.program.LinkedProgram.{LinkedProgram}
use Rattle.link_core.specs.declared.program.ProgramFault.{ProgramFault}
use Rattle.link_core.specs.Programs.{root_program, link_refusal, deck_fault, unless_refused, program_of_decks, program_of_cards}
use Rattle.link_core.specs.Links.{IsLinked}
use Rattle.link_core.specs.Modules.{piece_of, linked_module, Stands}
use Rattle.link_core.specs.Linking.{LinkedModules, linking_of, LinksAs, StandFor}

piece_some : (v : Version) → 1 ≤ piece_of v
piece_some One = omega arith
piece_some Two = omega arith

piece_most : (v : Version) → piece_of v ≤ most_text
piece_most One = omega arith
piece_most Two = omega arith

-- what is not refused is the program
not_refused : (p q : Program) (r : Option Refusal) → unless_refused p r ≡ Ok q → p ≡ q
not_refused p q None is = cc
not_refused p q (Some refusal) is = cc

no_program : (fault : ProgramFault) (p : Program) → Err fault ≡ Ok p → ⊥
no_program fault p is = cc

one_of : (x : Linked) (xs : List Linked) → LinkedModules (x ∷ []) ≡ LinkedModules xs → x ∷ [] ≡ xs
one_of x xs is = cc

stands : (o : Options) (rs : List Read) (x : LinkedProgram) → AreWholeInRoot rs → root_program rs ≡ x.program → IsLinked x → HasEightBytes o.member
    → Stands o x.program (linked_module o x.program)
unfolding linked_module
stands o rs x whole is linked name =
    let sound : IsSoundProgram (root_program rs) = subst IsSoundProgram (sym is) linked.rooted.sound in
    let fits : FitsAlone (root_program rs) =
    subst FitsAlone (sym is) (record { root = linked.rooted.root; registers = linked.placed.registers; short = linked.placed.short }) in
    subst (λ p. StandsAlone p o.member o.sctr (piece_of o.version)) is
    (root_stand rs o.member o.sctr (piece_of o.version) whole sound fits name (piece_some o.version) (piece_most o.version))

module _ (o : Options) (cards : List ℕ) (may : Bool) (x : LinkedProgram) (is : program_of_cards cards may ≡ Ok x.program) (linked : IsLinked x) where
  program_stands : (d : Result (List Read) DeckFault) → decks_of cards ≡ d → HasEightBytes o.member → Stands o x.program (linked_module o x.program)
  program_stands (Err fault) at name = absurd (no_program (deck_fault fault) x.program (sym (ap (program_of_decks may) at) ∙ is))
  program_stands (Ok rs) at name =
      stands o rs x (decks_whole cards rs at)
      (not_refused (root_program rs) x.program (link_refusal (root_program rs) may) (sym (ap (program_of_decks may) at) ∙ is)) linked name

  modules_stand : (modules : List Linked) → HasEightBytes o.member → linking_of o (Ok x.program) ≡ LinkedModules modules
      → StandFor o (program_of_cards cards may) modules
  modules_stand modules name gives =
      subst (λ r. StandFor o r modules) (sym is)
      (subst (All (Stands o x.program)) (one_of (linked_module o x.program) modules gives)
      (All-cons (Stands o x.program) (linked_module o x.program) [] (program_stands (decks_of cards) refl name) (All-nil (Stands o x.program))))

  -- whatever the answer is
  pub all_stand : (r : Result (List Linked) LinkFault) → IfOk r (λ modules. HasEightBytes o.member) → LinksAs (linking_of o (Ok x.program)) r
      → IfOk r (StandFor o (program_of_cards cards may))
  all_stand (Ok modules) name gives = modules_stand modules name gives
  all_stand (Err fault) name gives = tt
