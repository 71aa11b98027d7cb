-- What is put is read again as the library with the member of the program.
use Rattle.std.proofs.Common.{◌≡◌, ℕ, List, [], ◌∷◌, refl, sym, ◌∙◌, ap, subst, Option, Some, None, Result, Ok, Err}
use Rattle.std.specs.Prelude.{IfSome, IsOkAnd}
use Rattle.le_bytes.specs.declared.refusal.Refusal.{Refusal}
use Rattle.le_io.specs.Counts.{Files}
use Rattle.command_words.specs.declared.command.Command.{Command}
use Rattle.command_words.specs.declared.command.Command.TheVariants.{Go, Link}
use Rattle.command_words.specs.Meaning.{command_of}
use Rattle.sym_mod.specs.declared.program.Program.{Program}
use Rattle.pds_lib.specs.declared.set.Set.{Set}
use Rattle.pds_lib.specs.Contents.{Contents}
use Rattle.pds_lib.specs.Grammar.{library_of}
use Rattle.link_core.specs.declared.linked.Linked.{Linked}
use Rattle.link_core.specs.declared.linked.LinkFault.TheVariants as fault
use Rattle.link_core.specs.declared.options.Options.{Options}
use Rattle.link_core.specs.declared.program.ProgramFault.{ProgramFault}
use Rattle.link_core.specs.Programs.{program_of_cards}
use Rattle.link_core.specs.Modules.{may_be_unresolved}
use Rattle.link_core.specs.Linking.{Linking, LinkedModules, LinksAs, Refuses, StatementAt, linking, linking_of}
use Rattle.link_core.specs.Sets.{primary_cards}
use Rattle.command_sets.specs.declared.answer.Answer.{Answer}
use Rattle.command_sets.specs.declared.answer.Put.{Put}
use Rattle.linkedit_top.specs.Again.{PutsAgain}
use Rattle.command_link.specs.Stowing.{PutsStowed}
use Rattle.command_link.specs.Link.{linking_options, stowed_for, stowed_linking, stowed_of, with_modules}
use Rattle.command_sets.specs.Libraries.{output_in}
use Rattle.command_sets.specs.Sets.{made_version, new_version, sets_of, cards_at, library_at}
use Rattle.linkedit_top.specs.Headline.{AreLinked, IsPromised, IsReadAgain, LinksAsPromised, PutsProgram, library_with, module_for, program_at}
use Rattle.linkedit_top.proofs.Headline.{made_so, of_files, one_module}

module _ (words : List (List ℕ)) (lib : Contents) (a : Answer) where
  by_stow : (p : Program) (put : Put) (s : Result Contents Refusal) → a.put ≡ Some put → library_with words lib p ≡ s → IsOkAnd s (PutsProgram words lib put p)
      → PutsStowed (stowed_of (module_for words lib p ∷ []) (with_modules lib (module_for words lib p ∷ []))) a → IsOkAnd s (λ after. library_of put.image ≡ Ok after)
  by_stow p put (Err refusal) at is puts again = puts
  by_stow p put (Ok after) at is puts again =
      subst (λ o. IfSome o (λ put. library_of put.image ≡ Ok after)) at
      (subst (λ r. PutsStowed (stowed_of (module_for words lib p ∷ []) r) a) (one_module lib (module_for words lib p) ∙ is) again)

  by_put : (r : Result Program ProgramFault) (o : Option Put) → a.put ≡ o → IfSome o (λ put. AreLinked words lib r (PutsProgram words lib put))
      → PutsStowed (stowed_linking lib (linking_of (linking_options words lib.version) r)) a → IfSome o (λ put. AreLinked words lib r (λ p after. library_of put.image ≡ Ok after))
  by_put r None at puts again = tt
  by_put (Err fault) (Some put) at puts again = absurd puts
  by_put (Ok p) (Some put) at puts again = by_stow p put (library_with words lib p) at refl puts again

-- nothing is put
pub none_again : (words : List (List ℕ)) (files : Files) (a : Answer) → a.put ≡ None → IsReadAgain words files a
none_again words files a none =
    subst (λ o. IfSome o (λ put. AreLinked words (library_at words files) (program_at words files) (λ p after. library_of put.image ≡ Ok after))) (sym none) tt

-- what is put for the library and the cards of sets, or of files
abbrev PutsFor : List (List ℕ) → Answer → Contents → List ℕ → Type 0
PutsFor words a lib cards =
    let o = linking_options words lib.version in
    PutsStowed (stowed_linking lib (linking_of o (program_of_cards cards (may_be_unresolved o)))) a

module _ (words : List (List ℕ)) (files : Files) (sets : List Set) (a : Answer) (is : sets_of words files ≡ Ok sets) where
  linked_again : made_version words ≡ Some (new_version words) → IfSome a.put (λ put. AreLinked words (library_at words files) (program_at words files) (PutsProgram words (library_at words files) put))
      → PutsStowed (stowed_for words sets) a → IsReadAgain words files a
  unfolding linking stowed_for
  linked_again made puts again =
      by_put words (library_at words files) a (program_at words files) a.put refl puts (of_files (PutsFor words a) words files sets is made again)

  command_again : (command : Command) → command_of words ≡ Some command → IsPromised (Some command) words files a → PutsAgain command words sets a → IsReadAgain words files a
  command_again Link named promised again = linked_again (made_so Link words named refl) promised.puts again
  command_again Go named promised again = linked_again (made_so Go words named refl) promised.puts again
  command_again _ named promised again = none_again words files a promised

-- the answer for sets that were read
pub sets_again : (words : List (List ℕ)) (files : Files) (sets : List Set) (command : Command) (a : Answer) → Ok sets ≡ sets_of words files → command_of words ≡ Some command
    → LinksAsPromised words files a → PutsAgain command words sets a → IsReadAgain words files a
sets_again words files sets command a is named promised again =
    command_again words files sets a (sym is) command named (subst (λ c. IsPromised c words files a) named promised) again
