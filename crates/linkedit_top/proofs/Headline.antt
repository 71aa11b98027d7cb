-- What is linked, put and printed is that of the program of the cards.
use Rattle.std.proofs.Common.{arith, ◌≡◌, ℕ, ◌==◌, ◌≤◌, ◌-◌, ◌^◌, min, nat_lt, Bool, true, false, not, ◌||◌, List, [], ◌∷◌, ◌++◌, length, All, append-nil, refl, sym, ◌∙◌, ap, subst, Option, Some, None, Result, Ok, Err, if◌then◌else◌}
use Rattle.std.specs.Prelude.{IfOk, IfSome, IsOk, IsOkAnd}
use Rattle.le_bytes.specs.declared.name.Name.{Name}
use Rattle.le_bytes.specs.declared.refusal.Refusal.{Refusal}
use Rattle.le_bytes.specs.declared.refusal.Refusal.TheVariants.{Limit, MemberAbsent, Place}
use Rattle.le_bytes.specs.declared.refusal.Counted.TheVariants.{ImageLength}
use Rattle.le_io.specs.Counts.{Files}
use Rattle.command_words.specs.declared.command.Command.{Command}
use Rattle.command_words.specs.declared.command.Command.TheVariants.{Go, Link, Fetch}
use Rattle.command_words.specs.declared.judging.BadWord.{BadWord}
use Rattle.command_words.specs.Judged.{bad_word}
use Rattle.command_words.specs.Meaning.{command_of, module_name_of, origin_of}
use Rattle.sym_mod.specs.declared.program.Program.{Program}
use Rattle.pds_directory.specs.declared.entry.Entry.{Entry}
use Rattle.pds_lib.specs.declared.set.Set.{Set}
use Rattle.pds_lib.specs.Contents.{Contents, find_entry}
use Rattle.pds_image.specs.Image.{written}
use Rattle.member_model.specs.StandsFor.{AreBytes}
use Rattle.link_core.specs.declared.linked.Linked.{Linked}
use Rattle.link_core.specs.declared.options.Options.{Options}
use Rattle.link_core.specs.declared.program.ProgramFault.{ProgramFault}
use Rattle.link_core.specs.declared.program.ProgramFault.TheVariants.{Refused as RefusedProgram, Statement}
use Rattle.link_core.specs.Programs.{program_of_cards}
use Rattle.link_core.specs.Modules.{Stands, linked_module, listing, may_be_unresolved, wanting_names}
use Rattle.link_core.specs.Linking.{linking, linking_of}
use Rattle.link_core.specs.Sets.{primary_cards}
use Rattle.command_sets.specs.declared.answer.Answer.{Answer}
use Rattle.command_sets.specs.declared.answer.Put.{Put}
use Rattle.command_sets.specs.declared.status.Status.{Status}
use Rattle.command_sets.specs.declared.status.Status.TheVariants.{Done, DoneWithUnresolved, Refused}
use Rattle.command_sets.specs.Reading.{IsReadSet}
use Rattle.command_fetch.specs.Fetch.{entry_text, fetch, found_answer, is_other_form, member_text, text_answer}
use Rattle.linkedit_top.specs.Go.{go, placed_stowed}
use Rattle.command_sets.specs.Sets.{names_output, made_by, made_version, new_version, set_limit, sets_of, cards_at, library_at}
use Rattle.command_fetch.specs.Placed.{placed_lines, placed_status}
use Rattle.command_link.specs.Link.{earlier_refusal, link, linking_options, listings, put_stowed, status_for, stowed_for, stowed_linking, stowed_of, unless_refused, with_module, with_modules}
use Rattle.command_sets.specs.Libraries.{image_size, library_answer, output_in, put_answer, MayBePut, output_put}
use Rattle.command_sets.specs.Refusing.{bad_words, refused, unbuilt, unbuilt_card}
use Rattle.linkedit_top.specs.Outcome.{command_answer, is_built, judged_words, outcome, sets_answer}
use Rattle.linkedit_top.specs.ByProgram.{program_text}
use Rattle.linkedit_top.specs.Headline.{AreLinked, AreTaken, EndsLinked, IsPromised, KeepsPromise, LinksAsPromised, LinksProgram, OutcomesAreAsPromised, PutsProgram, UnlessRefused, library_with, module_for, program_answer, program_at, program_lines, program_status, put_of, status_of}
use Rattle.command_link.proofs.PrimarySets.{cards_are, primary_bytes}
use Rattle.command_sets.proofs.NamedSets.{output_is}
use Rattle.command_sets.proofs.SetRefusals.{IsOfNoPlace, link_no_place, set_no_place}
use Rattle.command_link.proofs.Refusals.{IsOwnStow, own_cards, own_module}
use Rattle.linkedit_top.proofs.PrintedPrograms.{stowed_modules_print_programs}
use Rattle.command_link.proofs.Standing.{name_whole, program_stands}
use Rattle.command_link.proofs.StowedModules.{ends}

-- ---- answers that put nothing, and whose status is none of linking

pub record IsQuiet (a : Answer) : Type 0 where
  pub none : a.put ≡ None
  pub not_linked : EndsLinked a.status → ⊥

not_linked : (refusal : Refusal) → IsOfNoPlace refusal → EndsLinked (Refused refusal) → ⊥
not_linked (Place what) none ends = none
not_linked _ none ends = ends

refused_quiet : (refusal : Refusal) → IsOfNoPlace refusal → IsQuiet (refused refusal)
unfolding refused
refused_quiet refusal none = record { none = refl; not_linked = not_linked refusal none }

refused_none : (refusal : Refusal) → (refused refusal).put ≡ None
unfolding refused
refused_none refusal = refl

unbuilt_quiet : IsQuiet unbuilt
unfolding unbuilt
unbuilt_quiet = record { none = refl; not_linked = λ ends. ends }

card_quiet : (number : ℕ) → IsQuiet (unbuilt_card number)
unfolding unbuilt_card
card_quiet number = record { none = refl; not_linked = λ ends. ends }

bad_quiet : (bad : BadWord) → IsQuiet (bad_words bad)
bad_quiet bad = record { none = refl; not_linked = λ ends. ends }

-- what an answer owes for a program, where nothing is refused
abbrev Links : Command → List (List ℕ) → Contents → Result Program ProgramFault → Answer → Type 0
Links command words lib r a = UnlessRefused words lib r (λ p after. IfSome (put_of command words after) MayBePut → LinksProgram command words lib a p after)

module _ (Taken : Type 0) (command : Command) (words : List (List ℕ)) (lib : Contents) where
  keeps_quiet : (r : Result Program ProgramFault) (a : Answer) → IsQuiet a → (Taken → Links command words lib r a) → KeepsPromise Taken command words lib r a
  keeps_quiet r a quiet links = record {
    puts = subst (λ o. IfSome o (λ put. AreLinked words lib r (PutsProgram words lib put))) (sym quiet.none) tt;
    ends = λ ends. absurd (quiet.not_linked ends);
    links = links;
  }

  -- the program is refused
  keeps_refused : (fault : ProgramFault) (a : Answer) → IsQuiet a → KeepsPromise Taken command words lib (Err fault) a
  keeps_refused fault a quiet = keeps_quiet (Err fault) a quiet (λ taken. tt)

  -- its stow is refused
  keeps_unstowed : (p : Program) (refusal : Refusal) → library_with words lib p ≡ Err refusal → IsOfNoPlace refusal → KeepsPromise Taken command words lib (Ok p) (refused refusal)
  keeps_unstowed p refusal is none =
      keeps_quiet (Ok p) (refused refusal) (refused_quiet refusal none)
      (λ taken. subst (λ r. IfOk r (λ after. IfSome (put_of command words after) MayBePut → LinksProgram command words lib (refused refusal) p after)) (sym is) tt)

-- nothing was linked, since the words or the sets are not taken
promised_quiet : (c : Option Command) (words : List (List ℕ)) (files : Files) (a : Answer) → IsQuiet a → (AreTaken words files → ⊥) → IsPromised c words files a
promised_quiet (Some Link) words files a quiet not_taken =
    keeps_quiet (AreTaken words files) Link words (library_at words files) (program_at words files) a quiet (λ taken. absurd (not_taken taken))
promised_quiet (Some Go) words files a quiet not_taken =
    keeps_quiet (AreTaken words files) Go words (library_at words files) (program_at words files) a quiet (λ taken. absurd (not_taken taken))
promised_quiet _ words files a quiet not_taken = quiet.none

-- ---- a library that is put, or is not

abbrev made : Status → List ℕ → Option Put → Answer
made s t o = record { status = s; text = t; put = o }

-- what is put is the library, and where that is not too long, or the status is one of linking, the answer is made of these
record IsCarried (after : Contents) (s : Status) (t : List ℕ) (o : Option Put) (a : Answer) : Type 0 where
  puts : IfSome a.put (λ put. (put ≡ output_put after) × MayBePut put)
  ends : EndsLinked a.status → a ≡ made s t o
  links : IfSome o MayBePut → a ≡ made s t o

too_long : (n : ℕ) → n ≤ set_limit → nat_lt set_limit (min n (2 ^ 64 - 1)) ≡ true → ⊥
too_long n short long = grind (arith, short, long)

short_enough : (n : ℕ) → nat_lt set_limit (min n (2 ^ 64 - 1)) ≡ false → n ≤ set_limit
short_enough n short = grind (arith, short)

module _ (after : Contents) (s : Status) (t : List ℕ) where
  carried_refusal : (refusal : Refusal) → IsOfNoPlace refusal → (MayBePut (output_put after) → ⊥) → IsCarried after s t (Some (output_put after)) (refused refusal)
  unfolding refused
  carried_refusal refusal none long = record { puts = tt; ends = λ ends. absurd (not_linked refusal none ends); links = λ short. absurd (long short) }

  carried_put : (b : Bool) → nat_lt set_limit (image_size after) ≡ b → IsCarried after s t (Some (output_put after))
      (if b then refused (Limit ImageLength (image_size after)) else made s t (Some (output_put after)))
  carried_put true long = carried_refusal (Limit ImageLength (image_size after)) tt (λ short. too_long (length (written after)) short long)
  carried_put false short = record { puts = (refl, short_enough (length (written after)) short); ends = λ ends. refl; links = λ fits. refl }

  carried : (named : Bool) → IsCarried after s t (if named then Some (output_put after) else None) (library_answer named s t after)
  unfolding put_answer
  carried true = carried_put (nat_lt set_limit (image_size after)) refl
  carried false = record { puts = tt; ends = λ ends. refl; links = λ fits. refl }

some_then : {A : Type 0} {P Q : A → Type 0} (o : Option A) → IfSome o P → ((x : A) → P x → Q x) → IfSome o Q
some_then None there so = tt
some_then (Some x) there so = so x there

-- ---- the program that is linked

module _ (Taken : Type 0) (command : Command) (words : List (List ℕ)) (lib after : Contents) (p : Program)
    (stands : Stands (linking_options words lib.version) p (module_for words lib p)) (stowed : library_with words lib p ≡ Ok after) where
  linked_both : (So : Program → Contents → Type 0) → So p after → AreLinked words lib (Ok p) So
  linked_both So so = subst (λ r. IsOkAnd r (So p)) (sym stowed) so

  -- where all that an answer does is that of the program
  keeps : (s : Status) (t : List ℕ) (a : Answer) → IsCarried after s t (put_of command words after) a
      → s ≡ program_status command words p → t ≡ program_lines command words p → KeepsPromise Taken command words lib (Ok p) a
  keeps s t a is status text =
      let same : made s t (put_of command words after) ≡ program_answer command words p after =
      ap (λ x. made x t (put_of command words after)) status ∙ ap (λ y. made (program_status command words p) y (put_of command words after)) text in
      record {
        puts = some_then a.put is.puts (λ put two. linked_both (PutsProgram words lib put) (record { is = two.0; short = two.1; stands = stands }));
        ends = λ ends. linked_both (LinksProgram command words lib a) (record { is = is.ends ends ∙ same; stands = stands });
        links = λ taken.
            subst (λ r. IfOk r (λ after. IfSome (put_of command words after) MayBePut → LinksProgram command words lib a p after)) (sym stowed)
            (λ fits. record { is = is.links fits ∙ same; stands = stands });
      }

-- ---- its one load module

one_stow : (r : Result Contents Refusal) → unless_refused r (λ lib. with_modules lib []) ≡ r
one_stow (Ok lib) = ends lib
one_stow (Err refusal) = refl

pub one_module : (lib : Contents) (x : Linked) → with_modules lib (x ∷ []) ≡ with_module lib x
unfolding with_modules
one_module lib x = one_stow (with_module lib x)

chosen : (b : Bool) → (if not b || false then DoneWithUnresolved else Done) ≡ (if b then Done else DoneWithUnresolved)
chosen true = refl
chosen false = refl

status_is : (o : Options) (p : Program) → status_for (linked_module o p ∷ []) ≡ status_of p
unfolding linked_module
status_is o p = chosen (length (wanting_names p) == 0)

listing_is : (o : Options) (p : Program) → listings (linked_module o p ∷ []) ≡ listing o.member p
unfolding linked_module
listing_is o p = append-nil (listing o.member p)

-- ---- the two commands

no_place : (words : List (List ℕ)) (lib : Contents) (p : Program) (refusal : Refusal) → library_with words lib p ≡ Err refusal → IsOfNoPlace refusal
no_place words lib p refusal is = link_no_place refusal (subst IsOwnStow is (own_module lib (module_for words lib p)))

module _ (Taken : Type 0) (words : List (List ℕ)) (lib : Contents) (p : Program)
    (stands : Stands (linking_options words lib.version) p (module_for words lib p)) where
  abbrev its_module : Linked
  its_module = module_for words lib p

  abbrev its_status : Status
  its_status = status_for (its_module ∷ [])

  abbrev its_listing : List ℕ
  its_listing = listings (its_module ∷ [])

  link_stowed : (r : Result Contents Refusal) → with_module lib its_module ≡ r → KeepsPromise Taken Link words lib (Ok p) (put_stowed (stowed_of (its_module ∷ []) r))
  link_stowed (Err refusal) is = keeps_unstowed Taken Link words lib p refusal is (no_place words lib p refusal is)
  link_stowed (Ok after) is =
      keeps Taken Link words lib after p stands is its_status its_listing (library_answer true its_status its_listing after) (carried after its_status its_listing true)
      (status_is (linking_options words lib.version) p) (listing_is (linking_options words lib.version) p)

  link_one : KeepsPromise Taken Link words lib (Ok p) (put_stowed (stowed_of (its_module ∷ []) (with_modules lib (its_module ∷ []))))
  link_one = subst (λ r. KeepsPromise Taken Link words lib (Ok p) (put_stowed (stowed_of (its_module ∷ []) r))) (sym (one_module lib its_module)) (link_stowed (with_module lib its_module) refl)

  -- the status and the lines of a member that is placed, or is not
  abbrev placed : Result (List ℕ) Refusal → Contents → Answer
  placed text after = library_answer (names_output words) (placed_status its_status text) (its_listing ++ placed_lines text) after

  go_placed : (after : Contents) → with_module lib its_module ≡ Ok after → (text : Result (List ℕ) Refusal) → text ≡ program_text p (origin_of words)
      → KeepsPromise Taken Go words lib (Ok p) (placed text after)
  go_placed after stowed text is =
      keeps Taken Go words lib after p stands stowed (placed_status its_status text) (its_listing ++ placed_lines text)
      (placed text after) (carried after (placed_status its_status text) (its_listing ++ placed_lines text) (names_output words))
      (ap (λ s. placed_status s text) (status_is (linking_options words lib.version) p) ∙ ap (placed_status (status_of p)) is)
      (ap (λ l. l ++ placed_lines text) (listing_is (linking_options words lib.version) p) ∙ ap (λ r. listing (module_name_of words) p ++ placed_lines r) is)

  go_stowed : (r : Result Contents Refusal) → with_module lib its_module ≡ r → KeepsPromise Taken Go words lib (Ok p) (placed_stowed words (stowed_of (its_module ∷ []) r))
  go_stowed (Err refusal) is = keeps_unstowed Taken Go words lib p refusal is (no_place words lib p refusal is)
  go_stowed (Ok after) is =
      go_placed after is (member_text after its_module.member.name (origin_of words))
      (stowed_modules_print_programs lib after (linking_options words lib.version) p its_module (origin_of words) stands is)

  go_one : KeepsPromise Taken Go words lib (Ok p) (placed_stowed words (stowed_of (its_module ∷ []) (with_modules lib (its_module ∷ []))))
  go_one = subst (λ r. KeepsPromise Taken Go words lib (Ok p) (placed_stowed words (stowed_of (its_module ∷ []) r))) (sym (one_module lib its_module)) (go_stowed (with_module lib its_module) refl)

module _ (Taken : Type 0) (words : List (List ℕ)) (lib : Contents) (cards : List ℕ) (bytes : AreBytes cards) where
  abbrev its_options : Options
  its_options = linking_options words lib.version

  abbrev its_program : Result Program ProgramFault
  its_program = program_of_cards cards (may_be_unresolved its_options)

  stood : (p : Program) → its_program ≡ Ok p → Stands its_options p (linked_module its_options p)
  stood p is = program_stands its_options cards (may_be_unresolved its_options) p bytes (name_whole words) is

  -- a refusal of linking, behind stows of which there are none
  refused_program : (refusal : Refusal) → its_program ≡ Err (RefusedProgram refusal) → IsQuiet (refused (earlier_refusal (with_modules lib []) refusal))
  refused_program refusal is =
      subst (λ r. IsQuiet (refused (earlier_refusal r refusal))) (sym (ends lib))
      (refused_quiet refusal (link_no_place refusal (own_cards cards (may_be_unresolved its_options) refusal is)))

  link_keeps : (r : Result Program ProgramFault) → its_program ≡ r → KeepsPromise Taken Link words lib r (put_stowed (stowed_linking lib (linking_of its_options r)))
  link_keeps (Err (RefusedProgram refusal)) is =
      keeps_refused Taken Link words lib (RefusedProgram refusal) (refused (earlier_refusal (with_modules lib []) refusal)) (refused_program refusal is)
  link_keeps (Err (Statement number)) is = keeps_refused Taken Link words lib (Statement number) (unbuilt_card number) (card_quiet number)
  link_keeps (Ok p) is = link_one Taken words lib p (stood p is)

  go_keeps : (r : Result Program ProgramFault) → its_program ≡ r → KeepsPromise Taken Go words lib r (placed_stowed words (stowed_linking lib (linking_of its_options r)))
  go_keeps (Err (RefusedProgram refusal)) is =
      keeps_refused Taken Go words lib (RefusedProgram refusal) (refused (earlier_refusal (with_modules lib []) refusal)) (refused_program refusal is)
  go_keeps (Err (Statement number)) is = keeps_refused Taken Go words lib (Statement number) (unbuilt_card number) (card_quiet number)
  go_keeps (Ok p) is = go_one Taken words lib p (stood p is)

-- an answer for these cards and this library
abbrev Keeps : Type 0 → Command → List (List ℕ) → Contents → List ℕ → Answer → Type 0
Keeps Taken command words lib cards a = KeepsPromise Taken command words lib (program_of_cards cards (may_be_unresolved (linking_options words lib.version))) a

link_sets : (Taken : Type 0) (words : List (List ℕ)) (sets : List Set) → AreBytes (primary_cards sets)
    → Keeps Taken Link words (output_in (new_version words) sets) (primary_cards sets) (link words sets)
unfolding linking stowed_for
link_sets Taken words sets bytes =
    let lib : Contents = output_in (new_version words) sets in
    link_keeps Taken words lib (primary_cards sets) bytes (program_of_cards (primary_cards sets) (may_be_unresolved (linking_options words lib.version))) refl

go_sets : (Taken : Type 0) (words : List (List ℕ)) (sets : List Set) → AreBytes (primary_cards sets)
    → Keeps Taken Go words (output_in (new_version words) sets) (primary_cards sets) (go words sets)
unfolding linking stowed_for
go_sets Taken words sets bytes =
    let lib : Contents = output_in (new_version words) sets in
    go_keeps Taken words lib (primary_cards sets) bytes (program_of_cards (primary_cards sets) (may_be_unresolved (linking_options words lib.version))) refl

-- what holds of the library and the cards of the sets that the words name holds of those of the files
pub of_files : (P : Contents → List ℕ → Type 0) (words : List (List ℕ)) (files : Files) (sets : List Set) → sets_of words files ≡ Ok sets → made_version words ≡ Some (new_version words)
    → P (output_in (new_version words) sets) (primary_cards sets) → P (library_at words files) (cards_at words files)
of_files P words files sets is made so =
    subst (λ lib. P lib (cards_at words files)) (output_is words files sets is made)
    (subst (λ cards. P (output_in (new_version words) sets) cards) (cards_are words files sets is) so)

pub made_so : (command : Command) (words : List (List ℕ)) → command_of words ≡ Some command → made_by (Some command) (new_version words) ≡ Some (new_version words)
    → made_version words ≡ Some (new_version words)
made_so command words named made = ap (λ c. made_by c (new_version words)) named ∙ made

-- ---- any command

text_puts_none : (r : Result (List ℕ) Refusal) → (text_answer r).put ≡ None
text_puts_none (Ok text) = refl
text_puts_none (Err refusal) = refused_none refusal

form_puts_none : (b : Bool) (r : Result (List ℕ) Refusal) → (if b then unbuilt else text_answer r).put ≡ None
form_puts_none true r = unbuilt_quiet.none
form_puts_none false r = text_puts_none r

entry_puts_none : (lib : Contents) (name : Name) (origin : ℕ) (o : Option Entry) → (found_answer lib name origin o).put ≡ None
entry_puts_none lib name origin None = refused_none (MemberAbsent name)
entry_puts_none lib name origin (Some e) = form_puts_none (is_other_form e) (entry_text lib name e origin)

fetch_puts_none : (words : List (List ℕ)) (sets : List Set) → (fetch words sets).put ≡ None
fetch_puts_none words sets =
    let lib : Contents = output_in (new_version words) sets in
    entry_puts_none lib (module_name_of words) (origin_of words) (find_entry lib (module_name_of words))

command_promised : (c : Option Command) (words : List (List ℕ)) (files : Files) (sets : List Set) → command_of words ≡ c → sets_of words files ≡ Ok sets
    → AreBytes (primary_cards sets) → IsPromised c words files (command_answer c words sets)
command_promised (Some Link) words files sets named is bytes =
    of_files (λ lib cards. Keeps (AreTaken words files) Link words lib cards (link words sets)) words files sets is (made_so Link words named refl) (link_sets (AreTaken words files) words sets bytes)
command_promised (Some Go) words files sets named is bytes =
    of_files (λ lib cards. Keeps (AreTaken words files) Go words lib cards (go words sets)) words files sets is (made_so Go words named refl) (go_sets (AreTaken words files) words sets bytes)
command_promised (Some Fetch) words files sets named is bytes = fetch_puts_none words sets
command_promised _ words files sets named is bytes = unbuilt_quiet.none

-- ---- words and sets that are not taken

not_good : (words : List (List ℕ)) (files : Files) (bad : BadWord) → bad_word words ≡ Some bad → AreTaken words files → ⊥
not_good words files bad is taken = let none : Some bad ≡ None = sym is ∙ taken.good in cc

not_asked : (words : List (List ℕ)) (files : Files) → is_built words ≡ false → AreTaken words files → ⊥
not_asked words files is taken = let both : true ≡ false = sym taken.built ∙ is in cc

not_read : (words : List (List ℕ)) (files : Files) (refusal : Refusal) → sets_of words files ≡ Err refusal → AreTaken words files → ⊥
not_read words files refusal is taken = let read : IsOk {T = List Set} (Err refusal) = subst IsOk is taken.read in cc

-- ---- as the code decides it

-- words that ask for what is not built
pub unbuilt_promised : (words : List (List ℕ)) (files : Files) (found : Answer) → is_built words ≡ false → found ≡ unbuilt → LinksAsPromised words files found
unbuilt_promised words files found other is =
    subst (LinksAsPromised words files) (sym is) (promised_quiet (command_of words) words files unbuilt unbuilt_quiet (not_asked words files other))

-- a refusal of a set
set_refused : (words : List (List ℕ)) (files : Files) (refusal : Refusal) → sets_of words files ≡ Err refusal → LinksAsPromised words files (refused refusal)
set_refused words files refusal is =
    promised_quiet (command_of words) words files (refused refusal) (refused_quiet refusal (set_no_place words files refusal is)) (not_read words files refusal is)

pub refused_promised : (words : List (List ℕ)) (files : Files) (refusal : Refusal) (found : Answer) → Err refusal ≡ sets_of words files → found ≡ refused refusal → LinksAsPromised words files found
refused_promised words files refusal found is answers = subst (LinksAsPromised words files) (sym answers) (set_refused words files refusal (sym is))

-- the answer for sets that were read
pub sets_promised : (words : List (List ℕ)) (files : Files) (sets : List Set) (command : Command) (found : Answer) → All (IsReadSet words) sets
    → Ok sets ≡ sets_of words files → command_of words ≡ Some command → found ≡ command_answer (Some command) words sets → LinksAsPromised words files found
sets_promised words files sets command found read is named answers =
    subst (LinksAsPromised words files) (sym answers)
    (subst (λ c. IsPromised c words files (command_answer (Some command) words sets)) (sym named)
    (command_promised (Some command) words files sets named (sym is) (primary_bytes words sets read)))

-- ---- the law

pub outcomes_are_as_promised : OutcomesAreAsPromised
unfolding outcome
outcomes_are_as_promised words files bytes = judged (bad_word words) refl
  where
    of_sets : (r : Result (List Set) Refusal) → sets_of words files ≡ r → LinksAsPromised words files (sets_answer words r)
    of_sets (Ok sets) is = command_promised (command_of words) words files sets refl is (subst AreBytes (sym (cards_are words files sets is)) bytes)
    of_sets (Err refusal) is = set_refused words files refusal is

    built : (b : Bool) → is_built words ≡ b → LinksAsPromised words files (if b then sets_answer words (sets_of words files) else unbuilt)
    built true is = of_sets (sets_of words files) refl
    built false is = promised_quiet (command_of words) words files unbuilt unbuilt_quiet (not_asked words files is)

    judged : (o : Option BadWord) → bad_word words ≡ o → LinksAsPromised words files (judged_words words files o)
    judged (Some bad) is = promised_quiet (command_of words) words files (bad_words bad) (bad_quiet bad) (not_good words files bad is)
    judged None is = built (is_built words) refl
