-- What linking and stowing refuse is of what the data sets hold.
use Rattle.std.proofs.Common.{◌≡◌, ℕ, Bool, true, false, List, [], ◌∷◌, Option, Some, None, Result, Ok, Err, subst, if◌then◌else◌, nat_lt}
use Rattle.std.specs.Prelude.{All, IfSome, option_map}
use Rattle.std.proofs.lemmas.List.Elements.{All-nil}
use Rattle.std.specs.Option.{option_or}
use Rattle.le_bytes.specs.declared.refusal.Refusal.{Refusal}
use Rattle.le_bytes.specs.declared.refusal.Refusal.TheVariants.{SetAbsent, TooLong, NoSection, Symbol, Limit}
use Rattle.le_bytes.specs.declared.refusal.SymbolWhat.TheVariants.{Unresolved}
use Rattle.le_bytes.specs.declared.refusal.Counted.TheVariants.{Registers, ModuleLength}
use Rattle.sym_mod.specs.declared.program.Program.{Program}
use Rattle.sym_mod.specs.declared.program.Unknown.{Unknown}
use Rattle.linking_model.specs.Kept.{Read}
use Rattle.linking_model.specs.Settled.{has_root_section}
use Rattle.linking_model.specs.Places.{module_length}
use Rattle.linking_model.specs.Points.{registers_end}
use Rattle.pds_lib.specs.declared.member.StowFault.{StowFault}
use Rattle.pds_lib.specs.declared.member.StowFault.TheVariants.{Exists, TooManyRecords, Memory}
use Rattle.pds_lib.specs.Contents.{Contents}
use Rattle.pds_lib.specs.Stow.{stowed}
use Rattle.block_storage.specs.Storage.{alone}
use Rattle.deck_steps.specs.Decks.{decks_of}
use Rattle.deck_steps.specs.declared.fault.DeckFault.{DeckFault}
use Rattle.deck_steps.specs.declared.fault.DeckFault.TheVariants as deck
use Rattle.link_core.specs.declared.linked.Linked.{Linked}
use Rattle.link_core.specs.declared.options.Options.{Options}
use Rattle.link_core.specs.declared.program.ProgramFault.{ProgramFault}
use Rattle.link_core.specs.declared.program.ProgramFault.TheVariants.{Refused, Statement}
use Rattle.link_core.specs.Programs.{first_wanting, root_program, root_refusal, name_refusal, limit_refusal, link_refusal, deck_fault, unless_refused, program_of_decks, program_of_cards}
use Rattle.link_core.specs.Modules.{may_be_unresolved, IsStowable}
use Rattle.link_core.specs.Linking.{Linking, LinkedModules, Refuses, StatementAt, linking, linking_of}
use Rattle.command_sets.specs.Causes.{IsLinkRefusal, IsOwnRefusal}
use Rattle.command_link.specs.Link.{stowed_or, with_module, with_modules, unless_refused as unless_stow_refused}

-- ---- of what the data sets hold

pub link_own : (refusal : Refusal) → IsLinkRefusal refusal → IsOwnRefusal refusal
link_own (SetAbsent dd) own = own
link_own (TooLong dd) own = own
link_own _ own = tt

-- ---- of a program

abbrev pub IsOwnIfAny : Option Refusal → Type 0
IsOwnIfAny o = IfSome o IsLinkRefusal

either : (a b : Option Refusal) → IsOwnIfAny a → IsOwnIfAny b → IsOwnIfAny (option_or a b)
either (Some r) b first second = first
either None b first second = second

no_section : (b : Bool) → IsOwnIfAny (if b then None else Some NoSection)
no_section true = tt
no_section false = tt

unresolved : (b : Bool) (o : Option Unknown) → IsOwnIfAny (if b then None else option_map (λ x. Symbol x.name Unresolved) o)
unresolved true o = tt
unresolved false None = tt
unresolved false (Some x) = tt

limits : (a b : Bool) (m n : ℕ) → IsOwnIfAny (if a then Some (Limit Registers m) else (if b then Some (Limit ModuleLength n) else None))
limits true b m n = tt
limits false true m n = tt
limits false false m n = tt

own_refusal : (p : Program) (may : Bool) → IsOwnIfAny (link_refusal p may)
unfolding link_refusal
own_refusal p may =
    either (root_refusal p) (option_or (name_refusal p may) (limit_refusal p)) (no_section (has_root_section p))
    (either (name_refusal p may) (limit_refusal p) (unresolved may (first_wanting p))
    (limits (nat_lt 16777215 (registers_end 0 p.registers)) (nat_lt 4194304 (module_length (alone p))) (registers_end 0 p.registers) (module_length (alone p))))

-- ---- of the primary input

abbrev pub IsOwnFault : Result Program ProgramFault → Type 0
IsOwnFault (Ok p) = Unit {0}
IsOwnFault (Err (Refused refusal)) = IsLinkRefusal refusal
IsOwnFault (Err (Statement number)) = Unit {0}

own_deck : (fault : DeckFault) → IsOwnFault (Err (deck_fault fault))
own_deck (deck.Card number what) = tt
own_deck (deck.Statement number) = tt
own_deck (deck.DoubleDefinition name) = tt
own_deck (deck.TooManySymbols n) = tt

own_program : (p : Program) (o : Option Refusal) → IsOwnIfAny o → IsOwnFault (unless_refused p o)
own_program p None own = tt
own_program p (Some refusal) own = own

own_decks : (may : Bool) (r : Result (List Read) DeckFault) → IsOwnFault (program_of_decks may r)
own_decks may (Err fault) = own_deck fault
own_decks may (Ok rs) = own_program (root_program rs) (link_refusal (root_program rs) may) (own_refusal (root_program rs) may)

pub own_cards : (cards : List ℕ) (may : Bool) (refusal : Refusal) → program_of_cards cards may ≡ Err (Refused refusal) → IsLinkRefusal refusal
own_cards cards may refusal is = subst IsOwnFault is (own_decks may (decks_of cards))

-- ---- of linking

abbrev pub IsOwnLinking : Linking → Type 0
IsOwnLinking (LinkedModules modules) = Unit {0}
IsOwnLinking (Refuses refusal before) = IsLinkRefusal refusal
IsOwnLinking (StatementAt number) = Unit {0}

own_of : (o : Options) (r : Result Program ProgramFault) → IsOwnFault r → IsOwnLinking (linking_of o r)
own_of o (Ok p) own = tt
own_of o (Err (Refused refusal)) own = own
own_of o (Err (Statement number)) own = tt

pub own_linking : (o : Options) (cards : List ℕ) (refusal : Refusal) (before : List Linked) → linking o cards ≡ Refuses refusal before → IsOwnRefusal refusal
unfolding linking
own_linking o cards refusal before is =
    link_own refusal (subst IsOwnLinking is (own_of o (program_of_cards cards (may_be_unresolved o)) (own_decks (may_be_unresolved o) (decks_of cards))))

-- there is one load module, and none before a refusal
pub none_before : (o : Options) (cards : List ℕ) (refusal : Refusal) (before : List Linked) → linking o cards ≡ Refuses refusal before → All IsStowable before
unfolding linking
none_before o cards refusal before is = cases (program_of_cards cards (may_be_unresolved o)) is
  where
    cases : (r : Result Program ProgramFault) → linking_of o r ≡ Refuses refusal before → All IsStowable before
    cases (Ok p) other = cc
    cases (Err (Refused first)) same = let none : [] ≡ before = cc in subst (All IsStowable) none (All-nil IsStowable)
    cases (Err (Statement number)) other = cc

-- ---- of stowing

abbrev pub IsOwnStow : {A : Type 0} → Result A Refusal → Type 0
IsOwnStow (Ok x) = Unit {0}
IsOwnStow (Err refusal) = IsLinkRefusal refusal

own_stow : (old : Contents) (r : Result Contents StowFault) → IsOwnStow (stowed_or old r)
own_stow old (Ok lib) = tt
own_stow old (Err (Exists name)) = tt
own_stow old (Err (TooManyRecords n)) = tt
own_stow old (Err Memory) = tt

pub own_module : (lib : Contents) (x : Linked) → IsOwnStow (with_module lib x)
unfolding with_module
own_module lib x = own_stow lib (stowed lib x.member x.replace)

own_then : (r : Result Contents Refusal) (next : Contents → Result Contents Refusal) → IsOwnStow r → ((lib : Contents) → IsOwnStow (next lib)) → IsOwnStow (unless_stow_refused r next)
own_then (Ok lib) next own rest = rest lib
own_then (Err refusal) next own rest = own

own_modules : (lib : Contents) (modules : List Linked) → IsOwnStow (with_modules lib modules)
unfolding with_modules
own_modules lib [] = tt
own_modules lib (x ∷ rest) = own_then (with_module lib x) (λ after. with_modules after rest) (own_module lib x) (λ after. own_modules after rest)

pub own_stows : (lib : Contents) (modules : List Linked) (refusal : Refusal) → Err refusal ≡ with_modules lib modules → IsOwnRefusal refusal
own_stows lib modules refusal is = link_own refusal (subst IsOwnStow (sym_is is) (own_modules lib modules))
  where
    sym_is : {x y : Result Contents Refusal} → x ≡ y → y ≡ x
    sym_is same = cc
