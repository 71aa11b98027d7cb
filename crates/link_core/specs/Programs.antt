-- The program of the primary input, in one segment, and what is refused of it.
use Rattle.std.specs.Prelude.{ℕ, Bool, not, nat_lt, if◌then◌else◌, List, [], find, Option, Some, None, option_map, Result, Ok, Err}
use Rattle.std.specs.Option.{option_or}
use Rattle.le_bytes.specs.declared.refusal.Refusal.{Refusal}
use Rattle.le_bytes.specs.declared.card_what.CardWhat.{CardWhat}
use Rattle.le_bytes.specs.declared.refusal.Refusal.TheVariants.{Card, NoSection, Symbol, Limit}
use Rattle.le_bytes.specs.declared.refusal.SymbolWhat.TheVariants as symbol
use Rattle.le_bytes.specs.declared.refusal.Counted.TheVariants as counted
use Rattle.sym_mod.specs.declared.program.Program.{Program}
use Rattle.sym_mod.specs.declared.program.Unknown.{Unknown}
use Rattle.linking_model.specs.Kept.{Read}
use Rattle.linking_model.specs.Merged.{program_of}
use Rattle.linking_model.specs.Tree.{plain}
use Rattle.linking_model.specs.Settled.{settled, has_root_section}
use Rattle.linking_model.specs.Places.{module_length}
use Rattle.linking_model.specs.Points.{default_point, registers_end}
use Rattle.linking_model.specs.Linked.{block, point_address}
use Rattle.block_storage.specs.Storage.{alone}
use Rattle.command_words.specs.Keys.{syslin}
use Rattle.deck_steps.specs.Decks.{decks_of}
use Rattle.deck_steps.specs.declared.fault.DeckFault.{DeckFault}
use Rattle.deck_steps.specs.declared.fault.DeckFault.TheVariants as deck
use Rattle.link_core.specs.declared.program.ProgramFault.{ProgramFault}
use Rattle.link_core.specs.declared.program.ProgramFault.TheVariants.{Refused, Statement}

-- the program of the modules, without OVERLAY and INSERT
abbrev pub root_program : List Read → Program
root_program rs = settled plain.tree [] (program_of rs)

-- the address of the entry point, where the module stands in a block at an origin
abbrev pub entry_address : Program → ℕ → ℕ
entry_address p origin = point_address (block (alone p) origin) (default_point p)

-- ---- unresolved names

-- the name has to be resolved
abbrev pub is_wanting : Unknown → Bool
is_wanting x = not x.weak

-- the first name that has to be resolved and is not
abbrev pub first_wanting : Program → Option Unknown
first_wanting p = find is_wanting p.unresolved

-- ---- refusals

-- a program has a section in segment 1
abbrev pub root_refusal : Program → Option Refusal
root_refusal p = if has_root_section p then None else Some NoSection

-- every name is resolved, but weak ones, unless names may be unresolved
abbrev pub name_refusal : Program → Bool → Option Refusal
name_refusal p may =
    if may then None else option_map (λ x. Symbol x.name symbol.Unresolved) (first_wanting p)

-- the registers have at most 16,777,215 bytes, and the module at most 4,194,304
abbrev pub limit_refusal : Program → Option Refusal
limit_refusal p =
    let total = registers_end 0 p.registers in
    let size = module_length (alone p) in
    if nat_lt 16777215 total then Some (Limit counted.Registers total)
    else (if nat_lt 4194304 size then Some (Limit counted.ModuleLength size)
    else None)

-- what is refused of a program, in the order in which it is judged
unfoldable pub link_refusal : Program → Bool → Option Refusal
link_refusal p may = option_or (root_refusal p) (option_or (name_refusal p may) (limit_refusal p))

-- ---- the primary input

-- a card of the primary input, by its number
abbrev pub faulty_card : ℕ → CardWhat → Refusal
faulty_card number what = Card (record { set = syslin; member = None; number = number }) what

-- what is refused of decks, or the statement card that stands among them
abbrev pub deck_fault : DeckFault → ProgramFault
deck_fault (deck.Card number what) = Refused (faulty_card number what)
deck_fault (deck.Statement number) = Statement number
deck_fault (deck.DoubleDefinition name) = Refused (Symbol name symbol.DoubleDefinition)
deck_fault (deck.TooManySymbols n) = Refused (Limit counted.Symbols n)

-- the program, unless something is refused of it
abbrev pub unless_refused : Program → Option Refusal → Result Program ProgramFault
unless_refused p (Some refusal) = Err (Refused refusal)
unless_refused p None = Ok p

-- the program of the modules that decks give, with or without leave for unresolved names
abbrev pub program_of_decks : Bool → Result (List Read) DeckFault → Result Program ProgramFault
program_of_decks may (Err fault) = Err (deck_fault fault)
program_of_decks may (Ok rs) = let p = root_program rs in unless_refused p (link_refusal p may)

-- the program of the cards of the primary input, or what comes first that is refused of them
abbrev pub program_of_cards : List ℕ → Bool → Result Program ProgramFault
program_of_cards cards may = program_of_decks may (decks_of cards)
