-- The primary input as one list of steps, each set and member that an INCLUDE statement names unfolded in its place.
-- That INCLUDE brings in sets and members where it stands follows GC28-6538; that cards after it still count, how
-- includes nest, and the order of refusals are this project's profile.
use Rattle.std.specs.Prelude.{ℕ, zero, suc, ◌+◌, ◌-◌, Bool, false, ◌&&◌, ◌==◌, if◌then◌else◌, List, [], ◌∷◌, length, map, flat_map, Option, Some, None, Result, Ok, Err}
use Rattle.le_bytes.specs.declared.name.Name.{Name}
use Rattle.le_bytes.specs.declared.card_what.CardWhat.{CardWhat}
use Rattle.le_bytes.specs.declared.card_what.CardWhat.TheVariants.{ShortCard, UnknownOperation, BadOperand, NoContinuation, TooMany, NotHere, NoOvly}
use Rattle.le_bytes.specs.declared.refusal.Spot.{Spot}
use Rattle.le_bytes.specs.declared.refusal.Refusal.TheVariants.{Card, Module, Limit}
use Rattle.le_bytes.specs.declared.refusal.Counted.TheVariants.{IncludeDepth}
use Rattle.obj_cards.specs.Cards.{card_of}
use Rattle.obj_read.specs.Decks.{deck_of, Read as DeckRead}
use Rattle.ctl_cards.specs.declared.statement.Statement.{Statement}
use Rattle.ctl_cards.specs.declared.statement.Statement.TheVariants as statement
use Rattle.ctl_cards.specs.declared.statement.StmtFault.{StmtFault}
use Rattle.ctl_cards.specs.declared.statement.StmtFault.TheVariants as fault
use Rattle.ctl_cards.specs.Meaning.{statement_of}
use Rattle.pds_directory.specs.declared.kinds.LibKind.{LibKind}
use Rattle.pds_directory.specs.declared.kinds.LibKind.TheVariants.{Cards as OfCards, Modules as OfModules}
use Rattle.pds_directory.specs.declared.entry.Entry.{Entry}
use Rattle.pds_lib.specs.Contents.{Contents, find_entry, records_of}
use Rattle.pds_lib.specs.declared.set.Body.{Body}
use Rattle.pds_lib.specs.declared.set.Body.TheVariants.{Cards, Lib}
use Rattle.pds_lib.specs.declared.set.Set.{Set}
use Rattle.member_model.specs.FirstBad.{Fault, first_bad}
use Rattle.member_model.specs.ReadBack.{module_of}
use Rattle.obj_cards.specs.declared.card.Card.{Card as ReadCard}
use Rattle.obj_cards.specs.declared.card.Card.TheVariants.{Comment, Statement as StatementCard}
use Rattle.obj_cards.specs.declared.fault.CardFault.{CardFault}
use Rattle.link_steps.specs.declared.beginning.Beginning.{Beginning}
use Rattle.link_steps.specs.declared.beginning.Beginning.TheVariants.{Nothing, AStatement, ADeck}
use Rattle.deck_steps.specs.Cards.{whole_cards, has_short_card}
use Rattle.link_steps.specs.declared.source.Source.{Source}
use Rattle.link_steps.specs.Unfolded.{Enters, Brings, Says, Unfolded, nothing, one_step, refused, followed, in_turn}
use Rattle.link_steps.specs.declared.asked.Asked.{Asked}
use Rattle.link_steps.specs.Asked.{asked, body_of, asked_fault, libraries_fault}

-- the data sets in the order of the words, and whether overlay statements may stand among cards
pub record Asking : Type 0 where
  pub sets : List Set
  pub ovly : Bool

-- ---- where cards stand

abbrev pub spot : Source → ℕ → Spot
spot src n = record { set = src.dd; member = src.member; number = n }

abbrev pub card_refused : Source → ℕ → CardWhat → Unfolded
card_refused src n what = refused (Card (spot src n) what)

-- ---- one deck

-- the card at a place of so many cards is missing but for a short one
abbrev pub is_short_at : Source → ℕ → ℕ → Bool
is_short_at src count place = src.short && place == count

-- what a number of cards come to, and how many they are; of what is refused that counts for nothing
pub record Taken : Type 0 where
  pub unfolded : Unfolded
  pub cards : ℕ

abbrev pub taken : Unfolded → ℕ → Taken
taken u n = record { unfolded = u; cards = n }

-- the deck at the head of so many cards, the first of which has number n
abbrev pub deck_taken : Source → ℕ → ℕ → DeckRead → Taken
deck_taken src n count (Err (place, what)) =
    taken (card_refused src (n + place) (if is_short_at src count place then ShortCard else what)) 1
deck_taken src n count (Ok (m, cards)) = taken (one_step (Brings m)) cards

-- ---- one statement

-- what is refused at the first card of a statement; a card that it lacks is the short card where there is one
abbrev pub statement_refused : Source → ℕ → ℕ → StmtFault → Unfolded
statement_refused src n count fault.UnknownOperation = card_refused src n UnknownOperation
statement_refused src n count (fault.BadOperand p) = card_refused src n (BadOperand p)
statement_refused src n count (fault.NoContinuation place) =
    if is_short_at src count place then card_refused src (n + place) ShortCard else card_refused src n NoContinuation
statement_refused src n count fault.TooMany = card_refused src n TooMany
statement_refused src n count fault.Memory = nothing

-- what is wrong with where a statement stands, or with what it names
abbrev pub wrong_with : Asking → Source → Statement → Option CardWhat
wrong_with I src (statement.Library items) = libraries_fault I.sets items
wrong_with I src (statement.NameOf name replace) = if src.primary then None else Some NotHere
wrong_with I src (statement.Insert names) = if I.ovly then None else Some NoOvly
wrong_with I src (statement.Overlay name region) = if I.ovly then None else Some NoOvly
wrong_with I src s = None

-- what is wrong, or else what follows
abbrev pub unless_wrong : Source → ℕ → Option CardWhat → Unfolded → Unfolded
unless_wrong src n (Some what) u = card_refused src n what
unless_wrong src n None u = u

-- a set or member that is asked for, where nothing is wrong with that
abbrev pub included : (Asked → Unfolded) → Asking → Source → ℕ → Asked → Unfolded
included enter I src n x = unless_wrong src n (asked_fault I.sets x) (enter x)

-- a statement that brings nothing in, at card n
abbrev pub says : Asking → Source → ℕ → Statement → Unfolded
says I src n s = unless_wrong src n (wrong_with I src s) (one_step (Says (spot src n) s))

-- a statement at card n; what is entered is unfolded by the function
abbrev pub statement_steps : (Asked → Unfolded) → Asking → Source → ℕ → Statement → Unfolded
statement_steps enter I src n (statement.Include items) = in_turn (map (included enter I src n) (flat_map asked items))
statement_steps enter I src n s = says I src n s

-- the statement at the head of so many cards
abbrev pub statement_taken : (Asked → Unfolded) → Asking → Source → ℕ → ℕ → Result (Statement × ℕ) StmtFault → Taken
statement_taken enter I src n count (Err why) = taken (statement_refused src n count why) 1
statement_taken enter I src n count (Ok (s, cards)) = taken (statement_steps enter I src n s) cards

-- ---- cards

-- what a card outside a deck begins: nothing, where it is a comment; a statement; and else, also where it is faulty, a deck
abbrev pub begun_by : Result ReadCard CardFault → Beginning
begun_by (Ok Comment) = Nothing
begun_by (Ok (StatementCard text)) = AStatement
begun_by _ = ADeck

-- what these cards begin with
abbrev pub first_taken : (Asked → Unfolded) → Asking → Source → ℕ → List (List ℕ) → Beginning → Taken
first_taken enter I src n cards Nothing = taken nothing 1
first_taken enter I src n cards AStatement = statement_taken enter I src n (length cards) (statement_of cards)
first_taken enter I src n cards ADeck = deck_taken src n (length cards) (deck_of cards)

-- the cards from number n on, of which the first ones were taken with the card before them
unfoldable pub cards_from : (Asked → Unfolded) → Asking → Source → ℕ → ℕ → List (List ℕ) → Unfolded
cards_from enter I src n done [] = if src.short then card_refused src n ShortCard else nothing
cards_from enter I src n (suc done) (card ∷ cards) = cards_from enter I src (n + 1) done cards
cards_from enter I src n zero (card ∷ cards) =
    let t = first_taken enter I src n (card ∷ cards) (begun_by (card_of card)) in
    followed t.unfolded (cards_from enter I src (n + 1) (t.cards - 1) cards)

-- ---- sets and members

-- a module, or the first bad record of its member
abbrev pub module_steps : Asked → Entry → List (List ℕ) → Option Fault → Unfolded
module_steps x e records (Some (n, what)) = refused (Module (record { set = x.dd; member = x.member; number = n }) what)
module_steps x e records None = one_step (Brings (module_of e records))

-- a member of a library
abbrev pub member_steps : (Asked → Unfolded) → Asking → Asked → Contents → LibKind → Option Entry → Unfolded
member_steps enter I x lib kind None = nothing
member_steps enter I x lib OfCards (Some e) =
    cards_from enter I (record { dd = x.dd; member = x.member; short = false; primary = false }) 1 0 (records_of lib e)
member_steps enter I x lib OfModules (Some e) = module_steps x e (records_of lib e) (first_bad e (records_of lib e))

-- what stands in it
abbrev pub steps_in : (Asked → Unfolded) → Asking → Asked → Option Name → Option Body → Unfolded
steps_in enter I x None (Some (Cards bytes)) =
    cards_from enter I (record { dd = x.dd; member = None; short = has_short_card bytes; primary = false }) 1 0 (whole_cards bytes)
steps_in enter I x (Some m) (Some (Lib lib)) = member_steps enter I x lib lib.kind (find_entry lib m)
steps_in enter I x _ _ = nothing

-- a set or member is entered, with so many levels left below the statement that asks for it
unfoldable pub entered : ℕ → Asking → Asked → Unfolded
entered zero I x = refused (Limit IncludeDepth 9)
entered (suc left) I x = followed (one_step Enters) (steps_in (entered left I) I x x.member (body_of I.sets x.dd))

-- the levels below the primary input
abbrev pub levels : ℕ
levels = 8

-- the primary input, from the card at a place on
abbrev pub primary_from : Asking → Source → ℕ → List (List ℕ) → Unfolded
primary_from I src n cards = cards_from (entered levels I) I src n 0 cards
