-- The statement that cards spell, or the first fault, as a function of the cards.
use Rattle.std.specs.Prelude.{◌≡◌, ℕ, ◌+◌, ◌-◌, ◌==◌, Bool, true, false, nat_lt, if◌then◌else◌, List, [], ◌∷◌, ◌++◌, length, map, Option, Some, None, Result, Ok, Err}
use Rattle.le_bytes.specs.Names.{blank_bytes}
use Rattle.le_bytes.specs.declared.name.Name.{Name}
use Rattle.ctl_cards.specs.Cards.{continued_count, first_unfit, joined_operand, operation_of_cards}
use Rattle.ctl_cards.specs.Grammar.{IsStatement}
use Rattle.ctl_cards.specs.Letters.{name_with}
use Rattle.ctl_cards.specs.Operations.{operation_named}
use Rattle.ctl_cards.specs.Statements.{comma, open_mark, close_mark, star, Head, Nameless, Starred, Named, Item}
use Rattle.ctl_cards.specs.Walk.{stop_of, form_of, AtItem}
use Rattle.ctl_cards.specs.declared.operation.Operation.{Operation}
use Rattle.ctl_cards.specs.declared.operation.Operation.TheVariants.{Include, Library, Replace, Change, Entry, Alias, NameOf, Insert, Overlay}
use Rattle.ctl_cards.specs.declared.statement.IncludeItem.{IncludeItem}
use Rattle.ctl_cards.specs.declared.statement.LibraryItem.{LibraryItem}
use Rattle.ctl_cards.specs.declared.statement.LibraryItem.TheVariants as library
use Rattle.ctl_cards.specs.declared.statement.Statement.{Statement}
use Rattle.ctl_cards.specs.declared.statement.Statement.TheVariants as statement
use Rattle.ctl_cards.specs.declared.statement.StmtFault.{StmtFault}
use Rattle.ctl_cards.specs.declared.statement.StmtFault.TheVariants as fault

-- ---- an operand taken apart

-- outside parentheses after some characters of a head; inside them, after a head, some names, and some characters of
-- the next; and after they were closed
pub data Within : Type 0 where
  OfHead : List ℕ → Within
  OfNames : List ℕ → List Name → List ℕ → Within
  Closed : Within

-- the head of these characters
abbrev pub head_of : List ℕ → Head
head_of [] = Nameless
head_of (b ∷ text) = if b == star then Starred else Named (name_with (b ∷ text))

-- the item of a head with these names
abbrev pub item_of : List ℕ → List Name → Item
item_of head names = record { head = head_of head; names = names }

-- the items that a character ends, and where the next one stands
abbrev pub after_one : Within → ℕ → List Item × Within
after_one (OfHead head) b =
    if b == comma then (item_of head [] ∷ [], OfHead [])
    else if b == open_mark then ([], OfNames head [] []) else ([], OfHead (head ++ b ∷ []))
after_one (OfNames head names letters) b =
    if b == comma then ([], OfNames head (names ++ name_with letters ∷ []) [])
    else if b == close_mark then (item_of head (names ++ name_with letters ∷ []) ∷ [], Closed)
    else ([], OfNames head names (letters ++ b ∷ []))
after_one Closed b = ([], OfHead [])

-- the item that the end of the text ends
abbrev pub at_end : Within → List Item
at_end (OfHead head) = item_of head [] ∷ []
at_end (OfNames head names letters) = []
at_end Closed = []

-- the items of a text from there on
unfoldable pub items_from : Within → List ℕ → List Item
items_from m [] = at_end m
items_from m (b ∷ text) = let s = after_one m b in s.0 ++ items_from s.1 text

-- the items of an operand
abbrev pub items_in : List ℕ → List Item
items_in text = items_from (OfHead []) text

-- ---- the statement of an operation with these items

abbrev pub no_name : Name
no_name = record { 0 = blank_bytes }

abbrev pub named_by : Head → Name
named_by (Named n) = n
named_by _ = no_name

abbrev pub first_name : List Name → Option Name
first_name [] = None
first_name (n ∷ ns) = Some n

abbrev pub name_or_none : Option Name → Name
name_or_none None = no_name
name_or_none (Some n) = n

abbrev pub include_of : Item → IncludeItem
include_of i = record { dd = named_by i.head; members = i.names }

abbrev pub library_by : Head → List Name → LibraryItem
library_by (Named dd) ns = library.From dd ns
library_by Nameless ns = library.NoCall ns
library_by Starred ns = library.NeverCall ns

abbrev pub replace_of : Item → Name × Option Name
replace_of i = (named_by i.head, first_name i.names)

abbrev pub change_of : Item → Name × Name
change_of i = (named_by i.head, name_or_none (first_name i.names))

abbrev pub library_of : Item → LibraryItem
library_of i = library_by i.head i.names

abbrev pub name_of : Item → Name
name_of i = named_by i.head

-- the item has a word in parentheses
abbrev pub is_marked : List Name → Bool
is_marked [] = false
is_marked (n ∷ ns) = true

abbrev pub nothing : Item
nothing = record { head = Nameless; names = [] }

abbrev pub first_item : List Item → Item
first_item [] = nothing
first_item (i ∷ is) = i

abbrev pub statement_with : Operation → List Item → Statement
statement_with Include is = statement.Include (map include_of is)
statement_with Library is = statement.Library (map library_of is)
statement_with Replace is = statement.Replace (map replace_of is)
statement_with Change is = statement.Change (map change_of is)
statement_with Entry is = statement.Entry (name_of (first_item is))
statement_with Alias is = statement.Alias (map name_of is)
statement_with NameOf is = statement.NameOf (name_of (first_item is)) (is_marked (first_item is).names)
statement_with Insert is = statement.Insert (map name_of is)
statement_with Overlay is = statement.Overlay (name_of (first_item is)) (is_marked (first_item is).names)

-- ---- the statement of cards

-- how many cards the statement takes
abbrev pub cards_taken : ℕ → ℕ → Result ℕ StmtFault
cards_taken continued unfit =
    if nat_lt continued 32 then (if nat_lt continued unfit then Ok (continued + 1) else Err (fault.NoContinuation unfit))
    else (if nat_lt unfit 32 then Err (fault.NoContinuation unfit) else Err fault.TooMany)

-- an ALIAS statement has at most 16 names
abbrev pub unless_many : Statement → ℕ → Result (Statement × ℕ) StmtFault
unless_many (statement.Alias ns) n = if nat_lt 16 (length ns) then Err fault.TooMany else Ok (statement.Alias ns, n)
unless_many s n = Ok (s, n)

-- the statement of an operand, unless the walk through it stops where so much is left
abbrev pub unless_stopped : Operation → List ℕ → ℕ → Option (List ℕ) → Result (Statement × ℕ) StmtFault
unless_stopped operation text n (Some rest) = Err (fault.BadOperand (length text - length rest + 1))
unless_stopped operation text n None = unless_many (statement_with operation (items_in text)) n

abbrev pub with_operation : Option Operation → List ℕ → ℕ → Result (Statement × ℕ) StmtFault
with_operation None text n = Err fault.UnknownOperation
with_operation (Some operation) text n = unless_stopped operation text n (stop_of (form_of operation) AtItem text)

abbrev pub of_cards : List (List ℕ) → Result ℕ StmtFault → Result (Statement × ℕ) StmtFault
of_cards cards (Err why) = Err why
of_cards cards (Ok n) = with_operation (operation_named (operation_of_cards cards)) (joined_operand cards) n

-- the statement that the cards begin with and the number of its cards, or the first fault
unfoldable pub statement_of : List (List ℕ) → Result (Statement × ℕ) StmtFault
statement_of cards = of_cards cards (cards_taken (continued_count cards) (first_unfit cards))

-- the answer is what is due, unless out of memory
abbrev pub IsDue : Result (Statement × ℕ) StmtFault → Result (Statement × ℕ) StmtFault → Type 0
IsDue due (Ok read) = due ≡ Ok read
IsDue due (Err fault.Memory) = Unit {0}
IsDue due (Err why) = due ≡ Err why

-- cards that spell a statement mean it
abbrev pub SpelledIsMeant : Type 0
SpelledIsMeant = (cards : List (List ℕ)) (s : Statement) (n : ℕ) → IsStatement cards s n → statement_of cards ≡ Ok (s, n)
