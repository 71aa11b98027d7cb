-- Statements, and how each is spelled on its cards.
use Rattle.std.specs.Prelude.{◌≡◌, ℕ, ◌≤◌, Bool, true, false, if◌then◌else◌, List, [], ◌∷◌, ◌++◌, length, map, Option, Some, None, IfSome, codes}
use Rattle.std.specs.Option.{option_to_list}
use Rattle.std.specs.List.{flat_map, AllByRecursion}
use Rattle.le_bytes.specs.Names.{code_at, padded}
use Rattle.le_bytes.specs.declared.name.Name.{Name}
use Rattle.ctl_cards.specs.NameTexts.{written, IsWritable}
use Rattle.ctl_cards.specs.declared.statement.IncludeItem.{IncludeItem}
use Rattle.ctl_cards.specs.declared.statement.LibraryItem.{LibraryItem}
use Rattle.ctl_cards.specs.declared.statement.LibraryItem.TheVariants as library
use Rattle.ctl_cards.specs.declared.statement.Statement.{Statement}
use Rattle.ctl_cards.specs.declared.statement.Statement.TheVariants as statement

abbrev pub comma : ℕ
comma = 107

abbrev pub open_mark : ℕ
open_mark = 77

abbrev pub close_mark : ℕ
close_mark = 93

abbrev pub star : ℕ
star = 92

-- texts with a comma between each two
abbrev pub joined : {X : Type 0} → (X → List ℕ) → List X → List ℕ
joined text [] = []
joined text (x ∷ xs) = text x ++ flat_map (λ y. comma ∷ text y) xs

-- what stands before the parentheses of an item
pub data Head : Type 0 where
  Nameless : Head
  Starred : Head
  Named : Name → Head

-- one item of an operand: its head, and the names in its parentheses, none where it has none
pub record Item : Type 0 where
  pub head : Head
  pub names : List Name

abbrev pub head_text : Head → List ℕ
head_text Nameless = []
head_text Starred = star ∷ []
head_text (Named n) = written n

abbrev pub names_text : List Name → List ℕ
names_text [] = []
names_text (n ∷ ns) = open_mark ∷ joined written (n ∷ ns) ++ close_mark ∷ []

abbrev pub item_text : Item → List ℕ
item_text i = head_text i.head ++ names_text i.names

abbrev pub named : Name → List Name → Item
named n ns = record { head = Named n; names = ns }

-- the words that NAME and OVERLAY have in parentheses
abbrev pub replace_word : Name
replace_word = record { 0 = padded (codes "R") }

abbrev pub region_word : Name
region_word = record { 0 = padded (codes "REGION") }

abbrev pub include_item : IncludeItem → Item
include_item i = named i.dd i.members

abbrev pub library_item : LibraryItem → Item
library_item (library.From dd ns) = named dd ns
library_item (library.NoCall ns) = record { head = Nameless; names = ns }
library_item (library.NeverCall ns) = record { head = Starred; names = ns }

abbrev pub replace_item : Name × Option Name → Item
replace_item r = named r.0 (option_to_list r.1)

abbrev pub change_item : Name × Name → Item
change_item r = named r.0 (r.1 ∷ [])

abbrev pub name_item : Name → Item
name_item n = named n []

abbrev pub marked_item : Name → Name × Bool → Item
marked_item word m = named m.0 (if m.1 then word ∷ [] else [])

-- the items of a statement's operand
abbrev pub items_of : Statement → List Item
items_of (statement.Include xs) = map include_item xs
items_of (statement.Library xs) = map library_item xs
items_of (statement.Replace xs) = map replace_item xs
items_of (statement.Change xs) = map change_item xs
items_of (statement.Entry n) = name_item n ∷ []
items_of (statement.Alias ns) = map name_item ns
items_of (statement.NameOf n replace) = marked_item replace_word (n, replace) ∷ []
items_of (statement.Insert ns) = map name_item ns
items_of (statement.Overlay n region) = marked_item region_word (n, region) ∷ []

-- the operand of a statement
abbrev pub operand_of : Statement → List ℕ
operand_of s = joined item_text (items_of s)

-- ---- which statements have an operand: each name is writable, and no list is empty

abbrev pub IsList : {X : Type 0} → (X → Type 0) → List X → Type 0
IsList P [] = ⊥
IsList P (x ∷ xs) = P x × AllByRecursion P xs

abbrev pub IsIncludeItem : IncludeItem → Type 0
IsIncludeItem i = IsWritable i.dd × AllByRecursion IsWritable i.members

abbrev pub IsLibraryItem : LibraryItem → Type 0
IsLibraryItem (library.From dd ns) = IsWritable dd × IsList IsWritable ns
IsLibraryItem (library.NoCall ns) = IsList IsWritable ns
IsLibraryItem (library.NeverCall ns) = IsList IsWritable ns

abbrev pub IsReplaceItem : Name × Option Name → Type 0
IsReplaceItem r = IsWritable r.0 × IfSome r.1 IsWritable

abbrev pub IsChangeItem : Name × Name → Type 0
IsChangeItem r = IsWritable r.0 × IsWritable r.1

abbrev pub IsWellFormed : Statement → Type 0
IsWellFormed (statement.Include xs) = IsList IsIncludeItem xs
IsWellFormed (statement.Library xs) = IsList IsLibraryItem xs
IsWellFormed (statement.Replace xs) = IsList IsReplaceItem xs
IsWellFormed (statement.Change xs) = IsList IsChangeItem xs
IsWellFormed (statement.Entry n) = IsWritable n
IsWellFormed (statement.Alias ns) = IsList IsWritable ns
IsWellFormed (statement.NameOf n replace) = IsWritable n
IsWellFormed (statement.Insert ns) = IsList IsWritable ns
IsWellFormed (statement.Overlay n region) = IsWritable n

-- an ALIAS statement has at most 16 names
abbrev pub HasFewAliases : Statement → Type 0
HasFewAliases (statement.Alias ns) = length ns ≤ 16
HasFewAliases _ = Unit {0}
