-- A walk through an operand, a character at a time: where it stands, and where it has to stop.
use Rattle.std.specs.Prelude.{ℕ, ◌+◌, ◌==◌, Bool, true, false, ◌&&◌, nat_lt, if◌then◌else◌, List, [], ◌∷◌, Option, Some, None}
use Rattle.ctl_cards.specs.NameTexts.{begins_name, stands_in_name}
use Rattle.ctl_cards.specs.Statements.{comma, open_mark, close_mark, star}
use Rattle.ctl_cards.specs.declared.operation.Operation.{Operation}
use Rattle.ctl_cards.specs.declared.operation.Operation.TheVariants.{Include, Library, Replace, Change, Entry, Alias, NameOf, Insert, Overlay}

-- what the parentheses of an item may hold
pub data Within : Type 0 where
  NoParentheses : Within
  ThisWord : List ℕ → Within
  OneName : Within
  SeveralNames : Within

-- the form of an operation's items
pub record Form : Type 0 where
  pub many : Bool  -- several items, with commas
  pub bare : Bool  -- a name without parentheses is an item
  pub nameless : Bool  -- an item may begin with a parenthesis, or a star and a parenthesis
  pub within : Within

-- between two characters: before an item, after its star, after k characters of its name,
-- before a name in its parentheses, after k characters of that, before the rest of a word
-- in its parentheses, after the item
pub data Point : Type 0 where
  AtItem : Point
  AfterStar : Point
  InHead : ℕ → Point
  AtName : Point
  InName : ℕ → Point
  InWord : List ℕ → Point
  AfterItem : Point

abbrev pub opened : Within → Option Point
opened NoParentheses = None
opened (ThisWord word) = Some (InWord word)
opened OneName = Some AtName
opened SeveralNames = Some AtName

abbrev pub takes_names : Within → Bool
takes_names NoParentheses = false
takes_names (ThisWord word) = false
takes_names OneName = true
takes_names SeveralNames = true

abbrev pub takes_several : Within → Bool
takes_several SeveralNames = true
takes_several _ = false

abbrev pub next_point : Form → Point → ℕ → Option Point
next_point f AtItem b =
    if b == open_mark then (if f.nameless then opened f.within else None)
    else if b == star then (if f.nameless then Some AfterStar else None)
    else if begins_name b then Some (InHead 1) else None
next_point f AfterStar b = if b == open_mark then opened f.within else None
next_point f (InHead k) b =
    if b == open_mark then opened f.within
    else if b == comma then (if f.bare && f.many then Some AtItem else None)
    else if stands_in_name b && nat_lt k 8 then Some (InHead (k + 1)) else None
next_point f AtName b = if takes_names f.within && begins_name b then Some (InName 1) else None
next_point f (InName k) b =
    if b == close_mark then Some AfterItem
    else if b == comma then (if takes_several f.within then Some AtName else None)
    else if stands_in_name b && nat_lt k 8 then Some (InName (k + 1)) else None
next_point f (InWord []) b = if b == close_mark then Some AfterItem else None
next_point f (InWord (c ∷ word)) b = if b == c then Some (InWord word) else None
next_point f AfterItem b = if b == comma && f.many then Some AtItem else None

-- the operand may end here
abbrev pub may_end : Form → Point → Bool
may_end f (InHead k) = f.bare
may_end f AfterItem = true
may_end f _ = false

-- what is left where the walk stops; None where it comes to an end at which the operand may end
abbrev pub stop_of : Form → Point → List ℕ → Option (List ℕ)
stop_of f p [] = if may_end f p then None else Some []
stop_of f p (b ∷ text) = elim (next_point f p b) as (λ _. Option (List ℕ)) [ None ↦ Some (b ∷ text) | Some q ↦ stop_of f q text ]

-- ---- the forms

abbrev pub include_form : Bool → Form
include_form many = record { many = many; bare = true; nameless = false; within = SeveralNames }

abbrev pub library_form : Bool → Form
library_form many = record { many = many; bare = false; nameless = true; within = SeveralNames }

abbrev pub replace_form : Bool → Form
replace_form many = record { many = many; bare = true; nameless = false; within = OneName }

abbrev pub change_form : Bool → Form
change_form many = record { many = many; bare = false; nameless = false; within = OneName }

abbrev pub name_form : Bool → Form
name_form many = record { many = many; bare = true; nameless = false; within = NoParentheses }

abbrev pub word_form : List ℕ → Bool → Form
word_form word many = record { many = many; bare = true; nameless = false; within = ThisWord word }

abbrev pub form_of : Operation → Form
form_of Include = include_form true
form_of Library = library_form true
form_of Replace = replace_form true
form_of Change = change_form true
form_of Entry = name_form false
form_of Alias = name_form true
form_of NameOf = word_form (217 ∷ []) false
form_of Insert = name_form true
form_of Overlay = word_form (217 ∷ 197 ∷ 199 ∷ 201 ∷ 214 ∷ 213 ∷ []) false
