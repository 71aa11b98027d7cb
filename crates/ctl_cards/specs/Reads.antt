-- What the methods that read an operand have read, and where they stopped.
use Rattle.std.specs.Prelude.{◌≡◌, ℕ, ◌+◌, ◌<◌, ◌≤◌, Bool, true, false, if◌then◌else◌, List, [], ◌∷◌, ◌++◌, Option, Some, None, Result, Ok, Err, MatchBool}
use Rattle.le_bytes.specs.declared.name.Name.{Name}
use Rattle.ctl_cards.specs.Cards.{IsWhole, continued_count, first_unfit}
use Rattle.ctl_cards.specs.declared.statement.StmtFault.{StmtFault}
use Rattle.ctl_cards.specs.declared.statement.StmtFault.TheVariants as fault
use Rattle.ctl_cards.specs.Letters.{NotNext}
use Rattle.ctl_cards.specs.NameTexts.{written, IsWritable}
use Rattle.ctl_cards.specs.Statements.{Item, item_text, joined, open_mark, close_mark, star, operand_of, IsList, IsWellFormed}
use Rattle.ctl_cards.specs.Operations.{operation_of, operation_text}
use Rattle.ctl_cards.specs.Grammar.{IsBadAt}
use Rattle.ctl_cards.specs.Walk.{Form, takes_names, takes_several, AtItem, InHead, AtName, InName, InWord, AfterItem, stop_of, form_of, word_form}
use Rattle.ctl_cards.specs.declared.operand.Stop.{Stop}
use Rattle.ctl_cards.specs.declared.operand.Stop.TheVariants.{Bad, Memory}
use Rattle.ctl_cards.specs.declared.operation.Operation.{Operation}
use Rattle.ctl_cards.specs.declared.statement.Statement.{Statement}

-- the name is read; a walk that stands where a name may begin goes on after it
pub record TakesName (old : List ℕ) (n : Name) (new : List ℕ) : Type 0 where
  pub writable : IsWritable n
  pub text : old ≡ written n ++ new
  pub at_item : (f : Form) → stop_of f AtItem old ≡ stop_of f (InHead 8) new
  pub at_name : (f : Form) → takes_names f.within ≡ true → stop_of f AtName old ≡ stop_of f (InName 8) new

-- no name is here, and a walk stops
pub record HasNoName (old new : List ℕ) : Type 0 where
  pub same : new ≡ old
  pub at_item : (f : Form) → f.nameless ≡ false → stop_of f AtItem old ≡ Some old
  pub at_nameless : (f : Form) → NotNext open_mark old → NotNext star old → stop_of f AtItem old ≡ Some old
  pub at_name : (f : Form) → stop_of f AtName old ≡ Some old

abbrev pub ReadsName : List ℕ → Result Name Stop → List ℕ → Type 0
ReadsName old (Ok n) new = TakesName old n new
ReadsName old (Err Bad) new = HasNoName old new
ReadsName old (Err Memory) new = ⊥

-- the names up to the parenthesis that closes them
pub record TakesNames (old : List ℕ) (ns : List Name) (new : List ℕ) : Type 0 where
  pub names : IsList IsWritable ns
  pub text : old ≡ joined written ns ++ close_mark ∷ new
  pub walk : (f : Form) → takes_several f.within ≡ true → stop_of f AtName old ≡ stop_of f AfterItem new

abbrev pub ReadsNames : List ℕ → Result (List Name) Stop → List ℕ → Type 0
ReadsNames old (Ok ns) new = TakesNames old ns new
ReadsNames old (Err Bad) new = (f : Form) → takes_several f.within ≡ true → stop_of f AtName old ≡ Some new
ReadsNames old (Err Memory) new = Unit {0}

-- the character b is the next one and is taken, or stays
abbrev pub TakesMark : ℕ → List ℕ → Bool → List ℕ → Type 0
TakesMark b old taken new = MatchBool taken (old ≡ b ∷ new) (NotNext b old × (new ≡ old))

abbrev pub Expects : ℕ → List ℕ → Result (Unit {0}) Stop → List ℕ → Type 0
Expects b old (Ok u) new = old ≡ b ∷ new
Expects b old (Err Bad) new = NotNext b old × (new ≡ old)
Expects b old (Err Memory) new = ⊥

abbrev pub EndsHere : List ℕ → Result (Unit {0}) Stop → Type 0
EndsHere rest (Ok u) = rest ≡ []
EndsHere [] (Err Bad) = ⊥
EndsHere (b ∷ rest) (Err Bad) = Unit {0}
EndsHere rest (Err Memory) = ⊥

-- one item of an operand
pub record TakesItem (form : Bool → Form) (old spelled new : List ℕ) : Type 0 where
  pub text : old ≡ spelled ++ new
  pub walk : (many : Bool) → stop_of (form many) AtItem old ≡ stop_of (form many) AfterItem new

abbrev pub ReadsItem : {X : Type 0} → (Bool → Form) → (X → Item) → (X → Type 0) → List ℕ → Result X Stop → List ℕ → Type 0
ReadsItem form item Is old (Ok x) new = Is x × TakesItem form old (item_text (item x)) new
ReadsItem form item Is old (Err Bad) new = (many : Bool) → stop_of (form many) AtItem old ≡ Some new
ReadsItem form item Is old (Err Memory) new = Unit {0}

-- all items of an operand
abbrev pub ReadsItems : {X : Type 0} → (Bool → Form) → (X → Item) → (X → Type 0) → List ℕ → Result (List X) Stop → List ℕ → Type 0
ReadsItems form item Is old (Ok xs) new = IsList Is xs × (old ≡ joined (λ x. item_text (item x)) xs)
ReadsItems form item Is old (Err Bad) new = stop_of (form true) AtItem old ≡ Some new
ReadsItems form item Is old (Err Memory) new = Unit {0}

-- an operand of one item
abbrev pub ReadsOne : {X : Type 0} → (Bool → Form) → (X → Item) → (X → Type 0) → List ℕ → Result X Stop → List ℕ → Type 0
ReadsOne form item Is old (Ok x) new = Is x × (old ≡ item_text (item x))
ReadsOne form item Is old (Err Bad) new = stop_of (form false) AtItem old ≡ Some new
ReadsOne form item Is old (Err Memory) new = Unit {0}

-- a name, and perhaps a word in parentheses behind it
abbrev pub marked_text : List ℕ → Name × Bool → List ℕ
marked_text word m = written m.0 ++ (if m.1 then open_mark ∷ word ++ close_mark ∷ [] else [])

abbrev pub ReadsMarked : List ℕ → List ℕ → Result (Name × Bool) Stop → List ℕ → Type 0
ReadsMarked word old (Ok m) new = IsWritable m.0 × (old ≡ marked_text word m)
ReadsMarked word old (Err Bad) new = stop_of (word_form word false) AtItem old ≡ Some new
ReadsMarked word old (Err Memory) new = Unit {0}

-- the rest of a word
abbrev pub ReadsWord : List ℕ → List ℕ → Result (Unit {0}) Stop → List ℕ → Type 0
ReadsWord word old (Ok u) new = (old ≡ word ++ new) × ((f : Form) → stop_of f (InWord word) old ≡ stop_of f (InWord []) new)
ReadsWord word old (Err Bad) new = (f : Form) → stop_of f (InWord word) old ≡ Some new
ReadsWord word old (Err Memory) new = ⊥

pub record IsStatementOf (operation : Operation) (operand : List ℕ) (s : Statement) : Type 0 where
  pub formed : IsWellFormed s
  pub has_operation : operation_of s ≡ operation
  pub has_operand : operand_of s ≡ operand

abbrev pub ReadsStatement : Operation → List ℕ → Result Statement Stop → List ℕ → Type 0
ReadsStatement operation old (Ok s) new = IsStatementOf operation old s
ReadsStatement operation old (Err Bad) new = stop_of (form_of operation) AtItem old ≡ Some new
ReadsStatement operation old (Err Memory) new = Unit {0}

-- how many cards a statement takes, or which fault ends it
abbrev pub CountsCards : List (List ℕ) → Result ℕ StmtFault → Type 0
CountsCards cards (Ok n) = IsWhole cards × (n ≡ continued_count cards + 1)
CountsCards cards (Err fault.TooMany) = (32 ≤ continued_count cards) × (32 ≤ first_unfit cards)
CountsCards cards (Err (fault.NoContinuation k)) = (k ≡ first_unfit cards) × (k ≤ continued_count cards) × (k < 32)
CountsCards cards (Err _) = ⊥

-- the statement of an operand, or where no valid operand goes on
abbrev pub ReadsOperand : Operation → List ℕ → Result Statement StmtFault → Type 0
ReadsOperand operation text (Ok s) = IsStatementOf operation text s
ReadsOperand operation text (Err (fault.BadOperand p)) = IsBadAt (operation_text operation) text p
ReadsOperand operation text (Err fault.Memory) = Unit {0}
ReadsOperand operation text (Err _) = ⊥
