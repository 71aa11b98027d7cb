-- What cards say: one statement, or the first fault.
use Rattle.std.specs.Prelude.{◌≡◌, ℕ, ◌+◌, ◌-◌, ◌<◌, ◌≤◌, ◌⊎◌, List, ◌++◌, length, take, Result, Ok, Err}
use Rattle.ctl_cards.specs.Cards.{IsWhole, continued_count, first_unfit, joined_operand, operation_of_cards}
use Rattle.ctl_cards.specs.Operations.{operation_text, operation_of}
use Rattle.ctl_cards.specs.Statements.{operand_of, IsWellFormed, HasFewAliases}
use Rattle.ctl_cards.specs.declared.statement.Statement.{Statement}
use Rattle.ctl_cards.specs.declared.statement.StmtFault.{StmtFault}
use Rattle.ctl_cards.specs.declared.statement.StmtFault.TheVariants as fault

-- the statement has this operation and this operand
pub record Spells (operation operand : List ℕ) (s : Statement) : Type 0 where
  pub formed : IsWellFormed s
  pub has_operation : operation_text (operation_of s) ≡ operation
  pub has_operand : operand_of s ≡ operand

-- the cards begin with this statement, which takes n of them
pub record IsStatement (cards : List (List ℕ)) (s : Statement) (n : ℕ) : Type 0 where
  pub whole : IsWhole cards
  pub taken : n ≡ continued_count cards + 1
  pub spells : Spells (operation_of_cards cards) (joined_operand cards) s
  pub few_aliases : HasFewAliases s

-- the text is the beginning of a valid operand of this operation
abbrev pub BeginsOperand : List ℕ → List ℕ → Type 0
BeginsOperand operation text = (s : Statement) × (more : List ℕ) × Spells operation (text ++ more) s

-- the operand is not valid, and p is one more than the length of its longest prefix
-- that is also a prefix of a valid operand of this operation
pub record IsBadAt (operation operand : List ℕ) (p : ℕ) : Type 0 where
  pub not_valid : (s : Statement) → Spells operation operand s → ⊥
  pub place : (0 < p) × (p ≤ length operand + 1)
  pub begins : BeginsOperand operation (take (p - 1) operand)
  pub no_longer : (k : ℕ) → p ≤ k → k ≤ length operand → BeginsOperand operation (take k operand) → ⊥

-- the operation is one of the nine
abbrev pub IsKnown : List ℕ → Type 0
IsKnown operation = (s : Statement) × (operation_text (operation_of s) ≡ operation)

-- what each fault says of the cards
abbrev pub HasFault : List (List ℕ) → StmtFault → Type 0
HasFault cards fault.TooMany =
    ((32 ≤ continued_count cards) × (32 ≤ first_unfit cards))
    ⊎ (IsWhole cards × ((s : Statement) × Spells (operation_of_cards cards) (joined_operand cards) s × (HasFewAliases s → ⊥)))
HasFault cards (fault.NoContinuation k) = (k ≡ first_unfit cards) × (k ≤ continued_count cards) × (k < 32)
HasFault cards fault.UnknownOperation = IsWhole cards × (IsKnown (operation_of_cards cards) → ⊥)
HasFault cards (fault.BadOperand p) = IsWhole cards × IsKnown (operation_of_cards cards) × IsBadAt (operation_of_cards cards) (joined_operand cards) p
HasFault cards fault.Memory = Unit {0}

-- a statement that the cards spell is the answer, unless memory ran out
abbrev pub AnswersUnlessMemory : Result (Statement × ℕ) StmtFault → Statement → ℕ → Type 0
AnswersUnlessMemory (Ok read) s n = read ≡ (s, n)
AnswersUnlessMemory (Err e) s n = e ≡ fault.Memory
