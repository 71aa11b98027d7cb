-- A whole statement, or its fault, from what its parts say.
use Rattle.std.proofs.Common.{◌≡◌, ℕ, ◌+◌, ◌-◌, ◌<◌, ◌≤◌, List, [], ◌∷◌, ◌++◌, length, get_or, take, drop, Option, Some, None, Result, Ok, Err, refl, sym, ap, subst, ◌∙◌, inl, inr}
use Rattle.std.specs.List.{flat_map}
use Rattle.ctl_cards.specs.Cards.{IsWhole, continued_count, joined_operand, operation_of_cards, operation_on, operand_on, continuation_on}
use Rattle.ctl_cards.specs.Operations.{operation_of, operation_text, operation_named}
use Rattle.ctl_cards.specs.Statements.{HasFewAliases, operand_of}
use Rattle.ctl_cards.specs.Grammar.{Spells, IsStatement, HasFault, IsBadAt, IsKnown}
use Rattle.ctl_cards.specs.Reads.{IsStatementOf, ReadsOperand, CountsCards}
use Rattle.ctl_cards.specs.declared.operation.Operation.{Operation}
use Rattle.ctl_cards.specs.declared.statement.Statement.{Statement}
use Rattle.ctl_cards.specs.declared.statement.StmtFault.{StmtFault}
use Rattle.ctl_cards.specs.declared.statement.StmtFault.TheVariants as fault
use Rattle.ctl_cards.proofs.CardLaws.{whole_operand, whole_operation}
use Rattle.ctl_cards.proofs.Faults.{known, unknown, text_of_named}

-- the cards are whole, and have this operation and this operand
pub record Parts (cards : List (List ℕ)) (n : ℕ) (op : Operation) (text : List ℕ) : Type 0 where
  pub some : 0 < length cards
  pub count : IsWhole cards × (n ≡ continued_count cards + 1)
  pub named : Some op ≡ operation_named (operation_on (get_or cards 0 []))
  pub joined : text ≡ operand_on (get_or cards 0 []) ++ flat_map continuation_on (take (n - 1) (drop 1 cards))

operation_is : (cards : List (List ℕ)) (n : ℕ) (op : Operation) (text : List ℕ) → Parts cards n op text → operation_text op ≡ operation_of_cards cards
operation_is cards n op text p = text_of_named (operation_on (get_or cards 0 [])) op (sym p.named) ∙ whole_operation cards p.some

operand_is : (cards : List (List ℕ)) (n : ℕ) (op : Operation) (text : List ℕ) → Parts cards n op text → text ≡ joined_operand cards
operand_is cards n op text p = p.joined ∙ whole_operand cards n p.some p.count.1

spells : (cards : List (List ℕ)) (n : ℕ) (op : Operation) (text : List ℕ) (s : Statement) → Parts cards n op text → IsStatementOf op text s → Spells (operation_of_cards cards) (joined_operand cards) s
spells cards n op text s p h = record {
  formed = h.formed;
  has_operation = ap operation_text h.has_operation ∙ operation_is cards n op text p;
  has_operand = h.has_operand ∙ operand_is cards n op text p;
}

pub read_whole : (cards : List (List ℕ)) (n : ℕ) (op : Operation) (text : List ℕ) (s : Statement) → Parts cards n op text → IsStatementOf op text s → HasFewAliases s → IsStatement cards s n
read_whole cards n op text s p h few = record { whole = p.count.0; taken = p.count.1; spells = spells cards n op text s p h; few_aliases = few }

pub too_many_names : (cards : List (List ℕ)) (n : ℕ) (op : Operation) (text : List ℕ) (s : Statement) → Parts cards n op text → IsStatementOf op text s → (HasFewAliases s → ⊥) → HasFault cards fault.TooMany
too_many_names cards n op text s p h many = inr (p.count.0, (s, spells cards n op text s p h, many))

pub fault_of_operand : (cards : List (List ℕ)) (n : ℕ) (op : Operation) (text : List ℕ) (e : StmtFault) → Parts cards n op text → ReadsOperand op text (Err e) → HasFault cards e
fault_of_operand cards n op text (fault.BadOperand p) parts h =
    let a = operation_is cards n op text parts in
    let b = operand_is cards n op text parts in (
      parts.count.0,
      subst IsKnown a (known op),
      subst (λ (t : List ℕ). IsBadAt (operation_of_cards cards) t p) b (subst (λ (t : List ℕ). IsBadAt t text p) a h),
    )
fault_of_operand cards n op text fault.Memory parts h = tt
fault_of_operand cards n op text fault.UnknownOperation parts h = absurd h
fault_of_operand cards n op text (fault.NoContinuation k) parts h = absurd h
fault_of_operand cards n op text fault.TooMany parts h = absurd h

pub fault_of_cards : (cards : List (List ℕ)) (e : StmtFault) → CountsCards cards (Err e) → HasFault cards e
fault_of_cards cards fault.TooMany h = inl h
fault_of_cards cards (fault.NoContinuation k) h = h
fault_of_cards cards fault.UnknownOperation h = absurd h
fault_of_cards cards (fault.BadOperand p) h = absurd h
fault_of_cards cards fault.Memory h = tt

pub not_known : (cards : List (List ℕ)) → 0 < length cards → IsWhole cards → operation_named (operation_on (get_or cards 0 [])) ≡ None → HasFault cards fault.UnknownOperation
not_known cards h whole e = (whole, λ k. unknown (operation_of_cards cards) (ap operation_named (sym (whole_operation cards h)) ∙ e) k)
