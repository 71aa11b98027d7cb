-- The parts that were read are those of the cards.
use Rattle.std.proofs.Common.{◌≡◌, ◌∙◌, sym, ap}
use Rattle.std.proofs.lemmas.Result.{err_from_is_err_and}
use Rattle.ctl_cards.specs.Operations.{operation_named}
use Rattle.ctl_cards.proofs.CardLaws.{whole_short}
use Rattle.ctl_cards.proofs.Whole.{Parts, read_whole, too_many_names, fault_of_operand}
use Rattle.ctl_cards.proofs.reading.statement_on.Goals as goal

pub slice_bounds-joined_operand-end : goal.slice_bounds-joined_operand-end
slice_bounds-joined_operand-end c = whole_short c.args.cards.now c.in_ok-count.count c.in_ok-count.ensures

pub returns-in_err-statement-clause-faults : goal.returns-in_err-statement-clause-faults
returns-in_err-statement-clause-faults c =
    let parts : Parts c.args.cards.now c.in_ok-count.count c.in-Some.operation c.as_slice.result.now = record {
      some = c.requires;
      count = c.in_ok-count.ensures;
      named = sym c.in-Some.is ∙ c.named.ensures ∙ ap operation_named c.operation_on.ensures;
      joined = c.as_slice.ensures.value ∙ c.in_ok-text.ensures.operand;
    } in
    let p = err_from_is_err_and c.from_residual-in_err-statement.result c.from_residual-in_err-statement.ensures.1 in
    rw (p.1, p.2) (fault_of_operand c.args.cards.now c.in_ok-count.count c.in-Some.operation c.as_slice.result.now c.in_err-statement.field-0.0 parts c.in_err-statement.ensures)

pub returns-then-has_few_aliases-clause-read : goal.returns-then-has_few_aliases-clause-read
returns-then-has_few_aliases-clause-read c =
    let parts : Parts c.args.cards.now c.in_ok-count.count c.in-Some.operation c.as_slice.result.now = record {
      some = c.requires;
      count = c.in_ok-count.ensures;
      named = sym c.in-Some.is ∙ c.named.ensures ∙ ap operation_named c.operation_on.ensures;
      joined = c.as_slice.ensures.value ∙ c.in_ok-text.ensures.operand;
    } in
    read_whole c.args.cards.now c.in_ok-count.count c.in-Some.operation c.as_slice.result.now c.in_ok-statement.statement parts c.in_ok-statement.ensures c.if-has_few_aliases.ensures

pub returns-clause-faults : goal.returns-clause-faults
returns-clause-faults c =
    let parts : Parts c.args.cards.now c.in_ok-count.count c.in-Some.operation c.as_slice.result.now = record {
      some = c.requires;
      count = c.in_ok-count.ensures;
      named = sym c.in-Some.is ∙ c.named.ensures ∙ ap operation_named c.operation_on.ensures;
      joined = c.as_slice.ensures.value ∙ c.in_ok-text.ensures.operand;
    } in
    too_many_names c.args.cards.now c.in_ok-count.count c.in-Some.operation c.as_slice.result.now c.in_ok-statement.statement parts c.in_ok-statement.ensures c.if-has_few_aliases.ensures
