use Rattle.std.proofs.Common.{sym, ◌∙◌}
use Rattle.std.proofs.lemmas.List.{take_rest}
use Rattle.obj_cards.proofs.RldLaws.{field_reads, flag_faults, short_field}
use Rattle.obj_cards.proofs.rld.field_item.Goals as goal

pub returns-then-not-is_flag-clause-fault : goal.returns-then-not-is_flag-clause-fault
returns-then-not-is_flag-clause-fault c = flag_faults c.args.r c.args.p c.args.bytes.now c.in-len4-up.len_at_least (sym c.is_flag.ensures ∙ c.if-not-is_flag.true)

pub returns-in_default-clause-fault : goal.returns-in_default-clause-fault
returns-in_default-clause-fault c = short_field c.args.r c.args.p c.args.bytes.now c.requires c.in_default.len_below

pub returns-else-not-is_flag-clause-item : goal.returns-else-not-is_flag-clause-item
returns-else-not-is_flag-clause-item c = field_reads c.args.r c.args.p c.num24-address.result c.args.bytes.now _ c.in-len4-up.len_at_least (sym c.is_flag.ensures ∙ c.if-not-is_flag.false) c.num24-address.ensures.number (take_rest c.args.bytes.now 4)
