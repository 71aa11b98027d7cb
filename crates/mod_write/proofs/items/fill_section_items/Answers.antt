use Rattle.std.proofs.Common.{ap, ◌∙◌}
use Rattle.member_model.specs.Chunks.{by_address}
use Rattle.mod_write.proofs.Chaining.{sorted_terms}
use Rattle.mod_write.proofs.items.fill_section_items.Goals as goal

pub returns : goal.returns
returns c = c.in_ok-by_address.ensures ∙ (ap by_address c.in_ok-gather.ensures ∙ sorted_terms c.args.list.now c.args.section)
