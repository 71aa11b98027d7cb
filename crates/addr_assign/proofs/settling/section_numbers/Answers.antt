use Rattle.std.proofs.Common.{rules, ap, ◌∙◌, ◌-◌, length, if◌then◌else◌, Some}
use Rattle.std.specs.HashMap.{get}
use Rattle.le_bytes.specs.Names.{name_eq}
use Rattle.linking_model.specs.Settled.{is_section_named}
use Rattle.addr_assign.proofs.Maps.{section_back, no_sections}
use Rattle.addr_assign.proofs.settling.section_numbers.Goals as goal

pub loop-done-init : goal.loop-done-init
loop-done-init c = λ n. search (rules, c.in_ok-named.ensures.empty, no_sections c.args.sections.now n)

pub loop-done-preserved : goal.loop-done-preserved
loop-done-preserved c = λ n.
    section_back c.args.sections.now c.loop-done.done c.index-sections-at.result n _ _ c.loop-done-test.true (c.loop-done.invariant n)
    (c.in_ok-put_section.ensures n ∙ ap (λ x. if is_section_named n x then Some (length c.args.sections.now - 1 - c.loop-done.done) else get name_eq c.loop-done.named n) c.index-sections-at.is)
