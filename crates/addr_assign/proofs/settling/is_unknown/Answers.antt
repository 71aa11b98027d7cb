use Rattle.std.proofs.Common.{not, ap, ◌∙◌}
use Rattle.std.specs.Option.{is_some}
use Rattle.addr_assign.proofs.Maps.{section_there}
use Rattle.addr_assign.proofs.settling.is_unknown.Goals as goal

pub returns : goal.returns
returns c =
    ap (λ b. not b)
    (c.contains_key.ensures ∙ ap (λ o. is_some o) (c.requires c.args.name.now) ∙ section_there 0 c.args.p.now.sections c.args.name.now)
