-- The name is the characters that were counted, and a walk goes on after them.
use Rattle.std.proofs.Common.{◌≡◌, ◌∙◌, subst, sym, ap, take, drop, List, ℕ, rules}
use Rattle.ctl_cards.specs.Letters.{name_length, name_with}
use Rattle.ctl_cards.specs.Reads.{TakesName}
use Rattle.ctl_cards.proofs.NameLaws.{name_length-le}
use Rattle.ctl_cards.proofs.WalkLaws.{takes_name, no_name}
use Rattle.ctl_cards.proofs.operand.Operand.name.Goals as goal

pub split_at-requires : goal.split_at-requires
split_at-requires c = rw c.name_length-length.ensures (name_length-le c.args.self.now.rest.now)

pub returns : goal.returns
returns c =
    let text = c.args.self.now.rest.now in
    let e = c.name_length-length.ensures in
    let t = takes_name text (λ z. c.if-length-eq0.false (e ∙ z)) in
    rw (c.name_with.ensures, c.split_at.ensures.front, c.split_at.ensures.back, e) t
