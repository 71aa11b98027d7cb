use Rattle.std.proofs.Common.{◌≡◌, ◌++◌, map, take, Some}
use Rattle.link_steps.proofs.asked.push_members.Given as goal

abbrev pub invariant-loop-member : goal.invariant-loop-member
invariant-loop-member l =
    l.all.items ≡ l.initial.all.items ++ map (λ n. record { dd = l.dd; member = Some n }) (take l.member-index l.members)
