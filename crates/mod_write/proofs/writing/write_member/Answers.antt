use Rattle.std.proofs.Common.{map, ap, ◌∙◌}
use Rattle.relocate.specs.Ready.{laid}
use Rattle.mod_write.specs.Written.{alias_at}
use Rattle.mod_write.proofs.Points.{member_is, member_stowable}
use Rattle.mod_write.proofs.writing.write_member.Goals as goal

pub returns-clause-member : goal.returns-clause-member
returns-clause-member g c =
    member_is (laid c.args.p.now c.args.tree.now c.args.t.now) c.in_ok-list.list c.args.a.now c.args.fmt c.args.who c.in_ok-aliases.aliases c.attribute.result c.item_of.result
    c.in_ok-records.records c.in_ok-list.ensures c.requires.linked.placed c.requires.format c.requires.points
    (c.in_ok-aliases.ensures ∙ ap (map (alias_at c.in_ok-list.list)) c.as_slice.ensures) c.attribute.ensures c.item_of.ensures c.in_ok-records.ensures.value

pub returns-clause-stowable : goal.returns-clause-stowable
returns-clause-stowable g c =
    member_stowable (laid c.args.p.now c.args.tree.now c.args.t.now) c.in_ok-list.list c.args.a.now c.args.who c.in_ok-aliases.aliases c.attribute.result c.item_of.result
    c.in_ok-records.records c.in_ok-list.ensures c.requires.linked.placed c.in_ok-chains.ensures.can c.requires.points
    (c.in_ok-aliases.ensures ∙ ap (map (alias_at c.in_ok-list.list)) c.as_slice.ensures) c.in_ok-records.ensures.sizes
