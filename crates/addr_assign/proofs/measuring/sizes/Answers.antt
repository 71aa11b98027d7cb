use Rattle.std.proofs.Common.{rules, ◌<◌, ◌≤◌, ◌∙◌, length}
use Rattle.addr_assign.specs.Reach.{laid}
use Rattle.addr_assign.proofs.Sized.{of_program, reach_read_small, size_next, few_entries, few_sections, sizes_bounded, inside_reaches}
use Rattle.addr_assign.proofs.measuring.sizes.Goals as goal

pub index-requires : goal.index-requires
index-requires c =
    let inside : c.loop-i.i < length c.in_ok-reaches.reaches.items = inside_reaches c.args.t.now.tree c.as_slice.result.now c.in_ok-reaches.reaches.items c.loop-i.i c.count-count.result c.in_ok-reaches.ensures c.count-count.ensures.count c.loop-i-test.true in
    search (rules, inside)

pub with_table-requires-clause-reach : goal.with_table-requires-clause-reach
with_table-requires-clause-reach c =
    let short : length c.args.p.now.sections ≤ 32511 = few_sections _ _ _ _ c.requires.sound.few in
    reach_read_small c.args.t.now.tree c.args.p.now.sections c.in_ok-reaches.reaches.items c.loop-i.i c.count-count.result _ c.index.result.now c.count-count.ensures.small.few_segments c.requires.sound.sections short
    (of_program c.args.t.now.tree c.as_slice.result.now c.args.p.now.sections c.in_ok-reaches.reaches.items c.in_ok-reaches.ensures c.as_slice.ensures)
    c.count-count.ensures.count c.loop-i-test.true c.index.ensures

pub with_table-requires-clause-entries : goal.with_table-requires-clause-entries
with_table-requires-clause-entries c = rw (c.entries_at.ensures) (few_entries c.args.tables.now.entries 1 c.loop-i.i c.requires.few)

pub loop-i-preserved : goal.loop-i-preserved
loop-i-preserved c =
    c.in_ok-push.ensures.items
    ∙ size_next (laid c.args.p.now c.args.t.now.tree c.args.tables.now.entries) c.in_ok-reaches.reaches.items c.loop-i.sizes.items c.loop-i.i c.count-count.result _ c.index.result.now c.entries_at.result c.with_table.result
    (of_program c.args.t.now.tree c.as_slice.result.now c.args.p.now.sections c.in_ok-reaches.reaches.items c.in_ok-reaches.ensures c.as_slice.ensures)
    c.count-count.ensures.count c.loop-i-test.true c.index.ensures c.entries_at.ensures c.with_table.ensures c.loop-i.invariant

pub returns-clause-bounded : goal.returns-clause-bounded
returns-clause-bounded c =
    let short : length c.args.p.now.sections ≤ 32511 = few_sections _ _ _ _ c.requires.sound.few in
    sizes_bounded (laid c.args.p.now c.args.t.now.tree c.args.tables.now.entries) c.loop-i.sizes.items c.loop-i.i c.count-count.ensures.small.few_segments c.requires.sound.sections short c.requires.few c.loop-i.invariant
