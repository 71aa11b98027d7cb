use Rattle.relocate.specs.Ready.{laid}
use Rattle.mod_parts.proofs.Complete.{listed_short, listed_among, lists_parts}
use Rattle.mod_parts.proofs.list.PartList.new.Goals as goal

pub count_parts-count-requires : goal.count_parts-count-requires
count_parts-count-requires c =
    listed_short (laid c.args.program.now c.args.tree.now c.args.tables.now) c.in_ok-segments.segments c.as_slice.result.now
    (record { sound = c.requires.sound; tree = c.count-segment_count.ensures.tree; small = c.count-segment_count.ensures.small; in_tree = c.requires.in_tree; few = c.requires.few })
    c.in_ok-segments.ensures c.as_slice.ensures

pub numbered-requires-clause-few : goal.numbered-requires-clause-few
numbered-requires-clause-few c =
    listed_short (laid c.args.program.now c.args.tree.now c.args.tables.now) c.in_ok-segments.segments c.as_slice-2.result.now
    (record { sound = c.requires.sound; tree = c.count-segment_count.ensures.tree; small = c.count-segment_count.ensures.small; in_tree = c.requires.in_tree; few = c.requires.few })
    c.in_ok-segments.ensures c.as_slice-2.ensures

pub numbered-requires-clause-among : goal.numbered-requires-clause-among
numbered-requires-clause-among c =
    listed_among (laid c.args.program.now c.args.tree.now c.args.tables.now) c.in_ok-segments.segments c.as_slice-2.result.now c.len.result c.count-segment_count.result
    c.in_ok-segments.ensures c.as_slice-2.ensures c.len.ensures c.count-segment_count.ensures.count

pub invariant_of-result : goal.invariant_of-result
invariant_of-result c =
    lists_parts (laid c.args.program.now c.args.tree.now c.args.tables.now) c.in_ok-segments.segments c.as_slice.result.now c.as_slice-2.result.now
    c.count_parts-count.result c.len.result c.count-segment_count.result c.in_ok-numbers.numbers
    (record { sound = c.requires.sound; tree = c.count-segment_count.ensures.tree; small = c.count-segment_count.ensures.small; in_tree = c.requires.in_tree; few = c.requires.few })
    c.in_ok-segments.ensures c.as_slice.ensures c.as_slice-2.ensures c.count_parts-count.ensures c.len.ensures c.count-segment_count.ensures.count
    c.in_ok-numbers.ensures.sections c.in_ok-numbers.ensures.tables c.in_ok-numbers.ensures.numbers
