use Rattle.std.proofs.Common.{arith, ◌+◌, ◌≤◌, slice_index_or}
use Rattle.std.proofs.Math.Facts.{Fits-below}
use Rattle.linking_model.specs.Places.{module_length}
use Rattle.block_storage.specs.Storage.{alone}
use Rattle.link_core.proofs.Entries.{entry_there, entry_is, entry_inside, seen_at, is_point}
use Rattle.link_core.proofs.programs.entry_point.Goals as goal

pub bounds-as_slice-point : goal.bounds-as_slice-point
bounds-as_slice-point c =
    rw (c.as_slice.ensures)
    (entry_there c.args.linked.now.program c.args.linked.now.places c.in_ok-point.point c.requires.rooted c.requires.placed c.in_ok-point.ensures)

pub returns-clause-point : goal.returns-clause-point
returns-clause-point c =
    rw (c.as_slice.ensures)
    (seen_at c.args.linked.now.program c.args.linked.now.places c.in_ok-point.point c.requires.rooted c.requires.placed c.in_ok-point.ensures)

pub returns-clause-inside : goal.returns-clause-inside
returns-clause-inside c =
    rw (c.as_slice.ensures)
    (is_point c.args.linked.now.program c.args.linked.now.places c.in_ok-point.point c.requires.rooted c.requires.placed c.in_ok-point.ensures)

pub returns-clause-address : goal.returns-clause-address
returns-clause-address c =
    rw (c.as_slice.ensures)
    (entry_is c.args.linked.now.program c.args.linked.now.places c.in_ok-point.point c.requires.rooted c.requires.placed c.in_ok-point.ensures)

pub returns-clause-within : goal.returns-clause-within
returns-clause-within c =
    rw (c.as_slice.ensures)
    (entry_inside c.args.linked.now.program c.args.linked.now.places c.in_ok-point.point c.requires.rooted c.requires.placed c.in_ok-point.ensures)

pub overflow_add-result : goal.overflow_add-result
overflow_add-result c =
    let inside : slice_index_or c.as_slice.result.now c.in_ok-point.point.section 0 + c.in_ok-point.point.offset ≤ module_length (alone c.args.linked.now.program) =
    rw (c.as_slice.ensures)
    (entry_inside c.args.linked.now.program c.args.linked.now.places c.in_ok-point.point c.requires.rooted c.requires.placed c.in_ok-point.ensures) in
    let small : slice_index_or c.as_slice.result.now c.in_ok-point.point.section 0 + c.in_ok-point.point.offset ≤ 4194304 = omega (arith, inside, c.requires.placed.short) in
    Fits-below tt small
