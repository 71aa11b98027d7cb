use Rattle.std.proofs.Common.{ℕ, sym, arith}
use Rattle.std.proofs.lemmas.List.{length-drop}
use Rattle.pds_directory.proofs.Blocks.{ascends_push, takes_entry, no_entry_left, last_entry, bad_entry, no_more_tries}
use Rattle.pds_directory.proofs.entries.read_entries.Goals as goal

pub returns-then-is_empty-clause-gives : goal.returns-then-is_empty-clause-gives
returns-then-is_empty-clause-gives c =
    no_entry_left c.args.tries c.loop-tried.tried c.args.h.now c.args.block c.loop-tried.entries.items c.args.end c.loop-tried.rest.now _
    c.loop-tried-test.true (sym c.if-is_empty.ensures) c.loop-tried.invariant.2

pub returns-in-Ok-None-clause-gives : goal.returns-in-Ok-None-clause-gives
returns-in-Ok-None-clause-gives c =
    last_entry c.args.tries c.loop-tried.tried c.args.h.now c.args.block c.loop-tried.entries.items c.args.end c.loop-tried.rest.now _
    c.loop-tried-test.true (sym c.if-is_empty.ensures) (rw (← c.as_slice.ensures.value) (rw c.in-Ok-None.field-0-is at c.in-Ok-None.ensures.gives)) c.loop-tried.invariant.2

pub returns-in-Err-clause-gives : goal.returns-in-Err-clause-gives
returns-in-Err-clause-gives c =
    bad_entry c.in-Err.stop c.args.tries c.loop-tried.tried c.args.h.now c.args.block c.loop-tried.entries.items c.args.end c.loop-tried.rest.now _
    c.loop-tried-test.true (sym c.if-is_empty.ensures) (rw (← c.as_slice.ensures.value) c.in-Err.ensures.gives) c.loop-tried.invariant.2

pub loop-tried-preserved : goal.loop-tried-preserved
loop-tried-preserved c =
    rw (c.in_ok-push-in-Ok-Some.ensures.items, c.after_entry-rest.ensures) (
      omega (arith, length-drop {A = ℕ}, c.loop-tried.invariant.0),
      ascends_push c.loop-tried.entries.items c.in-Ok-Some.listed c.loop-tried.invariant.1 (rw (← c.as_slice.ensures.value) (rw c.in-Ok-Some.field-0-is at c.in-Ok-Some.ensures.above)),
      takes_entry c.args.tries c.loop-tried.tried c.args.h.now c.args.block c.loop-tried.entries.items c.args.end c.loop-tried.rest.now c.in-Ok-Some.listed _
          c.loop-tried-test.true (sym c.if-is_empty.ensures) (rw (← c.as_slice.ensures.value) (rw c.in-Ok-Some.field-0-is at c.in-Ok-Some.ensures.gives)) c.loop-tried.invariant.2,
    )

pub returns-clause-gives : goal.returns-clause-gives
returns-clause-gives c =
    no_more_tries c.args.tries c.loop-tried.tried c.args.h.now c.args.block c.loop-tried.entries.items c.args.end c.loop-tried.rest.now _
    c.loop-tried-test.false c.loop-tried.invariant.2
