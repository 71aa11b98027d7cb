use Rattle.std.proofs.Common.{arith}
use Rattle.std.proofs.lemmas.List.{length_push}
use Rattle.pds_directory.proofs.Walk.{record_taken, record_wanting, image_ends, image_goes_on}
use Rattle.pds_directory.proofs.places.read_records.Goals as goal

pub returns-in-None-clause-gives : goal.returns-in-None-clause-gives
returns-in-None-clause-gives c =
    record_wanting c.args.h.now.records c.loop-k.k c.args.h.now c.args.image.now c.loop-k.at c.loop-k.places.items _
    c.loop-k-test.true c.in-None.ensures.value c.loop-k.invariant.2

pub loop-k-preserved : goal.loop-k-preserved
loop-k-preserved c =
    rw c.in_ok-push-in-Some.ensures.items (
      c.in-Some.ensures.within,
      omega (arith, length_push c.loop-k.places.items c.in-Some.s, c.loop-k.invariant.1),
      record_taken c.args.h.now.records c.loop-k.k c.args.h.now c.args.image.now c.loop-k.at c.loop-k.places.items c.in-Some.s _
          c.loop-k-test.true c.in-Some.ensures.value c.loop-k.invariant.2,
    )

pub returns-then-image-at-clause-gives : goal.returns-then-image-at-clause-gives
returns-then-image-at-clause-gives c =
    image_goes_on c.args.h.now.records c.loop-k.k c.args.h.now c.args.image.now c.loop-k.at c.loop-k.places.items _
    c.loop-k-test.false (omega arith) (λ e. omega arith) c.loop-k.invariant.2

pub returns-clause-gives : goal.returns-clause-gives
returns-clause-gives c =
    image_ends c.args.h.now.records c.loop-k.k c.args.h.now c.args.image.now c.loop-k.at c.loop-k.places.items _
    c.loop-k-test.false (omega arith) c.loop-k.invariant.2
