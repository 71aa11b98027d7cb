use Rattle.std.proofs.Common.{arith, sym, ◌∙◌}
use Rattle.relocate.proofs.Rest.{one_part, all_parts, taken_rest}
use Rattle.relocate.proofs.writing.write.Goals as goal

pub loop-rest-preserved : goal.loop-rest-preserved
loop-rest-preserved g c =
    let step =
    one_part (g.K.TextKeeper.content c.args.kept.now) (g.K.TextKeeper.content c.loop-rest.kept) (g.K.TextKeeper.content c.write_part-count.new.kept)
    (g.K.TextKeeper.writable c.args.kept.now) (g.K.TextKeeper.writable c.loop-rest.kept) (g.K.TextKeeper.writable c.write_part-count.new.kept)
    c.args.sec c.args.at c.args.bytes.now c.loop-rest.from c.write_part-count.result c.loop-rest.rest.now c.loop-rest.invariant
    c.write_part-count.ensures.most c.write_part-count.ensures.content c.write_part-count.ensures.writable in
    rw taken_rest step

pub returns-clause-content : goal.returns-clause-content
returns-clause-content g c =
    all_parts (g.K.TextKeeper.content c.args.kept.now) (g.K.TextKeeper.content c.loop-rest.kept)
    (g.K.TextKeeper.writable c.args.kept.now) (g.K.TextKeeper.writable c.loop-rest.kept)
    c.args.sec c.args.at c.args.bytes.now c.loop-rest.from c.loop-rest.rest.now c.loop-rest.invariant
    (grind (arith, sym c.is_empty.ensures ∙ c.loop-rest-test.false))
