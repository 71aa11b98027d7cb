use Rattle.std.proofs.Common.{◌≡◌, ◌+◌, ◌∙◌, rules}
use Rattle.mod_read.specs.Numbering.{kept_before}
use Rattle.mod_read.proofs.Counts.{counted_more, kept_step, counts_end}
use Rattle.mod_read.proofs.numbering.counts_of.Goals as goal

pub loop-x-preserved : goal.loop-x-preserved
loop-x-preserved c =
    let count : c.count_with-count.result ≡ kept_before c.args.symbols.now (c.loop-x.x-index + 1) =
    kept_step c.args.symbols.now c.loop-x.x-index _ c.loop-x.count c.count_with-count.result c.loop-x-test.true c.loop-x.invariant.count c.count_with-count.ensures in
    record {
      counted = c.in_ok-push-2.ensures.items ∙ counted_more c.args.symbols.now c.loop-x.x-index c.loop-x.counts.items c.count_with-count.result c.loop-x.invariant.counted count;
      count = count;
    }

pub returns : goal.returns
returns c = counts_end c.args.symbols.now c.loop-x.counts.items c.loop-x.x-index (search rules) c.loop-x.invariant.counted
