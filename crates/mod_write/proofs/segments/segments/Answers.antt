use Rattle.std.proofs.Common.{◌+◌, length, All, sym, ap, subst, arith}
use Rattle.std.proofs.lemmas.List.Elements.{All-push}
use Rattle.mod_segments.specs.Records.{IsStored}
use Rattle.mod_write.proofs.Assembled.{segments_more, segments_whole}
use Rattle.mod_write.proofs.segments.segments.Goals as goal

pub loop-i-preserved : goal.loop-i-preserved
loop-i-preserved g c = record {
  made = segments_more c.args.from.now.list.now c.args.from.now.piece c.loop-i.i (c.loop-i.i + 1) c.loop-i.all.items c.push.new.self.items c.in_ok-segment.field-0 (omega arith)
      c.loop-i.invariant.made c.in_ok-segment.ensures.value c.in_ok-push.ensures.items;
  sizes = subst (All (All IsStored)) (sym c.in_ok-push.ensures.items)
      (All-push (All IsStored) c.loop-i.all.items c.in_ok-segment.field-0 c.loop-i.invariant.sizes c.in_ok-segment.ensures.sizes);
}

pub returns-clause-value : goal.returns-clause-value
returns-clause-value g c =
    segments_whole c.args.from.now.list.now c.args.from.now.piece c.loop-i.i c.loop-i.all.items
    (omega (arith, c.loop-i-test.false, c.loop-i.auto.i-end, c.count-count.ensures.count, ap length c.tree.ensures.tree)) c.loop-i.invariant.made
