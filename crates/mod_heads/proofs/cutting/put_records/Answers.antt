use Rattle.std.proofs.Common.{◌+◌, ◌*◌, arith, sym, subst}
use Rattle.load_recs.specs.Records.{IsRecord}
use Rattle.mod_heads.specs.Cut.{record_as, most_in}
use Rattle.mod_heads.proofs.Fitting.{chunk_is_record, record_more, records_all, stored_more}
use Rattle.mod_heads.proofs.cutting.put_records.Goals as goal

pub record-requires-clause-items : goal.record-requires-clause-items
record-requires-clause-items c =
    subst (λ l. IsRecord (record_as c.args.kind (c.loop-k.k * most_in c.args.kind + 1) l)) (sym c.cut.ensures)
    (chunk_is_record c.args.kind c.args.items.now c.loop-k.k c.requires.items (omega (arith, c.loop-k-test.true)))

pub loop-k-preserved : goal.loop-k-preserved
loop-k-preserved c = record {
  records = record_more c.args.kind c.args.items.now c.loop-k.k c.args.records.now c.loop-k.records c.push.new.self c.in_ok-record.field-0 c.cut.result.now
      c.cut.ensures c.in_ok-record.ensures.bytes c.loop-k.invariant.records c.in_ok-push.ensures.ok;
  sizes = stored_more c.loop-k.records c.push.new.self c.in_ok-record.field-0 c.loop-k.invariant.sizes c.in_ok-record.ensures.size c.in_ok-push.ensures.ok;
}

pub returns-clause-records : goal.returns-clause-records
returns-clause-records c =
    records_all c.args.kind c.args.items.now c.loop-k.k c.args.records.now c.loop-k.records (omega (arith, c.loop-k-test.false)) c.loop-k.invariant.records
