use Rattle.std.proofs.Common.{arith, rules, ◌+◌, ◌-◌, ◌*◌, ◌++◌, ◌∙◌, ap, length}
use Rattle.linking_model.specs.Linked.{address_of}
use Rattle.relocate.specs.Relocated.{placed_at}
use Rattle.relocate.proofs.Rows.{longer, closed, entab_front, entry_more, entab_whole}
use Rattle.relocate.proofs.tables.entab_bytes.Goals as goal

pub loop-i-preserved : goal.loop-i-preserved
loop-i-preserved c =
    longer (8 + 12 * c.loop-i.i) (8 + 12 * (c.loop-i.i + 1)) _ c.loop-i.out
    (entab_front c.args.p.now (address_of c.args.p.now (placed_at c.args.a.now)) c.entries_of-entries.result.now c.args.seg c.loop-i.i) c.copy_from_slice.new.self
    c.loop-i.invariant (omega (arith, c.requires.size, ap length c.entries_of-entries.ensures)) (omega (arith, ap length (c.copy_from_slice.ensures.after ∙ c.target_entry.ensures)))
    ∙ (ap (λ l. entab_front c.args.p.now (address_of c.args.p.now (placed_at c.args.a.now)) c.entries_of-entries.result.now c.args.seg c.loop-i.i ++ l) (c.copy_from_slice.ensures.after ∙ c.target_entry.ensures)
    ∙ entry_more c.args.p.now (address_of c.args.p.now (placed_at c.args.a.now)) c.entries_of-entries.result.now c.args.seg c.loop-i.i _ (omega arith) (search rules))

pub returns : goal.returns
returns c = λ tree.
    closed (8 + 12 * length c.entries_of-entries.result.now) _ c.loop-i.out (entab_front c.args.p.now (address_of c.args.p.now (placed_at c.args.a.now)) c.entries_of-entries.result.now c.args.seg c.loop-i.i) c.copy_from_slice-2.new.self (search rules) (omega arith)
    ∙ (ap (λ l. entab_front c.args.p.now (address_of c.args.p.now (placed_at c.args.a.now)) c.entries_of-entries.result.now c.args.seg c.loop-i.i ++ l) c.copy_from_slice-2.ensures.after
    ∙ entab_whole (record { program = c.args.p.now; tree = tree; entries = c.args.t.now.entries }) (address_of c.args.p.now (placed_at c.args.a.now)) c.entries_of-entries.result.now c.args.seg c.loop-i.i c.entries_of-entries.ensures c.loop-i-test.false)
