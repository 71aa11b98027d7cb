use Rattle.std.proofs.Common.{rules, ◌≡◌, ◌+◌, ◌∙◌, set, ap, sym, subst, Err}
use Rattle.obj_cards.specs.Faults.{filled_card}
use Rattle.obj_cards.specs.Esd.{esd_item}
use Rattle.obj_cards.proofs.EsdLaws.{ReadItems, item_read, item_refused, read_more, read_fault, fills, refused}
use Rattle.obj_cards.proofs.esd.read_items.Goals as goal

pub returns-in_err-items-clause-exact : goal.returns-in_err-items-clause-exact
returns-in_err-items-clause-exact c =
    let bad = item_refused (esd_item c.split_at.result.0.now) c.in_err-items.field-0.0 c.in_err-items.ensures.exact in
    let none = read_fault c.loop-k.items c.loop-k.k c.args.count c.loop-k.rest.now c.args.bytes.now c.loop-k-test.true (ap esd_item (sym c.split_at.ensures.front) ∙ bad.0) c.loop-k.invariant in
    let passed : c.from_residual.result ≡ Err c.in_err-items.field-0.0 = search rules in
    ap (λ r. filled_card c.loop-k.items r) passed ∙ refused c.args.count c.args.bytes.now c.in_err-items.field-0.0 none bad.1

pub loop-k-preserved : goal.loop-k-preserved
loop-k-preserved c =
    subst (λ r. ReadItems (set c.loop-k.items c.loop-k.k c.in_ok-items.field-0) (c.loop-k.k + 1) c.args.count r c.args.bytes.now) (sym c.split_at.ensures.back)
    (read_more c.loop-k.items c.loop-k.k c.args.count c.loop-k.rest.now c.args.bytes.now c.in_ok-items.field-0 c.loop-k-test.true c.requires.most
    (ap esd_item (sym c.split_at.ensures.front) ∙ item_read (esd_item c.split_at.result.0.now) c.in_ok-items.field-0 c.in_ok-items.ensures.exact) c.in_ok-items.ensures.in_range c.loop-k.invariant)

pub returns-clause-exact : goal.returns-clause-exact
returns-clause-exact c = fills c.loop-k.items c.loop-k.k c.args.count c.loop-k.rest.now c.args.bytes.now (search rules) c.requires.most c.loop-k.invariant
