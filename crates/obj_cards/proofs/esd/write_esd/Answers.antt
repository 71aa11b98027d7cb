use Rattle.std.proofs.Common.{◌*◌, ◌++◌, ◌∙◌, ap, sym, subst, length, take, drop}
use Rattle.std.proofs.lemmas.List.{take_all}
use Rattle.std.specs.List.{AllByRecursion, flat_map}
use Rattle.byteorder.specs.Endian.{big_bytes}
use Rattle.obj_cards.specs.Columns.{card_with}
use Rattle.obj_cards.specs.Esd.{esd_bytes, esd_card}
use Rattle.obj_cards.proofs.EsdLaws.{HasLongName, esd_again, with_items}
use Rattle.obj_cards.proofs.esd.write_esd.Goals as goal

pub returns-clause-spelled : goal.returns-clause-spelled
returns-clause-spelled c =
    let all = take_all c.loop-item.item-index c.used-items.result.now c.loop-item-test.false ∙ c.used-items.ensures.value in
    let text = c.loop-item.invariant.written ∙ ap (flat_map esd_bytes) all in
    let sized = c.put16.ensures ∙ ap (λ h. take 10 h ++ big_bytes 2 (16 * c.from.result) ++ drop 12 h) c.blank_head-head.ensures in
    let headed = c.put16-2.ensures ∙ ap (λ h. take 14 h ++ big_bytes 2 c.args.e.now.esdid ++ drop 16 h) sized in
    c.padded_card.ensures ∙ ap (λ h. card_with (h ++ take c.loop-item.end c.loop-item.body)) headed
    ∙ ap (λ n. with_items n c.args.e.now.esdid (take c.loop-item.end c.loop-item.body)) c.from.ensures ∙ ap (with_items c.args.e.now.count c.args.e.now.esdid) text

pub returns-clause-read_back : goal.returns-clause-read_back
returns-clause-read_back c =
    let all = take_all c.loop-item.item-index c.used-items.result.now c.loop-item-test.false ∙ c.used-items.ensures.value in
    ap esd_card (returns-clause-spelled c) ∙ esd_again c.args.e.now (ap length (sym c.used-items.ensures.value) ∙ c.used-items.ensures.len) (subst (AllByRecursion HasLongName) all c.loop-item.invariant.long) c.requires
