use Rattle.std.proofs.Common.{◌≤◌, ◌++◌, ◌∙◌, ap, sym, length, take, drop, arith, false}
use Rattle.std.proofs.lemmas.List.{get_or_default}
use Rattle.byteorder.specs.Endian.{big_bytes}
use Rattle.obj_cards.specs.Columns.{card_with}
use Rattle.obj_cards.specs.Rld.{rld_bytes, rld_card, unused_rld}
use Rattle.obj_cards.proofs.RldLaws.{spelled_room, spelled_all, rld_written, rld_again}
use Rattle.obj_cards.proofs.rld.write_rld.Goals as goal

pub put_pointers-end-requires-clause-room : goal.put_pointers-end-requires-clause-room
put_pointers-end-requires-clause-room c =
    let room : length (rld_bytes false c.used-items.result.now) ≤ 56 = rw c.used-items.ensures.value c.requires.room in
    let fits = spelled_room c.loop-item.body c.loop-item.end c.loop-item.omitted c.loop-item.item-index c.used-items.result.now _ room c.loop-item-test.true (get_or_default c.used-items.result.now c.loop-item.item-index _ unused_rld c.loop-item-test.true) c.loop-item.invariant in
    omega (arith, fits)

pub put_field-end-requires-clause-room : goal.put_field-end-requires-clause-room
put_field-end-requires-clause-room c =
    let room : length (rld_bytes false c.used-items.result.now) ≤ 56 = rw c.used-items.ensures.value c.requires.room in
    let fits = spelled_room c.loop-item.body c.loop-item.end c.loop-item.omitted c.loop-item.item-index c.used-items.result.now _ room c.loop-item-test.true (get_or_default c.used-items.result.now c.loop-item.item-index _ unused_rld c.loop-item-test.true) c.loop-item.invariant in
    omega (arith, fits, c.put_pointers-end.ensures.end)

pub returns-clause-spelled : goal.returns-clause-spelled
returns-clause-spelled c =
    let head_is = c.put16.ensures ∙ ap (λ h. take 10 h ++ big_bytes 2 c.loop-item.end ++ drop 12 h) c.blank_head-head.ensures in
    let card_is = c.padded_card.ensures ∙ ap (λ h. card_with (h ++ take c.loop-item.end c.loop-item.body)) head_is in
    rld_written c.args.c.now c.padded_card.result c.loop-item.body c.loop-item.end c.used-items.result.now c.used-items.ensures.value card_is c.loop-item.invariant.places c.loop-item.invariant.within
    (spelled_all c.loop-item.body c.loop-item.end c.loop-item.omitted c.loop-item.item-index c.used-items.result.now c.loop-item-test.false c.loop-item.invariant)

pub returns-clause-read_back : goal.returns-clause-read_back
returns-clause-read_back c =
    ap rld_card (returns-clause-spelled c) ∙ rld_again c.args.c.now (ap length (sym c.used-items.ensures.value) ∙ c.used-items.ensures.len) c.requires
