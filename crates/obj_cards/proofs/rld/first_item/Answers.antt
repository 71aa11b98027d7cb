use Rattle.std.proofs.Common.{◌≡◌, ◌-◌, sym, subst, length, take, drop, Err}
use Rattle.std.specs.Prelude.{IfOk, IfErr}
use Rattle.std.proofs.lemmas.List.{take_rest}
use Rattle.obj_cards.specs.Rld.{rld_items, with_first, pointers_after}
use Rattle.obj_cards.proofs.RldLaws.{short_item, field_behind}
use Rattle.obj_cards.proofs.rld.first_item.Goals as goal

pub returns-then-bytes-lt8-clause-fault : goal.returns-then-bytes-lt8-clause-fault
returns-then-bytes-lt8-clause-fault c = rw c.in-None.is (short_item c.args.bytes.now c.requires c.if-bytes-lt8.true)

pub returns-else-bytes-lt8-clause-item : goal.returns-else-bytes-lt8-clause-item
returns-else-bytes-lt8-clause-item c =
    let same = field_behind c.args.shared c.args.bytes.now (take (length c.args.bytes.now - 4) (drop 4 c.args.bytes.now)) c.num16.result c.num16-in-None.result c.in-None.is c.if-bytes-lt8.false c.num16.ensures.number c.num16-in-None.ensures.number (take_rest c.args.bytes.now 4) in
    subst (λ y. IfOk c.field_item-in-None.result (λ x. y ≡ with_first x.0 (rld_items (pointers_after x.0) x.1.now))) (sym same) c.field_item-in-None.ensures.item

pub returns-else-bytes-lt8-clause-fault : goal.returns-else-bytes-lt8-clause-fault
returns-else-bytes-lt8-clause-fault c =
    let same = field_behind c.args.shared c.args.bytes.now (take (length c.args.bytes.now - 4) (drop 4 c.args.bytes.now)) c.num16.result c.num16-in-None.result c.in-None.is c.if-bytes-lt8.false c.num16.ensures.number c.num16-in-None.ensures.number (take_rest c.args.bytes.now 4) in
    subst (λ y. IfErr c.field_item-in-None.result (λ e. y ≡ Err e)) (sym same) c.field_item-in-None.ensures.fault
