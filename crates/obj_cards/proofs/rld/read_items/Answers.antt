use Rattle.std.proofs.Common.{rules, ◌≡◌, ◌+◌, set, [], ap, sym, subst, arith}
use Rattle.std.proofs.lemmas.List.{nil_from_length}
use Rattle.obj_cards.specs.Rld.{rld_with}
use Rattle.obj_cards.proofs.RldLaws.{ReadSoFar, read_more, read_open, read_ok, read_is_card, read_all}
use Rattle.obj_cards.proofs.rld.read_items.Goals as goal

pub loop-rest-preserved : goal.loop-rest-preserved
loop-rest-preserved c =
    subst (λ s. ReadSoFar (set c.loop-rest.card.items c.loop-rest.count c.in_ok-item.item) (c.loop-rest.count + 1) s c.in_ok-item.after.now c.args.bytes.now) (sym c.pointers_after-shared.ensures)
    (read_more c.loop-rest.card.items c.loop-rest.count c.loop-rest.shared c.loop-rest.rest.now c.in_ok-item.after.now c.args.bytes.now c.in_ok-item.item c.loop-rest.invariant c.in_ok-item.ensures.item c.in_ok-item.ensures.shorter)

pub returns-in-Some-clause-exact : goal.returns-in-Some-clause-exact
returns-in-Some-clause-exact c =
    let empty : c.loop-rest.rest.now ≡ [] = nil_from_length c.loop-rest.rest.now (search rules) in
    sym (ap rld_with (read_open c.loop-rest.card.items c.loop-rest.count c.in-Some.field-0 c.loop-rest.rest.now c.args.bytes.now empty (subst (λ s. ReadSoFar c.loop-rest.card.items c.loop-rest.count s c.loop-rest.rest.now c.args.bytes.now) c.in-Some.is c.loop-rest.invariant)))

pub returns-in-None-clause-exact : goal.returns-in-None-clause-exact
returns-in-None-clause-exact c =
    let empty : c.loop-rest.rest.now ≡ [] = nil_from_length c.loop-rest.rest.now (search rules) in
    read_ok c.loop-rest.card.items c.loop-rest.count c.loop-rest.rest.now c.args.bytes.now (omega (arith, c.loop-rest.invariant.room)) empty (subst (λ s. ReadSoFar c.loop-rest.card.items c.loop-rest.count s c.loop-rest.rest.now c.args.bytes.now) c.in-None.is c.loop-rest.invariant)

pub returns-in-None-clause-in_range : goal.returns-in-None-clause-in_range
returns-in-None-clause-in_range c =
    let empty : c.loop-rest.rest.now ≡ [] = nil_from_length c.loop-rest.rest.now (search rules) in
    let far = subst (λ s. ReadSoFar c.loop-rest.card.items c.loop-rest.count s c.loop-rest.rest.now c.args.bytes.now) c.in-None.is c.loop-rest.invariant in
    read_is_card c.loop-rest.card.items c.loop-rest.count c.args.bytes.now (λ k. omega (arith, c.type_inv.bytes k)) c.requires.few (omega (arith, c.loop-rest.invariant.room)) c.loop-rest.invariant.unused
    (read_all c.loop-rest.card.items c.loop-rest.count c.loop-rest.rest.now c.args.bytes.now empty far)
