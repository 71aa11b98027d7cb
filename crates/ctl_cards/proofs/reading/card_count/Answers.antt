-- What the counts among the first cards say of all cards.
use Rattle.std.proofs.Common.{arith}
use Rattle.ctl_cards.proofs.CardLaws.{counted}
use Rattle.ctl_cards.proofs.reading.card_count.Goals as goal

pub overflow_add-fit : goal.overflow_add-fit
overflow_add-fit c =
    let k = counted c.args.cards.now c.first_cards-near.result.now c.continued-continued.result c.fit-fit.result c.requires c.first_cards-near.ensures c.continued-continued.ensures c.fit-fit.ensures in
    let e = k.fit_is in omega arith

pub overflow_add-result : goal.overflow_add-result
overflow_add-result c =
    let k = counted c.args.cards.now c.first_cards-near.result.now c.continued-continued.result c.fit-fit.result c.requires c.first_cards-near.ensures c.continued-continued.ensures c.fit-fit.ensures in
    let e = k.continued_is in omega arith

pub returns-then-continued-fit : goal.returns-then-continued-fit
returns-then-continued-fit c =
    let k = counted c.args.cards.now c.first_cards-near.result.now c.continued-continued.result c.fit-fit.result c.requires c.first_cards-near.ensures c.continued-continued.ensures c.fit-fit.ensures in
    let a = k.continued_is in let b = k.fit_is in ((omega arith, omega arith), omega arith)

pub returns-then-fit-eq-MOST_CARDS : goal.returns-then-fit-eq-MOST_CARDS
returns-then-fit-eq-MOST_CARDS c =
    let k = counted c.args.cards.now c.first_cards-near.result.now c.continued-continued.result c.fit-fit.result c.requires c.first_cards-near.ensures c.continued-continued.ensures c.fit-fit.ensures in
    let a = k.continued_is in let b = k.fit_is in (omega arith, omega arith)

pub returns-else-fit-eq-MOST_CARDS : goal.returns-else-fit-eq-MOST_CARDS
returns-else-fit-eq-MOST_CARDS c =
    let k = counted c.args.cards.now c.first_cards-near.result.now c.continued-continued.result c.fit-fit.result c.requires c.first_cards-near.ensures c.continued-continued.ensures c.fit-fit.ensures in
    let a = k.continued_is in let b = k.fit_is in (omega arith, omega arith, omega arith)
