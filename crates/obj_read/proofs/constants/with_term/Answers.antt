use Rattle.std.proofs.Common.{◌≡◌, [], List, Some, None, sym, ◌∙◌, ap, subst, take, get_or}
use Rattle.std.specs.List.{position}
use Rattle.std.specs.HashMap.{get}
use Rattle.std.proofs.lemmas.List.{take_more}
use Rattle.obj_cards.specs.declared.card.CardRld.{CardRld}
use Rattle.obj_read.specs.Covered.{byte_eq, place}
use Rattle.obj_read.specs.Module.{same_place, leaders}
use Rattle.obj_read.specs.Placed.{IsGathered}
use Rattle.obj_read.proofs.Gathered.{numbers_joined, within_constants, all_joined, all_new, numbers_all}
use Rattle.obj_read.proofs.constants.with_term.Goals as goal

abbrev nothing : CardRld
nothing = record { r = 0; p = 0; flag = 0; address = 0 }

pub joined-requires : goal.joined-requires
joined-requires c =
    let f : CardRld = get_or c.args.terms.now c.args.k nothing in
    let found : position (same_place f) (leaders [] (take c.args.k c.args.terms.now)) ≡ Some c.in-Some.number =
    sym (c.requires.before.numbers f.p f.address)
    ∙ (ap (λ b. get byte_eq c.args.gathered.numbers (place f.p b)) (sym c.from.ensures)
    ∙ (sym c.get.ensures.value ∙ (sym c.copied.ensures ∙ c.in-Some.is))) in
    within_constants c.args.items.now (take c.args.k c.args.terms.now) f c.args.gathered.constants.items c.requires.before.constants c.in-Some.number found

pub returns-in_ok-constants-in-Some : goal.returns-in_ok-constants-in-Some
returns-in_ok-constants-in-Some c =
    let f : CardRld = get_or c.args.terms.now c.args.k nothing in
    let ts : List CardRld = take c.args.k c.args.terms.now in
    let found : position (same_place f) (leaders [] ts) ≡ Some c.in-Some.number =
    sym (c.requires.before.numbers f.p f.address)
    ∙ (ap (λ b. get byte_eq c.args.gathered.numbers (place f.p b)) (sym c.from.ensures)
    ∙ (sym c.get.ensures.value ∙ (sym c.copied.ensures ∙ c.in-Some.is))) in
    subst (λ xs. IsGathered c.args.items.now xs (record { constants = c.in_ok-constants-in-Some.constants; numbers = c.args.gathered.numbers }))
    (sym (take_more c.args.terms.now c.args.k nothing c.requires.within))
    (record {
      constants = all_joined c.args.items.now ts f c.args.gathered.constants.items c.requires.before.constants c.in-Some.number
          c.in_ok-constants-in-Some.constants.items c.term.result found c.term.ensures c.in_ok-constants-in-Some.ensures;
      numbers = numbers_joined c.args.items.now ts f c.in-Some.number c.args.gathered.numbers found c.requires.before.numbers;
    })

pub returns-in_ok-push-in-None : goal.returns-in_ok-push-in-None
returns-in_ok-push-in-None c =
    let f : CardRld = get_or c.args.terms.now c.args.k nothing in
    let ts : List CardRld = take c.args.k c.args.terms.now in
    let none : position (same_place f) (leaders [] ts) ≡ None =
    sym (c.requires.before.numbers f.p f.address)
    ∙ (ap (λ b. get byte_eq c.args.gathered.numbers (place f.p b)) (sym c.from.ensures)
    ∙ (sym c.get.ensures.value ∙ (sym c.copied.ensures ∙ c.in-None.is))) in
    subst (λ xs. IsGathered c.args.items.now xs (record { constants = c.push.new.self; numbers = c.in_ok-numbers-in-None.numbers }))
    (sym (take_more c.args.terms.now c.args.k nothing c.requires.within))
    (record {
      constants = all_new c.args.items.now ts f c.args.gathered.constants.items c.requires.before.constants
          c.push.new.self.items c.in_ok-alone-in-None.field-0 none c.in_ok-alone-in-None.ensures c.in_ok-push-in-None.ensures.items;
      numbers = numbers_all c.args.items.now ts f c.args.gathered.constants.items c.requires.before.constants
          c.args.gathered.numbers c.in_ok-numbers-in-None.numbers c.from.result c.len.result none c.requires.before.numbers c.from.ensures (c.len.ensures ∙ c.args.gathered.constants.ok.0) c.in_ok-numbers-in-None.ensures;
    })
