use Rattle.std.proofs.Common.{◌≡◌, List, Some, None, sym, ◌∙◌, subst, take, get_or}
use Rattle.std.specs.List.{position}
use Rattle.std.proofs.lemmas.List.{take_more}
use Rattle.load_recs.specs.declared.items.RldItem.{RldItem}
use Rattle.linking_model.specs.Names.{firsts}
use Rattle.member_model.specs.Symbols.{same_field}
use Rattle.mod_read.specs.Placed.{IsGathered}
use Rattle.mod_read.proofs.Places.{numbers_joined, within_constants, all_joined, all_new, numbers_all}
use Rattle.mod_read.proofs.constants.with_item.Goals as goal

abbrev nothing : RldItem
nothing = record { r = 0; p = 0; flag = 0; address = 0 }

pub joined-requires : goal.joined-requires
joined-requires c =
    let f : RldItem = get_or c.args.items.now c.args.k nothing in
    let found : position (same_field f) (firsts same_field (take c.args.k c.args.items.now)) ≡ Some c.in-Some.number =
    sym (c.requires.before.numbers f.p f.address) ∙ (sym c.get.ensures.value ∙ (sym c.copied.ensures ∙ c.in-Some.is)) in
    within_constants c.args.numbering.now (take c.args.k c.args.items.now) f c.args.gathered.constants.items c.requires.before.constants c.in-Some.number found

pub returns-in_ok-constants-in-Some : goal.returns-in_ok-constants-in-Some
returns-in_ok-constants-in-Some c =
    let f : RldItem = get_or c.args.items.now c.args.k nothing in
    let xs : List RldItem = take c.args.k c.args.items.now in
    let found : position (same_field f) (firsts same_field xs) ≡ Some c.in-Some.number =
    sym (c.requires.before.numbers f.p f.address) ∙ (sym c.get.ensures.value ∙ (sym c.copied.ensures ∙ c.in-Some.is)) in
    subst (λ ys. IsGathered c.args.numbering.now ys (record { constants = c.in_ok-constants-in-Some.constants; numbers = c.args.gathered.numbers }))
    (sym (take_more c.args.items.now c.args.k nothing c.requires.within))
    (record {
      constants = all_joined c.args.numbering.now xs f c.args.gathered.constants.items c.requires.before.constants c.in-Some.number
          c.in_ok-constants-in-Some.constants.items c.term_of.result found c.term_of.ensures c.in_ok-constants-in-Some.ensures;
      numbers = numbers_joined c.args.numbering.now xs f c.in-Some.number c.args.gathered.numbers found c.requires.before.numbers;
    })

pub returns-in_ok-push-in-None : goal.returns-in_ok-push-in-None
returns-in_ok-push-in-None c =
    let f : RldItem = get_or c.args.items.now c.args.k nothing in
    let xs : List RldItem = take c.args.k c.args.items.now in
    let none : position (same_field f) (firsts same_field xs) ≡ None =
    sym (c.requires.before.numbers f.p f.address) ∙ (sym c.get.ensures.value ∙ (sym c.copied.ensures ∙ c.in-None.is)) in
    subst (λ ys. IsGathered c.args.numbering.now ys (record { constants = c.push.new.self; numbers = c.in_ok-numbers-in-None.numbers }))
    (sym (take_more c.args.items.now c.args.k nothing c.requires.within))
    (record {
      constants = all_new c.args.numbering.now xs f c.args.gathered.constants.items c.requires.before.constants
          c.push.new.self.items c.in_ok-alone-in-None.field-0 none c.in_ok-alone-in-None.ensures c.in_ok-push-in-None.ensures.items;
      numbers = numbers_all c.args.numbering.now xs f c.args.gathered.constants.items c.requires.before.constants
          c.args.gathered.numbers c.in_ok-numbers-in-None.numbers c.len.result none c.requires.before.numbers (c.len.ensures ∙ c.args.gathered.constants.ok.0) c.in_ok-numbers-in-None.ensures;
    })
