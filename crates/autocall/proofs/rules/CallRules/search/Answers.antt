use Rattle.std.proofs.Common.{◌∙◌, ◌≤◌, None, sym, subst}
use Rattle.autocall.specs.Searched.{Searches}
use Rattle.autocall.proofs.Searching.{found_none}
use Rattle.autocall.proofs.rules.CallRules.search.Goals as goal

pub returns : goal.returns
returns c =
    let past : c.places.result ≤ c.loop-place.place = subst (λ n. n ≤ c.loop-place.place) (c.places-place-end.ensures ∙ sym c.places.ensures) c.loop-place-test.false in
    subst (λ n. Searches c.args.self.now c.args.m.now c.args.sets.now c.args.start n None) (sym c.max.ensures)
    (found_none c.args.self.now c.args.m.now c.args.sets.now c.args.start c.places.result c.loop-place.place c.places.ensures past c.loop-place.invariant)
