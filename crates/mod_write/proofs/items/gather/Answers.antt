use Rattle.std.proofs.Common.{◌≡◌, ◌+◌, ◌<◌, ◌≤◌, ◌++◌, List, length, drop, get_or, sym, ap, subst, ◌∙◌, arith}
use Rattle.sym_mod.specs.declared.program.Constant.{Constant}
use Rattle.mod_write.specs.Chained.{next_in}
use Rattle.mod_write.specs.Items.{terms_in}
use Rattle.mod_write.proofs.Chaining.{BeginsIn, begins_in, skipped, is_own, terms_more, terms_whole, chain_first, firsts_counted, chain_next, goes_on}
use Rattle.mod_write.proofs.items.gather.Goals as goal
use Rattle.mod_write.proofs.items.gather.Goals.{After-index-place-in-loop-place}

all_constants : (c : After-index-place-in-loop-place) → c.as_slice-constants.result.now ≡ c.args.list.now.program.constants
all_constants c = c.as_slice-constants.ensures ∙ ap (λ p. p.constants) c.program.ensures.program

below : (c : After-index-place-in-loop-place) → c.loop-place.place < length c.args.list.now.program.constants
below c = subst (λ (cs : List Constant). c.loop-place.place < length cs) (all_constants c) c.loop-place-test.true

at : (c : After-index-place-in-loop-place) → c.index-constants-place.result ≡ get_or c.args.list.now.program.constants c.loop-place.place c.index-constants-place.result
at c = c.index-constants-place.is ∙ ap (λ (cs : List Constant). get_or cs c.loop-place.place c.index-constants-place.result) (all_constants c)

own : (c : After-index-place-in-loop-place) → c.index-constants-place.result.section ≡ c.args.section
own c =
    is_own c.args.list.now.program.constants c.args.section c.loop-place.place c.index-constants-place.result (below c) (at c) c.loop-place.invariant.own

next : (c : After-index-place-in-loop-place) → c.index-place-in-loop-place.result.now ≡ next_in c.args.list.now.program.constants c.args.section (c.loop-place.place + 1)
next c =
    chain_next c.args.list.now.program.constants (length c.args.list.now.program.sections) c.args.section c.loop-place.place c.index-place-in-loop-place.result.now
    c.index-constants-place.result c.args.chains.now c.requires.chained (below c) (at c) (own c) c.index-place-in-loop-place.ensures

pub index-place-requires : goal.index-place-requires
index-place-requires c =
    let count : length c.args.chains.now.first.items ≡ length c.args.list.now.program.sections =
    firsts_counted c.args.list.now.program.constants (length c.args.list.now.program.sections) c.args.chains.now.first.items c.requires.chained.first in
    subst (λ n. c.args.section < n) (sym (c.args.chains.now.first.ok.0 ∙ count)) c.requires.there

pub loop-place-init : goal.loop-place-init
loop-place-init c =
    let P = c.args.list.now in
    let cs = P.program.constants in
    let i = c.args.section in
    let is : c.index-place.result.now ≡ next_in cs i 0 =
    chain_first cs (length P.program.sections) i c.index-place.result.now c.args.chains.now.first.items c.requires.there c.requires.chained.first c.index-place.ensures in
    record {
      so_far = ap (λ v. v ++ terms_in P (drop c.index-place.result.now cs) i) c.clear.ensures.items
          ∙ (ap (λ v. terms_in P (drop v cs) i) is ∙ skipped P cs i 0);
      own = subst (λ v. BeginsIn i (drop v cs)) (sym is) (begins_in cs i 0);
    }

pub loop-place-smaller : goal.loop-place-smaller
loop-place-smaller c =
    let after = (goal.at.loop-place-smaller c).After-index-place-in-loop-place in
    omega (arith, below after, goes_on c.args.list.now.program.constants c.args.section c.loop-place.place c.index-place-in-loop-place.result.now (next after))

pub loop-place-preserved : goal.loop-place-preserved
loop-place-preserved c =
    let P = c.args.list.now in
    let cs = P.program.constants in
    let i = c.args.section in
    let after = (goal.at.loop-place-preserved c).After-index-place-in-loop-place in
    record {
      so_far = terms_more P cs i c.loop-place.place c.index-place-in-loop-place.result.now c.index-constants-place.result c.loop-place.items.items c.add_terms.new.items.items (terms_in P cs i)
          (below after) (at after) (own after) (next after) c.loop-place.invariant.so_far c.in_ok-add_terms.ensures;
      own = subst (λ v. BeginsIn i (drop v cs)) (sym (next after)) (begins_in cs i (c.loop-place.place + 1));
    }

pub returns : goal.returns
returns c =
    let P = c.args.list.now in
    let same : c.as_slice-constants.result.now ≡ P.program.constants = c.as_slice-constants.ensures ∙ ap (λ p. p.constants) c.program.ensures.program in
    terms_whole P P.program.constants c.args.section c.loop-place.place c.loop-place.items.items (terms_in P P.program.constants c.args.section)
    (subst (λ (cs : List Constant). length cs ≤ c.loop-place.place) same c.loop-place-test.false) c.loop-place.invariant.so_far
