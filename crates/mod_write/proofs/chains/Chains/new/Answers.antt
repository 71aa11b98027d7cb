use Rattle.std.proofs.Common.{◌≡◌, ◌+◌, ◌-◌, ◌<◌, ℕ, length, map, replicate, get_or, ap, ◌∙◌, length-set, arith}
use Rattle.std.specs.List.{range_with_len}
use Rattle.std.proofs.lemmas.List.{length-replicate, get_or_default}
use Rattle.sym_mod.specs.declared.program.Constant.{Constant}
use Rattle.mod_write.specs.Chained.{next_in}
use Rattle.mod_write.proofs.Chaining.{first_none, first_more, first_read, next_more}
use Rattle.mod_write.proofs.chains.Chains.new.Goals as goal

pub loop-place-init : goal.loop-place-init
loop-place-init c =
    let count : ℕ = length c.args.constants.now in
    let first : c.in_ok-first.first.items ≡ replicate c.args.sections count = c.in_ok-first.ensures.items_if_clones_equal (λ y same. same) in
    let next : c.in_ok-next.next.items ≡ replicate count count = c.in_ok-next.ensures.items_if_clones_equal (λ y same. same) in
    record {
      first = first ∙ first_none c.args.constants.now c.args.sections;
      each = ap length next ∙ length-replicate count count;
      next = λ k d from below read. absurd (omega (arith, from, below));
    }

pub loop-place-preserved : goal.loop-place-preserved
loop-place-preserved c =
    let cs = c.args.constants.now in
    let n = c.args.sections in
    let k : ℕ = c.loop-place.place - 1 in
    let up : c.loop-place.place ≡ k + 1 = omega (arith, c.loop-place-test.true) in
    let below : k < length cs = omega arith in
    let constant : Constant = get_or cs k c.index-constants-place.result in
    let at : constant ≡ get_or cs k constant = get_or_default cs k c.index-constants-place.result constant below in
    let within : constant.section < n = c.requires k c.index-constants-place.result below in
    let first = c.loop-place.invariant.first ∙ ap (λ m. map (λ i. next_in cs i m) (range_with_len 0 n)) up in
    let read : c.index.result.now ≡ get_or c.loop-place.first.items constant.section c.index.result.now = c.index.ensures in
    record {
      first = first_more cs k n constant below at c.loop-place.first.items within first;
      each = length-set c.loop-place.next.items k c.index.result.now ∙ c.loop-place.invariant.each;
      next = next_more cs k n constant below at c.loop-place.next.items c.index.result.now c.loop-place.invariant.each
          (first_read cs k n constant below at c.loop-place.first.items c.index.result.now within first read)
          (λ j d from. c.loop-place.invariant.next j d (omega (arith, from, up)));
    }
