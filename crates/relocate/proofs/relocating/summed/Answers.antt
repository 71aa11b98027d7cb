use Rattle.std.proofs.Common.{false, ◌∙◌, ap, ◌+◌, ◌%◌}
use Rattle.sym_mod.specs.declared.program.Target.TheVariants.{Section as InSection}
use Rattle.linking_model.specs.Linked.{address_of, signed_difference}
use Rattle.relocate.specs.Patched.{shift_of}
use Rattle.relocate.specs.Relocated.{placed_at}
use Rattle.relocate.proofs.Sums.{one_more}
use Rattle.relocate.proofs.relocating.summed.Goals as goal

pub loop-term-preserved : goal.loop-term-preserved
loop-term-preserved c = record {
  sum =
      c.shifted-number.ensures.value
      ∙ (ap (λ s. (c.loop-term.number + shift_of c.args.modulus s) % c.args.modulus) c.shift_of.ensures
      ∙ one_more (λ t. signed_difference c.args.modulus t.minus (address_of c.args.p.now (placed_at c.args.a.now) t.target) t.base)
      c.args.terms.now c.loop-term.term-index (record { minus = false; target = InSection 0; base = 0 }) c.args.modulus c.args.stored
      c.loop-term.number c.loop-term-test.true c.loop-term.invariant.sum);
  fits = c.shifted-number.ensures.fits;
}
