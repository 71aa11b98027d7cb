use Rattle.std.proofs.Common.{◌≡◌, ◌+◌, ◌%◌, ◌<◌, take, sum_by}
use Rattle.linking_model.specs.Linked.{address_of, signed_difference}
use Rattle.relocate.specs.Relocated.{placed_at}
use Rattle.relocate.proofs.relocating.summed.Given as goal

abbrev pub invariant-loop-term : goal.invariant-loop-term
invariant-loop-term l = record {
  sum : l.number ≡ (l.stored + sum_by (λ t. signed_difference l.modulus t.minus (address_of l.p (placed_at l.a) t.target) t.base) (take l.term-index l.terms)) % l.modulus;
  fits : l.number < l.modulus;
}
