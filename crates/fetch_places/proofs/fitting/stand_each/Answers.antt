use Rattle.std.proofs.Common.{All, subst, sym, ◌∙◌}
use Rattle.fetch_places.specs.Extents.{EndsLow, StandApart}
use Rattle.fetch_places.proofs.fitting.stand_each.Goals as goal

pub returns : goal.returns
returns c = (
  λ t. record {
    each = c.if-addresses-section_count.false ∙ c.section_count.ensures;
    low = subst (All EndsLow) (c.deref.ensures.value ∙ c.in_ok-extents.ensures) (c.end_low.ensures.0 c.if-not-end_low.false);
    apart = subst StandApart c.in_ok-extents.ensures (c.stand_apart.ensures.0 t);
  },
  λ s. c.stand_apart.ensures.1 (subst StandApart (sym c.in_ok-extents.ensures) s.apart),
)
