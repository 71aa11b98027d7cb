use Rattle.std.proofs.Common.{ap, length, List, ℕ}
use Rattle.pds_image.proofs.length.name_length.Goals as goal

pub returns-clause-value : goal.returns-clause-value
returns-clause-value c = ap (λ (bs : List ℕ). length bs) c.as_slice.ensures
