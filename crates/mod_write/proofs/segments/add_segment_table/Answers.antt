use Rattle.std.proofs.Common.{refl}
use Rattle.member_model.specs.Chunks.{part_items}
use Rattle.mod_write.proofs.segments.add_segment_table.Goals as goal

pub placed-part-requires-clause-items : goal.placed-part-requires-clause-items
unfolding part_items
placed-part-requires-clause-items g c = refl
