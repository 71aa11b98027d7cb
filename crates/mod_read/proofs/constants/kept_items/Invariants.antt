use Rattle.std.proofs.Common.{◌≡◌, take}
use Rattle.std.specs.List.{filter}
use Rattle.member_model.specs.ReadBack.{is_kept_at}
use Rattle.member_walk.specs.Fields.{items_of}
use Rattle.mod_read.proofs.constants.kept_items.Given as goal

abbrev pub invariant-loop-field : goal.invariant-loop-field
invariant-loop-field l = l.items.items ≡ filter (λ x. is_kept_at l.numbering x.p) (items_of (take l.field-index l.fields))
