use Rattle.std.proofs.Common.{refl}
use Rattle.std.specs.HashMap.{get}
use Rattle.member_walk.specs.Fields.{place_eq}
use Rattle.member_walk.proofs.FieldLists.{nothing_held}
use Rattle.member_walk.proofs.fields.Fields.new.Goals as goal

pub invariant_of-result : goal.invariant_of-result
invariant_of-result c = rw c.new.ensures.items (nothing_held (get place_eq c.new-2.result) (λ place. rw c.new-2.ensures.empty refl))
