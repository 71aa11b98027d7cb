use Rattle.std.proofs.Common.{◌≡◌, sym, ◌∙◌, ap, length}
use Rattle.obj_read.specs.Module.{with_length}
use Rattle.obj_read.proofs.Maps.{indexed_longer}
use Rattle.obj_read.proofs.Positions.{length_of_longer, refilled}
use Rattle.obj_read.proofs.dictionary.Dictionary.give_length.Goals as goal

pub invariant_of-self : goal.invariant_of-self
invariant_of-self c =
    let given : c.give_length.new.items ≡ with_length c.args.given c.self.inside.items.items =
    c.give_length.ensures ∙ ap (λ xs. with_length c.args.given xs) c.as_mut_slice.ensures.value in
    let as_long : length c.self.inside.items.items ≡ length c.give_length.new.items =
    sym (ap (λ xs. length xs) given ∙ length_of_longer c.args.given c.self.inside.items.items) in
    indexed_longer c.args.given c.self.inside.items.items _ (refilled _ c.give_length.new.items c.self.inside.items.items as_long ∙ given)
    c.self.inside.places c.self.invariant
