use Rattle.std.proofs.Common.{arith, ◌-◌, ◌∙◌, ap, length, refl, slice_index}
use Rattle.mod_parts.proofs.Addressed.{IsAt, origin_at, end_near}
use Rattle.linking_model.specs.Places.{origin}
use Rattle.mod_parts.proofs.list.PartList.origin_of.Goals as goal

pub bounds-as_slice-s : goal.bounds-as_slice-s
bounds-as_slice-s c =
    let at : IsAt c.args.a.now.origins (c.args.s - 1) (origin c.args.self.now c.args.s) =
    origin_at c.args.self.now c.args.a.now (c.args.s - 1) c.args.s c.requires.places c.requires.first c.requires.last refl in
    omega (arith, at.inside, ap length c.as_slice.ensures)

pub returns-clause-origin : goal.returns-clause-origin
returns-clause-origin c =
    let at : IsAt c.args.a.now.origins (c.args.s - 1) (origin c.args.self.now c.args.s) =
    origin_at c.args.self.now c.args.a.now (c.args.s - 1) c.args.s c.requires.places c.requires.first c.requires.last refl in
    ap (λ l. slice_index l (c.args.s - 1)) c.as_slice.ensures ∙ at.value

pub returns-clause-near : goal.returns-clause-near
returns-clause-near c =
    rw (returns-clause-origin c) (omega (arith, end_near c.args.self.now c.args.a.now c.args.s c.requires.places c.requires.first c.requires.last))
