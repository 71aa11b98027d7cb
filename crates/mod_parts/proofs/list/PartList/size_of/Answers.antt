use Rattle.std.proofs.Common.{arith, ◌-◌, ◌∙◌, ap, length, refl, slice_index}
use Rattle.linking_model.specs.Places.{end_of}
use Rattle.mod_parts.proofs.Addressed.{IsAt, end_at, end_near}
use Rattle.mod_parts.proofs.list.PartList.size_of.Goals as goal

pub bounds-as_slice-s : goal.bounds-as_slice-s
bounds-as_slice-s c =
    let at : IsAt c.args.a.now.ends (c.args.s - 1) (end_of c.args.self.now c.args.s) =
    end_at c.args.self.now c.args.a.now (c.args.s - 1) c.args.s c.requires.places c.requires.first c.requires.last refl in
    omega (arith, at.inside, ap length c.as_slice.ensures)

pub overflow_sub-result-2 : goal.overflow_sub-result-2
overflow_sub-result-2 c =
    let at : IsAt c.args.a.now.ends (c.args.s - 1) (end_of c.args.self.now c.args.s) =
    end_at c.args.self.now c.args.a.now (c.args.s - 1) c.args.s c.requires.places c.requires.first c.requires.last refl in
    omega (arith, ap (λ l. slice_index l (c.args.s - 1)) c.as_slice.ensures ∙ at.value, c.origin_of.ensures.origin)

pub returns-clause-size : goal.returns-clause-size
returns-clause-size c =
    let at : IsAt c.args.a.now.ends (c.args.s - 1) (end_of c.args.self.now c.args.s) =
    end_at c.args.self.now c.args.a.now (c.args.s - 1) c.args.s c.requires.places c.requires.first c.requires.last refl in
    omega (arith, ap (λ l. slice_index l (c.args.s - 1)) c.as_slice.ensures ∙ at.value, c.origin_of.ensures.origin)

pub returns-clause-short : goal.returns-clause-short
returns-clause-short c =
    let at : IsAt c.args.a.now.ends (c.args.s - 1) (end_of c.args.self.now c.args.s) =
    end_at c.args.self.now c.args.a.now (c.args.s - 1) c.args.s c.requires.places c.requires.first c.requires.last refl in
    omega (
      arith,
      ap (λ l. slice_index l (c.args.s - 1)) c.as_slice.ensures ∙ at.value,
      end_near c.args.self.now c.args.a.now c.args.s c.requires.places c.requires.first c.requires.last,
    )
