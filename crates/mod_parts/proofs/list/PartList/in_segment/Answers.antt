use Rattle.std.proofs.Common.{refl, sym, subst}
use Rattle.mod_parts.specs.Listed.{ListsParts}
use Rattle.mod_parts.proofs.Present.{segment_listed, segment_there, segment_present}
use Rattle.mod_parts.proofs.list.PartList.in_segment.Goals as goal

pub returns-in-Some-clause-parts : goal.returns-in-Some-clause-parts
returns-in-Some-clause-parts c =
    let l : ListsParts c.args.self.now c.self.inside.segments c.self.inside.count c.self.inside.numbers =
    subst (λ P. ListsParts P c.self.inside.segments c.self.inside.count c.self.inside.numbers) c.self.view_is c.self.invariant in
    rw c.as_slice.ensures (segment_listed c.args.self.now c.self.inside.segments _ c.args.s c.in-Some.parts.now l.segments c.requires.first c.requires.last refl (sym c.in-Some.ensures))

pub returns-in-Some-clause-among : goal.returns-in-Some-clause-among
returns-in-Some-clause-among c =
    let l : ListsParts c.args.self.now c.self.inside.segments c.self.inside.count c.self.inside.numbers =
    subst (λ P. ListsParts P c.self.inside.segments c.self.inside.count c.self.inside.numbers) c.self.view_is c.self.invariant in
    rw c.as_slice.ensures (segment_present c.args.self.now c.self.inside.segments _ c.args.s c.in-Some.parts.now l.segments c.requires.first c.requires.last refl (sym c.in-Some.ensures))

pub returns-in-None-clause-parts : goal.returns-in-None-clause-parts
returns-in-None-clause-parts c =
    let l : ListsParts c.args.self.now c.self.inside.segments c.self.inside.count c.self.inside.numbers =
    subst (λ P. ListsParts P c.self.inside.segments c.self.inside.count c.self.inside.numbers) c.self.view_is c.self.invariant in
    absurd (segment_there c.args.self.now c.self.inside.segments _ c.args.s l.segments c.requires.first c.requires.last refl (sym c.in-None.ensures))
