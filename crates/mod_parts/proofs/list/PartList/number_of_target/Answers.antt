use Rattle.std.proofs.Common.{◌<◌, arith, length, ap, subst}
use Rattle.mod_parts.specs.Seen.{IsTargetOf}
use Rattle.mod_parts.specs.Listed.{ListsParts}
use Rattle.mod_parts.proofs.Counted.{few_items}
use Rattle.mod_parts.proofs.Targeted.{section_number, label_number, unresolved_number, register_number, total_number}
use Rattle.mod_parts.proofs.list.PartList.number_of_target.Goals as goal

pub number_after-requires : goal.number_after-requires
number_after-requires c =
    let l : ListsParts c.args.self.now c.self.inside.segments c.self.inside.count c.self.inside.numbers =
    subst (λ P. ListsParts P c.self.inside.segments c.self.inside.count c.self.inside.numbers) c.self.view_is c.self.invariant in
    let one : c.in-Label.label < length c.args.self.now.program.labels = subst (IsTargetOf c.args.self.now.program) c.in-Label.is c.requires in
    omega (arith, few_items c.args.self.now l.can, one)

pub number_after-requires-in-Unresolved : goal.number_after-requires-in-Unresolved
number_after-requires-in-Unresolved c =
    let l : ListsParts c.args.self.now c.self.inside.segments c.self.inside.count c.self.inside.numbers =
    subst (λ P. ListsParts P c.self.inside.segments c.self.inside.count c.self.inside.numbers) c.self.view_is c.self.invariant in
    let one : c.in-Unresolved.name < length c.args.self.now.program.unresolved = subst (IsTargetOf c.args.self.now.program) c.in-Unresolved.is c.requires in
    omega (arith, few_items c.args.self.now l.can, one, ap (λ P. length P.program.labels) c.self.view_is)

pub number_after-requires-in-Register : goal.number_after-requires-in-Register
number_after-requires-in-Register c =
    let l : ListsParts c.args.self.now c.self.inside.segments c.self.inside.count c.self.inside.numbers =
    subst (λ P. ListsParts P c.self.inside.segments c.self.inside.count c.self.inside.numbers) c.self.view_is c.self.invariant in
    let one : c.in-Register.register < length c.args.self.now.program.registers = subst (IsTargetOf c.args.self.now.program) c.in-Register.is c.requires in
    omega (arith, few_items c.args.self.now l.can, one, ap (λ P. length P.program.labels) c.self.view_is, ap (λ P. length P.program.unresolved) c.self.view_is)

pub returns-in-Section : goal.returns-in-Section
returns-in-Section c = rw c.in-Section.is (section_number c.args.self.now c.in-Section.section c.number_of.result c.number_of.ensures)

pub returns-in-Label : goal.returns-in-Label
returns-in-Label c = rw c.in-Label.is (label_number c.args.self.now c.in-Label.label c.number_after.result c.number_after.ensures)

pub returns-in-Unresolved : goal.returns-in-Unresolved
returns-in-Unresolved c =
    rw c.in-Unresolved.is
    (unresolved_number c.args.self.now c.in-Unresolved.name c.number_after-in-Unresolved.result
    (omega (arith, c.number_after-in-Unresolved.ensures, ap (λ P. length P.program.labels) c.self.view_is)))

pub returns-in-Register : goal.returns-in-Register
returns-in-Register c =
    rw c.in-Register.is
    (register_number c.args.self.now c.in-Register.register c.number_after-in-Register.result
    (omega (arith, c.number_after-in-Register.ensures, ap (λ P. length P.program.labels) c.self.view_is, ap (λ P. length P.program.unresolved) c.self.view_is)))

pub returns-in-Total : goal.returns-in-Total
returns-in-Total c = rw c.in-Total.is (total_number c.args.self.now)
