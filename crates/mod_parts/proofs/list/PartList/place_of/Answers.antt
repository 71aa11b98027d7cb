use Rattle.std.proofs.Common.{◌<◌, ◌≤◌, arith, ◌-◌, ◌∙◌, ap, subst, length, refl, slice_index}
use Rattle.linking_model.specs.Places.{place, table_place}
use Rattle.mod_parts.specs.Listed.{CanBeListed}
use Rattle.mod_parts.specs.Seen.{seen, IsPartOf}
use Rattle.mod_parts.proofs.Addressed.{IsAt, section_at, table_at, part_end}
use Rattle.mod_parts.proofs.list.PartList.place_of.Goals as goal

pub bounds-as_slice-section : goal.bounds-as_slice-section
bounds-as_slice-section c =
    let is : c.in-Section.section < length c.args.self.now.program.sections = subst (λ x. IsPartOf c.args.self.now (seen x)) c.in-Section.is c.requires.part in
    let at : IsAt c.args.a.now.sections c.in-Section.section (place c.args.self.now c.in-Section.section) =
    section_at c.args.self.now c.args.a.now c.in-Section.section c.requires.places is in
    omega (arith, at.inside, ap length c.as_slice.ensures)

pub bounds-as_slice-segment : goal.bounds-as_slice-segment
bounds-as_slice-segment c =
    let is : (1 ≤ c.in-EntryTable.segment) × (c.in-EntryTable.segment ≤ length c.args.self.now.tree) = subst (λ x. IsPartOf c.args.self.now (seen x)) c.in-EntryTable.is c.requires.part in
    let at : IsAt c.args.a.now.tables (c.in-EntryTable.segment - 1) (table_place c.args.self.now c.in-EntryTable.segment) =
    table_at c.args.self.now c.args.a.now (c.in-EntryTable.segment - 1) c.in-EntryTable.segment c.requires.places is.0 is.1 refl in
    omega (arith, at.inside, ap length c.as_slice-in-EntryTable.ensures)

pub returns-in-Section-clause-place : goal.returns-in-Section-clause-place
returns-in-Section-clause-place c =
    let is : c.in-Section.section < length c.args.self.now.program.sections = subst (λ x. IsPartOf c.args.self.now (seen x)) c.in-Section.is c.requires.part in
    let at : IsAt c.args.a.now.sections c.in-Section.section (place c.args.self.now c.in-Section.section) =
    section_at c.args.self.now c.args.a.now c.in-Section.section c.requires.places is in
    rw c.in-Section.is (ap (λ l. slice_index l c.in-Section.section) c.as_slice.ensures ∙ at.value)

pub returns-in-EntryTable-clause-place : goal.returns-in-EntryTable-clause-place
returns-in-EntryTable-clause-place c =
    let is : (1 ≤ c.in-EntryTable.segment) × (c.in-EntryTable.segment ≤ length c.args.self.now.tree) = subst (λ x. IsPartOf c.args.self.now (seen x)) c.in-EntryTable.is c.requires.part in
    let at : IsAt c.args.a.now.tables (c.in-EntryTable.segment - 1) (table_place c.args.self.now c.in-EntryTable.segment) =
    table_at c.args.self.now c.args.a.now (c.in-EntryTable.segment - 1) c.in-EntryTable.segment c.requires.places is.0 is.1 refl in
    rw c.in-EntryTable.is (ap (λ l. slice_index l (c.in-EntryTable.segment - 1)) c.as_slice-in-EntryTable.ensures ∙ at.value)

pub returns-in-Section-clause-end : goal.returns-in-Section-clause-end
returns-in-Section-clause-end c =
    let can : CanBeListed c.args.self.now = subst CanBeListed c.self.view_is c.self.invariant.can in
    rw (returns-in-Section-clause-place c) (part_end c.args.self.now c.args.a.now (seen c.args.part) c.requires.places can c.requires.part)

pub returns-in-EntryTable-clause-end : goal.returns-in-EntryTable-clause-end
returns-in-EntryTable-clause-end c =
    let can : CanBeListed c.args.self.now = subst CanBeListed c.self.view_is c.self.invariant.can in
    rw (returns-in-EntryTable-clause-place c) (part_end c.args.self.now c.args.a.now (seen c.args.part) c.requires.places can c.requires.part)
