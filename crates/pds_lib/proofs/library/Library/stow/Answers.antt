use Rattle.std.proofs.Common.{◌≡◌, sym, subst, map, Ok, Err}
use Rattle.pds_lib.specs.Contents.{Contents}
use Rattle.pds_lib.specs.Stored.{held}
use Rattle.pds_lib.specs.Stow.{Stows, stowed, MayStow}
use Rattle.pds_lib.proofs.StowLaws.{lib_of, refused_is, stow_ends, stow_holds}
use Rattle.pds_lib.proofs.StowSound.{stow_sound}
use Rattle.pds_lib.proofs.library.Library.stow.Goals as goal

pub returns-in-Err-clause-stows : goal.returns-in-Err-clause-stows
returns-in-Err-clause-stows c =
    subst (λ (v : Contents). Stows v c.args.m c.args.replace (Err c.in-Err.fault) v) c.self.view_is
    (refused_is c.self.inside.version c.self.inside.kind c.self.inside.image.items c.self.inside.places.items c.self.inside.given.items c.self.inside.table c.args.m c.args.replace c.in-Err.fault
    c.self.invariant.2 (rw (← c.as_slice.ensures.value, ← c.as_slice-2.ensures.value, ← c.rows.ensures.rows) c.in-Err.ensures.gives))

pub invariant_of-self-2 : goal.invariant_of-self-2
invariant_of-self-2 c =
    let held = stow_holds c.self.inside.image.items c.self.inside.places.items c.self.inside.given.items c.push.new.self.items c.self.inside.table c.in-Ok.rows.items c.in_ok-table.table c.args.m c.args.replace
    c.self.invariant.0 c.self.invariant.1 c.self.invariant.2
    (rw (← c.as_slice-2.ensures.value, ← c.rows.ensures.rows) c.in-Ok.ensures.gives.0)
    (rw (← c.as_slice.ensures.value, ← c.as_slice-2.ensures.value, ← c.rows.ensures.rows) (c.in-Ok.ensures.gives.1 c.self.inside.image.items))
    c.in_ok-push.ensures.items c.in_ok-table.ensures in
    let stowed_is = stow_ends c.self.inside.version c.self.inside.kind c.self.inside.image.items c.self.inside.places.items c.self.inside.given.items c.push.new.self.items c.self.inside.table c.in-Ok.rows.items c.in_ok-table.table c.args.m c.args.replace
    c.self.invariant.2
    (rw (← c.as_slice-2.ensures.value, ← c.rows.ensures.rows) c.in-Ok.ensures.gives.0)
    (rw (← c.as_slice.ensures.value, ← c.as_slice-2.ensures.value, ← c.rows.ensures.rows) (c.in-Ok.ensures.gives.1 c.self.inside.image.items))
    c.in_ok-push.ensures.items c.in_ok-table.ensures in
    (held.0, held.1, held.2, stow_sound _ c.args.m c.args.replace _ c.self.invariant.3 (subst (λ (v : Contents). MayStow v c.args.m) (sym c.self.view_is) c.requires) c.in-Ok.ensures.widths stowed_is)

pub returns-clause-stows : goal.returns-clause-stows
returns-clause-stows c =
    subst (λ (v : Contents). stowed v c.args.m c.args.replace ≡ Ok (lib_of c.self.inside.version c.self.inside.kind (map (held c.self.inside.image.items c.self.inside.places.items c.push.new.self.items) c.in_ok-table.table))) c.self.view_is
    (stow_ends c.self.inside.version c.self.inside.kind c.self.inside.image.items c.self.inside.places.items c.self.inside.given.items c.push.new.self.items c.self.inside.table c.in-Ok.rows.items c.in_ok-table.table c.args.m c.args.replace
    c.self.invariant.2
    (rw (← c.as_slice-2.ensures.value, ← c.rows.ensures.rows) c.in-Ok.ensures.gives.0)
    (rw (← c.as_slice.ensures.value, ← c.as_slice-2.ensures.value, ← c.rows.ensures.rows) (c.in-Ok.ensures.gives.1 c.self.inside.image.items))
    c.in_ok-push.ensures.items c.in_ok-table.ensures)
