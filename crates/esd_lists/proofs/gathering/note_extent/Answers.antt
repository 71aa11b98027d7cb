use Rattle.std.proofs.Common.{◌≡◌, ◌∙◌, sym, refl, max, Some}
use Rattle.std.specs.HashMap.{get}
use Rattle.le_bytes.specs.Names.{name_eq}
use Rattle.sym_mod.specs.Kinds.{is_register}
use Rattle.esd_lists.specs.declared.by_name.Extent.{Extent}
use Rattle.esd_lists.specs.Gathered.{extent_in, extent_step}
use Rattle.esd_lists.proofs.Gather.{on_ok, grown_other, grown_put}
use Rattle.esd_lists.proofs.gathering.note_extent.Goals as goal

pub returns-then-not-is_register : goal.returns-then-not-is_register
unfolding extent_step
returns-then-not-is_register c = λ y.
    grown_other (is_register c.args.x.now.item.kind) (λ (e : Extent). record { length = max e.length c.args.x.now.item.length; align = max e.align c.args.x.now.item.align }) c.args.x.now.item.name y (extent_in (get name_eq c.args.extents.now y)) (sym c.is_register.ensures ∙ c.if-not-is_register.true)

pub returns : goal.returns
unfolding extent_step
returns c = on_ok c.put.result _ _ c.put.ensures (λ h y.
    let w : Extent → Extent = λ (e : Extent). record { length = max e.length c.args.x.now.item.length; align = max e.align c.args.x.now.item.align } in
    let made : Extent = record { length = c.max.result; align = c.max-2.result } in
    let is : extent_in (Some made) ≡ w (extent_in (get name_eq c.args.extents.now c.args.x.now.item.name)) = rw (c.max.ensures, c.max-2.ensures, c.extent_at-extent.ensures) refl in
    grown_put extent_in (is_register c.args.x.now.item.kind) w c.args.x.now.item.name y made (get name_eq c.args.extents.now) (get name_eq c.put.new.map y) (get name_eq c.args.extents.now y) (sym c.is_register.ensures ∙ c.if-not-is_register.false) is (λ e. refl) (h y))
