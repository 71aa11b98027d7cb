use Rattle.std.proofs.Common.{◌≡◌, ◌∙◌, sym, refl, max, ◌++◌, ◌∷◌, [], Some}
use Rattle.std.specs.HashMap.{get}
use Rattle.le_bytes.specs.Names.{name_eq}
use Rattle.sym_mod.specs.Kinds.{kind_of, is_cm}
use Rattle.esd_lists.specs.declared.by_name.Area.{Area}
use Rattle.esd_lists.specs.Gathered.{area_in, area_step}
use Rattle.esd_lists.proofs.Gather.{on_ok, grown_other, grown_put}
use Rattle.esd_lists.proofs.gathering.note_area.Goals as goal

pub returns-then-not-is_common : goal.returns-then-not-is_common
unfolding area_step
returns-then-not-is_common c = λ y.
    grown_other (is_cm (kind_of c.args.x.now.item)) (λ (a : Area). record { users = a.users ++ c.args.x.now.segment ∷ []; length = max a.length c.args.x.now.item.length }) c.args.x.now.item.name y (area_in (get name_eq c.args.areas.now y)) (sym c.is_common.ensures ∙ c.if-not-is_common.true)

pub returns : goal.returns
unfolding area_step
returns c = on_ok c.put.result _ _ c.put.ensures (λ h y.
    let w : Area → Area = λ (a : Area). record { users = a.users ++ c.args.x.now.segment ∷ []; length = max a.length c.args.x.now.item.length } in
    let taken : c.take_area-area.result ≡ area_in (get name_eq c.args.areas.now c.args.x.now.item.name) = c.take_area-area.ensures.value in
    let made : Area = record { users = c.push.new.self; length = c.max.result } in
    let is : area_in (Some made) ≡ w (area_in (get name_eq c.args.areas.now c.args.x.now.item.name)) = rw (c.in_ok-push.ensures.ok, c.max.ensures, taken) refl in
    grown_put area_in (is_cm (kind_of c.args.x.now.item)) w c.args.x.now.item.name y made (get name_eq c.args.areas.now) (get name_eq c.put.new.map y) (get name_eq c.take_area-area.new.areas y) (sym c.is_common.ensures ∙ c.if-not-is_common.false) is (λ e. c.take_area-area.ensures.others y e) (h y))
