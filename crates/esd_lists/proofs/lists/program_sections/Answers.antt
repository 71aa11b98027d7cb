use Rattle.std.proofs.Common.{◌≡◌, ◌∙◌, ap, List, [], map, fold}
use Rattle.std.specs.HashMap.{get}
use Rattle.le_bytes.specs.Names.{name_eq}
use Rattle.esd_index.specs.Contents.{now_of}
use Rattle.esd_lists.specs.declared.by_name.First.{First}
use Rattle.esd_lists.specs.Gathered.{no_area, area_in, control_listed, control_at, area_step}
use Rattle.esd_lists.proofs.Gather.{if_ok}
use Rattle.linking_model.specs.Kept.{Read, sights}
use Rattle.esd_lists.specs.Held.{as_read}
use Rattle.esd_lists.proofs.Parts.{sections_are, controls_is}
use Rattle.esd_lists.proofs.Controls.{controls_are}
use Rattle.esd_lists.proofs.Walking.{gathered_is}
use Rattle.esd_lists.proofs.lists.program_sections.Goals as goal

pub returns : goal.returns
returns c =
    let rs : List Read = map as_read c.args.reads.now in
    let listed : c.as_slice-controls.result.now ≡ fold (control_listed (now_of c.args.index.now).controls) [] (sights rs) =
    c.as_slice-controls.ensures.value ∙ c.requires.controls ∙ gathered_is (control_listed (now_of c.args.index.now).controls) [] c.args.reads.now in
    if_ok c.sections.result _ _ c.sections.ensures (λ list e.
    e ∙ sections_are (now_of c.args.index.now) c.args.reads.now (control_at (now_of c.args.index.now).controls c.as_slice-controls.result.now) (λ y. area_in (get name_eq c.args.gathered.now.areas y)) c.requires.holds
    (λ y. ap (λ (xs : List First). control_at (now_of c.args.index.now).controls xs y) listed ∙ controls_are (now_of c.args.index.now).controls (sights rs) (controls_is rs (now_of c.args.index.now) c.requires.holds.indexed) y)
    (λ y. c.requires.areas y ∙ gathered_is (area_step y) no_area c.args.reads.now))
