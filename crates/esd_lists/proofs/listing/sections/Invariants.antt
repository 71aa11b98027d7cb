use Rattle.std.proofs.Common.{◌≡◌, [], drop, fold, map}
use Rattle.std.specs.HashMap.{get}
use Rattle.le_bytes.specs.Names.{name_eq}
use Rattle.esd_index.specs.Keys.{as_symbol}
use Rattle.esd_index.specs.Contents.{now_of}
use Rattle.esd_lists.specs.Gathered.{control_at, area_in}
use Rattle.esd_lists.specs.Listed.{pushed, section_by}
use Rattle.esd_lists.proofs.listing.sections.Given as goal

abbrev pub invariant-loop-key : goal.invariant-loop-key
invariant-loop-key l =
    fold (λ xs y. pushed xs (section_by (now_of l.index) l.reads (control_at (now_of l.index).controls l.controls) (λ y. area_in (get name_eq l.areas y)) y)) l.list (map as_symbol (drop l.key-index l.key-items))
    ≡ fold (λ xs y. pushed xs (section_by (now_of l.index) l.reads (control_at (now_of l.index).controls l.controls) (λ y. area_in (get name_eq l.areas y)) y)) [] (map as_symbol l.key-items)
