-- What an OVERLAY statement leaves, by the answer.
use Rattle.std.specs.Prelude.{◌≡◌, ℕ, Bool, length, Some, None, Result, Ok, Err}
use Rattle.le_bytes.specs.declared.name.Name.{Name}
use Rattle.linking_model.specs.Tree.{Overlays, OverlayFault, overlaid, overlay_fault, RegionNameUsed, TooManyRegions, TooManySegments}
use Rattle.seg_tree.specs.declared.tree.TreeFault.{TreeFault}
use Rattle.seg_tree.specs.declared.tree.TreeFault.TheVariants.{RegionNameUsed as NameUsed, TooManyRegions as Regions, TooManySegments as Segments, Memory}

-- the segment that was begun, or the first fault there is; after a fault nothing has changed
abbrev pub OverlayAnswer : Overlays → Name → Bool → Result ℕ TreeFault → Overlays → Type 0
OverlayAnswer old point region (Ok n) new =
    (overlay_fault old point region ≡ None) × (new ≡ overlaid old point region) × (n ≡ length new.tree)
OverlayAnswer old point region (Err (NameUsed name)) new =
    (overlay_fault old point region ≡ Some (RegionNameUsed name)) × (new ≡ old)
OverlayAnswer old point region (Err (Regions n)) new =
    (overlay_fault old point region ≡ Some (TooManyRegions n)) × (new ≡ old)
OverlayAnswer old point region (Err (Segments n)) new =
    (overlay_fault old point region ≡ Some (TooManySegments n)) × (new ≡ old)
OverlayAnswer old point region (Err Memory) new = new ≡ old

-- a fault as it is answered
abbrev pub told : OverlayFault → TreeFault
told (RegionNameUsed name) = NameUsed name
told (TooManyRegions n) = Regions n
told (TooManySegments n) = Segments n
