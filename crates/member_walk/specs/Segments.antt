-- Records of segments.
use Rattle.std.specs.Prelude.{◌&&◌, ◌==◌, [], ◌∷◌, length, Option, option_and_then}
use Rattle.le_bytes.specs.declared.record_what.RecWhat.{RecWhat}
use Rattle.le_bytes.specs.declared.record_what.RecWhat.TheVariants.{BadOrder, BadScatter}
use Rattle.pds_directory.specs.declared.entry.Entry.{Entry}
use Rattle.load_recs.specs.declared.records.TextHead.{TextHead}
use Rattle.member_model.specs.Symbols.{is_overlay_member, is_scatter_member}
use Rattle.member_model.specs.Facts.{Facts}
use Rattle.member_model.specs.Faults.{first_some, when, is_incomplete, text_fault}

-- the fault of a record of a segment, its relocation items and what ends with it apart
abbrev pub start_fault : Entry → Facts → Option TextHead → Option RecWhat
start_fault e F text =
    first_some (
    when (is_scatter_member e && is_incomplete F) BadScatter
    ∷ when (is_overlay_member e && length F.notes == 0) BadOrder
    ∷ option_and_then (text_fault F) text ∷ [])
