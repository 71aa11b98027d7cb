-- The records of a program as bytes, segment by segment, and its aliases.
use Rattle.std.specs.Prelude.{ℕ, Bool, if◌then◌else◌, List, [], map}
use Rattle.pds_lib.specs.declared.member.AliasAt.{AliasAt}
use Rattle.load_recs.specs.Records.{rec_bytes}
use Rattle.linking_model.specs.Tree.{segments}
use Rattle.linking_model.specs.Places.{Laid}
use Rattle.member_model.specs.Parts.{OneSection, part_number}
use Rattle.member_model.specs.Written.{segment_records, note_records}
use Rattle.mod_write.specs.declared.naming.AliasPoint.{AliasPoint}

-- the records of segment s, with text in pieces of n bytes
abbrev pub segment_bytes : Laid → ℕ → ℕ → List (List ℕ)
segment_bytes P n s = map rec_bytes (segment_records P n s)

-- those of each segment, segment 1 first
abbrev pub bytes_of_segments : Laid → ℕ → List (List (List ℕ))
bytes_of_segments P n = map (segment_bytes P n) (segments P.tree)

-- the note list of an overlay program, after so many records
abbrev pub note_bytes : Laid → ℕ → Bool → ℕ → List (List ℕ)
note_bytes P n overlay before =
    if overlay then map rec_bytes (note_records P before (map (segment_records P n) (segments P.tree))) else []

-- an alias with its entry point
abbrev pub alias_at : Laid → AliasPoint → AliasAt
alias_at P x =
    record { name = x.name; entry = x.point.address; entry_section = part_number P (OneSection x.point.section) }
