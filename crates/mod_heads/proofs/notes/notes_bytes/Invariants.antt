use Rattle.std.proofs.Common.{◌≡◌, ◌+◌, ◌<◌, ◌++◌, drop}
use Rattle.member_model.specs.Written.{note_record_count}
use Rattle.mod_heads.proofs.Summed.{notes_from}
use Rattle.mod_heads.proofs.notes.notes_bytes.Given as goal

abbrev pub invariant-loop-i : goal.invariant-loop-i
invariant-loop-i l = record {
  number : l.number < 16777216;
  bytes : l.bytes.items ++ notes_from l.list l.number (l.i + 1) (drop l.i l.counts)
      ≡ notes_from l.list (l.before + note_record_count l.list + 1) 1 l.counts;
}
