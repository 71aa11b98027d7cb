-- The parts of a member in storage as text.
use Rattle.std.specs.Prelude.{ℕ, ◌+◌, ◌^◌, ◌≤◌, List, ◌++◌, length, flat_map}
use Rattle.map_list.specs.Lines.{entry_line}
use Rattle.map_list.specs.Dumps.{dump_text}
use Rattle.fetch_storage.specs.declared.part.Part.{Part}

-- the part ends below 16,777,216
abbrev pub EndsLow : Part → Type 0
EndsLow part = part.origin + length part.bytes ≤ 2 ^ 24

-- the dump of a part
abbrev pub part_text : Part → List ℕ
part_text part = dump_text part.origin part.bytes

-- the line of the entry address, and the dumps of the parts
abbrev pub parts_text : ℕ → List Part → List ℕ
parts_text entry parts = entry_line entry ++ flat_map part_text parts
