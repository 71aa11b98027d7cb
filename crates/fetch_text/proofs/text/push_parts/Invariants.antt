use Rattle.std.proofs.Common.{◌≡◌, ◌++◌, drop, flat_map}
use Rattle.fetch_text.specs.Parts.{part_text}
use Rattle.fetch_text.proofs.text.push_parts.Given as goal

abbrev pub invariant-loop-part : goal.invariant-loop-part
invariant-loop-part l =
    l.out.items ++ flat_map part_text (drop l.part-index l.parts) ≡ l.fn.out.items ++ flat_map part_text l.parts
