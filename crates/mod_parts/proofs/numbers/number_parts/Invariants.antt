use Rattle.std.proofs.Common.{◌≡◌, ◌+◌, length, map, drop}
use Rattle.member_model.specs.Parts.{Part as Piece}
use Rattle.mod_parts.specs.Seen.{seen, IsAmong}
use Rattle.mod_parts.specs.Numbers.{number_in, number_among}
use Rattle.mod_parts.proofs.numbers.number_parts.Given as goal

abbrev pub invariant-loop-place : goal.invariant-loop-place
invariant-loop-place l = record {
  sections : length l.numbers.sections ≡ length l.fn.numbers.sections;
  tables : length l.numbers.tables ≡ length l.fn.numbers.tables;
  numbers : (x : Piece) → IsAmong (length l.fn.numbers.sections) (length l.fn.numbers.tables) x
      → number_in l.numbers x ≡ number_among (l.before + l.place) (drop l.place (map seen l.parts)) x (number_in l.fn.numbers x);
}
