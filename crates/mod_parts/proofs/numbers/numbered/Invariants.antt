use Rattle.std.proofs.Common.{◌≡◌, length, map, take, drop}
use Rattle.member_model.specs.Cuts.{together}
use Rattle.member_model.specs.Parts.{Part as Piece}
use Rattle.mod_parts.specs.Seen.{seen, IsAmong}
use Rattle.mod_parts.specs.Numbers.{number_in, number_among}
use Rattle.mod_parts.proofs.numbers.numbered.Given as goal

abbrev pub invariant-loop-segment : goal.invariant-loop-segment
invariant-loop-segment l = record {
  before : l.before ≡ length (together (take l.segment l.segments));
  sections : length l.numbers.sections ≡ l.sections;
  tables : length l.numbers.tables ≡ l.tables;
  numbers : (x : Piece) → IsAmong l.sections l.tables x
      → number_in l.numbers x ≡ number_among l.before (map seen (together (drop l.segment l.segments))) x 0;
}
