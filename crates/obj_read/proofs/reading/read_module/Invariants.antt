use Rattle.std.proofs.Common.{◌≡◌, ◌≤◌, ◌*◌, length, drop}
use Rattle.obj_read.specs.Decks.{deck_of}
use Rattle.obj_read.specs.Steps.{deck_from}
use Rattle.obj_read.specs.Kept.{IsKept}
use Rattle.obj_read.proofs.reading.read_module.Given as goal

abbrev pub invariant-loop-place : goal.invariant-loop-place
invariant-loop-place l = record {
  rest : deck_from l.facts l.place (drop l.place l.cards) ≡ deck_of l.cards;
  few : length l.facts.items ≤ 3 * l.place;
  kept : IsKept l.facts;
}
