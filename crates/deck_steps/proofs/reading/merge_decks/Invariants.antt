use Rattle.std.proofs.Common.{◌≡◌, ◌+◌, ◌-◌, ◌≤◌, [], length, drop}
use Rattle.std.specs.Prelude.{All}
use Rattle.deck_steps.specs.Answers.{IsInRoot}
use Rattle.deck_steps.specs.Decks.{merged_from}
use Rattle.deck_steps.proofs.reading.merge_decks.Given as goal

abbrev pub invariant-loop-from : goal.invariant-loop-from
invariant-loop-from l =
    (merged_from l.short (l.from + 1) l.merged 0 (drop l.from l.cards) ≡ merged_from l.short 1 [] 0 l.cards) × (l.from ≤ length l.cards) × All IsInRoot l.merged

abbrev pub decreases-loop-from : goal.decreases-loop-from
decreases-loop-from l = length l.cards - l.from
