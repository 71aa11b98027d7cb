use Rattle.std.proofs.Common.{arith}
use Rattle.std.proofs.lemmas.List.Sums.{prefix_len-le-length}
use Rattle.ctl_cards.specs.Cards.{is_filled}
use Rattle.ctl_cards.proofs.card.after_run.Goals as goal

pub slice_bounds-result-count : goal.slice_bounds-result-count
slice_bounds-result-count c = omega (arith, c.run_length.ensures, prefix_len-le-length is_filled c.args.text.now)

pub slice_bounds-result-start : goal.slice_bounds-result-start
slice_bounds-result-start c = omega (arith, c.run_length.ensures, prefix_len-le-length is_filled c.args.text.now)
