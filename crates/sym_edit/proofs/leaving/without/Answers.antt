use Rattle.sym_edit.proofs.SoundLeft.{left_whole}
use Rattle.sym_edit.proofs.leaving.without.Goals as goal

pub returns-clause-sound : goal.returns-clause-sound
returns-clause-sound c = λ s.
    left_whole c.args.gone.now _ c.args.m _ _ _ _ _ _ _
    c.in_ok-numbers.ensures c.as_slice-items.ensures c.into_vec.ensures c.as_slice.ensures c.in_ok-left.ensures c.in_ok-fragments.ensures c.in_ok-constants.ensures c.entry_left.ensures s
