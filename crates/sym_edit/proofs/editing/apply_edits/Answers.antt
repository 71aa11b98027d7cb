use Rattle.sym_edit.proofs.Turns.{no_turn, none_test}
use Rattle.sym_edit.proofs.SoundEdits.{edited_sound}
use Rattle.sym_edit.proofs.editing.apply_edits.Goals as goal

pub returns-then-is_empty-clause-edited : goal.returns-then-is_empty-clause-edited
returns-then-is_empty-clause-edited c = no_turn c.args.e.now c.args.m.now (none_test _ _ c.is_empty.ensures c.if-is_empty.true)

pub returns-clause-sound : goal.returns-clause-sound
returns-clause-sound c =
    edited_sound c.args.e.now c.args.m.now c.in_ok-copied.field-0 c.in_ok-made.made c.requires.named c.requires.sound c.in_ok-copied.ensures c.in_ok-made.ensures
