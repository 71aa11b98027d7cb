use Rattle.pds_lib.proofs.StowSound.{stow_sound}
use Rattle.pds_lib.proofs.laws.stows_keep_libraries_sound.Goals as goal

pub returns : goal.returns
returns c = stow_sound
