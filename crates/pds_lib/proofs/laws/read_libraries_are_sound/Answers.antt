use Rattle.pds_lib.proofs.ReadSound.{read_sound}
use Rattle.pds_lib.proofs.laws.read_libraries_are_sound.Goals as goal

pub returns : goal.returns
returns c = read_sound
