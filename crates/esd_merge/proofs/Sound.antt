-- The program of modules without a fault is sound.
use Rattle.std.proofs.Common.{List}
use Rattle.sym_mod.specs.Sound.{IsSoundProgram}
use Rattle.linking_model.specs.Kept.{Read}
use Rattle.linking_model.specs.Merged.{program_of}
use Rattle.esd_merge.specs.Added.{IsMerged}
use Rattle.esd_merge.proofs.SoundNames.{few_symbols, names_apart, registers_apart}
use Rattle.esd_merge.proofs.SoundItems.{sections_sound, labels_sound, unresolved_named, registers_sound, starts_sound}
use Rattle.esd_merge.proofs.SoundTexts.{texts_inside, constants_sound, constants_apart}

pub program_sound : (rs : List Read) → IsMerged rs → IsSoundProgram (program_of rs)
unfolding program_of
program_sound rs m = record {
  few = few_symbols rs m;
  sections = sections_sound rs m;
  labels = labels_sound rs m;
  unresolved = unresolved_named rs m;
  registers = registers_sound rs m;
  names_differ = names_apart rs m;
  registers_differ = registers_apart rs m;
  texts = texts_inside rs m;
  constants = constants_sound rs m;
  apart = constants_apart rs m;
  starts = starts_sound rs m;
}
