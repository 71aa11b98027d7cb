-- The program of a list of modules, from its lists.
use Rattle.std.proofs.Common.{◌≡◌, List, refl}
use Rattle.sym_mod.specs.declared.program.Section.{Section}
use Rattle.sym_mod.specs.declared.program.Label.{Label}
use Rattle.sym_mod.specs.declared.program.Unknown.{Unknown}
use Rattle.sym_mod.specs.declared.program.Register.{Register}
use Rattle.sym_mod.specs.declared.program.Text.{Text}
use Rattle.sym_mod.specs.declared.program.Constant.{Constant}
use Rattle.sym_mod.specs.declared.program.StartAt.{StartAt}
use Rattle.sym_mod.specs.declared.program.Program.{Program}
use Rattle.linking_model.specs.Kept.{Read}
use Rattle.linking_model.specs.Merged.{sections, labels, unresolved, registers, texts, constants, starts, program_of}

pub program_is : (rs : List Read) (a : List Section) (b : List Label) (c : List Unknown) (d : List Register) (e : List Text) (f : List Constant) (g : List StartAt)
    → a ≡ sections rs → b ≡ labels rs → c ≡ unresolved rs → d ≡ registers rs → e ≡ texts rs → f ≡ constants rs → g ≡ starts rs
    → (let p : Program = record { sections = a; labels = b; unresolved = c; registers = d; texts = e; constants = f; starts = g } in p) ≡ program_of rs
unfolding program_of
program_is rs a b c d e f g p q r s t u v = rw (p, q, r, s, t, u, v) refl
