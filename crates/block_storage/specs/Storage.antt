-- A program of one segment in storage, in one block.
use Rattle.std.specs.Prelude.{ℕ, ◌+◌, List, [], ◌∷◌, map}
use Rattle.std.specs.List.{range_with_len}
use Rattle.sym_mod.specs.declared.program.Program.{Program}
use Rattle.sym_mod.specs.declared.program.Places.{Places}
use Rattle.linking_model.specs.Tree.{root}
use Rattle.linking_model.specs.Places.{Laid, module_length}
use Rattle.linking_model.specs.Linked.{block}
use Rattle.linking_model.specs.Run.{segment_piece}

-- a program without overlay: the root alone, and no entries
abbrev pub alone : Program → Laid
alone p = record { program = p; tree = root ∷ []; entries = [] ∷ [] }

-- the bytes from the origin to the module's end: the linked sections at their places, and 0 between them
unfoldable pub storage : Laid → ℕ → List ℕ
storage P at = map (segment_piece P (block P at) 1).byte (range_with_len 0 (module_length P))

-- the addresses of sections and the registers, with the module at an origin
abbrev pub moved : ℕ → Places → Places
moved at a = record {
  sections = map (λ n. at + n) a.sections;
  tables = [];
  origins = [];
  ends = [];
  registers = a.registers;
  total = a.total;
  length = a.length;
}
