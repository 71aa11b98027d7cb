-- The places of all that stands in a module.
use Rattle.std.specs.Prelude.{Bool, ◌&&◌, nat_le, length, map}
use Rattle.std.specs.List.{list_all, range_with_len}
use Rattle.sym_mod.specs.declared.program.Program.{Program}
use Rattle.sym_mod.specs.declared.program.Section.{Section}
use Rattle.sym_mod.specs.declared.program.Places.{Places}
use Rattle.linking_model.specs.Tree.{Tree, segments}
use Rattle.linking_model.specs.Places.{Laid, place, table_place, origin, end_of, module_length}
use Rattle.linking_model.specs.Points.{displacements, registers_end}

-- the section stands in a segment of the tree
abbrev pub is_in_tree : Tree → Section → Bool
is_in_tree tree x = nat_le 1 x.segment && nat_le x.segment (length tree)

-- every section does
abbrev pub are_in_tree : Tree → Program → Bool
are_in_tree tree p = list_all (is_in_tree tree) p.sections

-- the address of each section and each table, where each segment begins and ends, the registers, and the module's length
unfoldable pub places_of : Laid → Places
places_of P = record {
  sections = map (place P) (range_with_len 0 (length P.program.sections));
  tables = map (table_place P) (segments P.tree);
  origins = map (origin P) (segments P.tree);
  ends = map (end_of P) (segments P.tree);
  registers = displacements 0 P.program.registers;
  total = registers_end 0 P.program.registers;
  length = module_length P;
}
