-- The symbols, and which of them are of some kind.
use Rattle.esd_index.specs.Marked.{Marked}
use Rattle.esd_index.specs.Parts.{Part, IsPartOf}
use Rattle.esd_index.specs.declared.symbol_table.SymbolTable.TheInside.{Inside}

-- the symbols, the sections among them, the names of SD items, and those of references that are not weak
pub record Sorted : Type 0 where
  pub symbols : Marked
  pub sections : Marked
  pub controls : Marked
  pub strong : Marked

-- the symbols of a part
abbrev pub marked_part : Part → Marked
marked_part part = record { all = part.all; marked = part.marked }

-- the three kinds are parts of the symbols
pub record AreParts (t : Inside) : Type 0 where
  pub sections : IsPartOf t.symbols t.sections
  pub controls : IsPartOf t.symbols t.controls
  pub strong : IsPartOf t.symbols t.strong
