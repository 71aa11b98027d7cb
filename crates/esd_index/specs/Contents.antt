-- What an index says: lists of symbols without repeats.
use Rattle.std.specs.Prelude.{List}
use Rattle.linking_model.specs.Kept.{Symbol}
use Rattle.esd_index.specs.declared.index.Index.{Index}

-- the symbols in order of first appearance, the sections in the order of their items, the names of registers,
-- of SD items, of kept labels, of references, weak and not, and the names to which kept constants refer, by the
-- name or by a label item of it
pub record Contents : Type 0 where
  pub symbols : List Symbol
  pub sections : List Symbol
  pub registers : List Symbol
  pub controls : List Symbol
  pub labels : List Symbol
  pub strong : List Symbol
  pub weak : List Symbol
  pub named : List Symbol
  pub labelled : List Symbol

-- what the index says
abbrev pub now_of : Index → Contents
now_of i = record {
  symbols = i.table.symbols.all;
  sections = i.table.sections.all;
  registers = i.registers.all;
  controls = i.table.controls.all;
  labels = i.labels.all;
  strong = i.table.strong.all;
  weak = i.weak.all;
  named = i.named.all;
  labelled = i.labelled.all;
}

-- what it said at the last mark
abbrev pub marked_of : Index → Contents
marked_of i = record {
  symbols = i.table.symbols.marked;
  sections = i.table.sections.marked;
  registers = i.registers.marked;
  controls = i.table.controls.marked;
  labels = i.labels.marked;
  strong = i.table.strong.marked;
  weak = i.weak.marked;
  named = i.named.marked;
  labelled = i.labelled.marked;
}
