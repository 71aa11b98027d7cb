-- A growing list of symbols, and how far it had come when it was marked.
use Rattle.std.specs.Prelude.{List, Option, Some, None}
use Rattle.linking_model.specs.Names.{with_first}
use Rattle.linking_model.specs.Kept.{Symbol, symbol_eq}

-- the symbols, and those that stood there when they were marked
pub record Marked : Type 0 where
  pub all : List Symbol
  pub marked : List Symbol

-- the symbols, and y after them where it is not among them
abbrev pub with_some : List Symbol → Option Symbol → List Symbol
with_some ys None = ys
with_some ys (Some y) = with_first symbol_eq ys y

-- the list with y after it where it is not among it; what was marked stays
abbrev pub with_put : Marked → Symbol → Marked
with_put m y = record { all = with_first symbol_eq m.all y; marked = m.marked }
