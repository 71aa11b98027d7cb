-- Items and texts of a segment, judged against the symbols alone.
use Rattle.std.specs.Prelude.{ℕ, List}
use Rattle.load_recs.specs.declared.items.SymbolItem.{SymbolItem}
use Rattle.member_model.specs.Facts.{Facts, no_facts}

-- facts that hold these symbols in this segment, and nothing else
abbrev pub symbols_in : List SymbolItem → ℕ → Facts
symbols_in symbols segment = record no_facts { symbols = symbols; segment = segment }
