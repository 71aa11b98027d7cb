-- What symbol items are, by their kinds (GC28-6538).
use Rattle.std.specs.Prelude.{Bool, true, false}
use Rattle.load_recs.specs.declared.items.SymbolKind.{SymbolKind}
use Rattle.load_recs.specs.declared.items.SymbolKind.TheVariants.{Sd, Er, Pc, Cm, Wx}

-- sections: SD, PC and CM
abbrev pub is_section_kind : SymbolKind → Bool
is_section_kind Sd = true
is_section_kind Pc = true
is_section_kind Cm = true
is_section_kind _ = false

-- sections that have text
abbrev pub is_text_kind : SymbolKind → Bool
is_text_kind Sd = true
is_text_kind Pc = true
is_text_kind _ = false

-- names that are not defined
abbrev pub is_outside_kind : SymbolKind → Bool
is_outside_kind Er = true
is_outside_kind Wx = true
is_outside_kind _ = false
