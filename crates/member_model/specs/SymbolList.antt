-- The symbol, scatter and translation items that the writer gives, and the records that hold them. The kinds of symbols
-- follow GC28-6538; the items are this project's profile.
use Rattle.std.specs.Prelude.{ℕ, ◌+◌, ◌-◌, ◌*◌, Bool, if◌then◌else◌, List, [], ◌∷◌, ◌++◌, map, length, replicate, slice_index}
use Rattle.std.specs.List.{enumerate_from}
use Rattle.byteorder.specs.Endian.{big_bytes}
use Rattle.sym_mod.specs.declared.program.SecKind.{SecKind}
use Rattle.sym_mod.specs.declared.program.SecKind.TheVariants as kept
use Rattle.sym_mod.specs.declared.program.Label.{Label}
use Rattle.sym_mod.specs.declared.program.Unknown.{Unknown}
use Rattle.sym_mod.specs.declared.program.Register.{Register}
use Rattle.load_recs.specs.ItemBytes.{symbol_bytes}
use Rattle.load_recs.specs.Records.{Record, SymbolRecord, ScatterRecord, TranslationRecord}
use Rattle.load_recs.specs.declared.items.SymbolKind.{SymbolKind}
use Rattle.load_recs.specs.declared.items.SymbolKind.TheVariants.{Sd, Er, Lr, Pc, Cm, Pr, Wx}
use Rattle.load_recs.specs.declared.items.SymbolItem.{SymbolItem}
use Rattle.linking_model.specs.Places.{Laid, place, segment_of_section}
use Rattle.linking_model.specs.Points.{displacements}
use Rattle.member_model.specs.Cuts.{cuts, together}
use Rattle.member_model.specs.Parts.{Part, OneSection, parts, part_name, part_kind, part_place, part_segment, part_length, part_number}

-- ---- symbol items

-- the kind of the symbol item of a section
abbrev pub symbol_kind : SecKind → SymbolKind
symbol_kind kept.Sd = Sd
symbol_kind kept.Pc = Pc
symbol_kind kept.Cm = Cm

-- the symbol item of a part
abbrev pub part_symbol : Laid → Part → SymbolItem
part_symbol P x = record {
  name = part_name P x;
  kind = symbol_kind (part_kind P x);
  address = part_place P x;
  segment = part_segment P x;
  length = part_length P x;
}

-- the symbol item of a label: with its section's segment, and its section's number as length
abbrev pub label_symbol : Laid → Label → SymbolItem
label_symbol P x = record {
  name = x.name;
  kind = Lr;
  address = place P x.section + x.offset;
  segment = segment_of_section P.program x.section;
  length = part_number P (OneSection x.section);
}

-- the symbol item of an unresolved name
abbrev pub unresolved_symbol : Unknown → SymbolItem
unresolved_symbol x = record { name = x.name; kind = if x.weak then Wx else Er; address = 0; segment = 0; length = 0 }

-- the symbol item of register k: with its displacement, and its alignment less one as segment
abbrev pub register_symbol : List Register → ℕ × Register → SymbolItem
register_symbol registers (k, x) = record {
  name = x.name;
  kind = Pr;
  address = slice_index (displacements 0 registers) k;
  segment = x.align - 1;
  length = x.length;
}

-- parts, labels, unresolved names and registers
unfoldable pub symbols_written : Laid → List SymbolItem
symbols_written P =
    map (part_symbol P) (parts P) ++ map (label_symbol P) P.program.labels
    ++ map unresolved_symbol P.program.unresolved
    ++ map (register_symbol P.program.registers) (enumerate_from 0 P.program.registers)

-- ---- head records

-- items in records of as many as stand in 240 bytes, each with the number of its first
abbrev pub head_records : (ℕ → List ℕ → Record) → ℕ → List (List ℕ) → List Record
head_records make per items =
    map (λ (k, some). make (k * per + 1) (together some)) (enumerate_from 0 (cuts per items))

-- the records of the symbol items
abbrev pub symbol_records : Laid → List Record
symbol_records P = head_records (λ first items. SymbolRecord first items) 15 (map symbol_bytes (symbols_written P))

-- the address of each section and table
abbrev pub scatter_items : Laid → List (List ℕ)
scatter_items P = map (λ x. 0 ∷ big_bytes 3 (part_place P x)) (parts P)

-- of each symbol item the number of its section, which scatter items follow in order
abbrev pub translation_numbers : Laid → List ℕ
translation_numbers P =
    map (part_number P) (parts P) ++ map (λ (x : Label). part_number P (OneSection x.section)) P.program.labels
    ++ replicate (length P.program.unresolved + length P.program.registers) 0

-- the records of the scatter items and of the translation items
abbrev pub scatter_records : Laid → List Record
scatter_records P =
    head_records (λ first items. ScatterRecord first items) 60 (scatter_items P)
    ++ head_records (λ first items. TranslationRecord first items) 120 (map (big_bytes 2) (translation_numbers P))

-- the records before the note list
unfoldable pub first_records : Laid → Bool → List Record
first_records P scatter = symbol_records P ++ (if scatter then scatter_records P else [])
