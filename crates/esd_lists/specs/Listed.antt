-- The lists of a program, as they are made from an index and from what was gathered.
use Rattle.std.specs.Prelude.{max, Bool, not, ◌&&◌, ◌||◌, if◌then◌else◌, List, [], ◌∷◌, ◌++◌, Option, Some, None, option_map}
use Rattle.std.specs.List.{list_any}
use Rattle.le_bytes.specs.declared.name.Name.{Name}
use Rattle.le_bytes.specs.Names.{blank_bytes}
use Rattle.sym_mod.specs.declared.program.Section.{Section}
use Rattle.sym_mod.specs.declared.program.SecKind.TheVariants.{Sd as SdSection, Pc as PcSection, Cm as CmSection}
use Rattle.sym_mod.specs.declared.program.Unknown.{Unknown}
use Rattle.sym_mod.specs.declared.program.Register.{Register}
use Rattle.linking_model.specs.Kept.{Sight, Symbol, ByName, Private, symbol_eq}
use Rattle.esd_index.specs.Contents.{Contents}
use Rattle.esd_lists.specs.declared.by_name.Area.{Area}
use Rattle.esd_lists.specs.declared.by_name.Extent.{Extent}
use Rattle.esd_lists.specs.declared.by_name.First.{First}
use Rattle.esd_lists.specs.declared.reading.Reading.{Reading}
use Rattle.esd_lists.specs.Looked.{rank_by, seen_by}

-- the list, and x at its end
abbrev pub pushed : {A : Type 0} → List A → Option A → List A
pushed xs None = xs
pushed xs (Some x) = xs ++ x ∷ []

-- what stands at the symbol's name
abbrev pub at_name : {A : Type 0} → (Name → Option A) → Symbol → Option A
at_name f (ByName y) = f y
at_name f (Private _ _) = None

-- ---- sections and registers

-- the section of a name: the area alone, or the SD that is kept with the area
unfoldable pub named_by : Contents → Name → Option First → Area → Section
named_by c y None a = record { name = y; kind = CmSection; rank = rank_by c (ByName y); segment = 0; users = a.users; length = a.length }
named_by c y (Some first) a =
    record { name = y; kind = SdSection; rank = rank_by c (ByName y); segment = first.segment; users = a.users; length = max first.length a.length }

-- the section of a PC item
unfoldable pub private_by : Contents → Symbol → Sight → Section
private_by c y x = record {
  name = record { 0 = blank_bytes };
  kind = PcSection;
  rank = rank_by c y;
  segment = x.segment;
  users = [];
  length = x.item.length;
}

-- the section of a symbol
abbrev pub section_by : Contents → List Reading → (Name → Option First) → (Name → Area) → Symbol → Option Section
section_by c xs controls areas (ByName y) = Some (named_by c y (controls y) (areas y))
section_by c xs controls areas (Private k i) = option_map (private_by c (Private k i)) (seen_by xs k i)

-- the register of a name
abbrev pub register_by : Name → Extent → Register
register_by y e = record { name = y; length = e.length; align = e.align }

-- ---- unresolved names

-- the name is among the symbols
abbrev pub has : List Symbol → Name → Bool
has ys y = list_any (symbol_eq (ByName y)) ys

-- some item or constant refers to the name
abbrev pub is_referenced_by : Contents → Name → Bool
is_referenced_by c y = (has c.strong y || has c.weak y) || (has c.named y || has c.labelled y)

-- a section or a label that is kept has the name
abbrev pub is_defined_by : Contents → Name → Bool
is_defined_by c y = has c.sections y || has c.labels y

-- a weak reference alone has the name
abbrev pub is_weak_by : Contents → Name → Bool
is_weak_by c y = (has c.weak y && not (has c.strong y)) && not (has c.labelled y)

-- the unresolved name of a symbol, none where it is defined or not referred to
unfoldable pub unknown_by : Contents → Symbol → Option Unknown
unknown_by c (ByName y) = if is_referenced_by c y && not (is_defined_by c y) then Some (record { name = y; weak = is_weak_by c y }) else None
unknown_by c (Private _ _) = None
