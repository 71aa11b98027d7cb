-- Maps by name: the first INSERT of each name, and the first section and label.
use Rattle.std.specs.Prelude.{◌≡◌, ℕ, ◌+◌, List, [], ◌∷◌, if◌then◌else◌, Option, Some, None, option_map, find}
use Rattle.std.specs.HashMap.{get, HashMap}
use Rattle.le_bytes.specs.declared.name.Name.{Name}
use Rattle.le_bytes.specs.Names.{name_eq}
use Rattle.sym_mod.specs.declared.program.Section.{Section}
use Rattle.sym_mod.specs.declared.program.Label.{Label}
use Rattle.linking_model.specs.Tree.{Tree}
use Rattle.linking_model.specs.Settled.{Inserts, is_section_named, settled_segment}

-- the segment of the first INSERT of the name
unfoldable pub first_insert : List (Name × ℕ) → Name → Option ℕ
first_insert inserts n = option_map (λ x. x.1) (find (λ x. name_eq x.0 n) inserts)

-- the map has the segment of the first INSERT of each name
abbrev pub HoldsInserts : {S : Type 0} → HashMap Name ℕ S → List (Name × ℕ) → Type 0
HoldsInserts m inserts = (n : Name) → get name_eq m n ≡ first_insert inserts n

-- the first section that has the name, from place k on
unfoldable pub section_from : ℕ → List Section → Name → Option ℕ
section_from k [] n = None
section_from k (x ∷ xs) n = if is_section_named n x then Some k else section_from (k + 1) xs n

-- the map has the first section of each name
abbrev pub HoldsSections : {S : Type 0} → HashMap Name ℕ S → List Section → Type 0
HoldsSections m sections = (n : Name) → get name_eq m n ≡ section_from 0 sections n

-- the first label that has the name
unfoldable pub first_label : List Label → Name → Option Label
first_label labels n = find (λ x. name_eq x.name n) labels

-- the map has the first label of each name
abbrev pub HoldsLabels : {S : Type 0} → HashMap Name Label S → List Label → Type 0
HoldsLabels m labels = (n : Name) → get name_eq m n ≡ first_label labels n

-- a section in the segment that it is settled in
unfoldable pub moved : Tree → Inserts → Section → Section
moved tree inserts x = record x { segment = settled_segment tree inserts x x.kind }
