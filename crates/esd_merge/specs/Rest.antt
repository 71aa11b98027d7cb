-- The unresolved names that are left to yield, and the numbers of labels.
use Rattle.std.specs.Prelude.{◌≡◌, ℕ, ◌+◌, Bool, false, if◌then◌else◌, List, [], ◌∷◌, map, filter_map, Option, Some, None}
use Rattle.le_bytes.specs.declared.name.Name.{Name}
use Rattle.sym_mod.specs.declared.program.Target.{Target}
use Rattle.sym_mod.specs.declared.program.Target.TheVariants.{Label as AtLabel}
use Rattle.linking_model.specs.Kept.{Symbol, ByName, Private, symbol_eq}
use Rattle.esd_index.specs.Contents.{Contents, now_of}
use Rattle.esd_index.specs.Keys.{as_symbol}
use Rattle.esd_merge.specs.declared.unres.Unres.{Unres}
use Rattle.esd_merge.specs.Left.{name_pairs}
use Rattle.esd_lists.specs.Listed.{has, unknown_by}

-- the unresolved names among symbols
abbrev pub names_in : Contents → List Symbol → List (Name × Bool)
names_in c ys = name_pairs (filter_map (unknown_by c) ys)

-- the names that an iterator has not given yet
abbrev pub names_left : Unres → List (Name × Bool)
names_left it = names_in (now_of it.index.now) (map as_symbol it.rest.now)

-- one step: the next name, or that none is left
abbrev pub YieldsName : Unres → Option (Name × Bool) → Unres → Type 0
YieldsName old None new = (names_left old ≡ []) × (names_left new ≡ [])
YieldsName old (Some x) new = names_left old ≡ x ∷ names_left new

-- a kept label has the symbol
abbrev pub has_label_by : Contents → Symbol → Bool
has_label_by c (ByName y) = has c.labels y
has_label_by c (Private _ _) = false

-- the label of a name, where symbols with labels are numbered from n on
abbrev pub label_from : Contents → Name → ℕ → List Symbol → Option Target
label_from c y n [] = None
label_from c y n (s ∷ ss) =
    if has_label_by c s then (if symbol_eq s (ByName y) then Some (AtLabel n) else label_from c y (n + 1) ss) else label_from c y n ss
