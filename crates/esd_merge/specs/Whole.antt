-- What the modules bring, one after the other.
use Rattle.std.specs.Prelude.{ℕ, ◌+◌, List, [], ◌∷◌, fold, Option}
use Rattle.le_bytes.specs.declared.name.Name.{Name}
use Rattle.sym_mod.specs.declared.program.Text.{Text}
use Rattle.sym_mod.specs.declared.program.Constant.{Constant}
use Rattle.sym_mod.specs.declared.program.StartAt.{StartAt}
use Rattle.esd_index.specs.Contents.{Contents}
use Rattle.esd_lists.specs.declared.reading.Reading.{Reading}
use Rattle.esd_lists.specs.Listed.{pushed}
use Rattle.esd_merge.specs.Meant.{constant_by, start_by, text_by}

-- the list with the constants of module k at its end
unfoldable pub module_constants : Contents → (Name → Option ℕ) → (Name → Option ℕ) → List Constant → ℕ → Reading → List Constant
module_constants c labels unknowns list k r = fold (λ xs x. pushed xs (constant_by c labels unknowns k r.segment r.read.items r.kept x)) list r.read.constants

-- the list with the constants of these modules at its end, the first of which is module k
abbrev pub constants_from : Contents → (Name → Option ℕ) → (Name → Option ℕ) → List Constant → ℕ → List Reading → List Constant
constants_from c labels unknowns list k [] = list
constants_from c labels unknowns list k (r ∷ rs) = constants_from c labels unknowns (module_constants c labels unknowns list k r) (k + 1) rs

-- the list with the entries of these modules at its end
abbrev pub starts_from : Contents → List StartAt → ℕ → List Reading → List StartAt
starts_from c list k [] = list
starts_from c list k (r ∷ rs) = starts_from c (pushed list (start_by c k r.segment r.read.items r.kept r.read.entry)) (k + 1) rs

-- the list with the texts of module k at its end
unfoldable pub module_texts : Contents → List Text → ℕ → Reading → List Text
module_texts c list k r = fold (λ xs f. pushed xs (text_by c k r.segment r.read.items r.kept f)) list r.read.fragments

-- the list with the texts of these modules at its end
abbrev pub texts_from : Contents → List Text → ℕ → List Reading → List Text
texts_from c list k [] = list
texts_from c list k (r ∷ rs) = texts_from c (module_texts c list k r) (k + 1) rs
