-- The names that are to be called, by their places in the order of first appearance.
use Rattle.std.specs.Prelude.{◌≡◌, ℕ, ◌<◌, min, if◌then◌else◌, List, length, fold, drop, filter_map, slice_get, position, Option, Some, None, option_and_then}
use Rattle.le_bytes.specs.declared.name.Name.{Name}
use Rattle.sym_mod.specs.declared.program.Unknown.{Unknown}
use Rattle.linking_model.specs.Kept.{Read, Symbol, symbol_eq, appearance}
use Rattle.linking_model.specs.Merged.{unknown_of, unresolved}
use Rattle.esd_index.specs.Contents.{Contents}
use Rattle.esd_lists.specs.Indexed.{content_of}

-- the name, where it is not weak
abbrev pub strong_name : Option Unknown → Option Name
strong_name None = None
strong_name (Some u) = if u.weak then None else Some u.name

-- the name of a symbol, where it is to be called: it is unresolved, and not weak
abbrev pub called_name : List Read → Symbol → Option Name
called_name rs y = strong_name (unknown_of rs y)

-- the name at a place, from 0, where it is to be called
unfoldable pub callable_at : List Read → ℕ → Option Name
callable_at rs k = option_and_then (called_name rs) (slice_get (appearance rs) k)

-- the names that are to be called, place by place, are the unresolved names that are not weak
abbrev pub AreInOrder : Type 0
AreInOrder = (rs : List Read) → filter_map (called_name rs) (appearance rs) ≡ filter_map (λ u. strong_name (Some u)) (unresolved rs)

-- ---- what a module changes

-- the lesser of n and a place
unfoldable pub lesser : ℕ → Option ℕ → ℕ
lesser n None = n
lesser n (Some k) = min n k

-- the least of n and the places of these symbols
abbrev pub least_place : List Symbol → ℕ → List Symbol → ℕ
least_place all n ys = fold (λ k y. lesser k (position (symbol_eq y) all)) n ys

-- the least place of a symbol that stood there before and is new among the names of references that are not weak,
-- or among those to which kept constants refer; where there is none, the number of symbols that stood there
unfoldable pub changed_from : Contents → Contents → ℕ
changed_from old new =
    let by_items = least_place new.symbols (length old.symbols) (drop (length old.strong) new.strong) in
    let by_names = least_place new.symbols by_items (drop (length old.named) new.named) in
    least_place new.symbols by_names (drop (length old.labelled) new.labelled)

-- the first place at which modules that were added may have made a name one that is to be called
abbrev pub changed_place : List Read → List Read → ℕ
changed_place old new = changed_from (content_of old) (content_of new)

-- a name that is to be called at a place before k was to be called there before
abbrev pub WereCalled : List Read → List Read → ℕ → Type 0
WereCalled old new k = (j : ℕ) (y : Name) → j < k → callable_at new j ≡ Some y → callable_at old j ≡ Some y
