-- How many symbol items are kept before each.
use Rattle.std.specs.Prelude.{ℕ, Bool, ◌+◌, not, if◌then◌else◌, List, map, length, take, count_by}
use Rattle.std.specs.List.{range_with_len}
use Rattle.load_recs.specs.declared.items.SymbolItem.{SymbolItem}
use Rattle.member_model.specs.ReadBack.{is_gone}

-- the item is not left out
abbrev pub is_kept : List SymbolItem → SymbolItem → Bool
is_kept symbols x = not (is_gone symbols x)

-- how many of the first k items are kept
abbrev pub kept_before : List SymbolItem → ℕ → ℕ
kept_before symbols k = count_by (is_kept symbols) (take k symbols)

-- how many are kept of the first 0, 1, 2 and so on, up to all
unfoldable pub counts_of : List SymbolItem → List ℕ
counts_of symbols = map (kept_before symbols) (range_with_len 0 (length symbols + 1))

-- so many, and one more if the item is kept
abbrev pub count_with : List SymbolItem → SymbolItem → ℕ → ℕ
count_with symbols x count = if is_gone symbols x then count else count + 1
