-- The sizes of segments as a list, segment 1 first.
use Rattle.std.specs.Prelude.{ℕ, ◌+◌, ◌-◌, ◌==◌, List, map, filter}
use Rattle.std.specs.List.{range_with_len, slice_index_or}
use Rattle.linking_model.specs.Numbers.{greatest}
use Rattle.linking_model.specs.Tree.{Tree, region_of}
use Rattle.linking_model.specs.Places.{depth}

-- the size of segment s, and 0 past the end
unfoldable pub sizes_of : List ℕ → ℕ → ℕ
sizes_of sizes s = slice_index_or sizes (s - 1) 0

-- the greatest end among those of the first k segments that are in the region that starts there
unfoldable pub end_among : Tree → (ℕ → ℕ) → ℕ → ℕ → ℕ → ℕ
end_among tree sizes start r k =
    greatest (map (λ s. start + depth tree sizes s + sizes s) (filter (λ s. region_of tree s == r) (range_with_len 1 k)))
