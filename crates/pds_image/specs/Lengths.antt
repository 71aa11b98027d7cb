-- Lengths of what is written, as far as 64 bits count.
use Rattle.std.specs.Prelude.{ℕ, ◌+◌, ◌-◌, ◌^◌, min, nat_le, if◌then◌else◌, List, [], ◌∷◌}

-- a number, or the greatest of 64 bits where it is above that
unfoldable pub capped : ℕ → ℕ
capped n = min n (2 ^ 64 - 1)

-- a block with so many bytes of entries
unfoldable pub block_length : ℕ → ℕ
block_length used = 2 + (used + (254 - used))

-- blocks, each with as many entries of these lengths as go into it
unfoldable pub blocks_length : ℕ → List ℕ → ℕ
blocks_length used [] = block_length used
blocks_length used (n ∷ ns) =
    if nat_le (used + n) 254 then blocks_length (used + n) ns else block_length used + blocks_length n ns
