-- The bytes of the overlay tables (this project's profile). Supervisor call 45 and the branch to it, by which an
-- entry is reached, are those of the real system.
use Rattle.std.specs.Prelude.{ℕ, ◌+◌, ◌-◌, ◌*◌, if◌then◌else◌, List, [], ◌∷◌, ◌++◌, length, flat_map, replicate}
use Rattle.std.specs.List.{enumerate_from}
use Rattle.byteorder.specs.Endian.{big_bytes}
use Rattle.sym_mod.specs.declared.program.Target.{Target}
use Rattle.linking_model.specs.Tree.{Tree, segments, regions, parent_of, region_of, is_in}
use Rattle.linking_model.specs.Places.{Laid, entries_of}
use Rattle.linking_model.specs.Tables.{segment_of}

-- X'FF' of a segment that is resident
abbrev pub status_of : List ℕ → ℕ → ℕ
status_of resident s = if is_in s resident then 255 else 0

-- `$SEGTAB`: the numbers of segments and of regions, six zeros, and for each segment its parent, its region, its
-- status and a zero
unfoldable pub segtab_bytes : Tree → List ℕ → List ℕ
segtab_bytes tree resident =
    length tree ∷ regions tree ∷ replicate 6 0
    ++ flat_map (λ s. parent_of tree s ∷ region_of tree s ∷ status_of resident s ∷ 0 ∷ []) (segments tree)

-- entry i of e in the table of segment b, for a symbol of this address in segment t: a branch to the end of the
-- table, the address, both segments and two zeros
abbrev pub entry_bytes : ℕ → ℕ → ℕ → ℕ → ℕ → List ℕ
entry_bytes e i address t b =
    71 ∷ 240 ∷ big_bytes 2 (61440 + 12 * (e - i)) ++ big_bytes 4 address ++ t ∷ b ∷ 0 ∷ 0 ∷ []

-- the `$ENTAB` of segment b, by the addresses of symbols: the number of entries, six zeros, the entries, and
-- supervisor call 45
unfoldable pub entab_bytes : Laid → (Target → ℕ) → ℕ → List ℕ
entab_bytes P address b =
    let e = length (entries_of P b) in
    big_bytes 2 e ++ replicate 6 0
    ++ flat_map (λ (i, y). entry_bytes e i (address y) (segment_of P.program y) b) (enumerate_from 0 (entries_of P b))
    ++ 10 ∷ 45 ∷ 0 ∷ 0 ∷ []
