-- How the constants of each section are found from one to the next.
use Rattle.std.specs.Prelude.{◌≡◌, ℕ, ◌+◌, ◌<◌, ◌==◌, if◌then◌else◌, List, [], ◌∷◌, length, map, drop, get_or}
use Rattle.std.specs.List.{range_with_len}
use Rattle.sym_mod.specs.declared.program.Constant.{Constant}
use Rattle.mod_write.specs.declared.chains.Chains.{Chains}

-- the place of the first that stands in section i, of constants that begin at place k; the place after the last where none does
unfoldable pub first_in : List Constant → ℕ → ℕ → ℕ
first_in [] i k = k
first_in (c ∷ cs) i k = if c.section == i then k else first_in cs i (k + 1)

-- the place of the first constant from place k on that stands in section i, or else the number of constants
abbrev pub next_in : List Constant → ℕ → ℕ → ℕ
next_in cs i k = first_in (drop k cs) i k

-- the first constant of each of so many sections is given, and after each constant the next one of its section
pub record AreChained (cs : List Constant) (sections : ℕ) (chains : Chains) : Type 0 where
  pub first : chains.first.items ≡ map (λ i. next_in cs i 0) (range_with_len 0 sections)
  pub each : length chains.next.items ≡ length cs
  pub next : (k : ℕ) (c : Constant) → k < length cs → c ≡ get_or cs k c → get_or chains.next.items k 0 ≡ next_in cs c.section (k + 1)
