-- What a store tells, what a sink holds, and the counts that give each fault its cause.
use Rattle.std.specs.Prelude.{◌≡◌, ℕ, ◌+◌, ◌-◌, ◌^◌, ◌≤◌, min, List, ◌++◌, Option, Some}

-- the bytes at each path, or nothing where the path is not there; a path is the bytes of its text
abbrev pub Files : Type 0
Files = List ℕ → Option (List ℕ)

-- the count went up, or stands at the greatest u64
abbrev pub Rose : ℕ → ℕ → Type 0
Rose before now = min (before + 1) (2 ^ 64 - 1) ≤ now

-- for each path: how many reads of it failed, how many puts to it failed, how often it was not there,
-- and how often a read found bytes past the limit of a set
pub record Counts : Type 0 where
  pub faults : List ℕ → ℕ
  pub put_faults : List ℕ → ℕ
  pub misses : List ℕ → ℕ
  pub longs : List ℕ → ℕ

-- no count fell, at any path
pub record NoneFalls (old new : Counts) : Type 0 where
  pub faults_stand : (path : List ℕ) → old.faults path ≤ new.faults path
  pub put_faults_stand : (path : List ℕ) → old.put_faults path ≤ new.put_faults path
  pub misses_stand : (path : List ℕ) → old.misses path ≤ new.misses path
  pub longs_stand : (path : List ℕ) → old.longs path ≤ new.longs path

-- no read and no put was counted as failed, at any path
pub record NoFault (old new : Counts) : Type 0 where
  pub no_read_fault : (path : List ℕ) → new.faults path ≡ old.faults path
  pub no_put_fault : (path : List ℕ) → new.put_faults path ≡ old.put_faults path

abbrev pub FaultsRose : Counts → Counts → List ℕ → Type 0
FaultsRose old new path = Rose (old.faults path) (new.faults path)

abbrev pub PutFaultsRose : Counts → Counts → List ℕ → Type 0
PutFaultsRose old new path = Rose (old.put_faults path) (new.put_faults path)

abbrev pub MissesRose : Counts → Counts → List ℕ → Type 0
MissesRose old new path = Rose (old.misses path) (new.misses path)

abbrev pub LongsRose : Counts → Counts → List ℕ → Type 0
LongsRose old new path = Rose (old.longs path) (new.longs path)

-- the fact, of what is told, wherever something is told
abbrev pub WhereTold : {T : Type 0} → Option T → (T → Type 0) → Type 0
WhereTold {T} told P = (value : T) → told ≡ Some value → P value

-- where it is told what a sink held, it now holds that and these bytes after it
abbrev pub Gains : Option (List ℕ) → Option (List ℕ) → List ℕ → Type 0
Gains old new bytes = WhereTold old (λ held. new ≡ Some (held ++ bytes))

-- one more call was counted, as far as a u64 goes
abbrev pub CountsCall : ℕ → ℕ → Type 0
CountsCall before now = now ≡ min (before + 1) (2 ^ 64 - 1)
