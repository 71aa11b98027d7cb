-- Which segments may be resident at once: with segment 1, in each region the path of a segment. That a call brings in
-- the path of its target and drops what shares storage with it follows GC28-6538.
use Rattle.std.specs.Prelude.{◌≡◌, ◌≢◌, ◌⊎◌, ℕ, ◌≤◌, true, List, [], ◌∷◌, filter, length}
use Rattle.linking_model.specs.Tree.{Tree, IsTree, parent_of, region_of, segments, is_in, is_on_path}
use Rattle.linking_model.specs.Places.{Laid, origin, end_of}
use Rattle.linking_model.specs.Run.{after_call}

-- segments of the tree, ascending, segment 1 among them, each with its parent, and of each region those of one path
pub record AreResident (tree : Tree) (resident : List ℕ) : Type 0 where
  pub ascending : resident ≡ filter (λ s. is_in s resident) (segments tree)
  pub root : is_in 1 resident ≡ true
  pub parents : (s : ℕ) → 2 ≤ s → is_in s resident ≡ true → is_in (parent_of tree s) resident ≡ true
  pub one_path : (s t : ℕ) → is_in s resident ≡ true → is_in t resident ≡ true → region_of tree s ≡ region_of tree t
      → (is_on_path tree s t ≡ true) ⊎ (is_on_path tree t s ≡ true)

-- at the start they are
abbrev pub RootIsResident : Type 0
RootIsResident = (tree : Tree) → IsTree tree → AreResident tree (1 ∷ [])

-- and after a call into any segment
abbrev pub CallsKeepPaths : Type 0
CallsKeepPaths =
    (tree : Tree) (resident : List ℕ) (t : ℕ) → IsTree tree → 1 ≤ t → t ≤ length tree → AreResident tree resident
    → AreResident tree (after_call tree resident t)

-- the ranges of resident segments are apart
abbrev pub ResidentsAreApart : Type 0
ResidentsAreApart =
    (P : Laid) (resident : List ℕ) (s t : ℕ) → IsTree P.tree → AreResident P.tree resident → is_in s resident ≡ true
    → is_in t resident ≡ true → s ≢ t → (end_of P s ≤ origin P t) ⊎ (end_of P t ≤ origin P s)
