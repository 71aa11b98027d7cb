-- The lowest segment on many paths, one path after another.
use Rattle.std.proofs.Common.{◌≡◌, ℕ, zero, suc, ◌+◌, ◌<◌, ◌≤◌, Bool, true, false, ◌&&◌, ◌||◌, ◌==◌, nat_lt, cond, List, [], ◌∷◌, length, drop, slice_index, find, Some, None, unwrap_or, refl, sym, ap, ◌∙◌, le_refl, arith, inl, inr}
use Rattle.std.specs.List.{list_all}
use Rattle.std.proofs.lemmas.Bool.{ltb-true, ltb-false}
use Rattle.std.proofs.lemmas.Bool.Decides.{eqb_tells}
use Rattle.std.proofs.lemmas.List.{drop_more}
use Rattle.std.proofs.lemmas.List.Folds.{list_any-append}
use Rattle.linking_model.specs.Tree.{Tree, IsTree, path, parent_of, is_in, is_on_path, lowest_common}
use Rattle.linking_model.specs.Laws.{HasParent}
use Rattle.linking_model.proofs.Bytes.{or-true}
use Rattle.linking_model.proofs.Trees.{segments_have_parents, same_tells}
use Rattle.linking_model.proofs.Origins.{path-parent, path-start}
use Rattle.linking_model.proofs.Holders.{IsAbove, is_above}
use Rattle.seg_tree.proofs.Growing.{path_out, path_zero}
use Rattle.seg_tree.proofs.Lowest.{common_up, common_here}

-- a segment of the tree
pub record IsSegment (tree : Tree) (s : ℕ) : Type 0 where
  pub low : 1 ≤ s
  pub high : s ≤ length tree

within : (tree : Tree) (c r : ℕ) → is_on_path tree c r ≡ true → IsSegment tree r
within tree c r on =
    elim (eqb_tells r 0) as (λ _. IsSegment tree r) [
      | inl w ↦ absurd (false_true (sym (ap (λ l. is_in c l) (ap (λ k. path tree k) w.1 ∙ path_zero tree)) ∙ on))
      | inr w ↦ elim (nat_lt (length tree) r) as (λ b. nat_lt (length tree) r ≡ b → IsSegment tree r) [
        | true ↦ λ e. absurd (false_true (sym (ap (λ l. is_in c l) (path_out tree r (ltb-true (length tree) r e))) ∙ on))
        | false ↦ λ e. record { low = omega arith; high = ltb-false (length tree) r e }
      ] refl
    ]
  where
    false_true : false ≡ true → ⊥
    false_true h = cc

-- what is above a segment that is above another is above that one
above_above : (tree : Tree) (c s r : ℕ) → IsTree tree → is_on_path tree c s ≡ true → is_on_path tree s r ≡ true → is_on_path tree c r ≡ true
above_above tree c s r t on up =
    let in_tree : IsSegment tree r = within tree s r up in
    let above : IsAbove tree s r = is_above tree s r t in_tree.low in_tree.high up in
    ap (λ l. is_in c l) above.split ∙ list_any-append (λ k. k == c) above.front (path tree s)
    ∙ ap (λ b. is_in c above.front || b) on ∙ or-true (is_in c above.front)

find_same : (f g : ℕ → Bool) (xs : List ℕ) → ((c : ℕ) → is_in c xs ≡ true → f c ≡ g c) → find f xs ≡ find g xs
find_same f g [] same = refl
find_same f g (x ∷ xs) same =
    ap (λ b. cond b (Some x) (find f xs)) (same x (first_in x xs))
    ∙ ap (λ r. cond (g x) (Some x) r) (find_same f g xs (λ c on. same c (later_in c x xs on)))
  where
    first_in : (x : ℕ) (xs : List ℕ) → is_in x (x ∷ xs) ≡ true
    first_in x xs = ap (λ b. b || is_in x xs) (same_tells x)

    later_in : (c x : ℕ) (xs : List ℕ) → is_in c xs ≡ true → is_in c (x ∷ xs) ≡ true
    later_in c x xs on = ap (λ b. x == c || b) on ∙ or-true (x == c)

abbrev on_all : Tree → List ℕ → ℕ → Bool
on_all tree rest c = list_all (is_on_path tree c) rest

find_below : (test : ℕ → Bool) (x : ℕ) (xs : List ℕ) → test x ≡ false → find test (x ∷ xs) ≡ find test xs
find_below test x xs e = rw e refl

from_root : (tree : Tree) (rest : List ℕ) → IsTree tree → lowest_common tree (1 ∷ rest) ≡ 1
unfolding lowest_common
from_root tree rest t = ap (λ l. unwrap_or (find (on_all tree rest) l) 1) (path-start tree t) ∙ either (on_all tree rest 1) 1
  where
    either : (b : Bool) (one : ℕ) → unwrap_or (cond b (Some one) None) one ≡ one
    either true one = refl
    either false one = refl

from_nowhere : (tree : Tree) (s : ℕ) (rest : List ℕ) → path tree s ≡ [] → lowest_common tree (s ∷ rest) ≡ 1
unfolding lowest_common
from_nowhere tree s rest e = ap (λ l. unwrap_or (find (on_all tree rest) l) 1) e

-- a segment that is on its path changes nothing
pub lowest_own : (tree : Tree) (s : ℕ) (rest : List ℕ) → lowest_common tree (s ∷ s ∷ rest) ≡ lowest_common tree (s ∷ rest)
unfolding lowest_common
lowest_own tree s rest = ap (λ o. unwrap_or o 1) (find_same (on_all tree (s ∷ rest)) (on_all tree rest) (path tree s) (λ c on. ap (λ b. b && on_all tree rest c) on))

-- on the path of the first the test of the second changes nothing where the first is above the second
lowest_here : (tree : Tree) (s r : ℕ) (rest : List ℕ) → IsTree tree → is_on_path tree s r ≡ true → lowest_common tree (s ∷ r ∷ rest) ≡ lowest_common tree (s ∷ rest)
unfolding lowest_common
lowest_here tree s r rest t up = ap (λ o. unwrap_or o 1) (find_same (on_all tree (r ∷ rest)) (on_all tree rest) (path tree s) (λ c on. ap (λ b. b && on_all tree rest c) (above_above tree c s r t on up)))

lowest_up : (tree : Tree) (s r : ℕ) (rest : List ℕ) → IsTree tree → 2 ≤ s → s ≤ length tree → is_on_path tree s r ≡ false → lowest_common tree (s ∷ r ∷ rest) ≡ lowest_common tree (parent_of tree s ∷ r ∷ rest)
unfolding lowest_common
lowest_up tree s r rest t low high off =
    ap (λ o. unwrap_or o 1)
    (ap (λ l. find (on_all tree (r ∷ rest)) l) (path-parent tree s t low high)
    ∙ find_below (on_all tree (r ∷ rest)) s (path tree (parent_of tree s)) (ap (λ b. b && on_all tree rest s) off))

lowest_step : (tree : Tree) (s r : ℕ) (rest : List ℕ) → IsTree tree → 2 ≤ s → s ≤ length tree → is_on_path tree s r ≡ false → lowest_common tree (lowest_common tree (parent_of tree s ∷ r ∷ []) ∷ rest) ≡ lowest_common tree (parent_of tree s ∷ r ∷ rest) → lowest_common tree (lowest_common tree (s ∷ r ∷ []) ∷ rest) ≡ lowest_common tree (s ∷ r ∷ rest)
lowest_step tree s r rest t low high off above =
    ap (λ c. lowest_common tree (c ∷ rest)) (sym (common_up tree s r t (omega arith) off)) ∙ above ∙ sym (lowest_up tree s r rest t low high off)

lowest_nowhere : (tree : Tree) (s r : ℕ) (rest : List ℕ) → IsTree tree → path tree s ≡ [] → lowest_common tree (lowest_common tree (s ∷ r ∷ []) ∷ rest) ≡ lowest_common tree (s ∷ r ∷ rest)
lowest_nowhere tree s r rest t e = ap (λ c. lowest_common tree (c ∷ rest)) (from_nowhere tree s (r ∷ []) e) ∙ from_root tree rest t ∙ sym (from_nowhere tree s (r ∷ rest) e)

abbrev Folds : Tree → ℕ → ℕ → List ℕ → Type 0
Folds tree s r rest = lowest_common tree (lowest_common tree (s ∷ r ∷ []) ∷ rest) ≡ lowest_common tree (s ∷ r ∷ rest)

folds_at : (tree : Tree) (s r : ℕ) (rest : List ℕ) → IsTree tree → (2 ≤ s → s ≤ length tree → Folds tree (parent_of tree s) r rest) → Folds tree s r rest
folds_at tree s r rest t above =
    elim (eqb_tells s 0) as (λ _. Folds tree s r rest) [
      | inl w ↦ lowest_nowhere tree s r rest t (ap (λ k. path tree k) w.1 ∙ path_zero tree)
      | inr w ↦ elim (nat_lt (length tree) s) as (λ b. nat_lt (length tree) s ≡ b → Folds tree s r rest) [
        | true ↦ λ e. lowest_nowhere tree s r rest t (path_out tree s (ltb-true (length tree) s e))
        | false ↦ λ e. elim (eqb_tells s 1) as (λ _. Folds tree s r rest) [
          | inl v ↦ rw (v.1) (ap (λ c. lowest_common tree (c ∷ rest)) (from_root tree (r ∷ []) t) ∙ from_root tree rest t ∙ sym (from_root tree (r ∷ rest) t))
          | inr v ↦ elim (is_on_path tree s r) as (λ b. is_on_path tree s r ≡ b → Folds tree s r rest) [
            | true ↦ λ on. ap (λ c. lowest_common tree (c ∷ rest)) (common_here tree s r t (omega arith) on) ∙ sym (lowest_here tree s r rest t on)
            | false ↦ λ off. lowest_step tree s r rest t (omega arith) (ltb-false (length tree) s e) off (above (omega arith) (ltb-false (length tree) s e))
          ] refl
        ]
      ] refl
    ]

lowest_within : (n : ℕ) (tree : Tree) (s r : ℕ) (rest : List ℕ) → s ≤ n → IsTree tree → Folds tree s r rest
lowest_within zero tree s r rest bound t = folds_at tree s r rest t (λ low high. let no : ⊥ = omega arith in absurd no)
lowest_within (suc n) tree s r rest bound t =
    folds_at tree s r rest t
    (λ low high. let has : HasParent tree s = segments_have_parents tree s t low high in lowest_within n tree (parent_of tree s) r rest (omega arith) t)

-- one path after another
pub lowest_fold : (tree : Tree) (s r : ℕ) (rest : List ℕ) → IsTree tree → lowest_common tree (lowest_common tree (s ∷ r ∷ []) ∷ rest) ≡ lowest_common tree (s ∷ r ∷ rest)
lowest_fold tree s r rest t = lowest_within s tree s r rest (le_refl s) t

-- the common segment of two is itself the lowest on its own path
pub lowest_alone : (tree : Tree) (s r : ℕ) → IsTree tree → lowest_common tree (lowest_common tree (s ∷ r ∷ []) ∷ []) ≡ lowest_common tree (s ∷ r ∷ [])
lowest_alone tree s r t = lowest_fold tree s r [] t

pub lowest_none : (tree : Tree) → lowest_common tree [] ≡ 1
unfolding lowest_common
lowest_none tree = refl

pub lowest_empty : (tree : Tree) (users : List ℕ) → length users < 1 → 1 ≡ lowest_common tree users
lowest_empty tree [] few = sym (lowest_none tree)
lowest_empty tree (u ∷ users) few = let no : ⊥ = omega arith in absurd no

pub fold_init : (tree : Tree) (first on : ℕ) (rest : List ℕ) → IsTree tree → on ≡ lowest_common tree (first ∷ first ∷ []) → (lowest_common tree (on ∷ []) ≡ on) × (lowest_common tree (on ∷ rest) ≡ lowest_common tree (first ∷ rest))
fold_init tree first on rest t is =
    rw is (lowest_alone tree first first t, lowest_fold tree first first rest t ∙ lowest_own tree first rest)

drop_at : (xs : List ℕ) (k : ℕ) → k < length xs → drop k xs ≡ slice_index xs k ∷ drop (k + 1) xs
drop_at xs k low = drop_more xs k 0 low

pub fold_step : (tree : Tree) (on more k answer : ℕ) (rest : List ℕ) → IsTree tree → k < length rest → more ≡ lowest_common tree (on ∷ slice_index rest k ∷ []) → lowest_common tree (on ∷ drop k rest) ≡ answer → (lowest_common tree (more ∷ []) ≡ more) × (lowest_common tree (more ∷ drop (k + 1) rest) ≡ answer)
fold_step tree on more k answer rest t low is was =
    rw is (
      lowest_alone tree on (slice_index rest k) t,
      lowest_fold tree on (slice_index rest k) (drop (k + 1) rest) t ∙ sym (ap (λ l. lowest_common tree (on ∷ l)) (drop_at rest k low)) ∙ was,
    )
