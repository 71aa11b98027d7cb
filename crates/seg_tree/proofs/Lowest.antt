-- The lowest segment on two paths, by going up one of them.
use Rattle.std.proofs.Common.{◌≡◌, ◌≢◌, ℕ, ◌+◌, ◌<◌, ◌≤◌, Bool, true, false, ◌&&◌, nat_lt, cond, List, [], ◌∷◌, length, find, Option, Some, None, ◌==◌, ◌||◌, unwrap_or, refl, sym, ap, ◌∙◌, arith, inl, inr}
use Rattle.std.proofs.lemmas.Bool.{ltb-true, ltb-false}
use Rattle.std.proofs.lemmas.Bool.Decides.{eqb_tells}
use Rattle.linking_model.specs.declared.segment.Segment.{Segment}
use Rattle.linking_model.specs.Tree.{Tree, IsTree, path, parent_of, is_in, is_on_path, lowest_common}
use Rattle.linking_model.specs.Laws.{HasParent}
use Rattle.linking_model.proofs.Trees.{path-newest, path-older, segments_have_parents}
use Rattle.linking_model.proofs.Origins.{path-parent, path-start, path-own}
use Rattle.seg_tree.proofs.Growing.{path_out, path_zero, parent_out}

pub parent_below : (tree : Tree) (s : ℕ) → IsTree tree → 1 < s → parent_of tree s < s
parent_below tree s t low =
    elim (nat_lt (length tree) s) as (λ b. nat_lt (length tree) s ≡ b → parent_of tree s < s) [
      | true ↦ λ e. rw (parent_out tree s (ltb-true (length tree) s e)) (omega arith)
      | false ↦ λ e. let has : HasParent tree s = segments_have_parents tree s t (omega arith) (ltb-false (length tree) s e) in has.earlier
    ] refl

-- what is on a path is a number of the tree
newest_within : (a n : ℕ) (list : List ℕ) → (is_in a list ≡ true → a ≤ n) → is_in a ((n + 1) ∷ list) ≡ true → a ≤ n + 1
newest_within a n list rest h =
    elim (eqb_tells (n + 1) a) as (λ _. a ≤ n + 1) [
      | inl v ↦ omega arith
      | inr v ↦ let below : a ≤ n = rest (sym (ap (λ b. b || is_in a list) v.0) ∙ h) in omega arith
    ]

path_within : (tree : Tree) (a s : ℕ) → is_in a (path tree s) ≡ true → a ≤ length tree
unfolding path
path_within [] a s on = cc
path_within (x ∷ older) a s on =
    elim (eqb_tells s (length older + 1)) as (λ _. a ≤ length (x ∷ older)) [
      | inl w ↦ counted (newest_within a (length older) (path older x.parent) (path_within older a x.parent) (sym (ap (λ l. is_in a l) (ap (λ k. path (x ∷ older) k) w.1 ∙ path-newest x older)) ∙ on))
      | inr w ↦ counted (wider (path_within older a s (sym (ap (λ l. is_in a l) (path-older x older s w.1)) ∙ on)))
    ]
  where
    counted : a ≤ length older + 1 → a ≤ length (x ∷ older)
    counted h = omega arith

    wider : a ≤ length older → a ≤ length older + 1
    wider h = omega arith

find-false : (test : ℕ → Bool) (x : ℕ) (xs : List ℕ) → test x ≡ false → find test (x ∷ xs) ≡ find test xs
find-false test x xs e = rw e refl

find-true : (test : ℕ → Bool) (x : ℕ) (xs : List ℕ) → test x ≡ true → find test (x ∷ xs) ≡ Some x
find-true test x xs e = rw e refl

abbrev is_shared : Tree → ℕ → ℕ → Bool
is_shared tree b c = is_on_path tree c b && true

pub common_up : (tree : Tree) (on b : ℕ) → IsTree tree → 1 < on → is_on_path tree on b ≡ false → lowest_common tree (parent_of tree on ∷ b ∷ []) ≡ lowest_common tree (on ∷ b ∷ [])
unfolding lowest_common
common_up tree on b t low off =
    elim (nat_lt (length tree) on) as (λ k. nat_lt (length tree) on ≡ k → unwrap_or (find (is_shared tree b) (path tree (parent_of tree on))) 1 ≡ unwrap_or (find (is_shared tree b) (path tree on)) 1) [
      | true ↦ λ e. rw (parent_out tree on (ltb-true (length tree) on e), path_zero tree, path_out tree on (ltb-true (length tree) on e)) refl
      | false ↦ λ e.
          let up : path tree on ≡ on ∷ path tree (parent_of tree on) = path-parent tree on t (omega arith) (ltb-false (length tree) on e) in
          sym (ap (λ o. unwrap_or o 1) (ap (λ l. find (is_shared tree b) l) up ∙ find-false (is_shared tree b) on (path tree (parent_of tree on)) (ap (λ x. x && true) off)))
    ] refl

pub common_here : (tree : Tree) (on b : ℕ) → IsTree tree → 1 < on → is_on_path tree on b ≡ true → lowest_common tree (on ∷ b ∷ []) ≡ on
unfolding lowest_common
common_here tree on b t low here =
    let own : path tree on ≡ on ∷ path tree (parent_of tree on) = path-parent tree on t (omega arith) (path_within tree on b here) in
    ap (λ o. unwrap_or o 1) (ap (λ l. find (is_shared tree b) l) own ∙ find-true (is_shared tree b) on (path tree (parent_of tree on)) (ap (λ x. x && true) here))

root_or : (t : Bool) (one : ℕ) → unwrap_or (cond t (Some one) None) one ≡ one
root_or true one = refl
root_or false one = refl

pub common_root : (tree : Tree) (on b : ℕ) → IsTree tree → on ≤ 1 → lowest_common tree (on ∷ b ∷ []) ≡ 1
unfolding lowest_common
common_root tree on b t low =
    elim (eqb_tells on 0) as (λ _. unwrap_or (find (is_shared tree b) (path tree on)) 1 ≡ 1) [
      | inl w ↦ rw (w.1, path_zero tree) refl
      | inr w ↦ let one : on ≡ 1 = omega arith in rw (one, path-start tree t) (root_or (is_shared tree b 1) 1)
    ]

pub common_out : (tree : Tree) (on b : ℕ) → length tree < on → lowest_common tree (on ∷ b ∷ []) ≡ 1
unfolding lowest_common
common_out tree on b high = rw (path_out tree on high) refl
