-- The first table from the root on that has a target, step by step up the path.
use Rattle.std.proofs.Common.{arith, ◌≡◌, ◌≢◌, ℕ, ◌<◌, ◌≤◌, Bool, true, false, ◌==◌, if◌then◌else◌, List, [], ◌∷◌, ◌++◌, length, reverse, refl, sym, ◌∙◌, ap, subst, Option, Some, None}
use Rattle.std.specs.List.{find}
use Rattle.std.specs.Option.{option_or}
use Rattle.std.proofs.lemmas.Option.{none-some}
use Rattle.sym_mod.specs.declared.program.Target.{Target}
use Rattle.linking_model.specs.Laws.{HasParent}
use Rattle.linking_model.specs.Tree.{Tree, IsTree, root, path, parent_of}
use Rattle.linking_model.proofs.Trees.{reverse-cons, segments_have_parents, parent_of-older, parent_of-newest}
use Rattle.linking_model.proofs.Origins.{path-parent, path-start}
use Rattle.relocate.specs.Listed.{is_listed, if_listed, listing}

pub find_last : (f : ℕ → Bool) (xs : List ℕ) (s : ℕ) → find f (xs ++ s ∷ []) ≡ option_or (find f xs) (if f s then Some s else None)
find_last f [] s = refl
find_last f (x ∷ xs) s = by_cases (f x) refl (find_last f xs s)
  where
    by_cases : (b : Bool) → f x ≡ b → find f (xs ++ s ∷ []) ≡ option_or (find f xs) (if f s then Some s else None)
        → find f (x ∷ (xs ++ s ∷ [])) ≡ option_or (find f (x ∷ xs)) (if f s then Some s else None)
    by_cases true first rest = rw first refl
    by_cases false first rest = rw first rest

pub root_has_no_parent : (tree : Tree) → IsTree tree → parent_of tree 1 ≡ 0
root_has_no_parent [] made = absurd made
root_has_no_parent (x ∷ []) made = rw made (parent_of-newest root [])
root_has_no_parent (x ∷ y ∷ older) made =
    parent_of-older x (y ∷ older) 1 (omega arith) ∙ root_has_no_parent (y ∷ older) made.1

abbrev pub parent_answer : ℕ → Option ℕ
parent_answer n = if n == 0 then None else Some n

pub parent_is : (n p : ℕ) → parent_answer n ≡ Some p → (n ≡ p) × (n ≢ 0)
parent_is n p same = by_cases (n == 0) refl
  where
    by_cases : (b : Bool) → (n == 0) ≡ b → (n ≡ p) × (n ≢ 0)
    by_cases true none = absurd (none-some p (rw none at same))
    by_cases false some = let there = rw some at same in (cc, grind (arith, some))

pub no_parent_is : (n : ℕ) → parent_answer n ≡ None → n ≡ 0
no_parent_is n same = by_cases (n == 0) refl
  where
    by_cases : (b : Bool) → (n == 0) ≡ b → n ≡ 0
    by_cases true none = grind (arith, none)
    by_cases false some = absurd (none-some n (sym (rw some at same)))

is_second : (tree : Tree) (s : ℕ) → IsTree tree → 1 ≤ s → parent_of tree s ≢ 0 → 2 ≤ s
is_second tree s made first some = by_cases (s == 1) refl
  where
    by_cases : (b : Bool) → (s == 1) ≡ b → 2 ≤ s
    by_cases true same =
        let one : s ≡ 1 = grind (arith, same) in
        absurd (some (ap (parent_of tree) one ∙ root_has_no_parent tree made))
    by_cases false other = grind (arith, other, first)

pub parent_earlier : (tree : Tree) (s p : ℕ) → IsTree tree → 1 ≤ s → s ≤ length tree → parent_answer (parent_of tree s) ≡ Some p
    → (1 ≤ p) × (p < s)
parent_earlier tree s p made first last same =
    let is : (parent_of tree s ≡ p) × (parent_of tree s ≢ 0) = parent_is (parent_of tree s) p same in
    let has : HasParent tree s = segments_have_parents tree s made (is_second tree s made first is.1) last in
    (subst (λ n. 1 ≤ n) is.0 has.below_root, subst (λ n. n < s) is.0 has.earlier)

-- the first that passes a test, from the root down to segment s
abbrev pub first_on_path : (ℕ → Bool) → Tree → ℕ → Option ℕ
first_on_path f tree s = find f (reverse (path tree s))

abbrev pub if_passes : (ℕ → Bool) → ℕ → Option ℕ
if_passes f s = if f s then Some s else None

pub first_below : (f : ℕ → Bool) (tree : Tree) (s p : ℕ) → IsTree tree → 1 ≤ s → s ≤ length tree
    → parent_answer (parent_of tree s) ≡ Some p → first_on_path f tree s ≡ option_or (first_on_path f tree p) (if_passes f s)
first_below f tree s p made first last same =
    let is : (parent_of tree s ≡ p) × (parent_of tree s ≢ 0) = parent_is (parent_of tree s) p same in
    let up : path tree s ≡ s ∷ path tree p = path-parent tree s made (is_second tree s made first is.1) last ∙ ap (λ q. s ∷ path tree q) is.0 in
    ap (λ r. find f (reverse r)) up ∙ (ap (find f) (reverse-cons s (path tree p)) ∙ find_last f (reverse (path tree p)) s)

pub first_at_root : (f : ℕ → Bool) (tree : Tree) (s : ℕ) → IsTree tree → 1 ≤ s → s ≤ length tree
    → parent_answer (parent_of tree s) ≡ None → first_on_path f tree s ≡ if_passes f s
first_at_root f tree s made first last same = by_cases (s == 1) refl
  where
    by_cases : (b : Bool) → (s == 1) ≡ b → first_on_path f tree s ≡ if_passes f s
    by_cases true one =
        let is : s ≡ 1 = grind (arith, one) in
        rw is (ap (λ r. find f (reverse r)) (path-start tree made))
    by_cases false other =
        let second : 2 ≤ s = grind (arith, other, first) in
        let has : HasParent tree s = segments_have_parents tree s made second last in
        let none : parent_of tree s ≡ 0 = no_parent_is (parent_of tree s) same in
        absurd (omega (arith, none, has.below_root))

pub listing_below : (tree : Tree) (entries : List (List Target)) (s p : ℕ) (y : Target) → IsTree tree → 1 ≤ s → s ≤ length tree
    → parent_answer (parent_of tree s) ≡ Some p → listing tree entries s y ≡ option_or (listing tree entries p y) (if_listed entries y s)
unfolding listing
listing_below tree entries s p y made first last same = first_below (is_listed entries y) tree s p made first last same

pub listing_root : (tree : Tree) (entries : List (List Target)) (s : ℕ) (y : Target) → IsTree tree → 1 ≤ s → s ≤ length tree
    → parent_answer (parent_of tree s) ≡ None → listing tree entries s y ≡ if_listed entries y s
unfolding listing
listing_root tree entries s y made first last same = first_at_root (is_listed entries y) tree s made first last same
