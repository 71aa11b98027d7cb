-- Which calls have a holder, and whose table it is.
use Rattle.std.proofs.Common.{◌≡◌, ℕ, zero, suc, ◌≤◌, Bool, true, false, not, cond, ◌&&◌, ◌||◌, List, [], ◌∷◌, ◌++◌, length, find, reverse, Some, is_some, refl, sym, ap, ◌∙◌, le_refl, arith, inl, inr}
use Rattle.std.proofs.lemmas.Bool.{false≢true}
use Rattle.std.proofs.lemmas.List.{reverse-append}
use Rattle.std.proofs.lemmas.Bool.Decides.{eqb_tells}
use Rattle.linking_model.specs.Tree.{Tree, IsTree, parent_of, path, is_in, is_on_path, is_below, is_away}
use Rattle.linking_model.specs.Tables.{holder, needs_entry, is_called_from, is_direct, segment_of}
use Rattle.linking_model.specs.Laws.{HasParent, CallsHaveHolders, HoldersHoldForThemselves}
use Rattle.linking_model.proofs.Trees.{segments_are_on_their_paths, segments_have_parents}
use Rattle.linking_model.proofs.Origins.{path-start, path-parent, only_one, further}
use Rattle.linking_model.proofs.Bytes.{is_in-reverse, is_in-found}

-- a search finds something where one element passes
pub found_some : (test : ℕ → Bool) (xs : List ℕ) (a : ℕ) → is_in a xs ≡ true → test a ≡ true → is_some (find test xs) ≡ true
found_some test [] a there holds = cc
found_some test (x ∷ xs) a there holds =
    elim (test x) as (λ b. test x ≡ b → is_some (cond b (Some x) (find test xs)) ≡ true) [
      | true ↦ λ e. refl
      | false ↦ λ e. found_some test xs a (later test x xs a there holds e) holds
    ] refl
  where
    later : (test : ℕ → Bool) (x : ℕ) (xs : List ℕ) (a : ℕ) → is_in a (x ∷ xs) ≡ true → test a ≡ true → test x ≡ false → is_in a xs ≡ true
    later test x xs a there holds e =
        elim (eqb_tells x a) [
          | inl w ↦ absurd (false≢true (sym e ∙ ap test w.1 ∙ holds))
          | inr w ↦ sym (ap (λ b. b || is_in a xs) w.0) ∙ there
        ]

needs : (called direct below away : Bool) → called ≡ true → direct ≡ false → (not direct && not below && not away) ≡ false → (called && (below || away)) ≡ true
needs true false true away c d e = refl
needs true false false true c d e = refl
needs true false false false c d e = cc
needs true true below away c d e = cc
needs false direct below away c d e = cc

pub calls_have_holders : CallsHaveHolders
unfolding holder
calls_have_holders p tree a y low high called direct exclusive =
    let on : is_in a (reverse (path tree a)) ≡ true = is_in-reverse a (path tree a) ∙ segments_are_on_their_paths tree a low high in
    found_some (needs_entry p tree y) (reverse (path tree a)) a on
    (needs (is_called_from p y a) (is_direct p tree a y) (is_below tree (segment_of p y) a) (is_away tree (segment_of p y) a) called direct exclusive)

-- ---- the path of a segment above

-- b is above a or is a: its path is the end of a's
pub record IsAbove (tree : Tree) (b a : ℕ) : Type 0 where
  pub front : List ℕ
  pub split : path tree a ≡ front ++ path tree b
  pub low : 1 ≤ b
  pub high : b ≤ length tree

above_within : (n : ℕ) (tree : Tree) (b a : ℕ) → a ≤ n → IsTree tree → 1 ≤ a → a ≤ length tree → is_on_path tree b a ≡ true → IsAbove tree b a
above_within zero tree b a bound t low high on = let no : ⊥ = omega arith in absurd no
above_within (suc n) tree b a bound t low high on =
    elim (eqb_tells b a) as (λ _. IsAbove tree b a) [
      | inl w ↦ rw (w.1) (record { front = []; split = refl; low = low; high = high })
      | inr w ↦ elim (eqb_tells a 1) as (λ _. IsAbove tree b a) [
        | inl v ↦ absurd (w.1 (only_one b 1 (sym (ap (λ l. is_in b l) (ap (λ k. path tree k) v.1 ∙ path-start tree t)) ∙ on) ∙ sym v.1))
        | inr v ↦
            let has : HasParent tree a = segments_have_parents tree a t (omega arith) high in
            let up : path tree a ≡ a ∷ path tree (parent_of tree a) = path-parent tree a t (omega arith) high in
            let rest : IsAbove tree b (parent_of tree a) = above_within n tree b (parent_of tree a) (omega arith) t has.below_root (omega arith) (further b a (path tree a) (path tree (parent_of tree a)) up w.1 on) in
            record { front = a ∷ rest.front; split = up ∙ ap (λ l. a ∷ l) rest.split; low = rest.low; high = rest.high }
      ]
    ]

pub is_above : (tree : Tree) (b a : ℕ) → IsTree tree → 1 ≤ a → a ≤ length tree → is_on_path tree b a ≡ true → IsAbove tree b a
is_above tree b a t low high on = above_within a tree b a (le_refl a) t low high on

-- ---- searches

found_passes : (test : ℕ → Bool) (xs : List ℕ) (b : ℕ) → find test xs ≡ Some b → test b ≡ true
found_passes test [] b h = cc
found_passes test (x ∷ xs) b h =
    elim (test x) as (λ v. test x ≡ v → cond v (Some x) (find test xs) ≡ Some b → test b ≡ true) [
      | true ↦ λ e k. let same : x ≡ b = cc in sym (ap test same) ∙ e
      | false ↦ λ e k. found_passes test xs b k
    ] refl h

-- a search that finds something goes no further
found-append : (test : ℕ → Bool) (xs ys : List ℕ) → is_some (find test xs) ≡ true → find test (xs ++ ys) ≡ find test xs
found-append test [] ys some = cc
found-append test (x ∷ xs) ys some =
    elim (test x) as (λ v. is_some (cond v (Some x) (find test xs)) ≡ true → cond v (Some x) (find test (xs ++ ys)) ≡ cond v (Some x) (find test xs)) [
      | true ↦ λ k. refl
      | false ↦ λ k. found-append test xs ys k
    ] some

pub holders_hold_for_themselves : HoldersHoldForThemselves
unfolding holder
holders_hold_for_themselves p tree a y b t low high found =
    let above : IsAbove tree b a = is_above tree b a t low high (sym (is_in-reverse b (path tree a)) ∙ is_in-found (needs_entry p tree y) (reverse (path tree a)) b found) in
    let on : is_in b (reverse (path tree b)) ≡ true = is_in-reverse b (path tree b) ∙ segments_are_on_their_paths tree b above.low above.high in
    let some : is_some (find (needs_entry p tree y) (reverse (path tree b))) ≡ true = found_some (needs_entry p tree y) (reverse (path tree b)) b on (found_passes (needs_entry p tree y) (reverse (path tree a)) b found) in
    sym (found-append (needs_entry p tree y) (reverse (path tree b)) (reverse above.front) some)
    ∙ ap (λ l. find (needs_entry p tree y) l) (sym (ap (λ l. reverse l) above.split ∙ reverse-append above.front (path tree b)))
    ∙ found
