-- Resident segments are paths, and their ranges are apart.
use Rattle.std.proofs.Common.{◌≡◌, ◌≢◌, ◌⊎◌, inl, inr, ℕ, zero, suc, ◌+◌, ◌<◌, ◌≤◌, Bool, true, false, not, ◌&&◌, ◌||◌, ◌==◌, if◌then◌else◌, List, [], ◌∷◌, filter, length, refl, sym, ap, ◌∙◌, subst, le_refl, arith}
use Rattle.std.specs.List.{AllByRecursion as Each, range_with_len}
use Rattle.std.proofs.lemmas.Bool.{cases_lt, false≢true, eq-eqb, ne_eqb, and_parts}
use Rattle.std.proofs.lemmas.Bool.Decides.{eqb_tells}
use Rattle.linking_model.specs.Tree.{Tree, IsTree, parent_of, region_of, segments, path, is_in, is_on_path}
use Rattle.linking_model.specs.Laws.{HasParent}
use Rattle.linking_model.specs.Places.{origin, size, end_of}
use Rattle.linking_model.specs.Run.{after_call}
use Rattle.linking_model.proofs.Trees.{segments_have_parents, segments_are_on_their_paths}
use Rattle.linking_model.proofs.Origins.{path-parent, path-start, only_one, further, is_in-segments, lower_regions_end_before, ancestors_end_before}
use Rattle.member_laws.proofs.Gathering.{tree-some}
use Rattle.member_laws.proofs.Numbered.{segments-range}
use Rattle.run_laws.proofs.NotesRight.{filter_none, range_each}
use Rattle.run_laws.specs.Residents.{AreResident, RootIsResident, CallsKeepPaths, ResidentsAreApart}

-- ---- paths

-- what is on the path of a parent is on the path of the segment
on_longer : (tree : Tree) (a s : ℕ) → IsTree tree → 2 ≤ s → s ≤ length tree → is_on_path tree a (parent_of tree s) ≡ true → is_on_path tree a s ≡ true
on_longer tree a s t low high on =
    ap (is_in a) (path-parent tree s t low high) ∙ ap (λ b. (s == a) || b) on ∙ or_true (s == a)
  where
    or_true : (b : Bool) → (b || true) ≡ true
    or_true true = refl
    or_true false = refl

-- a segment on a path is the last of it, or on the path of the last one's parent
pub record IsFurther (tree : Tree) (a s : ℕ) : Type 0 where
  pub below_root : 2 ≤ s
  pub on : is_on_path tree a (parent_of tree s) ≡ true
  pub has : HasParent tree s

pub last_or_further : (tree : Tree) (a s : ℕ) → IsTree tree → 1 ≤ s → s ≤ length tree → is_on_path tree a s ≡ true → (a ≡ s) ⊎ IsFurther tree a s
last_or_further tree a s t low high on =
    elim (eqb_tells a s) as (λ _. (a ≡ s) ⊎ IsFurther tree a s) [
      | inl w ↦ inl w.1
      | inr w ↦ elim (eqb_tells s 1) as (λ _. (a ≡ s) ⊎ IsFurther tree a s) [
        | inl v ↦ inl (only_one a 1 (sym (ap (is_in a) (ap (path tree) v.1 ∙ path-start tree t)) ∙ on) ∙ sym v.1)
        | inr v ↦
            let second : 2 ≤ s = more s low v.1 in
            inr (record {
              below_root = second;
              on = further a s (path tree s) (path tree (parent_of tree s)) (path-parent tree s t second high) w.1 on;
              has = segments_have_parents tree s t second high;
            })
      ]
    ]
  where
    more : (s : ℕ) → 1 ≤ s → s ≢ 1 → 2 ≤ s
    more s low differ = omega (arith, low, differ)

-- the root is on every path
root_within : (n : ℕ) (tree : Tree) (s : ℕ) → s ≤ n → IsTree tree → 1 ≤ s → s ≤ length tree → is_on_path tree 1 s ≡ true
root_within zero tree s bound t low high = absurd (omega (arith, bound, low))
root_within (suc n) tree s bound t low high =
    elim (eqb_tells s 1) as (λ _. is_on_path tree 1 s ≡ true) [
      | inl w ↦ subst (λ k. is_on_path tree 1 k ≡ true) (sym w.1) (segments_are_on_their_paths tree 1 (omega arith) (omega (arith, low, high)))
      | inr w ↦
          let has : HasParent tree s = segments_have_parents tree s t (omega (arith, low, w.1)) high in
          on_longer tree 1 s t (omega (arith, low, w.1)) high (root_within n tree (parent_of tree s) (omega (arith, has.earlier, bound)) t has.below_root (omega (arith, has.earlier, high)))
    ]

pub root_on_path : (tree : Tree) (s : ℕ) → IsTree tree → 1 ≤ s → s ≤ length tree → is_on_path tree 1 s ≡ true
root_on_path tree s = root_within s tree s (le_refl s)

-- the parent of a segment on a path is on it
parent_within : (n : ℕ) (tree : Tree) (a s : ℕ) → s ≤ n → IsTree tree → 1 ≤ s → s ≤ length tree → 2 ≤ a → is_on_path tree a s ≡ true
    → is_on_path tree (parent_of tree a) s ≡ true
parent_within zero tree a s bound t low high second on = absurd (omega (arith, bound, low))
parent_within (suc n) tree a s bound t low high second on = by_cases (last_or_further tree a s t low high on)
    (λ rest. parent_within n tree a (parent_of tree s) (omega (arith, rest.has.earlier, bound)) t rest.has.below_root (omega (arith, rest.has.earlier, high)) second rest.on)
  where
    by_cases : (a ≡ s) ⊎ IsFurther tree a s → (IsFurther tree a s → is_on_path tree (parent_of tree a) (parent_of tree s) ≡ true)
        → is_on_path tree (parent_of tree a) s ≡ true
    by_cases (inl same) later =
        let here : 2 ≤ s = subst (λ k. 2 ≤ k) same second in
        let has : HasParent tree s = segments_have_parents tree s t here high in
        on_longer tree (parent_of tree a) s t here high
        (subst (λ k. is_on_path tree (parent_of tree k) (parent_of tree s) ≡ true) (sym same)
        (segments_are_on_their_paths tree (parent_of tree s) has.below_root (omega (arith, has.earlier, high))))
    by_cases (inr rest) later = on_longer tree (parent_of tree a) s t rest.below_root high (later rest)

pub parent_on_path : (tree : Tree) (a s : ℕ) → IsTree tree → 1 ≤ s → s ≤ length tree → 2 ≤ a → is_on_path tree a s ≡ true
    → is_on_path tree (parent_of tree a) s ≡ true
parent_on_path tree a s = parent_within s tree a s (le_refl s)

-- a segment on a path is the root, or in the region of the last
region_within : (n : ℕ) (tree : Tree) (a s : ℕ) → s ≤ n → IsTree tree → 1 ≤ s → s ≤ length tree → is_on_path tree a s ≡ true
    → (a ≡ 1) ⊎ (region_of tree a ≡ region_of tree s)
region_within zero tree a s bound t low high on = absurd (omega (arith, bound, low))
region_within (suc n) tree a s bound t low high on = by_cases (last_or_further tree a s t low high on)
    (λ rest. region_within n tree a (parent_of tree s) (omega (arith, rest.has.earlier, bound)) t rest.has.below_root (omega (arith, rest.has.earlier, high)) rest.on)
  where
    of_root : IsFurther tree a s → parent_of tree s ≡ 1 → a ≡ 1
    of_root rest root = only_one a 1 (sym (ap (is_in a) (ap (path tree) root ∙ path-start tree t)) ∙ rest.on)

    joined : IsFurther tree a s → (parent_of tree s ≡ 1) ⊎ (region_of tree s ≡ region_of tree (parent_of tree s))
        → (a ≡ 1) ⊎ (region_of tree a ≡ region_of tree (parent_of tree s)) → (a ≡ 1) ⊎ (region_of tree a ≡ region_of tree s)
    joined rest (inl root) later = inl (of_root rest root)
    joined rest (inr same) (inl first) = inl first
    joined rest (inr same) (inr region) = inr (region ∙ sym same)

    by_cases : (a ≡ s) ⊎ IsFurther tree a s → (IsFurther tree a s → (a ≡ 1) ⊎ (region_of tree a ≡ region_of tree (parent_of tree s)))
        → (a ≡ 1) ⊎ (region_of tree a ≡ region_of tree s)
    by_cases (inl same) later = inr (ap (region_of tree) same)
    by_cases (inr rest) later = joined rest rest.has.same_region (later rest)

pub region_on_path : (tree : Tree) (a s : ℕ) → IsTree tree → 1 ≤ s → s ≤ length tree → is_on_path tree a s ≡ true
    → (a ≡ 1) ⊎ (region_of tree a ≡ region_of tree s)
region_on_path tree a s = region_within s tree a s (le_refl s)

-- of two segments on a path one is on the path of the other
abbrev pub OneOnOther : Tree → ℕ → ℕ → Type 0
OneOnOther tree a b = (is_on_path tree a b ≡ true) ⊎ (is_on_path tree b a ≡ true)

both_within : (n : ℕ) (tree : Tree) (a b s : ℕ) → s ≤ n → IsTree tree → 1 ≤ s → s ≤ length tree → is_on_path tree a s ≡ true
    → is_on_path tree b s ≡ true → OneOnOther tree a b
both_within zero tree a b s bound t low high one other = absurd (omega (arith, bound, low))
both_within (suc n) tree a b s bound t low high one other =
    by_cases (last_or_further tree a s t low high one) (last_or_further tree b s t low high other)
    (λ first second.
    both_within n tree a b (parent_of tree s) (omega (arith, first.has.earlier, bound)) t first.has.below_root (omega (arith, first.has.earlier, high)) first.on second.on)
  where
    by_cases : (a ≡ s) ⊎ IsFurther tree a s → (b ≡ s) ⊎ IsFurther tree b s → (IsFurther tree a s → IsFurther tree b s → OneOnOther tree a b)
        → OneOnOther tree a b
    by_cases (inl same) second later = inr (subst (λ k. is_on_path tree b k ≡ true) (sym same) other)
    by_cases (inr first) (inl same) later = inl (subst (λ k. is_on_path tree a k ≡ true) (sym same) one)
    by_cases (inr first) (inr second) later = later first second

pub both_on_path : (tree : Tree) (a b s : ℕ) → IsTree tree → 1 ≤ s → s ≤ length tree → is_on_path tree a s ≡ true → is_on_path tree b s ≡ true
    → OneOnOther tree a b
both_on_path tree a b s = both_within s tree a b s (le_refl s)

-- ---- lists of segments

pub in_range : (a n s : ℕ) → is_in s (range_with_len a n) ≡ true → (a ≤ s) × (s < a + n)
in_range a zero s there = absurd (false≢true there)
in_range a (suc n) s there =
    elim (eqb_tells a s) as (λ _. (a ≤ s) × (s < a + suc n)) [
      | inl w ↦ (omega (arith, w.1), omega (arith, w.1))
      | inr w ↦
          let rest : (a + 1 ≤ s) × (s < a + 1 + n) = in_range (a + 1) n s (sym (ap (λ b. b || is_in s (range_with_len (a + 1) n)) w.0) ∙ there) in
          (omega (arith, rest.0), omega (arith, rest.1))
    ]

pub in_segments : (tree : Tree) (s : ℕ) → is_in s (segments tree) ≡ true → (1 ≤ s) × (s ≤ length tree)
in_segments tree s there =
    let found : (1 ≤ s) × (s < 1 + length tree) = in_range 1 (length tree) s (sym (ap (is_in s) (segments-range tree)) ∙ there) in
    (found.0, omega (arith, found.1))

pub in_filter : (test : ℕ → Bool) (xs : List ℕ) (s : ℕ) → is_in s (filter test xs) ≡ (is_in s xs && test s)
in_filter test [] s = refl
in_filter test (x ∷ xs) s = by_test (test x) refl (in_filter test xs s)
  where
    absorbed : (b c : Bool) → (false || b && c) ≡ (b && c)
    absorbed b c = refl

    first : (b c : Bool) → c ≡ true → (true || b && c) ≡ ((true || b) && c)
    first b c is = rw is refl

    none : (b c : Bool) → c ≡ false → (b && c) ≡ ((true || b) && c)
    none true c is = refl
    none false c is = sym is

    by_test : (b : Bool) → test x ≡ b → is_in s (filter test xs) ≡ (is_in s xs && test s)
        → is_in s (if b then x ∷ filter test xs else filter test xs) ≡ ((x == s || is_in s xs) && test s)
    by_test true is rest =
        elim (eqb_tells x s) as (λ _. (x == s || is_in s (filter test xs)) ≡ ((x == s || is_in s xs) && test s)) [
          | inl w ↦ rw (w.0) (sym (ap test (sym w.1) ∙ is))
          | inr w ↦ rw (w.0) rest
        ]
    by_test false is rest =
        elim (eqb_tells x s) as (λ _. is_in s (filter test xs) ≡ ((x == s || is_in s xs) && test s)) [
          | inl w ↦ rw (w.0) (rest ∙ none_of (is_in s xs) (test s) (ap test (sym w.1) ∙ is) ∙ sym (ap test (sym w.1) ∙ is))
          | inr w ↦ rw (w.0) rest
        ]
      where
        none_of : (b c : Bool) → c ≡ false → (b && c) ≡ false
        none_of true c is = is
        none_of false c is = refl

pub filter_same : (f g : ℕ → Bool) (xs : List ℕ) → Each (λ x. f x ≡ g x) xs → filter f xs ≡ filter g xs
filter_same f g [] same = refl
filter_same f g (x ∷ xs) same =
    ap (λ b. if b then x ∷ filter f xs else filter f xs) same.0
    ∙ ap (λ rest. if g x then x ∷ rest else rest) (filter_same f g xs same.1)

pub each_segment : (Q : ℕ → Type 0) (tree : Tree) → ((s : ℕ) → 1 ≤ s → s ≤ length tree → Q s) → Each Q (segments tree)
each_segment Q tree holds =
    subst (Each Q) (sym (segments-range tree)) (range_each Q 1 (length tree) (λ s low high. holds s low (omega (arith, high))))

-- ---- the start

only_root : (tree : Tree) → 1 ≤ length tree → filter (λ s. is_in s (1 ∷ [])) (segments tree) ≡ 1 ∷ []
only_root tree some = ap (filter (λ s. is_in s (1 ∷ []))) (segments-range tree) ∙ from_one (length tree) some
  where
    from_one : (n : ℕ) → 1 ≤ n → filter (λ s. is_in s (1 ∷ [])) (range_with_len 1 n) ≡ 1 ∷ []
    from_one zero some = absurd (omega (arith, some))
    from_one (suc n) some =
        ap (λ l. 1 ∷ l)
        (filter_none (λ s. is_in s (1 ∷ [])) (range_with_len 2 n)
        (range_each _ 2 n (λ k low high. ap (λ b. b || false) (ne_eqb 1 k (λ same. omega (arith, same, low))))))

is_first : (s : ℕ) → is_in s (1 ∷ []) ≡ true → s ≡ 1
is_first s there = only_one s 1 there

pub root_is_resident : RootIsResident
root_is_resident tree t = record {
  ascending = sym (only_root tree (tree-some tree t));
  root = refl;
  parents = λ s second there. absurd (omega (arith, second, is_first s there));
  one_path = λ s u one other same.
      inl (subst (λ k. is_on_path tree s k ≡ true) (is_first s one ∙ sym (is_first u other))
      (segments_are_on_their_paths tree s (omega (arith, is_first s one)) (omega (arith, is_first s one, tree-some tree t))));
}

-- ---- a call

-- the segment is on the path of t, or was resident and is in another region
abbrev pub StaysWith : Tree → List ℕ → ℕ → ℕ → Type 0
StaysWith tree resident t s = (is_on_path tree s t ≡ true) ⊎ ((is_in s resident ≡ true) × (region_of tree s ≢ region_of tree t))

-- the segment is resident after the call
pub record StaysAfter (tree : Tree) (resident : List ℕ) (t s : ℕ) : Type 0 where
  pub low : 1 ≤ s
  pub high : s ≤ length tree
  pub why : StaysWith tree resident t s

pub after_from : (tree : Tree) (resident : List ℕ) (t s : ℕ) → is_in s (after_call tree resident t) ≡ true → StaysAfter tree resident t s
after_from tree resident t s there =
    let parts = and_parts (is_in s (segments tree)) (is_on_path tree s t || is_in s resident && not (region_of tree s == region_of tree t))
    (sym (in_filter (λ s. is_on_path tree s t || is_in s resident && not (region_of tree s == region_of tree t)) (segments tree) s) ∙ there) in
    let within : (1 ≤ s) × (s ≤ length tree) = in_segments tree s parts.0 in
    record { low = within.0; high = within.1; why = by_cases (is_on_path tree s t) (is_in s resident) (region_of tree s) (region_of tree t) refl refl parts.1 }
  where
    by_cases : (on there : Bool) (r q : ℕ) → is_on_path tree s t ≡ on → is_in s resident ≡ there → (on || there && not (r == q)) ≡ true
        → (on ≡ true) ⊎ ((there ≡ true) × (r ≢ q))
    by_cases true there r q p o holds = inl refl
    by_cases false true r q p o holds = inr (refl, λ same. false≢true (sym (ap not (eq-eqb r q same)) ∙ holds))
    by_cases false false r q p o holds = absurd (false≢true holds)

pub after_to : (tree : Tree) (resident : List ℕ) (t s : ℕ) → 1 ≤ s → s ≤ length tree → StaysWith tree resident t s
    → is_in s (after_call tree resident t) ≡ true
after_to tree resident t s low high why =
    in_filter (λ s. is_on_path tree s t || is_in s resident && not (region_of tree s == region_of tree t)) (segments tree) s
    ∙ rw (is_in-segments tree s low high) (by_cases why)
  where
    or_true : (b : Bool) → (b || true) ≡ true
    or_true true = refl
    or_true false = refl

    by_cases : StaysWith tree resident t s → (is_on_path tree s t || is_in s resident && not (region_of tree s == region_of tree t)) ≡ true
    by_cases (inl on) = rw on refl
    by_cases (inr kept) = rw (kept.0, ne_eqb (region_of tree s) (region_of tree t) kept.1) (or_true (is_on_path tree s t))

after_ascends : (tree : Tree) (resident : List ℕ) (t : ℕ) → after_call tree resident t ≡ filter (λ s. is_in s (after_call tree resident t)) (segments tree)
after_ascends tree resident t =
    sym (filter_same (λ s. is_in s (after_call tree resident t)) test (segments tree)
    (each_segment _ tree (λ s low high. in_filter test (segments tree) s ∙ ap (λ b. b && test s) (is_in-segments tree s low high))))
  where
    test : ℕ → Bool
    test = λ s. is_on_path tree s t || is_in s resident && not (region_of tree s == region_of tree t)

pub calls_keep_paths : CallsKeepPaths
calls_keep_paths tree resident t is low high before = record {
  ascending = after_ascends tree resident t;
  root = after_to tree resident t 1 (omega arith) (omega (arith, low, high)) (inl (root_on_path tree t is low high));
  parents = λ s second there. parent_stays s second (after_from tree resident t s there);
  one_path = λ s u one other same. of_one (after_from tree resident t s one) (after_from tree resident t u other) same;
}
  where
    parent_stays : (s : ℕ) → 2 ≤ s → StaysAfter tree resident t s → is_in (parent_of tree s) (after_call tree resident t) ≡ true
    parent_stays s second stays = by_why stays.why (segments_have_parents tree s is second stays.high)
      where
        by_region : HasParent tree s → (is_in s resident ≡ true) × (region_of tree s ≢ region_of tree t)
            → (parent_of tree s ≡ 1) ⊎ (region_of tree s ≡ region_of tree (parent_of tree s)) → StaysWith tree resident t (parent_of tree s)
        by_region has kept (inl root) = inl (subst (λ k. is_on_path tree k t ≡ true) (sym root) (root_on_path tree t is low high))
        by_region has kept (inr same) = inr (before.parents s second kept.0, λ region. kept.1 (same ∙ region))

        by_why : StaysWith tree resident t s → HasParent tree s → is_in (parent_of tree s) (after_call tree resident t) ≡ true
        by_why (inl on) has =
            after_to tree resident t (parent_of tree s) has.below_root (omega (arith, has.earlier, stays.high))
            (inl (parent_on_path tree s t is low high second on))
        by_why (inr kept) has =
            after_to tree resident t (parent_of tree s) has.below_root (omega (arith, has.earlier, stays.high)) (by_region has kept has.same_region)

    apart : (s u : ℕ) → StaysAfter tree resident t u → region_of tree s ≡ region_of tree u → (s ≡ 1) ⊎ (region_of tree s ≡ region_of tree t)
        → region_of tree u ≢ region_of tree t → is_on_path tree s u ≡ true
    apart s u stays same (inl root) differ = subst (λ k. is_on_path tree k u ≡ true) (sym root) (root_on_path tree u is stays.low stays.high)
    apart s u stays same (inr region) differ = absurd (differ (sym same ∙ region))

    of_one : {s u : ℕ} → StaysAfter tree resident t s → StaysAfter tree resident t u → region_of tree s ≡ region_of tree u → OneOnOther tree s u
    of_one {s = s} {u = u} first second same = by_why first.why second.why
      where
        by_why : StaysWith tree resident t s → StaysWith tree resident t u → OneOnOther tree s u
        by_why (inl one) (inl other) = both_on_path tree s u t is low high one other
        by_why (inl one) (inr kept) = inl (apart s u second same (region_on_path tree s t is low high one) kept.1)
        by_why (inr kept) (inl other) = inr (apart u s first (sym same) (region_on_path tree u t is low high other) kept.1)
        by_why (inr one) (inr other) = before.one_path s u one.0 other.0 same

-- ---- ranges

pub resident_within : (tree : Tree) (resident : List ℕ) (s : ℕ) → AreResident tree resident → is_in s resident ≡ true → (1 ≤ s) × (s ≤ length tree)
resident_within tree resident s are there =
    in_segments tree s
    (and_parts (is_in s (segments tree)) (is_in s resident)
    (sym (in_filter (λ s. is_in s resident) (segments tree) s) ∙ (sym (ap (is_in s) are.ascending) ∙ there))).0

pub residents_are_apart : ResidentsAreApart
residents_are_apart P resident s t is are one other differ =
    by_region (cases_lt (region_of P.tree s) (region_of P.tree t)) (cases_lt (region_of P.tree t) (region_of P.tree s))
  where
    first : (1 ≤ s) × (s ≤ length P.tree)
    first = resident_within P.tree resident s are one

    second : (1 ≤ t) × (t ≤ length P.tree)
    second = resident_within P.tree resident t are other

    on_path : OneOnOther P.tree s t → (end_of P s ≤ origin P t) ⊎ (end_of P t ≤ origin P s)
    on_path (inl on) = inl (ancestors_end_before P.tree (size P) s t is second.0 second.1 on differ)
    on_path (inr on) = inr (ancestors_end_before P.tree (size P) t s is first.0 first.1 on (λ same. differ (sym same)))

    by_region : (region_of P.tree s < region_of P.tree t) ⊎ (region_of P.tree t ≤ region_of P.tree s)
        → (region_of P.tree t < region_of P.tree s) ⊎ (region_of P.tree s ≤ region_of P.tree t)
        → (end_of P s ≤ origin P t) ⊎ (end_of P t ≤ origin P s)
    by_region (inl lower) o = inl (lower_regions_end_before P.tree (size P) s t first.0 first.1 lower)
    by_region (inr o) (inl lower) = inr (lower_regions_end_before P.tree (size P) t s second.0 second.1 lower)
    by_region (inr a) (inr b) = on_path (are.one_path s t one other (omega (arith, a, b)))
