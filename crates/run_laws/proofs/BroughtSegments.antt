-- Which segments a call brings in, by the segment table of a written member as by the tree of its program.
use Rattle.std.proofs.Common.{◌≡◌, ◌≢◌, ◌⊎◌, inl, inr, ℕ, suc, ◌+◌, ◌≤◌, Bool, true, false, not, ◌&&◌, ◌||◌, ◌==◌, if◌then◌else◌, List, [], ◌∷◌, ◌++◌, filter, reverse, length, refl, sym, ap, ◌∙◌, arith}
use Rattle.std.specs.List.{AllByRecursion as Each}
use Rattle.std.proofs.lemmas.Bool.{false≢true, eq-eqb, ne_eqb, and_parts, and_from}
use Rattle.std.proofs.lemmas.Bool.Decides.{eqb_tells}
use Rattle.std.proofs.lemmas.List.Elements.{filter-append}
use Rattle.linking_model.specs.Tree.{Tree, parent_of, region_of, path, segments, is_in, is_on_path}
use Rattle.linking_model.specs.Run.{Storage, after_call}
use Rattle.linking_model.specs.Places.{Laid, is_overlay}
use Rattle.linking_model.specs.Linked.{Placement}
use Rattle.linking_model.proofs.Trees.{reverse-cons, path-newest, path-older, parent_of-newest, parent_of-older}
use Rattle.member_model.specs.Fetched.{Fetched}
use Rattle.member_model.specs.Segments.{is_resident, parent_in, path_by, path_in}
use Rattle.member_model.specs.Calling.{missing}
use Rattle.member_laws.specs.Linkable.{IsLinkable}
use Rattle.member_laws.proofs.LoadingLists.{each_filter, each_weaker}
use Rattle.run_laws.specs.EntryTables.{ReadsTable}
use Rattle.run_laws.proofs.FetchedMembers.{IsFetched, count_is}
use Rattle.run_laws.proofs.ResidentPaths.{each_segment, filter_same, in_filter}
use Rattle.run_laws.proofs.SegmentTables.{parent_is, resident_is}

-- ---- a path, by the parents that are told

no_path : (s : ℕ) → path [] s ≡ []
unfolding path
no_path s = refl

pub path_is : (tree : Tree) (parent : ℕ → ℕ) (s : ℕ) → ((r : ℕ) → 1 ≤ r → r ≤ length tree → parent r ≡ parent_of tree r)
    → path_by parent (length tree) s ≡ path tree s
path_is [] parent s says = sym (no_path s)
path_is (x ∷ older) parent s says =
    elim (eqb_tells s (length older + 1)) as (λ _. path_by parent (suc (length older)) s ≡ path (x ∷ older) s) [
      | inl w ↦
          rw (ap (λ k. s == k) (next (length older)) ∙ w.0)
          (ap (λ p. s ∷ path_by parent (length older) p) (ap parent w.1 ∙ says (length older + 1) (omega arith) (omega arith) ∙ parent_of-newest x older)
          ∙ ap (λ rest. s ∷ rest) (path_is older parent x.parent earlier)
          ∙ ap (λ k. k ∷ path older x.parent) w.1
          ∙ sym (ap (path (x ∷ older)) w.1 ∙ path-newest x older))
      | inr w ↦
          rw (ap (λ k. s == k) (next (length older)) ∙ w.0)
          (path_is older parent s earlier ∙ sym (path-older x older s w.1))
    ]
  where
    next : (n : ℕ) → suc n ≡ n + 1
    next n = omega arith

    earlier : (r : ℕ) → 1 ≤ r → r ≤ length older → parent r ≡ parent_of older r
    earlier r low high = says r low (omega (arith, high)) ∙ parent_of-older x older r (λ is. omega (arith, is, high))

-- ---- a path, ascending

path_within : (tree : Tree) (t s : ℕ) → is_on_path tree s t ≡ true → s ≤ length tree
path_within [] t s on = absurd (false≢true (sym (ap (is_in s) (no_path t)) ∙ on))
path_within (x ∷ older) t s on =
    elim (eqb_tells t (length older + 1)) as (λ _. s ≤ suc (length older)) [
      | inl w ↦
          by_first (length older + 1) (path older x.parent) (omega arith)
          (λ later. omega (arith, path_within older x.parent s later))
          (sym (ap (is_in s) (ap (path (x ∷ older)) w.1 ∙ path-newest x older)) ∙ on)
      | inr w ↦ let before : s ≤ length older = path_within older t s (sym (ap (is_in s) (path-older x older t w.1)) ∙ on) in omega (arith, before)
    ]
  where
    by_first : (k : ℕ) (rest : List ℕ) → k ≤ suc (length older) → (is_in s rest ≡ true → s ≤ suc (length older)) → (k == s || is_in s rest) ≡ true
        → s ≤ suc (length older)
    by_first k rest high later on =
        elim (eqb_tells k s) as (λ _. s ≤ suc (length older)) [
          | inl w ↦ omega (arith, w.1, high)
          | inr w ↦ later (sym (ap (λ b. b || is_in s rest) w.0) ∙ on)
        ]

segments-newest : (x : _) (older : Tree) → segments (x ∷ older) ≡ segments older ++ (length older + 1) ∷ []
unfolding segments
segments-newest x older = refl

no_segments : segments [] ≡ []
unfolding segments
no_segments = refl

one_kept : (test : ℕ → Bool) (k : ℕ) → test k ≡ true → filter test (k ∷ []) ≡ k ∷ []
one_kept test k is = rw is refl

one_left : (test : ℕ → Bool) (k : ℕ) → test k ≡ false → filter test (k ∷ []) ≡ []
one_left test k is = rw is refl

not_true : (b : Bool) → (b ≡ true → ⊥) → b ≡ false
not_true true fails = absurd (fails refl)
not_true false fails = refl

pub path_ascends : (tree : Tree) (t : ℕ) → reverse (path tree t) ≡ filter (λ s. is_on_path tree s t) (segments tree)
path_ascends [] t = ap reverse (no_path t) ∙ sym (ap (filter (λ s. is_on_path [] s t)) no_segments)
path_ascends (x ∷ older) t =
    elim (eqb_tells t (length older + 1)) as (λ _. reverse (path (x ∷ older) t) ≡ filter (λ s. is_on_path (x ∷ older) s t) (segments (x ∷ older))) [
      | inl w ↦ of_newest (ap (path (x ∷ older)) w.1 ∙ path-newest x older) (path_ascends older x.parent)
      | inr w ↦ of_older (path-older x older t w.1) (path_ascends older t)
    ]
  where
    test : ℕ → Bool
    test = λ s. is_on_path (x ∷ older) s t

    cut : filter test (segments (x ∷ older)) ≡ filter test (segments older) ++ filter test ((length older + 1) ∷ [])
    cut = ap (filter test) (segments-newest x older) ∙ filter-append test (segments older) ((length older + 1) ∷ [])

    past : (s n : ℕ) → s ≤ n → n + 1 ≢ s
    past s n high is = omega (arith, high, is)

    of_newest : path (x ∷ older) t ≡ (length older + 1) ∷ path older x.parent
        → reverse (path older x.parent) ≡ filter (λ s. is_on_path older s x.parent) (segments older)
        → reverse (path (x ∷ older) t) ≡ filter test (segments (x ∷ older))
    of_newest is before =
        ap reverse is ∙ reverse-cons (length older + 1) (path older x.parent)
        ∙ ap (λ l. l ++ (length older + 1) ∷ []) before
        ∙ ap (λ l. l ++ (length older + 1) ∷ [])
        (filter_same (λ s. is_on_path older s x.parent) test (segments older)
        (each_segment _ older (λ s low high.
        sym (ap (is_in s) is ∙ ap (λ b. b || is_in s (path older x.parent)) (ne_eqb (length older + 1) s (past s (length older) high))))))
        ∙ ap (λ l. filter test (segments older) ++ l)
        (sym (one_kept test (length older + 1) (ap (is_in (length older + 1)) is ∙ ap (λ b. b || is_in (length older + 1) (path older x.parent)) (eq-eqb (length older + 1) (length older + 1) refl))))
        ∙ sym cut

    of_older : path (x ∷ older) t ≡ path older t → reverse (path older t) ≡ filter (λ s. is_on_path older s t) (segments older)
        → reverse (path (x ∷ older) t) ≡ filter test (segments (x ∷ older))
    of_older is before =
        ap reverse is ∙ before
        ∙ filter_same (λ s. is_on_path older s t) test (segments older) (each_segment _ older (λ s low high. sym (ap (is_in s) is)))
        ∙ sym (nothing_behind (filter test (segments older)))
        ∙ ap (λ l. filter test (segments older) ++ l)
        (sym (one_left test (length older + 1)
        (not_true _ (λ on. next (length older) (path_within older t (length older + 1) (sym (ap (is_in (length older + 1)) is) ∙ on))))))
        ∙ sym cut
      where
        next : (n : ℕ) → n + 1 ≤ n → ⊥
        next n high = omega (arith, high)

        nothing_behind : (l : List ℕ) → l ++ [] ≡ l
        nothing_behind [] = refl
        nothing_behind (y ∷ l) = ap (λ rest. y ∷ rest) (nothing_behind l)

-- ---- which segments are missing

both_filters : (f g h : ℕ → Bool) (xs : List ℕ) → ((x : ℕ) → f x ≡ true → g x ≡ h x) → filter f (filter g xs) ≡ filter f (filter h xs)
both_filters f g h [] same = refl
both_filters f g h (x ∷ xs) same = by_test (f x) (g x) (h x) refl refl refl (both_filters f g h xs same)
  where
    by_test : (a b c : Bool) → f x ≡ a → g x ≡ b → h x ≡ c → filter f (filter g xs) ≡ filter f (filter h xs)
        → filter f (if b then x ∷ filter g xs else filter g xs) ≡ filter f (if c then x ∷ filter h xs else filter h xs)
    by_test a true true e p q rest = ap (λ l. if f x then x ∷ l else l) rest
    by_test a false false e p q rest = rest
    by_test true true false e p q rest = absurd (false≢true (sym (sym p ∙ same x e ∙ q)))
    by_test true false true e p q rest = absurd (false≢true (sym p ∙ same x e ∙ q))
    by_test false true false e p q rest = ap (λ b. if b then x ∷ filter f (filter g xs) else filter f (filter g xs)) e ∙ rest
    by_test false false true e p q rest = rest ∙ sym (ap (λ b. if b then x ∷ filter f (filter h xs) else filter f (filter h xs)) e)

-- the segments that a call into t brings in
abbrev pub brought_by : Tree → List ℕ → ℕ → List ℕ
brought_by tree resident t = filter (λ s. not (is_in s resident)) (after_call tree resident t)

new_on_path : (tree : Tree) (resident : List ℕ) (t : ℕ) → filter (λ s. not (is_in s resident)) (reverse (path tree t)) ≡ brought_by tree resident t
new_on_path tree resident t =
    ap (filter (λ s. not (is_in s resident))) (path_ascends tree t)
    ∙ both_filters (λ s. not (is_in s resident)) (λ s. is_on_path tree s t)
    (λ s. is_on_path tree s t || is_in s resident && not (region_of tree s == region_of tree t)) (segments tree)
    (λ s new. or_none (is_on_path tree s t) (is_in s resident) (not (region_of tree s == region_of tree t)) new)
  where
    or_none : (on there apart : Bool) → not there ≡ true → on ≡ (on || there && apart)
    or_none true there apart new = refl
    or_none false true apart new = absurd (false≢true new)
    or_none false false apart new = refl

each_on_path : (Q : ℕ → Type 0) (tree : Tree) (t : ℕ) → ((s : ℕ) → 1 ≤ s → s ≤ length tree → Q s) → Each Q (reverse (path tree t))
each_on_path Q tree t holds = rw (path_ascends tree t) (each_filtered (segments tree) (each_segment Q tree holds))
  where
    each_filtered : (xs : List ℕ) → Each Q xs → Each Q (filter (λ s. is_on_path tree s t) xs)
    each_filtered [] all = tt
    each_filtered (x ∷ xs) all = by_test (is_on_path tree x t) (each_filtered xs all.1)
      where
        by_test : (b : Bool) → Each Q (filter (λ s. is_on_path tree s t) xs)
            → Each Q (if b then x ∷ filter (λ s. is_on_path tree s t) xs else filter (λ s. is_on_path tree s t) xs)
        by_test true rest = (all.0, rest)
        by_test false rest = rest

pub path_in_is : (P : Laid) (scatter : Bool) (n : ℕ) (Q : Placement) (m : Fetched) (resident : List ℕ) (M : Storage) (t : ℕ) → IsLinkable P
    → IsFetched P scatter n Q m → is_overlay P.tree ≡ true → ReadsTable P Q.segtab resident M → path_in m M t ≡ path P.tree t
path_in_is P scatter n Q m resident M t link is over reads =
    ap (λ k. path_by (parent_in m M) k t) (count_is P scatter n Q m link is)
    ∙ path_is P.tree (parent_in m M) t (λ s low high. parent_is P scatter n Q m resident M s link is over reads low high)

pub missing_are : (P : Laid) (scatter : Bool) (n : ℕ) (Q : Placement) (m : Fetched) (resident : List ℕ) (M : Storage) (t : ℕ) → IsLinkable P
    → IsFetched P scatter n Q m → is_overlay P.tree ≡ true → ReadsTable P Q.segtab resident M
    → missing m M t ≡ brought_by P.tree resident t
missing_are P scatter n Q m resident M t link is over reads =
    ap (λ l. filter (λ s. not (is_resident m M s)) (reverse l)) (path_in_is P scatter n Q m resident M t link is over reads)
    ∙ filter_same (λ s. not (is_resident m M s)) (λ s. not (is_in s resident)) (reverse (path P.tree t))
    (each_on_path _ P.tree t (λ s low high. ap not (resident_is P scatter n Q m resident M s link is over reads low high)))
    ∙ new_on_path P.tree resident t

-- each of them is a segment of the tree
pub each_brought : (Q : ℕ → Type 0) (tree : Tree) (resident : List ℕ) (t : ℕ) → ((s : ℕ) → 1 ≤ s → s ≤ length tree → Q s) → Each Q (brought_by tree resident t)
each_brought Q tree resident t holds =
    each_filter Q (λ s. not (is_in s resident)) (after_call tree resident t)
    (each_weaker Q _ (after_call tree resident t) (λ s is new. is)
    (each_filter Q (λ s. is_on_path tree s t || is_in s resident && not (region_of tree s == region_of tree t)) (segments tree)
    (each_weaker Q _ (segments tree) (λ s is stays. is) (each_segment Q tree holds))))

-- a segment that is resident after a call was resident, or is brought in
pub new_or_stays : (tree : Tree) (resident : List ℕ) (t s : ℕ) → is_in s (after_call tree resident t) ≡ true
    → (is_in s (brought_by tree resident t) ≡ true) ⊎ (is_in s resident ≡ true)
new_or_stays tree resident t s there = by_cases (is_in s resident) refl
  where
    by_cases : (b : Bool) → is_in s resident ≡ b → (is_in s (brought_by tree resident t) ≡ true) ⊎ (is_in s resident ≡ true)
    by_cases true stays = inr stays
    by_cases false new =
        inl (in_filter (λ s. not (is_in s resident)) (after_call tree resident t) s
        ∙ and_from (is_in s (after_call tree resident t)) (not (is_in s resident)) there (ap not new))

-- what is brought in was not resident
pub brought_was_not : (tree : Tree) (resident : List ℕ) (t s : ℕ) → is_in s (brought_by tree resident t) ≡ true
    → (is_in s (after_call tree resident t) ≡ true) × (is_in s resident ≡ false)
brought_was_not tree resident t s there =
    let both = and_parts (is_in s (after_call tree resident t)) (not (is_in s resident))
    (sym (in_filter (λ s. not (is_in s resident)) (after_call tree resident t) s) ∙ there) in
    (both.0, none (is_in s resident) both.1)
  where
    none : (b : Bool) → not b ≡ true → b ≡ false
    none true fails = absurd (false≢true fails)
    none false fails = refl
