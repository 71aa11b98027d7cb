-- A start accepts every grown tree: each segment is in a right place, and comes in a right order.
use Rattle.std.proofs.Common.{◌≡◌, ◌≢◌, ◌⊎◌, inl, inr, ℕ, zero, suc, ◌+◌, ◌-◌, ◌<◌, ◌≤◌, max, Bool, true, false, not, ◌&&◌, ◌||◌, ◌==◌, nat_lt, nat_le, List, [], ◌∷◌, ◌++◌, map, length, refl, sym, ap, ◌∙◌, arith}
use Rattle.std.specs.List.{list_any, range_with_len}
use Rattle.std.proofs.lemmas.Bool.{eq-eqb, ne_eqb}
use Rattle.std.proofs.lemmas.Bool.Decides.{eqb_tells}
use Rattle.std.proofs.lemmas.List.{map-append}
use Rattle.linking_model.specs.declared.segment.Segment.{Segment}
use Rattle.linking_model.specs.Numbers.{greatest}
use Rattle.linking_model.specs.Tree.{Tree, IsTree, MayBegin, parent_of, region_of, regions}
use Rattle.linking_model.proofs.Trees.{greatest-cons, parent_of-newest, parent_of-older, region_of-newest, region_of-older, IsRegion, segments_have_regions}
use Rattle.member_model.specs.Starting.{earlier, is_wrong_place, is_wrong_order}
use Rattle.member_laws.proofs.Gathering.{range-split}
use Rattle.run_laws.specs.Grown.{MayFollow, IsGrown}
use Rattle.run_laws.proofs.GrownTrees.{grown_trees_are_trees}

-- ---- ranges

pub none_of_range : (test : ℕ → Bool) (a n : ℕ) → ((k : ℕ) → a ≤ k → k < a + n → test k ≡ false) → list_any test (range_with_len a n) ≡ false
none_of_range test a zero fails = refl
none_of_range test a (suc n) fails =
    ap (λ b. b || list_any test (range_with_len (a + 1) n)) (fails a (omega arith) (omega arith))
    ∙ none_of_range test (a + 1) n (λ k low high. fails k (omega (arith, low)) (omega (arith, high)))

or_true : (b : Bool) → (b || true) ≡ true
or_true true = refl
or_true false = refl

pub some_of_range : (test : ℕ → Bool) (a n k : ℕ) → a ≤ k → k < a + n → test k ≡ true → list_any test (range_with_len a n) ≡ true
some_of_range test a zero k low high holds = absurd (omega (arith, low, high))
some_of_range test a (suc n) k low high holds =
    elim (eqb_tells k a) as (λ _. (test a || list_any test (range_with_len (a + 1) n)) ≡ true) [
      | inl w ↦ ap (λ b. b || list_any test (range_with_len (a + 1) n)) (ap test (sym w.1) ∙ holds)
      | inr w ↦
          ap (λ b. test a || b) (some_of_range test (a + 1) n k (further a k low w.1) (omega (arith, high)) holds) ∙ or_true (test a)
    ]
  where
    further : (a k : ℕ) → a ≤ k → k ≢ a → a + 1 ≤ k
    further a k low differ = omega (arith, low, differ)

greatest-last : (xs : List ℕ) (x : ℕ) → greatest (xs ++ x ∷ []) ≡ max (greatest xs) x
greatest-last [] x = greatest-cons x [] ∙ omega arith
greatest-last (y ∷ xs) x =
    let rest : greatest (xs ++ x ∷ []) ≡ max (greatest xs) x = greatest-last xs x in
    let more : greatest (y ∷ (xs ++ x ∷ [])) ≡ max y (greatest (xs ++ x ∷ [])) = greatest-cons y (xs ++ x ∷ []) in
    let before : greatest (y ∷ xs) ≡ max y (greatest xs) = greatest-cons y xs in
    rw (more, rest, before) (omega arith)

-- ---- parents and regions that are those of a tree

-- of each segment they are those of the tree
pub record Says (tree : Tree) (parent region : ℕ → ℕ) : Type 0 where
  pub parents : (s : ℕ) → 1 ≤ s → s ≤ length tree → parent s ≡ parent_of tree s
  pub regions : (s : ℕ) → 1 ≤ s → s ≤ length tree → region s ≡ region_of tree s

says_before : (x : Segment) (older : Tree) (parent region : ℕ → ℕ) → Says (x ∷ older) parent region → Says older parent region
says_before x older parent region says = record {
  parents = λ s low high. says.parents s low (omega (arith, high)) ∙ parent_of-older x older s (λ is. omega (arith, is, high));
  regions = λ s low high. says.regions s low (omega (arith, high)) ∙ region_of-older x older s (λ is. omega (arith, is, high));
}

regions-cons : (x : Segment) (older : Tree) → regions (x ∷ older) ≡ max x.region (regions older)
unfolding regions
regions-cons x older = greatest-cons x.region (map (λ y. y.region) older)

no-regions : regions [] ≡ 0
unfolding regions
no-regions = refl

pub highest_region : (tree : Tree) (parent region : ℕ → ℕ) → Says tree parent region → greatest (map region (range_with_len 1 (length tree))) ≡ regions tree
highest_region [] parent region says = sym no-regions
highest_region (x ∷ older) parent region says =
    let rest : greatest (map region (range_with_len 1 (length older))) ≡ regions older =
    highest_region older parent region (says_before x older parent region says) in
    let last : region (1 + length older) ≡ x.region =
    says.regions (1 + length older) (omega arith) (omega arith) ∙ ap (region_of (x ∷ older)) (turned (length older)) ∙ region_of-newest x older in
    ap (λ n. greatest (map region (range_with_len 1 n))) (more (length older))
    ∙ ap (λ l. greatest (map region l)) (range-split 1 (length older) 1)
    ∙ ap greatest (map-append region (range_with_len 1 (length older)) ((1 + length older) ∷ []))
    ∙ greatest-last (map region (range_with_len 1 (length older))) (region (1 + length older))
    ∙ rw (rest, last, regions-cons x older) (omega arith)
  where
    turned : (n : ℕ) → 1 + n ≡ n + 1
    turned n = omega arith

    more : (n : ℕ) → suc n ≡ n + 1
    more n = omega arith

-- what the newest segment is, and the regions before it
record IsNewest (x : Segment) (older : Tree) (parent region : ℕ → ℕ) (s : ℕ) : Type 0 where
  pub parent_is : parent s ≡ x.parent
  pub region_is : region s ≡ x.region
  pub number : s ≡ length older + 1
  pub highest : greatest (map region (earlier s)) ≡ regions older

is_newest : (x : Segment) (older : Tree) (parent region : ℕ → ℕ) (s : ℕ) → Says (x ∷ older) parent region → s ≡ length older + 1 → IsNewest x older parent region s
is_newest x older parent region s says is =
    let before : s - 1 ≡ length older = omega arith in
    record {
      parent_is = says.parents s (omega arith) (omega arith) ∙ ap (parent_of (x ∷ older)) is ∙ parent_of-newest x older;
      region_is = says.regions s (omega arith) (omega arith) ∙ ap (region_of (x ∷ older)) is ∙ region_of-newest x older;
      number = is;
      highest = ap (λ n. greatest (map region (range_with_len 1 n))) before ∙ highest_region older parent region (says_before x older parent region says);
    }

-- ---- places

lt_false : (a b : ℕ) → b ≤ a → nat_lt a b ≡ false
lt_false a b le = grind arith

le_false : (a b : ℕ) → b < a → nat_le a b ≡ false
le_false a b lt = grind arith

right_place : (s p r above g : ℕ) → 1 ≤ p → p < s → 1 ≤ r → r ≤ g + 1 → (p ≡ 1) ⊎ (r ≡ above)
    → (p == 0 || nat_le s p || not (p == 1) && not (r == above) || p == 1 && (r == 0 || nat_lt (g + 1) r)) ≡ false
right_place s p r above g some before numbered next (inl root) =
    rw (ne_eqb p 0 (omega arith), le_false s p before, eq-eqb p 1 root, ne_eqb r 0 (omega arith), lt_false (g + 1) r next) refl
right_place s p r above g some before numbered next (inr same) =
    rw (ne_eqb p 0 (omega arith), le_false s p before, eq-eqb r above same, ne_eqb r 0 (omega arith), lt_false (g + 1) r next) (neither (p == 1))
  where
    neither : (b : Bool) → (not b && false || b && false) ≡ false
    neither true = refl
    neither false = refl

-- a segment of a tree is in a right place
pub places_are_right : (tree : Tree) (parent region : ℕ → ℕ) (s : ℕ) → IsTree tree → Says tree parent region → 2 ≤ s → s ≤ length tree
    → is_wrong_place parent region s ≡ false
places_are_right [] parent region s t says low high = absurd t
places_are_right (x ∷ []) parent region s t says low high = absurd (omega (arith, low, high))
places_are_right (x ∷ y ∷ older) parent region s t says low high =
    elim (eqb_tells s (length (y ∷ older) + 1)) as (λ _. is_wrong_place parent region s ≡ false) [
      | inl w ↦ newest (is_newest x (y ∷ older) parent region s says w.1)
      | inr w ↦ places_are_right (y ∷ older) parent region s t.1 (says_before x (y ∷ older) parent region says) low (omega (arith, high, w.1))
    ]
  where
    newest : IsNewest x (y ∷ older) parent region s → is_wrong_place parent region s ≡ false
    newest is =
        let may : MayBegin (y ∷ older) x = t.0 in
        let before : parent s ≡ x.parent = is.parent_is in
        let here : region s ≡ x.region = is.region_is in
        let number : s ≡ length (y ∷ older) + 1 = is.number in
        let highest : greatest (map region (earlier s)) ≡ regions (y ∷ older) = is.highest in
        let low : 1 ≤ x.parent = may.below_root in
        let high : x.parent ≤ length (y ∷ older) = may.below_earlier in
        let above : region (parent s) ≡ region_of (y ∷ older) x.parent =
        ap region before ∙ (says_before x (y ∷ older) parent region says).regions x.parent low high in
        right_place s (parent s) (region s) (region (parent s)) (greatest (map region (earlier s)))
        (rw before low) (omega arith) (rw here may.numbered) (rw (here, highest) may.next) (rw (above, before, here) may.same_region)

-- ---- the order

by_below : (a b c d : Bool) → c ≡ true → d ≡ true → (a && b && (not c || not d)) ≡ false
by_below true true c d is same = rw (is, same) refl
by_below true false c d is same = refl
by_below false b c d is same = refl

by_region : (one any b c : Bool) → one ≡ true → any ≡ false → (not (one && not any) && b && c) ≡ false
by_region one any b c high none = rw (high, none) refl

by_beside : (a b c : Bool) → b ≡ true → (a && not b && c) ≡ false
by_beside true b c is = rw is refl
by_beside false b c is = refl

lt_true : (a b : ℕ) → a < b → nat_lt a b ≡ true
lt_true a b lt = grind arith

-- a segment of a grown tree comes in a right order
pub orders_are_right : (tree : Tree) (parent region : ℕ → ℕ) (s : ℕ) → IsGrown tree → Says tree parent region → 2 ≤ s → s ≤ length tree
    → is_wrong_order parent region s ≡ false
orders_are_right [] parent region s g says low high = absurd g
orders_are_right (x ∷ []) parent region s g says low high = absurd (omega (arith, low, high))
orders_are_right (x ∷ y ∷ older) parent region s g says low high =
    elim (eqb_tells s (length (y ∷ older) + 1)) as (λ _. is_wrong_order parent region s ≡ false) [
      | inl w ↦ newest (is_newest x (y ∷ older) parent region s says w.1) g.0
      | inr w ↦ orders_are_right (y ∷ older) parent region s g.1 (says_before x (y ∷ older) parent region says) low (omega (arith, high, w.1))
    ]
  where
    before : Says (y ∷ older) parent region
    before = says_before x (y ∷ older) parent region says

    t : IsTree (y ∷ older)
    t = grown_trees_are_trees (y ∷ older) g.1

    newest : IsNewest x (y ∷ older) parent region s → MayFollow (y ∷ older) x → is_wrong_order parent region s ≡ false
    newest is (inl below) =
        let last : s - 1 ≡ length (y ∷ older) = omega (arith, is.number) in
        let parent_is : parent s ≡ length (y ∷ older) = is.parent_is ∙ ap (λ (z : Segment). z.parent) below in
        let region_is : region s ≡ region_of (y ∷ older) (length (y ∷ older)) = is.region_is ∙ ap (λ (z : Segment). z.region) below in
        by_below (not (nat_lt 1 (region s) && not (list_any (λ r. region r == region s) (earlier s))))
        (not (list_any (λ r. parent r == parent s && region r == region s) (earlier s)))
        (parent s == s - 1) (region (parent s) == region s)
        (eq-eqb (parent s) (s - 1) (parent_is ∙ sym last))
        (eq-eqb (region (parent s)) (region s)
        (ap region parent_is ∙ before.regions (length (y ∷ older)) (omega arith) (omega arith) ∙ sym region_is))
    newest is (inr (inl apart)) =
        let last : s - 1 ≡ length (y ∷ older) = omega (arith, is.number) in
        let region_is : region s ≡ regions (y ∷ older) + 1 = is.region_is ∙ ap (λ (z : Segment). z.region) apart in
        let root : IsRegion (y ∷ older) (region_of (y ∷ older) 1) = segments_have_regions (y ∷ older) 1 t (omega arith) (omega arith) in
        by_region (nat_lt 1 (region s)) (list_any (λ r. region r == region s) (earlier s))
        (not (list_any (λ r. parent r == parent s && region r == region s) (earlier s)))
        (not (parent s == s - 1) || not (region (parent s) == region s))
        (lt_true 1 (region s) (above (region_of (y ∷ older) 1) (regions (y ∷ older)) (region s) root.numbered root.bounded region_is))
        (none_of_range (λ r. region r == region s) 1 (s - 1)
        (λ k low high.
        let here : IsRegion (y ∷ older) (region_of (y ∷ older) k) = segments_have_regions (y ∷ older) k t low (omega (arith, high, last)) in
        ne_eqb (region k) (region s)
        (differ (region k) (region_of (y ∷ older) k) (regions (y ∷ older)) (region s) (before.regions k low (omega (arith, high, last))) here.bounded region_is)))
      where
        above : (a b c : ℕ) → 1 ≤ a → a ≤ b → c ≡ b + 1 → 1 < c
        above a b c low high is = omega arith

        differ : (k a b c : ℕ) → k ≡ a → a ≤ b → c ≡ b + 1 → k ≢ c
        differ k a b c is high next same = omega (arith, is, high, next, same)
    newest is (inr (inr beside)) =
        let last : s - 1 ≡ length (y ∷ older) = omega (arith, is.number) in
        let low : 2 ≤ beside.first = beside.below_root in
        let high : beside.first ≤ length (y ∷ older) = beside.earlier in
        by_beside (not (nat_lt 1 (region s) && not (list_any (λ r. region r == region s) (earlier s))))
        (list_any (λ r. parent r == parent s && region r == region s) (earlier s))
        (not (parent s == s - 1) || not (region (parent s) == region s))
        (some_of_range (λ r. parent r == parent s && region r == region s) 1 (s - 1) beside.first (omega arith) (omega (arith, high, last))
        (rw (
          eq-eqb (parent beside.first) (parent s) (before.parents beside.first (omega arith) high ∙ sym (is.parent_is ∙ beside.parent)),
          eq-eqb (region beside.first) (region s) (before.regions beside.first (omega arith) high ∙ sym (is.region_is ∙ beside.region)),
        ) refl))
