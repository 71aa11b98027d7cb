-- Where regions start: after the greatest end of those before.
use Rattle.std.proofs.Common.{◌≡◌, ◌≢◌, ℕ, zero, suc, ◌+◌, ◌-◌, ◌*◌, ◌<◌, ◌≤◌, max, ◌==◌, List, [], ◌∷◌, ◌++◌, length, map, filter, get_or, append-nil, refl, sym, le_trans, ap, ◌∙◌, arith}
use Rattle.std.specs.Prelude.{All}
use Rattle.std.specs.List.{range_with_len}
use Rattle.std.proofs.lemmas.Bool.{ne_eqb}
use Rattle.std.proofs.lemmas.List.{map-append}
use Rattle.std.proofs.lemmas.List.Elements.{filter-append}
use Rattle.std.proofs.lemmas.List.Sums.{fold-append}
use Rattle.std.proofs.lemmas.List.FromFn.{map-range_with_len_more, get_or-map-range_with_len, length-map-range_with_len}
use Rattle.linking_model.specs.Numbers.{round8, greatest}
use Rattle.linking_model.specs.Tree.{Tree, IsTree, IsSmall, region_of, segments}
use Rattle.linking_model.specs.Places.{depth, segments_of_region, ends_from, region_start, origin_by}
use Rattle.linking_model.proofs.Trees.{same_tells, greatest-cons, segments_have_regions, IsRegion}
use Rattle.addr_assign.specs.Sizes.{sizes_of, end_among}
use Rattle.addr_assign.proofs.Depths.{sizes_bound, sizes_listed, depth_bound, listed_long}

-- ---- the segments are counted

last : (a n j : ℕ) → a + n ≡ j → range_with_len a (suc n) ≡ range_with_len a n ++ j ∷ []
last a zero j e = let same : a ≡ j = omega arith in ap (λ k. k ∷ []) same
last a (suc n) j e = ap (λ l. a ∷ l) (last (a + 1) n j (omega arith))

pub segments_listed : (tree : Tree) → segments tree ≡ range_with_len 1 (length tree)
unfolding segments
segments_listed [] = refl
segments_listed (x ∷ older) =
    ap (λ l. l ++ (length older + 1) ∷ []) (segments_listed older) ∙ sym (last 1 (length older) (length older + 1) (omega arith))

-- ---- the greatest end, segment by segment

greatest_last : (xs : List ℕ) (x : ℕ) → greatest (xs ++ x ∷ []) ≡ max (greatest xs) x
greatest_last xs x = fold-append max 0 xs (x ∷ [])

among_in : (f g : ℕ → ℕ) (r s : ℕ) (xs : List ℕ) → g s ≡ r → greatest (map f (filter (λ t. g t == r) (xs ++ s ∷ []))) ≡ max (greatest (map f (filter (λ t. g t == r) xs))) (f s)
among_in f g r s xs is =
    ap (λ l. greatest (map f l)) (filter-append (λ t. g t == r) xs (s ∷ []) ∙ ap (λ l. filter (λ t. g t == r) xs ++ l) here)
    ∙ ap (λ l. greatest l) (map-append f (filter (λ t. g t == r) xs) (s ∷ []))
    ∙ greatest_last (map f (filter (λ t. g t == r) xs)) (f s)
  where
    here : filter (λ t. g t == r) (s ∷ []) ≡ s ∷ []
    here = rw (is, same_tells r) refl

among_out : (f g : ℕ → ℕ) (r s : ℕ) (xs : List ℕ) → g s ≢ r → greatest (map f (filter (λ t. g t == r) (xs ++ s ∷ []))) ≡ greatest (map f (filter (λ t. g t == r) xs))
among_out f g r s xs differ =
    ap (λ l. greatest (map f l)) (filter-append (λ t. g t == r) xs (s ∷ []) ∙ ap (λ l. filter (λ t. g t == r) xs ++ l) away ∙ append-nil (filter (λ t. g t == r) xs))
  where
    away : filter (λ t. g t == r) (s ∷ []) ≡ []
    away = rw (ne_eqb (g s) r differ) refl

one_on : (s : ℕ) → 1 ≤ s → range_with_len 1 s ≡ range_with_len 1 (s - 1) ++ s ∷ []
one_on s low = let on : s ≡ suc (s - 1) = omega arith in ap (λ n. range_with_len 1 n) on ∙ last 1 (s - 1) s (omega arith)

pub end_none : (tree : Tree) (sizes : ℕ → ℕ) (start r : ℕ) → end_among tree sizes start r 0 ≡ 0
unfolding end_among
end_none tree sizes start r = refl

pub end_in : (tree : Tree) (sizes : ℕ → ℕ) (start r s : ℕ) → 1 ≤ s → region_of tree s ≡ r → end_among tree sizes start r s ≡ max (end_among tree sizes start r (s - 1)) (start + depth tree sizes s + sizes s)
unfolding end_among
end_in tree sizes start r s low is =
    ap (λ l. greatest (map (λ t. start + depth tree sizes t + sizes t) (filter (λ t. region_of tree t == r) l))) (one_on s low)
    ∙ among_in (λ t. start + depth tree sizes t + sizes t) (region_of tree) r s (range_with_len 1 (s - 1)) is

pub end_out : (tree : Tree) (sizes : ℕ → ℕ) (start r s : ℕ) → 1 ≤ s → region_of tree s ≢ r → end_among tree sizes start r s ≡ end_among tree sizes start r (s - 1)
unfolding end_among
end_out tree sizes start r s low differ =
    ap (λ l. greatest (map (λ t. start + depth tree sizes t + sizes t) (filter (λ t. region_of tree t == r) l))) (one_on s low)
    ∙ among_out (λ t. start + depth tree sizes t + sizes t) (region_of tree) r s (range_with_len 1 (s - 1)) differ

pub end_all : (tree : Tree) (sizes : ℕ → ℕ) (start r : ℕ) → end_among tree sizes start r (length tree) ≡ greatest (ends_from tree sizes start r)
unfolding end_among
end_all tree sizes start r =
    ap (λ l. greatest (map (λ t. start + depth tree sizes t + sizes t) (filter (λ t. region_of tree t == r) l))) (sym (segments_listed tree))

-- ---- starts, and that they are bounded

start_more : (tree : Tree) (sizes : ℕ → ℕ) (r : ℕ) → max (region_start tree sizes r) (round8 (greatest (ends_from tree sizes (region_start tree sizes r) r))) ≡ region_start tree sizes (suc r)
unfolding region_start
start_more tree sizes r = refl

pub start_next : (tree : Tree) (sizes : ℕ → ℕ) (r start end rounded later : ℕ) → start ≡ region_start tree sizes r → end ≡ greatest (ends_from tree sizes start r) → rounded ≡ round8 end → later ≡ max start rounded → later ≡ region_start tree sizes (r + 1)
start_next tree sizes r start end rounded later is end_is rounded_is later_is =
    let on : suc r ≡ r + 1 = omega arith in
    later_is ∙ ap (λ n. max start n) (rounded_is ∙ ap (λ n. round8 n) end_is)
    ∙ ap (λ k. max k (round8 (greatest (ends_from tree sizes k r)))) is ∙ start_more tree sizes r
    ∙ ap (λ k. region_start tree sizes k) on

pub start_none : (tree : Tree) (sizes : ℕ → ℕ) → region_start tree sizes 0 ≡ 0
unfolding region_start
start_none tree sizes = refl

greatest_bound : (f : ℕ → ℕ) (m : ℕ) (xs : List ℕ) → ((x : ℕ) → f x ≤ m) → greatest (map f xs) ≤ m
greatest_bound f m [] each = omega arith
greatest_bound f m (x ∷ xs) each =
    let rest : greatest (map f xs) ≤ m = greatest_bound f m xs each in
    let own : f x ≤ m = each x in
    rw (greatest-cons (f x) (map f xs)) (omega arith)

pub ends_bound : (tree : Tree) (xs : List ℕ) (start r : ℕ) → length tree ≤ 255 → All (λ n. n ≤ 2199023255552) xs → greatest (ends_from tree (sizes_of xs) start r) ≤ start + 562949953421312
ends_bound tree xs start r short all =
    greatest_bound (λ s. start + depth tree (sizes_of xs) s + sizes_of xs s) (start + 562949953421312) (segments_of_region tree r)
    (λ s. one (depth tree (sizes_of xs) s) (sizes_of xs s) (depth_bound tree xs s short all) (sizes_bound xs 2199023255552 s all))
  where
    one : (d n : ℕ) → d ≤ 560750930165760 → n ≤ 2199023255552 → start + d + n ≤ start + 562949953421312
    one d n h k = omega arith

pub start_bound : (tree : Tree) (xs : List ℕ) (r : ℕ) → length tree ≤ 255 → All (λ n. n ≤ 2199023255552) xs → region_start tree (sizes_of xs) r ≤ r * 562949953421320
unfolding region_start
start_bound tree xs zero short all = omega arith
start_bound tree xs (suc r) short all =
    next (region_start tree (sizes_of xs) r) (greatest (ends_from tree (sizes_of xs) (region_start tree (sizes_of xs) r) r)) r
    (start_bound tree xs r short all) (ends_bound tree xs (region_start tree (sizes_of xs) r) r short all)
  where
    next : (start end r : ℕ) → start ≤ r * 562949953421320 → end ≤ start + 562949953421312 → max start (round8 end) ≤ suc r * 562949953421320
    next start end r h k = omega arith

-- ---- origins

pub few_regions : (tree : Tree) (s : ℕ) → IsTree tree → IsSmall tree → 1 ≤ s → s ≤ length tree → region_of tree s ≤ 4
few_regions tree s t small low high =
    let region : IsRegion tree (region_of tree s) = segments_have_regions tree s t low high in le_trans region.bounded small.few_regions

origin_is : (tree : Tree) (sizes : ℕ → ℕ) (s start depth_now : ℕ) → start ≡ region_start tree sizes (region_of tree s) → depth_now ≡ depth tree sizes s → start + depth_now ≡ origin_by tree sizes s
unfolding origin_by
origin_is tree sizes s start depth_now is here = rw (is, here) refl

origin_bound : (tree : Tree) (xs : List ℕ) (s : ℕ) → IsTree tree → IsSmall tree → All (λ n. n ≤ 2199023255552) xs → 1 ≤ s → s ≤ length tree → origin_by tree (sizes_of xs) s ≤ 4503599627370496
unfolding origin_by
origin_bound tree xs s t small all low high =
    both (region_start tree (sizes_of xs) (region_of tree s)) (depth tree (sizes_of xs) s) (region_of tree s)
    (start_bound tree xs (region_of tree s) small.few_segments all) (depth_bound tree xs s small.few_segments all) (few_regions tree s t small low high)
  where
    both : (a d r : ℕ) → a ≤ r * 562949953421320 → d ≤ 560750930165760 → r ≤ 4 → a + d ≤ 4503599627370496
    both a d r h k few = omega arith

-- a list of what f has for each segment is bounded where f is
listed_bound : (f : ℕ → ℕ) (n m : ℕ) (xs : List ℕ) → xs ≡ map f (range_with_len 1 n) → ((s : ℕ) → 1 ≤ s → s ≤ n → f s ≤ m) → All (λ y. y ≤ m) xs
listed_bound f n m xs is each = λ k d inside. at k d inside
  where
    at : (k d : ℕ) → k < length xs → get_or xs k d ≤ m
    at k d inside =
        let long : length xs ≡ n = ap (λ l. length l) is ∙ length-map-range_with_len f 1 n in
        let own : get_or xs k d ≡ f (1 + k) = ap (λ l. get_or l k d) is ∙ get_or-map-range_with_len f 1 n k (1 + k) d (omega arith) refl in
        rw own (each (1 + k) (omega arith) (omega arith))

pub origins_bound : (tree : Tree) (xs origins : List ℕ) (n : ℕ) → IsTree tree → IsSmall tree → All (λ n. n ≤ 2199023255552) xs → n ≡ length tree → origins ≡ map (origin_by tree (sizes_of xs)) (range_with_len 1 n) → All (λ n. n ≤ 4503599627370496) origins
origins_bound tree xs origins n t small all long is =
    listed_bound (origin_by tree (sizes_of xs)) n 4503599627370496 origins is (λ s low high. origin_bound tree xs s t small all low (rw (sym long) high))

-- one element more of a list of what f has for each number
pub pushed : (f : ℕ → ℕ) (a n j x : ℕ) (old new : List ℕ) → old ≡ map f (range_with_len a n) → a + n ≡ j → x ≡ f j → new ≡ old ++ x ∷ [] → new ≡ map f (range_with_len a (n + 1))
pushed f a n j x old new is at own grown =
    grown ∙ ap (λ l. l ++ x ∷ []) is ∙ ap (λ y. map f (range_with_len a n) ++ y ∷ []) own ∙ sym (map-range_with_len_more f a n j at)

pub end_later : (tree : Tree) (sizes depths : List ℕ) (start r s a d n end later : ℕ) → 1 ≤ s → s ≤ length tree → depths ≡ map (depth tree (sizes_of sizes)) (range_with_len 1 (length tree)) → a ≡ region_of tree s → a ≡ r → d ≡ sizes_of depths s → n ≡ sizes_of sizes s → end ≡ end_among tree (sizes_of sizes) start r (s - 1) → later ≡ max end (start + d + n) → later ≡ end_among tree (sizes_of sizes) start r s
end_later tree sizes depths start r s a d n end later low high listed a_is here d_is n_is end_is later_is =
    let own : d ≡ depth tree (sizes_of sizes) s = d_is ∙ sizes_listed (depth tree (sizes_of sizes)) (length tree) s depths listed low high in
    later_is ∙ ap (λ k. max k (start + d + n)) end_is
    ∙ ap (λ k. max (end_among tree (sizes_of sizes) start r (s - 1)) (start + k + n)) own
    ∙ ap (λ k. max (end_among tree (sizes_of sizes) start r (s - 1)) (start + depth tree (sizes_of sizes) s + k)) n_is
    ∙ sym (end_in tree (sizes_of sizes) start r s low (sym a_is ∙ here))

pub end_same : (tree : Tree) (sizes : ℕ → ℕ) (start r s a end : ℕ) → 1 ≤ s → a ≡ region_of tree s → a ≢ r → end ≡ end_among tree sizes start r (s - 1) → end ≡ end_among tree sizes start r s
end_same tree sizes start r s a end low a_is differ end_is = end_is ∙ sym (end_out tree sizes start r s low (λ same. differ (a_is ∙ same)))

pub end_whole : (tree : Tree) (sizes : ℕ → ℕ) (start r n end : ℕ) → n ≡ length tree → end ≡ end_among tree sizes start r n → end ≡ greatest (ends_from tree sizes start r)
end_whole tree sizes start r n end all is = is ∙ ap (λ k. end_among tree sizes start r k) all ∙ end_all tree sizes start r

pub start_small : (tree : Tree) (sizes : List ℕ) (r start : ℕ) → length tree ≤ 255 → All (λ n. n ≤ 2199023255552) sizes → r ≤ 4 → start ≡ region_start tree (sizes_of sizes) r → start ≤ 4503599627370496
start_small tree sizes r start short all few is =
    let low : region_start tree (sizes_of sizes) r ≤ r * 562949953421320 = start_bound tree sizes r short all in omega (arith, low, few, is)

pub end_small : (tree : Tree) (sizes : List ℕ) (start r end : ℕ) → length tree ≤ 255 → All (λ n. n ≤ 2199023255552) sizes → start ≤ 4503599627370496 → end ≡ greatest (ends_from tree (sizes_of sizes) start r) → end ≤ 9007199254740992
end_small tree sizes start r end short all low is =
    let high : greatest (ends_from tree (sizes_of sizes) start r) ≤ start + 562949953421312 = ends_bound tree sizes start r short all in
    le_trans (rw is high) (wide start low)
  where
    wide : (start : ℕ) → start ≤ 4503599627370496 → start + 562949953421312 ≤ 9007199254740992
    wide start low = omega arith

pub region_listed : (tree : Tree) (sizes : ℕ → ℕ) (starts : List ℕ) (s r : ℕ) → IsTree tree → IsSmall tree → 1 ≤ s → s ≤ length tree → starts ≡ map (region_start tree sizes) (range_with_len 0 5) → r ≡ region_of tree s → r < length starts
region_listed tree sizes starts s r t small low high listed r_is =
    let few : region_of tree s ≤ 4 = few_regions tree s t small low high in
    let long : length starts ≡ 5 = listed_long (region_start tree sizes) 0 5 starts listed in omega (arith, few, r_is, long)

pub listed_start : (tree : Tree) (sizes starts : List ℕ) (s r d : ℕ) → IsTree tree → IsSmall tree → All (λ n. n ≤ 2199023255552) sizes → 1 ≤ s → s ≤ length tree → starts ≡ map (region_start tree (sizes_of sizes)) (range_with_len 0 5) → r ≡ region_of tree s → (get_or starts r d ≡ region_start tree (sizes_of sizes) (region_of tree s)) × (get_or starts r d ≤ 2251799813685280)
listed_start tree sizes starts s r d t small all low high listed r_is =
    let few : region_of tree s ≤ 4 = few_regions tree s t small low high in
    let own : get_or starts r d ≡ region_start tree (sizes_of sizes) r = ap (λ l. get_or l r d) listed ∙ get_or-map-range_with_len (region_start tree (sizes_of sizes)) 0 5 r r d (omega (arith, few, r_is)) (omega arith) in
    let bound : region_start tree (sizes_of sizes) r ≤ r * 562949953421320 = start_bound tree sizes r small.few_segments all in
    (own ∙ ap (λ k. region_start tree (sizes_of sizes) k) r_is, rw own (le_trans bound (many r (omega (arith, few, r_is)))))
  where
    many : (r : ℕ) → r ≤ 4 → r * 562949953421320 ≤ 2251799813685280
    many r h = omega arith

pub origin_listed : (tree : Tree) (sizes : ℕ → ℕ) (s start d : ℕ) (depths : List ℕ) → 1 ≤ s → s ≤ length tree → start ≡ region_start tree sizes (region_of tree s) → depths ≡ map (depth tree sizes) (range_with_len 1 (length tree)) → d ≡ sizes_of depths s → start + d ≡ origin_by tree sizes s
origin_listed tree sizes s start d depths low high is listed here =
    origin_is tree sizes s start d is (here ∙ sizes_listed (depth tree sizes) (length tree) s depths listed low high)
