-- Spots in order are the kept constants in order.
use Rattle.std.proofs.Common.{◌≡◌, ℕ, suc, ◌+◌, ◌<◌, ◌≤◌, Bool, true, false, ◌&&◌, ◌||◌, ◌==◌, nat_lt, cond, List, [], ◌∷◌, map, filter, fold, Option, Some, None, refl, sym, ap, ◌∙◌, arith, slice_get}
use Rattle.std.specs.List.{AllByRecursion}
use Rattle.std.specs.declared.cmp.Ordering.TheVariants.{Less, Equal, Greater}
use Rattle.std.specs.Ordering.{nat_cmp, ordering_then, match_ordering}
use Rattle.std.specs.declared.cmp.Ordering.{Ordering}
use Rattle.std.specs.BTreeSet.{insert_key}
use Rattle.std.proofs.lemmas.Bool.Decides.{nat_tests}
use Rattle.sym_mod.specs.declared.module.Item.{Item}
use Rattle.sym_mod.specs.declared.module.SymConst.{SymConst}
use Rattle.linking_model.specs.Names.{in_order, inserted}
use Rattle.linking_model.specs.Kept.{stands_before}
use Rattle.esd_index.specs.contracts.constants.SpotOrd.TheImpl.{cmp-value}
use Rattle.esd_index.specs.declared.constants.Spot.{Spot}
use Rattle.esd_index.specs.Contents.{Contents}
use Rattle.esd_index.specs.Steps.{flag_at, with_constant}
use Rattle.esd_index.specs.Ordered.{constants_at, with_spot}
use Rattle.esd_index.specs.Sorted.{spot, sorted_from}

-- ---- the order of spots

then_cond : (b e : Bool) (r : Ordering) → ordering_then (cond b Less (cond e Equal Greater)) r ≡ cond b Less (cond e r Greater)
then_cond true e r = refl
then_cond false true r = refl
then_cond false false r = refl

order_numbers : (i j p q k n : ℕ) → k < n
    → cond (nat_lt i j) Less (cond (i == j) (cond (nat_lt p q) Less (cond (p == q) (nat_cmp k n) Greater)) Greater)
    ≡ cond (nat_lt j i || j == i && nat_lt q p) Greater Less
order_numbers i j p q k n low = grind (arith, nat_tests)

order : (k n : ℕ) (c d : SymConst) → k < n → (cmp-value).it (spot k c) (spot n d) ≡ cond (stands_before d c) Greater Less
order k n c d low =
    let inner : ordering_then (nat_cmp c.offset d.offset) (nat_cmp k n) ≡ cond (nat_lt c.offset d.offset) Less (cond (c.offset == d.offset) (nat_cmp k n) Greater) = then_cond (nat_lt c.offset d.offset) (c.offset == d.offset) (nat_cmp k n) in
    let outer : ordering_then (nat_cmp c.item d.item) (ordering_then (nat_cmp c.offset d.offset) (nat_cmp k n)) ≡ cond (nat_lt c.item d.item) Less (cond (c.item == d.item) (ordering_then (nat_cmp c.offset d.offset) (nat_cmp k n)) Greater) = then_cond (nat_lt c.item d.item) (c.item == d.item) (ordering_then (nat_cmp c.offset d.offset) (nat_cmp k n)) in
    let numbers = order_numbers c.item d.item c.offset d.offset k n low in
    outer ∙ ap (λ (r : Ordering). cond (nat_lt c.item d.item) Less (cond (c.item == d.item) r Greater)) inner ∙ numbers

-- ---- constants with their places

abbrev Placed : Type 0
Placed = ℕ × SymConst

abbrev placed_before : Placed → Placed → Bool
placed_before p q = stands_before p.1 q.1

abbrev as_spot : Placed → Spot
as_spot p = spot p.0 p.1

abbrev sorted_pairs : List Bool → ℕ → List SymConst → List Placed
sorted_pairs kept k [] = []
sorted_pairs kept k (c ∷ cs) =
    cond (flag_at kept c.item) (inserted placed_before (k, c) (sorted_pairs kept (k + 1) cs)) (sorted_pairs kept (k + 1) cs)

pub all_chosen : {A : Type 0} (P : A → Type 0) (b : Bool) (xs ys : List A) → AllByRecursion P xs → AllByRecursion P ys → AllByRecursion P (cond b xs ys)
all_chosen P true xs ys a b = a
all_chosen P false xs ys a b = b

all_inserted : {A : Type 0} (before : A → A → Bool) (P : A → Type 0) (x : A) (ys : List A) → P x → AllByRecursion P ys → AllByRecursion P (inserted before x ys)
all_inserted before P x [] here all = (here, tt)
all_inserted before P x (y ∷ ys) here all =
    all_chosen P (before y x) (y ∷ inserted before x ys) (x ∷ y ∷ ys) (all.0, all_inserted before P x ys here all.1) (here, all)

pub all_weaker : {A : Type 0} (P Q : A → Type 0) → ((x : A) → P x → Q x) → (xs : List A) → AllByRecursion P xs → AllByRecursion Q xs
all_weaker P Q f [] all = tt
all_weaker P Q f (x ∷ xs) all = (f x all.0, all_weaker P Q f xs all.1)

map_inserted : {A B : Type 0} (v : A → B) (b : A → A → Bool) (d : B → B → Bool) → ((x y : A) → b x y ≡ d (v x) (v y)) → (x : A) (ys : List A)
    → map v (inserted b x ys) ≡ inserted d (v x) (map v ys)
map_inserted v b d same x [] = refl
map_inserted v b d same x (y ∷ ys) = map_chosen v b d x y ys (b y x) (d (v y) (v x)) (same y x) (map_inserted v b d same x ys)
  where
    map_chosen : {A B : Type 0} (v : A → B) (b : A → A → Bool) (d : B → B → Bool) (x y : A) (ys : List A) (p q : Bool) → p ≡ q → map v (inserted b x ys) ≡ inserted d (v x) (map v ys)
        → map v (cond p (y ∷ inserted b x ys) (x ∷ y ∷ ys)) ≡ cond q (v y ∷ inserted d (v x) (map v ys)) (v x ∷ v y ∷ map v ys)
    map_chosen v b d x y ys true q e more = rw (sym e) (ap (λ zs. v y ∷ zs) more)
    map_chosen v b d x y ys false q e more = rw (sym e) refl

-- the places rise from k on, and have their constants
abbrev IsFrom : ℕ → List SymConst → Placed → Type 0
IsFrom k constants p = (k ≤ p.0) × (slice_get constants p.0 ≡ Some p.1)

later_from : (constants : List SymConst) (k : ℕ) (c : SymConst) (cs : List SymConst) → ((i : ℕ) → slice_get constants (k + i) ≡ slice_get (c ∷ cs) i)
    → (i : ℕ) → slice_get constants (k + 1 + i) ≡ slice_get cs i
later_from constants k c cs there i =
    let same : k + suc i ≡ k + 1 + i = omega arith in
    rw same at (there (suc i))

pairs_found : (constants : List SymConst) (kept : List Bool) (k : ℕ) (cs : List SymConst) → ((i : ℕ) → slice_get constants (k + i) ≡ slice_get cs i)
    → AllByRecursion (IsFrom k constants) (sorted_pairs kept k cs)
pairs_found constants kept k [] there = tt
pairs_found constants kept k (c ∷ cs) there =
    let more : AllByRecursion (IsFrom (k + 1) constants) (sorted_pairs kept (k + 1) cs) = pairs_found constants kept (k + 1) cs (later_from constants k c cs there) in
    let rest : AllByRecursion (IsFrom k constants) (sorted_pairs kept (k + 1) cs) = all_weaker (IsFrom (k + 1) constants) (IsFrom k constants) (λ p h. (omega (arith, h.0), h.1)) (sorted_pairs kept (k + 1) cs) more in
    let same : k + 0 ≡ k = omega arith in
    let here : IsFrom k constants (k, c) = (omega arith, rw same at (there 0)) in
    all_chosen (IsFrom k constants) (flag_at kept c.item) (inserted placed_before (k, c) (sorted_pairs kept (k + 1) cs)) (sorted_pairs kept (k + 1) cs)
    (all_inserted placed_before (IsFrom k constants) (k, c) (sorted_pairs kept (k + 1) cs) here rest) rest

insert_same : (constants : List SymConst) (k : ℕ) (c : SymConst) (ps : List Placed) → AllByRecursion (IsFrom (k + 1) constants) ps
    → insert_key (cmp-value).it (map as_spot ps) (spot k c) ≡ map as_spot (inserted placed_before (k, c) ps)
insert_same constants k c [] all = refl
insert_same constants k c (p ∷ ps) all =
    rw (order k p.0 c p.1 (omega (arith, all.0.0))) (chosen k c p ps (stands_before p.1 c) (insert_same constants k c ps all.1))
  where
    chosen : (k : ℕ) (c : SymConst) (p : Placed) (ps : List Placed) (b : Bool) → insert_key (cmp-value).it (map as_spot ps) (spot k c) ≡ map as_spot (inserted placed_before (k, c) ps)
        → match_ordering (cond b Greater Less) (spot k c ∷ as_spot p ∷ map as_spot ps) (as_spot p ∷ map as_spot ps) (as_spot p ∷ insert_key (cmp-value).it (map as_spot ps) (spot k c))
        ≡ map as_spot (cond b (p ∷ inserted placed_before (k, c) ps) ((k, c) ∷ p ∷ ps))
    chosen k c p ps true more = ap (λ zs. as_spot p ∷ zs) more
    chosen k c p ps false more = refl

cond_map : {A B : Type 0} (v : A → B) (b : Bool) (xs ys : List A) (zs ws : List B) → map v xs ≡ zs → map v ys ≡ ws → map v (cond b xs ys) ≡ cond b zs ws
cond_map v true xs ys zs ws d e = d
cond_map v false xs ys zs ws d e = e

spots_of_pairs : (constants : List SymConst) (kept : List Bool) (k : ℕ) (cs : List SymConst) → ((i : ℕ) → slice_get constants (k + i) ≡ slice_get cs i)
    → map as_spot (sorted_pairs kept k cs) ≡ sorted_from kept k cs
spots_of_pairs constants kept k [] there = refl
spots_of_pairs constants kept k (c ∷ cs) there =
    let later : (i : ℕ) → slice_get constants (k + 1 + i) ≡ slice_get cs i = later_from constants k c cs there in
    let more : map as_spot (sorted_pairs kept (k + 1) cs) ≡ sorted_from kept (k + 1) cs = spots_of_pairs constants kept (k + 1) cs later in
    let put : map as_spot (inserted placed_before (k, c) (sorted_pairs kept (k + 1) cs)) ≡ insert_key (cmp-value).it (sorted_from kept (k + 1) cs) (spot k c) =
    sym (insert_same constants k c (sorted_pairs kept (k + 1) cs) (pairs_found constants kept (k + 1) cs later)) ∙ ap (λ (ss : List Spot). insert_key (cmp-value).it ss (spot k c)) more in
    cond_map as_spot (flag_at kept c.item) (inserted placed_before (k, c) (sorted_pairs kept (k + 1) cs)) (sorted_pairs kept (k + 1) cs)
    (insert_key (cmp-value).it (sorted_from kept (k + 1) cs) (spot k c)) (sorted_from kept (k + 1) cs) put more

snd_of : Placed → SymConst
snd_of p = p.1

constants_of_pairs : (kept : List Bool) (k : ℕ) (cs : List SymConst) → map (λ (p : Placed). p.1) (sorted_pairs kept k cs) ≡ in_order stands_before (filter (λ (c : SymConst). flag_at kept c.item) cs)
constants_of_pairs kept k [] = refl
constants_of_pairs kept k (c ∷ cs) =
    let more = constants_of_pairs kept (k + 1) cs in
    chosen c (sorted_pairs kept (k + 1) cs) (filter (λ (c : SymConst). flag_at kept c.item) cs) k (flag_at kept c.item) more
  where
    chosen : (c : SymConst) (ps : List Placed) (cs : List SymConst) (k : ℕ) (b : Bool) → map (λ (p : Placed). p.1) ps ≡ in_order stands_before cs
        → map (λ (p : Placed). p.1) (cond b (inserted placed_before (k, c) ps) ps) ≡ in_order stands_before (cond b (c ∷ cs) cs)
    chosen c ps cs k true more = map_inserted (λ (p : Placed). p.1) placed_before stands_before (λ x y. refl) (k, c) ps ∙ ap (inserted stands_before c) more
    chosen c ps cs k false more = more

found_again : (constants : List SymConst) (k : ℕ) (ps : List Placed) → AllByRecursion (IsFrom k constants) ps → constants_at constants (map as_spot ps) ≡ map (λ (p : Placed). p.1) ps
found_again constants k [] all = refl
found_again constants k (p ∷ ps) all = rw (all.0.1, found_again constants k ps all.1) refl

from_zero : (constants : List SymConst) (i : ℕ) → slice_get constants (0 + i) ≡ slice_get constants i
from_zero constants i =
    let same : 0 + i ≡ i = omega arith in
    rw same refl

pub spots_sorted : (constants : List SymConst) (kept : List Bool) → constants_at constants (sorted_from kept 0 constants) ≡ in_order stands_before (filter (λ (c : SymConst). flag_at kept c.item) constants)
spots_sorted constants kept =
    let all : AllByRecursion (IsFrom 0 constants) (sorted_pairs kept 0 constants) = pairs_found constants kept 0 constants (from_zero constants) in
    let spots : map as_spot (sorted_pairs kept 0 constants) ≡ sorted_from kept 0 constants = spots_of_pairs constants kept 0 constants (from_zero constants) in
    ap (constants_at constants) (sym spots) ∙ found_again constants 0 (sorted_pairs kept 0 constants) all ∙ constants_of_pairs kept 0 constants

fold_found : (items : List Item) (constants : List SymConst) (c : Contents) (s : Spot) (ss : List Spot) (o : Option SymConst) → slice_get constants s.place ≡ o
    → ((d : Contents) → fold (with_spot items constants) d ss ≡ fold (with_constant items) d (constants_at constants ss))
    → fold (with_spot items constants) c (s ∷ ss) ≡ fold (with_constant items) c (constants_at constants (s ∷ ss))
unfolding with_spot
fold_found items constants c s ss (Some x) e again = rw e (again (with_constant items c x))
fold_found items constants c s ss None e again = rw e (again c)

pub fold_spots : (items : List Item) (constants : List SymConst) (c : Contents) (spots : List Spot)
    → fold (with_spot items constants) c spots ≡ fold (with_constant items) c (constants_at constants spots)
fold_spots items constants c [] = refl
fold_spots items constants c (s ∷ ss) = fold_found items constants c s ss (slice_get constants s.place) refl (λ d. fold_spots items constants d ss)
