-- Looking for a place by halving, and what numbers that rise have there.
use Rattle.std.proofs.Common.{◌≡◌, ℕ, zero, suc, ◌+◌, ◌<◌, ◌≤◌, Bool, true, false, cond, ◌&&◌, ◌||◌, eqb, leb, ltb, List, [], ◌∷◌, length, get_or, Option, Some, None, refl, sym, ap, ◌∙◌, inl, inr, arith}
use Rattle.std.specs.Prelude.{slice_get}
use Rattle.std.specs.Option.{option_map_or}
use Rattle.std.specs.List.{prefix_len, list_any}
use Rattle.std.proofs.lemmas.Bool.{cases_lt, leb-true}
use Rattle.std.proofs.lemmas.Bool.Decides.{nat_tests}
use Rattle.std.proofs.lemmas.List.Sums.{prefix_len_passes, prefix_len_stops}
use Rattle.pds_directory.specs.Places.{rises, rises_from}

pub both_true : (a b : Bool) → (a && b) ≡ true → (a ≡ true) × (b ≡ true)
both_true true b e = (refl, e)
both_true false b e = absurd cc

-- ---- any list and test

pub goes_up : {X : Type 0} (p : X → Bool) (xs : List X) (mid : ℕ) (d : X) → ((i : ℕ) → i ≤ mid → p (get_or xs i d) ≡ true) → mid < length xs
    → mid + 1 ≤ prefix_len p xs
goes_up p xs mid d all lt =
    elim (cases_lt mid (prefix_len p xs)) [
      | inl up ↦ omega arith
      | inr le ↦
          let stop = prefix_len_stops p xs d (omega arith) in
          let go = all (prefix_len p xs) le in
          absurd (let e : true ≡ false = sym go ∙ stop in cc)
    ]

pub stays : {X : Type 0} (p : X → Bool) (xs : List X) (mid : ℕ) (d : X) → p (get_or xs mid d) ≡ false → prefix_len p xs ≤ mid
stays p xs mid d fails =
    elim (cases_lt mid (prefix_len p xs)) [
      | inl up ↦ let go = prefix_len_passes p xs mid d up in absurd (let e : true ≡ false = sym go ∙ fails in cc)
      | inr le ↦ le
    ]

-- ---- numbers that rise

pub rises_low : (low : ℕ) (es : List ℕ) (k : ℕ) → rises_from low es ≡ true → k < length es → low ≤ get_or es k 0
rises_low low [] k up lt = absurd (omega arith)
rises_low low (e ∷ es) zero up lt = leb-true low e (both_true (leb low e) (rises_from (e + 1) es) up).0
rises_low low (e ∷ es) (suc k) up lt =
    let both = both_true (leb low e) (rises_from (e + 1) es) up in
    let first = leb-true low e both.0 in
    let rest = rises_low (e + 1) es k both.1 (omega arith) in
    omega arith

pub rises_pairs : (low : ℕ) (es : List ℕ) (i j : ℕ) → rises_from low es ≡ true → i < j → j < length es → get_or es i 0 < get_or es j 0
rises_pairs low [] i j up lt here = absurd (omega arith)
rises_pairs low (e ∷ es) i zero up lt here = absurd (omega arith)
rises_pairs low (e ∷ es) zero (suc j) up lt here =
    let both = both_true (leb low e) (rises_from (e + 1) es) up in
    let rest = rises_low (e + 1) es j both.1 (omega arith) in
    omega arith
rises_pairs low (e ∷ es) (suc i) (suc j) up lt here =
    let both = both_true (leb low e) (rises_from (e + 1) es) up in
    rises_pairs (e + 1) es i j both.1 (omega arith) (omega arith)

pub numbers_before : (es : List ℕ) (k mid : ℕ) → rises es ≡ true → mid < length es → get_or es mid 0 < k → (i : ℕ) → i ≤ mid → ltb (get_or es i 0) k ≡ true
numbers_before es k mid up lt below i le =
    elim (cases_lt i mid) [
      | inl before ↦ let p = rises_pairs 0 es i mid up before lt in grind (arith, nat_tests)
      | inr same ↦ let e : i ≡ mid = omega arith in rw e (grind (arith, nat_tests))
    ]

none_from : (low k : ℕ) (es : List ℕ) → k < low → rises_from low es ≡ true → list_any (λ e. eqb e k) es ≡ false
none_from low k [] lt up = refl
none_from low k (e ∷ es) lt up =
    let both = both_true (leb low e) (rises_from (e + 1) es) up in
    let first = leb-true low e both.0 in
    let no : eqb e k ≡ false = grind (arith, nat_tests) in
    rw (no, none_from (e + 1) k es (omega arith) both.1) refl

-- the number at a place is this one
abbrev pub if_number : ℕ → Option ℕ → Bool
if_number k None = false
if_number k (Some e) = eqb e k

any_here : (k e : ℕ) (es : List ℕ) (below same : Bool) → below ≡ ltb e k → same ≡ eqb e k → rises_from (e + 1) es ≡ true
    → list_any (λ e. eqb e k) es ≡ if_number k (slice_get es (prefix_len (λ e. ltb e k) es))
    → (same || list_any (λ e. eqb e k) es) ≡ if_number k (slice_get (e ∷ es) (cond below (1 + prefix_len (λ e. ltb e k) es) 0))
any_here k e es true true b s up ih = absurd (grind (arith, nat_tests))
any_here k e es true false b s up ih =
    let one : 1 + prefix_len (λ e. ltb e k) es ≡ suc (prefix_len (λ e. ltb e k) es) = omega arith in
    rw one ih
any_here k e es false true b s up ih = s
any_here k e es false false b s up ih =
    let lt : k < e + 1 = grind (arith, nat_tests) in
    none_from (e + 1) k es lt up ∙ s

-- numbers that rise have one of them exactly where it stands at its place
pub any_is : (low k : ℕ) (es : List ℕ) → rises_from low es ≡ true
    → list_any (λ e. eqb e k) es ≡ if_number k (slice_get es (prefix_len (λ e. ltb e k) es))
any_is low k [] up = refl
any_is low k (e ∷ es) up =
    let both = both_true (leb low e) (rises_from (e + 1) es) up in
    any_here k e es (ltb e k) (eqb e k) refl refl both.1 (any_is (e + 1) k es both.1)

-- ---- one step of halving

pub number_up : (es : List ℕ) (k mid high : ℕ) → rises es ≡ true → mid < length es → get_or es mid 0 < k
    → prefix_len (λ e. ltb e k) es ≤ high → high ≤ length es
    → (mid + 1 ≤ prefix_len (λ e. ltb e k) es) × (prefix_len (λ e. ltb e k) es ≤ high) × (high ≤ length es)
number_up es k mid high up lt below le within =
    (goes_up (λ e. ltb e k) es mid 0 (numbers_before es k mid up lt below) lt, le, within)

at_least : (a k : ℕ) → k ≤ a → ltb a k ≡ false
at_least a k h = grind (arith, nat_tests)

pub number_down : (es : List ℕ) (k low mid : ℕ) → mid < length es → k ≤ get_or es mid 0
    → low ≤ prefix_len (λ e. ltb e k) es
    → (low ≤ prefix_len (λ e. ltb e k) es) × (prefix_len (λ e. ltb e k) es ≤ mid) × (mid ≤ length es)
number_down es k low mid lt above le = (le, stays (λ e. ltb e k) es mid 0 (at_least (get_or es mid 0) k above), omega arith)

-- ---- what stands at the place

number_there : (k : ℕ) (o : Option ℕ) → option_map_or (λ e. eqb e k) o false ≡ if_number k o
number_there k None = refl
number_there k (Some e) = refl

pub number_found : (es : List ℕ) (k p : ℕ) (b : Bool) → rises es ≡ true → p ≡ prefix_len (λ e. ltb e k) es
    → b ≡ option_map_or (λ e. eqb e k) (slice_get es p) false → b ≡ list_any (λ e. eqb e k) es
number_found es k p b up here e =
    e ∙ number_there k (slice_get es p) ∙ ap (λ (q : ℕ). if_number k (slice_get es q)) here ∙ sym (any_is 0 k es up)
