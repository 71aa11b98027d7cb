-- Members that were read have no more records together than were read.
use Rattle.std.proofs.Common.{◌≡◌, ℕ, zero, suc, ◌+◌, ◌-◌, ◌*◌, ◌≤◌, ◌<◌, Bool, true, false, cond, not, ◌&&◌, ◌||◌, eqb, List, [], ◌∷◌, ◌++◌, length, drop, Some, refl, sym, ap, ◌∙◌, arith}
use Rattle.std.specs.Prelude.{slice_get}
use Rattle.std.specs.List.{AllByRecursion, list_any}
use Rattle.std.proofs.lemmas.Bool.Decides.{nat_tests}
use Rattle.pds_directory.specs.declared.entry.Span.{Span}
use Rattle.pds_directory.specs.declared.entry.Listed.{Listed}
use Rattle.pds_directory.specs.Places.{ends_from, run_length}
use Rattle.pds_directory.specs.Directory.{begins_at, owner_from}
use Rattle.pds_lib.proofs.ReadPlaces.{last_ends}

-- ---- members by the place of their first record

-- the records from each place up to an end and with it, as often as n says
abbrev pub total : (ℕ → ℕ) → List Span → ℕ
total n [] = 0
total n (s ∷ ss) = n 0 * (run_length (s ∷ ss) + 1) + total (λ p. n (suc p)) ss

total_same : (f g : ℕ → ℕ) (ss : List Span) → ((p : ℕ) → f p ≡ g p) → total f ss ≡ total g ss
total_same f g [] same = refl
total_same f g (s ∷ ss) same = rw (same 0, total_same (λ p. f (suc p)) (λ p. g (suc p)) ss (λ p. same (suc p))) refl

total_none : (f : ℕ → ℕ) (ss : List Span) → ((p : ℕ) → f p ≡ 0) → total f ss ≡ 0
total_none f [] none = refl
total_none f (s ∷ ss) none = rw (none 0, total_none (λ p. f (suc p)) ss (λ p. none (suc p))) (omega arith)

both_times : (a b r : ℕ) → (a + b) * r ≡ a * r + b * r
both_times a b r = grind arith

total_more : (f g : ℕ → ℕ) (ss : List Span) → total (λ p. f p + g p) ss ≡ total f ss + total g ss
total_more f g [] = omega arith
total_more f g (s ∷ ss) =
    let one = both_times (f 0) (g 0) (run_length (s ∷ ss) + 1) in
    let rest = total_more (λ p. f (suc p)) (λ p. g (suc p)) ss in
    omega (arith, one, rest)

abbrev pub one_of : ℕ → ℕ → ℕ
one_of q p = cond (eqb q p) 1 0

never_next : (p : ℕ) → one_of 0 (suc p) ≡ 0
never_next p = let other : eqb 0 (suc p) ≡ false = grind (arith, nat_tests) in rw other refl

both_next : (q p : ℕ) → one_of (suc q) (suc p) ≡ one_of q p
both_next q p = let same : eqb (suc q) (suc p) ≡ eqb q p = grind (arith, nat_tests) in rw same refl

not_first : (q : ℕ) → one_of (suc q) 0 ≡ 0
not_first q = let other : eqb (suc q) 0 ≡ false = grind (arith, nat_tests) in rw other refl

total_one : (q : ℕ) (ss : List Span) → q < length ss → total (one_of q) ss ≡ run_length (drop q ss) + 1
total_one q [] lt = absurd (omega arith)
total_one zero (s ∷ ss) lt = let none = total_none (λ p. one_of 0 (suc p)) ss never_next in omega (arith, none)
total_one (suc q) (s ∷ ss) lt =
    let first = not_first q in
    let rest : total (λ p. one_of (suc q) (suc p)) ss ≡ run_length (drop q ss) + 1 =
    total_same (λ p. one_of (suc q) (suc p)) (one_of q) ss (both_next q) ∙ total_one q ss (omega (arith, lt)) in
    rw (first, rest) (omega arith)

-- ---- no more than there are

one_step : (c r : ℕ) → c ≤ 1 → c * (1 + r + 1) ≤ c * (r + 1) + 1
one_step zero r le = omega arith
one_step (suc zero) r le = omega arith
one_step (suc (suc c)) r le = absurd (omega (arith, le))

one_end : (c : ℕ) → c ≤ 1 → c * (0 + 1) ≤ 1
one_end c le = omega (arith, le)

few_case : (c n r rest size : ℕ) (b : Bool) → c ≤ 1 → n ≤ 1 → (b ≡ false → n ≡ 0) → n * (r + 1) + rest ≤ size → (b ≡ false → c * (r + 1) + rest ≤ size)
    → c * (cond (not b) (1 + r) 0 + 1) + (n * (r + 1) + rest) ≤ suc size
few_case c n r rest size true c-one n-one none with_next with_same = let a = one_end c c-one in omega (arith, a, with_next)
few_case c n r rest size false c-one n-one none with_next with_same =
    let a = one_step c r c-one in
    let n-is = none refl in
    let b = with_same refl in
    rw n-is (omega (arith, a, b))

few_from : (c : ℕ) (n : ℕ → ℕ) (s : Span) (ss : List Span) → c ≤ 1 → ((p : ℕ) → n p ≤ 1)
    → ((p : ℕ) (t : Span) → slice_get (s ∷ ss) p ≡ Some t → eqb t.len 0 ≡ false → n p ≡ 0) → last_ends (s ∷ ss) ≡ true
    → c * (run_length (s ∷ ss) + 1) + total n ss ≤ length (s ∷ ss)
few_from c n s [] c-one one behind last = rw last (let a = one_end c c-one in omega (arith, a))
few_from c n s (t ∷ ss) c-one one behind last =
    let with_next = few_from (n 0) (λ p. n (suc p)) t ss (one 0) (λ p. one (suc p)) (λ p u there some. behind (suc p) u there some) last in
    few_case c (n 0) (run_length (t ∷ ss)) (total (λ p. n (suc p)) ss) (length (t ∷ ss)) (eqb s.len 0) c-one (one 0) (behind 0 s refl) with_next
    (λ some. few_from c (λ p. n (suc p)) t ss c-one (λ p. one (suc p)) (λ p u there other. behind (suc p) u there other) last)

pub few_in : (n : ℕ → ℕ) (ss : List Span) → ((p : ℕ) → n p ≤ 1)
    → ((p : ℕ) (t : Span) → slice_get ss p ≡ Some t → eqb t.len 0 ≡ false → n (suc p) ≡ 0) → last_ends ss ≡ true → total n ss ≤ length ss
few_in n [] one behind last = omega arith
few_in n (s ∷ ss) one behind last = few_from (n 0) (λ p. n (suc p)) s ss (one 0) (λ p. one (suc p)) behind last

-- ---- the members of a directory

-- how many main entries begin with this record
abbrev pub count : ℕ → List Listed → ℕ
count t [] = 0
count t (x ∷ xs) = cond (begins_at t x) 1 0 + count t xs

-- the records of an entry, and the one that ends them
abbrev pub weight : List Span → Listed → ℕ
weight ss x = cond x.entry.alias 0 (run_length (drop (x.first - 1) ss) + 1)

abbrev pub weights : List Span → List Listed → ℕ
weights ss [] = 0
weights ss (x ∷ xs) = weight ss x + weights ss xs

abbrev pub IsAmong : List Span → Listed → Type 0
IsAmong ss x = (1 ≤ x.first) × (x.first ≤ length ss)

first_at : (f p : ℕ) → 1 ≤ f → cond (true && eqb f (suc p)) 1 0 ≡ one_of (f - 1) p
first_at f p le = let same : eqb f (suc p) ≡ eqb (f - 1) p = grind (arith, nat_tests, le) in rw same refl

weight_case : (ss : List Span) (first : ℕ) (alias : Bool) → 1 ≤ first → first ≤ length ss
    → total (λ p. cond (not alias && eqb first (suc p)) 1 0) ss ≡ cond alias 0 (run_length (drop (first - 1) ss) + 1)
weight_case ss first true low high = total_none (λ p. cond (not true && eqb first (suc p)) 1 0) ss (λ p. refl)
weight_case ss first false low high =
    total_same (λ p. cond (true && eqb first (suc p)) 1 0) (one_of (first - 1)) ss (λ p. first_at first p low)
    ∙ total_one (first - 1) ss (omega (arith, low, high))

pub weights_total : (ss : List Span) (xs : List Listed) → AllByRecursion (IsAmong ss) xs → weights ss xs ≡ total (λ p. count (suc p) xs) ss
weights_total ss [] all = sym (total_none (λ p. 0) ss (λ p. refl))
weights_total ss (x ∷ xs) all =
    let one = weight_case ss x.first x.entry.alias all.0.0 all.0.1 in
    let more = total_more (λ p. cond (begins_at (suc p) x) 1 0) (λ p. count (suc p) xs) ss in
    let rest = weights_total ss xs all.1 in
    omega (arith, one, more, rest)

-- ---- each record begins one member at most

pub refuted : (b : Bool) → (b ≡ true → ⊥) → b ≡ false
refuted true never_so = absurd (never_so refl)
refuted false never_so = refl

pub count_none : (t : ℕ) (xs : List Listed) → ((i : ℕ) (x : Listed) → slice_get xs i ≡ Some x → begins_at t x ≡ false) → count t xs ≡ 0
count_none t [] none = refl
count_none t (x ∷ xs) none =
    let rest = count_none t xs (λ i y there. none (suc i) y there) in
    rw (none 0 x refl, rest) (omega arith)

apart : (k i : ℕ) → Some k ≡ Some (k + suc i) → ⊥
apart k i e = let same : k ≡ k + suc i = cc in omega (arith, same)

lone_case : (t k : ℕ) (x : Listed) (xs : List Listed) (b : Bool) → b ≡ begins_at t x
    → ((i : ℕ) (y : Listed) → slice_get (x ∷ xs) i ≡ Some y → begins_at t y ≡ true → cond b (Some k) (owner_from (k + 1) xs t) ≡ Some (k + i))
    → (((i : ℕ) (y : Listed) → slice_get xs i ≡ Some y → begins_at t y ≡ true → owner_from (k + 1) xs t ≡ Some (k + 1 + i)) → count t xs ≤ 1)
    → cond b 1 0 + count t xs ≤ 1
lone_case t k x xs true here owns more =
    let none = count_none t xs (λ i y there. refuted (begins_at t y) (λ begins. apart k i (owns (suc i) y there begins))) in
    omega (arith, none)
lone_case t k x xs false here owns more =
    let rest = more (λ i y there begins. owns (suc i) y there begins ∙ ap (λ (n : ℕ). Some n) (let n : k + suc i ≡ k + 1 + i = omega arith in n)) in
    omega (arith, rest)

pub lone : (t k : ℕ) (xs : List Listed) → ((i : ℕ) (x : Listed) → slice_get xs i ≡ Some x → begins_at t x ≡ true → owner_from k xs t ≡ Some (k + i)) → count t xs ≤ 1
unfolding owner_from
lone t k [] owns = omega arith
lone t k (x ∷ xs) owns = lone_case t k x xs (begins_at t x) refl owns (lone t (k + 1) xs)

-- ---- ends

any_end : (k n : ℕ) (es : List ℕ) (b : Bool) → list_any (λ e. eqb e n) (cond b (k ∷ []) [] ++ es) ≡ ((b && eqb k n) || list_any (λ e. eqb e n) es)
any_end k n es true = refl
any_end k n es false = refl

never : (b : Bool) → ((b && false) || false) ≡ false
never true = refl
never false = refl

only_first : (b c : Bool) → c ≡ false → ((b && true) || c) ≡ b
only_first true c e = refl
only_first false c e = e

only_rest : (b c : Bool) → ((b && false) || c) ≡ c
only_rest true c = refl
only_rest false c = refl

no_end : (low n : ℕ) (ss : List Span) → n < low → list_any (λ e. eqb e n) (ends_from low ss) ≡ false
unfolding ends_from
no_end low n [] lt = refl
no_end low n (s ∷ ss) lt =
    let other : eqb low n ≡ false = grind (arith, nat_tests, lt) in
    any_end low n (ends_from (low + 1) ss) (eqb s.len 0) ∙ rw (other, no_end (low + 1) n ss (omega (arith, lt))) (never (eqb s.len 0))

-- the numbers of ends are those of the records of length zero
pub end_is : (k p : ℕ) (ss : List Span) (s : Span) → slice_get ss p ≡ Some s → list_any (λ e. eqb e (k + p)) (ends_from k ss) ≡ eqb s.len 0
unfolding ends_from
end_is k p [] s there = absurd cc
end_is k zero (t ∷ ss) s there =
    let same : t ≡ s = cc in
    let n : k + 0 ≡ k = omega arith in
    let here : eqb k k ≡ true = grind (arith, nat_tests) in
    rw n (any_end k k (ends_from (k + 1) ss) (eqb t.len 0)
    ∙ rw here (only_first (eqb t.len 0) (list_any (λ e. eqb e k) (ends_from (k + 1) ss)) (no_end (k + 1) k ss (omega arith)))
    ∙ ap (λ (s : Span). eqb s.len 0) same)
end_is k (suc p) (t ∷ ss) s there =
    let n : k + suc p ≡ k + 1 + p = omega arith in
    let other : eqb k (k + 1 + p) ≡ false = grind (arith, nat_tests) in
    rw n (any_end k (k + 1 + p) (ends_from (k + 1) ss) (eqb t.len 0)
    ∙ rw other (only_rest (eqb t.len 0) (list_any (λ e. eqb e (k + 1 + p)) (ends_from (k + 1) ss)))
    ∙ end_is (k + 1) p ss s there)
