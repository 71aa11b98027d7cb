-- The numbers of faults: no fault comes after the last record but one, and none before the records that were walked.
use Rattle.std.proofs.Common.{arith, ◌≡◌, ℕ, suc, ◌+◌, ◌-◌, ◌<◌, ◌≤◌, Bool, true, false, not, List, [], ◌∷◌, ◌++◌, length, fold, drop, refl, subst, length-append, Option, Some, None}
use Rattle.std.specs.Option.{option_or, option_map}
use Rattle.le_bytes.specs.declared.record_what.RecWhat.{RecWhat}
use Rattle.le_bytes.specs.declared.record_what.RecWhat.TheVariants.{NoEnd}
use Rattle.pds_directory.specs.declared.entry.Entry.{Entry}
use Rattle.member_model.specs.Facts.{Facts, facts, no_facts, seen}
use Rattle.member_model.specs.Faults.{first_some, when, fault}
use Rattle.member_model.specs.FirstBad.{Fault, at, faults_from, first_symbols, head_fault, entry_fault, first_bad_of}
use Rattle.member_walk.specs.Walked.{Walked, IsWalked, bad_so_far, are_symbols}
use Rattle.member_walk.proofs.HeadLists.{first_of_some, rest_of_some, head_of_some, faults-append, number_split}
use Rattle.prog_fetch.proofs.Sound.{left_none, right_none}

-- ---- numbers of faults

-- the fault, if there is one, has a number from a to b
abbrev pub Between : ℕ → ℕ → Option Fault → Type 0
Between a b None = Unit {0}
Between a b (Some (n, what)) = (a ≤ n) × (n ≤ b)

either_between : (a b : ℕ) (x y : Option Fault) → Between a b x → Between a b y → Between a b (option_or x y)
either_between a b None y first second = second
either_between a b (Some f) y first second = first

wider : (a b c d : ℕ) (x : Option Fault) → c ≤ a → b ≤ d → Between a b x → Between c d x
wider a b c d None low high between = tt
wider a b c d (Some (n, what)) low high between = (omega (arith, low, between.0), omega (arith, high, between.1))

at_between : (a b n : ℕ) (x : Option RecWhat) → a ≤ n → n ≤ b → Between a b (option_map (at n) x)
at_between a b n None low high = tt
at_between a b n (Some what) low high = (low, high)

-- a fault of records from number n on is at one of them
faults_between : (e : Entry) (F : Facts) (n : ℕ) (bs : List (List ℕ)) → Between n (n + length bs - 1) (faults_from e F n bs)
unfolding faults_from
faults_between e F n [] = tt
faults_between e F n (b ∷ bs) =
    either_between n (n + length (b ∷ bs) - 1) (option_map (at n) (fault e F b)) (faults_from e (seen F b) (n + 1) bs)
    (at_between n (n + length (b ∷ bs) - 1) n (fault e F b) (omega arith) (here n (length bs)))
    (wider (n + 1) (n + 1 + length bs - 1) n (n + length (b ∷ bs) - 1) (faults_from e (seen F b) (n + 1) bs) (omega arith) (more n (length bs))
    (faults_between e (seen F b) (n + 1) bs))
  where
    here : (n k : ℕ) → n ≤ n + suc k - 1
    here n k = omega arith

    more : (n k : ℕ) → n + 1 + k - 1 ≤ n + suc k - 1
    more n k = omega arith

-- ---- of a member

head_between : (bs : List (List ℕ)) → Between 0 (length bs) (option_map (at 1) (head_fault bs))
head_between [] = tt
head_between (b ∷ bs) = at_between 0 (length (b ∷ bs)) 1 (head_fault (b ∷ bs)) (omega arith) (one (length bs))
  where
    one : (k : ℕ) → 1 ≤ suc k
    one k = omega arith

member_between : (e : Entry) (bs : List (List ℕ)) (t : Bool) (top : ℕ) → length bs ≤ top → Between 0 top (option_map (at (length bs + 1)) (when (not t) NoEnd))
    → Between 0 top (first_bad_of e bs t)
unfolding first_bad_of
member_between e bs t top most ends =
    let first : List (List ℕ) = first_symbols bs in
    let rest : List (List ℕ) = drop (length first) bs in
    let split : length first + length rest ≡ length bs = number_split bs in
    let a : Option Fault = faults_from e no_facts 1 first in
    let b : Option Fault = option_map (at 1) (head_fault bs) in
    let c : Option Fault = option_map (at 0) (entry_fault e (facts first)) in
    let d : Option Fault = faults_from e (facts first) (length first + 1) rest in
    let f : Option Fault = option_map (at (length bs + 1)) (when (not t) NoEnd) in
    either_between 0 top a (first_some (b ∷ c ∷ d ∷ f ∷ []))
    (wider 1 (1 + length first - 1) 0 top a (omega arith) (omega (arith, split, most)) (faults_between e no_facts 1 first))
    (either_between 0 top b (first_some (c ∷ d ∷ f ∷ []))
    (wider 0 (length bs) 0 top b (omega arith) most (head_between bs))
    (either_between 0 top c (first_some (d ∷ f ∷ []))
    (at_between 0 top 0 (entry_fault e (facts first)) (omega arith) (omega arith))
    (either_between 0 top d (first_some (f ∷ []))
    (wider (length first + 1) (length first + 1 + length rest - 1) 0 top d (omega arith) (omega (arith, split, most)) (faults_between e (facts first) (length first + 1) rest))
    (either_between 0 top f None ends tt))))

-- once what had to come has come, the fault is at a record or at the entry point
pub within_whole : (e : Entry) (bs : List (List ℕ)) (n : ℕ) (what : RecWhat) → first_bad_of e bs true ≡ Some (n, what) → n ≤ length bs
within_whole e bs n what is =
    (subst (Between 0 (length bs)) is (member_between e bs true (length bs) (omega arith) tt)).1

pub within_all : (e : Entry) (bs : List (List ℕ)) (t : Bool) (n : ℕ) (what : RecWhat) → first_bad_of e bs t ≡ Some (n, what) → n ≤ length bs + 1
within_all e bs t n what is =
    (subst (Between 0 (length bs + 1)) is (member_between e bs t (length bs + 1) (omega arith)
    (at_between 0 (length bs + 1) (length bs + 1) (when (not t) NoEnd) (omega arith) (omega arith)))).1

-- ---- behind records that were walked

first_none : (x y : Option Fault) → x ≡ None → option_or x y ≡ y
first_none x y none = rw none refl

behind : (e : Entry) (records rest : List (List ℕ)) (t : Bool) (w : Walked) → IsWalked e records w → are_symbols records ≡ false
    → Between (length records + 1) (length (records ++ rest) + 1) (first_bad_of e (records ++ rest) t)
unfolding first_bad_of bad_so_far
behind e records rest t w walked some =
    let first : List (List ℕ) = first_symbols records in
    let left : List (List ℕ) = drop (length first) records in
    let split : length first + length left ≡ length records = number_split records in
    let a : Option Fault = faults_from e no_facts 1 first in
    let b : Option Fault = option_map (at 1) (head_fault records) in
    let c : Option Fault = option_map (at 0) (entry_fault e (facts first)) in
    let d : Option Fault = faults_from e (facts first) (length first + 1) left in
    let good : first_some (a ∷ b ∷ c ∷ d ∷ []) ≡ None = rw some at walked.good in
    let a_none : a ≡ None = left_none a (first_some (b ∷ c ∷ d ∷ [])) good in
    let after_a : first_some (b ∷ c ∷ d ∷ []) ≡ None = right_none a (first_some (b ∷ c ∷ d ∷ [])) good in
    let b_none : b ≡ None = left_none b (first_some (c ∷ d ∷ [])) after_a in
    let after_b : first_some (c ∷ d ∷ []) ≡ None = right_none b (first_some (c ∷ d ∷ [])) after_a in
    let c_none : c ≡ None = left_none c (first_some (d ∷ [])) after_b in
    let d_none : d ≡ None = left_none d None (right_none c (first_some (d ∷ [])) after_b) in
    let n : ℕ = length first + 1 + length left in
    let later : Option Fault = faults_from e (fold seen (facts first) left) n rest in
    let top : ℕ = length (records ++ rest) + 1 in
    let size : length (records ++ rest) ≡ length records + length rest = length-append records rest in
    rw (first_of_some records rest some, head_of_some records rest some, rest_of_some records rest, a_none, b_none, c_none, faults-append e (facts first) (length first + 1) left rest, d_none)
    (either_between (length records + 1) top later (first_some (option_map (at top) (when (not t) NoEnd) ∷ []))
    (wider n (n + length rest - 1) (length records + 1) top later (omega (arith, split)) (omega (arith, split, size)) (faults_between e (fold seen (facts first) left) n rest))
    (either_between (length records + 1) top (option_map (at top) (when (not t) NoEnd)) None
    (at_between (length records + 1) top top (when (not t) NoEnd) (omega (arith, size)) (omega arith)) tt))

pub behind_walked : (e : Entry) (records rest : List (List ℕ)) (t : Bool) (w : Walked) (n : ℕ) (what : RecWhat) → IsWalked e records w → are_symbols records ≡ false
    → first_bad_of e (records ++ rest) t ≡ Some (n, what) → length records < n
behind_walked e records rest t w n what walked some is =
    let between : Between (length records + 1) (length (records ++ rest) + 1) (Some (n, what)) = subst (Between (length records + 1) (length (records ++ rest) + 1)) is (behind e records rest t w walked some) in
    omega (arith, between.0)
