-- Records added behind others: the symbol records that they begin with, and their faults.
use Rattle.std.proofs.Common.{◌≡◌, ℕ, zero, suc, ◌+◌, ◌-◌, refl, sym, ap, ◌∙◌, Bool, true, false, ◌&&◌, ◌==◌, if◌then◌else◌, List, [], ◌∷◌, ◌++◌, length, drop, fold, Option, Some, None, option_map, arith}
use Rattle.std.specs.Option.{option_or}
use Rattle.std.proofs.lemmas.List.Sums.{take_while-cons}
use Rattle.load_recs.specs.Faults.{what_of}
use Rattle.load_recs.specs.Reading.{own_fault}
use Rattle.pds_directory.specs.declared.entry.Entry.{Entry}
use Rattle.member_model.specs.Facts.{Facts, seen}
use Rattle.member_model.specs.Faults.{fault}
use Rattle.member_model.specs.FirstBad.{Fault, at, faults_from, begins_with_symbols, first_symbols, head_fault}
use Rattle.member_walk.specs.Walked.{are_symbols}

-- ---- the symbol records

-- records that are symbol records alone
pub first_of_all : (records rest : List (List ℕ)) → are_symbols records ≡ true → first_symbols (records ++ rest) ≡ records ++ first_symbols rest
first_of_all [] rest all = refl
first_of_all (b ∷ bs) rest all = rw (take_while-cons begins_with_symbols b (bs ++ rest)) (step (begins_with_symbols b) all (λ h. first_of_all bs rest h))
  where
    step : (t : Bool) → (t && are_symbols bs) ≡ true → (are_symbols bs ≡ true → first_symbols (bs ++ rest) ≡ bs ++ first_symbols rest) → (if t then b ∷ first_symbols (bs ++ rest) else []) ≡ b ∷ (bs ++ first_symbols rest)
    step true h more = ap (λ xs. b ∷ xs) (more h)
    step false h more = cc

-- records of which one is another
pub first_of_some : (records rest : List (List ℕ)) → are_symbols records ≡ false → first_symbols (records ++ rest) ≡ first_symbols records
first_of_some [] rest some = cc
first_of_some (b ∷ bs) rest some =
    rw (take_while-cons begins_with_symbols b (bs ++ rest), take_while-cons begins_with_symbols b bs) (step (begins_with_symbols b) some (λ h. first_of_some bs rest h))
  where
    step : (t : Bool) → (t && are_symbols bs) ≡ false → (are_symbols bs ≡ false → first_symbols (bs ++ rest) ≡ first_symbols bs) → (if t then b ∷ first_symbols (bs ++ rest) else []) ≡ (if t then b ∷ first_symbols bs else [])
    step true h more = ap (λ xs. b ∷ xs) (more h)
    step false h more = refl

-- what comes after them
pub rest_of_some : (records rest : List (List ℕ)) → drop (length (first_symbols records)) (records ++ rest) ≡ drop (length (first_symbols records)) records ++ rest
rest_of_some [] rest = refl
rest_of_some (b ∷ bs) rest = rw (take_while-cons begins_with_symbols b bs) (step (begins_with_symbols b) (rest_of_some bs rest))
  where
    step : (t : Bool) → drop (length (first_symbols bs)) (bs ++ rest) ≡ drop (length (first_symbols bs)) bs ++ rest → drop (length (if t then b ∷ first_symbols bs else [])) (b ∷ (bs ++ rest)) ≡ drop (length (if t then b ∷ first_symbols bs else [])) (b ∷ bs) ++ rest
    step true more = more
    step false more = refl

-- their facts, and how many they are
pub facts_split : (F : Facts) (records : List (List ℕ)) → fold seen (fold seen F (first_symbols records)) (drop (length (first_symbols records)) records) ≡ fold seen F records
facts_split F [] = refl
facts_split F (b ∷ bs) = rw (take_while-cons begins_with_symbols b bs) (step (begins_with_symbols b) (facts_split (seen F b) bs))
  where
    step : (t : Bool) → fold seen (fold seen (seen F b) (first_symbols bs)) (drop (length (first_symbols bs)) bs) ≡ fold seen (seen F b) bs → fold seen (fold seen F (if t then b ∷ first_symbols bs else [])) (drop (length (if t then b ∷ first_symbols bs else [])) (b ∷ bs)) ≡ fold seen (seen F b) bs
    step true more = more
    step false more = refl

pub number_split : (records : List (List ℕ)) → length (first_symbols records) + length (drop (length (first_symbols records)) records) ≡ length records
number_split [] = refl
number_split (b ∷ bs) = rw (take_while-cons begins_with_symbols b bs) (step (begins_with_symbols b) (number_split bs))
  where
    step : (t : Bool) → length (first_symbols bs) + length (drop (length (first_symbols bs)) bs) ≡ length bs → length (if t then b ∷ first_symbols bs else []) + length (drop (length (if t then b ∷ first_symbols bs else [])) (b ∷ bs)) ≡ suc (length bs)
    step true more = one_more (length (first_symbols bs)) (length (drop (length (first_symbols bs)) bs)) (length bs) more
      where
        one_more : (m n k : ℕ) → m + n ≡ k → suc m + n ≡ suc k
        one_more m n k h = omega arith
    step false more = none_first (suc (length bs))
      where
        none_first : (n : ℕ) → 0 + n ≡ n
        none_first n = omega arith

-- ---- the first record

pub head_of_symbols : (records : List (List ℕ)) → are_symbols records ≡ true → head_fault records ≡ None
head_of_symbols [] all = refl
head_of_symbols (b ∷ bs) all = step (begins_with_symbols b) all
  where
    step : (t : Bool) → (t && are_symbols bs) ≡ true → (if t then None else option_map what_of (own_fault b)) ≡ None
    step true h = refl
    step false h = cc

pub head_of_some : (records rest : List (List ℕ)) → are_symbols records ≡ false → head_fault (records ++ rest) ≡ head_fault records
head_of_some [] rest some = cc
head_of_some (b ∷ bs) rest some = refl

-- ---- faults

pub or-or : (x y z : Option Fault) → option_or x (option_or y z) ≡ option_or (option_or x y) z
or-or None y z = refl
or-or (Some f) y z = refl

pub or-none : (x : Option Fault) → option_or x None ≡ x
or-none None = refl
or-none (Some f) = refl

pub faults-append : (e : Entry) (F : Facts) (n : ℕ) (xs ys : List (List ℕ)) → faults_from e F n (xs ++ ys) ≡ option_or (faults_from e F n xs) (faults_from e (fold seen F xs) (n + length xs) ys)
unfolding faults_from
faults-append e F n [] ys = ap (λ k. faults_from e F k ys) (no_more n)
  where
    no_more : (n : ℕ) → n ≡ n + 0
    no_more n = omega arith
faults-append e F n (b ∷ bs) ys =
    rw (faults-append e (seen F b) (n + 1) bs ys, one_more n (length bs))
    (or-or (option_map (at n) (fault e F b)) (faults_from e (seen F b) (n + 1) bs) (faults_from e (fold seen (seen F b) bs) (n + suc (length bs)) ys))
  where
    one_more : (n k : ℕ) → n + 1 + k ≡ n + suc k
    one_more n k = omega arith

pub faults-one : (e : Entry) (F : Facts) (n : ℕ) (bytes : List ℕ) → faults_from e F n (bytes ∷ []) ≡ option_map (at n) (fault e F bytes)
unfolding faults_from
faults-one e F n bytes = or-none (option_map (at n) (fault e F bytes))
