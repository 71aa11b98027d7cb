-- Facts and faults of records, one record after the other.
use Rattle.std.proofs.Common.{◌≡◌, ℕ, suc, ◌+◌, refl, List, [], ◌∷◌, ◌++◌, fold, length, Option, Some, None, option_map, arith}
use Rattle.std.specs.Option.{option_or}
use Rattle.member_model.specs.Facts.{Facts, facts, no_facts, seen}
use Rattle.member_model.specs.Faults.{fault}
use Rattle.member_model.specs.FirstBad.{Fault, at, faults_from}
use Rattle.member_model.specs.Laws.{RecordsAddFacts, FaultsComeInTurn}

fold-more : (F : Facts) (records : List (List ℕ)) (bytes : List ℕ) → fold seen F (records ++ bytes ∷ []) ≡ seen (fold seen F records) bytes
fold-more F [] bytes = refl
fold-more F (b ∷ bs) bytes = fold-more (seen F b) bs bytes

pub records_add_facts : RecordsAddFacts
unfolding facts
records_add_facts records bytes = fold-more no_facts records bytes

or-none : (x : Option Fault) → option_or x None ≡ x
or-none None = refl
or-none (Some f) = refl

or-or : (x y z : Option Fault) → option_or x (option_or y z) ≡ option_or (option_or x y) z
or-or None y z = refl
or-or (Some f) y z = refl

next : (n k : ℕ) → n + 1 + k ≡ n + suc k
next n k = grind arith

no_more : (n : ℕ) → n + 0 ≡ n
no_more n = grind arith

pub faults_come_in_turn : FaultsComeInTurn
unfolding faults_from
faults_come_in_turn e F n [] bytes = rw (or-none (option_map (at n) (fault e F bytes)), no_more n) refl
faults_come_in_turn e F n (b ∷ bs) bytes =
    rw (faults_come_in_turn e (seen F b) (n + 1) bs bytes, next n (length bs))
    (or-or (option_map (at n) (fault e F b)) (faults_from e (seen F b) (n + 1) bs)
    (option_map (at (n + suc (length bs))) (fault e (fold seen (seen F b) bs) bytes)))
