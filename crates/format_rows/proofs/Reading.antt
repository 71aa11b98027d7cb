-- A list that is read one after the other.
use Rattle.std.proofs.Common.{◌≡◌, ℕ, zero, suc, ◌-◌, ◌≤◌, List, [], ◌∷◌, ◌++◌, length, take, Option, Some, Result, Ok, Err, OnOk, sym, ap, ◌∙◌, arith}
use Rattle.std.specs.Prelude.{slice_get}
use Rattle.std.proofs.lemmas.List.{take_all}
use Rattle.le_io.specs.Counts.{WhereTold}
use Rattle.lib_stream.specs.Sources.{IsRecord, AreRecords}

take_next : (told : List (List ℕ)) (k : ℕ) (bytes : List ℕ) → slice_get told k ≡ Some bytes → take k told ++ bytes ∷ [] ≡ take (suc k) told
take_next [] k bytes there = absurd cc
take_next (x ∷ told) zero bytes there =
    let is : x ≡ bytes = cc in
    ap (λ (b : List ℕ). b ∷ []) (sym is)
take_next (x ∷ told) (suc k) bytes there = ap (λ (rs : List (List ℕ)). x ∷ rs) (take_next told k bytes there)

-- record n after those before it
with_record : (told before after : List (List ℕ)) (n : ℕ) (bytes : List ℕ) → 1 ≤ n → IsRecord told n bytes → after ≡ before ++ bytes ∷ [] → before ≡ take (n - 1) told → after ≡ take n told
with_record told before after n bytes low is added so_far =
    let same : suc (n - 1) ≡ n = omega (arith, low) in
    rw (added, so_far) (take_next told (n - 1) bytes is ∙ ap (λ m. take m told) same)

-- the same, wherever the records are told and the copy was made
pub added_record : {E : Type 0} (answer : Result (Unit {0}) E) (listed : Option (List (List ℕ))) (before after : List (List ℕ)) (n : ℕ) (bytes : List ℕ) → 1 ≤ n
    → WhereTold listed (λ told. IsRecord told n bytes) → OnOk answer (after ≡ before ++ bytes ∷ [])
    → OnOk answer (WhereTold listed (λ told. before ≡ take (n - 1) told → after ≡ take n told))
added_record (Ok u) listed before after n bytes low is added = λ told listed_is so_far. with_record told before after n bytes low (is told listed_is) added so_far
added_record (Err e) listed before after n bytes low is added = added

-- at the end the records so far are all
pub all_read : (listed : Option (List (List ℕ))) (total count : ℕ) (lengths : ℕ → ℕ) (records : List (List ℕ)) → WhereTold listed (λ told. AreRecords told total lengths)
    → total ≤ count → WhereTold listed (λ told. records ≡ take count told) → WhereTold listed (λ told. records ≡ told)
all_read listed total count lengths records agrees all so_far told is =
    let size : length told ≡ total = (agrees told is).counted in
    so_far told is ∙ take_all count told (omega (arith, size, all))
