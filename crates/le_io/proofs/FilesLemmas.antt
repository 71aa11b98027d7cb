-- What stands at each path after one file was written over or added.
use Rattle.std.proofs.Common.{◌≡◌, ◌≢◌, ℕ, ◌≤◌, Bool, true, false, List, [], ◌∷◌, ◌++◌, length, get_or, Option, None, Some, String, Vec, string_bytes, refl, ap, sym, cond, ltb, arith}
use Rattle.std.proofs.Math.ListN.{set}
use Rattle.std.specs.List.{find, position, position_or_len}
use Rattle.std.specs.Option.{option_map, option_or}
use Rattle.std.specs.Str.{bytes_eq}
use Rattle.std.specs.declared.alloc.Global.{Global}
use Rattle.std.proofs.lemmas.Bool.Decides.{nat_tests}
use Rattle.std.proofs.lemmas.List.Folds.{find-set, find_past, find-append, find_at}
use Rattle.std.proofs.lemmas.List.Sums.{position_or_len_is}
use Rattle.std.proofs.lemmas.List.Quantifiers.{position-Some}
use Rattle.std.proofs.lemmas.Option.{slice_get_past}
use Rattle.std.proofs.lemmas.Slice.Eq.{bytes_eq-Decides}
use Rattle.le_io.specs.Stored.{is_at, files_in}

-- a write at the first element that passes, of one that passes too
pub find-set_first : {X : Type 0} (p : X → Bool) (xs : List X) (i : ℕ) (y : X) → position p xs ≡ Some i → p y ≡ true → find p (set xs i y) ≡ Some y
find-set_first p xs i y first passes =
    let at = position-Some p xs i y first in
    let small : i ≤ length xs = omega (arith, at.0) in
    find-set p xs i y (sym (position_or_len_is p xs i y small at.2 (λ _. at.1))) at.0 passes

-- where the search for a place finds none, that for an element finds none
no_place : (p n : ℕ) → cond (ltb p n) (Some p) None ≡ None → n ≤ p
no_place p n none = grind (arith, nat_tests)

pub find_none : {X : Type 0} (p : X → Bool) (xs : List X) → position p xs ≡ None → find p xs ≡ None
find_none p xs none = rw find_at (slice_get_past xs (position_or_len p xs) (no_place (position_or_len p xs) (length xs) none))

-- none passes, and then one that does is added
pub find-push : {X : Type 0} (p : X → Bool) (xs : List X) (y : X) → position p xs ≡ None → p y ≡ true → find p (xs ++ y ∷ []) ≡ Some y
find-push p xs y none passes = rw (find-append p xs (y ∷ []), find_none p xs none, passes) refl

or_none : {X : Type 0} (o : Option X) → option_or o None ≡ o
or_none None = refl
or_none (Some x) = refl

-- one that does not pass is added
pub find-push_past : {X : Type 0} (p : X → Bool) (xs : List X) (y : X) → p y ≡ false → find p (xs ++ y ∷ []) ≡ find p xs
find-push_past p xs y fails = rw (find-append p xs (y ∷ []), fails) (or_none (find p xs))

-- a text that is one path is no other
pub other_fails : (path other text : List ℕ) → bytes_eq text path ≡ true → other ≢ path → bytes_eq text other ≡ false
other_fails path other text same apart = grind (arith, bytes_eq-Decides text path, bytes_eq-Decides text other)

-- the file that was found at the path, with other bytes: they stand at the path, and other paths keep theirs
pub files_in-set : (path : List ℕ) (files : List (String Global × Vec ℕ Global)) (i : ℕ) (file : String Global × Vec ℕ Global) (bytes : Vec ℕ Global) → position (is_at path) files ≡ Some i → file ≡ get_or files i file → (files_in (set files i (file.0, bytes)) path ≡ Some bytes.items) × ((other : List ℕ) → other ≢ path → files_in (set files i (file.0, bytes)) other ≡ files_in files other)
files_in-set path files i file bytes found is =
    let at = position-Some (is_at path) files i file found in
    let named : bytes_eq (string_bytes file.0) path ≡ true = rw is at.1 in (
      ap (option_map (λ (f : String Global × Vec ℕ Global). f.1.items))
          (find-set_first (is_at path) files i (file.0, bytes) found named),
      λ other apart.
          let fails : bytes_eq (string_bytes file.0) other ≡ false = other_fails path other (string_bytes file.0) named apart in
          ap (option_map (λ (f : String Global × Vec ℕ Global). f.1.items))
          (find_past (is_at other) files i (file.0, bytes) file (rw (← is) fails) fails),
    )

-- a file added at a path where there was none
pub files_in-push : (path : List ℕ) (files : List (String Global × Vec ℕ Global)) (name : String Global) (bytes : Vec ℕ Global) → position (is_at path) files ≡ None → string_bytes name ≡ path → (files_in (files ++ (name, bytes) ∷ []) path ≡ Some bytes.items) × ((other : List ℕ) → other ≢ path → files_in (files ++ (name, bytes) ∷ []) other ≡ files_in files other)
files_in-push path files name bytes none is =
    let named : bytes_eq (string_bytes name) path ≡ true = (bytes_eq-Decides (string_bytes name) path).1 is in (
      ap (option_map (λ (f : String Global × Vec ℕ Global). f.1.items))
          (find-push (is_at path) files (name, bytes) none named),
      λ other apart.
          ap (option_map (λ (f : String Global × Vec ℕ Global). f.1.items))
          (find-push_past (is_at other) files (name, bytes) (other_fails path other (string_bytes name) named apart)),
    )
