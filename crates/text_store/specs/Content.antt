-- The bytes of the sections of a program, and what a write and a loan do to them.
use Rattle.std.specs.Prelude.{◌≡◌, ℕ, ◌+◌, ◌<◌, ◌≤◌, Bool, true, List, [], ◌++◌, length, take, drop, slice_set, get_or}

-- the bytes of section i, none where there is no such section
abbrev pub section_of : List (List ℕ) → ℕ → List ℕ
section_of content i = get_or content i []

-- the list with these bytes over as many, from a place on
abbrev pub overwritten : List ℕ → ℕ → List ℕ → List ℕ
overwritten xs at bytes = take at xs ++ (bytes ++ drop (at + length bytes) xs)

-- the content with these bytes in section i, from a place on
abbrev pub with_bytes : List (List ℕ) → ℕ → ℕ → List ℕ → List (List ℕ)
with_bytes content i at bytes = slice_set content i (overwritten (section_of content i) at bytes)

-- the n places from a place on are in section i
pub record LieInContent (content : List (List ℕ)) (i : ℕ) (at : ℕ) (n : ℕ) : Type 0 where
  pub there : i < length content
  pub inside : at + n ≤ length (section_of content i)

-- the n places of section i from a place on may be written
abbrev pub AreWritable : (ℕ → ℕ → Bool) → ℕ → ℕ → ℕ → Type 0
AreWritable writable i at n = (o : ℕ) → at ≤ o → o < at + n → writable i o ≡ true

-- what may be written may still be written
abbrev pub StayWritable : (ℕ → ℕ → Bool) → (ℕ → ℕ → Bool) → Type 0
StayWritable old new = (i o : ℕ) → old i o ≡ true → new i o ≡ true
