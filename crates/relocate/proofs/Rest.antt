-- Bytes that are written part by part.
use Rattle.std.proofs.Common.{arith, ◌≡◌, ℕ, ◌+◌, ◌-◌, ◌<◌, ◌≤◌, ◌^◌, Bool, List, [], ◌∷◌, length, take, drop, sym, ◌∙◌}
use Rattle.std.proofs.lemmas.Grind.{common_steps}
use Rattle.text_store.specs.Content.{with_bytes, LieInContent, AreWritable, StayWritable}
use Rattle.text_store.proofs.Writes.{with_bytes_parts, with_no_bytes, lies_after}

-- from content X on, with the rest written from there on, all the bytes are written
pub record RestIsLeft (X Y : List (List ℕ)) (w v : ℕ → ℕ → Bool) (i at : ℕ) (bytes : List ℕ) (from : ℕ) (rest : List ℕ) : Type 0 where
  pub near : from + length rest < 2 ^ 32
  pub inside : LieInContent Y i from (length rest)
  pub writable : AreWritable v i from (length rest)
  pub content : with_bytes Y i from rest ≡ with_bytes X i at bytes
  pub kept : StayWritable w v

pub one_part : (X Y Z : List (List ℕ)) (w v u : ℕ → ℕ → Bool) (i at : ℕ) (bytes : List ℕ) (from n : ℕ) (rest : List ℕ)
    → RestIsLeft X Y w v i at bytes from rest → n ≤ length rest → Z ≡ with_bytes Y i from (take n rest) → StayWritable v u
    → RestIsLeft X Z w u i at bytes (from + n) (drop n rest)
one_part X Y Z w v u i at bytes from n rest left some written stays =
    let size : length (drop n rest) + n ≡ length rest = grind (arith, common_steps) in
    let part : length (take n rest) ≡ n = grind (arith, common_steps) in
    let first : LieInContent Y i from (length (take n rest)) = record { there = left.inside.there; inside = omega (arith, left.inside.inside, part, some) } in
    let later : LieInContent Y i (from + n) (length (drop n rest)) = record { there = left.inside.there; inside = omega (arith, left.inside.inside, size) } in
    record {
      near = omega (arith, left.near, size);
      inside = rw written (lies_after Y i from (take n rest) i (from + n) (length (drop n rest)) first later);
      writable = λ o low high. stays i o (left.writable o (omega (arith, low)) (omega (arith, high, size)));
      content = rw written (with_bytes_parts Y i from n rest left.inside some ∙ left.content);
      kept = λ j o before. stays j o (left.kept j o before);
    }

pub all_parts : (X Y : List (List ℕ)) (w v : ℕ → ℕ → Bool) (i at : ℕ) (bytes : List ℕ) (from : ℕ) (rest : List ℕ)
    → RestIsLeft X Y w v i at bytes from rest → length rest ≡ 0 → Y ≡ with_bytes X i at bytes
all_parts X Y w v i at bytes from [] left none = sym (with_no_bytes Y i from left.inside) ∙ left.content
all_parts X Y w v i at bytes from (b ∷ rest) left none = absurd (omega (arith, none))

pub taken_rest : (rest : List ℕ) (n : ℕ) → take (length rest - n) (drop n rest) ≡ drop n rest
taken_rest rest n = grind (arith, common_steps)
