-- A text cut at one byte.
use Rattle.std.proofs.Common.{ℕ, ◌≡◌, ◌==◌, ◌<◌, Bool, true, false, not, List, [], ◌∷◌, length, refl}
use Rattle.std.specs.List.{slice_split, position_or_len, before_first, after_first}
use Rattle.std.proofs.lemmas.List.Splits.{slice_split_none, slice_split_first}
use Rattle.std.proofs.lemmas.List.Elements.{All-from_get_or}
use Rattle.std.proofs.lemmas.List.Sums.{prefix_len_passes}

false_from_not : (b : Bool) → not b ≡ true → b ≡ false
false_from_not true h = cc
false_from_not false h = refl

-- a text without the byte is the one part
pub split_whole : (c : ℕ) (text : List ℕ) → position_or_len (λ b. b == c) text ≡ length text → slice_split (λ b. b == c) text ≡ text ∷ []
split_whole c text none =
    slice_split_none (λ b. b == c) text (All-from_get_or (λ b. (b == c) ≡ false) text 0
    (λ i below. false_from_not _ (prefix_len_passes (λ b. not (b == c)) text i 0 (rw none below))))

-- the parts of a text with the byte
pub split_cut : (c : ℕ) (text piece rest : List ℕ) → piece ≡ before_first (λ b. b == c) text → rest ≡ after_first (λ b. b == c) text
    → position_or_len (λ b. b == c) text < length text → slice_split (λ b. b == c) text ≡ piece ∷ slice_split (λ b. b == c) rest
split_cut c text piece rest before after within =
    let cut = slice_split_first (λ b. b == c) text 0 within in rw (before, after) cut
