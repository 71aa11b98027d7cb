-- Texts one after the other.
use Rattle.std.proofs.Common.{◌≡◌, ℕ, ◌+◌, ◌-◌, ◌≤◌, zero, suc, arith, List, [], ◌∷◌, ◌++◌, drop, replicate, ap, ◌∙◌, append_assoc}
use Rattle.std.proofs.lemmas.List.Concat.{flat_map-append}
use Rattle.std.proofs.lemmas.List.{append-nil}
use Rattle.std.specs.List.{flat_map}

-- some texts, spelled one after the other
pub all_pushed : (f : List ℕ → List ℕ) (now one two three last : List ℕ) (first final : List ℕ) (bs cs : List (List ℕ))
    → one ≡ now ++ f first → two ≡ one ++ flat_map f bs → three ≡ two ++ flat_map f cs → last ≡ three ++ f final
    → last ≡ now ++ flat_map f (first ∷ bs ++ cs ++ final ∷ [])
all_pushed f now one two three last first final bs cs a b c d =
    d ∙ rw (c, b, a, flat_map-append f (bs ++ cs) (final ∷ []), flat_map-append f bs cs) (simp (append_assoc, append-nil))

-- the texts of one more segment
pub more_pushed : (f : List ℕ → List ℕ) (bs cs : List (List ℕ)) → flat_map f (bs ++ cs) ≡ flat_map f bs ++ flat_map f cs
more_pushed f bs cs = flat_map-append f bs cs

-- what is left of so many equal elements
left_by : (n m k a : ℕ) → n + k ≡ m → drop n (replicate m a) ≡ replicate k a
left_by zero m k a e = ap (λ (j : ℕ). replicate j a) (omega arith)
left_by (suc n) zero k a e = absurd (omega arith)
left_by (suc n) (suc m) k a e = left_by n m k a (omega arith)

pub left_of_equal : (n m a : ℕ) → n ≤ m → drop n (replicate m a) ≡ replicate (m - n) a
left_of_equal n m a h = left_by n m (m - n) a (omega arith)
