-- Bytes cut into cards.
use Rattle.std.proofs.Common.{arith, ◌≡◌, ℕ, zero, suc, ◌+◌, ◌*◌, ◌/◌, List, ◌∷◌, length, take, drop, map, drop-drop, refl, ◌∙◌, ap}
use Rattle.std.specs.List.{range_with_len}
use Rattle.std.specs.Simd.{first_chunks}
use Rattle.deck_steps.specs.Cards.{whole_cards}

-- the cards from place a on
chunks_from : (a k : ℕ) (bytes : List ℕ) → first_chunks 80 k (drop (80 * a) bytes) ≡ map (λ i. take 80 (drop (80 * i) bytes)) (range_with_len a k)
chunks_from a zero bytes = refl
chunks_from a (suc k) bytes =
    let next : drop 80 (drop (80 * a) bytes) ≡ drop (80 * (a + 1)) bytes =
    drop-drop 80 (80 * a) bytes ∙ ap (λ n. drop n bytes) {x = 80 * a + 80} {y = 80 * (a + 1)} (omega arith) in
    ap (λ cards. take 80 (drop (80 * a) bytes) ∷ cards) (ap (first_chunks 80 k) next ∙ chunks_from (a + 1) k bytes)

pub cards_are : (bytes : List ℕ) → first_chunks 80 (length bytes / 80) bytes ≡ whole_cards bytes
unfolding whole_cards
cards_are bytes = chunks_from 0 (length bytes / 80) bytes
