-- Where sections of some lengths start, one after the other, and what they are cut out of zeros.
use Rattle.std.proofs.Common.{arith, ◌≡◌, ℕ, ◌+◌, ◌-◌, ◌≤◌, true, if◌then◌else◌, List, [], ◌∷◌, ◌++◌, length, map, drop, get_or, replicate, refl, sym, ◌∙◌, ap, slice_range, append_assoc}
use Rattle.std.specs.Prelude.{nat_le}
use Rattle.std.specs.List.{sum}
use Rattle.std.proofs.lemmas.Bool.Decides.{nat_tests}
use Rattle.std.proofs.lemmas.List.{append-nil, drop_all, drop-replicate, take-replicate, length-replicate}
use Rattle.std.proofs.lemmas.List.Sums.{sum_by-cons}
use Rattle.text_store.specs.Whole.{are_rising, pieces, content_of}
use Rattle.text_store.specs.declared.whole.WholeText.{WholeText}

-- where sections of these lengths start, the first at a place
unfoldable pub starts_from : ℕ → List ℕ → List ℕ
starts_from at [] = []
starts_from at (n ∷ ns) = at ∷ starts_from (at + n) ns

next_start : (at : ℕ) (ns : List ℕ) (end : ℕ) → at + sum ns ≡ end → get_or (starts_from at ns) 0 end ≡ at
unfolding starts_from
next_start at [] end sums = omega (arith, sums)
next_start at (n ∷ ns) end sums = refl

rising : (at : ℕ) (ns : List ℕ) (end : ℕ) → at + sum ns ≡ end → are_rising (starts_from at ns) end ≡ true
unfolding starts_from
rising at [] end sums = refl
rising at (n ∷ ns) end sums =
    let rest : at + n + sum ns ≡ end = omega (arith, sums, sum_by-cons (λ x. x) n ns) in
    let next : get_or (starts_from (at + n) ns) 0 end ≡ at + n = next_start (at + n) ns end rest in
    let below : nat_le at (at + n) ≡ true = grind (arith, nat_tests) in
    rw (next, below) (rising (at + n) ns end rest)

zeros : (at : ℕ) (ns : List ℕ) (end : ℕ) → at + sum ns ≡ end → pieces (replicate end 0) (starts_from at ns) end ≡ map (λ n. replicate n 0) ns
unfolding starts_from
zeros at [] end sums = refl
zeros at (n ∷ ns) end sums =
    let rest : at + n + sum ns ≡ end = omega (arith, sums, sum_by-cons (λ x. x) n ns) in
    let next : get_or (starts_from (at + n) ns) 0 end ≡ at + n = next_start (at + n) ns end rest in
    let here : slice_range (replicate end 0) at (at + n) ≡ replicate {A = ℕ} n 0 = piece at n end (omega (arith, rest)) in
    rw next (ap (λ v. v ∷ pieces (replicate end 0) (starts_from (at + n) ns) end) here ∙ ap (λ vs. replicate n 0 ∷ vs) (zeros (at + n) ns end rest))
  where
    piece : (at n end : ℕ) → at + n ≤ end → slice_range (replicate {A = ℕ} end 0) at (at + n) ≡ replicate n 0
    piece at n end fits =
        let size : at + n - at ≡ n = omega arith in
        rw (size, drop-replicate {X = ℕ} at end 0) (take-replicate {X = ℕ} n (end - at) 0 (omega (arith, fits)))

-- sections that start one after the other in zeros are all zero
pub made : (text : WholeText) (ns : List ℕ) (end : ℕ) → text.bytes.items ≡ replicate end 0 → text.starts.items ≡ starts_from 0 ns → sum ns ≡ end
    → content_of text ≡ map (λ n. replicate n 0) ns
unfolding content_of
made text ns end bytes starts sums =
    let all : 0 + sum ns ≡ end = omega (arith, sums) in
    let size : length text.bytes.items ≡ end = ap length bytes ∙ length-replicate {A = ℕ} end 0 in
    ap (λ ss. if are_rising ss (length text.bytes.items) then pieces text.bytes.items ss (length text.bytes.items) else []) starts
    ∙ (ap (λ m. if are_rising (starts_from 0 ns) m then pieces text.bytes.items (starts_from 0 ns) m else []) size
    ∙ (ap (λ b. if b then pieces text.bytes.items (starts_from 0 ns) end else []) (rising 0 ns end all)
    ∙ (ap (λ xs. pieces xs (starts_from 0 ns) end) bytes ∙ zeros 0 ns end all)))

-- one section more
pub starts_more : (starts new lengths : List ℕ) (all : List ℕ) (k end n : ℕ) → drop k lengths ≡ n ∷ drop (k + 1) lengths
    → starts ++ starts_from end (drop k lengths) ≡ all → new ≡ starts ++ end ∷ []
    → new ++ starts_from (end + n) (drop (k + 1) lengths) ≡ all
unfolding starts_from
starts_more starts new lengths all k end n next so_far pushed =
    ap (λ v. v ++ starts_from (end + n) (drop (k + 1) lengths)) pushed
    ∙ (append_assoc starts (end ∷ []) (starts_from (end + n) (drop (k + 1) lengths))
    ∙ (ap (λ ns. starts ++ starts_from end ns) (sym next) ∙ so_far))

-- no section is left
pub starts_whole : (starts lengths : List ℕ) (k end : ℕ) → length lengths ≤ k → starts ++ starts_from end (drop k lengths) ≡ starts_from 0 lengths
    → end + sum (drop k lengths) ≡ sum lengths → (starts ≡ starts_from 0 lengths) × (sum lengths ≡ end)
unfolding starts_from
starts_whole starts lengths k end past so_far sums =
    let none : drop k lengths ≡ [] = drop_all k lengths past in
    let last : sum (drop k lengths) ≡ 0 = ap sum none in (
      sym (ap (λ ns. starts ++ starts_from end ns) none ∙ append-nil starts) ∙ so_far,
      omega (arith, sums, last),
    )
