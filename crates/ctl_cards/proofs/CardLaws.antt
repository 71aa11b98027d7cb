-- Cards near the front, and how much of an operand a card has.
use Rattle.std.proofs.Common.{◌≡◌, ℕ, zero, suc, ◌+◌, ◌-◌, ◌*◌, ◌<◌, ◌≤◌, min, Bool, true, false, cond, List, [], ◌∷◌, ◌++◌, length, get_or, take, drop, refl, sym, ap, subst, ◌∙◌, arith, append_assoc, inl, inr}
use Rattle.std.specs.Prelude.{slice_range}
use Rattle.std.specs.List.{prefix_len, flat_map}
use Rattle.std.proofs.lemmas.Bool.{cases_Bool}
use Rattle.std.proofs.Math.Seq.{take-length}
use Rattle.std.proofs.lemmas.List.Sums.{prefix_len-le-length}
use Rattle.std.proofs.lemmas.List.{length-take, length-drop, length-append, take_more, append-nil}
use Rattle.std.proofs.lemmas.Grind.{flat_map-append}
use Rattle.ctl_cards.specs.Cards.{run, past_blanks, after_run, is_filled, is_blank, operand_on, continuation_on, is_continued, has_margin, continued_count, first_unfit, IsWhole, joined_operand, operation_on, operation_of_cards}

pub prefix_near : {X : Type 0} (p : X → Bool) (n : ℕ) (xs : List X) → prefix_len p (take n xs) ≡ min n (prefix_len p xs)
prefix_near p zero xs = omega arith
prefix_near p (suc n) [] = omega arith
prefix_near p (suc n) (x ∷ xs) = elim (cases_Bool (p x)) [
  | inl t ↦ rw t (let m = prefix_near p n xs in omega arith)
  | inr t ↦ rw t (omega arith)
]

unfit_near_at : (m : ℕ) (cards : List (List ℕ)) → 0 < length cards → 1 + prefix_len has_margin (drop 1 (take (suc m) cards)) ≡ min (suc m) (first_unfit cards)
unfit_near_at m [] h = absurd (omega arith)
unfit_near_at m (card ∷ more) h = let e = prefix_near has_margin m more in omega arith

pub unfit_near : (cards : List (List ℕ)) → 0 < length cards → 1 + prefix_len has_margin (drop 1 (take 32 cards)) ≡ min 32 (first_unfit cards)
unfit_near cards h = unfit_near_at 31 cards h

pub run_short : (text : List ℕ) → length (run text) ≤ length text
run_short text = omega (arith, length-take (prefix_len is_filled text) text)

pub operand_short : (card : List ℕ) → length (operand_on card) ≤ 70
operand_short card =
    let fields = slice_range card 1 71 in
    let rest = after_run (past_blanks fields) in
    omega (arith, run_short (past_blanks rest), length-drop (prefix_len is_blank rest) rest, length-drop (prefix_len is_filled (past_blanks fields)) (past_blanks fields), length-drop (prefix_len is_blank fields) fields, length-take (71 - 1) (drop 1 card))

pub continuation_short : (card : List ℕ) → length (continuation_on card) ≤ 56
continuation_short card = omega (arith, run_short (slice_range card 15 71), length-take (71 - 15) (drop 15 card))

pub record TextSoFar (first : List ℕ) (more : List (List ℕ)) (text : List ℕ) (i : ℕ) : Type 0 where
  pub operand : text ≡ operand_on first ++ flat_map continuation_on (take i more)
  pub short : length text ≤ 70 + 56 * i

pub text_begins : (first : List ℕ) (more : List (List ℕ)) → TextSoFar first more (operand_on first) 0
text_begins first more = record { operand = sym (append-nil (operand_on first)); short = let h = operand_short first in omega arith }

pub text_more : (first : List ℕ) (more : List (List ℕ)) (text : List ℕ) (i : ℕ) (card : List ℕ) → TextSoFar first more text i → i < length more → card ≡ get_or more i card → TextSoFar first more (text ++ continuation_on card) (i + 1)
text_more first more text i card s lt at =
    let cut : take (i + 1) more ≡ take i more ++ (card ∷ []) = take_more more i card lt ∙ ap (λ (c : List ℕ). take i more ++ (c ∷ [])) (sym at) in
    let one : flat_map continuation_on (take (i + 1) more) ≡ flat_map continuation_on (take i more) ++ (continuation_on card ++ []) = ap (flat_map continuation_on) cut ∙ flat_map-append continuation_on (take i more) (card ∷ []) in
    record {
      operand = ap (λ (t : List ℕ). t ++ continuation_on card) s.operand ∙ append_assoc (operand_on first) (flat_map continuation_on (take i more)) (continuation_on card) ∙ ap (λ (t : List ℕ). operand_on first ++ t) (sym (one ∙ ap (λ (t : List ℕ). flat_map continuation_on (take i more) ++ t) (append-nil (continuation_on card))));
      short = let h = s.short in let c = continuation_short card in omega (arith, length-append text (continuation_on card));
    }

all_after_first : (near : List (List ℕ)) → take (length near - 1) (drop 1 near) ≡ drop 1 near
all_after_first [] = refl
all_after_first (card ∷ more) = let e : length (card ∷ more) - 1 ≡ length more = omega arith in rw e (take-length more)

-- what the two counts among the first cards say of all
pub record Counted (cards : List (List ℕ)) (continued fit : ℕ) : Type 0 where
  pub continued_is : continued ≡ min 32 (continued_count cards)
  pub fit_is : 1 + fit ≡ min 32 (first_unfit cards)

pub counted : (cards near : List (List ℕ)) (x y : ℕ) → 0 < length cards → near ≡ take 32 cards → x ≡ prefix_len is_continued near → y ≡ prefix_len has_margin (take (length near - 1) (drop 1 near)) → Counted cards x y
counted cards near x y h e a b = record {
  continued_is = a ∙ ap (λ (t : List (List ℕ)). prefix_len is_continued t) e ∙ prefix_near is_continued 32 cards;
  fit_is = ap (λ (n : ℕ). 1 + n) (b ∙ ap (λ (t : List (List ℕ)). prefix_len has_margin t) (all_after_first near ∙ ap (λ (t : List (List ℕ)). drop 1 t) e)) ∙ unfit_near cards h;
}

-- ---- the cards that a statement takes

unfit_short : (cards : List (List ℕ)) → first_unfit cards ≤ length cards
unfit_short [] = omega arith
unfit_short (card ∷ more) = omega (arith, prefix_len-le-length has_margin more)

pub whole_short : (cards : List (List ℕ)) (n : ℕ) → IsWhole cards × (n ≡ continued_count cards + 1) → n ≤ length cards
whole_short cards n h = let lt = h.0.0 in let e = h.1 in omega (arith, unfit_short cards)

pub few_cards : (cards : List (List ℕ)) (n : ℕ) → IsWhole cards × (n ≡ continued_count cards + 1) → length (take (n - 1) (drop 1 cards)) ≤ 31
few_cards cards n h = let lt = h.0.1 in let e = h.1 in omega (arith, length-take (n - 1) (drop 1 cards))

pub whole_operand : (cards : List (List ℕ)) (n : ℕ) → 0 < length cards → n ≡ continued_count cards + 1 → operand_on (get_or cards 0 []) ++ flat_map continuation_on (take (n - 1) (drop 1 cards)) ≡ joined_operand cards
whole_operand [] n h e = absurd (omega arith)
whole_operand (card ∷ more) n h e = let k : n - 1 ≡ continued_count (card ∷ more) = omega arith in ap (λ (m : ℕ). operand_on card ++ flat_map continuation_on (take m more)) k

pub whole_operation : (cards : List (List ℕ)) → 0 < length cards → operation_on (get_or cards 0 []) ≡ operation_of_cards cards
whole_operation [] h = absurd (omega arith)
whole_operation (card ∷ more) h = refl

pub same_card : (cards : List (List ℕ)) (i : ℕ) → i < length cards → get_or cards i [] ≡ get_or cards i (get_or cards i [])
same_card [] i h = absurd (omega arith)
same_card (card ∷ more) zero h = refl
same_card (card ∷ more) (suc i) h = same_card more i (omega arith)
