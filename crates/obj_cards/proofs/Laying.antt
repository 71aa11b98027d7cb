-- Bytes laid over blanks, and numbers read back from where they were laid.
use Rattle.std.proofs.Common.{◌≡◌, ℕ, ◌+◌, ◌-◌, ◌^◌, ◌<◌, Bool, true, false, cond, List, [], ◌∷◌, ◌++◌, length, take, drop, replicate, get_or, refl, sym, ap, ◌∙◌, append_assoc, zero-add, arith}
use Rattle.std.proofs.lemmas.List.{take_at, drop_at, drop-drop, drop-replicate, length-append, take-append-drop}
use Rattle.byteorder.specs.Endian.{big_number, big_bytes}
use Rattle.byteorder.specs.Numbers.{big_number-reads_back}
use Rattle.obj_cards.specs.Columns.{filled}

-- bytes over a list, from a place on
abbrev pub over : {X : Type 0} → ℕ → List X → List X → List X
over at bytes into = take at into ++ (bytes ++ drop (at + length bytes) into)

pub over_start : {X : Type 0} (v : X) (n : ℕ) (x : List X) → over 0 x (replicate n v) ≡ filled n v x
over_start v n x = rw (zero-add (length x), drop-replicate (length x) n v) refl

pub past_both : {X : Type 0} (x y r : List X) → drop (length x + length y) (x ++ r) ≡ drop (length y) r
past_both x y r = sym (drop-drop (length y) (length x) (x ++ r)) ∙ ap (drop (length y)) (drop_at x r (length x) refl)

pub over_two : {X : Type 0} (v : X) (n : ℕ) (x y : List X) → over (length x) y (over 0 x (replicate n v)) ≡ filled n v (x ++ y)
over_two v n x y =
    let r = replicate (n - length x) v in
    let rest : drop (length x + length y) (x ++ r) ≡ replicate (n - length (x ++ y)) v =
    past_both x y r ∙ drop-replicate (length y) (n - length x) v
    ∙ ap (λ k. replicate k v) (let e : n - length x - length y ≡ n - length (x ++ y) = omega (arith, length-append x y) in e) in
    let front : take (length x) (x ++ r) ≡ x = take_at x r (length x) refl in
    ap (over (length x) y) (over_start v n x)
    ∙ ap (λ t. t ++ (y ++ drop (length x + length y) (x ++ r))) front
    ∙ ap (λ t. x ++ (y ++ t)) rest
    ∙ sym (append_assoc x y (replicate (n - length (x ++ y)) v))

-- a list with its unused places taken off and put on again
pub filled_again : {X : Type 0} (v : X) (n k : ℕ) (xs : List X) → length (take k xs) ≡ k → drop k xs ≡ replicate (n - k) v → filled n v (take k xs) ≡ xs
filled_again v n k xs len unused =
    ap (λ m. take k xs ++ replicate (n - m) v) len ∙ ap (λ t. take k xs ++ t) (sym unused) ∙ take-append-drop k xs

pub unused_filled : {X : Type 0} (v : X) (n k : ℕ) (xs : List X) → length xs ≡ k → drop k (filled n v xs) ≡ replicate (n - k) v
unused_filled v n k xs len = drop_at xs (replicate (n - length xs) v) k len ∙ ap (λ m. replicate (n - m) v) len

pub chosen_true : {A : Type 0} (b : Bool) (x y : A) → b ≡ true → cond b x y ≡ x
chosen_true true x y e = refl
chosen_true false x y e = absurd cc

pub chosen_false : {A : Type 0} (b : Bool) (x y : A) → b ≡ false → cond b x y ≡ y
chosen_false true x y e = absurd cc
chosen_false false x y e = refl

pub two_back : (n : ℕ) (rest : List ℕ) → n < 2 ^ 16 → big_number 2 (big_bytes 2 n ++ rest) ≡ n
two_back n rest lt = big_number-reads_back 2 n rest lt

pub three_back : (n : ℕ) (rest : List ℕ) → n < 2 ^ 24 → big_number 3 (big_bytes 3 n ++ rest) ≡ n
three_back n rest lt = big_number-reads_back 3 n rest lt

pub four_back : (n : ℕ) (rest : List ℕ) → n < 2 ^ 32 → big_number 4 (big_bytes 4 n ++ rest) ≡ n
four_back n rest lt = big_number-reads_back 4 n rest lt

-- a list of eight, place by place
abbrev pub cells : List ℕ → List ℕ
cells xs = get_or xs 0 0 ∷ get_or xs 1 0 ∷ get_or xs 2 0 ∷ get_or xs 3 0 ∷ get_or xs 4 0 ∷ get_or xs 5 0 ∷ get_or xs 6 0 ∷ get_or xs 7 0 ∷ []

pub eight : (xs : List ℕ) → length xs ≡ 8 → cells xs ≡ xs
eight [] len = absurd (omega arith)
eight (a ∷ []) len = absurd (omega arith)
eight (a ∷ b ∷ []) len = absurd (omega arith)
eight (a ∷ b ∷ c ∷ []) len = absurd (omega arith)
eight (a ∷ b ∷ c ∷ d ∷ []) len = absurd (omega arith)
eight (a ∷ b ∷ c ∷ d ∷ e ∷ []) len = absurd (omega arith)
eight (a ∷ b ∷ c ∷ d ∷ e ∷ f ∷ []) len = absurd (omega arith)
eight (a ∷ b ∷ c ∷ d ∷ e ∷ f ∷ g ∷ []) len = absurd (omega arith)
eight (a ∷ b ∷ c ∷ d ∷ e ∷ f ∷ g ∷ h ∷ []) len = refl
eight (a ∷ b ∷ c ∷ d ∷ e ∷ f ∷ g ∷ h ∷ i ∷ more) len = absurd (omega arith)
