-- Lists cut into parts, one part after the other.
use Rattle.std.proofs.Common.{◌≡◌, ℕ, zero, suc, ◌+◌, ◌-◌, ◌*◌, ◌/◌, ◌%◌, ◌<◌, ◌≤◌, List, [], ◌∷◌, ◌++◌, map, length, take, drop, refl, sym, ap, ◌∙◌, arith}
use Rattle.std.proofs.Math.Nat.{mod-add-div, mod-lt}
use Rattle.std.proofs.lemmas.List.{drop-drop, length-drop, length-take}
use Rattle.std.specs.List.{range_with_len}
use Rattle.member_model.specs.Cuts.{cuts, cut_at}

-- so many parts of n items
abbrev pub cuts_in : {A : Type 0} → ℕ → ℕ → List A → List (List A)
cuts_in n zero xs = []
cuts_in n (suc c) xs = take n xs ∷ cuts_in n c (drop n xs)

-- how many parts a list of this length has
abbrev pub parts_of : ℕ → ℕ → ℕ
parts_of n len = (len + (n - 1)) / n

one_more : (n k : ℕ) → n * (k + 1) ≡ n * k + n
one_more n k = grind arith

no_more : (n : ℕ) → n * 0 ≡ 0
no_more n = grind arith

cuts-run : {A : Type 0} (n : ℕ) (xs : List A) (i c : ℕ) → map (cut_at n xs) (range_with_len i c) ≡ cuts_in n c (drop (n * i) xs)
cuts-run n xs i zero = refl
cuts-run n xs i (suc c) =
    let same : drop (n * (i + 1)) xs ≡ drop n (drop (n * i) xs) = ap (λ k. drop k xs) (one_more n i) ∙ sym (drop-drop n (n * i) xs) in
    ap (λ l. take n (drop (n * i) xs) ∷ l) (cuts-run n xs (i + 1) c ∙ ap (λ l. cuts_in n c l) same)

pub cuts-are : {A : Type 0} (n : ℕ) (xs : List A) → cuts n xs ≡ cuts_in n (parts_of n (length xs)) xs
cuts-are n xs = cuts-run n xs 0 (parts_of n (length xs)) ∙ ap (λ k. cuts_in n (parts_of n (length xs)) (drop k xs)) (no_more n)

-- c parts of n items hold a list of this length, and one less would not
pub record Fits (n c len : ℕ) : Type 0 where
  pub most : len ≤ n * c
  pub needed : n * c < len + n

fits_by : (n c len left : ℕ) → left + n * c ≡ len + (n - 1) → left < n → Fits n c len
fits_by n c len left sum below = record { most = omega arith; needed = omega arith }

pub parts-fit : (n len : ℕ) → 1 ≤ n → Fits n (parts_of n len) len
parts-fit n len some = fits_by n (parts_of n len) len ((len + (n - 1)) % n) (mod-add-div (len + (n - 1)) n) (mod-lt (len + (n - 1)) some)

more : (n c : ℕ) → n * suc c ≡ n * c + n
more n c = grind arith

pub rest-fits : (n c len : ℕ) → Fits n (suc c) len → Fits n c (len - n)
rest-fits n c len fits =
    let e : n * suc c ≡ n * c + n = more n c in
    let most : len ≤ n * suc c = fits.most in
    let needed : n * suc c < len + n = fits.needed in
    record { most = omega arith; needed = omega arith }

-- a first part is not empty, and full where another follows
pub first-some : (n c len : ℕ) → Fits n (suc c) len → 1 ≤ len
first-some n c len fits =
    let e : n * suc c ≡ n * c + n = more n c in
    let needed : n * suc c < len + n = fits.needed in
    omega arith

pub first-full : (n c len : ℕ) → Fits n (suc (suc c)) len → n < len
first-full n c len fits =
    let e : n * suc (suc c) ≡ n * suc c + n = more n (suc c) in
    let f : n * suc c ≡ n * c + n = more n c in
    let needed : n * suc (suc c) < len + n = fits.needed in
    omega arith

pub none-fit : (n len : ℕ) → Fits n zero len → len ≡ 0
none-fit n len fits = let e : n * 0 ≡ 0 = no_more n in let most : len ≤ n * 0 = fits.most in omega arith

pub last-fits : (n len : ℕ) → Fits n 1 len → len ≤ n
last-fits n len fits =
    let e : n * 1 ≡ n * 0 + n = more n 0 in
    let f : n * 0 ≡ 0 = no_more n in
    let most : len ≤ n * 1 = fits.most in
    omega arith
