-- Items of one size that were written one after the other are read again.
use Rattle.std.proofs.Common.{◌≡◌, ℕ, zero, suc, ◌+◌, ◌*◌, ◌/◌, ◌%◌, ◌<◌, ◌≤◌, ◌^◌, Bool, true, false, ◌||◌, List, [], ◌∷◌, ◌++◌, map, length, take, drop, refl, sym, ap, ◌∙◌, arith}
use Rattle.std.proofs.Math.Nat.{mul-div_cancel_left, mul-mod_right}
use Rattle.std.proofs.lemmas.Bool.{or_from}
use Rattle.std.proofs.lemmas.List.{append_assoc, length-append, drop_at, take_at}
use Rattle.std.specs.List.{AllByRecursion, range_with_len, list_any}
use Rattle.load_recs.specs.Items.{item_at, values_of}
use Rattle.member_model.specs.Cuts.{together}

-- the bytes of items, one after the other
abbrev pub bytes_of : {X : Type 0} → (X → List ℕ) → List X → List ℕ
bytes_of bytes xs = together (map bytes xs)

more : (n k : ℕ) → n * suc k ≡ n * k + n
more n k = grind arith

one_more : (n k : ℕ) → n * (k + 1) ≡ n * k + n
one_more n k = grind arith

none : (n : ℕ) → n * 0 ≡ 0
none n = grind arith

total : (a b n k l : ℕ) → a ≡ n → b ≡ n * k → l ≡ n * k + n → a + b ≡ l
total a b n k l p q r = omega arith

pub length-bytes : {X : Type 0} (bytes : X → List ℕ) (n : ℕ) (xs : List X) → AllByRecursion (λ x. length (bytes x) ≡ n) xs → length (bytes_of bytes xs) ≡ n * length xs
length-bytes bytes n [] all = sym (none n)
length-bytes bytes n (x ∷ xs) all =
    length-append (bytes x) (bytes_of bytes xs)
    ∙ total (length (bytes x)) (length (bytes_of bytes xs)) n (length xs) (n * suc (length xs)) all.0 (length-bytes bytes n xs all.1) (more n (length xs))

-- item i, after n * i bytes
item-here : (n i : ℕ) (before item rest : List ℕ) → length before ≡ n * i → length item ≡ n → item_at n i (before ++ (item ++ rest)) ≡ item
item-here n i before item rest at whole = ap (λ l. take n l) (drop_at before (item ++ rest) (n * i) at) ∙ take_at item rest n whole

values-run : {X : Type 0} (value : List ℕ → X) (bytes : X → List ℕ) (n i : ℕ) (before : List ℕ) (xs : List X) → length before ≡ n * i
    → AllByRecursion (λ x. length (bytes x) ≡ n) xs → AllByRecursion (λ x. value (bytes x) ≡ x) xs
    → map (λ k. value (item_at n k (before ++ bytes_of bytes xs))) (range_with_len i (length xs)) ≡ xs
values-run value bytes n i before [] at whole again = refl
values-run {X} value bytes n i before (x ∷ xs) at whole again =
    let here : value (item_at n i (before ++ (bytes x ++ bytes_of bytes xs))) ≡ x = ap value (item-here n i before (bytes x) (bytes_of bytes xs) at whole.0) ∙ again.0 in
    let behind : length (before ++ bytes x) ≡ n * (i + 1) = length-append before (bytes x) ∙ total' (length before) (length (bytes x)) n i (n * (i + 1)) at whole.0 (one_more n i) in
    let rest : map (λ k. value (item_at n k (before ++ (bytes x ++ bytes_of bytes xs)))) (range_with_len (i + 1) (length xs)) ≡ xs =
    ap (λ l. map (λ k. value (item_at n k l)) (range_with_len (i + 1) (length xs))) (sym (append_assoc before (bytes x) (bytes_of bytes xs)))
    ∙ values-run value bytes n (i + 1) (before ++ bytes x) xs behind whole.1 again.1 in
    ap (λ y. y ∷ map (λ k. value (item_at n k (before ++ (bytes x ++ bytes_of bytes xs)))) (range_with_len (i + 1) (length xs))) here ∙ ap (λ l. x ∷ l) rest
  where
    total' : (a b n k l : ℕ) → a ≡ n * k → b ≡ n → l ≡ n * k + n → a + b ≡ l
    total' a b n k l p q r = omega arith

-- how many items these bytes have
pub count-bytes : {X : Type 0} (bytes : X → List ℕ) (n : ℕ) (xs : List X) → 0 < n → AllByRecursion (λ x. length (bytes x) ≡ n) xs → length (bytes_of bytes xs) / n ≡ length xs
count-bytes bytes n xs some whole = ap (λ k. k / n) (length-bytes bytes n xs whole) ∙ mul-div_cancel_left (length xs) some

pub whole-bytes : {X : Type 0} (bytes : X → List ℕ) (n : ℕ) (xs : List X) → AllByRecursion (λ x. length (bytes x) ≡ n) xs → length (bytes_of bytes xs) % n ≡ 0
whole-bytes bytes n xs whole = ap (λ k. k % n) (length-bytes bytes n xs whole) ∙ mul-mod_right n (length xs)

pub values-again : {X : Type 0} (value : List ℕ → X) (bytes : X → List ℕ) (n : ℕ) (xs : List X) → 0 < n
    → AllByRecursion (λ x. length (bytes x) ≡ n) xs → AllByRecursion (λ x. value (bytes x) ≡ x) xs → values_of value n (bytes_of bytes xs) ≡ xs
unfolding values_of
values-again value bytes n xs some whole again =
    ap (λ c. map (λ k. value (item_at n k (bytes_of bytes xs))) (range_with_len 0 c)) (count-bytes bytes n xs some whole)
    ∙ values-run value bytes n 0 [] xs (sym (none n)) whole again

any-run : {X : Type 0} (wrong : List ℕ → Bool) (bytes : X → List ℕ) (n i : ℕ) (before : List ℕ) (xs : List X) → length before ≡ n * i
    → AllByRecursion (λ x. length (bytes x) ≡ n) xs → AllByRecursion (λ x. wrong (bytes x) ≡ false) xs
    → list_any (λ k. wrong (item_at n k (before ++ bytes_of bytes xs))) (range_with_len i (length xs)) ≡ false
any-run wrong bytes n i before [] at whole fine = refl
any-run wrong bytes n i before (x ∷ xs) at whole fine =
    let here : wrong (item_at n i (before ++ (bytes x ++ bytes_of bytes xs))) ≡ false = ap wrong (item-here n i before (bytes x) (bytes_of bytes xs) at whole.0) ∙ fine.0 in
    let behind : length (before ++ bytes x) ≡ n * (i + 1) = length-append before (bytes x) ∙ total' (length before) (length (bytes x)) n i (n * (i + 1)) at whole.0 (one_more n i) in
    let rest : list_any (λ k. wrong (item_at n k (before ++ (bytes x ++ bytes_of bytes xs)))) (range_with_len (i + 1) (length xs)) ≡ false =
    ap (λ l. list_any (λ k. wrong (item_at n k l)) (range_with_len (i + 1) (length xs))) (sym (append_assoc before (bytes x) (bytes_of bytes xs)))
    ∙ any-run wrong bytes n (i + 1) (before ++ bytes x) xs behind whole.1 fine.1 in
    or_from _ _ here rest
  where
    total' : (a b n k l : ℕ) → a ≡ n * k → b ≡ n → l ≡ n * k + n → a + b ≡ l
    total' a b n k l p q r = omega arith

-- none of the items is wrong where none of those written is
pub none-wrong : {X : Type 0} (wrong : List ℕ → Bool) (bytes : X → List ℕ) (n : ℕ) (xs : List X) → 0 < n
    → AllByRecursion (λ x. length (bytes x) ≡ n) xs → AllByRecursion (λ x. wrong (bytes x) ≡ false) xs
    → list_any (λ k. wrong (item_at n k (bytes_of bytes xs))) (range_with_len 0 (length (bytes_of bytes xs) / n)) ≡ false
none-wrong wrong bytes n xs some whole fine =
    ap (λ c. list_any (λ k. wrong (item_at n k (bytes_of bytes xs))) (range_with_len 0 c)) (count-bytes bytes n xs some whole)
    ∙ any-run wrong bytes n 0 [] xs (sym (none n)) whole fine
