-- Numbers added to fields one after the other are found at each byte: two fields are one, or share no byte.
use Rattle.std.proofs.Common.{arith, ◌≡◌, ℕ, zero, suc, ◌+◌, ◌-◌, ◌*◌, ◌/◌, ◌%◌, ◌^◌, ◌<◌, ◌≤◌, Bool, true, false, if◌then◌else◌, List, [], ◌∷◌, length, map, fold, filter, sum_by, get_or, slice_index, refl, sym, ◌∙◌, ap, subst, Option, Some, None, add_assoc}
use Rattle.std.specs.List.{range_with_len, find}
use Rattle.std.specs.Int.{bytes_high_first, byte_at}
use Rattle.std.proofs.Math.Nat.{mod-add-mod, mod-lt, mod-add-div}
use Rattle.std.proofs.lemmas.Nat.{mod-mul-add}
use Rattle.std.proofs.lemmas.List.{ext_get_or}
use Rattle.std.proofs.lemmas.List.Sums.{sum_by-cons}
use Rattle.std.proofs.lemmas.List.FromFn.{get_or-map-range_with_len, length-map-range_with_len}
use Rattle.byteorder.specs.Endian.{big_number, big_bytes, big_from}
use Rattle.linking_model.specs.Numbers.{is_among}
use Rattle.linking_model.specs.Run.{Storage, with_piece, list_piece}

-- ---- bytes of a number

pub length_big : (k v : ℕ) → length (big_bytes k v) ≡ k
length_big zero v = refl
length_big (suc k) v = ap suc (length_big k v)

shifted_from : (i k b : ℕ) (bs : List ℕ) → big_from (suc i) k (b ∷ bs) ≡ big_from i k bs
shifted_from i zero b bs = refl
shifted_from i (suc k) b bs = ap (λ n. get_or bs i 0 * 256 ^ k + n) (shifted_from (suc i) k b bs)

byte_is : (k v : ℕ) → byte_at k v ≡ v / 256 ^ k % 256
byte_is zero v = grind arith
byte_is (suc k) v = refl

power_some : (k : ℕ) → 0 < 256 ^ k
power_some zero = omega arith
power_some (suc k) = let rest = power_some k in grind arith

digits : (m low digit high : ℕ) → high * (256 * m) + (digit * m + low) ≡ low + m * (digit + 256 * high)
digits m low digit high = grind arith

one_digit : (m v : ℕ) → 0 < m → v / m % 256 * m + v % m ≡ v % (256 * m)
one_digit m v some =
    let low : v % m < m = mod-lt v some in
    let digit : v / m % 256 < 256 = omega arith in
    let whole : v % m + m * (v / m) ≡ v = mod-add-div v m in
    let high : v / m % 256 + 256 * (v / m / 256) ≡ v / m = mod-add-div (v / m) 256 in
    let small : v / m % 256 * m + v % m < 256 * m = grind (arith, low, digit) in
    let parts : v / m / 256 * (256 * m) + (v / m % 256 * m + v % m) ≡ v =
    digits m (v % m) (v / m % 256) (v / m / 256) ∙ (ap (λ q. v % m + m * q) high ∙ whole) in
    sym (ap (λ n. n % (256 * m)) (sym parts) ∙ mod-mul-add (v / m / 256) (256 * m) (v / m % 256 * m + v % m) small)

-- the number in the bytes of a number
pub number_back : (k v : ℕ) → big_number k (big_bytes k v) ≡ v % 256 ^ k
number_back zero v = grind arith
number_back (suc k) v =
    ap (λ n. byte_at k v * 256 ^ k + n) (shifted_from 0 k (byte_at k v) (bytes_high_first k v) ∙ number_back k v)
    ∙ (ap (λ b. b * 256 ^ k + v % 256 ^ k) (byte_is k v)
    ∙ (one_digit (256 ^ k) v (power_some k) ∙ ap (λ n. v % n) (power_more k)))
  where
    power_more : (k : ℕ) → 256 * 256 ^ k ≡ 256 ^ suc k
    power_more k = grind arith

-- ---- storage

-- the same numbers from a function that is the same there
pub same_map : (f g : ℕ → ℕ) (a n : ℕ) → ((b : ℕ) → a ≤ b → b < a + n → f b ≡ g b) → map f (range_with_len a n) ≡ map g (range_with_len a n)
same_map f g a n same =
    ext_get_or 0 (map f (range_with_len a n)) (map g (range_with_len a n)) (length-map-range_with_len f a n ∙ sym (length-map-range_with_len g a n))
    (λ i within. let below : i < n = subst (λ m. i < m) (length-map-range_with_len f a n) within in
    get_or-map-range_with_len f a n i (a + i) 0 below refl
    ∙ (same (a + i) (omega arith) (omega (arith, below)) ∙ sym (get_or-map-range_with_len g a n i (a + i) 0 below refl)))

-- what a piece wrote
pub read_piece : (M : Storage) (at : ℕ) (bytes : List ℕ) → map (with_piece M (list_piece at bytes)) (range_with_len at (length bytes)) ≡ bytes
read_piece M at bytes =
    ext_get_or 0 (map (with_piece M (list_piece at bytes)) (range_with_len at (length bytes))) bytes (length-map-range_with_len (with_piece M (list_piece at bytes)) at (length bytes))
    (λ i within. let below : i < length bytes = subst (λ m. i < m) (length-map-range_with_len (with_piece M (list_piece at bytes)) at (length bytes)) within in
    get_or-map-range_with_len (with_piece M (list_piece at bytes)) at (length bytes) i (at + i) 0 below refl
    ∙ in_piece M at i bytes below)
  where
    in_piece : (M : Storage) (at i : ℕ) (bytes : List ℕ) → i < length bytes → with_piece M (list_piece at bytes) (at + i) ≡ get_or bytes i 0
    in_piece M at i bytes below =
        let among : is_among at (length bytes) (at + i) ≡ true = grind (arith, below) in
        let place : (at + i) - at ≡ i = omega arith in
        rw (among, place) refl

pub inside_piece : (M : Storage) (at a : ℕ) (bytes : List ℕ) → is_among at (length bytes) a ≡ true → with_piece M (list_piece at bytes) a ≡ slice_index bytes (a - at)
inside_piece M at a bytes inside = rw inside refl

pub outside_piece : (M : Storage) (at a : ℕ) (bytes : List ℕ) → is_among at (length bytes) a ≡ false → with_piece M (list_piece at bytes) a ≡ M a
outside_piece M at a bytes outside = rw outside refl

-- ---- fields: where each stands, its size, what it adds modulo a number, and which stand at one place

module _ {X : Type 0} (place size : X → ℕ) (adds : ℕ → X → ℕ) (same : X → X → Bool) where
  -- the field has a byte at address a
  abbrev pub has_byte : ℕ → X → Bool
  has_byte a x = is_among (place x) (size x) a

  -- the number that stands in the field
  abbrev pub number_in : Storage → X → ℕ
  number_in M x = big_number (size x) (map M (range_with_len (place x) (size x)))

  -- the bytes of the field, with what the items add whose field it is
  abbrev pub bytes_with : List X → Storage → X → List ℕ
  bytes_with xs M x =
      big_bytes (size x) ((number_in M x + sum_by (adds (256 ^ size x)) (filter (same x) xs)) % 256 ^ size x)

  -- the byte at address a, in the field of this item or in none
  abbrev pub byte_with : List X → Storage → ℕ → Option X → ℕ
  byte_with xs M a None = M a
  byte_with xs M a (Some x) = slice_index (bytes_with xs M x) (a - place x)

  -- one item is added
  abbrev pub with_one : Storage → X → Storage
  with_one M x =
      with_piece M (list_piece (place x) (big_bytes (size x) ((number_in M x + adds (256 ^ size x) x) % 256 ^ size x)))

  -- two fields are one, or share no byte
  pub record Fit (x y : X) : Type 0 where
    pub at_one : same x y ≡ true → place y ≡ place x
    pub alike : same x y ≡ true → size y ≡ size x
    pub apart : same x y ≡ false → (a : ℕ) → has_byte a x ≡ true → has_byte a y ≡ false

  -- all that come after x fit it
  abbrev pub AllFit : X → List X → Type 0
  AllFit x [] = Unit {0}
  AllFit x (y ∷ ys) = Fit x y × AllFit x ys

  -- each and all that come after it
  abbrev pub FitTogether : List X → Type 0
  FitTogether [] = Unit {0}
  FitTogether (x ∷ xs) = AllFit x xs × FitTogether xs

  -- standing at one place is an equivalence
  pub record IsOnePlace : Type 0 where
    pub self : (x : X) → same x x ≡ true
    pub both : (x y : X) → same x y ≡ same y x
    pub all : (x y z : X) → same x y ≡ true → same y z ≡ same x z

  -- ---- after one item

  new_number : Storage → X → ℕ
  new_number M x = (number_in M x + adds (256 ^ size x) x) % 256 ^ size x

  byte_inside : (M : Storage) (x : X) (a : ℕ) → has_byte a x ≡ true
      → with_one M x a ≡ slice_index (big_bytes (size x) ((number_in M x + adds (256 ^ size x) x) % 256 ^ size x)) (a - place x)
  byte_inside M x a inside =
      inside_piece M (place x) a (big_bytes (size x) ((number_in M x + adds (256 ^ size x) x) % 256 ^ size x))
      (rw (length_big (size x) ((number_in M x + adds (256 ^ size x) x) % 256 ^ size x)) inside)

  byte_outside : (M : Storage) (x : X) (a : ℕ) → has_byte a x ≡ false → with_one M x a ≡ M a
  byte_outside M x a outside =
      outside_piece M (place x) a (big_bytes (size x) ((number_in M x + adds (256 ^ size x) x) % 256 ^ size x))
      (rw (length_big (size x) ((number_in M x + adds (256 ^ size x) x) % 256 ^ size x)) outside)

  mod_twice : (n m : ℕ) → n % m % m ≡ n % m
  mod_twice n m = by_zero (n % m) n (mod-add-mod n m 0)
    where
      by_zero : (k n : ℕ) → (k + 0) % m ≡ (n + 0) % m → k % m ≡ n % m
      by_zero k n h = ap (λ j. j % m) (plain k) ∙ (h ∙ ap (λ j. j % m) (sym (plain n)))
        where
          plain : (j : ℕ) → j ≡ j + 0
          plain j = omega arith

  number_after : (M : Storage) (x : X) → number_in (with_one M x) x ≡ (number_in M x + adds (256 ^ size x) x) % 256 ^ size x
  number_after M x =
      let v : ℕ = (number_in M x + adds (256 ^ size x) x) % 256 ^ size x in
      let back : map (with_one M x) (range_with_len (place x) (size x)) ≡ big_bytes (size x) v =
      subst (λ n. map (with_one M x) (range_with_len (place x) n) ≡ big_bytes (size x) v) (length_big (size x) v) (read_piece M (place x) (big_bytes (size x) v)) in
      ap (big_number (size x)) back ∙ (number_back (size x) v ∙ mod_twice (number_in M x + adds (256 ^ size x) x) (256 ^ size x))

  not_there : (M : Storage) (x y : X) (b : ℕ) → Fit x y → same x y ≡ false → place y ≤ b → b < place y + size y → has_byte b x ≡ false
  not_there M x y b fit other low high = by_cases (has_byte b x) refl there
    where
      there : has_byte b y ≡ true
      there = grind (arith, low, high)

      by_cases : (t : Bool) → has_byte b x ≡ t → has_byte b y ≡ true → has_byte b x ≡ false
      by_cases false outside here = outside
      by_cases true inside here = let gone : has_byte b y ≡ false = fit.apart other b inside in cc

  number_other : (M : Storage) (x y : X) → Fit x y → same x y ≡ false → number_in (with_one M x) y ≡ number_in M y
  number_other M x y fit other =
      ap (big_number (size y)) (same_map (with_one M x) M (place y) (size y)
      (λ b low high. byte_outside M x b (not_there M x y b fit other low high)))

  -- ---- which items come after it

  same_items : IsOnePlace → (x y : X) (xs : List X) → same x y ≡ true → filter (same y) xs ≡ filter (same x) xs
  same_items one x y [] alike = refl
  same_items one x y (z ∷ xs) alike = rw (one.all x y z alike, same_items one x y xs alike) refl

  covered_too : (x y : X) (a : ℕ) → Fit x y → same x y ≡ true → has_byte a y ≡ has_byte a x
  covered_too x y a fit alike = rw (fit.at_one alike, fit.alike alike) refl

  found_fits : (x y : X) (a : ℕ) (xs : List X) → AllFit x xs → find (has_byte a) xs ≡ Some y → Fit x y × (has_byte a y ≡ true)
  found_fits x y a [] fit found = absurd cc
  found_fits x y a (z ∷ xs) fit found = by_cases (has_byte a z) refl (λ later. found_fits x y a xs fit.1 later)
    where
      by_cases : (t : Bool) → has_byte a z ≡ t → (find (has_byte a) xs ≡ Some y → Fit x y × (has_byte a y ≡ true)) → Fit x y × (has_byte a y ≡ true)
      by_cases true inside rest =
          let is : z ≡ y = (let front : Some z ≡ Some y = rw inside at found in cc) in
          (subst (λ v. Fit x v) is fit.0, subst (λ v. has_byte a v ≡ true) is inside)
      by_cases false outside rest = rest (rw outside at found)

  none_alike : (x : X) (a : ℕ) (xs : List X) → AllFit x xs → has_byte a x ≡ true → find (has_byte a) xs ≡ None → filter (same x) xs ≡ []
  none_alike x a [] fit inside none = refl
  none_alike x a (z ∷ xs) fit inside none = by_cases (has_byte a z) refl (same x z) refl (λ later. none_alike x a xs fit.1 inside later)
    where
      by_cases : (t : Bool) → has_byte a z ≡ t → (s : Bool) → same x z ≡ s → (find (has_byte a) xs ≡ None → filter (same x) xs ≡ [])
          → filter (same x) (z ∷ xs) ≡ []
      by_cases true there s is rest = let found : Some z ≡ None = rw there at none in absurd cc
      by_cases false gone true is rest = let there : has_byte a z ≡ has_byte a x = covered_too x z a fit.0 is in absurd cc
      by_cases false gone false is rest = rw is (rest (rw gone at none))

  -- ---- one more in front

  sum_first : (m : ℕ) (x : X) (xs : List X) → same x x ≡ true → sum_by (adds m) (filter (same x) (x ∷ xs)) ≡ adds m x + sum_by (adds m) (filter (same x) xs)
  sum_first m x xs self = rw self (sum_by-cons (adds m) x (filter (same x) xs))

  -- the field of x, with what comes after it
  alike_bytes : IsOnePlace → (M : Storage) (x y : X) (xs : List X) → Fit x y → same x y ≡ true
      → bytes_with xs (with_one M x) y ≡ bytes_with (x ∷ xs) M x
  alike_bytes one M x y xs fit is =
      let n : ℕ = number_in M x in
      let m : ℕ = 256 ^ size x in
      let rest : ℕ = sum_by (adds m) (filter (same x) xs) in
      let number : number_in (with_one M x) y ≡ (n + adds m x) % m =
      ap2 (λ p k. big_number k (map (with_one M x) (range_with_len p k))) (place y) (place x) (size y) (size x) (fit.at_one is) (fit.alike is) ∙ number_after M x in
      let sum : sum_by (adds (256 ^ size y)) (filter (same y) xs) ≡ rest = rw (fit.alike is, same_items one x y xs is) refl in
      let total : ((n + adds m x) % m + rest) % m ≡ (n + sum_by (adds m) (filter (same x) (x ∷ xs))) % m =
      mod-add-mod (n + adds m x) m rest
      ∙ ap (λ k. k % m) (add_assoc n (adds m x) rest ∙ ap (λ k. n + k) (sym (sum_first m x xs (one.self x)))) in
      rw (number, sum, fit.alike is) (ap (big_bytes (size x)) total)
    where
      ap2 : (f : ℕ → ℕ → ℕ) (p q k l : ℕ) → p ≡ q → k ≡ l → f p k ≡ f q l
      ap2 f p q k l same_p same_k = ap (λ v. f v k) same_p ∙ ap (f q) same_k

  last_bytes : IsOnePlace → (M : Storage) (x : X) (xs : List X) → filter (same x) xs ≡ []
      → big_bytes (size x) ((number_in M x + adds (256 ^ size x) x) % 256 ^ size x) ≡ bytes_with (x ∷ xs) M x
  last_bytes one M x xs none =
      let sum : sum_by (adds (256 ^ size x)) (filter (same x) (x ∷ xs)) ≡ adds (256 ^ size x) x =
      sum_first (256 ^ size x) x xs (one.self x) ∙ rw none (plain (adds (256 ^ size x) x)) in
      rw sum refl
    where
      plain : (n : ℕ) → n + 0 ≡ n
      plain n = omega arith

  other_bytes : IsOnePlace → (M : Storage) (x y : X) (xs : List X) → Fit x y → same x y ≡ false
      → bytes_with xs (with_one M x) y ≡ bytes_with (x ∷ xs) M y
  other_bytes one M x y xs fit other =
      let turned : same y x ≡ false = one.both y x ∙ other in
      let skipped : filter (same y) (x ∷ xs) ≡ filter (same y) xs = rw turned refl in
      rw (number_other M x y fit other, skipped) refl

  front_byte : IsOnePlace → (M : Storage) (a : ℕ) (x : X) (xs : List X) → AllFit x xs
      → byte_with xs (with_one M x) a (find (has_byte a) xs) ≡ byte_with (x ∷ xs) M a (find (has_byte a) (x ∷ xs))
  front_byte one M a x xs fit = by_cases (has_byte a x) refl (find (has_byte a) xs) refl
    where
      alike_found : has_byte a x ≡ true → (y : X) → Fit x y → has_byte a y ≡ true → (s : Bool) → same x y ≡ s
          → slice_index (bytes_with xs (with_one M x) y) (a - place y) ≡ slice_index (bytes_with (x ∷ xs) M x) (a - place x)
      alike_found inside y fits there true is =
          ap (λ p. slice_index (bytes_with xs (with_one M x) y) (a - p)) (fits.at_one is)
          ∙ ap (λ bs. slice_index bs (a - place x)) (alike_bytes one M x y xs fits is)
      alike_found inside y fits there false other = let gone : has_byte a y ≡ false = fits.apart other a inside in absurd cc

      other_found : has_byte a x ≡ false → (y : X) → Fit x y → has_byte a y ≡ true → (s : Bool) → same x y ≡ s
          → slice_index (bytes_with xs (with_one M x) y) (a - place y) ≡ slice_index (bytes_with (x ∷ xs) M y) (a - place y)
      other_found outside y fits there true is = let same_there : has_byte a y ≡ has_byte a x = covered_too x y a fits is in absurd cc
      other_found outside y fits there false other = ap (λ bs. slice_index bs (a - place y)) (other_bytes one M x y xs fits other)

      by_cases : (t : Bool) → has_byte a x ≡ t → (o : Option X) → find (has_byte a) xs ≡ o
          → byte_with xs (with_one M x) a o ≡ byte_with (x ∷ xs) M a (if t then Some x else o)
      by_cases true inside None none =
          byte_inside M x a inside ∙ ap (λ bs. slice_index bs (a - place x)) (last_bytes one M x xs (none_alike x a xs fit inside none))
      by_cases true inside (Some y) found =
          let fits : Fit x y × (has_byte a y ≡ true) = found_fits x y a xs fit found in
          alike_found inside y fits.0 fits.1 (same x y) refl
      by_cases false outside None none = byte_outside M x a outside
      by_cases false outside (Some y) found =
          let fits : Fit x y × (has_byte a y ≡ true) = found_fits x y a xs fit found in
          other_found outside y fits.0 fits.1 (same x y) refl

  -- all of them
  pub all_added : IsOnePlace → (xs : List X) (M : Storage) (a : ℕ) → FitTogether xs
      → fold with_one M xs a ≡ byte_with xs M a (find (has_byte a) xs)
  all_added one [] M a fit = refl
  all_added one (x ∷ xs) M a fit = all_added one xs (with_one M x) a fit.1 ∙ front_byte one M a x xs fit.0
