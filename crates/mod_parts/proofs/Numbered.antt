-- The number of a part among others, while numbers are given from the last part on.
use Rattle.std.proofs.Common.{◌≡◌, ℕ, ◌+◌, ◌-◌, ◌<◌, ◌≤◌, Bool, true, false, not, cond, List, [], ◌∷◌, ◌++◌, map, length, drop, take, get_or, slice_index, All, subst, nat_lt, Option, Some, None, option_map, unwrap_or, refl, sym, ap, ◌∙◌, arith}
use Rattle.std.specs.List.{position, position_or_len}
use Rattle.std.proofs.lemmas.Bool.{lt-ltb, le-ltb, ltb-true, ltb-false}
use Rattle.std.proofs.lemmas.List.{drop_more, drop_all, drop_at, get_or-map, get_or_append_left, get_or-replicate, length-map, take_more, append-nil, map-append, length-append, take-append-drop}
use Rattle.std.proofs.lemmas.List.Concat.{flat_map-append}
use Rattle.std.proofs.lemmas.List.Elements.{All-drop}
use Rattle.linking_model.specs.Places.{Laid}
use Rattle.member_model.specs.Parts.{Part as Piece, SegmentTable as Segtab, OneSection, EntryTable as Entab, part_eq, part_number, parts}
use Rattle.member_model.specs.Cuts.{together}
use Rattle.mod_parts.specs.declared.part.Part.{Part}
use Rattle.mod_parts.specs.Seen.{seen, IsAmong}
use Rattle.mod_parts.specs.declared.numbers.Numbers.{Numbers}
use Rattle.mod_parts.specs.Numbers.{number_in, number_among, HoldsZeros}

-- ---- a number by its place

placed : (t : Bool) (b j m n r : ℕ) → m ≡ n + 1 → r ≡ unwrap_or (option_map (λ k. b + 1 + k + 1) (cond (nat_lt j n) (Some j) None)) 0
    → cond t (b + 1) r ≡ unwrap_or (option_map (λ k. b + k + 1) (cond (nat_lt (cond (not t) (1 + j) 0) m) (Some (cond (not t) (1 + j) 0)) None)) 0
placed true b j m n r size is = let low : nat_lt 0 m ≡ true = lt-ltb 0 m (omega arith) in let e : b + 0 + 1 ≡ b + 1 = omega arith in rw (low, e) refl
placed false b j m n r size is =
    is ∙ elim (nat_lt j n) as (λ t. nat_lt j n ≡ t → unwrap_or (option_map (λ k. b + 1 + k + 1) (cond t (Some j) None)) 0 ≡ unwrap_or (option_map (λ k. b + k + 1) (cond (nat_lt (1 + j) m) (Some (1 + j)) None)) 0) [
      | true ↦ λ e. let low : j < n = ltb-true j n e in let more : nat_lt (1 + j) m ≡ true = lt-ltb (1 + j) m (omega arith) in let sum : b + 1 + j + 1 ≡ b + (1 + j) + 1 = omega arith in rw (more, sum) refl
      | false ↦ λ e. let high : n ≤ j = ltb-false j n e in let more : nat_lt (1 + j) m ≡ false = le-ltb (1 + j) m (omega arith) in rw more refl
    ] refl

-- the number is that of the first place
pub number_is : (b : ℕ) (ys : List Piece) (x : Piece) → number_among b ys x 0 ≡ unwrap_or (option_map (λ k. b + k + 1) (position (part_eq x) ys)) 0
unfolding number_among
number_is b [] x = refl
number_is b (y ∷ ys) x =
    placed (part_eq x y) b (position_or_len (part_eq x) ys) (length (y ∷ ys)) (length ys) (number_among (b + 1) ys x 0) (omega arith) (number_is (b + 1) ys x)

pub part_number_is : (P : Laid) (x : Piece) → number_among 0 (parts P) x 0 ≡ part_number P x
part_number_is P x = number_is 0 (parts P) x ∙ counted (position (part_eq x) (parts P))
  where
    counted : (o : Option ℕ) → unwrap_or (option_map (λ k. 0 + k + 1) o) 0 ≡ unwrap_or (option_map (λ k. k + 1) o) 0
    counted None = refl
    counted (Some k) = let e : 0 + k + 1 ≡ k + 1 = omega arith in e

-- ---- parts after others

pub number-append : (b n : ℕ) (xs ys : List Piece) (x : Piece) (o : ℕ) → n ≡ b + length xs
    → number_among b (xs ++ ys) x o ≡ number_among b xs x (number_among n ys x o)
unfolding number_among
number-append b n [] ys x o is = let same : b ≡ n = omega arith in ap (λ k. number_among k ys x o) same
number-append b n (y ∷ xs) ys x o is = ap (λ r. cond (part_eq x y) (b + 1) r) (number-append (b + 1) n xs ys x o (omega arith))

pub number_none : (b n : ℕ) (ys : List Part) (x : Piece) (o : ℕ) → length ys ≤ n → o ≡ number_among b (drop n (map seen ys)) x o
unfolding number_among
number_none b n ys x o past =
    let none : drop n (map seen ys) ≡ [] = drop_all n (map seen ys) (omega (arith, length-map ys seen)) in rw none refl

-- one part more in front
pub number_more : (b place n : ℕ) (parts : List Part) (d : Part) (x : Piece) (o old new : ℕ) → place < length parts → n ≡ place + 1
    → old ≡ number_among (b + n) (drop n (map seen parts)) x o
    → new ≡ cond (part_eq x (seen (get_or parts place d))) (b + place + 1) old
    → new ≡ number_among (b + place) (drop place (map seen parts)) x o
unfolding number_among
number_more b place n parts d x o old new within next was is =
    let split : drop place (map seen parts) ≡ seen (get_or parts place d) ∷ drop (place + 1) (map seen parts) =
    drop_more (map seen parts) place (seen d) (omega (arith, within, length-map parts seen))
    ∙ ap (λ y. y ∷ drop (place + 1) (map seen parts)) (get_or-map seen parts place d (seen d) within) in
    is ∙ ap (λ r. cond (part_eq x (seen (get_or parts place d))) (b + place + 1) r)
    (was ∙ (ap (λ k. number_among (b + k) (drop k (map seen parts)) x o) next ∙ ap (λ k. number_among k (drop (place + 1) (map seen parts)) x o) (after b place)))
    ∙ ap (λ ys. number_among (b + place) ys x o) (sym split)
  where
    after : (b place : ℕ) → b + (place + 1) ≡ b + place + 1
    after b place = omega arith

pub among_same : (a b m n : ℕ) (x : Piece) → m ≡ a → n ≡ b → IsAmong a b x → IsAmong m n x
among_same a b m n x first second among = rw (first, second) among

-- ---- parts of all segments

together_more : (xss : List (List Part)) (i : ℕ) (d : List Part) → i < length xss → together (take (i + 1) xss) ≡ together (take i xss) ++ get_or xss i d
together_more xss i d low =
    ap together (take_more xss i d low) ∙ (flat_map-append (λ l. l) (take i xss) (get_or xss i d ∷ []) ∙ ap (λ l. together (take i xss) ++ l) (append-nil (get_or xss i d)))

pub count_more : (xss : List (List Part)) (i m : ℕ) (xs : List Part) → i < length xss → xs ≡ get_or xss i xs → m ≡ i + 1
    → length (together (take m xss)) ≡ length (together (take i xss)) + length xs
count_more xss i m xs low is next =
    ap (λ k. length (together (take k xss))) next ∙ ap length (together_more xss i xs low) ∙ (length-append (together (take i xss)) (get_or xss i xs) ∙ ap (λ l. length (together (take i xss)) + length l) (sym is))

pub front_within : (xss : List (List Part)) (i : ℕ) → length (together (take i xss)) ≤ length (together xss)
front_within xss i =
    omega (
      arith,
      ap length (sym (flat_map-append (λ l. l) (take i xss) (drop i xss)) ∙ ap together (take-append-drop i xss)),
      length-append (together (take i xss)) (together (drop i xss)),
    )

pub count_within : (xss : List (List Part)) (i : ℕ) (xs : List Part) → i < length xss → xs ≡ get_or xss i xs
    → length (together (take i xss)) + length xs ≤ length (together xss)
count_within xss i xs low is = omega (arith, count_more xss i (i + 1) xs low is refl, front_within xss (i + 1))

pub together_front : (xss : List (List Part)) (i : ℕ) (xs : List Part) → i < length xss → xs ≡ get_or xss i xs
    → together (drop i xss) ≡ xs ++ together (drop (i + 1) xss)
together_front xss i xs low is = ap together (drop_more xss i xs low) ∙ ap (λ l. l ++ together (drop (i + 1) xss)) (sym is)

-- the numbers of one segment more in front
pub segment_more : (b n i m : ℕ) (xss : List (List Part)) (xs : List Part) (x : Piece) (old new : ℕ) → i < length xss → xs ≡ get_or xss i xs → m ≡ i + 1
    → n ≡ b + length xs → old ≡ number_among n (map seen (together (drop m xss))) x 0
    → new ≡ number_among b (map seen xs) x old → new ≡ number_among b (map seen (together (drop i xss))) x 0
segment_more b n i m xss xs x old new low is next long was now =
    now ∙ (ap (number_among b (map seen xs) x) (was ∙ ap (λ k. number_among n (map seen (together (drop k xss))) x 0) next)
    ∙ (sym (number-append b n (map seen xs) (map seen (together (drop (i + 1) xss))) x 0 (omega (arith, long, length-map xs seen)))
    ∙ ap (λ l. number_among b l x 0) (sym (map-append seen xs (together (drop (i + 1) xss))) ∙ ap (map seen) (sym (together_front xss i xs low is)))))

all_front : (P : Part → Type 0) (xs ys : List Part) → All P (xs ++ ys) → All P xs
all_front P xs ys all = λ k d low. subst P (get_or_append_left xs ys d k low) (all k d (omega (arith, low, length-append xs ys)))

all_back : (P : Part → Type 0) (xs ys : List Part) → All P (xs ++ ys) → All P ys
all_back P xs ys all = subst (All P) (drop_at xs ys (length xs) refl) (All-drop P (length xs) (xs ++ ys) all)

-- what holds of the parts of all segments holds of those of one
pub all_here : (P : Part → Type 0) (xss : List (List Part)) (i : ℕ) (xs : List Part) → All P (together xss) → i < length xss → xs ≡ get_or xss i xs → All P xs
all_here P xss i xs all low is =
    let split : together (take i xss) ++ together (drop i xss) ≡ together xss =
    sym (flat_map-append (λ l. l) (take i xss) (drop i xss)) ∙ ap together (take-append-drop i xss) in
    all_front P xs (together (drop (i + 1) xss))
    (subst (All P) (together_front xss i xs low is)
    (all_back P (together (take i xss)) (together (drop i xss)) (subst (All P) (sym split) all)))

-- ---- no numbers yet

pub zero_number : (numbers : Numbers) (sections tables : ℕ) (x : Piece) → HoldsZeros numbers sections tables → IsAmong sections tables x → number_in numbers x ≡ 0
zero_number numbers sections tables Segtab zeros among = zeros.segtab
zero_number numbers sections tables (OneSection i) zeros among =
    ap (λ l. slice_index l i) zeros.of_sections ∙ get_or-replicate sections i 0 0 among
zero_number numbers sections tables (Entab s) zeros among =
    ap (λ l. slice_index l (s - 1)) zeros.of_tables ∙ get_or-replicate tables (s - 1) 0 0 (omega (arith, among.0, among.1))

pub none_after : (b n : ℕ) (xss : List (List Part)) (x : Piece) → length xss ≤ n → 0 ≡ number_among b (map seen (together (drop n xss))) x 0
unfolding number_among
none_after b n xss x past = let none : drop n xss ≡ [] = drop_all n xss past in rw none refl
