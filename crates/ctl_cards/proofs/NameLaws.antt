-- Names and the characters that spell them.
use Rattle.std.proofs.Common.{◌≡◌, ◌≢◌, ℕ, zero, suc, ◌+◌, ◌-◌, ◌<◌, ◌≤◌, Bool, true, false, cond, eqb, ltb, leb, ◌&&◌, ◌||◌, not, List, [], ◌∷◌, ◌++◌, length, get_or, take, drop, map, replicate, min, Option, Some, None, refl, sym, ap, subst, ◌∙◌, arith, inl, inr}
use Rattle.std.specs.Prelude.{slice_get, unwrap_or}
use Rattle.std.specs.Option.{option_map_or}
use Rattle.std.specs.List.{list_all, prefix_len, take_while}
use Rattle.std.proofs.lemmas.List.Sums.{prefix_len-le-length}
use Rattle.std.proofs.lemmas.Bool.{eqb-true, ne_eqb, le-leb, lt-leb, lt-ltb, ltb-true, cases_Bool, cases_lt, true≢false, and_parts, and_from, or_left, agree_below, agree_below_at}
use Rattle.std.proofs.lemmas.List.{length-map, length-take}
use Rattle.std.proofs.Math.Seq.{take-append_seam}
use Rattle.std.proofs.lemmas.Slice.Eq.{bytes_eq-Decides}
use Rattle.le_bytes.specs.Codes.{is_in, ascii_of, ebcdic_of}
use Rattle.le_bytes.specs.Names.{may_begin_name, may_stand_in_name, is_name_text, code_at, padded, name_of_text, name_eq}
use Rattle.le_bytes.specs.declared.name.Name.{Name}
use Rattle.ctl_cards.specs.NameTexts.{begins_name, stands_in_name, written, IsWritable}
use Rattle.ctl_cards.specs.Letters.{cell, name_with, name_length}

-- ---- characters

pub begins_stands : (b : ℕ) → begins_name b ≡ true → stands_in_name b ≡ true
unfolding begins_name stands_in_name
begins_stands b h = or_left (may_begin_name (ascii_of b)) _ h

-- a character of a name is none that is no character of a name
pub differs : (b k : ℕ) → stands_in_name b ≡ true → stands_in_name k ≡ false → eqb b k ≡ false
differs b k h g = ne_eqb b k (λ e. true≢false (sym h ∙ ap stands_in_name e ∙ g))

pub open_no_letter : stands_in_name 77 ≡ false
unfolding stands_in_name
open_no_letter = refl

pub comma_no_letter : stands_in_name 107 ≡ false
unfolding stands_in_name
comma_no_letter = refl

pub close_no_letter : stands_in_name 93 ≡ false
unfolding stands_in_name
close_no_letter = refl

pub star_no_letter : stands_in_name 92 ≡ false
unfolding stands_in_name
star_no_letter = refl

pub blank_no_letter : stands_in_name 64 ≡ false
unfolding stands_in_name
blank_no_letter = refl

-- the code of a character of a name, back and forth: by a table of all bytes
back_at : ℕ → Bool
back_at b = not (may_stand_in_name (ascii_of b)) || eqb (unwrap_or (ebcdic_of (ascii_of b)) 64) b

always : ℕ → Bool
always b = true

back_table : agree_below back_at always 256 ≡ true
unfolding back_at always
back_table = refl

not_in : (a c b : ℕ) → c < b → is_in a c b ≡ false
not_in a c b h = grind (arith, lt-leb)

above : (b : ℕ) → 256 ≤ b → ascii_of b ≡ 46
above b h = rw (
  not_in 193 201 b (omega arith),
  not_in 209 217 b (omega arith),
  not_in 226 233 b (omega arith),
  not_in 240 249 b (omega arith),
  ne_eqb b 64 (omega arith),
  ne_eqb b 97 (omega arith),
  ne_eqb b 107 (omega arith),
  ne_eqb b 109 (omega arith),
  ne_eqb b 123 (omega arith),
  ne_eqb b 124 (omega arith),
  ne_eqb b 125 (omega arith),
  ne_eqb b 126 (omega arith),
  ne_eqb b 77 (omega arith),
  ne_eqb b 78 (omega arith),
  ne_eqb b 80 (omega arith),
  ne_eqb b 91 (omega arith),
  ne_eqb b 92 (omega arith),
  ne_eqb b 93 (omega arith),
  ne_eqb b 96 (omega arith),
) refl

pub letter_code : (b : ℕ) → stands_in_name b ≡ true → unwrap_or (ebcdic_of (ascii_of b)) 64 ≡ b
unfolding stands_in_name back_at always
letter_code b h = elim (cases_lt b 256) [
  | inl lt ↦ (let t : back_at b ≡ true = agree_below_at back_at always 256 b back_table lt in
      let e : (not (may_stand_in_name (ascii_of b)) || eqb (unwrap_or (ebcdic_of (ascii_of b)) 64) b) ≡ true = t in
      eqb-true _ _ (rw h at e))
  | inr le ↦ absurd (true≢false (sym h ∙ ap may_stand_in_name (above b le)))
]

abbrev some_name : List ℕ → Option Name
some_name xs = Some (record { 0 = xs })

abbrev name_of_cells : List ℕ → Name
name_of_cells xs = record { 0 = xs }

-- ---- words

-- what spells a name: one to eight characters, of which the first begins a name
abbrev pub IsWord : List ℕ → Type 0
IsWord [] = ⊥
IsWord (b ∷ text) = (begins_name b ≡ true) × (list_all stands_in_name text ≡ true) × (length text < 8)

pub word_stands : (w : List ℕ) → IsWord w → list_all stands_in_name w ≡ true
word_stands [] h = absurd h
word_stands (b ∷ text) h = and_from (stands_in_name b) (list_all stands_in_name text) (begins_stands b h.0) h.1

pub word_short : (w : List ℕ) → IsWord w → length w ≤ 8
word_short [] h = absurd h
word_short (b ∷ text) h = let lt : length text < 8 = h.2 in omega arith

fill : ℕ → List ℕ
fill n = replicate n 64

-- a short text as a name is the text and blanks
cells : (w : List ℕ) → length w ≤ 8 → (n : ℕ) × ((name_with w).0 ≡ w ++ replicate n 64)
cells [] h = (8, refl)
cells (a ∷ []) h = (7, refl)
cells (a ∷ b ∷ []) h = (6, refl)
cells (a ∷ b ∷ c ∷ []) h = (5, refl)
cells (a ∷ b ∷ c ∷ d ∷ []) h = (4, refl)
cells (a ∷ b ∷ c ∷ d ∷ e ∷ []) h = (3, refl)
cells (a ∷ b ∷ c ∷ d ∷ e ∷ f ∷ []) h = (2, refl)
cells (a ∷ b ∷ c ∷ d ∷ e ∷ f ∷ g ∷ []) h = (1, refl)
cells (a ∷ b ∷ c ∷ d ∷ e ∷ f ∷ g ∷ i ∷ []) h = (0, refl)
cells (a ∷ b ∷ c ∷ d ∷ e ∷ f ∷ g ∷ i ∷ j ∷ w) h = absurd (omega arith)

filled : ℕ → Bool
filled b = not (eqb b 64)

filled_front : (w : List ℕ) (n : ℕ) → list_all stands_in_name w ≡ true → prefix_len (λ b. not (eqb b 64)) (w ++ replicate n 64) ≡ length w
filled_front [] zero h = refl
filled_front [] (suc n) h = refl
filled_front (b ∷ w) n h =
    let p = and_parts (stands_in_name b) (list_all stands_in_name w) h in
    let d : eqb b 64 ≡ false = differs b 64 p.0 blank_no_letter in
    rw (d, filled_front w n p.1) (omega arith)

pub written-name_with : (w : List ℕ) → IsWord w → written (name_with w) ≡ w
unfolding written
written-name_with w h =
    let c = cells w (word_short w h) in
    let e : take (prefix_len (λ b. not (eqb b 64)) (w ++ replicate c.0 64)) (w ++ replicate c.0 64) ≡ w =
    rw (filled_front w c.0 (word_stands w h)) (take-append_seam w (replicate c.0 64)) in
    subst (λ (xs : List ℕ). take (prefix_len (λ b. not (eqb b 64)) xs) xs ≡ w) (sym c.1) e

-- the codes of a word's text are the word
code_of : (w : List ℕ) (i : ℕ) → list_all stands_in_name w ≡ true → code_at (map ascii_of w) i ≡ cell w i
code_of [] i h = refl
code_of (b ∷ w) zero h = letter_code b (and_parts (stands_in_name b) (list_all stands_in_name w) h).0
code_of (b ∷ w) (suc i) h = code_of w i (and_parts (stands_in_name b) (list_all stands_in_name w) h).1

padded_word : (w : List ℕ) → list_all stands_in_name w ≡ true → padded (map ascii_of w) ≡ (name_with w).0
padded_word w h = rw (code_of w 0 h, code_of w 1 h, code_of w 2 h, code_of w 3 h, code_of w 4 h, code_of w 5 h, code_of w 6 h, code_of w 7 h) refl

stand_as_text : (w : List ℕ) → list_all may_stand_in_name (map ascii_of w) ≡ list_all stands_in_name w
unfolding stands_in_name
stand_as_text [] = refl
stand_as_text (b ∷ w) = ap (λ (t : Bool). may_stand_in_name (ascii_of b) && t) (stand_as_text w)

name_text : (w : List ℕ) → IsWord w → is_name_text (map ascii_of w) ≡ true
unfolding begins_name
name_text [] h = absurd h
name_text (b ∷ w) h =
    let short : ltb (length (map ascii_of w)) 8 ≡ true = lt-ltb _ _ (rw length-map h.2) in
    and_from _ _ short (and_from _ _ h.0 (stand_as_text w ∙ h.1))

word_of_text : (w : List ℕ) → is_name_text (map ascii_of w) ≡ true → IsWord w
unfolding begins_name
word_of_text [] h = absurd cc
word_of_text (b ∷ w) h =
    let p = and_parts (ltb (length (map ascii_of w)) 8) (may_begin_name (ascii_of b) && list_all may_stand_in_name (map ascii_of w)) h in
    let q = and_parts (may_begin_name (ascii_of b)) (list_all may_stand_in_name (map ascii_of w)) p.1 in
    (q.0, sym (stand_as_text w) ∙ q.1, rw length-map at (ltb-true (length (map ascii_of w)) 8 p.0))

-- a name is writable where its characters give it as a text
found_name : (o : Option Name) (n : Name) → o ≡ Some n → option_map_or (λ m. name_eq m n) o false ≡ true
found_name o n e = subst (λ (o : Option Name). option_map_or (λ m. name_eq m n) o false ≡ true) (sym e) ((bytes_eq-Decides n.0 n.0).1 refl)

name_found : (o : Option Name) (n : Name) → option_map_or (λ m. name_eq m n) o false ≡ true → o ≡ Some n
name_found None n e = absurd cc
name_found (Some m) n e = ap (λ (bs : List ℕ). some_name bs) ((bytes_eq-Decides m.0 n.0).0 e)

writable_by : (n : Name) → name_of_text (map ascii_of (written n)) ≡ Some n → IsWritable n
unfolding IsWritable written
writable_by n e = found_name (name_of_text (map ascii_of (written n))) n e

given_by : (n : Name) → IsWritable n → name_of_text (map ascii_of (written n)) ≡ Some n
unfolding IsWritable written
given_by n h = name_found (name_of_text (map ascii_of (written n))) n h

pub writable-name_with : (w : List ℕ) → IsWord w → IsWritable (name_with w)
writable-name_with w h =
    let e : name_of_text (map ascii_of w) ≡ Some (name_with w) = rw (name_text w h) (ap (λ (xs : List ℕ). some_name xs) (padded_word w (word_stands w h))) in
    writable_by (name_with w) (subst (λ (xs : List ℕ). name_of_text (map ascii_of xs) ≡ Some (name_with w)) (sym (written-name_with w h)) e)

given : (b : Bool) (m n : Name) → cond b (Some m) None ≡ Some n → (b ≡ true) × (m ≡ n)
given true m n e = (refl, cc)
given false m n e = absurd cc

pub word-written : (n : Name) → IsWritable n → IsWord (written n)
word-written n h = word_of_text (written n) (given (is_name_text (map ascii_of (written n))) _ n (given_by n h)).0

pub name_with-written : (n : Name) → IsWritable n → name_with (written n) ≡ n
name_with-written n h =
    let g = given (is_name_text (map ascii_of (written n))) (record { 0 = padded (map ascii_of (written n)) }) n (given_by n h) in
    let w : IsWord (written n) = word_of_text (written n) g.0 in
    ap (λ (xs : List ℕ). name_of_cells xs) (sym (padded_word (written n) (word_stands (written n) w))) ∙ g.1

-- ---- the length of the name at the front

pub name_length-le : (text : List ℕ) → name_length text ≤ length text
name_length-le [] = omega arith
name_length-le (b ∷ text) = elim (cases_Bool (begins_name b)) [
  | inl t ↦ rw t (omega (arith, prefix_len-le-length stands_in_name text))
  | inr f ↦ rw f (omega arith)
]

stand_in_front : (text : List ℕ) (m : ℕ) → m ≤ prefix_len stands_in_name text → list_all stands_in_name (take m text) ≡ true
stand_in_front text zero h = refl
stand_in_front [] (suc m) h = refl
stand_in_front (b ∷ text) (suc m) h = elim (cases_Bool (stands_in_name b)) [
  | inl t ↦ (let le : m ≤ prefix_len stands_in_name text = omega (arith, rw t at h) in and_from _ _ t (stand_in_front text m le))
  | inr f ↦ absurd (omega (arith, rw f at h))
]

take_one : (b : ℕ) (text : List ℕ) (m : ℕ) → take (1 + m) (b ∷ text) ≡ b ∷ take m text
take_one b text m = let e : 1 + m ≡ suc m = omega arith in rw e refl

pub word_at_front : (text : List ℕ) → (name_length text ≡ 0 → ⊥) → IsWord (take (name_length text) text)
word_at_front [] h = absurd (h refl)
word_at_front (b ∷ text) h = elim (cases_Bool (begins_name b)) [
  | inl t ↦ (let m = min (prefix_len stands_in_name text) 7 in
      let few : m ≤ prefix_len stands_in_name text = omega arith in
      let front : take (1 + m) (b ∷ text) ≡ b ∷ take m text = take_one b text m in
      let w : IsWord (b ∷ take m text) = (t, stand_in_front text m few, omega (arith, length-take m text)) in
      rw t (subst IsWord (sym front) w))
  | inr f ↦ absurd (h (rw f refl))
]
