-- Names that statements can write, as they are printed and as they stand on a card.
use Rattle.std.proofs.Common.{◌≡◌, ℕ, zero, suc, ◌≤◌, Bool, true, false, eqb, not, List, [], ◌∷◌, ◌++◌, length, map, replicate, refl, ap, sym, ◌∙◌, arith}
use Rattle.std.specs.List.{list_all}
use Rattle.std.proofs.lemmas.Bool.{ne_eqb, true≢false, and_parts, and_from}
use Rattle.le_bytes.specs.Codes.{ascii_of}
use Rattle.le_bytes.specs.Names.{may_stand_in_name}
use Rattle.le_bytes.specs.declared.name.Name.{Name}
use Rattle.ctl_cards.specs.Cards.{is_filled}
use Rattle.ctl_cards.specs.NameTexts.{stands_in_name, written, IsWritable}
use Rattle.ctl_cards.specs.Letters.{name_with}
use Rattle.ctl_cards.proofs.NameLaws.{IsWord, letter_code, differs, blank_no_letter, word_stands, word_short, word-written, name_with-written}
use Rattle.map_list.specs.Printed.{trimmed, printed_name}
use Rattle.list_text.specs.Statements.{code_of}

-- a short text as a name is the text and blanks
cells : (w : List ℕ) → length w ≤ 8 → (n : ℕ) × ((name_with w).0 ≡ w ++ replicate n 64)
cells [] h = (8, refl)
cells (a ∷ []) h = (7, refl)
cells (a ∷ b ∷ []) h = (6, refl)
cells (a ∷ b ∷ c ∷ []) h = (5, refl)
cells (a ∷ b ∷ c ∷ d ∷ []) h = (4, refl)
cells (a ∷ b ∷ c ∷ d ∷ e ∷ []) h = (3, refl)
cells (a ∷ b ∷ c ∷ d ∷ e ∷ f ∷ []) h = (2, refl)
cells (a ∷ b ∷ c ∷ d ∷ e ∷ f ∷ g ∷ []) h = (1, refl)
cells (a ∷ b ∷ c ∷ d ∷ e ∷ f ∷ g ∷ i ∷ []) h = (0, refl)
cells (a ∷ b ∷ c ∷ d ∷ e ∷ f ∷ g ∷ i ∷ j ∷ w) h = absurd (omega arith)

abbrev bytes_of : Name → List ℕ
bytes_of n = n.0

name_bytes : (n : Name) → IsWritable n → (k : ℕ) × (n.0 ≡ written n ++ replicate k 64)
name_bytes n h =
    let c = cells (written n) (word_short (written n) (word-written n h)) in
    (c.0, ap bytes_of (sym (name_with-written n h)) ∙ c.1)

abbrev is_space : ℕ → Bool
is_space b = eqb b 32

abbrev marks : (ℕ → ℕ) → ℕ → Bool
marks f b = not (eqb (f b) 32)

spaces : (f : ℕ → ℕ) (k : ℕ) → f 64 ≡ 32 → list_all is_space (map f (replicate k 64)) ≡ true
spaces f zero e = refl
spaces f (suc k) e = rw (e, spaces f k e) refl

trimmed_spaces : (f : ℕ → ℕ) (k : ℕ) → f 64 ≡ 32 → trimmed (map f (replicate k 64)) ≡ []
trimmed_spaces f zero e = refl
trimmed_spaces f (suc k) e = rw (e, spaces f k e) refl

not_true : (b : Bool) → not b ≡ true → b ≡ false
not_true true e = absurd cc
not_true false e = refl

trimmed_mapped : (f : ℕ → ℕ) (w : List ℕ) (k : ℕ) → f 64 ≡ 32 → list_all (marks f) w ≡ true
    → trimmed (map f (w ++ replicate k 64)) ≡ map f w
trimmed_mapped f [] k e h = trimmed_spaces f k e
trimmed_mapped f (b ∷ w) k e h =
    let p = and_parts (marks f b) (list_all (marks f) w) h in
    let d : eqb (f b) 32 ≡ false = not_true (eqb (f b) 32) p.0 in
    rw (d, trimmed_mapped f w k e p.1) refl

mark_of_name : (b : ℕ) → stands_in_name b ≡ true → marks ascii_of b ≡ true
unfolding stands_in_name
mark_of_name b h =
    let d : eqb (ascii_of b) 32 ≡ false = ne_eqb (ascii_of b) 32 (λ e. true≢false (sym h ∙ ap may_stand_in_name e)) in
    ap not d

marks_of_name : (w : List ℕ) → list_all stands_in_name w ≡ true → list_all (marks ascii_of) w ≡ true
marks_of_name [] h = refl
marks_of_name (b ∷ w) h =
    let p = and_parts (stands_in_name b) (list_all stands_in_name w) h in
    and_from (marks ascii_of b) (list_all (marks ascii_of) w) (mark_of_name b p.0) (marks_of_name w p.1)

printed_written : (n : Name) → IsWritable n → printed_name n ≡ map ascii_of (written n)
unfolding printed_name
printed_written n h =
    let c = name_bytes n h in
    ap (λ (xs : List ℕ). trimmed (map ascii_of xs)) c.1
    ∙ trimmed_mapped ascii_of (written n) c.0 refl (marks_of_name (written n) (word_stands (written n) (word-written n h)))

codes_back : (w : List ℕ) → list_all stands_in_name w ≡ true → map code_of (map ascii_of w) ≡ w
codes_back [] h = refl
codes_back (b ∷ w) h =
    let p = and_parts (stands_in_name b) (list_all stands_in_name w) h in
    let d : code_of (ascii_of b) ≡ b = letter_code b p.0 in
    let r = codes_back w p.1 in cc

-- on a card a name has its own codes
pub name_codes : (n : Name) → IsWritable n → map code_of (printed_name n) ≡ written n
name_codes n h =
    ap (λ (xs : List ℕ). map code_of xs) (printed_written n h) ∙ codes_back (written n) (word_stands (written n) (word-written n h))

filled_word : (w : List ℕ) → list_all stands_in_name w ≡ true → list_all is_filled w ≡ true
filled_word [] h = refl
filled_word (b ∷ w) h =
    let p = and_parts (stands_in_name b) (list_all stands_in_name w) h in
    and_from (is_filled b) (list_all is_filled w) (ap not (differs b 64 p.0 blank_no_letter)) (filled_word w p.1)

-- a name on a card has no blank
pub written_filled : (n : Name) → IsWritable n → list_all is_filled (written n) ≡ true
written_filled n h = filled_word (written n) (word_stands (written n) (word-written n h))

pub written_short : (n : Name) → IsWritable n → length (written n) ≤ 8
written_short n h = word_short (written n) (word-written n h)

word_some : (w : List ℕ) → IsWord w → 1 ≤ length w
word_some [] h = absurd h
word_some (b ∷ w) h = omega arith

pub written_some : (n : Name) → IsWritable n → 1 ≤ length (written n)
written_some n h = word_some (written n) (word-written n h)
