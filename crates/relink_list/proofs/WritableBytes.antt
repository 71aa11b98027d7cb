-- Names that statements can write, by their bytes.
use Rattle.std.proofs.Common.{◌≡◌, ℕ, zero, suc, ◌+◌, ◌<◌, ◌≤◌, Bool, true, false, ◌&&◌, List, [], ◌∷◌, ◌++◌, length, take, drop, replicate, refl, ap, sym, subst, ◌∙◌, arith, length-append, drop_at}
use Rattle.std.specs.List.{list_all, prefix_len}
use Rattle.std.proofs.lemmas.Bool.{and_parts, and_from, eqb-true}
use Rattle.std.proofs.lemmas.List.{take-append-drop, length-take}
use Rattle.std.proofs.lemmas.List.Sums.{prefix_len-le-length}
use Rattle.le_bytes.specs.Names.{is_writable}
use Rattle.le_bytes.specs.declared.name.Name.{Name}
use Rattle.ctl_cards.specs.Cards.{is_blank, is_filled}
use Rattle.ctl_cards.specs.NameTexts.{begins_name, stands_in_name, written, IsWritable}
use Rattle.ctl_cards.specs.Letters.{name_with}
use Rattle.ctl_cards.proofs.NameLaws.{IsWord, word_short, word-written, name_with-written, writable-name_with}
use Rattle.relink_list.specs.Writable.{is_word}

same_tests : (a b : Bool) → (a ≡ true → b ≡ true) → (b ≡ true → a ≡ true) → a ≡ b
same_tests true true f g = refl
same_tests true false f g = sym (f refl)
same_tests false true f g = g refl
same_tests false false f g = refl

-- a short text as a name is the text and blanks
cells : (w : List ℕ) → length w ≤ 8 → (n : ℕ) × ((name_with w).0 ≡ w ++ replicate n 64) × (length w + n ≡ 8)
cells [] h = (8, refl, refl)
cells (a ∷ []) h = (7, refl, refl)
cells (a ∷ b ∷ []) h = (6, refl, refl)
cells (a ∷ b ∷ c ∷ []) h = (5, refl, refl)
cells (a ∷ b ∷ c ∷ d ∷ []) h = (4, refl, refl)
cells (a ∷ b ∷ c ∷ d ∷ e ∷ []) h = (3, refl, refl)
cells (a ∷ b ∷ c ∷ d ∷ e ∷ f ∷ []) h = (2, refl, refl)
cells (a ∷ b ∷ c ∷ d ∷ e ∷ f ∷ g ∷ []) h = (1, refl, refl)
cells (a ∷ b ∷ c ∷ d ∷ e ∷ f ∷ g ∷ i ∷ []) h = (0, refl, refl)
cells (a ∷ b ∷ c ∷ d ∷ e ∷ f ∷ g ∷ i ∷ j ∷ w) h = absurd (omega arith)

all_blank : (n : ℕ) → list_all is_blank (replicate n 64) ≡ true
all_blank zero = refl
all_blank (suc n) = all_blank n

blanks_are : (xs : List ℕ) (n : ℕ) → length xs ≡ n → list_all is_blank xs ≡ true → xs ≡ replicate n 64
blanks_are [] zero e h = refl
blanks_are [] (suc n) e h = absurd (omega arith)
blanks_are (x ∷ xs) zero e h = absurd (omega arith)
blanks_are (x ∷ xs) (suc n) e h =
    let p = and_parts (is_blank x) (list_all is_blank xs) h in
    let first : x ≡ 64 = eqb-true x 64 p.0 in
    let rest : xs ≡ replicate n 64 = blanks_are xs n (omega arith) p.1 in cc

word_test : (w : List ℕ) → is_word w ≡ true → length w ≤ 8 → IsWord w
word_test [] h l = absurd cc
word_test (b ∷ w) h l =
    let p = and_parts (begins_name b) (list_all stands_in_name w) h in
    let short : length w < 8 = omega arith in (p.0, p.1, short)

test_of_word : (w : List ℕ) → IsWord w → is_word w ≡ true
test_of_word [] h = absurd h
test_of_word (b ∷ w) h = and_from (begins_name b) (list_all stands_in_name w) h.0 h.1

abbrev of_bytes : List ℕ → Name
of_bytes xs = record { 0 = xs }

abbrev bytes_of : Name → List ℕ
bytes_of n = n.0

-- a word and blanks are the name of the word
named_by : (n : Name) (w rest : List ℕ) → length n.0 ≡ 8 → n.0 ≡ w ++ rest → length w ≤ 8 → list_all is_blank rest ≡ true → name_with w ≡ n
named_by n w rest eight e short blank =
    let c = cells w short in
    let size : length w + length rest ≡ 8 = sym (length-append w rest) ∙ ap length (sym e) ∙ eight in
    let left : rest ≡ replicate c.0 64 = blanks_are rest c.0 (omega (arith, c.2)) blank in
    ap of_bytes (c.1 ∙ ap (λ (xs : List ℕ). w ++ xs) (sym left) ∙ sym e)

parted : (n : Name) → n.0 ≡ written n ++ drop (prefix_len is_filled n.0) n.0
unfolding written
parted n = sym (take-append-drop (prefix_len is_filled n.0) n.0)

written_short : (n : Name) → length n.0 ≡ 8 → length (written n) ≤ 8
unfolding written
written_short n eight =
    let l = length-take (prefix_len is_filled n.0) n.0 in omega arith

writable_from : (n : Name) (rest : List ℕ) → length n.0 ≡ 8 → rest ≡ drop (prefix_len is_filled n.0) n.0
    → (is_word (written n) && list_all is_blank rest) ≡ true → IsWritable n
writable_from n rest eight is h =
    let p = and_parts (is_word (written n)) (list_all is_blank rest) h in
    let short = written_short n eight in
    let named : name_with (written n) ≡ n
    = named_by n (written n) rest eight (parted n ∙ ap (λ (xs : List ℕ). written n ++ xs) (sym is)) short p.1 in
    subst IsWritable named (writable-name_with (written n) (word_test (written n) p.0 short))

written_length : (n : Name) → length n.0 ≡ 8 → length (written n) ≡ prefix_len is_filled n.0
unfolding written
written_length n eight =
    let l = length-take (prefix_len is_filled n.0) n.0 in
    let k = prefix_len-le-length is_filled n.0 in omega arith

parts_from : (n : Name) (rest : List ℕ) → length n.0 ≡ 8 → rest ≡ drop (prefix_len is_filled n.0) n.0
    → IsWritable n → (is_word (written n) && list_all is_blank rest) ≡ true
parts_from n rest eight is h =
    let word : IsWord (written n) = word-written n h in
    let c = cells (written n) (word_short (written n) word) in
    let whole : n.0 ≡ written n ++ replicate c.0 64 = ap bytes_of (sym (name_with-written n h)) ∙ c.1 in
    let left : rest ≡ replicate c.0 64
    = is ∙ ap (λ (xs : List ℕ). drop (prefix_len is_filled n.0) xs) whole
    ∙ drop_at (written n) (replicate c.0 64) (prefix_len is_filled n.0) (written_length n eight) in
    and_from (is_word (written n)) (list_all is_blank rest) (test_of_word (written n) word)
    (ap (λ (xs : List ℕ). list_all is_blank xs) left ∙ all_blank c.0)

-- a name is writable where it is a word and blanks
pub writable_by_parts : (n : Name) (front rest : List ℕ) → length n.0 ≡ 8
    → front ≡ take (prefix_len is_filled n.0) n.0 → rest ≡ drop (prefix_len is_filled n.0) n.0
    → (is_word front && list_all is_blank rest) ≡ is_writable n
unfolding IsWritable written
writable_by_parts n front rest eight is left =
    ap (λ (xs : List ℕ). is_word xs && list_all is_blank rest) is
    ∙ same_tests (is_word (written n) && list_all is_blank rest) (is_writable n) (writable_from n rest eight left) (parts_from n rest eight left)

pub writable_then : (n : Name) (front rest : List ℕ) → length n.0 ≡ 8
    → front ≡ take (prefix_len is_filled n.0) n.0 → rest ≡ drop (prefix_len is_filled n.0) n.0
    → is_word front ≡ true → list_all is_blank rest ≡ is_writable n
writable_then n front rest eight is left h =
    sym (ap (λ (b : Bool). b && list_all is_blank rest) h) ∙ writable_by_parts n front rest eight is left

pub writable_else : (n : Name) (front rest : List ℕ) → length n.0 ≡ 8
    → front ≡ take (prefix_len is_filled n.0) n.0 → rest ≡ drop (prefix_len is_filled n.0) n.0
    → is_word front ≡ false → false ≡ is_writable n
writable_else n front rest eight is left h =
    sym (ap (λ (b : Bool). b && list_all is_blank rest) h) ∙ writable_by_parts n front rest eight is left
