-- Sets read one after the other, in the order of their words.
use Rattle.std.proofs.Common.{◌≡◌, ℕ, ◌+◌, ◌<◌, ◌≤◌, List, [], ◌∷◌, ◌++◌, length, map, drop, get_or, append_assoc, append-nil, add-one, drop-cons, refl, sym, ◌∙◌, ap, subst, Result, Ok, Err, Option, Some, None, String, string_bytes}
use Rattle.std.proofs.Math.ListN.{drop_of_length-le}
use Rattle.le_bytes.specs.declared.name.Name.{Name}
use Rattle.le_bytes.specs.declared.refusal.Refusal.{Refusal}
use Rattle.pds_lib.specs.declared.set.Set.{Set}
use Rattle.command_sets.specs.Sets.{set_before, with_set, set_of_word, sets_in}
use Rattle.command_sets.specs.Reading.{Takes}

-- the sets so far, and then those of the words that are left
abbrev pub onto : List Set → Result (List Set) Refusal → Result (List Set) Refusal
onto xs (Ok ys) = Ok (xs ++ ys)
onto xs (Err refusal) = Err refusal

pub begins : (r : Result (List Set) Refusal) → onto [] r ≡ r
begins (Ok ys) = refl
begins (Err refusal) = refl

module _ (read : Name → Result Set Refusal) (sets new : List Set) (word : List ℕ) (rest : List (List ℕ)) (whole : Result (List Set) Refusal)
    (so_far : onto sets (sets_in read (word ∷ rest)) ≡ whole) where
  joined : (found : Set) (r : Result (List Set) Refusal) → onto sets (set_before found r) ≡ onto (sets ++ found ∷ []) r
  joined found (Ok ys) = ap (λ xs. Ok xs) (sym (append_assoc sets (found ∷ []) ys))
  joined found (Err refusal) = refl

  -- one word taken
  pub goes_on : Takes (set_of_word read word) sets new (Ok tt) → onto new (sets_in read rest) ≡ whole
  unfolding sets_in
  goes_on takes = cases (set_of_word read word) takes so_far
    where
      cases : (o : Option (Result Set Refusal)) → Takes o sets new (Ok tt) → onto sets (with_set o (sets_in read rest)) ≡ whole → onto new (sets_in read rest) ≡ whole
      cases None took is = ap (λ xs. onto xs (sets_in read rest)) took.1 ∙ is
      cases (Some (Ok found)) took is =
          ap (λ xs. onto xs (sets_in read rest)) took.1 ∙ (sym (joined found (sets_in read rest)) ∙ is)
      cases (Some (Err refusal)) took is = cc

  -- a word whose set is refused
  pub stops : (refusal : Refusal) → Takes (set_of_word read word) sets new (Err refusal) → Err refusal ≡ whole
  unfolding sets_in
  stops refusal takes = cases (set_of_word read word) takes so_far
    where
      cases : (o : Option (Result Set Refusal)) → Takes o sets new (Err refusal) → onto sets (with_set o (sets_in read rest)) ≡ whole → Err refusal ≡ whole
      cases None took is = cc
      cases (Some (Ok found)) took is = cc
      cases (Some (Err other)) took is = let same : refusal ≡ other = cc in ap (λ r. Err r) same ∙ is

-- after the last word
pub ends : (read : Name → Result Set Refusal) (sets : List Set) (whole : Result (List Set) Refusal) → onto sets (sets_in read []) ≡ whole → Ok sets ≡ whole
unfolding sets_in
ends read sets whole is = ap (λ xs. Ok xs) (sym (append-nil sets)) ∙ is

-- the words from a place on
pub from_place : {Z : Type 0} (words : List (String Z)) (k : ℕ) (d : String Z) → k < length words
    → map string_bytes (drop k words) ≡ string_bytes (get_or words k d) ∷ map string_bytes (drop (k + 1) words)
from_place words k d within = rw (add-one) (ap (map string_bytes) (drop-cons words k d within))

-- ---- at a place of the words

module _ {Z : Type 0} (read : Name → Result Set Refusal) (sets new : List Set) (words : List (String Z)) (k : ℕ) (item : String Z) (text : List ℕ) (whole : Result (List Set) Refusal)
    (so_far : onto sets (sets_in read (map string_bytes (drop k words))) ≡ whole) (within : k < length words) (is : item ≡ get_or words k item) (shown : text ≡ string_bytes item) where
  here : onto sets (sets_in read (text ∷ map string_bytes (drop (k + 1) words))) ≡ whole
  here =
      ap (λ w. onto sets (sets_in read (w ∷ map string_bytes (drop (k + 1) words)))) (shown ∙ ap string_bytes is)
      ∙ (sym (ap (λ ws. onto sets (sets_in read ws)) (from_place words k item within)) ∙ so_far)

  pub goes_on_at : (r : Result (Unit {0}) Refusal) → r ≡ Ok tt → Takes (set_of_word read text) sets new r → onto new (sets_in read (map string_bytes (drop (k + 1) words))) ≡ whole
  goes_on_at r done takes =
      goes_on read sets new text (map string_bytes (drop (k + 1) words)) whole here (subst (Takes (set_of_word read text) sets new) done takes)

  pub stops_at : (r : Result (Unit {0}) Refusal) (refusal : Refusal) → r ≡ Err refusal → Takes (set_of_word read text) sets new r → Err refusal ≡ whole
  stops_at r refusal refused takes =
      stops read sets new text (map string_bytes (drop (k + 1) words)) whole here refusal (subst (Takes (set_of_word read text) sets new) refused takes)

pub ends_at : {Z : Type 0} (read : Name → Result Set Refusal) (sets : List Set) (words : List (String Z)) (k : ℕ) (whole : Result (List Set) Refusal)
    → onto sets (sets_in read (map string_bytes (drop k words))) ≡ whole → length words ≤ k → Ok sets ≡ whole
ends_at read sets words k whole so_far all =
    ends read sets whole (sym (ap (λ ws. onto sets (sets_in read (map string_bytes ws))) (drop_of_length-le words all)) ∙ so_far)
