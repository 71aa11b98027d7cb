-- Texts laid one after the other are the last text at each byte.
use Rattle.std.proofs.Common.{arith, ◌≡◌, ℕ, ◌+◌, ◌-◌, ◌<◌, ◌≤◌, Bool, true, false, ◌&&◌, ◌==◌, if◌then◌else◌, List, [], ◌∷◌, length, map, fold, drop, get_or, replicate, slice_index, slice_get, All, zero, suc, refl, sym, ◌∙◌, ap, subst}
use Rattle.std.specs.List.{range_with_len}
use Rattle.std.proofs.lemmas.Grind.{common_steps}
use Rattle.std.proofs.lemmas.List.{ext_get_or, length-set, get_or-set_same, get_or-set_other, length-map, get_or-map, length-replicate, get_or-replicate}
use Rattle.std.proofs.lemmas.List.FromFn.{get_or-map-range_with_len, length-map-range_with_len}
use Rattle.std.specs.Option.{option_map_or}
use Rattle.sym_mod.specs.Sound.{IsSoundProgram, LieInSection}
use Rattle.sym_mod.specs.declared.program.Program.{Program}
use Rattle.sym_mod.specs.declared.program.Section.{Section}
use Rattle.sym_mod.specs.declared.program.Text.{Text}
use Rattle.linking_model.specs.Numbers.{is_among}
use Rattle.linking_model.specs.Places.{length_of_section}
use Rattle.linking_model.specs.Linked.{stored_byte}
use Rattle.text_store.specs.Content.{section_of, overwritten}
use Rattle.relocate.specs.Agreeing.{stored_text}
use Rattle.relocate.proofs.Bounds.{Found, in_section}
use Rattle.relocate.proofs.Steps.{HasLengths, lies_at, lengths_after}
use Rattle.block_storage.specs.Texts.{with_text}
use Rattle.block_storage.proofs.Writing.{written}

-- sections whose bytes a function gives
abbrev pub text_of : Program → (ℕ → ℕ → ℕ) → List (List ℕ)
text_of p byte = map (λ i. map (byte i) (range_with_len 0 (length_of_section p i))) (range_with_len 0 (length p.sections))

-- the byte at o of section i once a text was laid
abbrev pub byte_with : Text → ℕ → ℕ → ℕ → ℕ
byte_with t i o byte = if t.section == i && is_among t.offset (length t.bytes) o then slice_index t.bytes (o - t.offset) else byte

section_of_text : (p : Program) (byte : ℕ → ℕ → ℕ) (i : ℕ) → i < length p.sections
    → section_of (text_of p byte) i ≡ map (byte i) (range_with_len 0 (length_of_section p i))
section_of_text p byte i within =
    get_or-map-range_with_len (λ i. map (byte i) (range_with_len 0 (length_of_section p i))) 0 (length p.sections) i i [] within (omega arith)

map_same : {A B : Type 0} (f g : A → B) (xs : List A) → ((x : A) → f x ≡ g x) → map f xs ≡ map g xs
map_same f g [] same = refl
map_same f g (x ∷ xs) same = rw (same x, map_same f g xs same) refl

pub one_text : (p : Program) (byte : ℕ → ℕ → ℕ) (t : Text) → LieInSection p t.section t.offset (length t.bytes)
    → with_text (text_of p byte) t ≡ text_of p (λ i o. byte_with t i o (byte i o))
one_text p byte t lies =
    ext_get_or [] _ _
    (length-set (text_of p byte) t.section _ ∙ (count byte ∙ sym (count (λ i o. byte_with t i o (byte i o)))))
    (λ i within. each i (subst (λ n. i < n) (length-set (text_of p byte) t.section _ ∙ count byte) within) (t.section == i) refl)
  where
    count : (b : ℕ → ℕ → ℕ) → length (text_of p b) ≡ length p.sections
    count b = length-map-range_with_len (λ i. map (b i) (range_with_len 0 (length_of_section p i))) 0 (length p.sections)

    at : Found p.sections t.section (λ x. t.offset + length t.bytes ≤ x.length)
    at = in_section p t.section t.offset (length t.bytes) lies

    size : length_of_section p t.section ≡ at.item.length
    size = ap (λ o. option_map_or (λ x. x.length) o 0) at.found

    each : (i : ℕ) → i < length p.sections → (b : Bool) → (t.section == i) ≡ b
        → get_or (with_text (text_of p byte) t) i [] ≡ get_or (text_of p (λ i o. byte_with t i o (byte i o))) i []
    each i within true same =
        let is : i ≡ t.section = grind (arith, same) in
        let there : t.section < length p.sections = subst (λ n. n < length p.sections) is within in
        let fits : t.offset + length t.bytes ≤ length_of_section p t.section = rw size at.holds in
        let own : (t.section == t.section) ≡ true = grind arith in
        rw is
        (get_or-set_same (text_of p byte) t.section (overwritten (section_of (text_of p byte) t.section) t.offset t.bytes) []
        (subst (λ n. t.section < n) (sym (count byte)) there)
        ∙ (ap (λ xs. overwritten xs t.offset t.bytes) (section_of_text p byte t.section there)
        ∙ (written (byte t.section) (λ o. byte_with t t.section o (byte t.section o)) (length_of_section p t.section) t.offset t.bytes fits
        (λ o _. ap (λ b. if b && is_among t.offset (length t.bytes) o then slice_index t.bytes (o - t.offset) else byte t.section o) own)
        ∙ sym (section_of_text p (λ i o. byte_with t i o (byte i o)) t.section there))))
    each i within false other =
        get_or-set_other (text_of p byte) t.section i (overwritten (section_of (text_of p byte) t.section) t.offset t.bytes) [] (grind (arith, other))
        ∙ (section_of_text p byte i within
        ∙ (map_same (byte i) (λ o. byte_with t i o (byte i o)) (range_with_len 0 (length_of_section p i))
        (λ o. sym (ap (λ b. if b && is_among t.offset (length t.bytes) o then slice_index t.bytes (o - t.offset) else byte i o) other))
        ∙ sym (section_of_text p (λ i o. byte_with t i o (byte i o)) i within)))

abbrev pub laid_byte : List Text → ℕ → ℕ → ℕ → ℕ
laid_byte texts i o byte = fold (λ b t. byte_with t i o b) byte texts

pub all_texts : (p : Program) (byte : ℕ → ℕ → ℕ) (texts : List Text) → All (λ t. LieInSection p t.section t.offset (length t.bytes)) texts
    → fold with_text (text_of p byte) texts ≡ text_of p (λ i o. laid_byte texts i o (byte i o))
all_texts p byte [] lie = refl
all_texts p byte (t ∷ texts) lie =
    ap (λ X. fold with_text X texts) (one_text p byte t (lie 0 t (omega arith)))
    ∙ all_texts p (λ i o. byte_with t i o (byte i o)) texts (λ k d within. lie (suc k) d (omega (arith, within)))

zeros : (n : ℕ) → replicate {A = ℕ} n 0 ≡ map (λ o. 0) (range_with_len 0 n)
zeros n =
    ext_get_or {A = ℕ} 0 _ _ (length-replicate {A = ℕ} n 0 ∙ sym (length-map-range_with_len (λ o. 0) 0 n))
    (λ i within. let below : i < n = subst (λ m. i < m) (length-replicate {A = ℕ} n 0) within in
    get_or-replicate {A = ℕ} n i 0 0 below ∙ sym (get_or-map-range_with_len (λ o. 0) 0 n i i 0 below (omega arith)))

pub lengths_got : (xs : List Section) (i : ℕ) → get_or (map (λ x. x.length) xs) i 0 ≡ option_map_or (λ x. x.length) (slice_get xs i) 0
lengths_got [] i = refl
lengths_got (x ∷ xs) zero = refl
lengths_got (x ∷ xs) (suc i) = lengths_got xs i

pub no_text : (p : Program) → map (λ n. replicate {A = ℕ} n 0) (map (λ x. x.length) p.sections) ≡ text_of p (λ i o. 0)
no_text p =
    ext_get_or [] _ _
    (length-map (map (λ x. x.length) p.sections) (λ n. replicate {A = ℕ} n 0)
    ∙ (length-map p.sections (λ x. x.length)
    ∙ sym (length-map-range_with_len (λ i. map (λ o. 0) (range_with_len 0 (length_of_section p i))) 0 (length p.sections))))
    (λ i within.
    let first : i < length (map (λ x. x.length) p.sections) = subst (λ n. i < n) (length-map (map (λ x. x.length) p.sections) (λ n. replicate {A = ℕ} n 0)) within in
    let there : i < length p.sections = subst (λ n. i < n) (length-map p.sections (λ x. x.length)) first in
    get_or-map (λ n. replicate {A = ℕ} n 0) (map (λ x. x.length) p.sections) i 0 [] first
    ∙ (ap (λ n. replicate {A = ℕ} n 0) (lengths_got p.sections i)
    ∙ (zeros (length_of_section p i) ∙ sym (section_of_text p (λ i o. 0) i there))))

pub stored_all : (p : Program) → All (λ t. LieInSection p t.section t.offset (length t.bytes)) p.texts
    → fold with_text (map (λ n. replicate {A = ℕ} n 0) (map (λ x. x.length) p.sections)) p.texts ≡ stored_text p
unfolding stored_text stored_byte
stored_all p lie = ap (λ X. fold with_text X p.texts) (no_text p) ∙ all_texts p (λ i o. 0) p.texts lie

-- ---- the loop

-- with the rest of the texts laid, all are
pub record RestIsLeft (p : Program) (X Y : List (List ℕ)) (rest : List Text) : Type 0 where
  pub content : fold with_text Y rest ≡ fold with_text X p.texts
  pub lengths : HasLengths Y p

pub one_laid : (p : Program) (X Y Z : List (List ℕ)) (t : Text) (rest : List Text) → RestIsLeft p X Y (t ∷ rest)
    → LieInSection p t.section t.offset (length t.bytes) → Z ≡ with_text Y t → RestIsLeft p X Z rest
one_laid p X Y Z t rest left lies laid = record {
  content = rw laid left.content;
  lengths = rw laid (lengths_after Y t.section t.offset t.bytes (lies_at Y p t.section t.offset (length t.bytes) left.lengths lies) ∙ left.lengths);
}

pub rest_front : (items : List Text) (i : ℕ) (t : Text) → i < length items → t ≡ get_or items i t → drop i items ≡ t ∷ drop (i + 1) items
rest_front items i t within is = grind (arith, common_steps)

pub rest_empty : (items : List Text) (i : ℕ) → length items ≤ i → drop i items ≡ []
rest_empty items i past = grind (arith, common_steps)

pub sound_text : (p : Program) (items : List Text) (i : ℕ) (t : Text) → IsSoundProgram p → items ≡ p.texts → i < length items
    → t ≡ get_or items i t → LieInSection p t.section t.offset (length t.bytes)
sound_text p items i t sound same within is =
    subst (λ x. LieInSection p x.section x.offset (length x.bytes)) (sym (is ∙ ap (λ xs. get_or xs i t) same))
    (sound.texts i t (subst (λ xs. i < length xs) same within))

pub zero_lengths : (ns : List ℕ) → map length (map (λ n. replicate {A = ℕ} n 0) ns) ≡ ns
zero_lengths [] = refl
zero_lengths (n ∷ ns) = rw (length-replicate {A = ℕ} n 0, zero_lengths ns) refl
