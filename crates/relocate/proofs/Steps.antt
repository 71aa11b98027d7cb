-- Constants that are given their numbers one after the other.
use Rattle.std.proofs.Common.{arith, ◌≡◌, ℕ, ◌+◌, ◌<◌, ◌≤◌, Bool, List, [], ◌∷◌, length, map, fold, drop, get_or, sym, ◌∙◌, ap, subst}
use Rattle.std.proofs.lemmas.List.{length-map, get_or-map}
use Rattle.std.proofs.Math.Seq.{map-set_same}
use Rattle.std.proofs.lemmas.Option.{get_or_from_slice_get, slice_get_within}
use Rattle.std.proofs.lemmas.Grind.{common_steps}
use Rattle.byteorder.specs.Numbers.{length-bytes_high_first}
use Rattle.sym_mod.specs.Sound.{IsSoundProgram, IsSoundConstant, LieInSection}
use Rattle.sym_mod.specs.declared.program.Program.{Program}
use Rattle.sym_mod.specs.declared.program.Constant.{Constant}
use Rattle.sym_mod.specs.declared.program.Places.{Places}
use Rattle.linking_model.specs.Places.{Laid}
use Rattle.text_store.specs.Content.{section_of, with_bytes, overwritten, LieInContent, StayWritable}
use Rattle.text_store.proofs.Writes.{length_overwritten}
use Rattle.relocate.specs.Relocated.{new_field, field_of, relocated}
use Rattle.relocate.proofs.Bounds.{Found, in_section}
use Rattle.relocate.proofs.Fields.{LiesIn, KeepsLength, with_constant, all_written}

-- the content has the sections of the program, with their lengths
abbrev pub HasLengths : List (List ℕ) → Program → Type 0
HasLengths X p = map length X ≡ map (λ x. x.length) p.sections

pub lies_at : (X : List (List ℕ)) (p : Program) (i offset n : ℕ) → HasLengths X p → LieInSection p i offset n → LieInContent X i offset n
lies_at X p i offset n sizes inside =
    let at : Found p.sections i (λ x. offset + n ≤ x.length) = in_section p i offset n inside in
    let count : length X ≡ length p.sections = sym (length-map X length) ∙ (ap length sizes ∙ length-map p.sections (λ x. x.length)) in
    let within : i < length p.sections = slice_get_within p.sections i at.item at.found in
    let size : length (section_of X i) ≡ at.item.length =
    sym (get_or-map length X i [] 0 (subst (λ m. i < m) (sym count) within))
    ∙ (ap (λ ns. get_or ns i 0) sizes
    ∙ (get_or-map (λ x. x.length) p.sections i at.item 0 within
    ∙ ap (λ x. x.length) (get_or_from_slice_get p.sections i at.item at.item at.found))) in
    record { there = subst (λ m. i < m) (sym count) within; inside = subst (λ m. offset + n ≤ m) (sym size) at.holds }

pub lies : (X : List (List ℕ)) (p : Program) (c : Constant) → HasLengths X p → IsSoundConstant p c → LiesIn X c
lies X p c sizes sound = lies_at X p c.section c.offset c.length sizes sound.inside

pub keeps_length : (P : Laid) (a : Places) → KeepsLength (new_field P a)
unfolding new_field
keeps_length P a c field = length-bytes_high_first c.length _

pub lengths_after : (X : List (List ℕ)) (i at : ℕ) (bytes : List ℕ) → LieInContent X i at (length bytes)
    → map length (with_bytes X i at bytes) ≡ map length X
lengths_after X i at bytes inside =
    map-set_same length X i (overwritten (section_of X i) at bytes) [] (length_overwritten (section_of X i) bytes at inside.inside)

-- with the rest of the constants given their numbers, all of them are
pub record RestIsLeft (P : Laid) (a : Places) (X Y : List (List ℕ)) (w v : ℕ → ℕ → Bool) (rest : List Constant) : Type 0 where
  pub content : fold (with_constant (new_field P a)) Y rest ≡ fold (with_constant (new_field P a)) X P.program.constants
  pub lengths : HasLengths Y P.program
  pub kept : StayWritable w v

pub one_constant : (P : Laid) (a : Places) (X Y Z : List (List ℕ)) (w v u : ℕ → ℕ → Bool) (c : Constant) (rest : List Constant)
    → RestIsLeft P a X Y w v (c ∷ rest) → IsSoundConstant P.program c → Z ≡ with_constant (new_field P a) Y c → StayWritable v u
    → RestIsLeft P a X Z w u rest
one_constant P a X Y Z w v u c rest left sound written stays =
    let inside : LieInContent Y c.section c.offset (length (new_field P a c (field_of Y c))) =
    subst (λ n. LieInContent Y c.section c.offset n) (sym (keeps_length P a c (field_of Y c))) (lies Y P.program c left.lengths sound) in
    record {
      content = rw written left.content;
      lengths = rw written (lengths_after Y c.section c.offset (new_field P a c (field_of Y c)) inside ∙ left.lengths);
      kept = λ i o before. stays i o (left.kept i o before);
    }

pub all_constants : (P : Laid) (a : Places) (X Y : List (List ℕ)) (w v : ℕ → ℕ → Bool) → IsSoundProgram P.program → HasLengths X P.program
    → RestIsLeft P a X Y w v [] → Y ≡ relocated P a X
unfolding relocated
all_constants P a X Y w v sound sizes left =
    left.content
    ∙ all_written (new_field P a) (keeps_length P a) P.program.constants X
    (λ k d within. lies X P.program (get_or P.program.constants k d) sizes (sound.constants k d within)) sound.apart

pub sound_constant : (p : Program) (items : List Constant) (i : ℕ) (c : Constant) → IsSoundProgram p → items ≡ p.constants
    → i < length items → c ≡ get_or items i c → IsSoundConstant p c
sound_constant p items i c sound same within is =
    subst (IsSoundConstant p) (sym (is ∙ ap (λ xs. get_or xs i c) same)) (sound.constants i c (subst (λ xs. i < length xs) same within))

pub rest_front : (items : List Constant) (i : ℕ) (c : Constant) → i < length items → c ≡ get_or items i c
    → drop i items ≡ c ∷ drop (i + 1) items
rest_front items i c within is = grind (arith, common_steps)

pub rest_empty : (items : List Constant) (i : ℕ) → length items ≤ i → drop i items ≡ []
rest_empty items i past = grind (arith, common_steps)
