-- Constants written one after the other, none over another, are found at each byte.
use Rattle.std.proofs.Common.{arith, ◌≡◌, ℕ, suc, ◌+◌, ◌-◌, ◌<◌, ◌≤◌, ◌⊎◌, Bool, true, false, ◌==◌, nat_lt, inl, inr, if◌then◌else◌, List, [], ◌∷◌, length, map, fold, take, drop, get_or, slice_index, All, AllPairs, refl, sym, ◌∙◌, ap, subst, Option, Some, None}
use Rattle.std.specs.List.{range_with_len, find}
use Rattle.std.proofs.lemmas.Option.{none-some}
use Rattle.std.specs.Option.{option_map_or}
use Rattle.std.proofs.lemmas.List.{ext_get_or}
use Rattle.std.proofs.lemmas.List.FromFn.{get_or-map-range_with_len, length-map-range_with_len}
use Rattle.sym_mod.specs.declared.program.Constant.{Constant}
use Rattle.sym_mod.specs.Sound.{ConstantsApart}
use Rattle.linking_model.specs.Linked.{covers, constant_at}
use Rattle.text_store.specs.Content.{section_of, overwritten, with_bytes, LieInContent}
use Rattle.text_store.proofs.Writes.{section_written, section_other, length_with_bytes, section_length_with_bytes, lies_after, field_before, field_after, byte_inside, byte_before, byte_after}
use Rattle.relocate.specs.Relocated.{field_of, byte_by, section_by, content_by}

-- the constant's places are in the content
abbrev pub LiesIn : List (List ℕ) → Constant → Type 0
LiesIn content c = LieInContent content c.section c.offset c.length

-- the content with one constant's new bytes
abbrev pub with_constant : (Constant → List ℕ → List ℕ) → List (List ℕ) → Constant → List (List ℕ)
with_constant new content c = with_bytes content c.section c.offset (new c (field_of content c))

-- ---- what covers a byte

covered_section : (i o : ℕ) (c : Constant) → covers i o c ≡ true → c.section ≡ i
covered_section i o c inside = grind (arith, inside)

covered_from : (i o : ℕ) (c : Constant) → covers i o c ≡ true → c.offset ≤ o
covered_from i o c inside = grind (arith, inside)

covered_to : (i o : ℕ) (c : Constant) → covers i o c ≡ true → o < c.offset + c.length
covered_to i o c inside = grind (arith, inside)

apart_cover : (i o : ℕ) (c d : Constant) → ConstantsApart c d → covers i o c ≡ true → covers i o d ≡ false
apart_cover i o c d apart inside = by_cases (covers i o d) refl
  where
    by_cases : (b : Bool) → covers i o d ≡ b → covers i o d ≡ false
    by_cases false outside = outside
    by_cases true both =
        let c_from = covered_from i o c inside in
        let c_to = covered_to i o c inside in
        let d_from = covered_from i o d both in
        let d_to = covered_to i o d both in
        let sides = apart (covered_section i o c inside ∙ sym (covered_section i o d both)) in
        absurd (omega (arith, sides, c_from, c_to, d_from, d_to))

pub none_covers : (i o : ℕ) (c : Constant) (rest : List Constant) → All (ConstantsApart c) rest → covers i o c ≡ true
    → find (covers i o) rest ≡ None
none_covers i o c [] apart inside = refl
none_covers i o c (d ∷ rest) apart inside =
    rw (apart_cover i o c d (apart 0 d (omega arith)) inside) (none_covers i o c rest (λ k e within. apart (suc k) e (omega (arith, within))) inside)

pub found_holds : {X : Type 0} (P : X → Type 0) (p : X → Bool) (xs : List X) (x : X) → All P xs → find p xs ≡ Some x → P x
found_holds P p [] x all found = absurd (none-some x found)
found_holds P p (y ∷ ys) x all found =
    by_cases (p y) refl (λ rest. found_holds P p ys x (λ k e within. all (suc k) e (omega (arith, within))) rest)
  where
    by_cases : (b : Bool) → p y ≡ b → (find p ys ≡ Some x → P x) → P x
    by_cases true first later = let front = rw first at found in subst P (cc) (all 0 y (omega arith))
    by_cases false not_y later = later (rw not_y at found)

-- ---- bytes after one write

pub written_byte : (X : List (List ℕ)) (c : Constant) (bytes : List ℕ) (i o : ℕ) → LiesIn X c → length bytes ≡ c.length
    → slice_index (section_of (with_bytes X c.section c.offset bytes) i) o
    ≡ (if covers i o c then slice_index bytes (o - c.offset) else slice_index (section_of X i) o)
written_byte X c bytes i o lies size = by_cases (covers i o c) refl (i == c.section) refl (nat_lt o c.offset) refl
  where
    fits : c.offset + length bytes ≤ length (section_of X c.section)
    fits = omega (arith, lies.inside, size)

    there : section_of (with_bytes X c.section c.offset bytes) c.section ≡ overwritten (section_of X c.section) c.offset bytes
    there = section_written X c.section c.offset bytes lies.there

    by_cases : (b : Bool) → covers i o c ≡ b → (s : Bool) → (i == c.section) ≡ s → (l : Bool) → nat_lt o c.offset ≡ l
        → slice_index (section_of (with_bytes X c.section c.offset bytes) i) o
        ≡ (if b then slice_index bytes (o - c.offset) else slice_index (section_of X i) o)
    by_cases true inside s same l low =
        let is : i ≡ c.section = sym (covered_section i o c inside) in
        rw (is, there) (byte_inside (section_of X c.section) bytes c.offset o fits (covered_from i o c inside) (omega (arith, covered_to i o c inside, size)))
    by_cases false outside false other l low =
        ap (λ xs. slice_index xs o) (section_other X c.section i c.offset bytes (grind (arith, other)))
    by_cases false outside true same true low =
        let is : i ≡ c.section = grind (arith, same) in
        rw (is, there) (byte_before (section_of X c.section) bytes c.offset o fits (grind (arith, low)))
    by_cases false outside true same false high =
        let is : i ≡ c.section = grind (arith, same) in
        rw (is, there) (byte_after (section_of X c.section) bytes c.offset o fits (past (rw is at outside)))
      where
        past : covers c.section o c ≡ false → c.offset + length bytes ≤ o
        past out = grind (arith, out, high, size)

pub field_same : (X : List (List ℕ)) (c d : Constant) (bytes : List ℕ) → LiesIn X c → length bytes ≡ c.length → ConstantsApart c d
    → field_of (with_bytes X c.section c.offset bytes) d ≡ field_of X d
field_same X c d bytes lies size apart = by_cases (d.section == c.section) refl
  where
    fits : c.offset + length bytes ≤ length (section_of X c.section)
    fits = omega (arith, lies.inside, size)

    sides : (c.offset + c.length ≤ d.offset) ⊎ (d.offset + d.length ≤ c.offset)
        → take d.length (drop d.offset (overwritten (section_of X c.section) c.offset bytes)) ≡ take d.length (drop d.offset (section_of X c.section))
    sides (inl after) = field_after (section_of X c.section) bytes c.offset d.offset d.length fits (omega (arith, after, size))
    sides (inr before) = field_before (section_of X c.section) bytes c.offset d.offset d.length fits before

    by_cases : (b : Bool) → (d.section == c.section) ≡ b → field_of (with_bytes X c.section c.offset bytes) d ≡ field_of X d
    by_cases false other =
        ap (λ xs. take d.length (drop d.offset xs)) (section_other X c.section d.section c.offset bytes (grind (arith, other)))
    by_cases true same =
        let is : d.section ≡ c.section = grind (arith, same) in
        rw (is, section_written X c.section c.offset bytes lies.there) (sides (apart (sym is)))

-- ---- one more constant in front

abbrev pub byte_found : (Constant → List ℕ → List ℕ) → List (List ℕ) → ℕ → ℕ → Option Constant → ℕ
byte_found new content i o found =
    option_map_or (λ c. slice_index (new c (field_of content c)) (o - c.offset)) found (slice_index (section_of content i) o)

-- each new field is as long as the old one
abbrev pub KeepsLength : (Constant → List ℕ → List ℕ) → Type 0
KeepsLength new = (c : Constant) (field : List ℕ) → length (new c field) ≡ c.length

pub same_found : (new : Constant → List ℕ → List ℕ) (sized : KeepsLength new) (c : Constant) (rest : List Constant) (X : List (List ℕ)) (i o : ℕ)
    → LiesIn X c → All (ConstantsApart c) rest → covers i o c ≡ false → (f : Option Constant) → find (covers i o) rest ≡ f
    → byte_found new (with_constant new X c) i o f ≡ byte_found new X i o f
same_found new sized c rest X i o lies apart outside None none =
    written_byte X c (new c (field_of X c)) i o lies (sized c (field_of X c)) ∙ rw outside refl
same_found new sized c rest X i o lies apart outside (Some d) found =
    ap (λ field. slice_index (new d field) (o - d.offset))
    (field_same X c d (new c (field_of X c)) lies (sized c (field_of X c)) (found_holds (ConstantsApart c) (covers i o) rest d apart found))

pub front_found : (new : Constant → List ℕ → List ℕ) (sized : KeepsLength new) (c : Constant) (rest : List Constant) (X : List (List ℕ)) (i o : ℕ)
    → LiesIn X c → All (ConstantsApart c) rest
    → byte_found new (with_constant new X c) i o (find (covers i o) rest) ≡ byte_found new X i o (find (covers i o) (c ∷ rest))
front_found new sized c rest X i o lies apart = by_cases (covers i o c) refl
  where
    by_cases : (b : Bool) → covers i o c ≡ b
        → byte_found new (with_constant new X c) i o (find (covers i o) rest) ≡ byte_found new X i o (find (covers i o) (c ∷ rest))
    by_cases true inside =
        let front : find (covers i o) (c ∷ rest) ≡ Some c = rw inside refl in
        let none : find (covers i o) rest ≡ None = none_covers i o c rest apart inside in
        rw (front, none) (written_byte X c (new c (field_of X c)) i o lies (sized c (field_of X c)) ∙ rw inside refl)
    by_cases false outside =
        let front : find (covers i o) (c ∷ rest) ≡ find (covers i o) rest = rw outside refl in
        rw front (same_found new sized c rest X i o lies apart outside (find (covers i o) rest) refl)

pub found_at : (constants : List Constant) (i o : ℕ) → constant_at constants i o ≡ find (covers i o) constants
unfolding constant_at
found_at constants i o = refl

pub front_byte : (new : Constant → List ℕ → List ℕ) (sized : KeepsLength new) (c : Constant) (rest : List Constant) (X : List (List ℕ)) (i o : ℕ)
    → LiesIn X c → All (ConstantsApart c) rest
    → byte_by new rest (with_constant new X c) i o ≡ byte_by new (c ∷ rest) X i o
front_byte new sized c rest X i o lies apart =
    ap (byte_found new (with_constant new X c) i o) (found_at rest i o)
    ∙ (front_found new sized c rest X i o lies apart ∙ ap (byte_found new X i o) (sym (found_at (c ∷ rest) i o)))

-- ---- whole contents

map_same : {A B : Type 0} (f g : A → B) (xs : List A) → ((x : A) → f x ≡ g x) → map f xs ≡ map g xs
map_same f g [] same = refl
map_same f g (x ∷ xs) same = rw (same x, map_same f g xs same) refl

each_got : {A : Type 0} (xs : List A) (d : A) → map (λ i. get_or xs i d) (range_with_len 0 (length xs)) ≡ xs
each_got xs d =
    ext_get_or d _ _ (length-map-range_with_len (λ i. get_or xs i d) 0 (length xs))
    (λ i within. get_or-map-range_with_len (λ i. get_or xs i d) 0 (length xs) i i d
    (subst (λ m. i < m) (length-map-range_with_len (λ i. get_or xs i d) 0 (length xs)) within) (omega arith))

pub without_constants : (new : Constant → List ℕ → List ℕ) (X : List (List ℕ)) → content_by new [] X ≡ X
unfolding constant_at
without_constants new X =
    map_same (section_by new [] X) (λ i. get_or X i []) (range_with_len 0 (length X)) (λ i. each_got (section_of X i) 0)
    ∙ each_got X []

pub front_content : (new : Constant → List ℕ → List ℕ) (sized : KeepsLength new) (c : Constant) (rest : List Constant) (X : List (List ℕ))
    → LiesIn X c → All (ConstantsApart c) rest → content_by new rest (with_constant new X c) ≡ content_by new (c ∷ rest) X
front_content new sized c rest X lies apart =
    let bytes : List ℕ = new c (field_of X c) in
    let inside : LieInContent X c.section c.offset (length bytes) = subst (λ m. LieInContent X c.section c.offset m) (sym (sized c (field_of X c))) lies in
    rw (length_with_bytes X c.section c.offset bytes)
    (map_same (section_by new rest (with_constant new X c)) (section_by new (c ∷ rest) X) (range_with_len 0 (length X))
    (λ i. rw (section_length_with_bytes X c.section c.offset bytes i inside)
    (map_same (byte_by new rest (with_constant new X c) i) (byte_by new (c ∷ rest) X i) (range_with_len 0 (length (section_of X i)))
    (λ o. front_byte new sized c rest X i o lies apart))))

pub all_written : (new : Constant → List ℕ → List ℕ) (sized : KeepsLength new) (constants : List Constant) (X : List (List ℕ))
    → All (LiesIn X) constants → AllPairs ConstantsApart constants → fold (with_constant new) X constants ≡ content_by new constants X
all_written new sized [] X lie apart = sym (without_constants new X)
all_written new sized (c ∷ rest) X lie apart =
    let bytes : List ℕ = new c (field_of X c) in
    let first : LiesIn X c = lie 0 c (omega arith) in
    let inside : LieInContent X c.section c.offset (length bytes) = subst (λ m. LieInContent X c.section c.offset m) (sym (sized c (field_of X c))) first in
    all_written new sized rest (with_constant new X c)
    (λ k e within. lies_after X c.section c.offset bytes _ _ _ inside (lie (suc k) e (omega (arith, within))))
    (λ i j e before within. apart (suc i) (suc j) e (omega (arith, before)) (omega (arith, within)))
    ∙ front_content new sized c rest X first (λ k e within. apart 0 (suc k) e (omega arith) (omega (arith, within)))
