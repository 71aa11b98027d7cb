-- Maps that are filled from the end, so that the first of each name stays.
use Rattle.std.proofs.Common.{◌≡◌, ℕ, ◌+◌, ◌-◌, ◌<◌, ◌≤◌, Bool, true, false, ◌||◌, cond, if◌then◌else◌, List, [], ◌∷◌, length, drop, Option, Some, None, option_map, find, position, nat_lt, get_or, is_some, refl, sym, ap, ◌∙◌, arith}
use Rattle.std.specs.List.{list_any, position_or_len}
use Rattle.std.proofs.lemmas.Bool.{lt-ltb, le-ltb, ltb-true, ltb-false}
use Rattle.std.proofs.lemmas.List.Quantifiers.{position-Some}
use Rattle.std.proofs.lemmas.List.Recursion.{is_position_or_len}
use Rattle.std.proofs.lemmas.List.{drop_more, drop_all}
use Rattle.le_bytes.specs.declared.name.Name.{Name}
use Rattle.le_bytes.specs.Names.{name_eq}
use Rattle.sym_mod.specs.declared.program.Section.{Section}
use Rattle.sym_mod.specs.declared.program.Label.{Label}
use Rattle.linking_model.specs.Settled.{is_section_named}
use Rattle.addr_assign.specs.Maps.{first_insert, first_label, section_from}

-- one INSERT more in front
pub insert_step : (inserts : List (Name × ℕ)) (i : ℕ) (d : Name × ℕ) (n : Name) (old new : Option ℕ) → i < length inserts → old ≡ first_insert (drop (i + 1) inserts) n → new ≡ cond (name_eq (get_or inserts i d).0 n) (Some (get_or inserts i d).1) old → new ≡ first_insert (drop i inserts) n
unfolding first_insert
insert_step inserts i d n old new low was is =
    is ∙ ap (λ o. cond (name_eq (get_or inserts i d).0 n) (Some (get_or inserts i d).1) o) was ∙ by_test (name_eq (get_or inserts i d).0 n)
    ∙ ap (λ l. option_map (λ y. y.1) (find (λ y. name_eq y.0 n) l)) (sym (drop_more inserts i d low))
  where
    by_test : (b : Bool) → cond b (Some (get_or inserts i d).1) (option_map (λ y. y.1) (find (λ y. name_eq y.0 n) (drop (i + 1) inserts))) ≡ option_map (λ y. y.1) (cond b (Some (get_or inserts i d)) (find (λ y. name_eq y.0 n) (drop (i + 1) inserts)))
    by_test true = refl
    by_test false = refl

-- counted from the end
pub insert_back : (inserts : List (Name × ℕ)) (done : ℕ) (d : Name × ℕ) (n : Name) (old new : Option ℕ) → done < length inserts → old ≡ first_insert (drop (length inserts - done) inserts) n → new ≡ cond (name_eq (get_or inserts (length inserts - 1 - done) d).0 n) (Some (get_or inserts (length inserts - 1 - done) d).1) old → new ≡ first_insert (drop (length inserts - (done + 1)) inserts) n
insert_back inserts done d n old new low was is =
    let at : length inserts - 1 - done ≡ length inserts - (done + 1) = omega arith in
    let next : length inserts - (done + 1) + 1 ≡ length inserts - done = omega arith in
    insert_step inserts (length inserts - (done + 1)) d n old new (omega arith)
    (was ∙ ap (λ k. first_insert (drop k inserts) n) (sym next))
    (is ∙ ap (λ k. cond (name_eq (get_or inserts k d).0 n) (Some (get_or inserts k d).1) old) at)

pub no_inserts : (inserts : List (Name × ℕ)) (n : Name) → None ≡ first_insert (drop (length inserts - 0) inserts) n
unfolding first_insert
no_inserts inserts n = let none : drop (length inserts - 0) inserts ≡ [] = drop_all (length inserts - 0) inserts (omega arith) in rw none refl

-- ---- sections by name

pub section_there : (k : ℕ) (sections : List Section) (n : Name) → is_some (section_from k sections n) ≡ list_any (is_section_named n) sections
unfolding section_from
section_there k [] n = refl
section_there k (x ∷ xs) n = by_test (is_section_named n x) (section_there (k + 1) xs n)
  where
    by_test : (b : Bool) → is_some (section_from (k + 1) xs n) ≡ list_any (is_section_named n) xs → is_some (if b then Some k else section_from (k + 1) xs n) ≡ (b || list_any (is_section_named n) xs)
    by_test true h = refl
    by_test false h = h

section_step : (sections : List Section) (i : ℕ) (d : Section) (n : Name) (old new : Option ℕ) → i < length sections → old ≡ section_from (i + 1) (drop (i + 1) sections) n → new ≡ (if is_section_named n (get_or sections i d) then Some i else old) → new ≡ section_from i (drop i sections) n
unfolding section_from
section_step sections i d n old new low was is =
    is ∙ ap (λ o. if is_section_named n (get_or sections i d) then Some i else o) was
    ∙ ap (λ l. section_from i l n) (sym (drop_more sections i d low))

pub section_back : (sections : List Section) (done : ℕ) (d : Section) (n : Name) (old new : Option ℕ) → done < length sections → old ≡ section_from (length sections - done) (drop (length sections - done) sections) n → new ≡ (if is_section_named n (get_or sections (length sections - 1 - done) d) then Some (length sections - 1 - done) else old) → new ≡ section_from (length sections - (done + 1)) (drop (length sections - (done + 1)) sections) n
section_back sections done d n old new low was is =
    let at : length sections - 1 - done ≡ length sections - (done + 1) = omega arith in
    let next : length sections - (done + 1) + 1 ≡ length sections - done = omega arith in
    section_step sections (length sections - (done + 1)) d n old new (omega arith)
    (was ∙ ap (λ k. section_from k (drop k sections) n) (sym next))
    (is ∙ ap (λ k. if is_section_named n (get_or sections k d) then Some k else old) at)

pub no_sections : (sections : List Section) (n : Name) → None ≡ section_from (length sections - 0) (drop (length sections - 0) sections) n
unfolding section_from
no_sections sections n = let none : drop (length sections - 0) sections ≡ [] = drop_all (length sections - 0) sections (omega arith) in rw none refl

-- ---- labels by name

label_step : (labels : List Label) (i : ℕ) (d : Label) (n : Name) (old new : Option Label) → i < length labels → old ≡ first_label (drop (i + 1) labels) n → new ≡ cond (name_eq (get_or labels i d).name n) (Some (get_or labels i d)) old → new ≡ first_label (drop i labels) n
unfolding first_label
label_step labels i d n old new low was is =
    is ∙ ap (λ o. cond (name_eq (get_or labels i d).name n) (Some (get_or labels i d)) o) was
    ∙ ap (λ l. find (λ x. name_eq x.name n) l) (sym (drop_more labels i d low))

pub label_back : (labels : List Label) (done : ℕ) (d : Label) (n : Name) (old new : Option Label) → done < length labels → old ≡ first_label (drop (length labels - done) labels) n → new ≡ cond (name_eq (get_or labels (length labels - 1 - done) d).name n) (Some (get_or labels (length labels - 1 - done) d)) old → new ≡ first_label (drop (length labels - (done + 1)) labels) n
label_back labels done d n old new low was is =
    let at : length labels - 1 - done ≡ length labels - (done + 1) = omega arith in
    let next : length labels - (done + 1) + 1 ≡ length labels - done = omega arith in
    label_step labels (length labels - (done + 1)) d n old new (omega arith)
    (was ∙ ap (λ k. first_label (drop k labels) n) (sym next))
    (is ∙ ap (λ k. cond (name_eq (get_or labels k d).name n) (Some (get_or labels k d)) old) at)

pub no_labels : (labels : List Label) (n : Name) → None ≡ first_label (drop (length labels - 0) labels) n
unfolding first_label
no_labels labels n = let none : drop (length labels - 0) labels ≡ [] = drop_all (length labels - 0) labels (omega arith) in rw none refl

-- ---- the place of a name

position_step : (t : Bool) (k j m n : ℕ) (rest : Option ℕ) → m ≡ n + 1 → rest ≡ option_map (λ i. (k + 1) + i) (cond (nat_lt j n) (Some j) None) → (if t then Some k else rest) ≡ option_map (λ i. k + i) (cond (nat_lt (cond t 0 (1 + j)) m) (Some (cond t 0 (1 + j))) None)
position_step true k j m n rest size is = let low : nat_lt 0 m ≡ true = lt-ltb 0 m (omega arith) in let e : k + 0 ≡ k = omega arith in rw (low, e) refl
position_step false k j m n rest size is =
    is ∙ elim (nat_lt j n) as (λ b. nat_lt j n ≡ b → option_map (λ i. (k + 1) + i) (cond b (Some j) None) ≡ option_map (λ i. k + i) (cond (nat_lt (1 + j) m) (Some (1 + j)) None)) [
      | true ↦ λ e. let low : j < n = ltb-true j n e in let more : nat_lt (1 + j) m ≡ true = lt-ltb (1 + j) m (omega arith) in let sum : (k + 1) + j ≡ k + (1 + j) = omega arith in rw (more, sum) refl
      | false ↦ λ e. let high : n ≤ j = ltb-false j n e in let more : nat_lt (1 + j) m ≡ false = le-ltb (1 + j) m (omega arith) in rw more refl
    ] refl

place_or_len : Name → List Section → ℕ
place_or_len n [] = 0
place_or_len n (x ∷ xs) = cond (is_section_named n x) 0 (1 + place_or_len n xs)

place_is : (n : Name) (xs : List Section) → place_or_len n xs ≡ position_or_len (is_section_named n) xs
unfolding place_or_len
place_is n xs = is_position_or_len (place_or_len n) (is_section_named n) refl (λ x xs. refl) xs

abbrev placed : ℕ → ℕ → Option ℕ
placed place n = cond (nat_lt place n) (Some place) None

section_placed : (k : ℕ) (sections : List Section) (n : Name) → section_from k sections n ≡ option_map (λ i. k + i) (placed (place_or_len n sections) (length sections))
unfolding section_from place_or_len
section_placed k [] n = refl
section_placed k (x ∷ xs) n =
    position_step (is_section_named n x) k (place_or_len n xs) (length (x ∷ xs)) (length xs) (section_from (k + 1) xs n) (omega arith) (section_placed (k + 1) xs n)

section_position : (k : ℕ) (sections : List Section) (n : Name) → section_from k sections n ≡ option_map (λ i. k + i) (position (is_section_named n) sections)
section_position k sections n =
    section_placed k sections n ∙ ap (λ j. option_map (λ i. k + i) (placed j (length sections))) (place_is n sections)

pub sections_first : (sections : List Section) (n : Name) → section_from 0 sections n ≡ position (is_section_named n) sections
sections_first sections n = section_position 0 sections n ∙ same (position (is_section_named n) sections)
  where
    same : (o : Option ℕ) → option_map (λ i. 0 + i) o ≡ o
    same None = refl
    same (Some i) = let e : 0 + i ≡ i = omega arith in ap (λ j. Some j) e

pub position_within : {X : Type 0} (test : X → Bool) (xs : List X) (at : ℕ) (d : X) → position test xs ≡ Some at → at < length xs
position_within test xs at d is = (position-Some test xs at d is).0

pub label_is : (labels : List Label) (n : Name) → first_label labels n ≡ find (λ x. name_eq x.name n) labels
unfolding first_label
label_is labels n = refl
