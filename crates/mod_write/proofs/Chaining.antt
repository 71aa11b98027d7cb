-- The constants of a section, found from one to the next.
use Rattle.std.proofs.Common.{◌≡◌, ◌≢◌, ℕ, zero, suc, ◌+◌, ◌<◌, ◌≤◌, Bool, true, false, ◌==◌, if◌then◌else◌, List, [], ◌∷◌, ◌++◌, length, map, drop, get_or, set, replicate, All, refl, sym, ap, subst, ◌∙◌, zero-add, append_assoc, arith}
use Rattle.std.specs.Prelude.{flat_map, filter, ⊤}
use Rattle.std.specs.List.{range_with_len}
use Rattle.std.proofs.lemmas.Bool.Decides.{nat_tests}
use Rattle.std.proofs.lemmas.List.{append-nil, drop_more, drop_all, drop-drop, get_or_default, get_or-set_same, get_or-set_other}
use Rattle.std.proofs.lemmas.List.FromFn.{get_or-map-range_with_len, length-map-range_with_len}
use Rattle.std.proofs.lemmas.List.Concat.{flat_map-cons}
use Rattle.sym_mod.specs.declared.program.Program.{Program}
use Rattle.sym_mod.specs.declared.program.Constant.{Constant}
use Rattle.sym_mod.specs.Sound.{IsSoundConstant, IsSoundProgram}
use Rattle.load_recs.specs.declared.items.RldItem.{RldItem}
use Rattle.linking_model.specs.Places.{Laid}
use Rattle.member_model.specs.Chunks.{term_item, by_address, section_items}
use Rattle.mod_write.specs.declared.chains.Chains.{Chains}
use Rattle.mod_write.specs.Chained.{first_in, next_in, AreChained}
use Rattle.mod_write.specs.Items.{terms_in}
use Rattle.mod_write.proofs.Lists.{set_range}
use Rattle.mod_write.proofs.Relocations.{section_there}

-- ---- the constants are chained

none_after : (cs : List Constant) (i : ℕ) → next_in cs i (length cs) ≡ length cs
unfolding first_in
none_after cs i = ap (λ xs. first_in xs i (length cs)) (drop_all (length cs) cs (omega arith))

all_same : (f : ℕ → ℕ) (m a n : ℕ) → ((i : ℕ) → f i ≡ m) → replicate n m ≡ map f (range_with_len a n)
all_same f m a zero same = refl
all_same f m a (suc n) same = ap (λ v. v ∷ replicate n m) (sym (same a)) ∙ ap (λ vs. f a ∷ vs) (all_same f m (a + 1) n same)

pub first_none : (cs : List Constant) (n : ℕ) → replicate n (length cs) ≡ map (λ i. next_in cs i (length cs)) (range_with_len 0 n)
first_none cs n = all_same (λ i. next_in cs i (length cs)) (length cs) 0 n (none_after cs)

module _ (cs : List Constant) (k n : ℕ) (c : Constant) (there : k < length cs) (at : c ≡ get_or cs k c) where
  pub here : drop k cs ≡ c ∷ drop (k + 1) cs
  here = drop_more cs k c there ∙ ap (λ v. v ∷ drop (k + 1) cs) (sym at)

  one_step : (i : ℕ) → next_in cs i k ≡ (if c.section == i then k else next_in cs i (k + 1))
  unfolding first_in
  one_step i = ap (λ xs. first_in xs i k) here

  pub first_more : (first : List ℕ) → c.section < n → first ≡ map (λ i. next_in cs i (k + 1)) (range_with_len 0 n)
      → set first c.section k ≡ map (λ i. next_in cs i k) (range_with_len 0 n)
  first_more first within so_far =
      let same : (c.section == c.section) ≡ true = grind (arith, nat_tests) in
      ap (λ vs. set vs c.section k) so_far
      ∙ set_range (λ i. next_in cs i (k + 1)) (λ i. next_in cs i k) 0 n c.section k within
      (ap (λ i. next_in cs i k) (zero-add c.section) ∙ (one_step c.section ∙ (rw same refl)))
      (λ s apart. other s (λ e. apart (e ∙ sym (zero-add c.section))))
    where
      other : (s : ℕ) → s ≢ c.section → next_in cs s k ≡ next_in cs s (k + 1)
      other s apart = let differs : (c.section == s) ≡ false = grind (arith, nat_tests) in one_step s ∙ (rw differs refl)

  pub first_read : (first : List ℕ) (x : ℕ) → c.section < n → first ≡ map (λ i. next_in cs i (k + 1)) (range_with_len 0 n) → x ≡ get_or first c.section x
      → x ≡ next_in cs c.section (k + 1)
  first_read first x within so_far read =
      read ∙ (ap (λ vs. get_or vs c.section x) so_far
      ∙ get_or-map-range_with_len (λ i. next_in cs i (k + 1)) 0 n c.section c.section x within (omega arith))

  pub next_more : (next : List ℕ) (x : ℕ) → length next ≡ length cs → x ≡ next_in cs c.section (k + 1)
      → ((j : ℕ) (d : Constant) → k + 1 ≤ j → j < length cs → d ≡ get_or cs j d → get_or next j 0 ≡ next_in cs d.section (j + 1))
      → (j : ℕ) (d : Constant) → k ≤ j → j < length cs → d ≡ get_or cs j d → get_or (set next k x) j 0 ≡ next_in cs d.section (j + 1)
  next_more next x size is so_far j d from below read = by_cases (j == k) refl
    where
      by_cases : (b : Bool) → (j == k) ≡ b → get_or (set next k x) j 0 ≡ next_in cs d.section (j + 1)
      by_cases true same =
          let equal : j ≡ k = grind (arith, same, nat_tests) in
          let one : d ≡ c = read ∙ (ap (λ m. get_or cs m d) equal ∙ (get_or_default cs k d c there ∙ sym at)) in
          ap (λ m. get_or (set next k x) m 0) equal
          ∙ (get_or-set_same next k x 0 (omega (arith, there, size))
          ∙ (is ∙ (ap (λ (v : Constant). next_in cs v.section (k + 1)) (sym one) ∙ ap (λ m. next_in cs d.section (m + 1)) (sym equal))))
      by_cases false differs =
          let apart : j ≢ k = grind (arith, differs, nat_tests) in
          get_or-set_other next k j x 0 apart ∙ so_far j d (omega (arith, from, apart)) below read

-- ---- the chain of a section is walked

-- it begins with a constant of section i, or is empty
abbrev pub BeginsIn : ℕ → List Constant → Type 0
BeginsIn i [] = ⊤
BeginsIn i (c ∷ cs) = c.section ≡ i

pub not_before : (xs : List Constant) (i k : ℕ) → k ≤ first_in xs i k
unfolding first_in
not_before [] i k = omega arith
not_before (c ∷ xs) i k = by_cases (c.section == i) (not_before xs i (k + 1))
  where
    by_cases : (b : Bool) → k + 1 ≤ first_in xs i (k + 1) → k ≤ (if b then k else first_in xs i (k + 1))
    by_cases true rest = omega arith
    by_cases false rest = omega (arith, rest)

rest_is : (cs xs : List Constant) (c : Constant) (k : ℕ) → c ∷ xs ≡ drop k cs → xs ≡ drop (k + 1) cs
rest_is cs xs c k is = ap (drop 1) is ∙ drop-drop 1 k cs

begins_from : (cs xs : List Constant) (i k : ℕ) → xs ≡ drop k cs → BeginsIn i (drop (first_in xs i k) cs)
unfolding first_in
begins_from cs [] i k is = subst (BeginsIn i) is tt
begins_from cs (c ∷ xs) i k is = by_cases (c.section == i) refl (begins_from cs xs i (k + 1) (rest_is cs xs c k is))
  where
    by_cases : (b : Bool) → (c.section == i) ≡ b → BeginsIn i (drop (first_in xs i (k + 1)) cs) → BeginsIn i (drop (if b then k else first_in xs i (k + 1)) cs)
    by_cases true same rest = let equal : c.section ≡ i = grind (arith, same, nat_tests) in subst (BeginsIn i) is equal
    by_cases false differs rest = rest

pub begins_in : (cs : List Constant) (i k : ℕ) → BeginsIn i (drop (next_in cs i k) cs)
begins_in cs i k = begins_from cs (drop k cs) i k refl

own : (P : Laid) (c : Constant) (xs : List Constant) (i : ℕ) → c.section ≡ i → terms_in P (c ∷ xs) i ≡ map (term_item P c) c.terms ++ terms_in P xs i
unfolding terms_in
own P c xs i same =
    let here : (c.section == i) ≡ true = grind (arith, nat_tests) in
    ap (λ b. flat_map (λ c. map (term_item P c) c.terms) (if b then c ∷ filter (λ c. c.section == i) xs else filter (λ c. c.section == i) xs)) here
    ∙ flat_map-cons (λ c. map (term_item P c) c.terms) c (filter (λ c. c.section == i) xs)

other : (P : Laid) (c : Constant) (xs : List Constant) (i : ℕ) → (c.section == i) ≡ false → terms_in P (c ∷ xs) i ≡ terms_in P xs i
unfolding terms_in
other P c xs i differs =
    ap (λ b. flat_map (λ c. map (term_item P c) c.terms) (if b then c ∷ filter (λ c. c.section == i) xs else filter (λ c. c.section == i) xs)) differs

skipped_from : (P : Laid) (cs xs : List Constant) (i k : ℕ) → xs ≡ drop k cs → terms_in P (drop (first_in xs i k) cs) i ≡ terms_in P xs i
unfolding first_in
skipped_from P cs [] i k is = ap (λ v. terms_in P v i) (sym is)
skipped_from P cs (c ∷ xs) i k is = by_cases (c.section == i) refl (skipped_from P cs xs i (k + 1) (rest_is cs xs c k is))
  where
    by_cases : (b : Bool) → (c.section == i) ≡ b → terms_in P (drop (first_in xs i (k + 1)) cs) i ≡ terms_in P xs i
        → terms_in P (drop (if b then k else first_in xs i (k + 1)) cs) i ≡ terms_in P (c ∷ xs) i
    by_cases true same rest = ap (λ v. terms_in P v i) (sym is)
    by_cases false differs rest = rest ∙ sym (other P c xs i differs)

pub skipped : (P : Laid) (cs : List Constant) (i k : ℕ) → terms_in P (drop (next_in cs i k) cs) i ≡ terms_in P (drop k cs) i
skipped P cs i k = skipped_from P cs (drop k cs) i k refl

-- the constant at a place of the chain stands in the section
pub is_own : (cs : List Constant) (i k : ℕ) (c : Constant) → k < length cs → c ≡ get_or cs k c → BeginsIn i (drop k cs) → c.section ≡ i
is_own cs i k c there at begins = subst (BeginsIn i) (here cs k 0 c there at) begins

-- one constant more
pub terms_more : (P : Laid) (cs : List Constant) (i k next : ℕ) (c : Constant) (old new all : List RldItem) → k < length cs → c ≡ get_or cs k c → c.section ≡ i
    → next ≡ next_in cs i (k + 1) → old ++ terms_in P (drop k cs) i ≡ all → new ≡ old ++ map (term_item P c) c.terms
    → new ++ terms_in P (drop next cs) i ≡ all
terms_more P cs i k next c old new all there at same is so_far pushed =
    let rest : List RldItem = terms_in P (drop (k + 1) cs) i in
    let first : terms_in P (drop k cs) i ≡ map (term_item P c) c.terms ++ rest = ap (λ v. terms_in P v i) (here cs k 0 c there at) ∙ own P c (drop (k + 1) cs) i same in
    ap (λ v. new ++ terms_in P (drop v cs) i) is
    ∙ (ap (λ v. new ++ v) (skipped P cs i (k + 1))
    ∙ (ap (λ v. v ++ rest) pushed
    ∙ (append_assoc old (map (term_item P c) c.terms) rest
    ∙ (ap (λ v. old ++ v) (sym first) ∙ so_far))))

-- no constant is left
pub terms_whole : (P : Laid) (cs : List Constant) (i k : ℕ) (items all : List RldItem) → length cs ≤ k → items ++ terms_in P (drop k cs) i ≡ all → items ≡ all
unfolding terms_in
terms_whole P cs i k items all past so_far =
    let none : terms_in P (drop k cs) i ≡ [] = ap (λ v. terms_in P v i) (drop_all k cs past) in
    sym (ap (λ v. items ++ v) none ∙ append-nil items) ∙ so_far

-- the first constant of a section that is there
pub chain_first : (cs : List Constant) (n i x : ℕ) (first : List ℕ) → i < n → first ≡ map (λ i. next_in cs i 0) (range_with_len 0 n) → x ≡ get_or first i x
    → x ≡ next_in cs i 0
chain_first cs n i x first within are read =
    read ∙ (ap (λ vs. get_or vs i x) are ∙ get_or-map-range_with_len (λ i. next_in cs i 0) 0 n i i x within (omega arith))

-- there is a first constant for each section
pub firsts_counted : (cs : List Constant) (n : ℕ) (first : List ℕ) → first ≡ map (λ i. next_in cs i 0) (range_with_len 0 n) → length first ≡ n
firsts_counted cs n first are = ap length are ∙ length-map-range_with_len (λ i. next_in cs i 0) 0 n

-- the constant after one that is there
pub chain_next : (cs : List Constant) (n i k x : ℕ) (c : Constant) (chains : Chains) → AreChained cs n chains → k < length cs → c ≡ get_or cs k c → c.section ≡ i
    → x ≡ get_or chains.next.items k x → x ≡ next_in cs i (k + 1)
chain_next cs n i k x c chains chained below at same read =
    read ∙ (get_or_default chains.next.items k x 0 (omega (arith, below, chained.each)) ∙ (chained.next k c below at ∙ ap (λ s. next_in cs s (k + 1)) same))

-- it stands after it
pub goes_on : (cs : List Constant) (i k x : ℕ) → x ≡ next_in cs i (k + 1) → k < x
goes_on cs i k x is = let above = not_before (drop (k + 1) cs) i (k + 1) in omega (arith, above, is)

-- ---- the program

-- each constant of the program is sound
pub constant_sound : (p : Program) (cs : List Constant) (k : ℕ) (c : Constant) → IsSoundProgram p → cs ≡ p.constants → k < length cs → c ≡ get_or cs k c
    → IsSoundConstant p c
constant_sound p cs k c sound same below at =
    subst (IsSoundConstant p) (sym at) (subst (All (IsSoundConstant p)) (sym same) sound.constants k c below)

-- each constant of the program stands in a section
pub in_sections : (p : Program) → IsSoundProgram p → All (λ (c : Constant). c.section < length p.sections) p.constants
in_sections p sound k d below =
    let is : IsSoundConstant p (get_or p.constants k d) = sound.constants k d below in
    section_there p (get_or p.constants k d).section (get_or p.constants k d).offset (get_or p.constants k d).length is.inside

-- sorted, the items of a section's constants are those of the section
pub sorted_terms : (P : Laid) (i : ℕ) → by_address (terms_in P P.program.constants i) ≡ section_items P i
unfolding terms_in
sorted_terms P i = refl
