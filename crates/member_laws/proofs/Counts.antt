-- How many parts and symbols a program has.
use Rattle.std.proofs.Common.{◌≡◌, ℕ, zero, suc, ◌+◌, ◌*◌, ◌<◌, ◌≤◌, Bool, true, false, cond, ◌&&◌, ◌==◌, nat_lt, if◌then◌else◌, List, [], ◌∷◌, ◌++◌, map, filter, length, refl, sym, ap, ◌∙◌, inl, inr, arith}
use Rattle.std.proofs.lemmas.Bool.{ne_eqb, eq-eqb, lt-ltb, le-ltb, and_right, cases_order}
use Rattle.std.proofs.lemmas.List.{length-append, length-map, append-nil}
use Rattle.std.proofs.lemmas.List.Concat.{flat_map-append}
use Rattle.std.proofs.lemmas.List.FromFn.{length-range_with_len, length-enumerate_from}
use Rattle.std.proofs.lemmas.List.Sums.{sum_by_push, sum_by-cons, length-filter, count_by-le-length}
use Rattle.std.specs.List.{range_with_len, enumerate_from, flat_map, sum_by}
use Rattle.linking_model.specs.Tree.{Tree, segments}
use Rattle.linking_model.specs.Places.{Laid, is_overlay, has_segtab, entry_count, segment_of_section}
use Rattle.linking_model.specs.Run.{sections_in}
use Rattle.member_model.specs.Parts.{Part, SegmentTable, OneSection, EntryTable, parts, parts_in}
use Rattle.member_model.specs.SymbolList.{symbols_written, part_symbol, label_symbol, unresolved_symbol, register_symbol}
use Rattle.member_laws.specs.Linkable.{IsLinkable}

-- ---- sections

-- how many of the numbers have a value below m, and how many the value m
count_step : (f : ℕ → ℕ) (m : ℕ) (xs : List ℕ)
    → length (filter (λ i. nat_lt (f i) (m + 1)) xs) ≡ length (filter (λ i. nat_lt (f i) m) xs) + length (filter (λ i. f i == m) xs)
count_step f m [] = refl
count_step f m (x ∷ xs) =
    let rest = count_step f m xs in
    elim (cases_order (f x) m) [
      | inl e ↦ added _ _ _ _ _ _ (lt-ltb (f x) (m + 1) (omega arith)) (le-ltb (f x) m (omega arith)) (eq-eqb (f x) m e) (equal _ _ _ rest)
      | inr (inl low) ↦ added _ _ _ _ _ _ (lt-ltb (f x) (m + 1) (omega arith)) (lt-ltb (f x) m low) (ne_eqb (f x) m (omega arith)) (lower _ _ _ rest)
      | inr (inr high) ↦ added _ _ _ _ _ _ (le-ltb (f x) (m + 1) (omega arith)) (le-ltb (f x) m (omega arith)) (ne_eqb (f x) m (omega arith)) rest
    ]
  where
    equal : (a b c : ℕ) → a ≡ b + c → suc a ≡ b + suc c
    equal a b c e = omega arith

    lower : (a b c : ℕ) → a ≡ b + c → suc a ≡ suc b + c
    lower a b c e = omega arith

    added : (a b c p q r : Bool) → a ≡ p → b ≡ q → c ≡ r
        → length (cond p (x ∷ filter (λ i. nat_lt (f i) (m + 1)) xs) (filter (λ i. nat_lt (f i) (m + 1)) xs))
        ≡ length (cond q (x ∷ filter (λ i. nat_lt (f i) m) xs) (filter (λ i. nat_lt (f i) m) xs)) + length (cond r (x ∷ filter (λ i. f i == m) xs) (filter (λ i. f i == m) xs))
        → length (cond a (x ∷ filter (λ i. nat_lt (f i) (m + 1)) xs) (filter (λ i. nat_lt (f i) (m + 1)) xs))
        ≡ length (cond b (x ∷ filter (λ i. nat_lt (f i) m) xs) (filter (λ i. nat_lt (f i) m) xs)) + length (cond c (x ∷ filter (λ i. f i == m) xs) (filter (λ i. f i == m) xs))
    added a b c p q r h i j e = rw (h, i, j) e

-- the sections of the segments of the first part of a tree
sections_below : (P : Laid) (tree : Tree) → sum_by (λ s. length (sections_in P.program s)) (segments tree)
    ≤ length (filter (λ i. nat_lt (segment_of_section P.program i) (length tree + 1)) (range_with_len 0 (length P.program.sections)))
unfolding segments
sections_below P [] = omega arith
sections_below P (x ∷ older) =
    let all = range_with_len 0 (length P.program.sections) in
    let rest = sections_below P older in
    let step = count_step (segment_of_section P.program) (length older + 1) all in
    bound _ _ _ _ _ (sum_by_push (λ s. length (sections_in P.program s)) (segments older) (length older + 1)) rest (more (length older) all step)
  where
    bound : (a b c d e : ℕ) → a ≡ b + c → b ≤ d → e ≡ d + c → a ≤ e
    bound a b c d e p q r = omega arith

    more : (n : ℕ) (all : List ℕ) → length (filter (λ i. nat_lt (segment_of_section P.program i) (n + 1 + 1)) all) ≡ length (filter (λ i. nat_lt (segment_of_section P.program i) (n + 1)) all) + length (filter (λ i. segment_of_section P.program i == n + 1) all)
        → length (filter (λ i. nat_lt (segment_of_section P.program i) (suc n + 1)) all) ≡ length (filter (λ i. nat_lt (segment_of_section P.program i) (n + 1)) all) + length (filter (λ i. segment_of_section P.program i == n + 1) all)
    more n all e = let same : n + 1 ≡ suc n = omega arith in sym (ap (λ k. length (filter (λ i. nat_lt (segment_of_section P.program i) (k + 1)) all)) same) ∙ e

-- ---- parts

abbrev one_if : Bool → ℕ
one_if b = if b then 1 else 0

-- the parts of segment s are its sections, a table of entries at most, and in the root the segment table
in-segment : (P : Laid) (s : ℕ) → length (parts_in P s) ≤ one_if (has_segtab P.tree s) + length (sections_in P.program s) + 1
in-segment P s =
    let a : List Part = if has_segtab P.tree s then SegmentTable ∷ [] else [] in
    let b : List Part = map (λ i. OneSection i) (sections_in P.program s) in
    let c : List Part = if entry_count P s == 0 then [] else EntryTable s ∷ [] in
    total (length a) (length b) (length c) (length (a ++ b)) (length (a ++ b ++ c)) _ _ (length-append (a ++ b) c) (length-append a b)
    (head (has_segtab P.tree s)) (length-map (sections_in P.program s) (λ i. OneSection i)) (table (entry_count P s == 0))
  where
    head : (b : Bool) → length (if b then SegmentTable ∷ [] else []) ≡ one_if b
    head true = refl
    head false = refl

    table : (b : Bool) → length (if b then [] else EntryTable s ∷ []) ≤ 1
    table true = omega arith
    table false = omega arith

    total : (a b c ab abc h n : ℕ) → abc ≡ ab + c → ab ≡ a + b → a ≡ h → b ≡ n → c ≤ 1 → abc ≤ h + n + 1
    total a b c ab abc h n o p q r t = omega arith

later-segment : (P : Laid) (s : ℕ) → 2 ≤ s → has_segtab P.tree s ≡ false
later-segment P s high = and_right (is_overlay P.tree) (s == 1) (ne_eqb s 1 (omega arith))

in-later : (P : Laid) (s : ℕ) → 2 ≤ s → length (parts_in P s) ≤ length (sections_in P.program s) + 1
in-later P s high =
    let all : length (parts_in P s) ≤ one_if (has_segtab P.tree s) + length (sections_in P.program s) + 1 = in-segment P s in
    let none : one_if (has_segtab P.tree s) ≡ 0 = ap one_if (later-segment P s high) in
    omega arith

in-any : (P : Laid) (s : ℕ) → length (parts_in P s) ≤ length (sections_in P.program s) + 2
in-any P s =
    let all : length (parts_in P s) ≤ one_if (has_segtab P.tree s) + length (sections_in P.program s) + 1 = in-segment P s in
    let few : one_if (has_segtab P.tree s) ≤ 1 = at_most (has_segtab P.tree s) in
    omega arith
  where
    at_most : (b : Bool) → one_if b ≤ 1
    at_most true = omega arith
    at_most false = omega arith

flat-last : (P : Laid) (before : List ℕ) (s : ℕ) → length (flat_map (parts_in P) (before ++ s ∷ [])) ≡ length (flat_map (parts_in P) before) + length (parts_in P s)
flat-last P before s =
    ap length (flat_map-append (parts_in P) before (s ∷ []) ∙ ap (λ l. flat_map (parts_in P) before ++ l) (append-nil (parts_in P s)))
    ∙ length-append (flat_map (parts_in P) before) (parts_in P s)

parts-below : (P : Laid) (tree : Tree) → length (flat_map (parts_in P) (segments tree)) ≤ sum_by (λ s. length (sections_in P.program s)) (segments tree) + length tree + 1
unfolding segments
parts-below P [] = omega arith
parts-below P (x ∷ []) = let e : length (parts_in P 1 ++ []) ≡ length (parts_in P 1) = ap length (append-nil (parts_in P 1)) in let any = in-any P 1 in omega arith
parts-below P (x ∷ y ∷ older) =
    bound _ _ _ _ _ _ _ (flat-last P (segments (y ∷ older)) (length (y ∷ older) + 1)) (sum_by_push (λ s. length (sections_in P.program s)) (segments (y ∷ older)) (length (y ∷ older) + 1))
    (parts-below P (y ∷ older)) (in-later P (length (y ∷ older) + 1) (omega arith))
  where
    bound : (all before last sum sums some n : ℕ) → all ≡ before + last → sum ≡ sums + some → before ≤ sums + n + 1 → last ≤ some + 1 → all ≤ sum + suc n + 1
    bound all before last sum sums some n p q r t = omega arith

pub parts-few : (P : Laid) → IsLinkable P → length (parts P) ≤ length P.program.sections + 256
parts-few P links =
    let all = range_with_len 0 (length P.program.sections) in
    let test : ℕ → Bool = λ i. nat_lt (segment_of_section P.program i) (length P.tree + 1) in
    bound (length (parts P)) _ (length (filter test all)) (length P.program.sections) (length P.tree) (parts-below P P.tree) (sections_below P P.tree)
    (few test (length P.program.sections)) links.small.few_segments
  where
    bound : (all sum some n t : ℕ) → all ≤ sum + t + 1 → sum ≤ some → some ≤ n → t ≤ 255 → all ≤ n + 256
    bound all sum some n t p q r u = omega arith

    few : (test : ℕ → Bool) (n : ℕ) → length (filter test (range_with_len 0 n)) ≤ n
    few test n =
        let e = length-filter test (range_with_len 0 n) in
        let f = count_by-le-length test (range_with_len 0 n) in
        let g = length-range_with_len 0 n in
        omega arith

-- ---- symbols

pub symbols-count : (P : Laid) → length (symbols_written P) ≡ length (parts P) + length P.program.labels + length P.program.unresolved + length P.program.registers
unfolding symbols_written
symbols-count P =
    sums _ _ _ _ _ _ _ _ _ _ _
    (length-append (map (part_symbol P) (parts P) ++ map (label_symbol P) P.program.labels ++ map unresolved_symbol P.program.unresolved) (map (register_symbol P.program.registers) (enumerate_from 0 P.program.registers)))
    (length-append (map (part_symbol P) (parts P) ++ map (label_symbol P) P.program.labels) (map unresolved_symbol P.program.unresolved))
    (length-append (map (part_symbol P) (parts P)) (map (label_symbol P) P.program.labels))
    (length-map (parts P) (part_symbol P)) (length-map P.program.labels (label_symbol P)) (length-map P.program.unresolved unresolved_symbol)
    (length-map (enumerate_from 0 P.program.registers) (register_symbol P.program.registers) ∙ length-enumerate_from 0 P.program.registers)
  where
    sums : (abcd abc ab a b c d p q r t : ℕ) → abcd ≡ abc + d → abc ≡ ab + c → ab ≡ a + b → a ≡ p → b ≡ q → c ≡ r → d ≡ t → abcd ≡ p + q + r + t
    sums abcd abc ab a b c d p q r t e f g h i j k = omega arith

-- two bytes number all symbols
pub symbols_few : (P : Laid) → IsLinkable P → length (symbols_written P) ≤ 32767
symbols_few P links =
    let all : length (symbols_written P) ≡ length (parts P) + length P.program.labels + length P.program.unresolved + length P.program.registers = symbols-count P in
    let some : length (parts P) ≤ length P.program.sections + 256 = parts-few P links in
    let few : length P.program.sections + length P.program.labels + length P.program.unresolved + length P.program.registers ≤ 32511 = links.sound.few in
    omega arith

pub parts-within : (P : Laid) → length (parts P) ≤ length (symbols_written P)
parts-within P =
    let all : length (symbols_written P) ≡ length (parts P) + length P.program.labels + length P.program.unresolved + length P.program.registers = symbols-count P in
    omega arith
