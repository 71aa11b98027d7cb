-- How many parts a program has: each section is in one segment.
use Rattle.std.proofs.Common.{◌≡◌, ℕ, zero, suc, ◌+◌, ◌<◌, ◌≤◌, Bool, true, false, ◌==◌, ◌&&◌, nat_lt, cond, if◌then◌else◌, List, [], ◌∷◌, ◌++◌, map, filter, flat_map, length, sum_by, refl, ap, ◌∙◌, inl, inr, arith, length-append}
use Rattle.std.specs.List.{range_with_len}
use Rattle.std.proofs.lemmas.Bool.Decides.{eqb_tells}
use Rattle.std.proofs.lemmas.List.{length-map}
use Rattle.std.proofs.lemmas.List.FromFn.{length-range_with_len}
use Rattle.std.proofs.lemmas.List.Sums.{sum_by-cons}
use Rattle.sym_mod.specs.declared.program.Program.{Program}
use Rattle.linking_model.specs.Tree.{Tree}
use Rattle.linking_model.specs.Places.{Laid, has_segtab, entry_count, segment_of_section}
use Rattle.linking_model.specs.Run.{sections_in}
use Rattle.member_model.specs.Parts.{Part as Piece, SegmentTable as Segtab, OneSection, EntryTable as Entab, parts, parts_in}
use Rattle.mod_parts.specs.Listed.{CanBeListed}
use Rattle.mod_parts.proofs.Bucketed.{segments_listed}

-- how many of the numbers are in the range
abbrev hits : ℕ → ℕ → ℕ → ℕ
hits c a n = sum_by (λ s. cond (c == s) 1 0) (range_with_len a n)

missed : (c a n : ℕ) → c < a → hits c a n ≡ 0
missed c a zero below = refl
missed c a (suc n) below =
    sum_by-cons (λ s. cond (c == s) 1 0) a (range_with_len (a + 1) n)
    ∙ (elim (eqb_tells c a) as (λ _. cond (c == a) 1 0 + hits c (a + 1) n ≡ 0) [
      | inl w ↦ absurd (omega (arith, below, w.1))
      | inr w ↦ rw (w.0, missed c (a + 1) n (omega (arith, below))) refl
    ])

hit_once : (c a n : ℕ) → hits c a n ≤ 1
hit_once c a zero = omega arith
hit_once c a (suc n) =
    rw (sum_by-cons (λ s. cond (c == s) 1 0) a (range_with_len (a + 1) n))
    (elim (eqb_tells c a) as (λ _. cond (c == a) 1 0 + hits c (a + 1) n ≤ 1) [
      | inl w ↦ rw (w.0, missed c (a + 1) n (omega (arith, w.1))) (omega arith)
      | inr w ↦ rw w.0 (omega (arith, hit_once c (a + 1) n))
    ])

-- the sections of each segment of a range
abbrev spread_over : (ℕ → ℕ) → List ℕ → ℕ → ℕ → ℕ
spread_over f ns a n = sum_by (λ s. length (filter (λ i. f i == s) ns)) (range_with_len a n)

one_more : (f : ℕ → ℕ) (i : ℕ) (ns : List ℕ) (s : ℕ)
    → length (filter (λ k. f k == s) (i ∷ ns)) ≡ cond (f i == s) 1 0 + length (filter (λ k. f k == s) ns)
one_more f i ns s =
    elim (f i == s) as (λ t. length (cond t (i ∷ filter (λ k. f k == s) ns) (filter (λ k. f k == s) ns)) ≡ cond t 1 0 + length (filter (λ k. f k == s) ns)) [
      | true ↦ omega arith
      | false ↦ omega arith
    ]

spread_more : (f : ℕ → ℕ) (i : ℕ) (ns : List ℕ) (a n : ℕ) → spread_over f (i ∷ ns) a n ≡ hits (f i) a n + spread_over f ns a n
spread_more f i ns a zero = refl
spread_more f i ns a (suc n) =
    rw (
      sum_by-cons (λ s. length (filter (λ k. f k == s) (i ∷ ns))) a (range_with_len (a + 1) n),
      sum_by-cons (λ s. cond (f i == s) 1 0) a (range_with_len (a + 1) n),
      sum_by-cons (λ s. length (filter (λ k. f k == s) ns)) a (range_with_len (a + 1) n),
      spread_more f i ns (a + 1) n,
      one_more f i ns a,
    )
    (mixed (cond (f i == a) 1 0) (length (filter (λ k. f k == a) ns)) (hits (f i) (a + 1) n) (spread_over f ns (a + 1) n))
  where
    mixed : (u v w x : ℕ) → u + v + (w + x) ≡ u + w + (v + x)
    mixed u v w x = omega arith

spread_none : (f : ℕ → ℕ) (a n : ℕ) → spread_over f [] a n ≡ 0
spread_none f a zero = refl
spread_none f a (suc n) = sum_by-cons (λ s. length (filter (λ i. f i == s) [])) a (range_with_len (a + 1) n) ∙ rw (spread_none f (a + 1) n) refl

spread_bound : (f : ℕ → ℕ) (ns : List ℕ) (a n : ℕ) → spread_over f ns a n ≤ length ns
spread_bound f [] a n = omega (arith, spread_none f a n)
spread_bound f (i ∷ ns) a n = omega (arith, spread_more f i ns a n, hit_once (f i) a n, spread_bound f ns a n)

-- ---- parts

abbrev sections_of : Program → ℕ → ℕ
sections_of p s = length (sections_in p s)

short : (t : Bool) (x : Piece) → length (if t then x ∷ [] else []) ≤ 1
short true x = omega arith
short false x = omega arith

short_other : (t : Bool) (x : Piece) → length (if t then [] else x ∷ []) ≤ 1
short_other true x = omega arith
short_other false x = omega arith

parts_long : (P : Laid) (s : ℕ)
    → length (parts_in P s) ≡ length (if has_segtab P.tree s then Segtab ∷ [] else []) + sections_of P.program s + length (if entry_count P s == 0 then [] else Entab s ∷ [])
parts_long P s =
    length-append ((if has_segtab P.tree s then Segtab ∷ [] else []) ++ map (λ i. OneSection i) (sections_in P.program s)) (if entry_count P s == 0 then [] else Entab s ∷ [])
    ∙ ap (λ n. n + length (if entry_count P s == 0 then [] else Entab s ∷ []))
    (length-append (if has_segtab P.tree s then Segtab ∷ [] else []) (map (λ i. OneSection i) (sections_in P.program s))
    ∙ ap (λ n. length (if has_segtab P.tree s then Segtab ∷ [] else []) + n) (length-map (sections_in P.program s) (λ i. OneSection i)))

any_segment : (P : Laid) (s : ℕ) → length (parts_in P s) ≤ sections_of P.program s + 2
any_segment P s = omega (arith, parts_long P s, short (has_segtab P.tree s) Segtab, short_other (entry_count P s == 0) (Entab s))

no_segtab : (tree : Tree) (s : ℕ) → 2 ≤ s → has_segtab tree s ≡ false
no_segtab tree s later =
    elim (eqb_tells s 1) as (λ _. has_segtab tree s ≡ false) [ inl w ↦ absurd (omega (arith, later, w.1)) | inr w ↦ rw w.0 (and_false (nat_lt 1 (length tree))) ]
  where
    and_false : (t : Bool) → (t && false) ≡ false
    and_false true = refl
    and_false false = refl

later_segment : (P : Laid) (s : ℕ) → 2 ≤ s → length (parts_in P s) ≤ sections_of P.program s + 1
later_segment P s later =
    let none : length (if has_segtab P.tree s then Segtab ∷ [] else []) ≡ 0 = rw (no_segtab P.tree s later) refl in
    omega (arith, parts_long P s, none, short_other (entry_count P s == 0) (Entab s))

later_segments : (P : Laid) (a n : ℕ) → 2 ≤ a
    → length (flat_map (parts_in P) (range_with_len a n)) ≤ sum_by (sections_of P.program) (range_with_len a n) + n
later_segments P a zero later = omega arith
later_segments P a (suc n) later =
    let one : length (parts_in P a) ≤ sections_of P.program a + 1 = later_segment P a later in
    let rest : length (flat_map (parts_in P) (range_with_len (a + 1) n)) ≤ sum_by (sections_of P.program) (range_with_len (a + 1) n) + n =
    later_segments P (a + 1) n (omega (arith, later)) in
    omega (
      arith,
      length-append (parts_in P a) (flat_map (parts_in P) (range_with_len (a + 1) n)),
      sum_by-cons (sections_of P.program) a (range_with_len (a + 1) n),
      one,
      rest,
    )

all_segments : (P : Laid) (n : ℕ) → length (flat_map (parts_in P) (range_with_len 1 n)) ≤ sum_by (sections_of P.program) (range_with_len 1 n) + n + 1
all_segments P zero = omega arith
all_segments P (suc n) =
    let one : length (parts_in P 1) ≤ sections_of P.program 1 + 2 = any_segment P 1 in
    let rest : length (flat_map (parts_in P) (range_with_len 2 n)) ≤ sum_by (sections_of P.program) (range_with_len 2 n) + n = later_segments P 2 n (omega arith) in
    omega (
      arith,
      length-append (parts_in P 1) (flat_map (parts_in P) (range_with_len 2 n)),
      sum_by-cons (sections_of P.program) 1 (range_with_len 2 n),
      one,
      rest,
    )

pub parts_bound : (P : Laid) → length (parts P) ≤ length P.program.sections + length P.tree + 1
parts_bound P =
    let listed : length (parts P) ≡ length (flat_map (parts_in P) (range_with_len 1 (length P.tree))) = ap (λ l. length (flat_map (parts_in P) l)) (segments_listed P.tree) in
    let all : length (flat_map (parts_in P) (range_with_len 1 (length P.tree))) ≤ sum_by (sections_of P.program) (range_with_len 1 (length P.tree)) + length P.tree + 1 =
    all_segments P (length P.tree) in
    let each : sum_by (sections_of P.program) (range_with_len 1 (length P.tree)) ≤ length (range_with_len 0 (length P.program.sections)) =
    spread_bound (segment_of_section P.program) (range_with_len 0 (length P.program.sections)) 1 (length P.tree) in
    omega (arith, listed, all, each, length-range_with_len 0 (length P.program.sections))

-- ---- items have numbers of two bytes

pub few_parts : (P : Laid) → CanBeListed P → length (parts P) ≤ 32767
few_parts P can = omega (arith, parts_bound P, can.sound.few, can.small.few_segments)

pub few_items : (P : Laid) → CanBeListed P → length (parts P) + length P.program.labels + length P.program.unresolved + length P.program.registers ≤ 32767
few_items P can = omega (arith, parts_bound P, can.sound.few, can.small.few_segments)
