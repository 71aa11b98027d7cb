-- Every part in the list is one of the program.
use Rattle.std.proofs.Common.{◌≡◌, ℕ, zero, suc, ◌+◌, ◌-◌, ◌<◌, ◌≤◌, Bool, true, false, ◌==◌, Some, None, slice_get, option_map, if◌then◌else◌, List, [], ◌∷◌, ◌++◌, map, flat_map, length, get_or, All, refl, sym, ap, subst, ◌∙◌, arith}
use Rattle.std.specs.List.{range_with_len}
use Rattle.std.proofs.lemmas.List.{get_or-map, length-map, map-append}
use Rattle.std.proofs.lemmas.List.Elements.{All-nil, All-cons, All-append, All-map, All-filter}
use Rattle.std.proofs.lemmas.List.FromFn.{get_or-range_with_len, length-range_with_len, get_or-map-range_with_len, length-map-range_with_len}
use Rattle.std.proofs.lemmas.Option.{slice_get-map, slice_get-get_or, same_Some, none-some}
use Rattle.linking_model.specs.Tree.{segments}
use Rattle.linking_model.specs.Places.{Laid, has_segtab, entry_count, segment_of_section}
use Rattle.linking_model.specs.Run.{sections_in}
use Rattle.member_model.specs.Cuts.{together}
use Rattle.member_model.specs.Parts.{Part as Piece, SegmentTable as Segtab, OneSection, EntryTable as Entab, parts, parts_in}
use Rattle.mod_parts.specs.declared.part.Part.{Part}
use Rattle.mod_parts.specs.Seen.{seen, IsPartOf}
use Rattle.mod_parts.proofs.Bucketed.{segments_listed}

in_range : (n : ℕ) → All (λ i. i < n) (range_with_len 0 n)
in_range n = λ k d within.
    let low : k < n = omega (arith, within, length-range_with_len 0 n) in
    rw (get_or-range_with_len 0 n k d low) (omega (arith, low))

head_present : (P : Laid) (t : Bool) → All (IsPartOf P) (if t then Segtab ∷ [] else [])
head_present P true = All-cons (IsPartOf P) Segtab [] tt (All-nil (IsPartOf P))
head_present P false = All-nil (IsPartOf P)

table_present : (P : Laid) (t : Bool) (s : ℕ) → 1 ≤ s → s ≤ length P.tree → All (IsPartOf P) (if t then [] else Entab s ∷ [])
table_present P true s first last = All-nil (IsPartOf P)
table_present P false s first last = All-cons (IsPartOf P) (Entab s) [] (first, last) (All-nil (IsPartOf P))

pub parts_present : (P : Laid) (s : ℕ) → 1 ≤ s → s ≤ length P.tree → All (IsPartOf P) (parts_in P s)
parts_present P s first last =
    All-append (IsPartOf P) ((if has_segtab P.tree s then Segtab ∷ [] else []) ++ map (λ i. OneSection i) (sections_in P.program s)) (if entry_count P s == 0 then [] else Entab s ∷ [])
    (All-append (IsPartOf P) (if has_segtab P.tree s then Segtab ∷ [] else []) (map (λ i. OneSection i) (sections_in P.program s))
    (head_present P (has_segtab P.tree s))
    (All-map (IsPartOf P) (λ i. OneSection i) (sections_in P.program s)
    (All-filter (λ i. segment_of_section P.program i == s) (λ i. i < length P.program.sections) (range_with_len 0 (length P.program.sections)) (in_range (length P.program.sections)))))
    (table_present P (entry_count P s == 0) s first last)

all_present : (P : Laid) (a n : ℕ) → 1 ≤ a → a + n ≤ length P.tree + 1 → All (IsPartOf P) (flat_map (parts_in P) (range_with_len a n))
all_present P a zero first last = All-nil (IsPartOf P)
all_present P a (suc n) first last =
    All-append (IsPartOf P) (parts_in P a) (flat_map (parts_in P) (range_with_len (a + 1) n)) (parts_present P a first (omega (arith, last)))
    (all_present P (a + 1) n (omega arith) (omega (arith, last)))

pub parts_all_present : (P : Laid) → All (IsPartOf P) (parts P)
parts_all_present P =
    subst (λ l. All (IsPartOf P) (flat_map (parts_in P) l)) (sym (segments_listed P.tree)) (all_present P 1 (length P.tree) (omega arith) (omega arith))

-- ---- the same of parts as they are kept

pub kept_present : (P : Laid) (xs : List Part) (ys : List Piece) → map seen xs ≡ ys → All (IsPartOf P) ys → All (λ x. IsPartOf P (seen x)) xs
kept_present P xs ys are all = λ k d within.
    subst (IsPartOf P) (ap (λ l. get_or l k (seen d)) (sym are) ∙ get_or-map seen xs k d (seen d) within)
    (all k (seen d) (omega (arith, within, length-map xs seen, ap length are)))

seen_together : (xss : List (List Part)) → map seen (together xss) ≡ together (map (map seen) xss)
seen_together [] = refl
seen_together (xs ∷ xss) = map-append seen xs (together xss) ∙ ap (λ l. map seen xs ++ l) (seen_together xss)

together-map : (f : ℕ → List Piece) (ns : List ℕ) → together (map f ns) ≡ flat_map f ns
together-map f [] = refl
together-map f (n ∷ ns) = ap (λ l. f n ++ l) (together-map f ns)

pub parts_together : (P : Laid) (xss : List (List Part)) → map (map seen) xss ≡ map (parts_in P) (range_with_len 1 (length P.tree))
    → map seen (together xss) ≡ parts P
parts_together P xss are =
    seen_together xss ∙ (ap together are ∙ (ap (λ l. together (map (parts_in P) l)) (sym (segments_listed P.tree)) ∙ together-map (parts_in P) (segments P.tree)))

-- ---- the parts of a segment in the list

in_place : (P : Laid) (i s : ℕ) → 1 ≤ s → s ≤ length P.tree → i ≡ s - 1 → slice_get (map (parts_in P) (segments P.tree)) i ≡ Some (parts_in P s)
in_place P i s first last is =
    let inside : i < length (map (parts_in P) (range_with_len 1 (length P.tree))) = omega (arith, first, last, is, length-map-range_with_len (parts_in P) 1 (length P.tree)) in
    ap (λ l. slice_get (map (parts_in P) l) i) (segments_listed P.tree)
    ∙ (slice_get-get_or (map (parts_in P) (range_with_len 1 (length P.tree))) i [] inside
    ∙ ap (λ l. Some l) (get_or-map-range_with_len (parts_in P) 1 (length P.tree) i s [] (omega (arith, first, last, is)) (omega (arith, first, is))))

pub segment_listed : (P : Laid) (listed : List (List Part)) (i s : ℕ) (xs : List Part) → map (map seen) listed ≡ map (parts_in P) (segments P.tree)
    → 1 ≤ s → s ≤ length P.tree → i ≡ s - 1 → slice_get listed i ≡ Some xs → map seen xs ≡ parts_in P s
segment_listed P listed i s xs are first last is found =
    same_Some (map seen xs) (parts_in P s)
    (sym (slice_get-map (map seen) listed i ∙ ap (option_map (map seen)) found) ∙ (ap (λ l. slice_get l i) are ∙ in_place P i s first last is))

pub segment_there : (P : Laid) (listed : List (List Part)) (i s : ℕ) → map (map seen) listed ≡ map (parts_in P) (segments P.tree)
    → 1 ≤ s → s ≤ length P.tree → i ≡ s - 1 → slice_get listed i ≡ None → ⊥
segment_there P listed i s are first last is none =
    none-some (parts_in P s)
    (sym (slice_get-map (map seen) listed i ∙ ap (option_map (map seen)) none) ∙ (ap (λ l. slice_get l i) are ∙ in_place P i s first last is))

pub segment_present : (P : Laid) (listed : List (List Part)) (i s : ℕ) (xs : List Part) → map (map seen) listed ≡ map (parts_in P) (segments P.tree)
    → 1 ≤ s → s ≤ length P.tree → i ≡ s - 1 → slice_get listed i ≡ Some xs → All (λ x. IsPartOf P (seen x)) xs
segment_present P listed i s xs are first last is found =
    kept_present P xs (parts_in P s) (segment_listed P listed i s xs are first last is found) (parts_present P s first last)
