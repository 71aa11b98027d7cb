-- The sections of each segment, while sections are put in turn, and the parts of a segment.
use Rattle.std.proofs.Common.{◌≡◌, ◌≢◌, ℕ, zero, suc, ◌+◌, ◌-◌, ◌<◌, ◌≤◌, Bool, true, false, not, ◌==◌, cond, if◌then◌else◌, List, [], ◌∷◌, ◌++◌, map, filter, flat_map, length, replicate, get_or, set, All, subst, refl, sym, ap, ◌∙◌, inl, inr, arith, Some, slice_get, append-nil}
use Rattle.std.specs.List.{range_with_len}
use Rattle.std.specs.Option.{option_map_or}
use Rattle.std.proofs.lemmas.Bool.Decides.{eqb_tells}
use Rattle.std.proofs.lemmas.List.{length-set, length-map, get_or-map, get_or-set_same, get_or-set_other, ext_get_or}
use Rattle.std.proofs.lemmas.List.Concat.{flat_map-append}
use Rattle.std.proofs.lemmas.Option.{slice_get-get_or}
use Rattle.std.specs.Global.{Vec}
use Rattle.std.proofs.lemmas.List.Elements.{filter-append}
use Rattle.std.proofs.lemmas.List.FromFn.{length-range_with_len, length-map-range_with_len, get_or-map-range_with_len, map-range_with_len_more}
use Rattle.sym_mod.specs.declared.program.Program.{Program}
use Rattle.sym_mod.specs.declared.program.Section.{Section}
use Rattle.linking_model.specs.Tree.{Tree, segments}
use Rattle.linking_model.specs.Places.{Laid, segment_of_section, entry_count}
use Rattle.linking_model.specs.Run.{sections_in}
use Rattle.member_model.specs.Parts.{OneSection, EntryTable as Entab, parts_in}
use Rattle.mod_parts.specs.Gathered.{head_parts, segment_parts, has_entries, IsSegmentTo}

-- ---- ranges

last : (a n j : ℕ) → a + n ≡ j → range_with_len a (suc n) ≡ range_with_len a n ++ j ∷ []
last a zero j e = let same : a ≡ j = omega arith in ap (λ k. k ∷ []) same
last a (suc n) j e = ap (λ l. a ∷ l) (last (a + 1) n j (omega arith))

pub segments_listed : (tree : Tree) → segments tree ≡ range_with_len 1 (length tree)
unfolding segments
segments_listed [] = refl
segments_listed (x ∷ older) =
    ap (λ l. l ++ (length older + 1) ∷ []) (segments_listed older) ∙ sym (last 1 (length older) (length older + 1) (omega arith))

-- one element of the list becomes another
pub set_range : {X : Type 0} (f g : ℕ → X) (a n j : ℕ) (v d : X) → j < n → g (a + j) ≡ v → ((s : ℕ) → s ≢ a + j → g s ≡ f s)
    → set (map f (range_with_len a n)) j v ≡ map g (range_with_len a n)
set_range {X = X} f g a n j v d low is other =
    ext_get_or d (set (map f (range_with_len a n)) j v) (map g (range_with_len a n))
    (length-set (map f (range_with_len a n)) j v ∙ (length-map-range_with_len f a n ∙ sym (length-map-range_with_len g a n)))
    (λ k inside. at k (omega (arith, length-set (map f (range_with_len a n)) j v, length-map-range_with_len f a n)))
  where
    at : (k : ℕ) → k < n → get_or (set (map f (range_with_len a n)) j v) k d ≡ get_or (map g (range_with_len a n)) k d
    at k inside =
        elim (eqb_tells k j) as (λ _. get_or (set (map f (range_with_len a n)) j v) k d ≡ get_or (map g (range_with_len a n)) k d) [
          | inl w ↦
              ap (λ i. get_or (set (map f (range_with_len a n)) j v) i d) w.1
              ∙ (get_or-set_same (map f (range_with_len a n)) j v d (omega (arith, low, length-map-range_with_len f a n))
              ∙ (sym is ∙ sym (get_or-map-range_with_len g a n k (a + j) d inside (omega (arith, w.1)))))
          | inr w ↦
              get_or-set_other (map f (range_with_len a n)) j k v d w.1
              ∙ (get_or-map-range_with_len f a n k (a + k) d inside refl
              ∙ (sym (other (a + k) (λ e. w.1 (omega (arith, e)))) ∙ sym (get_or-map-range_with_len g a n k (a + k) d inside refl)))
        ]

-- ---- sections

-- the first k sections, those of segment s
abbrev pub first_in : Program → ℕ → ℕ → List ℕ
first_in p k s = filter (λ i. segment_of_section p i == s) (range_with_len 0 k)

put_here : (f : ℕ → ℕ) (k m s : ℕ) → m ≡ k + 1 → f k ≡ s → filter (λ i. f i == s) (range_with_len 0 m) ≡ filter (λ i. f i == s) (range_with_len 0 k) ++ k ∷ []
put_here f k m s next here =
    ap (λ n. filter (λ i. f i == s) (range_with_len 0 n)) (next ∙ suc_is k)
    ∙ (ap (filter (λ i. f i == s)) (last 0 k k (omega arith))
    ∙ (filter-append (λ i. f i == s) (range_with_len 0 k) (k ∷ [])
    ∙ (elim (eqb_tells (f k) s) as (λ _. filter (λ i. f i == s) (range_with_len 0 k) ++ cond (f k == s) (k ∷ []) [] ≡ filter (λ i. f i == s) (range_with_len 0 k) ++ k ∷ []) [
      | inl w ↦ rw w.0 refl
      | inr w ↦ absurd (w.1 here)
    ])))
  where
    suc_is : (k : ℕ) → k + 1 ≡ suc k
    suc_is k = omega arith

put_away : (f : ℕ → ℕ) (k m s : ℕ) → m ≡ k + 1 → f k ≢ s → filter (λ i. f i == s) (range_with_len 0 m) ≡ filter (λ i. f i == s) (range_with_len 0 k)
put_away f k m s next away =
    ap (λ n. filter (λ i. f i == s) (range_with_len 0 n)) (next ∙ suc_is k)
    ∙ (ap (filter (λ i. f i == s)) (last 0 k k (omega arith))
    ∙ (filter-append (λ i. f i == s) (range_with_len 0 k) (k ∷ [])
    ∙ (elim (eqb_tells (f k) s) as (λ _. filter (λ i. f i == s) (range_with_len 0 k) ++ cond (f k == s) (k ∷ []) [] ≡ filter (λ i. f i == s) (range_with_len 0 k)) [
      | inl w ↦ absurd (away w.1)
      | inr w ↦ rw w.0 (append-nil (filter (λ i. f i == s) (range_with_len 0 k)))
    ])))
  where
    suc_is : (k : ℕ) → k + 1 ≡ suc k
    suc_is k = omega arith

pub none_put : (p : Program) (a n : ℕ) → replicate n [] ≡ map (first_in p 0) (range_with_len a n)
none_put p a zero = refl
none_put p a (suc n) = ap (λ l. [] ∷ l) (none_put p (a + 1) n)

pub section_found : (xs ys : List Section) (i : ℕ) (x : Section) → ys ≡ xs → i < length ys → x ≡ get_or ys i x → slice_get xs i ≡ Some x
section_found xs ys i x are low is = ap (λ l. slice_get l i) (sym are) ∙ (slice_get-get_or ys i x low ∙ ap (λ y. Some y) (sym is))

pub segment_here : (count : ℕ) (xs ys : List Section) (i : ℕ) (x : Section) → All (IsSegmentTo count) xs → ys ≡ xs → i < length ys → x ≡ get_or ys i x
    → IsSegmentTo count x
segment_here count xs ys i x all are low is =
    subst (IsSegmentTo count) (ap (λ l. get_or l i x) (sym are) ∙ sym is) (all i x (omega (arith, low, ap length are)))

-- one section more
pub put_more : (p : Program) (k m count at : ℕ) (x : Section) (old new : List (List ℕ)) → m ≡ k + 1 → slice_get p.sections k ≡ Some x
    → 1 ≤ x.segment → x.segment ≤ count → at ≡ x.segment - 1 → old ≡ map (first_in p k) (range_with_len 1 count)
    → new ≡ set old at (get_or old at [] ++ k ∷ []) → new ≡ map (first_in p m) (range_with_len 1 count)
put_more p k m count at x old new next found first last place was is =
    let here : segment_of_section p k ≡ x.segment = ap (λ o. option_map_or (λ y. y.segment) o 0) found in
    let home : 1 + at ≡ x.segment = omega (arith, first, place) in
    let inside : at < count = omega (arith, first, last, place) in
    is ∙ (ap (λ l. set l at (get_or l at [] ++ k ∷ [])) was
    ∙ (ap (λ l. set (map (first_in p k) (range_with_len 1 count)) at (l ++ k ∷ []))
    (get_or-map-range_with_len (first_in p k) 1 count at x.segment [] inside home)
    ∙ set_range (first_in p k) (first_in p m) 1 count at (first_in p k x.segment ++ k ∷ []) [] inside
    (ap (first_in p m) home ∙ put_here (segment_of_section p) k m x.segment next here)
    (λ s other. put_away (segment_of_section p) k m s next (λ e. other (sym e ∙ here ∙ sym home)))))

-- ---- the parts of a segment

table_same : (n s : ℕ) → (if not (n == 0) then Entab s ∷ [] else []) ≡ (if n == 0 then [] else Entab s ∷ [])
table_same n s = elim (n == 0) as (λ t. (if not t then Entab s ∷ [] else []) ≡ (if t then [] else Entab s ∷ [])) [ true ↦ refl | false ↦ refl ]

pub parts_of_segment : (P : Laid) (s count : ℕ) (sections : List ℕ) (has : Bool) → count ≡ length P.tree → sections ≡ sections_in P.program s
    → has ≡ has_entries P.entries s → segment_parts s count sections has ≡ parts_in P s
parts_of_segment P s count sections has counted are is =
    rw (counted, are, is) (ap (λ l. head_parts s (length P.tree) ++ map (λ i. OneSection i) (sections_in P.program s) ++ l) (table_same (entry_count P s) s))

pub list_here : (p : Program) (count i s : ℕ) (lists : List (Vec ℕ)) (v : Vec ℕ) (xs : List ℕ) → map (λ l. l.items) lists ≡ map (sections_in p) (range_with_len 1 count)
    → i < count → s ≡ i + 1 → v ≡ get_or lists i v → xs ≡ v.items → xs ≡ sections_in p s
list_here p count i s lists v xs are low next is same =
    let long : length lists ≡ count = sym (length-map lists (λ l. l.items)) ∙ (ap length are ∙ length-map-range_with_len (sections_in p) 1 count) in
    same ∙ (ap (λ l. l.items) is
    ∙ (sym (get_or-map (λ l. l.items) lists i v [] (omega (arith, low, long)))
    ∙ (ap (λ l. get_or l i []) are ∙ get_or-map-range_with_len (sections_in p) 1 count i s [] low (omega (arith, next)))))

kept_short : (f : ℕ → Bool) (xs : List ℕ) → length (filter f xs) ≤ length xs
kept_short f [] = omega arith
kept_short f (x ∷ xs) =
    elim (f x) as (λ t. length (cond t (x ∷ filter f xs) (filter f xs)) ≤ length (x ∷ xs)) [
      | true ↦ omega (arith, kept_short f xs)
      | false ↦ omega (arith, kept_short f xs)
    ]

pub sections_short : (p : Program) (s : ℕ) → length (sections_in p s) ≤ length p.sections
sections_short p s =
    omega (
      arith,
      kept_short (λ i. segment_of_section p i == s) (range_with_len 0 (length p.sections)),
      length-range_with_len 0 (length p.sections),
    )

-- one element more
pub push_range : {X : Type 0} (f : ℕ → X) (a i : ℕ) (v : X) (xs : List X) → xs ≡ map f (range_with_len a i) → v ≡ f (a + i)
    → xs ++ v ∷ [] ≡ map f (range_with_len a (i + 1))
push_range f a i v xs was is =
    ap (λ l. l ++ v ∷ []) was
    ∙ (ap (λ k. map f (range_with_len a i) ++ k ∷ []) is ∙ sym (map-range_with_len_more f a i (a + i) refl))

pub flat_range_more : {X : Type 0} (f : ℕ → List X) (n m : ℕ) → m ≡ n + 1 → flat_map f (range_with_len 1 m) ≡ flat_map f (range_with_len 1 n) ++ f m
flat_range_more f n m next =
    ap (λ k. flat_map f (range_with_len 1 k)) (next ∙ suc_is n)
    ∙ (ap (flat_map f) (last 1 n m (omega (arith, next)))
    ∙ (flat_map-append f (range_with_len 1 n) (m ∷ []) ∙ ap (λ l. flat_map f (range_with_len 1 n) ++ l) (append-nil (f m))))
  where
    suc_is : (k : ℕ) → k + 1 ≡ suc k
    suc_is k = omega arith
