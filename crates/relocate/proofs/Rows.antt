-- The overlay tables while their rows are written.
use Rattle.std.proofs.Common.{◌≡◌, ℕ, zero, suc, ◌+◌, ◌-◌, ◌*◌, ◌<◌, ◌≤◌, List, [], ◌∷◌, ◌++◌, flat_map, length, take, replicate, get_or, refl, sym, ap, ◌∙◌, arith}
use borrow.Rule.Slice.PartMut.{put_mid}
use Rattle.std.specs.List.{range_with_len, enumerate_from}
use Rattle.std.proofs.lemmas.List.{append-nil, take_more, take_all, drop_all, drop-drop, flat_map_more}
use Rattle.std.proofs.lemmas.List.FromFn.{length-enumerate_from, get_or-enumerate_from}
use Rattle.std.proofs.lemmas.Slice.{take-put_mid}
use Rattle.byteorder.specs.Endian.{big_bytes}
use Rattle.sym_mod.specs.declared.program.Target.{Target}
use Rattle.sym_mod.specs.declared.program.Program.{Program}
use Rattle.linking_model.specs.Tree.{Tree, segments, regions, parent_of, region_of}
use Rattle.linking_model.specs.Tables.{segment_of}
use Rattle.linking_model.specs.Places.{Laid, entries_of}
use Rattle.linking_model.specs.TableBytes.{status_of, segtab_bytes, entry_bytes, entab_bytes}

-- ---- lists that are written from the front

-- the front, once bytes are put after it
pub longer : (at n k : ℕ) (xs front bytes : List ℕ) → take at xs ≡ front → at ≤ length xs → n ≡ at + length bytes
    → take n (put_mid at k xs bytes) ≡ front ++ bytes
longer at n k xs front bytes was within to = take-put_mid at k xs bytes n to within ∙ ap (λ l. l ++ bytes) was

-- all of it, once the last bytes are put
pub closed : (at k : ℕ) (xs front bytes : List ℕ) → take at xs ≡ front → k ≡ length xs - at → put_mid at k xs bytes ≡ front ++ bytes
closed at k xs front bytes was rest =
    ap (λ l. take at xs ++ (bytes ++ l)) (drop-drop k at xs ∙ drop_all (at + k) xs (omega (arith, rest)))
    ∙ ap (λ l. take at xs ++ l) (append-nil bytes) ∙ ap (λ l. l ++ bytes) was

-- all of it
pub whole : (n : ℕ) (xs front : List ℕ) → take n xs ≡ front → length xs ≤ n → xs ≡ front
whole n xs front was within = sym (take_all n xs within) ∙ was

-- ---- `$SEGTAB`

abbrev pub segment_bytes : Tree → ℕ → List ℕ
segment_bytes tree s = parent_of tree s ∷ region_of tree s ∷ status_of (1 ∷ []) s ∷ 0 ∷ []

-- the table up to the first i segments
abbrev pub segtab_front : Tree → ℕ → List ℕ
segtab_front tree i = length tree ∷ regions tree ∷ replicate 6 0 ++ flat_map (segment_bytes tree) (range_with_len 1 i)

last : (a n j : ℕ) → a + n ≡ j → range_with_len a (suc n) ≡ range_with_len a n ++ j ∷ []
last a zero j e = let same : a ≡ j = omega arith in ap (λ k. k ∷ []) same
last a (suc n) j e = ap (λ l. a ∷ l) (last (a + 1) n j (omega arith))

last_counted : (n m : ℕ) → m ≡ suc n → range_with_len 1 m ≡ range_with_len 1 n ++ m ∷ []
last_counted n m e = rw e (last 1 n (suc n) (omega arith))

pub segments_listed : (tree : Tree) → segments tree ≡ range_with_len 1 (length tree)
unfolding segments
segments_listed [] = refl
segments_listed (x ∷ older) =
    ap (λ l. l ++ (length older + 1) ∷ []) (segments_listed older) ∙ sym (last 1 (length older) (length older + 1) (omega arith))

pub segment_more : (tree : Tree) (i : ℕ) → segtab_front tree i ++ segment_bytes tree (i + 1) ≡ segtab_front tree (i + 1)
segment_more tree i =
    flat_map_more (segment_bytes tree) (length tree ∷ regions tree ∷ replicate 6 0) (range_with_len 1 i) (i + 1)
    ∙ ap (λ l. length tree ∷ regions tree ∷ replicate 6 0 ++ flat_map (segment_bytes tree) l) (sym (last_counted i (i + 1) (omega arith)))

pub segtab_whole : (tree : Tree) (i n : ℕ) (xs : List ℕ) → take n xs ≡ segtab_front tree i → i ≡ length tree → length xs ≤ n
    → xs ≡ segtab_bytes tree (1 ∷ [])
unfolding segtab_bytes
segtab_whole tree i n xs was all within =
    whole n xs (segtab_front tree i) was within
    ∙ ap (λ l. length tree ∷ regions tree ∷ replicate 6 0 ++ flat_map (segment_bytes tree) l)
    (ap (range_with_len 1) all ∙ sym (segments_listed tree))

-- ---- `$ENTAB`

-- entry i, for the target of a place
abbrev pub target_bytes : Program → (Target → ℕ) → List Target → ℕ → ℕ × Target → List ℕ
target_bytes p address table b (i, y) = entry_bytes (length table) i (address y) (segment_of p y) b

-- the table up to the first i entries
abbrev pub entab_front : Program → (Target → ℕ) → List Target → ℕ → ℕ → List ℕ
entab_front p address table b i =
    big_bytes 2 (length table) ++ replicate 6 0 ++ flat_map (target_bytes p address table b) (take i (enumerate_from 0 table))

entry_placed : (n i a t b : ℕ) → entry_bytes (n - i) 0 a t b ≡ entry_bytes n i a t b
entry_placed n i a t b = ap (λ m. 71 ∷ 240 ∷ big_bytes 2 (61440 + 12 * m) ++ big_bytes 4 a ++ t ∷ b ∷ 0 ∷ 0 ∷ []) (none_off (n - i))
  where
    none_off : (m : ℕ) → m - 0 ≡ m
    none_off m = omega arith

taken_more : (table : List Target) (i : ℕ) (y : Target) → i < length table → y ≡ get_or table i y
    → take (i + 1) (enumerate_from 0 table) ≡ take i (enumerate_from 0 table) ++ (i, y) ∷ []
taken_more table i y within is =
    take_more (enumerate_from 0 table) i (0, y) (omega (arith, within, length-enumerate_from 0 table))
    ∙ ap (λ e. take i (enumerate_from 0 table) ++ e ∷ [])
    (get_or-enumerate_from 0 table i (0, y) within ∙ (ap (λ k. (k, get_or table i y)) (none_before i) ∙ ap (λ z. (i, z)) (sym is)))
  where
    none_before : (k : ℕ) → 0 + k ≡ k
    none_before k = omega arith

pub entry_more : (p : Program) (address : Target → ℕ) (table : List Target) (b i : ℕ) (y : Target) → i < length table → y ≡ get_or table i y
    → entab_front p address table b i ++ entry_bytes (length table - i) 0 (address y) (segment_of p y) b ≡ entab_front p address table b (i + 1)
entry_more p address table b i y within is =
    ap (λ e. entab_front p address table b i ++ e) (entry_placed (length table) i (address y) (segment_of p y) b)
    ∙ flat_map_more (target_bytes p address table b) (big_bytes 2 (length table) ++ replicate 6 0) (take i (enumerate_from 0 table)) (i, y)
    ∙ ap (λ l. big_bytes 2 (length table) ++ replicate 6 0 ++ flat_map (target_bytes p address table b) l) (sym (taken_more table i y within is))

pub entab_whole : (P : Laid) (address : Target → ℕ) (table : List Target) (b i : ℕ) → table ≡ entries_of P b → length table ≤ i
    → entab_front P.program address table b i ++ 10 ∷ 45 ∷ 0 ∷ 0 ∷ [] ≡ entab_bytes P address b
unfolding entab_bytes
entab_whole P address table b i is all =
    ap (λ l. big_bytes 2 (length table) ++ replicate 6 0 ++ flat_map (target_bytes P.program address table b) l ++ 10 ∷ 45 ∷ 0 ∷ 0 ∷ [])
    (take_all i (enumerate_from 0 table) (omega (arith, all, length-enumerate_from 0 table)))
    ∙ ap (λ t. big_bytes 2 (length t) ++ replicate 6 0 ++ flat_map (target_bytes P.program address t b) (enumerate_from 0 t) ++ 10 ∷ 45 ∷ 0 ∷ 0 ∷ []) is
