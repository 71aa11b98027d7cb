-- The chunks of relocation items fit their records.
use Rattle.std.proofs.Common.{◌≡◌, ℕ, zero, suc, ◌+◌, ◌<◌, ◌≤◌, Bool, true, false, ◌==◌, nat_lt, if◌then◌else◌, List, [], ◌∷◌, ◌++◌, map, length, Option, Some, None, zero-add, refl, sym, ap, subst, ◌∙◌, arith}
use Rattle.std.proofs.lemmas.Bool.{ltb-false}
use Rattle.std.proofs.lemmas.List.{append_assoc, length-append, map-append}
use Rattle.std.specs.List.{AllByRecursion, flat_map}
use Rattle.byteorder.specs.Endian.{big_bytes}
use Rattle.load_recs.specs.declared.items.RldItem.{RldItem}
use Rattle.load_recs.specs.declared.relocation_items.Pointers.{Pointers}
use Rattle.load_recs.specs.ItemBytes.{rld_list_bytes}
use Rattle.load_recs.specs.Records.{AreRlds}
use Rattle.load_recs.specs.Relocations.{kept_by, rlds_of}
use Rattle.member_model.specs.Chunks.{same_pointers, room_after, chunks_after, chunks, joined, chunk_bytes}
use Rattle.member_laws.proofs.Lists.{each-append}
use Rattle.member_laws.proofs.Joined.{IsPlain, ArePlain, told, kept-none, kept-some, chunk-again, chunk-whole, chunk_flags}

-- ---- lengths

-- how long the bytes of items are after numbers that the first does not say, or none
abbrev length_after : Option Pointers → List RldItem → ℕ
length_after kept items = length (rld_list_bytes kept (joined items))

-- one more item after x
last-longer : (x y : RldItem) → IsPlain x → length_after (kept_by (told (same_pointers x y) x)) (y ∷ []) ≡ room_after x y
last-longer x y is =
    elim (same_pointers x y) as (λ b. length_after (kept_by (told b x)) (y ∷ []) ≡ (if b then 4 else 8)) [
      | true ↦ ap (λ k. length_after k (y ∷ [])) (kept-some x is)
      | false ↦ ap (λ k. length_after k (y ∷ [])) (kept-none x is)
    ]

eight_more : (a b c : ℕ) → a ≡ b + c → suc (suc (suc (suc (suc (suc (suc (suc a))))))) ≡ suc (suc (suc (suc (suc (suc (suc (suc b))))))) + c
eight_more a b c e = omega arith

four_more : (a b c : ℕ) → a ≡ b + c → suc (suc (suc (suc a))) ≡ suc (suc (suc (suc b))) + c
four_more a b c e = omega arith

first-longer : (kept : Option Pointers) (x y : RldItem) → IsPlain x → length_after kept (x ∷ y ∷ []) ≡ length_after kept (x ∷ []) + room_after x y
first-longer None x y is =
    eight_more (length_after (kept_by (told (same_pointers x y) x)) (y ∷ [])) 0 (room_after x y) (last-longer x y is ∙ sym (zero-add (room_after x y)))
first-longer (Some p) x y is =
    four_more (length_after (kept_by (told (same_pointers x y) x)) (y ∷ [])) 0 (room_after x y) (last-longer x y is ∙ sym (zero-add (room_after x y)))

joined-longer : (kept : Option Pointers) (before : List RldItem) (x y : RldItem) → ArePlain (before ++ x ∷ [])
    → length_after kept (before ++ x ∷ y ∷ []) ≡ length_after kept (before ++ x ∷ []) + room_after x y
joined-longer kept [] x y plain = first-longer kept x y plain.0
joined-longer None (b ∷ []) x y plain =
    let k = kept_by (told (same_pointers b x) b) in
    eight_more (length_after k (x ∷ y ∷ [])) (length_after k (x ∷ [])) (room_after x y) (first-longer k x y plain.1.0)
joined-longer (Some p) (b ∷ []) x y plain =
    let k = kept_by (told (same_pointers b x) b) in
    four_more (length_after k (x ∷ y ∷ [])) (length_after k (x ∷ [])) (room_after x y) (first-longer k x y plain.1.0)
joined-longer None (b ∷ c ∷ before) x y plain =
    let k = kept_by (told (same_pointers b c) b) in
    eight_more (length_after k (c ∷ (before ++ x ∷ y ∷ []))) (length_after k (c ∷ (before ++ x ∷ []))) (room_after x y) (joined-longer k (c ∷ before) x y plain.1)
joined-longer (Some p) (b ∷ c ∷ before) x y plain =
    let k = kept_by (told (same_pointers b c) b) in
    four_more (length_after k (c ∷ (before ++ x ∷ y ∷ []))) (length_after k (c ∷ (before ++ x ∷ []))) (room_after x y) (joined-longer k (c ∷ before) x y plain.1)

-- ---- chunks

-- a chunk: items that are plain, some, whose bytes fit a record
pub record IsChunk (items : List RldItem) : Type 0 where
  pub plain : ArePlain items
  pub some : 1 ≤ length items
  pub most : length (chunk_bytes items) ≤ 240

snoc-some : (before : List RldItem) (x : RldItem) → 1 ≤ length (before ++ x ∷ [])
snoc-some before x = let e : length (before ++ x ∷ []) ≡ length before + 1 = length-append before (x ∷ []) in omega arith

snoc-plain : (before : List RldItem) (x y : RldItem) → ArePlain (before ++ x ∷ []) → IsPlain y → ArePlain ((before ++ x ∷ []) ++ y ∷ [])
snoc-plain before x y plain is = each-append IsPlain (before ++ x ∷ []) (y ∷ []) plain (is, tt)

longer : (before : List RldItem) (x y : RldItem) (n : ℕ) → ArePlain (before ++ x ∷ []) → length (chunk_bytes (before ++ x ∷ [])) ≡ n
    → length (chunk_bytes ((before ++ x ∷ []) ++ y ∷ [])) ≡ n + room_after x y
longer before x y n plain e =
    ap (λ l. length (chunk_bytes l)) (append_assoc before (x ∷ []) (y ∷ []))
    ∙ joined-longer None before x y plain ∙ ap (λ k. k + room_after x y) e

are-chunks : (before : List RldItem) (x : RldItem) (n : ℕ) (ys : List RldItem) → ArePlain (before ++ x ∷ []) → ArePlain ys
    → length (chunk_bytes (before ++ x ∷ [])) ≡ n → n ≤ 240 → AllByRecursion IsChunk (chunks_after before x n ys)
unfolding chunks_after
are-chunks before x n [] plain rest e fits = (record { plain = plain; some = snoc-some before x; most = omega arith }, tt)
are-chunks before x n (y ∷ ys) plain rest e fits =
    step (nat_lt 240 (n + room_after x y)) refl
    (are-chunks [] y 8 ys (rest.0, tt) rest.1 refl (omega arith))
    (λ short. are-chunks (before ++ x ∷ []) y (n + room_after x y) ys (snoc-plain before x y plain rest.0) rest.1 (longer before x y n plain e) short)
  where
    step : (b : Bool) → nat_lt 240 (n + room_after x y) ≡ b → AllByRecursion IsChunk (chunks_after [] y 8 ys)
        → (n + room_after x y ≤ 240 → AllByRecursion IsChunk (chunks_after (before ++ x ∷ []) y (n + room_after x y) ys))
        → AllByRecursion IsChunk (if b then (before ++ x ∷ []) ∷ chunks_after [] y 8 ys else chunks_after (before ++ x ∷ []) y (n + room_after x y) ys)
    step true is cut goes_on = (record { plain = plain; some = snoc-some before x; most = omega arith }, cut)
    step false is cut goes_on = goes_on (ltb-false 240 (n + room_after x y) is)

pub chunks-are : (items : List RldItem) → ArePlain items → AllByRecursion IsChunk (chunks items)
chunks-are [] plain = tt
chunks-are (x ∷ xs) plain = are-chunks [] x 8 xs (plain.0, tt) plain.1 refl (omega arith)

-- ---- their bytes

-- the bytes of a chunk, as a record may hold them
pub record IsChunkBytes (bytes : List ℕ) : Type 0 where
  pub are : AreRlds bytes
  pub some : 0 < length bytes

bytes-some : (items : List RldItem) → 1 ≤ length items → 0 < length (chunk_bytes items)
bytes-some [] some = absurd (omega arith)
bytes-some (x ∷ []) some = omega arith
bytes-some (x ∷ y ∷ items) some = omega arith

bytes-are : (items : List RldItem) → IsChunk items → IsChunkBytes (chunk_bytes items)
bytes-are items is =
    record {
      are = record { most = is.most; whole = chunk-whole items is.plain; flags = chunk_flags items is.plain };
      some = bytes-some items is.some;
    }

each-bytes : (lists : List (List RldItem)) → AllByRecursion IsChunk lists → AllByRecursion IsChunkBytes (map chunk_bytes lists)
each-bytes [] all = tt
each-bytes (x ∷ lists) all = (bytes-are x all.0, each-bytes lists all.1)

pub chunks-written : (items : List RldItem) → ArePlain items → AllByRecursion IsChunkBytes (map chunk_bytes (chunks items))
chunks-written items plain = each-bytes (chunks items) (chunks-are items plain)

each-read : (lists : List (List RldItem)) → AllByRecursion IsChunk lists → flat_map rlds_of (map chunk_bytes lists) ≡ flat_map joined lists
each-read [] all = refl
each-read (x ∷ lists) all =
    ap (λ l. l ++ flat_map rlds_of (map chunk_bytes lists)) (chunk-again x all.0.plain) ∙ ap (λ l. joined x ++ l) (each-read lists all.1)

-- the chunks are read as their items, each of which tells of the next
pub chunks_read : (items : List RldItem) → ArePlain items → flat_map rlds_of (map chunk_bytes (chunks items)) ≡ flat_map joined (chunks items)
chunks_read items plain = each-read (chunks items) (chunks-are items plain)
