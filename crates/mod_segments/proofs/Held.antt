-- What is read of a chunk are its items.
use Rattle.std.proofs.Common.{◌≡◌, ℕ, ◌+◌, ◌/◌, ◌≤◌, ◌<◌, Bool, true, false, nat_lt, if◌then◌else◌, List, [], ◌∷◌, ◌++◌, fold, map, All, refl, sym, ap, subst, ◌∙◌, append_assoc, arith}
use Rattle.std.specs.List.{list_any}
use Rattle.std.proofs.lemmas.List.{append-nil}
use Rattle.std.proofs.lemmas.List.Elements.{All-head, All-tail, All-push, All-nil, All-cons}
use Rattle.std.proofs.lemmas.Bool.Decides.{nat_tests}
use Rattle.byteorder.specs.Endian.{big_bytes, big_number}
use Rattle.byteorder.specs.Numbers.{big_number-reads_back}
use Rattle.load_recs.specs.Relocations.{is_joined, is_wrong_flag, pointers_of, kept_after, kept_by, rlds_after, left_after, has_wrong_flag}
use Rattle.load_recs.specs.ItemBytes.{IsRld, rld_item_bytes, kept_before}
use Rattle.load_recs.specs.declared.items.RldItem.{RldItem}
use Rattle.load_recs.specs.declared.relocation_items.Pointers.{Pointers}
use Rattle.member_model.specs.Chunks.{same_pointers, room_after, chunks_after, chunks, joined, chunk_bytes}
use Rattle.mod_segments.specs.Chunks.{IsItem, IsChunk, told, size, closed}
use Rattle.mod_segments.proofs.Filled.{first_or, lead, is_short, filling, told_kept, joined_front, closed_chunk, length_closed, size_more}

-- ---- one item

item_read : (short : Bool) (i : RldItem) (rest : List ℕ) → IsRld i
    → rlds_after (kept_before short i) (rld_item_bytes short i ++ rest) ≡ i ∷ rlds_after (kept_by i) rest
item_read true i rest is = rw (big_number-reads_back 3 i.address [] is.address_fits) refl
item_read false i rest is =
    rw (big_number-reads_back 2 i.r [] is.r_fits, big_number-reads_back 2 i.p [] is.p_fits, big_number-reads_back 3 i.address [] is.address_fits) refl

same_again : (i : RldItem) → IsRld i
    → record { r = big_number 2 (big_bytes 2 i.r ++ []); p = big_number 2 (big_bytes 2 i.p ++ []) } ≡ pointers_of i
same_again i is = rw (big_number-reads_back 2 i.r [] is.r_fits, big_number-reads_back 2 i.p [] is.p_fits) refl

item_left : (short : Bool) (i : RldItem) (rest : List ℕ) → IsRld i
    → left_after (kept_before short i) (rld_item_bytes short i ++ rest) ≡ left_after (kept_by i) rest
item_left true i rest is = refl
item_left false i rest is = ap (λ (p : Pointers). left_after (kept_after p i.flag) rest) (same_again i is)

told_fits : (joined : Bool) (i : RldItem) → IsRld i → IsRld (told joined i)
told_fits true i is = record { r_fits = is.r_fits; p_fits = is.p_fits; address_fits = is.address_fits }
told_fits false i is = is

-- an item that tells of the next keeps its numbers
told_before : (short joined : Bool) (i : RldItem) → kept_before short (told joined i) ≡ kept_before short i
told_before short true i = refl
told_before short false i = refl

-- ---- all of them

read_all : (short : Bool) (before : List RldItem) (x : RldItem) → All IsItem before → IsItem x
    → rlds_after (kept_before short (first_or before x)) (lead short before x ++ rld_item_bytes (is_short short before x) x) ≡ joined (before ++ x ∷ [])
read_all short [] x are is =
    rw (← append-nil (rld_item_bytes short x)) (item_read short x [] is.fits ∙ rw is.alone refl)
read_all short (z ∷ zs) x are is =
    let same : Bool = same_pointers z (first_or zs x) in
    let head = All-head IsItem z zs are in
    let last : List ℕ = rld_item_bytes (is_short same zs x) x in
    rw (append_assoc (rld_item_bytes short (told same z)) (lead same zs x) last, ← told_before short same z)
    (item_read short (told same z) (lead same zs x ++ last) (told_fits same z head.fits)
    ∙ (ap (λ k. told same z ∷ rlds_after k (lead same zs x ++ last)) (told_kept z (first_or zs x) same refl head)
    ∙ (ap (λ (items : List RldItem). told same z ∷ items) (read_all same zs x (All-tail IsItem z zs are) is)
    ∙ sym (joined_front z zs x))))

left_all : (short : Bool) (before : List RldItem) (x : RldItem) → All IsItem before → IsItem x
    → left_after (kept_before short (first_or before x)) (lead short before x ++ rld_item_bytes (is_short short before x) x) ≡ []
left_all short [] x are is =
    rw (← append-nil (rld_item_bytes short x)) (item_left short x [] is.fits ∙ rw is.alone refl)
left_all short (z ∷ zs) x are is =
    let same : Bool = same_pointers z (first_or zs x) in
    let head = All-head IsItem z zs are in
    let last : List ℕ = rld_item_bytes (is_short same zs x) x in
    rw (append_assoc (rld_item_bytes short (told same z)) (lead same zs x) last, ← told_before short same z)
    (item_left short (told same z) (lead same zs x ++ last) (told_fits same z head.fits)
    ∙ (ap (λ k. left_after k (lead same zs x ++ last)) (told_kept z (first_or zs x) same refl head)
    ∙ left_all same zs x (All-tail IsItem z zs are) is))

-- ---- flags

still_known : (f : ℕ) → is_joined f ≡ false → is_wrong_flag f ≡ false → is_wrong_flag (f + 1) ≡ false
still_known f even known =
    let parts : (f + 1) / 16 ≡ f / 16 = grind (arith, nat_tests) in
    let halves : (f + 1) / 2 ≡ f / 2 = grind (arith, nat_tests) in
    rw (parts, halves) known

told_known : (same : Bool) (z : RldItem) → IsItem z → is_wrong_flag (told same z).flag ≡ false
told_known true z is = still_known z.flag is.alone is.known
told_known false z is = is.known

none_wrong : (before : List RldItem) (x : RldItem) → All IsItem before → IsItem x
    → list_any (λ (i : RldItem). is_wrong_flag i.flag) (joined (before ++ x ∷ [])) ≡ false
none_wrong [] x are is = rw is.known refl
none_wrong (z ∷ zs) x are is =
    let same : Bool = same_pointers z (first_or zs x) in
    rw (joined_front z zs x, told_known same z (All-head IsItem z zs are)) (none_wrong zs x (All-tail IsItem z zs are) is)

last_alone : (b : Bool) (before : List RldItem) (x : RldItem) → IsItem x
    → fold (λ _ (i : RldItem). is_joined i.flag) b (joined (before ++ x ∷ [])) ≡ false
last_alone b [] x is = is.alone
last_alone b (z ∷ zs) x is =
    rw (joined_front z zs x) (last_alone (is_joined (told (same_pointers z (first_or zs x)) z).flag) zs x is)

flags_right : (before : List RldItem) (x : RldItem) → All IsItem before → IsItem x → has_wrong_flag (joined (before ++ x ∷ [])) ≡ false
flags_right before x are is = rw (none_wrong before x are is) (last_alone false before x is)

-- ---- chunks

some_room : (short : Bool) → 0 < (if short then 4 else 8)
some_room true = omega arith
some_room false = omega arith

chunk_held : (before : List RldItem) (x : RldItem) → All IsItem before → IsItem x → size (filling before x) ≤ 240
    → IsChunk (closed (filling before x))
chunk_held before x are is short = record {
  some = omega (arith, length_closed before x, some_room (is_short false before x));
  items = record {
    most = rw (length_closed before x) short;
    whole = rw (left_all false before x are is) refl;
    flags = rw (read_all false before x are is) (flags_right before x are is);
  };
}

held_by : (before : List RldItem) (x : RldItem) (n : ℕ) (ys : List RldItem) → All IsItem before → IsItem x → All IsItem ys
    → size (filling before x) ≡ n → n ≤ 240 → All IsChunk (map chunk_bytes (chunks_after before x n ys))
unfolding chunks_after
held_by before x n [] are is rest e short =
    All-cons IsChunk (chunk_bytes (before ++ x ∷ [])) []
    (subst IsChunk (closed_chunk before x are is) (chunk_held before x are is (rw e short))) (All-nil IsChunk)
held_by before x n (y ∷ ys) are is rest e short =
    by_room (nat_lt 240 (n + room_after x y)) refl
    (held_by [] y 8 ys (All-nil IsItem) (All-head IsItem y ys rest) (All-tail IsItem y ys rest) refl (omega arith))
    (λ fits. held_by (before ++ x ∷ []) y (n + room_after x y) ys (All-push IsItem before x are is) (All-head IsItem y ys rest) (All-tail IsItem y ys rest) (size_more before x y ∙ ap (λ k. k + room_after x y) e) fits)
  where
    by_room : (full : Bool) → nat_lt 240 (n + room_after x y) ≡ full
        → All IsChunk (map chunk_bytes (chunks_after [] y 8 ys))
        → (n + room_after x y ≤ 240 → All IsChunk (map chunk_bytes (chunks_after (before ++ x ∷ []) y (n + room_after x y) ys)))
        → All IsChunk (map chunk_bytes (if full then (before ++ x ∷ []) ∷ chunks_after [] y 8 ys else chunks_after (before ++ x ∷ []) y (n + room_after x y) ys))
    by_room true over anew more =
        All-cons IsChunk (chunk_bytes (before ++ x ∷ [])) (map chunk_bytes (chunks_after [] y 8 ys))
        (subst IsChunk (closed_chunk before x are is) (chunk_held before x are is (rw e short))) anew
    by_room false under anew more = more (grind (arith, nat_tests))

pub held : (x : RldItem) (ys : List RldItem) → IsItem x → All IsItem ys → All IsChunk (map chunk_bytes (chunks (x ∷ ys)))
held x ys is rest = held_by [] x 8 ys (All-nil IsItem) is rest refl (omega arith)
