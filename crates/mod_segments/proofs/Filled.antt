-- A chunk that is filled item by item has the bytes of its items.
use Rattle.std.proofs.Common.{◌≡◌, ℕ, ◌+◌, ◌≤◌, Bool, true, false, nat_lt, if◌then◌else◌, List, [], ◌∷◌, ◌++◌, length, map, drop, Some, All, refl, sym, ap, ◌∙◌, append_assoc, length-append, arith}
use Rattle.std.proofs.lemmas.List.{append-nil, drop_all}
use Rattle.std.proofs.lemmas.List.Elements.{All-head, All-tail, All-push, All-nil}
use Rattle.std.proofs.lemmas.Bool.Decides.{nat_tests}
use Rattle.load_recs.specs.Relocations.{is_joined, pointers_of, kept_by}
use Rattle.load_recs.specs.ItemBytes.{rld_item_bytes, rld_list_bytes, kept_before}
use Rattle.load_recs.specs.declared.items.RldItem.{RldItem}
use Rattle.member_model.specs.Chunks.{same_pointers, room_after, chunks_after, chunks, joined, chunk_bytes}
use Rattle.mod_segments.specs.Chunks.{IsItem, told, size, begun, continued, closed, chunks_from}
use Rattle.mod_segments.specs.declared.chunking.Filling.{Filling}

-- ---- one item

-- the first of the items, or the one after them
abbrev pub first_or : List RldItem → RldItem → RldItem
first_or [] x = x
first_or (z ∷ zs) x = z

even_next : (f : ℕ) → is_joined f ≡ false → is_joined (f + 1) ≡ true
even_next f e = grind (arith, nat_tests)

same_numbers : (z w : RldItem) → same_pointers z w ≡ true → pointers_of z ≡ pointers_of w
same_numbers z w e = grind (arith, nat_tests)

-- an item tells the numbers that the next does not say
pub told_kept : (z w : RldItem) (same : Bool) → same_pointers z w ≡ same → IsItem z → kept_by (told same z) ≡ kept_before same w
told_kept z w true e is = rw (even_next z.flag is.alone) (ap Some (same_numbers z w e))
told_kept z w false e is = rw is.alone refl

pub length_item : (short : Bool) (x : RldItem) → length (rld_item_bytes short x) ≡ (if short then 4 else 8)
length_item true x = refl
length_item false x = refl

-- ---- all but the last

-- the bytes of items before one more, of which the first is short or not
abbrev pub lead : Bool → List RldItem → RldItem → List ℕ
lead short [] x = []
lead short (z ∷ zs) x =
    rld_item_bytes short (told (same_pointers z (first_or zs x)) z) ++ lead (same_pointers z (first_or zs x)) zs x

-- the last is short
abbrev pub is_short : Bool → List RldItem → RldItem → Bool
is_short short [] x = short
is_short short (z ∷ zs) x = is_short (same_pointers z (first_or zs x)) zs x

-- a chunk of these items that is being filled
abbrev pub filling : List RldItem → RldItem → Filling
filling before x = record { bytes = lead false before x; last = x; short = is_short false before x }

first_of_all : (zs : List RldItem) (x y : RldItem) → first_or (zs ++ x ∷ []) y ≡ first_or zs x
first_of_all [] x y = refl
first_of_all (z ∷ zs) x y = refl

lead_more : (short : Bool) (before : List RldItem) (x y : RldItem)
    → lead short (before ++ x ∷ []) y ≡ lead short before x ++ rld_item_bytes (is_short short before x) (told (same_pointers x y) x)
lead_more short [] x y = append-nil (rld_item_bytes short (told (same_pointers x y) x))
lead_more short (z ∷ zs) x y =
    rw (first_of_all zs x y)
    (ap (λ (v : List ℕ). rld_item_bytes short (told (same_pointers z (first_or zs x)) z) ++ v) (lead_more (same_pointers z (first_or zs x)) zs x y)
    ∙ sym (append_assoc (rld_item_bytes short (told (same_pointers z (first_or zs x)) z)) (lead (same_pointers z (first_or zs x)) zs x) (rld_item_bytes (is_short (same_pointers z (first_or zs x)) zs x) (told (same_pointers x y) x))))

short_more : (short : Bool) (before : List RldItem) (x y : RldItem) → is_short short (before ++ x ∷ []) y ≡ same_pointers x y
short_more short [] x y = refl
short_more short (z ∷ zs) x y =
    ap (λ w. is_short (same_pointers z w) (zs ++ x ∷ []) y) (first_of_all zs x y) ∙ short_more (same_pointers z (first_or zs x)) zs x y

pub filling_more : (before : List RldItem) (x y : RldItem) → continued (filling before x) y ≡ filling (before ++ x ∷ []) y
filling_more before x y = rw (lead_more false before x y, short_more false before x y) refl

-- ---- the whole

pub joined_front : (z : RldItem) (zs : List RldItem) (x : RldItem)
    → joined (z ∷ (zs ++ x ∷ [])) ≡ told (same_pointers z (first_or zs x)) z ∷ joined (zs ++ x ∷ [])
joined_front z [] x = refl
joined_front z (w ∷ ws) x = refl

spelled_first : (short : Bool) (p i : RldItem) (items : List RldItem)
    → rld_list_bytes (kept_before short p) (i ∷ items) ≡ rld_item_bytes short i ++ rld_list_bytes (kept_by i) items
spelled_first true p i items = refl
spelled_first false p i items = refl

spelled_all : (short : Bool) (before : List RldItem) (x : RldItem) → All IsItem before → IsItem x
    → rld_list_bytes (kept_before short (first_or before x)) (joined (before ++ x ∷ [])) ≡ lead short before x ++ rld_item_bytes (is_short short before x) x
spelled_all short [] x are is = spelled_first short x x [] ∙ append-nil (rld_item_bytes short x)
spelled_all short (z ∷ zs) x are is =
    let w : RldItem = first_or zs x in
    let same : Bool = same_pointers z (first_or zs x) in
    ap (rld_list_bytes (kept_before short z)) (joined_front z zs x)
    ∙ (spelled_first short z (told same z) (joined (zs ++ x ∷ []))
    ∙ (ap (λ k. rld_item_bytes short (told same z) ++ rld_list_bytes k (joined (zs ++ x ∷ []))) (told_kept z w same refl (All-head IsItem z zs are))
    ∙ (ap (λ (v : List ℕ). rld_item_bytes short (told same z) ++ v) (spelled_all same zs x (All-tail IsItem z zs are) is)
    ∙ sym (append_assoc (rld_item_bytes short (told same z)) (lead same zs x) (rld_item_bytes (is_short same zs x) x)))))

-- a chunk has the bytes of its items
pub closed_chunk : (before : List RldItem) (x : RldItem) → All IsItem before → IsItem x → closed (filling before x) ≡ chunk_bytes (before ++ x ∷ [])
closed_chunk before x are is = sym (spelled_all false before x are is)

-- ---- sizes

pub size_more : (before : List RldItem) (x y : RldItem) → size (filling (before ++ x ∷ []) y) ≡ size (filling before x) + room_after x y
size_more before x y =
    rw (lead_more false before x y, short_more false before x y, length-append (lead false before x) (rld_item_bytes (is_short false before x) (told (same_pointers x y) x)), length_item (is_short false before x) (told (same_pointers x y) x))
    refl

pub length_closed : (before : List RldItem) (x : RldItem) → length (closed (filling before x)) ≡ size (filling before x)
length_closed before x =
    length-append (lead false before x) (rld_item_bytes (is_short false before x) x)
    ∙ ap (λ n. length (lead false before x) + n) (length_item (is_short false before x) x)

-- ---- all chunks

filled_by : (before : List RldItem) (x : RldItem) (n : ℕ) (ys : List RldItem) → All IsItem before → IsItem x → All IsItem ys
    → size (filling before x) ≡ n → chunks_from (filling before x) ys ≡ map chunk_bytes (chunks_after before x n ys)
unfolding chunks_from chunks_after
filled_by before x n [] are is rest e = ap (λ (v : List ℕ). v ∷ []) (closed_chunk before x are is)
filled_by before x n (y ∷ ys) are is rest e =
    rw e
    (by_room (nat_lt 240 (n + room_after x y))
    (filled_by [] y 8 ys (All-nil IsItem) (All-head IsItem y ys rest) (All-tail IsItem y ys rest) refl)
    (filled_by (before ++ x ∷ []) y (n + room_after x y) ys (All-push IsItem before x are is) (All-head IsItem y ys rest) (All-tail IsItem y ys rest) (size_more before x y ∙ ap (λ k. k + room_after x y) e)))
  where
    by_room : (full : Bool)
        → chunks_from (begun y) ys ≡ map chunk_bytes (chunks_after [] y 8 ys)
        → chunks_from (filling (before ++ x ∷ []) y) ys ≡ map chunk_bytes (chunks_after (before ++ x ∷ []) y (n + room_after x y) ys)
        → (if full then closed (filling before x) ∷ chunks_from (begun y) ys else chunks_from (continued (filling before x) y) ys)
        ≡ map chunk_bytes (if full then (before ++ x ∷ []) ∷ chunks_after [] y 8 ys else chunks_after (before ++ x ∷ []) y (n + room_after x y) ys)
    by_room true anew more =
        ap (λ v. v ∷ chunks_from (begun y) ys) (closed_chunk before x are is) ∙ ap (λ (vs : List (List ℕ)). chunk_bytes (before ++ x ∷ []) ∷ vs) anew
    by_room false anew more = ap (λ c. chunks_from c ys) (filling_more before x y) ∙ more

pub filled : (x : RldItem) (ys : List RldItem) → IsItem x → All IsItem ys → chunks_from (begun x) ys ≡ map chunk_bytes (chunks (x ∷ ys))
filled x ys is rest = filled_by [] x 8 ys (All-nil IsItem) is rest refl

-- after the last item the open chunk is closed
pub all_closed : (x : RldItem) (ys : List RldItem) (made : List (List ℕ)) (c : Filling) (i : ℕ) (bytes : List ℕ) → IsItem x → All IsItem ys
    → made ++ chunks_from c (drop i ys) ≡ chunks_from (begun x) ys → length ys ≤ i → bytes ≡ closed c
    → made ++ bytes ∷ [] ≡ map chunk_bytes (chunks (x ∷ ys))
unfolding chunks_from
all_closed x ys made c i bytes is rest e over b =
    ap (λ v. made ++ v ∷ []) b ∙ ((rw (drop_all i ys over) at e) ∙ filled x ys is rest)
