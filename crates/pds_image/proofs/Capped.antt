-- Lengths as far as 64 bits count.
use Rattle.std.proofs.Common.{◌≡◌, ℕ, ◌+◌, ◌-◌, ◌^◌, ◌≤◌, ◌<◌, min, Bool, true, false, cond, leb, List, [], ◌∷◌, ◌++◌, length, take, drop, map, get_or, refl, sym, ap, ◌∙◌, arith, length-append}
use Rattle.std.proofs.lemmas.Bool.Decides.{nat_tests}
use Rattle.std.specs.List.{flat_map}
use Rattle.std.specs.Prelude.{slice_index_or, replicate}
use Rattle.std.proofs.lemmas.List.{take_more, drop_all, length-replicate}
use Rattle.std.proofs.lemmas.Grind.{flat_map-append}
use Rattle.std.proofs.lemmas.List.Sums.{sum_by-cons}
use Rattle.pds_directory.specs.declared.kinds.Version.{Version}
use Rattle.pds_directory.specs.declared.kinds.Version.TheVariants.{One, Two}
use Rattle.pds_directory.specs.declared.entry.Entry.{Entry}
use Rattle.pds_directory.specs.Places.{width}
use Rattle.pds_lib.specs.Contents.{Contents, entries_of, records_of}
use Rattle.pds_image.specs.Spelling.{number_bytes, record_bytes, block_bytes, blocks_of, closing}
use Rattle.pds_image.specs.Image.{added, records_in, spelled_entry, body_bytes, directory_bytes, header_bytes, written}
use Rattle.pds_image.specs.Lengths.{capped, block_length, blocks_length}

pub capped_left : (a b : ℕ) → capped (capped a + b) ≡ capped (a + b)
unfolding capped
capped_left a b = omega arith

pub capped_right : (a b : ℕ) → capped (a + capped b) ≡ capped (a + b)
unfolding capped
capped_right a b = omega arith

pub capped_both : (a b : ℕ) → capped (capped a + capped b) ≡ capped (a + b)
capped_both a b = capped_left a (capped b) ∙ capped_right a b

over_sum : (t b r : ℕ) → capped (capped (t + capped b) + r) ≡ capped (t + (b + r))
unfolding capped
over_sum t b r = omega arith

-- an entry that goes into the next block
pub entry_over : (total used n b a : ℕ) → 254 < used + n → b ≡ capped (block_length used) → a ≡ capped (total + b)
    → (ns : List ℕ) → capped (a + blocks_length n ns) ≡ capped (total + blocks_length used (n ∷ ns))
unfolding blocks_length
entry_over total used n b a over one all ns =
    let past : leb (used + n) 254 ≡ false = grind (arith, nat_tests) in
    rw (past, all, one) (over_sum total (block_length used) (blocks_length n ns))

pub capped_zero : 0 ≡ capped 0
unfolding capped
capped_zero = omega arith

-- ---- records

pub length-record : (v : Version) (r : List ℕ) → length (record_bytes v r) ≡ width v + length r
unfolding record_bytes number_bytes
length-record One r = omega arith
length-record Two r = omega arith

length-more : {X : Type 0} (f : X → List ℕ) (xs : List X) (i : ℕ) (d : X) → i < length xs
    → length (flat_map f (take (i + 1) xs)) ≡ length (flat_map f (take i xs)) + length (f (get_or xs i d))
length-more f xs i d lt =
    let x = get_or xs i d in
    let more : flat_map f (take (i + 1) xs) ≡ flat_map f (take i xs) ++ flat_map f (x ∷ []) =
    ap (flat_map f) (take_more xs i d lt) ∙ flat_map-append f (take i xs) (x ∷ []) in
    let last : length (flat_map f (x ∷ [])) ≡ length (f x) = let l = length-append (f x) [] in omega (arith, l) in
    rw (more) (length-append (flat_map f (take i xs)) (flat_map f (x ∷ [])) ∙ ap (λ (n : ℕ). length (flat_map f (take i xs)) + n) last)

pub record_counted : (v : Version) (rs : List (List ℕ)) (k w len one before after : ℕ) → k < length rs
    → w ≡ width v → len ≡ length (slice_index_or rs k []) → one ≡ capped (w + len)
    → before ≡ capped (length (flat_map (record_bytes v) (take k rs))) → after ≡ capped (before + one)
    → after ≡ capped (length (flat_map (record_bytes v) (take (k + 1) rs)))
record_counted v rs k w len one before after lt wide long here so_far all =
    let more = length-more (record_bytes v) rs k [] lt in
    let last : length (record_bytes v (get_or rs k [])) ≡ w + len = length-record v (get_or rs k []) ∙ sym (ap (λ (n : ℕ). n + len) wide ∙ ap (λ (n : ℕ). width v + n) long) in
    rw (all, here, so_far, more, last) (capped_both (length (flat_map (record_bytes v) (take k rs))) (w + len))

pub alias_counted : (lib : Contents) (e : Entry) → e.alias ≡ true → 0 ≡ capped (length (body_bytes lib e))
unfolding body_bytes
alias_counted lib e is = rw is capped_zero

pub member_counted : (lib : Contents) (e : Entry) (part w all : ℕ) → e.alias ≡ false → w ≡ width lib.version
    → part ≡ capped (length (flat_map (record_bytes lib.version) (records_of lib e))) → all ≡ capped (part + w)
    → all ≡ capped (length (body_bytes lib e))
unfolding body_bytes
member_counted lib e part w all main wide records sum =
    let body = flat_map (record_bytes lib.version) (records_of lib e) in
    let last : length (record_bytes lib.version []) ≡ w = let l = length-record lib.version [] in omega (arith, l, wide) in
    rw (main, sum, records, length-append body (record_bytes lib.version []), last) (capped_left (length body) w)

pub body_counted : (lib : Contents) (es : List Entry) (i : ℕ) (d : Entry) (one before after : ℕ) → i < length es
    → one ≡ capped (length (body_bytes lib (get_or es i d)))
    → before ≡ capped (length (flat_map (body_bytes lib) (take i es))) → after ≡ capped (before + one)
    → after ≡ capped (length (flat_map (body_bytes lib) (take (i + 1) es)))
body_counted lib es i d one before after lt here so_far all =
    rw (all, here, so_far, length-more (body_bytes lib) es i d lt)
    (capped_both (length (flat_map (body_bytes lib) (take i es))) (length (body_bytes lib (get_or es i d))))

-- ---- blocks

length-block : (entries : List ℕ) → length (block_bytes entries) ≡ block_length (length entries)
unfolding block_bytes block_length number_bytes
length-block entries =
    let zeros = length-replicate {A = ℕ} (254 - length entries) 0 in
    let l = length-append entries (replicate (254 - length entries) 0) in
    omega (arith, l, zeros)

when : (b : Bool) (xs ys : List ℕ) (m n : ℕ) → length xs ≡ m → length ys ≡ n → length (cond b xs ys) ≡ cond b m n
when true xs ys m n x y = x
when false xs ys m n x y = y

length-blocks : (begun : List ℕ) (es : List (List ℕ)) → length (blocks_of begun es) ≡ blocks_length (length begun) (map length es)
unfolding blocks_of blocks_length
length-blocks begun [] = length-block begun
length-blocks begun (e ∷ es) =
    when (leb (length begun + length e) 254) (blocks_of (begun ++ e) es) (block_bytes begun ++ blocks_of e es) _ _
    (length-blocks (begun ++ e) es ∙ ap (λ (n : ℕ). blocks_length n (map length es)) (length-append begun e))
    (length-append (block_bytes begun) (blocks_of e es)
    ∙ ap (λ (n : ℕ). n + length (blocks_of e es)) (length-block begun)
    ∙ ap (λ (n : ℕ). block_length (length begun) + n) (length-blocks e es))

sizes : (lib : Contents) (es : List Entry) → map length (map (spelled_entry lib) es ++ closing ∷ []) ≡ map (λ (e : Entry). length (spelled_entry lib e)) es ++ 12 ∷ []
sizes lib [] = refl
sizes lib (e ∷ es) = ap (λ (ns : List ℕ). length (spelled_entry lib e) ∷ ns) (sizes lib es)

blocks_end : (n : ℕ) → blocks_length n [] ≡ block_length n
unfolding blocks_length
blocks_end n = refl

pub directory_counted : (lib : Contents) (es : List Entry) (i t u t2 u2 b all : ℕ) → length es ≤ i → es ≡ entries_of lib
    → capped (t + blocks_length u (map (λ (e : Entry). length (spelled_entry lib e)) (drop i es) ++ 12 ∷ []))
    ≡ capped (blocks_length 0 (map (λ (e : Entry). length (spelled_entry lib e)) es ++ 12 ∷ []))
    → ((ns : List ℕ) → capped (t2 + blocks_length u2 ns) ≡ capped (t + blocks_length u (12 ∷ ns)))
    → b ≡ capped (block_length u2) → all ≡ capped (t2 + b) → all ≡ capped (length (directory_bytes lib))
directory_counted lib es i t u t2 u2 b all past these so_far last block sum =
    let none : drop i es ≡ [] = drop_all i es past in
    let start : capped (t + blocks_length u (12 ∷ [])) ≡ capped (blocks_length 0 (map (λ (e : Entry). length (spelled_entry lib e)) es ++ 12 ∷ [])) = rw none at so_far in
    let long : blocks_length 0 (map (λ (e : Entry). length (spelled_entry lib e)) es ++ 12 ∷ []) ≡ length (directory_bytes lib) =
    ap (blocks_length 0) (sym (sizes lib es)) ∙ sym (length-blocks [] (map (spelled_entry lib) es ++ closing ∷ []))
    ∙ ap (λ (ys : List Entry). length (blocks_of [] (map (spelled_entry lib) ys ++ closing ∷ []))) these in
    sum ∙ ap (λ (n : ℕ). capped (t2 + n)) block ∙ capped_right t2 (block_length u2) ∙ ap (λ (n : ℕ). capped (t2 + n)) (sym (blocks_end u2))
    ∙ last [] ∙ start ∙ ap capped long

-- ---- the whole

pub length-header : (lib : Contents) → length (header_bytes lib) ≡ 20
unfolding header_bytes number_bytes
length-header lib = refl

pub length-written : (lib : Contents) → length (written lib) ≡ 20 + (length (directory_bytes lib) + length (flat_map (body_bytes lib) (entries_of lib)))
length-written lib =
    let bodies = flat_map (body_bytes lib) (entries_of lib) in
    let all : length (written lib) ≡ length (header_bytes lib ++ directory_bytes lib) + length bodies = length-append (header_bytes lib ++ directory_bytes lib) bodies in
    let two = length-append (header_bytes lib) (directory_bytes lib) in
    omega (arith, all, two, length-header lib)

sum_of_three : (d b : ℕ) → capped (20 + capped (capped d + capped b)) ≡ min (20 + (d + b)) (2 ^ 64 - 1)
unfolding capped
sum_of_three d b = omega arith

pub image_counted : (lib : Contents) (d b s all : ℕ) → d ≡ capped (length (directory_bytes lib))
    → b ≡ capped (length (flat_map (body_bytes lib) (entries_of lib))) → s ≡ capped (d + b) → all ≡ capped (20 + s)
    → all ≡ min (length (written lib)) (2 ^ 64 - 1)
image_counted lib d b s all directory bodies two three =
    rw (three, two, directory, bodies)
    (sum_of_three (length (directory_bytes lib)) (length (flat_map (body_bytes lib) (entries_of lib)))
    ∙ ap (λ (n : ℕ). min n (2 ^ 64 - 1)) (sym (length-written lib)))

wide : (v : Version) → 1 ≤ width v
wide One = omega arith
wide Two = omega arith

records_fit : (v : Version) (rs : List (List ℕ)) → length rs ≤ length (flat_map (record_bytes v) rs)
records_fit v [] = omega arith
records_fit v (r ∷ rs) =
    let one = length-record v r in
    let l = length-append (record_bytes v r) (flat_map (record_bytes v) rs) in
    let ih = records_fit v rs in
    let some : 1 ≤ width v = wide v in
    omega (arith, one, l, ih, some)

entry_fits : (lib : Contents) (e : Entry) (b : Bool) → b ≡ e.alias → added lib e ≤ length (body_bytes lib e)
unfolding body_bytes
entry_fits lib e true is = rw (← is) (omega arith)
entry_fits lib e false is =
    let body = flat_map (record_bytes lib.version) (records_of lib e) in
    let l = length-append body (record_bytes lib.version []) in
    let last = length-record lib.version [] in
    let some : 1 ≤ width lib.version = wide lib.version in
    let rs = records_fit lib.version (records_of lib e) in
    rw (← is) (omega (arith, l, last, some, rs))

members_fit : (lib : Contents) (es : List Entry) → records_in lib es ≤ length (flat_map (body_bytes lib) es)
members_fit lib [] = omega arith
members_fit lib (e ∷ es) =
    let one = entry_fits lib e e.alias refl in
    let l : length (flat_map (body_bytes lib) (e ∷ es)) ≡ length (body_bytes lib e) + length (flat_map (body_bytes lib) es) =
    length-append (body_bytes lib e) (flat_map (body_bytes lib) es) in
    let ih = members_fit lib es in
    let sum = sum_by-cons (added lib) e es in
    omega (arith, one, l, ih, sum)

-- an image has a byte or more for each of its records
pub records_few : (lib : Contents) (most : ℕ) → length (written lib) ≤ most → records_in lib (entries_of lib) ≤ most
records_few lib most le =
    let all = length-written lib in
    let some = members_fit lib (entries_of lib) in
    omega (arith, all, some, le)
