-- What reading finds of each entry of a directory.
use Rattle.std.proofs.Common.{◌≡◌, ℕ, zero, suc, ◌+◌, ◌-◌, ◌*◌, ◌%◌, ◌^◌, ◌≤◌, ◌<◌, Bool, true, false, cond, not, ◌&&◌, ◌||◌, eqb, leb, ltb, List, [], ◌∷◌, ◌++◌, length, get_or, take, drop, Option, Some, None, Result, Ok, Err, refl, sym, ap, ◌∙◌, subst, arith}
use Rattle.std.specs.Prelude.{slice_range, slice_index}
use Rattle.std.specs.Str.{bytes_eq}
use Rattle.std.specs.List.{AllByRecursion}
use Rattle.std.proofs.lemmas.Bool.{leb-true, ltb-false, eqb-true}
use Rattle.std.proofs.lemmas.List.{length-take, length-take-le, length-drop}
use Rattle.le_bytes.specs.Numbers.{AreBytes}
use Rattle.le_bytes.specs.declared.name.Name.{Name}
use Rattle.le_bytes.specs.declared.library_fault.LibFault.{LibFault}
use Rattle.le_bytes.specs.declared.library_fault.LibFault.TheVariants.{BadDirectory, BadEntry}
use Rattle.pds_directory.specs.declared.kinds.LibKind.{LibKind}
use Rattle.pds_directory.specs.declared.kinds.LibKind.TheVariants.{Cards, Modules}
use Rattle.pds_directory.specs.declared.kinds.Version.{Version}
use Rattle.pds_directory.specs.declared.entry.Span.{Span}
use Rattle.pds_directory.specs.declared.entry.Listed.{Listed}
use Rattle.pds_directory.specs.declared.header.Head.{Head}
use Rattle.pds_directory.specs.Parts.{number, name_at, part}
use Rattle.pds_directory.specs.Answers.{◌>>=◌}
use Rattle.pds_directory.specs.Order.{ascends}
use Rattle.pds_directory.specs.Header.{mark, head_of, counted, version_of, kind_of, directory_end}
use Rattle.pds_directory.specs.Directory.{data_length, entry_length, entry_fits, is_alias, last_name, is_last, is_closed, listed_name, is_above, has_size, is_good, entry_of, data_of, listed_of, entry_at, after_entry, entries_from, block_at, block_from, blocks_from, Listing, listing_with, listing_of}
use Rattle.pds_lib.specs.Sound.{HasData}
use Rattle.pds_directory.proofs.Halving.{both_true}
use Rattle.pds_directory.proofs.Blocks.{ascends_push, entry_is_above}

-- ---- steps that were not the last

pub bind_ok : {A B : Type 0} (r : Result A LibFault) (f : A → Result B LibFault) (y : B) → (r >>= f) ≡ Ok y → (x : A) × (r ≡ Ok x) × (f x ≡ Ok y)
bind_ok (Ok x) f y e = (x, refl, e)
bind_ok (Err fault) f y e = absurd cc

pub else_ok : {B : Type 0} (b : Bool) (fault : LibFault) (r : Result B LibFault) (y : B) → cond b (Err fault) r ≡ Ok y → (b ≡ false) × (r ≡ Ok y)
else_ok true fault r y e = absurd cc
else_ok false fault r y e = (refl, e)

pub then_ok : {B : Type 0} (b : Bool) (fault : LibFault) (r : Result B LibFault) (y : B) → cond b r (Err fault) ≡ Ok y → (b ≡ true) × (r ≡ Ok y)
then_ok true fault r y e = (refl, e)
then_ok false fault r y e = absurd cc

pub from_not : (b : Bool) → not b ≡ false → b ≡ true
from_not true e = refl
from_not false e = absurd cc

pub neither : (a b : Bool) → (a || b) ≡ false → (a ≡ false) × (b ≡ false)
neither true b e = absurd cc
neither false b e = (refl, e)

-- ---- bytes

pub are_bytes : (xs : List ℕ) → ((i : ℕ) → get_or xs i 0 < 256) → AreBytes xs
are_bytes [] each = tt
are_bytes (x ∷ xs) each = (each 0, are_bytes xs (λ i. each (suc i)))

pub drop_bytes : (n : ℕ) (xs : List ℕ) → AreBytes xs → AreBytes (drop n xs)
drop_bytes zero xs all = all
drop_bytes (suc n) [] all = all
drop_bytes (suc n) (x ∷ xs) all = drop_bytes n xs all.1

pub take_bytes : (n : ℕ) (xs : List ℕ) → AreBytes xs → AreBytes (take n xs)
take_bytes zero xs all = tt
take_bytes (suc n) [] all = tt
take_bytes (suc n) (x ∷ xs) all = (all.0, take_bytes n xs all.1)

pub range_bytes : (xs : List ℕ) (a b : ℕ) → AreBytes xs → AreBytes (slice_range xs a b)
range_bytes xs a b all = take_bytes (b - a) (drop a xs) (drop_bytes a xs all)

pub byte_at : (xs : List ℕ) (i : ℕ) → AreBytes xs → slice_index xs i < 256
byte_at [] i all = omega arith
byte_at (x ∷ xs) zero all = all.0
byte_at (x ∷ xs) (suc i) all = byte_at xs i all.1

number_of_two : (a b : ℕ) → a < 256 → b < 256 → a * 256 ^ 1 + (b * 256 ^ 0 + 0) < 2 ^ 16
number_of_two a b p q = omega (arith, p, q)

number_of_three : (a b c : ℕ) → a < 256 → b < 256 → c < 256 → a * 256 ^ 2 + (b * 256 ^ 1 + (c * 256 ^ 0 + 0)) < 2 ^ 24
number_of_three a b c p q r = omega (arith, p, q, r)

number_of_four : (a b c d : ℕ) → a < 256 → b < 256 → c < 256 → d < 256 → a * 256 ^ 3 + (b * 256 ^ 2 + (c * 256 ^ 1 + (d * 256 ^ 0 + 0))) < 2 ^ 32
number_of_four a b c d p q r s = omega (arith, p, q, r, s)

pub two_fit : (xs : List ℕ) (at : ℕ) → AreBytes xs → number 2 xs at < 2 ^ 16
unfolding number
two_fit xs at all =
    let rest = drop_bytes at xs all in
    number_of_two (slice_index (drop at xs) 0) (slice_index (drop at xs) 1) (byte_at (drop at xs) 0 rest) (byte_at (drop at xs) 1 rest)

pub three_fit : (xs : List ℕ) (at : ℕ) → AreBytes xs → number 3 xs at < 2 ^ 24
unfolding number
three_fit xs at all =
    let rest = drop_bytes at xs all in
    number_of_three (slice_index (drop at xs) 0) (slice_index (drop at xs) 1) (slice_index (drop at xs) 2)
    (byte_at (drop at xs) 0 rest) (byte_at (drop at xs) 1 rest) (byte_at (drop at xs) 2 rest)

pub four_fit : (xs : List ℕ) (at : ℕ) → AreBytes xs → number 4 xs at < 2 ^ 32
unfolding number
four_fit xs at all =
    let rest = drop_bytes at xs all in
    number_of_four (slice_index (drop at xs) 0) (slice_index (drop at xs) 1) (slice_index (drop at xs) 2) (slice_index (drop at xs) 3)
    (byte_at (drop at xs) 0 rest) (byte_at (drop at xs) 1 rest) (byte_at (drop at xs) 2 rest) (byte_at (drop at xs) 3 rest)

pub part_long : (image : List ℕ) (s : Span) → s.at + s.len ≤ length image → length (part image s) ≡ s.len
part_long image s within =
    let k : s.at + s.len - s.at ≡ s.len = omega arith in
    let l = length-drop s.at image in
    rw k (length-take-le s.len (drop s.at image) (omega (arith, l, within)))

-- ---- one entry

-- what holds of an entry that was read
pub record IsListed (h : Head) (image : List ℕ) (x : Listed) : Type 0 where
  pub name : length x.entry.name.0 ≡ 8
  pub main_name : length x.entry.main.0 ≡ 8
  pub not_last : bytes_eq x.entry.name.0 last_name ≡ false
  pub user : HasData h.kind x.entry (part image x.user_data)
  pub own : x.entry.alias ≡ false → x.entry.main ≡ x.entry.name
  pub least : 1 ≤ x.first
  pub most : x.first ≤ h.records

name_long : (rest : List ℕ) (at : ℕ) → at + 8 ≤ length rest → length (name_at rest at).0 ≡ 8
name_long rest at within =
    let k : at + 8 - at ≡ 8 = omega arith in
    let l = length-drop at rest in
    rw k (length-take-le 8 (drop at rest) (omega (arith, l, within)))

main_case : (alias : Bool) (rest : List ℕ) (size : ℕ) → 12 + size ≤ length rest → eqb size (cond alias 20 12) ≡ true
    → length (cond alias (name_at rest 24) (name_at rest 0)).0 ≡ 8
main_case true rest size fits has = let n = eqb-true size 20 has in name_long rest 24 (omega (arith, n, fits))
main_case false rest size fits has = name_long rest 0 (omega (arith, fits))

main_long : (kind : LibKind) (rest : List ℕ) → entry_length rest ≤ length rest → has_size kind rest ≡ true → length (entry_of kind rest).main.0 ≡ 8
main_long Cards rest fits has = name_long rest 0 (omega (arith, fits))
main_long Modules rest fits has = main_case (is_alias rest) rest (data_length rest) fits has

name_of : (kind : LibKind) (rest : List ℕ) → (entry_of kind rest).name ≡ name_at rest 0
name_of Cards rest = refl
name_of Modules rest = refl

own_main : (kind : LibKind) (rest : List ℕ) → (entry_of kind rest).alias ≡ false → (entry_of kind rest).main ≡ (entry_of kind rest).name
own_main Cards rest main = refl
own_main Modules rest main = rw main refl

even : (n : ℕ) → 2 * (n % 32) % 2 ≡ 0
even n = omega arith

data_held : (kind : LibKind) (image rest : List ℕ) (end : ℕ) → AreBytes rest → length rest ≤ end → end ≤ length image → entry_length rest ≤ length rest
    → HasData kind (entry_of kind rest) (part image (data_of kind end rest))
data_held Cards image rest end bytes within there fits =
    let l : length (part image (data_of Cards end rest)) ≡ data_length rest = part_long image (data_of Cards end rest) (omega (arith, within, there, fits)) in
    (refl, refl, refl, refl, ap (λ (n : ℕ). n % 2) l ∙ even (slice_index rest 11), omega (arith, l))
data_held Modules image rest end bytes within there fits = (three_fit rest 14 bytes, three_fit rest 18 bytes, two_fit rest 22 bytes, refl)

pub is_listed : (h : Head) (image : List ℕ) (block k end : ℕ) (done : List Listed) (rest : List ℕ) → AreBytes rest → length rest ≤ end → end ≤ length image
    → entry_fits rest ≡ true → is_last rest ≡ false → is_good h done rest ≡ true → IsListed h image (listed_of h block k end rest)
is_listed h image block k end done rest bytes within there fits other good =
    let f = both_true (leb 12 (length rest)) (leb (entry_length rest) (length rest)) fits in
    let whole : entry_length rest ≤ length rest = leb-true (entry_length rest) (length rest) f.1 in
    let g = both_true (is_above done (name_at rest 0)) (leb 1 (number 3 rest 8) && (leb (number 3 rest 8) h.records && has_size h.kind rest)) good in
    let g2 = both_true (leb 1 (number 3 rest 8)) (leb (number 3 rest 8) h.records && has_size h.kind rest) g.1 in
    let g3 = both_true (leb (number 3 rest 8) h.records) (has_size h.kind rest) g2.1 in
    let name = name_of h.kind rest in
    record {
      name = ap (λ (n : Name). length n.0) name ∙ name_long rest 0 (omega (arith, whole));
      main_name = main_long h.kind rest whole g3.1;
      not_last = ap (λ (n : Name). bytes_eq n.0 last_name) name ∙ other;
      user = data_held h.kind image rest end bytes within there whole;
      own = own_main h.kind rest;
      least = leb-true 1 (number 3 rest 8) g2.0;
      most = leb-true (number 3 rest 8) h.records g3.0;
    }

-- ---- the entries so far

pub record AreListed (h : Head) (image : List ℕ) (xs : List Listed) : Type 0 where
  pub ascending : ascends listed_name xs ≡ true
  pub all : AllByRecursion (IsListed h image) xs

all_push : (h : Head) (image : List ℕ) (xs : List Listed) (x : Listed) → AllByRecursion (IsListed h image) xs → IsListed h image x → AllByRecursion (IsListed h image) (xs ++ x ∷ [])
all_push h image [] x all one = (one, tt)
all_push h image (y ∷ ys) x all one = (all.0, all_push h image ys x all.1 one)

-- an entry that reading found
record EntryFound (h : Head) (block k : ℕ) (done : List Listed) (end : ℕ) (rest : List ℕ) (x : Listed) : Type 0 where
  fits : entry_fits rest ≡ true
  other : is_last rest ≡ false
  good : is_good h done rest ≡ true
  is : listed_of h block k end rest ≡ x

not_last : (b c : Bool) (fault : LibFault) (r : Result (Option Listed) LibFault) (x : Listed) → cond b (cond c (Ok None) (Err fault)) r ≡ Ok (Some x) → (b ≡ false) × (r ≡ Ok (Some x))
not_last true true fault r x e = absurd cc
not_last true false fault r x e = absurd cc
not_last false c fault r x e = (refl, e)

entry_found : (h : Head) (block k : ℕ) (done : List Listed) (end : ℕ) (rest : List ℕ) (x : Listed) → entry_at h block k done end rest ≡ Ok (Some x)
    → EntryFound h block k done end rest x
unfolding entry_at
entry_found h block k done end rest x e =
    let a = else_ok (not (entry_fits rest)) (BadDirectory block) _ (Some x) e in
    let b = not_last (is_last rest) (is_closed rest) (BadEntry block k) _ x a.1 in
    let c = then_ok (is_good h done rest) (BadEntry block k) (Ok (Some (listed_of h block k end rest))) (Some x) b.1 in
    record { fits = from_not (entry_fits rest) a.0; other = b.0; good = c.0; is = let found = c.1 in cc }

one_more : (h : Head) (image : List ℕ) (block k : ℕ) (done : List Listed) (end : ℕ) (rest : List ℕ) (x : Listed) → AreBytes rest → length rest ≤ end → end ≤ length image
    → AreListed h image done → entry_at h block k done end rest ≡ Ok (Some x) → AreListed h image (done ++ x ∷ [])
one_more h image block k done end rest x bytes within there so_far e =
    let f = entry_found h block k done end rest x e in
    let one = is_listed h image block k end done rest bytes within there f.fits f.other f.good in
    let y = listed_of h block k end rest in
    subst (λ (z : Listed). AreListed h image (done ++ z ∷ [])) f.is
    (record { ascending = ascends_push done y so_far.ascending (entry_is_above h block k done end rest f.good); all = all_push h image done y so_far.all one })

abbrev Into : Type 0
Into = Result (List Listed × Bool) LibFault

abbrev first_of : Into → List Listed
first_of (Ok r) = r.0
first_of (Err e) = []

entries_case : (P : List Listed → Type 0) (b : Bool) (found : Result (Option Listed) LibFault) (done : List Listed) (next : Listed → Into) (xs : List Listed) (last : Bool)
    → cond b (Ok (done, false)) (found >>= λ o. after_entry o (Ok (done, true)) next) ≡ Ok (xs, last)
    → P done → ((x : Listed) → found ≡ Ok (Some x) → next x ≡ Ok (xs, last) → P xs) → P xs
entries_case P true found done next xs last e now more = subst P (ap first_of e) now
entries_case P false (Err fault) done next xs last e now more = absurd cc
entries_case P false (Ok None) done next xs last e now more = subst P (ap first_of e) now
entries_case P false (Ok (Some x)) done next xs last e now more = more x refl e

shorter : (n : ℕ) (rest : List ℕ) (end : ℕ) → length rest ≤ end → length (drop n rest) ≤ end
shorter n rest end le = let l = length-drop n rest in omega (arith, l, le)

entries_listed : (tries : ℕ) (h : Head) (image : List ℕ) (block k : ℕ) (done : List Listed) (end : ℕ) (rest : List ℕ) (xs : List Listed) (last : Bool)
    → AreBytes rest → length rest ≤ end → end ≤ length image → AreListed h image done
    → entries_from tries h block k done end rest ≡ Ok (xs, last) → AreListed h image xs
unfolding entries_from
entries_listed zero h image block k done end rest xs last bytes within there so_far e = absurd cc
entries_listed (suc tries) h image block k done end rest xs last bytes within there so_far e =
    entries_case (AreListed h image) (eqb (length rest) 0) (entry_at h block k done end rest) done
    (λ x. entries_from tries h block (k + 1) (done ++ x ∷ []) end (drop (entry_length rest) rest)) xs last e so_far
    (λ x found next. entries_listed tries h image block (k + 1) (done ++ x ∷ []) end (drop (entry_length rest) rest) xs last
    (drop_bytes (entry_length rest) rest bytes) (shorter (entry_length rest) rest end within) there
    (one_more h image block k done end rest x bytes within there so_far found) next)

-- ---- the blocks

range_short : (xs : List ℕ) (a b : ℕ) → length (slice_range xs a b) ≤ b
range_short xs a b = let l = length-take (b - a) (drop a xs) in omega (arith, l)

block_listed : (h : Head) (image : List ℕ) (b : ℕ) (done xs : List Listed) (last : Bool) → AreBytes image → block_at b + 256 ≤ length image
    → AreListed h image done → block_from h image b done ≡ Ok (xs, last) → AreListed h image xs
unfolding block_from
block_listed h image b done xs last bytes there so_far e =
    let at = block_at b in
    let used = number 2 image at in
    let a = else_ok (ltb used 2 || ltb 256 used) (BadDirectory b) _ (xs, last) e in
    let small = ltb-false 256 used (neither (ltb used 2) (ltb 256 used) a.0).1 in
    entries_listed 22 h image b 1 done (at + used) (slice_range image (at + 2) (at + used)) xs last
    (range_bytes image (at + 2) (at + used) bytes) (range_short image (at + 2) (at + used)) (omega (arith, small, there)) so_far a.1

block_case : (P : List Listed → Type 0) (last : Bool) (done xs : List Listed) (next : Result (List Listed) LibFault) → cond last (Ok done) next ≡ Ok xs
    → P done → (next ≡ Ok xs → P xs) → P xs
block_case P true done xs next e now more = subst P (let same : done ≡ xs = cc in same) now
block_case P false done xs next e now more = more e

block_inside : (b left blocks size : ℕ) → 1 ≤ b → b + suc left ≤ blocks + 1 → directory_end blocks ≤ size → block_at b + 256 ≤ size
block_inside b left blocks size low high there = omega (arith, low, high, there)

blocks_listed : (left : ℕ) (h : Head) (image : List ℕ) (b : ℕ) (done xs : List Listed) → AreBytes image → 1 ≤ b → b + left ≤ h.blocks + 1 → directory_end h.blocks ≤ length image
    → AreListed h image done → blocks_from left h image b done ≡ Ok xs → AreListed h image xs
unfolding blocks_from
blocks_listed zero h image b done xs bytes low high there so_far e = absurd cc
blocks_listed (suc left) h image b done xs bytes low high there so_far e =
    let r = bind_ok (block_from h image b done) (λ r. cond r.1 (Ok r.0) (blocks_from left h image (b + 1) r.0)) xs e in
    let now = block_listed h image b done r.0.0 r.0.1 bytes (block_inside b left h.blocks (length image) low high there) so_far r.1 in
    block_case (AreListed h image) r.0.1 r.0.0 xs (blocks_from left h image (b + 1) r.0.0) r.2 now
    (λ next. blocks_listed left h image (b + 1) r.0.0 xs bytes (omega arith) (omega (arith, high)) there now next)

-- ---- header and directory

pub record IsHead (image : List ℕ) (h : Head) : Type 0 where
  pub there : directory_end h.blocks ≤ length image
  pub few : h.records ≤ 16777215

sized_case : (image : List ℕ) (h g : Head) (a b c : Bool) → b ≡ ltb 16777215 h.records → c ≡ ltb (length image) (directory_end h.blocks)
    → cond a None (cond b None (cond c None (Some h))) ≡ Some g → IsHead image g
sized_case image h g true b c few there e = absurd cc
sized_case image h g false true c few there e = absurd cc
sized_case image h g false false true few there e = absurd cc
sized_case image h g false false false few there e =
    let same : h ≡ g = cc in
    subst (IsHead image) same (record { there = ltb-false (length image) (directory_end h.blocks) (sym there); few = ltb-false 16777215 h.records (sym few) })

counted_head : (image : List ℕ) (v : Option Version) (kind : Option LibKind) (g : Head) → counted image v kind ≡ Some g → IsHead image g
counted_head image None kind g e = absurd cc
counted_head image (Some v) None g e = absurd cc
counted_head image (Some v) (Some kind) g e =
    let h : Head = record { version = v; kind = kind; blocks = number 4 image 12; records = number 4 image 16 } in
    sized_case image h g (eqb h.blocks 0) (ltb 16777215 h.records) (ltb (length image) (directory_end h.blocks)) refl refl e

head_case : (image : List ℕ) (a b : Bool) (o : Option Head) (g : Head) → cond a None (cond b o None) ≡ Some g → (o ≡ Some g → IsHead image g) → IsHead image g
head_case image true b o g e more = absurd cc
head_case image false true o g e more = more e
head_case image false false o g e more = absurd cc

head_holds : (image : List ℕ) (g : Head) → head_of image ≡ Some g → IsHead image g
unfolding head_of
head_holds image g e =
    let o = counted image (version_of (slice_index image 8)) (kind_of (slice_index image 9)) in
    head_case image (ltb (length image) 20) (bytes_eq (take 8 image) mark) o g e (counted_head image (version_of (slice_index image 8)) (kind_of (slice_index image 9)) g)

-- what holds of a directory that was read
pub record IsListing (image : List ℕ) (d : Listing) : Type 0 where
  pub head : IsHead image d.head
  pub entries : AreListed d.head image d.entries

listing_case : (image : List ℕ) (o : Option Head) (d : Listing) → head_of image ≡ o → AreBytes image → listing_with o image ≡ Ok d → IsListing image d
listing_case image None d here bytes e = absurd cc
listing_case image (Some h) d here bytes e =
    let head = head_holds image h here in
    let r = bind_ok (blocks_from h.blocks h image 1 []) (λ xs. Ok (record { head = h; entries = xs })) d e in
    let xs = blocks_listed h.blocks h image 1 [] r.0 bytes (omega arith) (omega arith) head.there (record { ascending = refl; all = tt }) r.1 in
    let same : record { head = h; entries = r.0 } ≡ d = let found = r.2 in cc in
    subst (IsListing image) same (record { head = head; entries = xs })

pub listing_holds : (image : List ℕ) (d : Listing) → AreBytes image → listing_of image ≡ Ok d → IsListing image d
unfolding listing_of
listing_holds image d bytes e = listing_case image (head_of image) d refl bytes e
