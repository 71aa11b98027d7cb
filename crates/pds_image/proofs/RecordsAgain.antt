-- Records that were written are read as the same records.
use Rattle.std.proofs.Common.{◌≡◌, ℕ, ◌+◌, ◌-◌, ◌^◌, ◌≤◌, ◌<◌, true, false, eqb, ltb, List, [], ◌∷◌, ◌++◌, length, drop, map, Some, Ok, refl, sym, ap, ◌∙◌, arith, length-append, append_assoc}
use Rattle.std.specs.List.{flat_map, AllByRecursion}
use Rattle.std.proofs.lemmas.Bool.Decides.{nat_tests}
use Rattle.std.proofs.lemmas.List.{length-drop, drop-drop, append-nil}
use Rattle.std.proofs.Math.Seq.{drop-append_seam, take-append_seam}
use Rattle.byteorder.specs.Endian.{big_number}
use Rattle.byteorder.specs.Numbers.{big_number-reads_back}
use Rattle.pds_directory.specs.declared.kinds.LibKind.{LibKind}
use Rattle.pds_directory.specs.declared.kinds.Version.{Version}
use Rattle.pds_directory.specs.declared.kinds.Version.TheVariants.{One, Two}
use Rattle.pds_directory.specs.declared.entry.Span.{Span}
use Rattle.pds_directory.specs.declared.header.Head.{Head}
use Rattle.pds_directory.specs.Parts.{number, part}
use Rattle.pds_directory.specs.Places.{width, record_at, has_length, may_stand, next_record, records_from}
use Rattle.pds_image.specs.Spelling.{number_bytes, record_bytes}
use Rattle.pds_image.proofs.Capped.{length-record}

-- ---- parts of an image

-- what lies behind the front of what lies behind a place
pub drop_on : {X : Type 0} (image xs ys : List X) (at : ℕ) → drop at image ≡ xs ++ ys → drop (at + length xs) image ≡ ys
drop_on image xs ys at here = sym (drop-drop (length xs) at image) ∙ ap (drop (length xs)) here ∙ drop-append_seam xs ys

pub length_on : {X : Type 0} (image xs : List X) (at : ℕ) → at ≤ length image → drop at image ≡ xs → length image ≡ at + length xs
length_on image xs at le here = let l = length-drop at image in omega (arith, l, ap length here, le)

-- ---- one record

unfoldable pub spans_of : Version → ℕ → List (List ℕ) → List Span
spans_of v at [] = []
spans_of v at (r ∷ rs) = record { at = at + width v; len = length r } ∷ spans_of v (at + width v + length r) rs

length-width : (v : Version) (n : ℕ) → length (number_bytes (width v) n) ≡ width v
unfolding number_bytes
length-width One n = refl
length-width Two n = refl

number_read : (v : Version) (image : List ℕ) (at n : ℕ) (more : List ℕ) → n < 256 ^ width v → drop at image ≡ number_bytes (width v) n ++ more
    → number (width v) image at ≡ n
unfolding number number_bytes
number_read v image at n more lt here = ap (big_number (width v)) here ∙ big_number-reads_back (width v) n more lt

record_read : (v : Version) (image r more : List ℕ) (at : ℕ) → at ≤ length image → length r < 256 ^ width v
    → drop at image ≡ record_bytes v r ++ more → record_at v image at ≡ Some (record { at = at + width v; len = length r })
unfolding record_at record_bytes
record_read v image r more at le lt here =
    let all : drop at image ≡ number_bytes (width v) (length r) ++ (r ++ more) = here ∙ append_assoc (number_bytes (width v) (length r)) r more in
    let n : number (width v) image at ≡ length r = number_read v image at (length r) (r ++ more) lt all in
    let long : length image ≡ at + length (number_bytes (width v) (length r) ++ (r ++ more)) = length_on image (number_bytes (width v) (length r) ++ (r ++ more)) at le all in
    let a = length-append (number_bytes (width v) (length r)) (r ++ more) in
    let b = length-append r more in
    let w = length-width v (length r) in
    let one : ltb (length image) (at + width v) ≡ false = grind (arith, nat_tests, long, a, w) in
    let two : ltb (length image) (at + width v + length r) ≡ false = grind (arith, nat_tests, long, a, b, w) in
    rw (one, n, two) refl

spelled : (v : Version) (r more : List ℕ) → record_bytes v r ++ more ≡ number_bytes (width v) (length r) ++ (r ++ more)
unfolding record_bytes
spelled v r more = append_assoc (number_bytes (width v) (length r)) r more

-- ---- all records

-- what reading asks of a text, besides that the last one is empty
abbrev pub MayBe : Version → LibKind → List ℕ → Type 0
MayBe v kind r = (length r < 256 ^ width v) × (has_length kind (length r) ≡ true)

abbrev pub LastEnds : List (List ℕ) → Type 0
LastEnds [] = Unit {0}
LastEnds (r ∷ []) = r ≡ []
LastEnds (r ∷ s ∷ rs) = LastEnds (s ∷ rs)

last_tail : (r : List ℕ) (rs : List (List ℕ)) → LastEnds (r ∷ rs) → LastEnds rs
last_tail r [] ends = tt
last_tail r (s ∷ rs) ends = ends

stands : (kind : LibKind) (r : List ℕ) (rs : List (List ℕ)) (a : ℕ) → has_length kind (length r) ≡ true → LastEnds (r ∷ rs)
    → may_stand kind (length rs) (record { at = a; len = length r }) ≡ true
stands kind r [] a has ends = rw (has, ends) refl
stands kind r (s ∷ rs) a has ends =
    let some : eqb (length (s ∷ rs)) 0 ≡ false = grind (arith, nat_tests) in
    rw (has, some) refl

pub records_read : (h : Head) (image : List ℕ) (rs : List (List ℕ)) (k at : ℕ) (done : List Span) → at ≤ length image
    → drop at image ≡ flat_map (record_bytes h.version) rs → AllByRecursion (MayBe h.version h.kind) rs → LastEnds rs
    → records_from (length rs) h image k at done ≡ Ok (done ++ spans_of h.version at rs)
unfolding records_from spans_of
records_read h image [] k at done le here all ends =
    let long = length_on image [] at le here in
    let same : eqb (length image) at ≡ true = grind (arith, nat_tests, long) in
    rw (same, append-nil done) refl
records_read h image (r ∷ rs) k at done le here all ends =
    let v = h.version in
    let more = flat_map (record_bytes v) rs in
    let s : Span = record { at = at + width v; len = length r } in
    let one : record_at v image at ≡ Some s = record_read v image r more at le all.0.0 here in
    let good : may_stand h.kind (length rs) s ≡ true = stands h.kind r rs (at + width v) all.0.1 ends in
    let next : next_record h image (length rs) at ≡ Some s = rw (one, good) refl in
    let long : at + width v + length r ≡ at + length (record_bytes v r) = let l = length-record v r in omega (arith, l) in
    let all_long = length_on image (record_bytes v r ++ more) at le here in
    let l = length-append (record_bytes v r) more in
    let on : drop (at + width v + length r) image ≡ more = rw long (drop_on image (record_bytes v r) more at here) in
    rw (next) (records_read h image rs (k + 1) (at + width v + length r) (done ++ s ∷ []) (omega (arith, long, all_long, l)) on all.1 (last_tail r rs ends)
    ∙ ap (λ (ss : List Span). Ok ss) (append_assoc done (s ∷ []) (spans_of v (at + width v + length r) rs)))

-- the parts of the image that are read so are the records
pub parts_read : (v : Version) (image : List ℕ) (rs : List (List ℕ)) (at : ℕ) → drop at image ≡ flat_map (record_bytes v) rs
    → map (part image) (spans_of v at rs) ≡ rs
unfolding spans_of
parts_read v image [] at here = refl
parts_read v image (r ∷ rs) at here =
    let more = flat_map (record_bytes v) rs in
    let all : drop at image ≡ number_bytes (width v) (length r) ++ (r ++ more) = here ∙ spelled v r more in
    let w = length-width v (length r) in
    let text : drop (at + width v) image ≡ r ++ more = rw (← w) (drop_on image (number_bytes (width v) (length r)) (r ++ more) at all) in
    let size : at + width v + length r - (at + width v) ≡ length r = omega arith in
    let one : part image (record { at = at + width v; len = length r }) ≡ r = rw (size, text) (take-append_seam r more) in
    let long : at + width v + length r ≡ at + length (record_bytes v r) = let l = length-record v r in omega (arith, l) in
    let on : drop (at + width v + length r) image ≡ more = rw long (drop_on image (record_bytes v r) more at here) in
    rw (one, parts_read v image rs (at + width v + length r) on) refl
