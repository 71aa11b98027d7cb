-- What reading finds of the records.
use Rattle.std.proofs.Common.{◌≡◌, ℕ, zero, suc, ◌+◌, ◌^◌, ◌≤◌, ◌<◌, Bool, true, false, cond, not, ◌||◌, eqb, ltb, List, [], ◌∷◌, ◌++◌, length, take, drop, map, Option, Some, None, Result, Ok, Err, refl, sym, ◌∙◌, subst, arith, length-append}
use Rattle.std.specs.List.{AllByRecursion}
use Rattle.std.proofs.lemmas.Bool.{ltb-false}
use Rattle.std.proofs.lemmas.Bool.Decides.{nat_tests}
use Rattle.std.proofs.lemmas.List.Sums.{prefix_len-le-length}
use Rattle.std.proofs.lemmas.List.{length-take-le}
use Rattle.le_bytes.specs.declared.library_fault.LibFault.{LibFault}
use Rattle.le_bytes.specs.declared.library_fault.LibFault.TheVariants.{BadRecord}
use Rattle.pds_directory.specs.declared.kinds.LibKind.{LibKind}
use Rattle.pds_directory.specs.declared.kinds.Version.{Version}
use Rattle.pds_directory.specs.declared.kinds.Version.TheVariants.{One, Two}
use Rattle.pds_directory.specs.declared.entry.Span.{Span}
use Rattle.pds_directory.specs.declared.header.Head.{Head}
use Rattle.pds_directory.specs.Parts.{number, part}
use Rattle.pds_directory.specs.Header.{directory_end}
use Rattle.pds_directory.specs.Places.{width, record_at, has_length, may_stand, standing, next_record, after_record, records_from, records_of, run_length}
use Rattle.pds_lib.specs.Contents.{Contents}
use Rattle.pds_lib.specs.Sound.{IsRecord}
use Rattle.pds_directory.proofs.Halving.{both_true}
use Rattle.le_bytes.specs.Numbers.{AreBytes}
use Rattle.pds_lib.proofs.ReadEntries.{then_ok, two_fit, four_fit, part_long}

-- ---- one record

-- what holds of a record that was read
pub record IsPlace (h : Head) (image : List ℕ) (s : Span) : Type 0 where
  pub within : s.at + s.len ≤ length image
  pub fits : s.len < 256 ^ width h.version
  pub stands : has_length h.kind s.len ≡ true

number_fits : (v : Version) (image : List ℕ) (at : ℕ) → AreBytes image → number (width v) image at < 256 ^ width v
number_fits One image at bytes = let n = two_fit image at bytes in omega (arith, n)
number_fits Two image at bytes = let n = four_fit image at bytes in omega (arith, n)

at_case : (v : Version) (image : List ℕ) (at len : ℕ) (s : Span) (a b : Bool) → b ≡ ltb (length image) (at + width v + len) → len < 256 ^ width v
    → cond a None (cond b None (Some (record { at = at + width v; len = len }))) ≡ Some s → (s.at + s.len ≤ length image) × (s.len < 256 ^ width v)
at_case v image at len s true b there fits e = absurd cc
at_case v image at len s false true there fits e = absurd cc
at_case v image at len s false false there fits e =
    let same : record { at = at + width v; len = len } ≡ s = cc in
    subst (λ (s : Span). (s.at + s.len ≤ length image) × (s.len < 256 ^ width v)) same
    (ltb-false (length image) (at + width v + len) (sym there), fits)

read_at : (v : Version) (image : List ℕ) (at : ℕ) (s : Span) → AreBytes image → record_at v image at ≡ Some s → (s.at + s.len ≤ length image) × (s.len < 256 ^ width v)
unfolding record_at
read_at v image at s bytes e =
    at_case v image at (number (width v) image at) s (ltb (length image) (at + width v)) (ltb (length image) (at + width v + number (width v) image at)) refl
    (number_fits v image at bytes) e

-- a record with so many behind it
record Stood (kind : LibKind) (left : ℕ) (o : Option Span) (s : Span) : Type 0 where
  is : o ≡ Some s
  has : has_length kind s.len ≡ true
  last : left ≡ 0 → eqb s.len 0 ≡ true

last_zero : (left : ℕ) (b : Bool) → (not (eqb left 0) || b) ≡ true → left ≡ 0 → b ≡ true
last_zero left b e none = rw none at e

stood_case : (kind : LibKind) (left : ℕ) (t s : Span) (b : Bool) → b ≡ may_stand kind left t → cond b (Some t) None ≡ Some s → Stood kind left (Some t) s
stood_case kind left t s false may e = absurd cc
stood_case kind left t s true may e =
    let two = both_true (has_length kind t.len) (not (eqb left 0) || eqb t.len 0) (sym may) in
    let same : t ≡ s = cc in
    subst (λ (s : Span). Stood kind left (Some t) s) same (record { is = refl; has = two.0; last = last_zero left (eqb t.len 0) two.1 })

stood : (kind : LibKind) (left : ℕ) (o : Option Span) (s : Span) → standing kind left o ≡ Some s → Stood kind left o s
stood kind left None s e = absurd cc
stood kind left (Some t) s e = stood_case kind left t s (may_stand kind left t) refl e

is_place : (h : Head) (image : List ℕ) (left at : ℕ) (s : Span) → AreBytes image → next_record h image left at ≡ Some s
    → IsPlace h image s × (left ≡ 0 → eqb s.len 0 ≡ true)
is_place h image left at s bytes e =
    let st = stood h.kind left (record_at h.version image at) s e in
    let two = read_at h.version image at s bytes st.is in
    (record { within = two.0; fits = two.1; stands = st.has }, st.last)

-- ---- all records

-- the last one, if there is one, ends a member
abbrev pub last_ends : List Span → Bool
last_ends [] = true
last_ends (s ∷ []) = eqb s.len 0
last_ends (s ∷ t ∷ ss) = last_ends (t ∷ ss)

last_push : (ss : List Span) (s : Span) → last_ends (ss ++ s ∷ []) ≡ eqb s.len 0
last_push [] s = refl
last_push (t ∷ []) s = refl
last_push (t ∷ u ∷ ss) s = last_push (u ∷ ss) s

-- what holds of records that were read
pub record ArePlaces (h : Head) (image : List ℕ) (n : ℕ) (ss : List Span) : Type 0 where
  pub all : AllByRecursion (IsPlace h image) ss
  pub count : length ss ≡ n
  pub last : last_ends ss ≡ true

all_push : (h : Head) (image : List ℕ) (ss : List Span) (s : Span) → AllByRecursion (IsPlace h image) ss → IsPlace h image s → AllByRecursion (IsPlace h image) (ss ++ s ∷ [])
all_push h image [] s all one = (one, tt)
all_push h image (t ∷ ss) s all one = (all.0, all_push h image ss s all.1 one)

record_case : (P : List Span → Type 0) (o : Option Span) (fault : LibFault) (next : Span → Result (List Span) LibFault) (ss : List Span)
    → after_record o (Err fault) next ≡ Ok ss → ((s : Span) → o ≡ Some s → next s ≡ Ok ss → P ss) → P ss
record_case P None fault next ss e more = absurd cc
record_case P (Some s) fault next ss e more = more s refl e

places_from : (left : ℕ) (h : Head) (image : List ℕ) (k at : ℕ) (done ss : List Span) → AreBytes image → AllByRecursion (IsPlace h image) done
    → (left ≡ 0 → last_ends done ≡ true) → records_from left h image k at done ≡ Ok ss → ArePlaces h image (length done + left) ss
unfolding records_from
places_from zero h image k at done ss bytes all last e =
    let r = then_ok (eqb (length image) at) (BadRecord k) (Ok done) ss e in
    let same : done ≡ ss = let found = r.1 in cc in
    subst (ArePlaces h image (length done + 0)) same (record { all = all; count = omega arith; last = last refl })
places_from (suc left) h image k at done ss bytes all last e =
    record_case (ArePlaces h image (length done + suc left)) (next_record h image left at) (BadRecord k)
    (λ s. records_from left h image (k + 1) (s.at + s.len) (done ++ s ∷ [])) ss e
    (λ s found next.
    let one = is_place h image left at s bytes found in
    let l : length (done ++ s ∷ []) + left ≡ length done + suc left = let n = length-append done (s ∷ []) in omega (arith, n) in
    subst (λ (n : ℕ). ArePlaces h image n ss) l
    (places_from left h image (k + 1) (s.at + s.len) (done ++ s ∷ []) ss bytes (all_push h image done s all one.0) (λ none. last_push done s ∙ one.1 none) next))

pub places_hold : (h : Head) (image : List ℕ) (ss : List Span) → AreBytes image → records_of h image ≡ Ok ss → ArePlaces h image h.records ss
places_hold h image ss bytes e =
    let n : length {A = Span} [] + h.records ≡ h.records = omega arith in
    subst (λ (n : ℕ). ArePlaces h image n ss) n (places_from h.records h image 1 (directory_end h.blocks) [] ss bytes tt (λ none. refl) e)

-- ---- the records of a member

pub drop_places : (h : Head) (image : List ℕ) (n : ℕ) (ss : List Span) → AllByRecursion (IsPlace h image) ss → AllByRecursion (IsPlace h image) (drop n ss)
drop_places h image zero ss all = all
drop_places h image (suc n) [] all = all
drop_places h image (suc n) (s ∷ ss) all = drop_places h image n ss all.1

pub run_long : (ss : List Span) → length (take (run_length ss) ss) ≡ run_length ss
run_long ss = length-take-le (run_length ss) ss (prefix_len-le-length (λ s. not (eqb s.len 0)) ss)

record_is : (lib : Contents) (h : Head) (image : List ℕ) (s : Span) → lib.version ≡ h.version → lib.kind ≡ h.kind → IsPlace h image s → eqb s.len 0 ≡ false
    → IsRecord lib (part image s)
record_is lib h image s version kind place some =
    let l : length (part image s) ≡ s.len = part_long image s place.within in
    let low : 0 < s.len = grind (arith, nat_tests, some) in
    let fits : s.len < 256 ^ width lib.version = rw version place.fits in
    (rw l low, rw l fits, rw (l, kind) place.stands)

run_case : (lib : Contents) (h : Head) (image : List ℕ) (s : Span) (ss : List Span) (b : Bool) → b ≡ eqb s.len 0 → lib.version ≡ h.version → lib.kind ≡ h.kind → IsPlace h image s
    → AllByRecursion (IsRecord lib) (map (part image) (take (run_length ss) ss)) → AllByRecursion (IsRecord lib) (map (part image) (take (cond (not b) (1 + run_length ss) 0) (s ∷ ss)))
run_case lib h image s ss true is version kind place rest = tt
run_case lib h image s ss false is version kind place rest =
    let n : 1 + run_length ss ≡ suc (run_length ss) = omega arith in
    rw n (record_is lib h image s version kind place (sym is), rest)

run_records : (lib : Contents) (h : Head) (image : List ℕ) (ss : List Span) → lib.version ≡ h.version → lib.kind ≡ h.kind → AllByRecursion (IsPlace h image) ss
    → AllByRecursion (IsRecord lib) (map (part image) (take (run_length ss) ss))
run_records lib h image [] version kind all = tt
run_records lib h image (s ∷ ss) version kind all =
    run_case lib h image s ss (eqb s.len 0) refl version kind all.0 (run_records lib h image ss version kind all.1)

-- from a number on, up to the end of the member
pub member_records : (lib : Contents) (h : Head) (image : List ℕ) (ss : List Span) (n : ℕ) → lib.version ≡ h.version → lib.kind ≡ h.kind → AllByRecursion (IsPlace h image) ss
    → AllByRecursion (IsRecord lib) (map (part image) (take (run_length (drop n ss)) (drop n ss)))
member_records lib h image ss n version kind all = run_records lib h image (drop n ss) version kind (drop_places h image n ss all)
