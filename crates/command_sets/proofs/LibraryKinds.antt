-- The library that is read of bytes that do not say that it is one of cards is one of load modules.
use Rattle.std.proofs.Common.{arith, ◌≡◌, ℕ, ◌==◌, nat_lt, Bool, true, false, not, ◌&&◌, List, [], length, take, refl, sym, ◌∙◌, ap, subst, Result, Ok, Err, Option, Some, None, slice_get, slice_index, unwrap_or, if◌then◌else◌}
use Rattle.std.specs.Option.{option_map_or}
use Rattle.std.proofs.lemmas.Option.{unwrap_or-slice_get}
use Rattle.std.specs.Str.{bytes_eq}
use Rattle.le_bytes.specs.declared.library_fault.LibFault.{LibFault}
use Rattle.pds_directory.specs.declared.kinds.LibKind.{LibKind}
use Rattle.pds_directory.specs.declared.kinds.LibKind.TheVariants.{Modules}
use Rattle.pds_directory.specs.declared.kinds.Version.{Version}
use Rattle.pds_directory.specs.declared.header.Head.{Head}
use Rattle.pds_directory.specs.declared.entry.Span.{Span}
use Rattle.pds_directory.specs.declared.entry.Listed.{Listed}
use Rattle.pds_directory.specs.Parts.{number}
use Rattle.pds_directory.specs.Answers.{◌>>=◌}
use Rattle.pds_lib.specs.Contents.{Contents}
use Rattle.pds_directory.specs.Header.{mark, head_of, version_of, kind_of, counted, sized}
use Rattle.pds_directory.specs.Directory.{Listing, listing_of, listing_with, blocks_from, rules_of}
use Rattle.pds_directory.specs.Places.{records_of, ends_of}
use Rattle.pds_lib.specs.Grammar.{library_of, members_of}
use Rattle.command_sets.specs.Sets.{is_for_modules}

-- ---- the kind byte

byte_is : (o : Option ℕ) (b : ℕ) → option_map_or (λ x. x) o 0 ≡ b → option_map_or (λ x. x == 198) o false ≡ false → (b == 198) ≡ false
byte_is (Some x) b is other = subst (λ n. (n == 198) ≡ false) is other
byte_is None b is other = subst (λ n. (n == 198) ≡ false) is refl

index_got : (xs : List ℕ) (i : ℕ) → option_map_or (λ x. x) (slice_get xs i) 0 ≡ slice_index xs i
index_got xs i = mapped (slice_get xs i) ∙ unwrap_or-slice_get xs i 0
  where
    mapped : (o : Option ℕ) → option_map_or (λ x. x) o 0 ≡ unwrap_or o 0
    mapped (Some x) = refl
    mapped None = refl

kind_is : (b : ℕ) (k : LibKind) → (b == 198) ≡ false → kind_of b ≡ Some k → k ≡ Modules
kind_is b k other is = cases (b == 228) (rw other at is)
  where
    cases : (c : Bool) → (if c then Some Modules else None) ≡ Some k → k ≡ Modules
    cases true some = cc
    cases false none = cc

-- ---- the header

sized_kind : (image : List ℕ) (h g : Head) → sized image h ≡ Some g → g.kind ≡ h.kind
sized_kind image h g is = grind (arith, is)

counted_kind : (image : List ℕ) (v : Option Version) (k : Option LibKind) (h : Head) → counted image v k ≡ Some h → k ≡ Some h.kind
counted_kind image None k h is = cc
counted_kind image (Some v) None h is = cc
counted_kind image (Some v) (Some k) h is = ap (λ x. Some x) (sym (sized_kind image (record { version = v; kind = k; blocks = number 4 image 12; records = number 4 image 16 }) h is))

head_kind : (image : List ℕ) (h : Head) → head_of image ≡ Some h → kind_of (slice_index image 9) ≡ Some h.kind
unfolding head_of
head_kind image h is = long (nat_lt (length image) 20) is
  where
    marked : (b : Bool) → (if b then counted image (version_of (slice_index image 8)) (kind_of (slice_index image 9)) else None) ≡ Some h
        → kind_of (slice_index image 9) ≡ Some h.kind
    marked true found = counted_kind image (version_of (slice_index image 8)) (kind_of (slice_index image 9)) h found
    marked false none = cc

    long : (b : Bool)
        → (if b then None else (if bytes_eq (take 8 image) mark then counted image (version_of (slice_index image 8)) (kind_of (slice_index image 9)) else None)) ≡ Some h
        → kind_of (slice_index image 9) ≡ Some h.kind
    long true none = cc
    long false rest = marked (bytes_eq (take 8 image) mark) rest

-- ---- the library

bound : {A B P : Type 0} (r : Result A LibFault) (f : A → Result B LibFault) (y : B) → (r >>= f) ≡ Ok y → ((x : A) → r ≡ Ok x → f x ≡ Ok y → P) → P
bound (Ok x) f y is goes_on = goes_on x refl is
bound (Err e) f y is goes_on = cc

abbrev listing_of_head : Head → List Listed → Result Listing LibFault
listing_of_head h xs = Ok (record { head = h; entries = xs })

head_of_listing : (h : Head) (xs : List Listed) (d : Listing) → listing_of_head h xs ≡ Ok d → h ≡ d.head
head_of_listing h xs d is = cc

listing_head : (image : List ℕ) (d : Listing) → listing_of image ≡ Ok d → head_of image ≡ Some d.head
unfolding listing_of
listing_head image d is = cases (head_of image) refl is
  where
    cases : (o : Option Head) → head_of image ≡ o → listing_with o image ≡ Ok d → head_of image ≡ Some d.head
    cases None none there = cc
    cases (Some h) found there =
        bound (blocks_from h.blocks h image 1 []) (listing_of_head h) d there (λ xs blocks made. found ∙ ap (λ (x : Head). Some x) (head_of_listing h xs d made))

-- what is made of a directory, its records and its rules
abbrev made_of : List ℕ → Listing → List Span → Result Contents LibFault
made_of image d places = Ok (record { version = d.head.version; kind = d.head.kind; members = members_of image places d.entries })

abbrev with_rules : List ℕ → Listing → List Span → Result Contents LibFault
with_rules image d places = rules_of d (ends_of places) >>= λ kept. made_of image d places

abbrev with_records : List ℕ → Listing → Result Contents LibFault
with_records image d = records_of d.head image >>= λ places. with_rules image d places

made_kind : (image : List ℕ) (lib : Contents) (d : Listing) (places : List Span) → made_of image d places ≡ Ok lib → lib.kind ≡ d.head.kind
made_kind image lib d places is = cc

records_kind : (image : List ℕ) (lib : Contents) (d : Listing) → with_records image d ≡ Ok lib → lib.kind ≡ d.head.kind
records_kind image lib d is =
    bound (records_of d.head image) (λ places. with_rules image d places) lib is
    (λ places held rest. bound (rules_of d (ends_of places)) (λ kept. made_of image d places) lib rest
    (λ kept ruled made. made_kind image lib d places made))

library_head : (image : List ℕ) (lib : Contents) (P : Type 0) → library_of image ≡ Ok lib → ((d : Listing) → listing_of image ≡ Ok d → lib.kind ≡ d.head.kind → P) → P
unfolding library_of
library_head image lib P is goes_on =
    bound (listing_of image) (with_records image) lib is (λ d listed rest. goes_on d listed (records_kind image lib d rest))

not_both : (a b : Bool) → (a && not b) ≡ true → b ≡ false
not_both true true is = cc
not_both false true is = cc
not_both a false is = refl

pub kind_read : (image : List ℕ) (lib : Contents) → is_for_modules image ≡ true → library_of image ≡ Ok lib → lib.kind ≡ Modules
kind_read image lib fits is =
    library_head image lib _ is (λ d listed kind.
    kind ∙ kind_is (slice_index image 9) d.head.kind
    (byte_is (slice_get image 9) (slice_index image 9) (index_got image 9)
    (not_both (bytes_eq (take 8 image) mark) (option_map_or (λ x. x == 198) (slice_get image 9) false) fits))
    (head_kind image d.head (listing_head image d listed)))
