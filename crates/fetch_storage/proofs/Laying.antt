-- Text laid into parts, and shifts added to the fields of constants.
use Rattle.std.proofs.Common.{arith, ◌≡◌, ℕ, zero, suc, ◌+◌, ◌-◌, ◌%◌, ◌^◌, ◌≤◌, Bool, true, false, cond, if◌then◌else◌, List, [], ◌∷◌, length, map, fold, filter, take, drop, replicate, slice_set, refl, sym, ◌∙◌, ap, subst}
use Rattle.std.specs.List.{range_with_len}
use Rattle.byteorder.specs.Endian.{big_number, big_bytes}
use Rattle.load_recs.specs.declared.items.SymbolItem.{SymbolItem}
use Rattle.load_recs.specs.declared.items.RldItem.{RldItem}
use Rattle.linking_model.specs.Run.{Storage, with_piece, list_piece}
use Rattle.member_model.specs.Facts.{Facts}
use Rattle.member_model.specs.Symbols.{field_length, same_field}
use Rattle.member_model.specs.Loaded.{Addresses, moved, field_place, is_shifted, shift}
use Rattle.text_store.specs.Content.{section_of, with_bytes, LieInContent}
use Rattle.text_store.proofs.Writes.{length_overwritten}
use Rattle.fetch_places.specs.declared.extent.Extent.{Extent}
use Rattle.fetch_places.specs.declared.placement.Placement.{Placement}
use Rattle.fetch_places.specs.declared.placement.Placement.TheVariants.{Block, Scattered}
use Rattle.fetch_places.specs.Addresses.{addresses_by, extents_by}
use Rattle.fetch_places.specs.Extents.{has, extents_at, StandApart, Fits}
use Rattle.fetch_places.proofs.Apart.{held_first}
use Rattle.fetch_storage.specs.declared.homes.Home.{Home}
use Rattle.fetch_storage.specs.Homes.{sizes_by, home_by, homes_by, home_at}
use Rattle.fetch_storage.specs.Held.{bytes_in, part_in, Sized, holding}
use Rattle.fetch_storage.specs.Kept.{Kept, empty_parts, LieInPart, with_text, shifted_in, added_by, with_shift, with_field, parts_at, parts_of}
use Rattle.fetch_storage.specs.Sound.{InSection, Suits}
use Rattle.fetch_storage.proofs.Adding.{with_one, length_big}
use Rattle.fetch_storage.proofs.Holding.{section_held, field_held, with_held}
use Rattle.fetch_storage.proofs.Standing.{Stands, stands, home_found}

-- the extents of a placement that fits stand apart
pub apart_by : (symbols : List SymbolItem) (p : Placement) → Fits p symbols → StandApart (extents_by symbols p)
apart_by symbols (Block at size) fits = one_apart (record { at = at; count = size })
  where
    one_apart : (x : Extent) → StandApart (x ∷ [])
    one_apart x = λ a. rw (held_first a x []) (at_most_one (has a x))
      where
        at_most_one : (t : Bool) → cond t 1 0 + 0 ≤ 1
        at_most_one true = omega arith
        at_most_one false = omega arith
apart_by symbols (Scattered addresses) fits = fits.apart

-- ---- before any text

zeros : (at n : ℕ) → replicate {A = ℕ} n 0 ≡ map (λ a. 0) (range_with_len at n)
zeros at zero = refl
zeros at (suc n) = ap (λ xs. 0 ∷ xs) (zeros (at + 1) n)

empty_each : (addresses : List ℕ) (sections : List SymbolItem) → length addresses ≡ length sections
    → map (λ n. replicate {A = ℕ} n 0) (map (λ x. x.length) sections) ≡ map (bytes_in (λ a. 0)) (extents_at addresses sections)
empty_each [] [] each = refl
empty_each [] (x ∷ sections) each = absurd (omega (arith, each))
empty_each (a ∷ addresses) [] each = absurd (omega (arith, each))
empty_each (a ∷ addresses) (x ∷ sections) each =
    rw (zeros a x.length, empty_each addresses sections (omega (arith, each))) refl

pub empty_holds : (symbols : List SymbolItem) (p : Placement) → Fits p symbols → empty_parts symbols p ≡ holding symbols p (λ a. 0)
empty_holds symbols (Block at size) fits = rw (zeros at size) refl
empty_holds symbols (Scattered addresses) fits =
    ap (λ c. record { origins = addresses; homes = homes_by symbols (Scattered addresses); content = c }) (empty_each addresses _ fits.each)

lengths_of_zeros : (sizes : List ℕ) → map length (map (λ n. replicate {A = ℕ} n 0) sizes) ≡ sizes
lengths_of_zeros [] = refl
lengths_of_zeros (n ∷ sizes) = rw (length_zeros n, lengths_of_zeros sizes) refl
  where
    length_zeros : (n : ℕ) → length (replicate {A = ℕ} n 0) ≡ n
    length_zeros zero = refl
    length_zeros (suc n) = ap suc (length_zeros n)

pub empty_sized : (symbols : List SymbolItem) (p : Placement) → Sized symbols p (empty_parts symbols p)
empty_sized symbols p = record { origins = refl; homes = refl; sizes = lengths_of_zeros (sizes_by symbols p) }

-- ---- sizes stay

lengths_set : (content : List (List ℕ)) (i : ℕ) (bytes : List ℕ) → length bytes ≡ length (section_of content i) → map length (slice_set content i bytes) ≡ map length content
lengths_set [] i bytes same = refl
lengths_set (x ∷ content) zero bytes same = rw same refl
lengths_set (x ∷ content) (suc i) bytes same = ap (λ ns. length x ∷ ns) (lengths_set content i bytes same)

pub lengths_after : (content : List (List ℕ)) (i o : ℕ) (bytes : List ℕ) → LieInContent content i o (length bytes) → map length (with_bytes content i o bytes) ≡ map length content
lengths_after content i o bytes inside = lengths_set content i _ (length_overwritten (section_of content i) bytes o inside.inside)

pub text_sized : (symbols : List SymbolItem) (p : Placement) (kept : Kept) (n a : ℕ) (bytes : List ℕ) → LieInPart kept n a (length bytes)
    → Sized symbols p kept → Sized symbols p (with_text kept n a bytes)
text_sized symbols p kept n a bytes lie sized = record {
  origins = sized.origins;
  homes = sized.homes;
  sizes = lengths_after kept.content (home_at kept.homes n).part (a - (home_at kept.homes n).base) bytes lie.inside ∙ sized.sizes;
}

-- ---- text

pub text_holds : (symbols : List SymbolItem) (p : Placement) (M : Storage) (n a : ℕ) (bytes : List ℕ) → Fits p symbols → Suits symbols p
    → InSection symbols n a (length bytes)
    → with_text (holding symbols p M) n a bytes ≡ holding symbols p (with_piece M (list_piece (moved symbols (addresses_by symbols p) n a) bytes))
text_holds symbols p M n a bytes fits suits inside =
    let at : Stands symbols p n a (length bytes) = stands symbols p n a (length bytes) fits suits inside in
    let home : home_at (homes_by symbols p) n ≡ home_by symbols p n = home_found symbols p n inside.section inside.found in
    let written : with_bytes (map (bytes_in M) (extents_by symbols p)) (home_by symbols p n).part (a - (home_by symbols p n).base) bytes
    ≡ map (bytes_in (with_piece M (list_piece (moved symbols (addresses_by symbols p) n a) bytes))) (extents_by symbols p) =
    with_held M (extents_by symbols p) (home_by symbols p n).part (a - (home_by symbols p n).base) at.extent bytes (apart_by symbols p fits) at.there at.fits
    ∙ ap (λ k. map (bytes_in (with_piece M (list_piece k bytes))) (extents_by symbols p)) at.address in
    ap (λ h. record (holding symbols p M) { content = with_bytes (map (bytes_in M) (extents_by symbols p)) h.part (a - h.base) bytes }) home
    ∙ ap (λ c. record (holding symbols p M) { content = c }) written

-- ---- fields

-- the byte of the shifts of a symbol that is there
abbrev pub AddsAs : Facts → Placement → List ℕ → RldItem → Type 0
AddsAs F p shifts x =
    (number : ℕ) → (number + added_by shifts x) % 256 ^ field_length x
    ≡ (number + shift F (addresses_by F.symbols p) (256 ^ field_length x) x) % 256 ^ field_length x

pub shift_holds : (F : Facts) (p : Placement) (shifts : List ℕ) (M : Storage) (x : RldItem) → Fits p F.symbols → Suits F.symbols p
    → InSection F.symbols x.p x.address (field_length x) → AddsAs F p shifts x
    → with_shift shifts (holding F.symbols p M) x
    ≡ holding F.symbols p (with_one (field_place F (addresses_by F.symbols p)) field_length (shift F (addresses_by F.symbols p)) same_field M x)
shift_holds F p shifts M x fits suits inside adds =
    let q : Addresses = addresses_by F.symbols p in
    let k : ℕ = field_length x in
    let xs : List Extent = extents_by F.symbols p in
    let h : Home = home_by F.symbols p x.p in
    let o : ℕ = x.address - h.base in
    let at : Stands F.symbols p x.p x.address k = stands F.symbols p x.p x.address k fits suits inside in
    let home : home_at (homes_by F.symbols p) x.p ≡ h = home_found F.symbols p x.p inside.section inside.found in
    let there : take k (drop o (section_of (map (bytes_in M) xs) h.part)) ≡ map M (range_with_len (field_place F q x) k) =
    ap (λ ys. take k (drop o ys)) (section_held M xs h.part at.extent at.there)
    ∙ (field_held M at.extent o k at.fits ∙ ap (λ a. map M (range_with_len a k)) at.address) in
    let number : ℕ = big_number k (map M (range_with_len (field_place F q x) k)) in
    let new : List ℕ = big_bytes k ((number + shift F q (256 ^ k) x) % 256 ^ k) in
    let bytes : big_bytes k ((big_number k (take k (drop o (section_of (map (bytes_in M) xs) h.part))) + added_by shifts x) % 256 ^ k) ≡ new =
    ap (λ ys. big_bytes k ((big_number k ys + added_by shifts x) % 256 ^ k)) there ∙ ap (big_bytes k) (adds number) in
    let size : length new ≡ k = length_big k ((number + shift F q (256 ^ k) x) % 256 ^ k) in
    let fitting : o + length new ≤ at.extent.count = subst (λ n. o + n ≤ at.extent.count) (sym size) at.fits in
    ap (λ g. record (holding F.symbols p M) { content = shifted_in (map (bytes_in M) xs) g.part (x.address - g.base) k (added_by shifts x) }) home
    ∙ (ap (λ bs. record (holding F.symbols p M) { content = with_bytes (map (bytes_in M) xs) h.part o bs }) bytes
    ∙ (ap (λ c. record (holding F.symbols p M) { content = c }) (with_held M xs h.part o at.extent new (apart_by F.symbols p fits) at.there fitting)
    ∙ ap (λ a. holding F.symbols p (with_piece M (list_piece a new))) at.address))

-- each field lies in a section, and its shift is that of its symbol
abbrev pub AllInSection : Facts → Placement → List ℕ → List RldItem → Type 0
AllInSection F p shifts [] = Unit {0}
AllInSection F p shifts (x ∷ xs) =
    InSection F.symbols x.p x.address (field_length x) × (is_shifted F.symbols x ≡ true → AddsAs F p shifts x) × AllInSection F p shifts xs

one_field : (F : Facts) (p : Placement) (shifts : List ℕ) (M : Storage) (x : RldItem) (t : Bool) → is_shifted F.symbols x ≡ t → Fits p F.symbols → Suits F.symbols p
    → InSection F.symbols x.p x.address (field_length x) → (is_shifted F.symbols x ≡ true → AddsAs F p shifts x)
    → (if t then with_shift shifts (holding F.symbols p M) x else holding F.symbols p M)
    ≡ holding F.symbols p (if t then with_one (field_place F (addresses_by F.symbols p)) field_length (shift F (addresses_by F.symbols p)) same_field M x else M)
one_field F p shifts M x true is fits suits inside adds = shift_holds F p shifts M x fits suits inside (adds is)
one_field F p shifts M x false is fits suits inside adds = refl

pub fields_hold : (F : Facts) (p : Placement) (shifts : List ℕ) (xs : List RldItem) (M : Storage) → Fits p F.symbols → Suits F.symbols p
    → AllInSection F p shifts xs
    → fold (with_field F.symbols shifts) (holding F.symbols p M) xs
    ≡ holding F.symbols p (fold (with_one (field_place F (addresses_by F.symbols p)) field_length (shift F (addresses_by F.symbols p)) same_field) M (filter (is_shifted F.symbols) xs))
fields_hold F p shifts [] M fits suits all = refl
fields_hold F p shifts (x ∷ xs) M fits suits all =
    ap (λ kept. fold (with_field F.symbols shifts) kept xs) (one_field F p shifts M x (is_shifted F.symbols x) refl fits suits all.0 all.1)
    ∙ by_cases (is_shifted F.symbols x) refl (λ N. fields_hold F p shifts xs N fits suits all.2)
  where
    by_cases : (t : Bool) → is_shifted F.symbols x ≡ t
        → ((N : Storage) → fold (with_field F.symbols shifts) (holding F.symbols p N) xs
        ≡ holding F.symbols p (fold (with_one (field_place F (addresses_by F.symbols p)) field_length (shift F (addresses_by F.symbols p)) same_field) N (filter (is_shifted F.symbols) xs)))
        → fold (with_field F.symbols shifts) (holding F.symbols p (if is_shifted F.symbols x then with_one (field_place F (addresses_by F.symbols p)) field_length (shift F (addresses_by F.symbols p)) same_field M x else M)) xs
        ≡ holding F.symbols p (fold (with_one (field_place F (addresses_by F.symbols p)) field_length (shift F (addresses_by F.symbols p)) same_field) M (filter (is_shifted F.symbols) (x ∷ xs)))
    by_cases true is rest = rw is (rest (with_one (field_place F (addresses_by F.symbols p)) field_length (shift F (addresses_by F.symbols p)) same_field M x))
    by_cases false is rest = rw is (rest M)

-- ---- the parts themselves

pub parts_hold : (addresses : List ℕ) (sections : List SymbolItem) (M : Storage) → length addresses ≡ length sections
    → parts_at addresses (map (bytes_in M) (extents_at addresses sections)) ≡ map (part_in M) (extents_at addresses sections)
parts_hold [] [] M each = refl
parts_hold [] (x ∷ sections) M each = refl
parts_hold (a ∷ addresses) [] M each = refl
parts_hold (a ∷ addresses) (x ∷ sections) M each = ap (λ ps. part_in M (record { at = a; count = x.length }) ∷ ps) (parts_hold addresses sections M (omega (arith, each)))

pub parts_are : (symbols : List SymbolItem) (p : Placement) (M : Storage) → Fits p symbols → parts_of (holding symbols p M) ≡ map (part_in M) (extents_by symbols p)
parts_are symbols (Block at size) M fits = refl
parts_are symbols (Scattered addresses) M fits = parts_hold addresses _ M fits.each
