-- The parts of a member in storage: shifts from the homes of its parts, and fields that share no byte.
use Rattle.std.proofs.Common.{arith, ◌≡◌, ◌≢◌, ℕ, zero, suc, ◌+◌, ◌-◌, ◌*◌, ◌/◌, ◌%◌, ◌^◌, ◌<◌, ◌≤◌, ◌⊎◌, inl, inr, Bool, true, false, not, ◌&&◌, ◌==◌, nat_lt, if◌then◌else◌, List, [], ◌∷◌, length, map, take, slice_get, slice_index, count_by, refl, sym, ◌∙◌, ap, subst, Option, Some, None}
use Rattle.std.specs.List.{range_with_len, enumerate_from}
use Rattle.std.proofs.lemmas.Option.{slice_get_within, slice_get_past}
use Rattle.std.proofs.lemmas.List.FromFn.{get_or-map-range_with_len}
use Rattle.std.proofs.Math.Nat.{mod-add-div}
use Rattle.load_recs.specs.declared.items.SymbolItem.{SymbolItem}
use Rattle.load_recs.specs.declared.items.RldItem.{RldItem}
use Rattle.linking_model.specs.Numbers.{is_among}
use Rattle.member_model.specs.Facts.{Facts}
use Rattle.member_model.specs.Faults.{shares_wrongly}
use Rattle.member_model.specs.Symbols.{is_section, symbol_at, section_as, section_of, section_rank, end_of, address_in_module, field_length, field_kind, is_minus, same_field}
use Rattle.member_model.specs.Loaded.{Addresses, moved, field_place, shift}
use Rattle.fetch_places.specs.declared.extent.Extent.{Extent}
use Rattle.fetch_places.specs.declared.placement.Placement.{Placement}
use Rattle.fetch_places.specs.declared.placement.Placement.TheVariants.{Block, Scattered}
use Rattle.fetch_places.specs.Addresses.{addresses_by, extents_by}
use Rattle.fetch_places.specs.Extents.{has, Fits}
use Rattle.fetch_storage.specs.Homes.{origins_by, homes_by, home_at, no_home}
use Rattle.fetch_storage.specs.Held.{Sized}
use Rattle.fetch_storage.specs.Kept.{Kept}
use Rattle.fetch_storage.specs.Shifts.{moves, moves_at, shift_between, shift_by, shifts_by, home_shift, shift_of, shifts_in}
use Rattle.fetch_storage.specs.Sound.{InSection, Suits, SectionsApart, HasMover}
use Rattle.fetch_storage.proofs.Adding.{has_byte, Fit}
use Rattle.fetch_storage.proofs.Holding.{in_one}
use Rattle.fetch_storage.proofs.Shifting.{added_same, same_remainder}
use Rattle.fetch_storage.proofs.Standing.{Stands, stands, ItemPlace, item_place, home_found, rank_is, count_below, address_of_item, homes_length}
use Rattle.fetch_storage.proofs.Laying.{AddsAs, apart_by}

-- ---- shifts

home_none : (symbols : List SymbolItem) (p : Placement) (n : ℕ) → symbol_at symbols n ≡ None → home_at (homes_by symbols p) n ≡ no_home
home_none symbols p n none = by_cases (n == 0) refl
  where
    past : (n == 0) ≡ false → slice_get symbols (n - 1) ≡ None → length symbols ≤ n - 1
    past some gone = absent symbols (n - 1) gone
      where
        absent : (xs : List SymbolItem) (i : ℕ) → slice_get xs i ≡ None → length xs ≤ i
        absent [] i gone = omega arith
        absent (x ∷ xs) zero gone = absurd cc
        absent (x ∷ xs) (suc i) gone = let rest : length xs ≤ i = absent xs i gone in omega (arith, rest)

    by_cases : (t : Bool) → (n == 0) ≡ t → home_at (homes_by symbols p) n ≡ no_home
    by_cases true is = rw is refl
    by_cases false is =
        let gone : slice_get symbols (n - 1) ≡ None = rw is at none in
        let there : slice_get (homes_by symbols p) (n - 1) ≡ None =
        slice_get_past (homes_by symbols p) (n - 1) (subst (λ k. k ≤ n - 1) (sym (homes_length symbols p)) (past is gone)) in
        rw (is, there) refl

block_home : (symbols : List SymbolItem) (at size n : ℕ) → home_at (homes_by symbols (Block at size)) n ≡ no_home
block_home symbols at size n = by_cases (symbol_at symbols n) refl
  where
    by_cases : (o : Option SymbolItem) → symbol_at symbols n ≡ o → home_at (homes_by symbols (Block at size)) n ≡ no_home
    by_cases None none = home_none symbols (Block at size) n none
    by_cases (Some x) found = home_found symbols (Block at size) n x found

-- a block moves as a whole
block_shift : (at a : ℕ) → shift_between at 0 ≡ shift_between (at + a) a
block_shift at a =
    same_remainder (at + (2 ^ 32 - 0 % 2 ^ 32)) (at + a + (2 ^ 32 - a % 2 ^ 32)) (2 ^ 32) (a / 2 ^ 32) 0 (balanced at a (2 ^ 32) (a % 2 ^ 32) (a / 2 ^ 32) (mod-add-div a (2 ^ 32)) (low a))
  where
    low : (a : ℕ) → a % 2 ^ 32 ≤ 2 ^ 32
    low a = omega arith

    balanced : (at a w r q : ℕ) → r + w * q ≡ a → r ≤ w → at + (w - 0 % w) + w * q ≡ at + a + (w - r) + w * 0
    balanced at a w r q whole low =
        let none : w * 0 ≡ 0 = grind arith in
        let zero_left : 0 % w ≡ 0 = no_remainder w in
        rw (none, zero_left) (omega (arith, whole, low))
      where
        no_remainder : (w : ℕ) → 0 % w ≡ 0
        no_remainder w = grind arith

pub home_shift_is : (symbols : List SymbolItem) (p : Placement) (kept : Kept) (n : ℕ) → Sized symbols p kept
    → home_shift kept n ≡ shift_between (addresses_by symbols p n) (address_in_module symbols n)
home_shift_is symbols p kept n sized =
    ap (λ hs. shift_between (slice_index kept.origins (home_at hs n).part) (home_at hs n).base) sized.homes
    ∙ (ap (λ os. shift_between (slice_index os (home_at (homes_by symbols p) n).part) (home_at (homes_by symbols p) n).base) sized.origins
    ∙ by_placement p)
  where
    by_placement : (p : Placement)
        → shift_between (slice_index (origins_by p) (home_at (homes_by symbols p) n).part) (home_at (homes_by symbols p) n).base
        ≡ shift_between (addresses_by symbols p n) (address_in_module symbols n)
    by_placement (Block at size) = rw (block_home symbols at size n) (block_shift at (address_in_module symbols n))
    by_placement (Scattered addresses) = by_symbol (symbol_at symbols n) refl
      where
        by_symbol : (o : Option SymbolItem) → symbol_at symbols n ≡ o
            → shift_between (slice_index addresses (home_at (homes_by symbols (Scattered addresses)) n).part) (home_at (homes_by symbols (Scattered addresses)) n).base
            ≡ shift_between (slice_index addresses (section_rank symbols n - 1)) (address_in_module symbols n)
        by_symbol None none = rw (home_none symbols (Scattered addresses) n none, none) refl
        by_symbol (Some x) found = rw (home_found symbols (Scattered addresses) n x found) refl

-- the shift of an item that is there
pub item_shift : (symbols : List SymbolItem) (p : Placement) (kept : Kept) (n : ℕ) (x : SymbolItem) → Sized symbols p kept → symbol_at symbols n ≡ Some x
    → shift_of kept n x ≡ shift_by symbols (addresses_by symbols p) n
item_shift symbols p kept n x sized found =
    let section : section_of symbols n ≡ section_as n x.length x.kind = rw found refl in
    let moving : moves_at symbols n ≡ moves x.kind = rw found refl in
    rw (section, moving, home_shift_is symbols p kept (section_as n x.length x.kind) sized) refl

shifts_from : (symbols rest : List SymbolItem) (p : Placement) (kept : Kept) (k : ℕ) → Sized symbols p kept
    → ((i : ℕ) (x : SymbolItem) → slice_get rest i ≡ Some x → symbol_at symbols (k + i) ≡ Some x)
    → map (λ (n, x). shift_of kept n x) (enumerate_from k rest) ≡ map (shift_by symbols (addresses_by symbols p)) (range_with_len k (length rest))
shifts_from symbols [] p kept k sized at = refl
shifts_from symbols (x ∷ rest) p kept k sized at =
    rw (
      item_shift symbols p kept k x sized (subst (λ n. symbol_at symbols n ≡ Some x) (here k) (at 0 x refl)),
      shifts_from symbols rest p kept (k + 1) sized (λ i y found. subst (λ n. symbol_at symbols n ≡ Some y) (later k i) (at (suc i) y found)),
    )
    refl
  where
    here : (k : ℕ) → k + 0 ≡ k
    here k = omega arith

    later : (k i : ℕ) → k + suc i ≡ k + 1 + i
    later k i = omega arith

pub shifts_are : (symbols : List SymbolItem) (p : Placement) (kept : Kept) → Sized symbols p kept → shifts_in kept symbols ≡ shifts_by symbols (addresses_by symbols p)
shifts_are symbols p kept sized = shifts_from symbols symbols p kept 1 sized (λ i x found. at_place i x found)
  where
    at_place : (i : ℕ) (x : SymbolItem) → slice_get symbols i ≡ Some x → symbol_at symbols (1 + i) ≡ Some x
    at_place i x found =
        let some : (1 + i == 0) ≡ false = grind arith in
        let before : (1 + i) - 1 ≡ i = omega arith in
        rw (some, before) found

-- ---- what an item adds

length_some : (x : RldItem) → 1 ≤ field_length x
length_some x = omega arith

length_most : (x : RldItem) → field_length x ≤ 4
length_most x = omega arith

pub adds_as : (F : Facts) (p : Placement) (x : RldItem) → HasMover F.symbols x → AddsAs F p (shifts_by F.symbols (addresses_by F.symbols p)) x
adds_as F p x has_mover = λ number.
    ap (λ s. (number + (if is_minus x then 2 ^ 32 - s else s)) % 256 ^ field_length x) there
    ∙ added_same number (q (section_of F.symbols x.r)) (address_in_module F.symbols (section_of F.symbols x.r)) (field_length x) (is_minus x) (length_some x) (length_most x)
  where
    q : Addresses
    q = addresses_by F.symbols p

    at : ItemPlace F.symbols x.r has_mover.mover
    at = item_place F.symbols x.r has_mover.mover has_mover.found

    moving : moves_at F.symbols x.r ≡ true
    moving = rw has_mover.found has_mover.moving

    there : slice_index (shifts_by F.symbols (addresses_by F.symbols p)) (x.r - 1)
        ≡ shift_between (addresses_by F.symbols p (section_of F.symbols x.r)) (address_in_module F.symbols (section_of F.symbols x.r))
    there =
        let within : x.r - 1 < length F.symbols = omega (arith, at.number, slice_get_within F.symbols at.place has_mover.mover at.there) in
        get_or-map-range_with_len (shift_by F.symbols (addresses_by F.symbols p)) 1 (length F.symbols) (x.r - 1) x.r 0 within (omega (arith, at.number))
        ∙ rw moving refl

-- ---- fields that share no byte

-- places of different sections differ
ranks_differ : (symbols : List SymbolItem) (n m : ℕ) (x y : SymbolItem) → n < m → symbol_at symbols n ≡ Some x → symbol_at symbols m ≡ Some y
    → is_section x ≡ true → is_section y ≡ true → section_rank symbols n - 1 < section_rank symbols m - 1
ranks_differ symbols n m x y before found_x found_y kind_x kind_y =
    let at_n : ItemPlace symbols n x = item_place symbols n x found_x in
    let place : n - 1 ≡ at_n.place = omega (arith, at_n.number) in
    let below : count_by is_section (take (n - 1) symbols) < count_by is_section (take (m - 1) symbols) =
    count_below symbols (n - 1) (m - 1) x (subst (λ k. slice_get symbols k ≡ Some x) (sym place) at_n.there) kind_x (omega (arith, before, at_n.number)) in
    rw (rank_is symbols n x found_x kind_x, rank_is symbols m y found_y kind_y) below

-- the field has a byte at an address of storage
abbrev pub in_field : Facts → Placement → ℕ → RldItem → Bool
in_field F p b x =
    has_byte (field_place F (addresses_by F.symbols p)) field_length (shift F (addresses_by F.symbols p)) same_field b x

-- an address of storage in a field of one section is in no field of another
differing : (F : Facts) (p : Placement) (x y : RldItem) → Fits p F.symbols → Suits F.symbols p → SectionsApart F.symbols
    → InSection F.symbols x.p x.address (field_length x) → InSection F.symbols y.p y.address (field_length y) → x.p ≢ y.p
    → (b : ℕ) → in_field F p b x ≡ true
    → in_field F p b y ≡ true → ⊥
differing F (Block at size) x y fits suits apart in_x in_y differ b has_x has_y =
    let low_x : address_in_module F.symbols x.p ≡ in_x.section.address = address_of_item F.symbols x.p in_x.section in_x.found in
    let low_y : address_in_module F.symbols y.p ≡ in_y.section.address = address_of_item F.symbols y.p in_y.section in_y.found in
    let from_x : at + address_in_module F.symbols x.p + (x.address - address_in_module F.symbols x.p) ≤ b = grind (arith, has_x) in
    let to_x : b < at + address_in_module F.symbols x.p + (x.address - address_in_module F.symbols x.p) + field_length x = grind (arith, has_x) in
    let from_y : at + address_in_module F.symbols y.p + (y.address - address_in_module F.symbols y.p) ≤ b = grind (arith, has_y) in
    let to_y : b < at + address_in_module F.symbols y.p + (y.address - address_in_module F.symbols y.p) + field_length y = grind (arith, has_y) in
    meet (in_order x.p y.p differ) low_x low_y from_x to_x from_y to_y
  where
    in_order : (n m : ℕ) → n ≢ m → n < m ⊎ m < n
    in_order n m ne = grind (arith, ne)

    meet : x.p < y.p ⊎ y.p < x.p → address_in_module F.symbols x.p ≡ in_x.section.address → address_in_module F.symbols y.p ≡ in_y.section.address
        → at + address_in_module F.symbols x.p + (x.address - address_in_module F.symbols x.p) ≤ b
        → b < at + address_in_module F.symbols x.p + (x.address - address_in_module F.symbols x.p) + field_length x
        → at + address_in_module F.symbols y.p + (y.address - address_in_module F.symbols y.p) ≤ b
        → b < at + address_in_module F.symbols y.p + (y.address - address_in_module F.symbols y.p) + field_length y → ⊥
    meet (inl before) low_x low_y from_x to_x from_y to_y =
        let behind : end_of in_x.section ≤ in_y.section.address = apart x.p y.p in_x.section in_y.section before in_x.found in_y.found in_x.kind in_y.kind in_x.segment in_y.segment in
        omega (arith, behind, in_x.from, in_x.to, in_y.from, in_y.to, low_x, low_y, from_x, to_x, from_y, to_y)
    meet (inr after) low_x low_y from_x to_x from_y to_y =
        let behind : end_of in_y.section ≤ in_x.section.address = apart y.p x.p in_y.section in_x.section after in_y.found in_x.found in_y.kind in_x.kind in_y.segment in_x.segment in
        omega (arith, behind, in_x.from, in_x.to, in_y.from, in_y.to, low_x, low_y, from_x, to_x, from_y, to_y)
differing F (Scattered addresses) x y fits suits apart in_x in_y differ b has_x has_y =
    let at_x : Stands F.symbols (Scattered addresses) x.p x.address (field_length x) = stands F.symbols (Scattered addresses) x.p x.address (field_length x) fits suits in_x in
    let at_y : Stands F.symbols (Scattered addresses) y.p y.address (field_length y) = stands F.symbols (Scattered addresses) y.p y.address (field_length y) fits suits in_y in
    let gone : has b at_y.extent ≡ false =
    in_one b (extents_by F.symbols (Scattered addresses)) (section_rank F.symbols x.p - 1) (section_rank F.symbols y.p - 1) at_x.extent at_y.extent
    (apart_by F.symbols (Scattered addresses) fits) (places_differ (in_order x.p y.p differ)) at_x.there at_y.there
    (within at_x.extent (x.address - address_in_module F.symbols x.p) (field_place F (addresses_by F.symbols (Scattered addresses)) x) (field_length x) at_x.fits at_x.address has_x) in
    let there : has b at_y.extent ≡ true =
    within at_y.extent (y.address - address_in_module F.symbols y.p) (field_place F (addresses_by F.symbols (Scattered addresses)) y) (field_length y) at_y.fits at_y.address has_y in
    cc
  where
    in_order : (n m : ℕ) → n ≢ m → n < m ⊎ m < n
    in_order n m ne = grind (arith, ne)

    within : (e : Extent) (o place k : ℕ) → o + k ≤ e.count → e.at + o ≡ place → is_among place k b ≡ true → has b e ≡ true
    within e o place k fit is inside =
        let low : place ≤ b = grind (arith, inside) in
        let high : b < place + k = grind (arith, inside) in
        grind (arith, low, high, fit, is)

    places_differ : x.p < y.p ⊎ y.p < x.p → section_rank F.symbols x.p - 1 ≢ section_rank F.symbols y.p - 1
    places_differ (inl before) =
        let below : section_rank F.symbols x.p - 1 < section_rank F.symbols y.p - 1 = ranks_differ F.symbols x.p y.p in_x.section in_y.section before in_x.found in_y.found in_x.kind in_y.kind in
        λ e. omega (arith, below, e)
    places_differ (inr after) =
        let below : section_rank F.symbols y.p - 1 < section_rank F.symbols x.p - 1 = ranks_differ F.symbols y.p x.p in_y.section in_x.section after in_y.found in_x.found in_y.kind in_x.kind in
        λ e. omega (arith, below, e)

-- ---- two fields fit

among_low : (at n b : ℕ) → is_among at n b ≡ true → at ≤ b
among_low at n b h = grind (arith, h)

among_high : (at n b : ℕ) → is_among at n b ≡ true → b < at + n
among_high at n b h = grind (arith, h)

one_place : (x y : RldItem) → same_field x y ≡ true → (x.p ≡ y.p) × (x.address ≡ y.address)
one_place x y same = (grind (arith, same), grind (arith, same))

alike : (x y : RldItem) → same_field x y ≡ true → shares_wrongly y x ≡ false → field_length y ≡ field_length x
alike x y same right =
    let at : (x.p ≡ y.p) × (x.address ≡ y.address) = one_place x y same in
    sizes x.p y.p x.address y.address (field_length x) (field_length y) (field_kind x == 0) (field_kind y == 0) at.0 at.1 (length_some x) (length_some y) right
  where
    sizes : (p q a c m n : ℕ) (u v : Bool) → p ≡ q → a ≡ c → 1 ≤ m → 1 ≤ n
        → (p == q && nat_lt c (a + m) && nat_lt a (c + n) && not (c == a && n == m && v && u)) ≡ false → n ≡ m
    sizes p q a c m n u v same_p same_a some_m some_n right = grind (arith, right, same_p, same_a, some_m, some_n)

-- in one section, fields at different places share no byte
different : (x y : RldItem) (base to b : ℕ) → x.p ≡ y.p → same_field x y ≡ false → shares_wrongly y x ≡ false → base ≤ x.address → base ≤ y.address
    → to + (x.address - base) ≤ b → b < to + (x.address - base) + field_length x → to + (y.address - base) ≤ b → b < to + (y.address - base) + field_length y → ⊥
different x y base to b same_p other right low_x low_y from_x to_x from_y to_y =
    apart x.p y.p x.address y.address (field_length x) (field_length y) (field_kind x == 0) (field_kind y == 0) same_p other right
    (omega (arith, low_x, low_y, from_x, to_x, from_y, to_y)) (omega (arith, low_x, low_y, from_x, to_x, from_y, to_y))
  where
    apart : (p q a c m n : ℕ) (u v : Bool) → p ≡ q → (p == q && a == c) ≡ false
        → (p == q && nat_lt c (a + m) && nat_lt a (c + n) && not (c == a && n == m && v && u)) ≡ false → c < a + m → a < c + n → ⊥
    apart p q a c m n u v same_p other right left_over right_over = grind (arith, same_p, other, right, left_over, right_over)

pub fields_fit : (F : Facts) (p : Placement) (x y : RldItem) → Fits p F.symbols → Suits F.symbols p → SectionsApart F.symbols
    → InSection F.symbols x.p x.address (field_length x) → InSection F.symbols y.p y.address (field_length y) → shares_wrongly y x ≡ false
    → Fit (field_place F (addresses_by F.symbols p)) field_length (shift F (addresses_by F.symbols p)) same_field x y
fields_fit F p x y fits suits apart in_x in_y right = record {
  at_one = λ same. let at : (x.p ≡ y.p) × (x.address ≡ y.address) = one_place x y same in rw (at.0, at.1) refl;
  alike = λ same. alike x y same right;
  apart = λ other b has_x. by_cases other b has_x (in_field F p b y) refl;
}
  where
    meets : same_field x y ≡ false → (b : ℕ) → in_field F p b x ≡ true
        → in_field F p b y ≡ true → (t : Bool) → (x.p == y.p) ≡ t → ⊥
    meets other b has_x has_y false differ = differing F p x y fits suits apart in_x in_y (grind (arith, differ)) b has_x has_y
    meets other b has_x has_y true same =
        let is : x.p ≡ y.p = grind (arith, same) in
        let low_x : address_in_module F.symbols x.p ≡ in_x.section.address = address_of_item F.symbols x.p in_x.section in_x.found in
        let low_y : address_in_module F.symbols y.p ≡ in_y.section.address = address_of_item F.symbols y.p in_y.section in_y.found in
        let there : is_among (moved F.symbols (addresses_by F.symbols p) x.p y.address) (field_length y) b ≡ true = rw (sym is) at has_y in
        let base_y : address_in_module F.symbols x.p ≤ y.address = rw (ap (address_in_module F.symbols) is) (omega (arith, low_y, in_y.from)) in
        different x y (address_in_module F.symbols x.p) (addresses_by F.symbols p x.p) b is other right (omega (arith, low_x, in_x.from)) base_y
        (among_low (field_place F (addresses_by F.symbols p) x) (field_length x) b has_x)
        (among_high (field_place F (addresses_by F.symbols p) x) (field_length x) b has_x)
        (among_low (moved F.symbols (addresses_by F.symbols p) x.p y.address) (field_length y) b there)
        (among_high (moved F.symbols (addresses_by F.symbols p) x.p y.address) (field_length y) b there)

    by_cases : same_field x y ≡ false → (b : ℕ) → in_field F p b x ≡ true
        → (t : Bool) → in_field F p b y ≡ t
        → in_field F p b y ≡ false
    by_cases other b has_x false outside = outside
    by_cases other b has_x true inside = absurd (meets other b has_x inside (x.p == y.p) refl)
