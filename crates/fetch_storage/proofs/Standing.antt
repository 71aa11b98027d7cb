-- Where what stands in a section goes: into which part, at which place, and at which address.
use Rattle.std.proofs.Common.{arith, ◌≡◌, ℕ, zero, suc, ◌+◌, ◌-◌, ◌<◌, ◌≤◌, Bool, true, false, cond, ◌==◌, List, [], ◌∷◌, ◌++◌, length, map, filter, take, get_or, slice_get, slice_index, count_by, refl, sym, ◌∙◌, ap, subst, Some}
use Rattle.std.specs.List.{range_with_len, enumerate_from}
use Rattle.std.specs.Option.{option_map}
use Rattle.std.proofs.lemmas.Grind.{common_steps}
use Rattle.std.proofs.lemmas.List.{take_more}
use Rattle.std.proofs.lemmas.List.Sums.{sum_by-cons}
use Rattle.std.proofs.lemmas.List.FromFn.{get_or-map-range_with_len, length-map-range_with_len, map-range_with_len_more}
use Rattle.std.proofs.lemmas.Option.{slice_get-map, slice_get_within, slice_get-get_or, none-some}
use Rattle.load_recs.specs.declared.items.SymbolItem.{SymbolItem}
use Rattle.member_model.specs.Symbols.{is_section, symbol_at, end_of, section_rank, address_in_module}
use Rattle.member_model.specs.Loaded.{moved}
use Rattle.member_model.specs.Placing.{sections_of}
use Rattle.text_store.specs.Content.{section_of}
use Rattle.fetch_places.specs.declared.extent.Extent.{Extent}
use Rattle.fetch_places.specs.declared.placement.Placement.{Placement}
use Rattle.fetch_places.specs.declared.placement.Placement.TheVariants.{Block, Scattered}
use Rattle.fetch_places.specs.Addresses.{addresses_by, extents_by}
use Rattle.fetch_places.specs.Extents.{extents_at, Fits}
use Rattle.fetch_storage.specs.declared.homes.Home.{Home}
use Rattle.fetch_storage.specs.Homes.{origins_by, sizes_by, home_by, homes_by, home_at, home_of, no_home}
use Rattle.fetch_storage.specs.Held.{Sized}
use Rattle.fetch_storage.specs.Kept.{Kept, LieInPart, address_in}
use Rattle.fetch_storage.specs.Sound.{InSection, Suits}

-- ---- places of items

pub record ItemPlace (symbols : List SymbolItem) (n : ℕ) (x : SymbolItem) : Type 0 where
  pub place : ℕ
  pub number : n ≡ suc place
  pub there : slice_get symbols place ≡ Some x

pub item_place : (symbols : List SymbolItem) (n : ℕ) (x : SymbolItem) → symbol_at symbols n ≡ Some x → ItemPlace symbols n x
item_place symbols zero x found = absurd (none-some x found)
item_place symbols (suc n) x found =
    let some : (suc n == 0) ≡ false = grind arith in
    let less : suc n - 1 ≡ n = omega arith in
    record { place = n; number = refl; there = rw (some, less) at found }

pub address_of_item : (symbols : List SymbolItem) (n : ℕ) (x : SymbolItem) → symbol_at symbols n ≡ Some x → address_in_module symbols n ≡ x.address
address_of_item symbols n x found = rw found refl

-- ---- the sections among the items

one_more : (k : ℕ) → 1 + k ≡ suc k
one_more k = omega arith

none_more : (k : ℕ) → 0 + k ≡ k
none_more k = omega arith

filtered_at : (xs : List SymbolItem) (m : ℕ) (x : SymbolItem) → slice_get xs m ≡ Some x → is_section x ≡ true
    → slice_get (filter is_section xs) (count_by is_section (take m xs)) ≡ Some x
filtered_at [] m x found kind = absurd (none-some x found)
filtered_at (y ∷ xs) zero x found kind = let same : y ≡ x = cc in rw (same, kind) refl
filtered_at (y ∷ xs) (suc m) x found kind = by_cases (is_section y) refl (filtered_at xs m x found kind)
  where
    by_cases : (t : Bool) → is_section y ≡ t → slice_get (filter is_section xs) (count_by is_section (take m xs)) ≡ Some x
        → slice_get (filter is_section (y ∷ xs)) (count_by is_section (take (suc m) (y ∷ xs))) ≡ Some x
    by_cases true section rest =
        let counted : count_by is_section (y ∷ take m xs) ≡ suc (count_by is_section (take m xs)) =
        sum_by-cons (λ z. cond (is_section z) 1 0) y (take m xs) ∙ rw section (one_more (count_by is_section (take m xs))) in
        rw (counted, section) rest
    by_cases false other rest =
        let counted : count_by is_section (y ∷ take m xs) ≡ count_by is_section (take m xs) =
        sum_by-cons (λ z. cond (is_section z) 1 0) y (take m xs) ∙ rw other (none_more (count_by is_section (take m xs))) in
        rw (counted, other) rest

counted_here : (xs : List SymbolItem) (m : ℕ) (x : SymbolItem) → slice_get xs m ≡ Some x → is_section x ≡ true
    → count_by is_section (take (suc m) xs) ≡ suc (count_by is_section (take m xs))
counted_here [] m x found kind = absurd (none-some x found)
counted_here (y ∷ xs) zero x found kind =
    let same : y ≡ x = cc in
    sum_by-cons (λ z. cond (is_section z) 1 0) y [] ∙ rw (same, kind) refl
counted_here (y ∷ xs) (suc m) x found kind =
    sum_by-cons (λ z. cond (is_section z) 1 0) y (take (suc m) xs)
    ∙ (ap (λ k. cond (is_section y) 1 0 + k) (counted_here xs m x found kind)
    ∙ (later (cond (is_section y) 1 0) (count_by is_section (take m xs))
    ∙ ap suc (sym (sum_by-cons (λ z. cond (is_section z) 1 0) y (take m xs)))))
  where
    later : (i j : ℕ) → i + suc j ≡ suc (i + j)
    later i j = omega arith

-- the place of section n among the sections
pub rank_is : (symbols : List SymbolItem) (n : ℕ) (x : SymbolItem) → symbol_at symbols n ≡ Some x → is_section x ≡ true
    → section_rank symbols n - 1 ≡ count_by is_section (take (n - 1) symbols)
rank_is symbols n x found kind =
    let at : ItemPlace symbols n x = item_place symbols n x found in
    let rank : section_rank symbols n ≡ count_by is_section (take n symbols) = rw (found, kind) refl in
    let here : count_by is_section (take n symbols) ≡ suc (count_by is_section (take at.place symbols)) =
    ap (λ k. count_by is_section (take k symbols)) at.number ∙ counted_here symbols at.place x at.there kind in
    let before : at.place ≡ n - 1 = omega (arith, at.number) in
    ap (λ k. k - 1) (rank ∙ here) ∙ (less (count_by is_section (take at.place symbols)) ∙ ap (λ k. count_by is_section (take k symbols)) before)
  where
    less : (k : ℕ) → suc k - 1 ≡ k
    less k = omega arith

pub ranked : (symbols : List SymbolItem) (n : ℕ) (x : SymbolItem) → symbol_at symbols n ≡ Some x → is_section x ≡ true
    → slice_get (sections_of symbols) (section_rank symbols n - 1) ≡ Some x
ranked symbols n x found kind =
    let at : ItemPlace symbols n x = item_place symbols n x found in
    let before : at.place ≡ n - 1 = omega (arith, at.number) in
    subst (λ k. slice_get (sections_of symbols) k ≡ Some x) (sym (rank_is symbols n x found kind))
    (filtered_at symbols (n - 1) x (subst (λ k. slice_get symbols k ≡ Some x) before at.there) kind)

-- a later section has a later place
pub count_below : (xs : List SymbolItem) (i j : ℕ) (x : SymbolItem) → slice_get xs i ≡ Some x → is_section x ≡ true → i < j
    → count_by is_section (take i xs) < count_by is_section (take j xs)
count_below [] i j x found kind before = absurd (none-some x found)
count_below (y ∷ xs) i zero x found kind before = absurd (omega (arith, before))
count_below (y ∷ xs) zero (suc j) x found kind before =
    let same : y ≡ x = cc in
    rw (sum_by-cons (λ z. cond (is_section z) 1 0) y (take j xs), same, kind) (omega arith)
count_below (y ∷ xs) (suc i) (suc j) x found kind before =
    let rest : count_by is_section (take i xs) < count_by is_section (take j xs) = count_below xs i j x found kind (omega (arith, before)) in
    rw (sum_by-cons (λ z. cond (is_section z) 1 0) y (take i xs), sum_by-cons (λ z. cond (is_section z) 1 0) y (take j xs)) (omega (arith, rest))

-- ---- homes

pub homes_length : (symbols : List SymbolItem) (p : Placement) → length (homes_by symbols p) ≡ length symbols
homes_length symbols p = length-map-range_with_len (home_by symbols p) 1 (length symbols)

pub home_found : (symbols : List SymbolItem) (p : Placement) (n : ℕ) (x : SymbolItem) → symbol_at symbols n ≡ Some x
    → home_at (homes_by symbols p) n ≡ home_by symbols p n
home_found symbols p n x found =
    let at : ItemPlace symbols n x = item_place symbols n x found in
    let within : at.place < length symbols = slice_get_within symbols at.place x at.there in
    let there : slice_get (homes_by symbols p) at.place ≡ Some (home_by symbols p n) =
    slice_get-get_or (homes_by symbols p) at.place no_home (subst (λ k. at.place < k) (sym (homes_length symbols p)) within)
    ∙ ap (λ h. Some h) (get_or-map-range_with_len (home_by symbols p) 1 (length symbols) at.place n no_home within (omega (arith, at.number))) in
    let some : (n == 0) ≡ false = grind (arith, at.number) in
    let before : n - 1 ≡ at.place = omega (arith, at.number) in
    rw (some, before, there) refl

-- ---- one home after the other

rank_of_other : (symbols : List SymbolItem) (n : ℕ) (x : SymbolItem) → symbol_at symbols n ≡ Some x → is_section x ≡ false → section_rank symbols n ≡ 0
rank_of_other symbols n x found other = rw (found, other) refl

home_is : (symbols : List SymbolItem) (p : Placement) (i : ℕ) (x : SymbolItem) → slice_get symbols i ≡ Some x
    → home_by symbols p (i + 1) ≡ home_of p x (count_by is_section (take i symbols))
home_is symbols (Block at size) i x there = refl
home_is symbols (Scattered addresses) i x there = by_cases (is_section x) refl
  where
    found : symbol_at symbols (i + 1) ≡ Some x
    found =
        let some : (i + 1 == 0) ≡ false = grind arith in
        let less : i + 1 - 1 ≡ i = omega arith in
        rw (some, less) there

    by_cases : (t : Bool) → is_section x ≡ t
        → home_by symbols (Scattered addresses) (i + 1) ≡ home_of (Scattered addresses) x (count_by is_section (take i symbols))
    by_cases true kind =
        let less : i + 1 - 1 ≡ i = omega arith in
        let rank : section_rank symbols (i + 1) - 1 ≡ count_by is_section (take i symbols) =
        rank_is symbols (i + 1) x found kind ∙ ap (λ k. count_by is_section (take k symbols)) less in
        rw (rank, address_of_item symbols (i + 1) x found, kind) refl
    by_cases false other =
        rw (rank_of_other symbols (i + 1) x found other, address_of_item symbols (i + 1) x found, other) refl

pub home_more : (symbols : List SymbolItem) (p : Placement) (homes : List Home) (sections i : ℕ) (d : SymbolItem) → i < length symbols
    → homes ≡ map (home_by symbols p) (range_with_len 1 i) → sections ≡ count_by is_section (take i symbols)
    → homes ++ home_of p (get_or symbols i d) sections ∷ [] ≡ map (home_by symbols p) (range_with_len 1 (i + 1))
home_more symbols p homes sections i d within made counted =
    let there : slice_get symbols i ≡ Some (get_or symbols i d) = slice_get-get_or symbols i d within in
    rw (made, counted, sym (home_is symbols p i (get_or symbols i d) there))
    (sym (map-range_with_len_more (home_by symbols p) 1 i (i + 1) (omega arith)))

-- ---- parts that have the sizes of the placement

sized_part : (content : List (List ℕ)) (sizes : List ℕ) (i k n : ℕ) → map length content ≡ sizes → slice_get sizes i ≡ Some n → k ≤ n
    → (i < length content) × (k ≤ length (section_of content i))
sized_part [] sizes i k n same found fits = absurd (none-some n (subst (λ s. slice_get s i ≡ Some n) (sym same) found))
sized_part (bytes ∷ content) [] i k n same found fits = absurd (none-some n found)
sized_part (bytes ∷ content) (m ∷ sizes) zero k n same found fits =
    let first : length bytes ≡ m = cc in
    let is : m ≡ n = cc in
    (omega arith, omega (arith, first, is, fits))
sized_part (bytes ∷ content) (m ∷ sizes) (suc i) k n same found fits =
    let rest : map length content ≡ sizes = cc in
    let there : (i < length content) × (k ≤ length (section_of content i)) = sized_part content sizes i k n rest found fits in
    (omega (arith, there.0), there.1)

-- what lies in a section lies in its part
pub lies : (symbols : List SymbolItem) (p : Placement) (kept : Kept) (n a k : ℕ) → Sized symbols p kept → Suits symbols p → InSection symbols n a k
    → LieInPart kept n a k
lies symbols p kept n a k sized suits inside =
    let home : home_at kept.homes n ≡ home_by symbols p n = ap (λ hs. home_at hs n) sized.homes ∙ home_found symbols p n inside.section inside.found in
    by_placement p suits home (sized.sizes)
  where
    address : address_in_module symbols n ≡ inside.section.address
    address = address_of_item symbols n inside.section inside.found

    by_placement : (p : Placement) → Suits symbols p → home_at kept.homes n ≡ home_by symbols p n → map length kept.content ≡ sizes_by symbols p
        → LieInPart kept n a k
    by_placement (Block at size) suits home sizes =
        let end : end_of inside.section ≤ size = suits n inside.section inside.found inside.kind in
        let there : (0 < length kept.content) × (a + k ≤ length (section_of kept.content 0)) =
        sized_part kept.content (size ∷ []) 0 (a + k) size sizes refl (omega (arith, end, inside.to)) in
        let plain : a - 0 + k ≡ a + k = omega arith in
        record {
          from = rw home (omega arith);
          inside = rw home (record { there = there.0; inside = rw plain there.1 });
        }
    by_placement (Scattered addresses) suits home sizes =
        let at : slice_get (map (λ x. x.length) (sections_of symbols)) (section_rank symbols n - 1) ≡ Some inside.section.length =
        slice_get-map (λ x. x.length) (sections_of symbols) (section_rank symbols n - 1) ∙ ap (option_map (λ x. x.length)) (ranked symbols n inside.section inside.found inside.kind) in
        let place : a - address_in_module symbols n + k ≤ inside.section.length = omega (arith, address, inside.from, inside.to) in
        let there : (section_rank symbols n - 1 < length kept.content) × (a - address_in_module symbols n + k ≤ length (section_of kept.content (section_rank symbols n - 1))) =
        sized_part kept.content (map (λ x. x.length) (sections_of symbols)) (section_rank symbols n - 1) (a - address_in_module symbols n + k) inside.section.length sizes at place in
        record {
          from = rw home (omega (arith, address, inside.from));
          inside = rw home (record { there = there.0; inside = there.1 });
        }

-- ---- extents

extent_at : (addresses : List ℕ) (sections : List SymbolItem) (i : ℕ) (x : SymbolItem) → length addresses ≡ length sections → slice_get sections i ≡ Some x
    → slice_get (extents_at addresses sections) i ≡ Some (record { at = slice_index addresses i; count = x.length })
extent_at [] [] i x each found = absurd (none-some x found)
extent_at [] (y ∷ sections) i x each found = absurd (omega (arith, each))
extent_at (a ∷ addresses) [] i x each found = absurd (none-some x found)
extent_at (a ∷ addresses) (y ∷ sections) zero x each found = let same : y ≡ x = cc in rw same refl
extent_at (a ∷ addresses) (y ∷ sections) (suc i) x each found = extent_at addresses sections i x (omega (arith, each)) found

-- the extent in which a section stands, and the place in it of what lies in the section
pub record Stands (symbols : List SymbolItem) (p : Placement) (n a k : ℕ) : Type 0 where
  pub extent : Extent
  pub there : slice_get (extents_by symbols p) (home_by symbols p n).part ≡ Some extent
  pub fits : a - (home_by symbols p n).base + k ≤ extent.count
  pub address : extent.at + (a - (home_by symbols p n).base) ≡ moved symbols (addresses_by symbols p) n a

pub stands : (symbols : List SymbolItem) (p : Placement) (n a k : ℕ) → Fits p symbols → Suits symbols p → InSection symbols n a k
    → Stands symbols p n a k
stands symbols (Block at size) n a k fits suits inside =
    let end : end_of inside.section ≤ size = suits n inside.section inside.found inside.kind in
    let address : address_in_module symbols n ≡ inside.section.address = address_of_item symbols n inside.section inside.found in
    record {
      extent = record { at = at; count = size };
      there = refl;
      fits = omega (arith, end, inside.to);
      address = omega (arith, address, inside.from);
    }
stands symbols (Scattered addresses) n a k fits suits inside =
    let address : address_in_module symbols n ≡ inside.section.address = address_of_item symbols n inside.section inside.found in
    record {
      extent = record { at = slice_index addresses (section_rank symbols n - 1); count = inside.section.length };
      there = extent_at addresses (sections_of symbols) (section_rank symbols n - 1) inside.section fits.each (ranked symbols n inside.section inside.found inside.kind);
      fits = omega (arith, address, inside.from, inside.to);
      address = refl;
    }

-- ---- numbered items

pub numbered_more : (items : List SymbolItem) (i : ℕ) (d : SymbolItem) → i < length items
    → enumerate_from 1 (take (i + 1) items) ≡ enumerate_from 1 (take i items) ++ (i + 1, get_or items i d) ∷ []
numbered_more items i d within =
    ap (enumerate_from 1) (take_more items i d within)
    ∙ (from_more 1 (take i items) (get_or items i d)
    ∙ ap (λ n. enumerate_from 1 (take i items) ++ (n, get_or items i d) ∷ []) (counted (taken_length items i within)))
  where
    taken_length : (items : List SymbolItem) (i : ℕ) → i < length items → length (take i items) ≡ i
    taken_length items i within = grind (arith, common_steps)

    counted : {n : ℕ} → n ≡ i → 1 + n ≡ i + 1
    counted same = omega (arith, same)

    from_more : (k : ℕ) (xs : List SymbolItem) (x : SymbolItem) → enumerate_from k (xs ++ x ∷ []) ≡ enumerate_from k xs ++ (k + length xs, x) ∷ []
    from_more k [] x = ap (λ n. (n, x) ∷ []) (none k)
      where
        none : (k : ℕ) → k ≡ k + 0
        none k = omega arith
    from_more k (y ∷ xs) x =
        ap (λ rest. (k, y) ∷ rest) (from_more (k + 1) xs x ∙ ap (λ n. enumerate_from (k + 1) xs ++ (n, x) ∷ []) (later k (length xs)))
      where
        later : (k n : ℕ) → k + 1 + n ≡ k + suc n
        later k n = omega arith

-- ---- addresses

address_by : (symbols : List SymbolItem) (p : Placement) (n a : ℕ) (x : SymbolItem) → symbol_at symbols n ≡ Some x → x.address ≤ a
    → slice_index (origins_by p) (home_by symbols p n).part + (a - (home_by symbols p n).base) ≡ moved symbols (addresses_by symbols p) n a
address_by symbols (Block at size) n a x found from =
    let address : address_in_module symbols n ≡ x.address = address_of_item symbols n x found in
    omega (arith, address, from)
address_by symbols (Scattered addresses) n a x found from = refl

-- what stands in a section has moved with it
pub address_is : (symbols : List SymbolItem) (p : Placement) (kept : Kept) (n a : ℕ) (x : SymbolItem) → Sized symbols p kept → symbol_at symbols n ≡ Some x → x.address ≤ a
    → address_in kept n a ≡ moved symbols (addresses_by symbols p) n a
address_is symbols p kept n a x sized found from =
    ap (λ hs. slice_index kept.origins (home_at hs n).part + (a - (home_at hs n).base)) sized.homes
    ∙ (ap (λ os. slice_index os (home_at (homes_by symbols p) n).part + (a - (home_at (homes_by symbols p) n).base)) sized.origins
    ∙ (ap (λ h. slice_index (origins_by p) h.part + (a - h.base)) (home_found symbols p n x found) ∙ address_by symbols p n a x found from))
