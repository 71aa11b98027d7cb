-- Sections without a fault end within the module, and those of one segment stand in their order.
use Rattle.std.proofs.Common.{arith, ◌≡◌, ℕ, zero, suc, ◌<◌, ◌≤◌, Bool, true, false, not, ◌&&◌, ◌||◌, ◌==◌, nat_lt, if◌then◌else◌, List, [], ◌∷◌, ◌++◌, fold, refl, sym, ◌∙◌, subst, Some, None, slice_get}
use Rattle.std.proofs.lemmas.Option.{none-some}
use Rattle.le_bytes.specs.declared.record_what.RecWhat.TheVariants.{SectionOutside}
use Rattle.pds_directory.specs.declared.entry.Entry.{Entry}
use Rattle.load_recs.specs.declared.items.SymbolItem.{SymbolItem}
use Rattle.load_recs.specs.declared.items.SymbolKind.{SymbolKind}
use Rattle.load_recs.specs.declared.items.SymbolKind.TheVariants.{Sd, Er, Lr, Pc, Cm, Pr, Null, Wx}
use Rattle.load_recs.specs.Kinds.{is_section_kind}
use Rattle.member_model.specs.Symbols.{is_overlay_member, is_section, end_of}
use Rattle.member_model.specs.Faults.{last_end, is_section_outside, symbol_fault, symbols_fault}
use Rattle.fetch_places.specs.declared.placement.Placement.{Placement}
use Rattle.fetch_places.specs.declared.placement.Placement.TheVariants.{Block, Scattered}
use Rattle.fetch_storage.specs.Sound.{Suits, SectionsApart}
use Rattle.fetch_storage.proofs.Standing.{ItemPlace, item_place}
use Rattle.prog_fetch.proofs.Sound.{left_none, right_none, not_bad}

-- ---- one symbol

not_outside : (e : Entry) (before : List SymbolItem) (x : SymbolItem) (kind : SymbolKind) → is_section_kind kind ≡ true → symbol_fault e before x kind ≡ None
    → is_section_outside e before x ≡ false
not_outside e before x Sd section none = not_bad _ SectionOutside none
not_outside e before x Pc section none = not_bad _ SectionOutside none
not_outside e before x Cm section none = not_bad _ SectionOutside none
not_outside e before x Er section none = absurd cc
not_outside e before x Lr section none = absurd cc
not_outside e before x Pr section none = absurd cc
not_outside e before x Null section none = absurd cc
not_outside e before x Wx section none = absurd cc

parts_of_outside : (a b c d : Bool) → (a || b || c || d) ≡ false → (a ≡ false) × (d ≡ false)
parts_of_outside false false false false h = (refl, refl)
parts_of_outside true b c d h = absurd cc
parts_of_outside false true c d h = absurd cc
parts_of_outside false false true d h = absurd cc
parts_of_outside false false false true h = absurd cc

ends_within : (e : Entry) (before : List SymbolItem) (x : SymbolItem) → is_section x ≡ true → symbol_fault e before x x.kind ≡ None → end_of x ≤ e.length
ends_within e before x section none =
    let parts = parts_of_outside (nat_lt e.length (end_of x)) (x.segment == 0) (not (is_overlay_member e) && not (x.segment == 1)) (nat_lt x.address (last_end before x.segment))
    (not_outside e before x x.kind section none) in
    low e.length (end_of x) parts.0
  where
    low : (m n : ℕ) → nat_lt m n ≡ false → n ≤ m
    low m n h = grind (arith, h)

begins_behind : (e : Entry) (before : List SymbolItem) (x : SymbolItem) → is_section x ≡ true → symbol_fault e before x x.kind ≡ None
    → last_end before x.segment ≤ x.address
begins_behind e before x section none =
    let parts = parts_of_outside (nat_lt e.length (end_of x)) (x.segment == 0) (not (is_overlay_member e) && not (x.segment == 1)) (nat_lt x.address (last_end before x.segment))
    (not_outside e before x x.kind section none) in
    low x.address (last_end before x.segment) parts.1
  where
    low : (m n : ℕ) → nat_lt m n ≡ false → n ≤ m
    low m n h = grind (arith, h)

-- ---- the last end

-- one more section ends its segment
abbrev pub end_after : ℕ → ℕ → SymbolItem → ℕ
end_after s end x = if is_section x && x.segment == s then end_of x else end

fold_more : (s end : ℕ) (before : List SymbolItem) (x : SymbolItem) → fold (end_after s) end (before ++ x ∷ []) ≡ end_after s (fold (end_after s) end before) x
fold_more s end [] x = refl
fold_more s end (y ∷ before) x = fold_more s (end_after s end y) before x

last_more : (before : List SymbolItem) (x : SymbolItem) (s : ℕ) → last_end (before ++ x ∷ []) s ≡ end_after s (last_end before s) x
last_more before x s = fold_more s 0 before x

last_here : (before : List SymbolItem) (x : SymbolItem) (s : ℕ) → is_section x ≡ true → x.segment ≡ s → last_end (before ++ x ∷ []) s ≡ end_of x
last_here before x s section in_s =
    let same : (x.segment == s) ≡ true = grind (arith, in_s) in
    last_more before x s ∙ rw (section, same) refl

last_rises : (e : Entry) (before : List SymbolItem) (x : SymbolItem) (s : ℕ) → symbol_fault e before x x.kind ≡ None
    → last_end before s ≤ last_end (before ++ x ∷ []) s
last_rises e before x s none = by_cases (is_section x) refl (x.segment == s) refl
  where
    by_cases : (t : Bool) → is_section x ≡ t → (u : Bool) → (x.segment == s) ≡ u → last_end before s ≤ last_end (before ++ x ∷ []) s
    by_cases true section true same =
        let in_s : x.segment ≡ s = grind (arith, same) in
        let behind : last_end before x.segment ≤ x.address = begins_behind e before x section none in
        let there : last_end before s ≤ x.address = subst (λ k. last_end before k ≤ x.address) in_s behind in
        let end : last_end (before ++ x ∷ []) s ≡ end_of x = last_here before x s section in_s in
        omega (arith, there, end)
    by_cases true section false other =
        let end : last_end (before ++ x ∷ []) s ≡ last_end before s = last_more before x s ∙ rw (section, other) refl in
        omega (arith, end)
    by_cases false none_such u same =
        let end : last_end (before ++ x ∷ []) s ≡ last_end before s = last_more before x s ∙ rw none_such refl in
        omega (arith, end)

-- ---- all of them

first_right : (e : Entry) (before : List SymbolItem) (x : SymbolItem) (xs : List SymbolItem) → symbols_fault e before (x ∷ xs) ≡ None → symbol_fault e before x x.kind ≡ None
first_right e before x xs none = left_none (symbol_fault e before x x.kind) (symbols_fault e (before ++ x ∷ []) xs) none

rest_right : (e : Entry) (before : List SymbolItem) (x : SymbolItem) (xs : List SymbolItem) → symbols_fault e before (x ∷ xs) ≡ None → symbols_fault e (before ++ x ∷ []) xs ≡ None
rest_right e before x xs none = right_none (symbol_fault e before x x.kind) (symbols_fault e (before ++ x ∷ []) xs) none

each_within : (e : Entry) (before xs : List SymbolItem) (i : ℕ) (x : SymbolItem) → symbols_fault e before xs ≡ None → slice_get xs i ≡ Some x → is_section x ≡ true
    → end_of x ≤ e.length
each_within e before [] i x none found section = absurd (none-some x found)
each_within e before (y ∷ xs) zero x none found section =
    let same : y ≡ x = cc in
    ends_within e before x section (subst (λ z. symbol_fault e before z z.kind ≡ None) same (first_right e before y xs none))
each_within e before (y ∷ xs) (suc i) x none found section = each_within e (before ++ y ∷ []) xs i x (rest_right e before y xs none) found section

low_behind : (e : Entry) (before xs : List SymbolItem) (i : ℕ) (y : SymbolItem) → symbols_fault e before xs ≡ None → slice_get xs i ≡ Some y → is_section y ≡ true
    → last_end before y.segment ≤ y.address
low_behind e before [] i y none found section = absurd (none-some y found)
low_behind e before (z ∷ xs) zero y none found section =
    let same : z ≡ y = cc in
    begins_behind e before y section (subst (λ w. symbol_fault e before w w.kind ≡ None) same (first_right e before z xs none))
low_behind e before (z ∷ xs) (suc i) y none found section =
    let rises : last_end before y.segment ≤ last_end (before ++ z ∷ []) y.segment = last_rises e before z y.segment (first_right e before z xs none) in
    let later : last_end (before ++ z ∷ []) y.segment ≤ y.address = low_behind e (before ++ z ∷ []) xs i y (rest_right e before z xs none) found section in
    omega (arith, rises, later)

in_order : (e : Entry) (before xs : List SymbolItem) (i j : ℕ) (x y : SymbolItem) → symbols_fault e before xs ≡ None → i < j
    → slice_get xs i ≡ Some x → slice_get xs j ≡ Some y → is_section x ≡ true → is_section y ≡ true → x.segment ≡ y.segment → end_of x ≤ y.address
in_order e before [] i j x y none less found_x found_y section_x section_y same = absurd (none-some x found_x)
in_order e before (z ∷ xs) i zero x y none less found_x found_y section_x section_y same = absurd (omega (arith, less))
in_order e before (z ∷ xs) zero (suc j) x y none less found_x found_y section_x section_y same =
    let is : z ≡ x = cc in
    let end : last_end (before ++ x ∷ []) y.segment ≡ end_of x = last_here before x y.segment section_x same in
    let rest : symbols_fault e (before ++ x ∷ []) xs ≡ None = subst (λ w. symbols_fault e (before ++ w ∷ []) xs ≡ None) is (rest_right e before z xs none) in
    let behind : last_end (before ++ x ∷ []) y.segment ≤ y.address = low_behind e (before ++ x ∷ []) xs j y rest found_y section_y in
    omega (arith, end, behind)
in_order e before (z ∷ xs) (suc i) (suc j) x y none less found_x found_y section_x section_y same =
    in_order e (before ++ z ∷ []) xs i j x y (rest_right e before z xs none) (omega (arith, less)) found_x found_y section_x section_y same

pub sections_apart : (e : Entry) (symbols : List SymbolItem) → symbols_fault e [] symbols ≡ None → SectionsApart symbols
sections_apart e symbols none = λ n m x y less found_x found_y section_x section_y one_x one_y.
    let at_x : ItemPlace symbols n x = item_place symbols n x found_x in
    let at_y : ItemPlace symbols m y = item_place symbols m y found_y in
    in_order e [] symbols at_x.place at_y.place x y none (omega (arith, less, at_x.number, at_y.number)) at_x.there at_y.there section_x section_y (one_x ∙ sym one_y)

-- a block of the module's length suits
pub sections_suit : (e : Entry) (symbols : List SymbolItem) (p : Placement) → symbols_fault e [] symbols ≡ None → ((at size : ℕ) → p ≡ Block at size → size ≡ e.length)
    → Suits symbols p
sections_suit e symbols (Block at size) none whole = λ n x found section.
    let place : ItemPlace symbols n x = item_place symbols n x found in
    let within : end_of x ≤ e.length = each_within e [] symbols place.place x none place.there section in
    omega (arith, within, whole at size refl)
sections_suit e symbols (Scattered addresses) none whole = tt
