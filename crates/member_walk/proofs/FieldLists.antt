-- Fields by where they begin, with one field more, and which fields share a byte.
use Rattle.std.proofs.Common.{◌≡◌, ℕ, zero, suc, ◌+◌, ◌-◌, ◌*◌, ◌/◌, ◌%◌, ◌<◌, ◌≤◌, refl, sym, ap, subst, ◌∙◌, Bool, true, false, not, ◌&&◌, ◌||◌, ◌==◌, nat_lt, if◌then◌else◌, List, [], ◌∷◌, ◌++◌, map, find, Option, is_some, Some, None, option_map, arith, rules}
use Rattle.std.specs.Option.{option_map_or, option_or}
use Rattle.std.specs.List.{list_any}
use Rattle.std.proofs.lemmas.Bool.{eqb-true}
use Rattle.std.proofs.lemmas.List.Folds.{find-append}
use Rattle.le_bytes.specs.declared.record_what.RecWhat.{RecWhat}
use Rattle.le_bytes.specs.declared.record_what.RecWhat.TheVariants.{BadEsdid, BadFlag, ConstantOutside, ConstantsOverlap}
use Rattle.load_recs.specs.declared.items.RldItem.{RldItem}
use Rattle.load_recs.specs.declared.items.SymbolItem.{SymbolItem}
use Rattle.member_model.specs.Symbols.{field_kind, field_length, is_address_kind, is_marked_outside, is_outside, symbol_at}
use Rattle.member_model.specs.Facts.{Facts}
use Rattle.member_model.specs.Faults.{when, differ, fits, lies_in, text_section, shares_wrongly, field_fault, fields_fault}
use Rattle.member_walk.specs.declared.field_places.Extent.{Extent}
use Rattle.member_walk.specs.declared.field_places.FieldPlace.{FieldPlace}
use Rattle.member_walk.specs.declared.fields.SegmentField.{SegmentField}
use Rattle.member_checks.specs.Segments.{symbols_in}
use Rattle.member_walk.specs.Fields.{items_of, extent_of, begins_at, extent_at, extent_after, clashes, clash_at, overlaps, place_of, AreAlike, AreHeld}

-- ---- one field more

pub extent_more : (items : List RldItem) (x : RldItem) (place : FieldPlace) → extent_at (items ++ x ∷ []) place ≡ option_or (extent_at items place) (extent_after x place)
unfolding extent_at
extent_more items x place =
    ap (option_map extent_of) (find-append (begins_at place) items (x ∷ [])) ∙ by_found (find (begins_at place) items) (begins_at place x)
  where
    by_found : (o : Option RldItem) (t : Bool) → option_map extent_of (option_or o (if t then Some x else None)) ≡ option_or (option_map extent_of o) (if t then Some (extent_of x) else None)
    by_found None true = refl
    by_found None false = refl
    by_found (Some y) t = refl

same_number : (n : ℕ) → (n == n) ≡ true
same_number n = search (rules)

begins_there : (x : RldItem) → begins_at (place_of x) x ≡ true
begins_there x = rw (same_number x.p, same_number x.address) refl

both_true : (s t : Bool) → (s && t) ≡ true → (s ≡ true) × (t ≡ true)
both_true true true h = (refl, refl)
both_true true false h = cc
both_true false t h = cc

-- what a place tells of a field
record TellsOf (items : List RldItem) (place : FieldPlace) (extent : Extent) : Type 0 where
  pub item : RldItem
  pub listed : (test : RldItem → Bool) → test item ≡ true → list_any test items ≡ true
  pub section : item.p ≡ place.section
  pub address : item.address ≡ place.address
  pub same : extent ≡ extent_of item

some_same : (a b : Extent) → Some a ≡ Some b → b ≡ a
some_same a b h = cc

told_by : (items : List RldItem) (place : FieldPlace) (extent : Extent) → extent_at items place ≡ Some extent → TellsOf items place extent
unfolding extent_at
told_by [] place extent found = cc
told_by (y ∷ ys) place extent found = by_first (begins_at place y) refl found (λ h. told_by ys place extent h)
  where
    any_first : (test : RldItem → Bool) → test y ≡ true → list_any test (y ∷ ys) ≡ true
    any_first test h = rw h refl

    any_later : (test : RldItem → Bool) → list_any test ys ≡ true → list_any test (y ∷ ys) ≡ true
    any_later test h = by_test (test y) h
      where
        by_test : (t : Bool) → list_any test ys ≡ true → (t || list_any test ys) ≡ true
        by_test true h = refl
        by_test false h = h

    by_first : (t : Bool) → begins_at place y ≡ t → option_map extent_of (if t then Some y else find (begins_at place) ys) ≡ Some extent
        → (option_map extent_of (find (begins_at place) ys) ≡ Some extent → TellsOf ys place extent) → TellsOf (y ∷ ys) place extent
    by_first true here h rest =
        let both = both_true (y.p == place.section) (y.address == place.address) here in
        record {
          item = y;
          listed = any_first;
          section = eqb-true y.p place.section both.0;
          address = eqb-true y.address place.address both.1;
          same = some_same (extent_of y) extent h;
        }
    by_first false here h rest =
        let told : TellsOf ys place extent = rest h in
        record {
          item = told.item;
          listed = λ test passes. any_later test (told.listed test passes);
          section = told.section;
          address = told.address;
          same = told.same;
        }

-- ---- two fields

short : (x : RldItem) → (1 ≤ field_length x) × (field_length x ≤ 4)
short x = let low : x.flag / 4 % 4 < 4 = omega arith in (omega arith, omega arith)

-- a field that shares wrongly, said by its extent
shares_as : (x y : RldItem) → shares_wrongly x y ≡ ((y.p == x.p) && clashes x y.address (extent_of y))
shares_as x y = regroup (y.p == x.p) (nat_lt x.address (y.address + field_length y)) (nat_lt y.address (x.address + field_length x)) (not (x.address == y.address && field_length x == field_length y && field_kind x == 0 && field_kind y == 0))
  where
    regroup : (a b c d : Bool) → (a && b && c && d) ≡ (a && (b && c && d))
    regroup true b c d = refl
    regroup false b c d = refl

below : (m n : ℕ) → m < n → nat_lt m n ≡ true
below m n h = search (rules)

not_below : (m n : ℕ) → n ≤ m → nat_lt m n ≡ false
not_below m n h = search (rules)

-- two fields of one place that may share it have one extent
one_extent : (x : RldItem) (other : Extent) → 1 ≤ other.length → clashes x x.address other ≡ false → other ≡ extent_of x
one_extent x other some apart =
    let long = short x in
    let first : nat_lt x.address (x.address + other.length) ≡ true = below x.address (x.address + other.length) (omega arith) in
    let second : nat_lt x.address (x.address + field_length x) ≡ true = below x.address (x.address + field_length x) (more x.address (field_length x) long.0) in
    by_tests (field_length x == other.length) (field_kind x == 0) other.is_a_type refl refl refl
    (rw (first, second, same_number x.address) at apart)
  where
    more : (m n : ℕ) → 1 ≤ n → m < m + n
    more m n h = omega arith

    by_tests : (s t u : Bool) → (field_length x == other.length) ≡ s → (field_kind x == 0) ≡ t → other.is_a_type ≡ u → not (s && t && u) ≡ false → other ≡ extent_of x
    by_tests true true true length_is kind_is other_is h =
        let same : field_length x ≡ other.length = eqb-true (field_length x) other.length length_is in
        made other (sym same) (other_is ∙ sym kind_is)
      where
        made : (other : Extent) → other.length ≡ field_length x → other.is_a_type ≡ (field_kind x == 0) → other ≡ extent_of x
        made other l a = rw (sym l, sym a) refl
    by_tests true true false length_is kind_is other_is h = cc
    by_tests true false u length_is kind_is other_is h = cc
    by_tests false t u length_is kind_is other_is h = cc

-- ---- what is kept beside fields

pub nothing_held : (extents : FieldPlace → Option Extent) → ((place : FieldPlace) → extents place ≡ None) → AreHeld [] extents
unfolding extent_at
nothing_held extents none = record { held = none; alike = tt }

-- what a place tells stays as it is
still_told : (items : List RldItem) (x : RldItem) (xs : List RldItem) → AreAlike items xs → AreAlike (items ++ x ∷ []) xs
still_told items x [] alike = tt
still_told items x (y ∷ ys) alike =
    (extent_more items x (place_of y) ∙ ap (λ o. option_or o (extent_after x (place_of y))) alike.0, still_told items x ys alike.1)

alike_more : (items xs : List RldItem) (x : RldItem) → AreAlike items xs → extent_at items (place_of x) ≡ Some (extent_of x) → AreAlike items (xs ++ x ∷ [])
alike_more items [] x alike here = (here, tt)
alike_more items (y ∷ ys) x alike here = (alike.0, alike_more items ys x alike.1 here)

-- the field that comes has the extent of those at its place
last_told : (items : List RldItem) (x : RldItem) → overlaps items x ≡ false → extent_at (items ++ x ∷ []) (place_of x) ≡ Some (extent_of x)
unfolding overlaps
last_told items x apart = extent_more items x (place_of x) ∙ by_place (extent_at items (place_of x)) refl
  where
    by_place : (o : Option Extent) → extent_at items (place_of x) ≡ o → option_or o (extent_after x (place_of x)) ≡ Some (extent_of x)
    by_place None found = rw (begins_there x) refl
    by_place (Some other) found =
        let told : TellsOf items (place_of x) other = told_by items (place_of x) other found in
        ap Some (same_extent other told)
      where
        false_true : (t : Bool) → (t ≡ true → list_any (shares_wrongly x) items ≡ true) → list_any (shares_wrongly x) items ≡ false → t ≡ false
        false_true true h none = let e : true ≡ false = sym (h refl) ∙ none in cc
        false_true false h none = refl

        same_extent : (other : Extent) → TellsOf items (place_of x) other → other ≡ extent_of x
        same_extent other told =
            let long = short told.item in
            let here : (told.item.p == x.p) ≡ true = rw told.section (same_number x.p) in
            let shares : shares_wrongly x told.item ≡ clashes x x.address other =
            shares_as x told.item ∙ (ap (λ t. t && clashes x told.item.address (extent_of told.item)) here
            ∙ (ap (λ a. clashes x a (extent_of told.item)) told.address ∙ ap (clashes x x.address) (sym told.same))) in
            one_extent x other (subst (λ o. 1 ≤ o.length) (sym told.same) long.0)
            (false_true (clashes x x.address other) (λ clash. told.listed (shares_wrongly x) (shares ∙ clash)) apart)

pub held_more : (items : List RldItem) (x : RldItem) (extents later : FieldPlace → Option Extent) → AreHeld items extents → overlaps items x ≡ false
    → ((place : FieldPlace) → later place ≡ option_or (extents place) (extent_after x place)) → AreHeld (items ++ x ∷ []) later
held_more items x extents later held apart rise = record {
  held = λ place. rise place ∙ (ap (λ o. option_or o (extent_after x place)) (held.held place) ∙ sym (extent_more items x place));
  alike = alike_more (items ++ x ∷ []) items x (still_told items x items held.alike) (last_told items x apart);
}

pub items_more : (fields : List SegmentField) (field : SegmentField) → items_of (fields ++ field ∷ []) ≡ items_of fields ++ field.item ∷ []
items_more [] field = refl
items_more (f ∷ fs) field = ap (λ xs. f.item ∷ xs) (items_more fs field)

-- ---- places

pub place_known : (x : RldItem) (place : FieldPlace) → begins_at place x ≡ true → place_of x ≡ place
place_known x place here =
    let both = both_true (x.p == place.section) (x.address == place.address) here in
    made place (eqb-true x.p place.section both.0) (eqb-true x.address place.address both.1)
  where
    made : (place : FieldPlace) → x.p ≡ place.section → x.address ≡ place.address → place_of x ≡ place
    made place s a = rw (s, a) refl

-- ---- which fields share a byte

-- a field that the look-up finds is one of the fields
overlap_found : (items : List RldItem) (x : RldItem) (address : ℕ) → clash_at (extent_at items) x address ≡ true → overlaps items x ≡ true
unfolding overlaps
overlap_found items x address clash = by_place (extent_at items (record { section = x.p; address = address })) refl clash
  where
    by_place : (o : Option Extent) → extent_at items (record { section = x.p; address = address }) ≡ o → option_map_or (clashes x address) o false ≡ true → list_any (shares_wrongly x) items ≡ true
    by_place None found h = cc
    by_place (Some other) found h =
        let told : TellsOf items (record { section = x.p; address = address }) other = told_by items (record { section = x.p; address = address }) other found in
        let here : (told.item.p == x.p) ≡ true = rw told.section (same_number x.p) in
        told.listed (shares_wrongly x)
        (shares_as x told.item ∙ (ap (λ t. t && clashes x told.item.address (extent_of told.item)) here
        ∙ (ap (λ a. clashes x a (extent_of told.item)) told.address ∙ (ap (clashes x address) (sym told.same) ∙ h))))

is_below : (m n : ℕ) → nat_lt m n ≡ true → m < n
is_below m n h = search (rules)

is_not_below : (m n : ℕ) → nat_lt m n ≡ false → n ≤ m
is_not_below m n h = search (rules)

-- one of another section, or that begins too far off, shares nothing
apart_sections : (x y : RldItem) → (y.p == x.p) ≡ false → shares_wrongly x y ≡ false
apart_sections x y other = shares_as x y ∙ rw other refl

far_before : (x y : RldItem) → y.address + 3 < x.address → shares_wrongly x y ≡ false
far_before x y far =
    let long = short y in
    let none : nat_lt x.address (y.address + field_length y) ≡ false = not_below x.address (y.address + field_length y) (reach y.address (field_length y) x.address long.1 far) in
    shares_as x y ∙ rw none (and-false (y.p == x.p))
  where
    reach : (m n k : ℕ) → n ≤ 4 → m + 3 < k → m + n ≤ k
    reach m n k h i = omega arith

    and-false : (t : Bool) → (t && false) ≡ false
    and-false true = refl
    and-false false = refl

far_behind : (x y : RldItem) → x.address + field_length x ≤ y.address → shares_wrongly x y ≡ false
far_behind x y far =
    let none : nat_lt y.address (x.address + field_length x) ≡ false = not_below y.address (x.address + field_length x) far in
    shares_as x y ∙ rw none (neither (y.p == x.p) (nat_lt x.address (y.address + field_length y)) (not (x.address == y.address && field_length x == field_length y && field_kind x == 0 && field_kind y == 0)))
  where
    neither : (s t u : Bool) → (s && (t && false && u)) ≡ false
    neither true true u = refl
    neither true false u = refl
    neither false t u = refl

-- what the look-up says of a field of the item's section
near : (items : List RldItem) (x y : RldItem) → extent_at items (place_of y) ≡ Some (extent_of y) → y.p ≡ x.p → clash_at (extent_at items) x y.address ≡ clashes x y.address (extent_of y)
near items x y told same =
    ap (λ p. option_map_or (clashes x y.address) (extent_at items (record { section = p; address = y.address })) false) (sym same)
    ∙ ap (λ o. option_map_or (clashes x y.address) o false) told

-- no look-up that the item needs finds a field that shares wrongly
abbrev NoneClashes : (FieldPlace → Option Extent) → RldItem → Type 0
NoneClashes extents x = (address : ℕ) → x.address ≤ address + 3 → address < x.address + field_length x → clash_at extents x address ≡ false

none_shares : (items : List RldItem) (x : RldItem) (xs : List RldItem) → AreAlike items xs → NoneClashes (extent_at items) x → list_any (shares_wrongly x) xs ≡ false
none_shares items x [] alike none = refl
none_shares items x (y ∷ ys) alike none = rw (one y alike.0) (none_shares items x ys alike.1 none)
  where
    by_section : (y : RldItem) → extent_at items (place_of y) ≡ Some (extent_of y) → x.address ≤ y.address + 3 → y.address < x.address + field_length x → (t : Bool) → (y.p == x.p) ≡ t → shares_wrongly x y ≡ false
    by_section y told low high true same =
        shares_as x y ∙ (ap (λ t. t && clashes x y.address (extent_of y)) same
        ∙ (sym (near items x y told (eqb-true y.p x.p same)) ∙ none y.address low high))
    by_section y told low high false other = apart_sections x y other

    by_end : (y : RldItem) → extent_at items (place_of y) ≡ Some (extent_of y) → x.address ≤ y.address + 3 → (t : Bool) → nat_lt y.address (x.address + field_length x) ≡ t → shares_wrongly x y ≡ false
    by_end y told low true high = by_section y told low (is_below y.address (x.address + field_length x) high) (y.p == x.p) refl
    by_end y told low false high = far_behind x y (is_not_below y.address (x.address + field_length x) high)

    by_start : (y : RldItem) → extent_at items (place_of y) ≡ Some (extent_of y) → (t : Bool) → nat_lt (y.address + 3) x.address ≡ t → shares_wrongly x y ≡ false
    by_start y told true far = far_before x y (is_below (y.address + 3) x.address far)
    by_start y told false far = by_end y told (is_not_below (y.address + 3) x.address far) (nat_lt y.address (x.address + field_length x)) refl

    one : (y : RldItem) → extent_at items (place_of y) ≡ Some (extent_of y) → shares_wrongly x y ≡ false
    one y told = by_start y told (nat_lt (y.address + 3) x.address) refl

-- what the look-ups find is what the fields say
pub overlap_as : (items : List RldItem) (x : RldItem) (extents : FieldPlace → Option Extent) (found : Bool) → AreHeld items extents
    → (found ≡ true → (address : ℕ) × (clash_at extents x address ≡ true)) → (found ≡ false → NoneClashes extents x) → found ≡ overlaps items x
unfolding overlaps
overlap_as items x extents true held some none =
    let clash = some refl in
    sym (overlap_found items x clash.0 (ap (λ o. option_map_or (clashes x clash.0) o false) (sym (held.held (record { section = x.p; address = clash.0 }))) ∙ clash.1))
overlap_as items x extents false held some none =
    sym (none_shares items x items held.alike (λ address low high. ap (λ o. option_map_or (clashes x address) o false) (sym (held.held (record { section = x.p; address = address }))) ∙ none refl address low high))

-- an item without a fault shares no byte wrongly
pub no_overlap : (F : Facts) (before : List RldItem) (x : RldItem) → field_fault F before x ≡ None → overlaps before x ≡ false
unfolding overlaps
no_overlap F before x good =
    last_none (when (not (is_some (text_section F x.p)) || not (fits x (symbol_at F.symbols x.r))) BadEsdid)
    (when (is_address_kind x && differ (is_marked_outside x) (is_outside (symbol_at F.symbols x.r))) BadFlag)
    (when (not (lies_in (text_section F x.p) x.address (field_length x))) ConstantOutside)
    (list_any (shares_wrongly x) before) good
  where
    last_none : (a b c : Option RecWhat) (t : Bool) → option_or a (option_or b (option_or c (option_or (when t ConstantsOverlap) None))) ≡ None → t ≡ false
    last_none None None None true h = cc
    last_none None None None false h = refl
    last_none (Some w) b c t h = cc
    last_none None (Some w) c t h = cc
    last_none None None (Some w) t h = cc

-- ---- the facts that fields are judged by

pub fields_as : (F : Facts) (before items : List RldItem) → fields_fault (symbols_in F.symbols F.segment) before items ≡ fields_fault F before items
fields_as F before [] = refl
fields_as F before (x ∷ xs) = ap (option_or (field_fault F before x)) (fields_as F (before ++ x ∷ []) xs)

-- ---- an item alone, and then against the fields before it

pub alone_or_overlapping : (F : Facts) (before : List RldItem) (x : RldItem)
    → field_fault F before x ≡ option_or (field_fault F [] x) (when (overlaps before x) ConstantsOverlap)
unfolding overlaps
alone_or_overlapping F before x =
    apart (when (not (is_some (text_section F x.p)) || not (fits x (symbol_at F.symbols x.r))) BadEsdid)
    (when (is_address_kind x && differ (is_marked_outside x) (is_outside (symbol_at F.symbols x.r))) BadFlag)
    (when (not (lies_in (text_section F x.p) x.address (field_length x))) ConstantOutside)
    (list_any (shares_wrongly x) before)
  where
    apart : (a b c : Option RecWhat) (t : Bool)
        → option_or a (option_or b (option_or c (option_or (when t ConstantsOverlap) None)))
        ≡ option_or (option_or a (option_or b (option_or c (option_or (when false ConstantsOverlap) None)))) (when t ConstantsOverlap)
    apart None None None true = refl
    apart None None None false = refl
    apart (Some w) b c t = refl
    apart None (Some w) c t = refl
    apart None None (Some w) t = refl

-- the item's own fault comes first
pub fault_alone : (symbols seen : List SymbolItem) (segment : ℕ) (before : List RldItem) (x : RldItem) (found : Option RecWhat) (what : RecWhat)
    → seen ≡ symbols → found ≡ field_fault (symbols_in seen segment) [] x → found ≡ Some what
    → Some what ≡ field_fault (symbols_in symbols segment) before x
fault_alone symbols seen segment before x found what same judged is =
    sym (alone_or_overlapping (symbols_in symbols segment) before x
    ∙ ap (λ o. option_or o (when (overlaps before x) ConstantsOverlap))
    (sym (ap (λ s. field_fault (symbols_in s segment) [] x) same) ∙ sym judged ∙ is))

-- an item without one is judged against the fields before it
pub fault_beside : (symbols seen : List SymbolItem) (segment : ℕ) (before : List RldItem) (x : RldItem) (found other : Option RecWhat)
    → seen ≡ symbols → found ≡ field_fault (symbols_in seen segment) [] x → found ≡ None → other ≡ when (overlaps before x) ConstantsOverlap
    → other ≡ field_fault (symbols_in symbols segment) before x
fault_beside symbols seen segment before x found other same judged is beside =
    beside ∙ sym (alone_or_overlapping (symbols_in symbols segment) before x
    ∙ ap (λ o. option_or o (when (overlaps before x) ConstantsOverlap))
    (sym (ap (λ s. field_fault (symbols_in s segment) [] x) same) ∙ sym judged ∙ is))
