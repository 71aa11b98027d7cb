-- The shifts of the items of a segment, and a byte outside all fields: it is that of the text.
use Rattle.std.proofs.Common.{arith, ◌≡◌, ◌≢◌, ◌⊎◌, inl, inr, ℕ, ◌+◌, ◌-◌, ◌<◌, ◌≤◌, Bool, true, false, not, ◌&&◌, ◌==◌, nat_lt, if◌then◌else◌, List, [], ◌∷◌, map, filter, flat_map, find, length, sum_by, slice_index, refl, sym, ◌∙◌, ap, subst, Option}
use Rattle.std.specs.List.{AllByRecursion as Each}
use Rattle.std.proofs.lemmas.Bool.{and_parts, eqb-true, false≢true}
use Rattle.load_recs.specs.declared.items.RldItem.{RldItem}
use Rattle.linking_model.specs.Numbers.{is_among}
use Rattle.linking_model.specs.Linked.{signed_difference}
use Rattle.linking_model.specs.Places.{Laid}
use Rattle.member_model.specs.Symbols.{field_length, field_kind, is_minus, is_outside, symbol_at, section_of, address_in_module}
use Rattle.member_model.specs.Facts.{Facts, Field}
use Rattle.member_model.specs.Parts.{Part, parts_in, part_place, part_bytes, part_number}
use Rattle.member_model.specs.Chunks.{part_items}
use Rattle.member_model.specs.Loaded.{Addresses, text_storage, is_shifted, shifts_of, field_place, covers, shift, loaded_byte, loaded}
use Rattle.member_laws.specs.Gathered.{items_of}
use Rattle.member_laws.specs.Storing.{HoldsSegment}
use Rattle.member_laws.proofs.LoadingLists.{Among, each_weaker, each_both, each_filter, each_flat_map, none_found, sum_same, sum_none, sum_filter, sum_flat_map, sum_beside, if_not, if_none}
use Rattle.member_laws.proofs.LoadingSymbols.{numbers_differ}
use Rattle.member_laws.proofs.LoadingItems.{joined_to_next, IsSteady, HoldsJoined, same_length, same_kind, same_sign, among_true, sum_items, each_item}
use Rattle.member_laws.proofs.LoadingText.{with_part, part_outside, text_by_parts, fold_none}
use Rattle.member_laws.proofs.LoadingFields.{IsItemOf, Stands, are_items, now_at, field_stands, among_parts, has_place, not_elsewhere, IsReady, Beside, beside, others, text_in_part}

-- ---- the items of a segment

map_back : {X Y : Type 0} (f : X → Y) (g : Y → X) (xs : List X) → ((x : X) → g (f x) ≡ x) → map g (map f xs) ≡ xs
map_back f g [] back = refl
map_back f g (x ∷ xs) back = ap (λ y. y ∷ map g (map f xs)) (back x) ∙ ap (λ ys. x ∷ ys) (map_back f g xs back)

abbrev all_items : Laid → ℕ → ℕ → List RldItem
all_items P n s = flat_map (items_of P n) (parts_in P s)

shifts_are : (P : Laid) (n s : ℕ) (F : Facts) → HoldsSegment P n s F → shifts_of F s ≡ filter (is_shifted F.symbols) (all_items P n s)
shifts_are P n s F holds =
    ap (λ fields. filter (is_shifted F.symbols) (map (λ (x : Field). x.item) fields)) holds.fields
    ∙ ap (filter (is_shifted F.symbols))
    (map_back (λ (x : RldItem). record { segment = s; item = x }) (λ (x : Field). x.item) (all_items P n s) (λ x. refl))

-- what holds of the items of each part, joined or not, holds of all that add a shift
pub each_shift : (Q : RldItem → Type 0) → HoldsJoined Q → (P : Laid) (n s : ℕ) (F : Facts) (q : Addresses) → IsReady P n s F q
    → Each (λ x. Each Q (part_items P x)) (parts_in P s) → Each Q (shifts_of F s)
each_shift Q holds P n s F q ready all =
    subst (Each Q) (sym (shifts_are P n s F ready.holds))
    (each_filter Q (is_shifted F.symbols) (all_items P n s)
    (each_weaker Q _ (all_items P n s) (λ z is _. is)
    (each_flat_map Q (items_of P n) (parts_in P s)
    (each_weaker (λ x. Stands P F.symbols x × Each Q (part_items P x)) (λ x. Each Q (items_of P n x)) (parts_in P s)
    (λ x both. each_item Q holds P n x (are_items P F.symbols x both.0) both.1)
    (each_both (Stands P F.symbols) (λ x. Each Q (part_items P x)) (parts_in P s) ready.stands all)))))

-- ---- shifts

-- the item stands in section N at A
abbrev pub stands_at : ℕ → ℕ → RldItem → Bool
stands_at N A z = N == z.p && A == z.address

-- what the item adds to a number there, by its kind and sign
abbrev shift_by : Facts → Addresses → ℕ → ℕ → ℕ → RldItem → ℕ → Bool → ℕ
shift_by F q m N A z kind minus =
    if nat_lt kind 2 && not (is_outside (symbol_at F.symbols z.r))
    then (if stands_at N A z
    then signed_difference m minus (q (section_of F.symbols z.r)) (address_in_module F.symbols (section_of F.symbols z.r)) else 0) else 0

-- what the item adds to a number there
abbrev pub shift_here : Facts → Addresses → ℕ → ℕ → ℕ → RldItem → ℕ
shift_here F q m N A z = if is_shifted F.symbols z then (if stands_at N A z then shift F q m z else 0) else 0

shift_is_steady : (F : Facts) (q : Addresses) (m N A : ℕ) → IsSteady (shift_here F q m N A)
shift_is_steady F q m N A z even =
    ap (λ kind. shift_by F q m N A z kind (is_minus (joined_to_next z))) (same_kind z even)
    ∙ ap (shift_by F q m N A z (field_kind z)) (same_sign z even)

-- the items of another part add nothing
none_elsewhere : (P : Laid) (F : Facts) (q : Addresses) (m A : ℕ) (x y : Part) → Stands P F.symbols x → Stands P F.symbols y → x ≢ y
    → sum_by (shift_here F q m (part_number P x) A) (part_items P y) ≡ 0
none_elsewhere P F q m A x y own other differ =
    sum_none (shift_here F q m (part_number P x) A) (part_items P y)
    (each_weaker (IsItemOf P y) _ (part_items P y) (λ z inside. none z inside) other.inside)
  where
    none : (z : RldItem) → IsItemOf P y z → shift_here F q m (part_number P x) A z ≡ 0
    none z inside = if_none (is_shifted F.symbols z) _ (λ shifted. if_not (stands_at (part_number P x) A z) (shift F q m z) (by_cases (stands_at (part_number P x) A z) refl))
      where
        by_cases : (b : Bool) → stands_at (part_number P x) A z ≡ b → stands_at (part_number P x) A z ≡ false
        by_cases false not_there = not_there
        by_cases true there =
            let both = and_parts (part_number P x == z.p) (A == z.address) there in
            absurd (differ (numbers_differ P x y own.numbered other.numbered (eqb-true (part_number P x) z.p both.0 ∙ inside.part)))

-- all shifts of the segment at a place in a part are those of the items of the part
pub shifts_in_part : (P : Laid) (n s : ℕ) (F : Facts) (q : Addresses) (m A : ℕ) (x : Part) → IsReady P n s F q → Among x (parts_in P s)
    → sum_by (shift F q m) (filter (stands_at (part_number P x) A) (shifts_of F s))
    ≡ sum_by (shift_here F q m (part_number P x) A) (part_items P x)
shifts_in_part P n s F q m A x ready among =
    sum_filter (shift F q m) (stands_at N A) (shifts_of F s)
    ∙ (ap (sum_by (λ z. if stands_at N A z then shift F q m z else 0)) (shifts_are P n s F ready.holds)
    ∙ (sum_filter (λ z. if stands_at N A z then shift F q m z else 0) (is_shifted F.symbols) (all_items P n s)
    ∙ (sum_flat_map (shift_here F q m N A) (items_of P n) (parts_in P s)
    ∙ (sum_same (λ y. sum_by (shift_here F q m N A) (items_of P n y)) (λ y. sum_by (shift_here F q m N A) (part_items P y)) (parts_in P s)
    (each_weaker (Stands P F.symbols) _ (parts_in P s)
    (λ y stands. sum_items (shift_here F q m N A) (shift_is_steady F q m N A) P n y ready.some (are_items P F.symbols y stands)) ready.stands)
    ∙ sum_beside (Beside P F q) (λ y. sum_by (shift_here F q m N A) (part_items P y)) x (parts_in P s) (beside P n s F q ready) among
    (λ y both. none_elsewhere P F q m A x y both.0 both.1 both.2.differ)
    (λ y both. none_elsewhere P F q m A x y both.1 both.0 (λ same. both.2.differ (sym same)))))))
  where
    N : ℕ
    N = part_number P x

-- ---- a byte in no field

-- an item that does not cover the place in its part
abbrev pub Misses : ℕ → RldItem → Type 0
Misses place z = is_among z.address (field_length z) place ≡ false

-- the place in the part, as the item sees it
covers_in_part : (P : Laid) (F : Facts) (q : Addresses) (o : ℕ) (x : Part) (z : RldItem) → Stands P F.symbols x → IsItemOf P x z
    → covers F q (now_at P q x + o) z ≡ true → is_among z.address (field_length z) (part_place P x + o) ≡ true
covers_in_part P F q o x z stands inside there =
    let both = among_parts (field_place F q z) (field_length z) (now_at P q x + o) there in
    let place = within (field_place F q z) (now_at P q x) (part_place P x) z.address (field_length z) o
    (field_stands P F q x z stands inside) inside.from both.0 both.1 in
    among_true z.address (field_length z) (part_place P x + o) place.0 place.1
  where
    within : (b A p f l o : ℕ) → b ≡ A + (f - p) → p ≤ f → b ≤ A + o → A + o < b + l → (f ≤ p + o) × (p + o < f + l)
    within b A p f l o is from low high = (omega arith, omega arith)

-- no item of the segment covers the place, where none of this part does
none_covers : (P : Laid) (n s : ℕ) (F : Facts) (q : Addresses) (x : Part) (o : ℕ) → IsReady P n s F q → Among x (parts_in P s)
    → o < length (part_bytes P x) → Each (Misses (part_place P x + o)) (part_items P x)
    → Each (λ z. covers F q (now_at P q x + o) z ≡ false) (shifts_of F s)
none_covers P n s F q x o ready among inside misses =
    each_shift (λ z. covers F q a z ≡ false) holds P n s F q ready
    (each_weaker (λ y. Stands P F.symbols y × ((y ≡ x) ⊎ (has_place P q a y ≡ false))) _ (parts_in P s)
    (λ y both. one y both.0 both.1)
    (each_both (Stands P F.symbols) (λ y. (y ≡ x) ⊎ (has_place P q a y ≡ false)) (parts_in P s) ready.stands
    (others P n s F q a x ready among here)))
  where
    a : ℕ
    a = now_at P q x + o

    here : has_place P q a x ≡ true
    here = among_true (now_at P q x) (length (part_bytes P x)) a (omega arith) (omega (arith, inside))

    holds : HoldsJoined (λ z. covers F q a z ≡ false)
    holds z even outside = ap (λ l. is_among (field_place F q z) l a) (same_length z even) ∙ outside

    missed : (y : Part) → Stands P F.symbols y → y ≡ x → Each (λ z. covers F q a z ≡ false) (part_items P y)
    missed y stands same =
        each_weaker (λ z. IsItemOf P y z × Misses (part_place P x + o) z) _ (part_items P y)
        (λ z both. not_here z both.0 both.1)
        (each_both (IsItemOf P y) (Misses (part_place P x + o)) (part_items P y) stands.inside
        (subst (λ w. Each (Misses (part_place P x + o)) (part_items P w)) (sym same) misses))
      where
        not_here : (z : RldItem) → IsItemOf P y z → Misses (part_place P x + o) z → covers F q a z ≡ false
        not_here z item miss = by_cases (covers F q a z) refl
          where
            by_cases : (b : Bool) → covers F q a z ≡ b → covers F q a z ≡ false
            by_cases false outside = outside
            by_cases true there =
                absurd (false≢true (sym miss ∙ covers_in_part P F q o x z (subst (Stands P F.symbols) same stands) (subst (λ w. IsItemOf P w z) same item) there))

    one : (y : Part) → Stands P F.symbols y → (y ≡ x) ⊎ (has_place P q a y ≡ false) → Each (λ z. covers F q a z ≡ false) (part_items P y)
    one y stands (inl same) = missed y stands same
    one y stands (inr outside) =
        each_weaker (IsItemOf P y) _ (part_items P y) (λ z item. not_elsewhere P F q a y z stands item outside) stands.inside

abbrev pub found_byte : Facts → Addresses → ℕ → ℕ → Option RldItem → ℕ
found_byte F q s a found = loaded_byte F q (shifts_of F s) (text_storage F q s) a found

pub loaded_is : (F : Facts) (q : Addresses) (s a : ℕ) → loaded F q s a ≡ found_byte F q s a (find (covers F q a) (shifts_of F s))
unfolding loaded
loaded_is F q s a = refl

-- where no item of the part covers the place, it has the byte of the part
pub plain_byte : (P : Laid) (n s : ℕ) (F : Facts) (q : Addresses) (x : Part) (o : ℕ) → IsReady P n s F q → Among x (parts_in P s)
    → o < length (part_bytes P x) → Each (Misses (part_place P x + o)) (part_items P x)
    → loaded F q s (now_at P q x + o) ≡ slice_index (part_bytes P x) o
plain_byte P n s F q x o ready among inside misses =
    loaded_is F q s (now_at P q x + o)
    ∙ (ap (found_byte F q s (now_at P q x + o))
    (none_found (covers F q (now_at P q x + o)) (shifts_of F s) (none_covers P n s F q x o ready among inside misses))
    ∙ text_in_part P n s F q x o ready among inside)

-- ---- a byte in no part

pub no_byte : (P : Laid) (n s : ℕ) (F : Facts) (q : Addresses) (a : ℕ) → IsReady P n s F q
    → Each (λ x. has_place P q a x ≡ false) (parts_in P s) → loaded F q s a ≡ 0
no_byte P n s F q a ready outside =
    loaded_is F q s a
    ∙ (ap (found_byte F q s a)
    (none_found (covers F q a) (shifts_of F s)
    (each_shift (λ z. covers F q a z ≡ false) holds P n s F q ready
    (each_weaker (λ x. Stands P F.symbols x × (has_place P q a x ≡ false)) _ (parts_in P s)
    (λ x both. each_weaker (IsItemOf P x) _ (part_items P x) (λ z item. not_elsewhere P F q a x z both.0 item both.1) both.0.inside) all)))
    ∙ (ap (λ M. M a) (text_by_parts P n s F q ready.holds)
    ∙ fold_none (with_part F.symbols q P n) a (parts_in P s) (λ _. 0)
    (each_weaker (λ x. Stands P F.symbols x × (has_place P q a x ≡ false)) _ (parts_in P s)
    (λ x both N. part_outside F.symbols q P n x a N both.0.place both.1) all)))
  where
    all : Each (λ x. Stands P F.symbols x × (has_place P q a x ≡ false)) (parts_in P s)
    all = each_both (Stands P F.symbols) (λ x. has_place P q a x ≡ false) (parts_in P s) ready.stands outside

    holds : HoldsJoined (λ z. covers F q a z ≡ false)
    holds z even not_there = ap (λ l. is_among (field_place F q z) l a) (same_length z even) ∙ not_there
