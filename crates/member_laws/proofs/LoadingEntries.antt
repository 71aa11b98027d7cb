-- A place of a table of entries: in the address of an entry, which moves with its symbol, and outside of all.
use Rattle.std.proofs.Common.{arith, ◌≡◌, ◌⊎◌, inl, inr, ℕ, zero, suc, ◌+◌, ◌-◌, ◌*◌, ◌%◌, ◌^◌, ◌<◌, ◌≤◌, true, false, not, ◌==◌, if◌then◌else◌, List, [], ◌∷◌, ◌++◌, map, length, sum_by, slice_index, refl, sym, ◌∙◌, ap, subst, mod-lt, zero-add, add-zero, get_or-append-add, Some, slice_get}
use Rattle.std.specs.List.{AllByRecursion as Each, enumerate_from}
use Rattle.std.proofs.lemmas.Bool.{and_from, and_right, cases_lt, cases_order, eq-eqb, ne_eqb}
use Rattle.std.proofs.lemmas.Option.{none-some}
use Rattle.std.proofs.lemmas.List.{get_or_append_left}
use Rattle.std.proofs.lemmas.List.Sums.{sum_by-cons}
use Rattle.byteorder.specs.Endian.{big_bytes}
use Rattle.sym_mod.specs.declared.program.Target.{Target}
use Rattle.load_recs.specs.declared.items.RldItem.{RldItem}
use Rattle.linking_model.specs.Numbers.{is_among}
use Rattle.linking_model.specs.Places.{Laid, place, table_place, entries_of, entry_count}
use Rattle.linking_model.specs.TableBytes.{entab_bytes}
use Rattle.linking_model.specs.Linked.{Placement, block, address_of, signed_difference}
use Rattle.member_model.specs.Symbols.{address_in_module}
use Rattle.member_model.specs.SymbolList.{symbols_written}
use Rattle.member_model.specs.Facts.{Facts}
use Rattle.member_model.specs.Parts.{OneSection, EntryTable, part_number, part_bytes, target_number}
use Rattle.member_model.specs.Chunks.{part_items}
use Rattle.member_model.specs.Loaded.{Addresses, is_shifted, shift}
use Rattle.member_laws.specs.Linkable.{IsLinkable}
use Rattle.member_laws.proofs.LoadingLists.{each_map, sum_none, sum_map, if_none}
use Rattle.member_laws.proofs.LoadingNumbers.{power_some, moved_address, four_bytes}
use Rattle.member_laws.proofs.LoadingSymbols.{address_of_part}
use Rattle.member_laws.proofs.LoadingItems.{IsEven, among_before, among_after}
use Rattle.member_laws.proofs.LoadingFields.{IsItemOf}
use Rattle.member_laws.proofs.LoadingBytes.{Misses, stands_at, shift_here}
use Rattle.member_laws.proofs.LoadingShifted.{IsFieldOr, InField}
use Rattle.member_laws.proofs.LoadingTargets.{Found, within, home, away, IsInSection, section_is_part, is_in_section}
use Rattle.member_laws.proofs.LoadingConstants.{Agree}
use Rattle.member_laws.proofs.LoadingTables.{IsKnown, table_known, each_got, each_numbered, head, tail, rows, table_is, address_byte, other_byte, which_entry, InNone, size_of_table}

-- ---- items

-- the item of entry i
abbrev entry_item : Laid → ℕ → ℕ × Target → RldItem
entry_item P s (i, y) = record { r = target_number P y; p = part_number P (EntryTable s); flag = 12; address = table_place P s + 12 + 12 * i }

entry_items_are : (P : Laid) (s : ℕ) → part_items P (EntryTable s) ≡ map (entry_item P s) (enumerate_from 0 (entries_of P s))
unfolding part_items
entry_items_are P s = refl

each_entry : (Q : RldItem → Type 0) (P : Laid) (s : ℕ)
    → ((i : ℕ) (y : Target) → i < entry_count P s → Q (entry_item P s (i, y))) → Each Q (part_items P (EntryTable s))
each_entry Q P s holds =
    subst (Each Q) (sym (entry_items_are P s))
    (each_map Q (entry_item P s) (enumerate_from 0 (entries_of P s))
    (each_numbered (λ row. Q (entry_item P s row)) 0 (entries_of P s) (λ i y low high. holds i y (omega (arith, high)))))

pub table_even : (P : Laid) (s : ℕ) → Each IsEven (part_items P (EntryTable s))
table_even P s = each_entry IsEven P s (λ i y below. refl)

table_size : (P : Laid) (s : ℕ) → length (part_bytes P (EntryTable s)) ≡ 12 * entry_count P s + 12
table_size P s = size_of_table P (address_of P.program (block P 0)) s

pub table_inside : (P : Laid) (s : ℕ) → Each (IsItemOf P (EntryTable s)) (part_items P (EntryTable s))
table_inside P s =
    each_entry (IsItemOf P (EntryTable s)) P s
    (λ i y below. record {
      part = refl;
      from = from (table_place P s) i;
      to = to (table_place P s) i (entry_count P s) (length (part_bytes P (EntryTable s))) below (table_size P s);
    })
  where
    from : (a i : ℕ) → a ≤ a + 12 + 12 * i
    from a i = omega arith

    to : (a i e n : ℕ) → i < e → n ≡ 12 * e + 12 → a + 12 + 12 * i + 4 ≤ a + n
    to a i e n below size = omega arith

-- ---- in an address

sum_one_row : {X : Type 0} (g : ℕ × X → ℕ) (a k j : ℕ) (xs : List X) (x : X) → slice_get xs k ≡ Some x → j ≡ a + k
    → ((i : ℕ) (y : X) → (i ≡ j → ⊥) → g (i, y) ≡ 0) → sum_by g (enumerate_from a xs) ≡ g (j, x)
sum_one_row g a k j [] x found is others = absurd (none-some x found)
sum_one_row {X = X} g a zero j (y ∷ ys) x found is others =
    sum_by-cons g (a, y) (enumerate_from (a + 1) ys)
    ∙ (ap (λ n. g (a, y) + n) (sum_none g (enumerate_from (a + 1) ys)
    (each_numbered (λ row. g row ≡ 0) (a + 1) ys (λ i z low high. others i z (past a i j is low))))
    ∙ (add-zero (g (a, y)) ∙ (ap (λ z. g (a, z)) (same y x found) ∙ ap (λ i. g (i, x)) (here a j is))))
  where
    past : (a i j : ℕ) → j ≡ a + 0 → a + 1 ≤ i → i ≡ j → ⊥
    past a i j is low same = omega arith

    here : (a j : ℕ) → j ≡ a + 0 → a ≡ j
    here a j is = omega arith

    same : (y x : X) → Some y ≡ Some x → y ≡ x
    same y x found = cc
sum_one_row g a (suc k) j (y ∷ ys) x found is others =
    sum_by-cons g (a, y) (enumerate_from (a + 1) ys)
    ∙ (ap (λ n. n + sum_by g (enumerate_from (a + 1) ys)) (others a y (before a k j is))
    ∙ (zero-add _ ∙ sum_one_row g (a + 1) k j ys x found (further a k j is) others))
  where
    before : (a k j : ℕ) → j ≡ a + suc k → a ≡ j → ⊥
    before a k j is same = omega arith

    further : (a k j : ℕ) → j ≡ a + suc k → j ≡ a + 1 + k
    further a k j is = omega arith

entry_field : (P : Laid) (F : Facts) (q : Addresses) (Q : Placement) (s o r k : ℕ) (y : Target) → IsLinkable P → F.symbols ≡ symbols_written P
    → Agree P q Q → o ≡ 8 + r → k < entry_count P s → 12 * k + 4 ≤ r → r < 12 * k + 8 → slice_get (entries_of P s) k ≡ Some y
    → InField P F q (EntryTable s) o (slice_index (entab_bytes P (address_of P.program Q) s) o)
entry_field P F q Q s o r k y link symbols agree place_is below low high found = record {
  start = 12 + 12 * k;
  size = 4;
  first = zero_address % 256 ^ 4;
  last = now_address % 256 ^ 4;
  from = starts o r k place_is low;
  to = ends o r k place_is high;
  inside = inside k (entry_count P s) (length (part_bytes P (EntryTable s))) below (table_size P s);
  small = mod-lt zero_address (power_some 4);
  bytes = λ j small. stands (block P 0) j small ∙ sym (ap (λ b. slice_index b j) (four_bytes zero_address));
  fields = each_entry (IsFieldOr (table_place P s + (12 + 12 * k)) 4) P s (λ i z inside. apart (table_place P s) i k (cases_order i k));
  moves = ap (λ n. (zero_address % 256 ^ 4 + n) % 256 ^ 4) sum_is ∙ moved_address (256 ^ 4) zero_address (place P h) (Q.section h) now_address (power_some 4) as_far;
  gives =
      ap (λ b. slice_index b (o - (12 + 12 * k))) (four_bytes now_address)
      ∙ (sym (stands Q (o - (12 + 12 * k)) (offset_small o r k place_is low high))
      ∙ ap (slice_index (entab_bytes P (address_of P.program Q) s)) (sym (split o r k place_is low)));
}
  where
    zero_address : ℕ
    zero_address = address_of P.program (block P 0) y

    now_address : ℕ
    now_address = address_of P.program Q y

    h : ℕ
    h = home P.program y

    known : IsKnown P.program y
    known = each_got (IsKnown P.program) (entries_of P s) k y (table_known P s link) found

    is : IsInSection P F.symbols y
    is = subst (λ symbols. IsInSection P symbols y) (sym symbols) (is_in_section P y link known.symbol known.defined)

    starts : (o r k : ℕ) → o ≡ 8 + r → 12 * k + 4 ≤ r → 12 + 12 * k ≤ o
    starts o r k same from = omega arith

    ends : (o r k : ℕ) → o ≡ 8 + r → r < 12 * k + 8 → o < 12 + 12 * k + 4
    ends o r k same to = omega arith

    inside : (k e n : ℕ) → k < e → n ≡ 12 * e + 12 → 12 + 12 * k + 4 ≤ n
    inside k e n few size = omega arith

    offset_small : (o r k : ℕ) → o ≡ 8 + r → 12 * k + 4 ≤ r → r < 12 * k + 8 → o - (12 + 12 * k) < 4
    offset_small o r k same from to = omega arith

    split : (o r k : ℕ) → o ≡ 8 + r → 12 * k + 4 ≤ r → o ≡ 12 + 12 * k + (o - (12 + 12 * k))
    split o r k same from = omega arith

    -- the address of the entry stands in the table
    stands : (R : Placement) (j : ℕ) → j < 4
        → slice_index (entab_bytes P (address_of P.program R) s) (12 + 12 * k + j) ≡ slice_index (big_bytes 4 (address_of P.program R y)) j
    stands R j small =
        ap (λ bytes. slice_index bytes (12 + 12 * k + j)) (table_is P (address_of P.program R) s)
        ∙ (ap (slice_index (head e ++ (rows P.program (address_of P.program R) e s 0 (entries_of P s) ++ tail))) (regroup k j)
        ∙ (get_or-append-add (head e) (rows P.program (address_of P.program R) e s 0 (entries_of P s) ++ tail) (12 * k + 4 + j) 0
        ∙ address_byte P.program (address_of P.program R) e s 0 k j y (entries_of P s) found small))
      where
        e : ℕ
        e = length (entries_of P s)

        regroup : (k j : ℕ) → 12 + 12 * k + j ≡ 8 + (12 * k + 4 + j)
        regroup k j = omega arith

    apart : (t i k : ℕ) → (i ≡ k) ⊎ ((i < k) ⊎ (k < i))
        → ((t + 12 + 12 * i ≡ t + (12 + 12 * k)) × (◌≡◌ {A = ℕ} 4 4)) ⊎ ((t + 12 + 12 * i + 4 ≤ t + (12 + 12 * k)) ⊎ (t + (12 + 12 * k) + 4 ≤ t + 12 + 12 * i))
    apart t i k (inl same) = inl (omega arith, refl)
    apart t i k (inr (inl before)) = inr (inl (omega arith))
    apart t i k (inr (inr after)) = inr (inr (omega arith))

    m : ℕ
    m = 256 ^ 4

    N : ℕ
    N = part_number P (EntryTable s)

    A : ℕ
    A = table_place P s + (12 + 12 * k)

    off : (i : ℕ) (z : Target) → (i ≡ k → ⊥) → shift_here F q m N A (entry_item P s (i, z)) ≡ 0
    off i z differ =
        if_none (is_shifted F.symbols (entry_item P s (i, z))) _
        (λ shifted. ap (λ b. if b then shift F q m (entry_item P s (i, z)) else 0)
        (and_right (N == N) (A == table_place P s + 12 + 12 * i)
        (ne_eqb A (table_place P s + 12 + 12 * i) (λ same. differ (row (table_place P s) i k same)))))
      where
        row : (t i k : ℕ) → t + (12 + 12 * k) ≡ t + 12 + 12 * i → i ≡ k
        row t i k same = omega arith

    on : stands_at N A (entry_item P s (k, y)) ≡ true
    on = and_from (N == N) (A == table_place P s + 12 + 12 * k) (eq-eqb N N refl) (eq-eqb A (table_place P s + 12 + 12 * k) (same (table_place P s) k))
      where
        same : (t k : ℕ) → t + (12 + 12 * k) ≡ t + 12 + 12 * k
        same t k = omega arith

    shifts : is_shifted F.symbols (entry_item P s (k, y)) ≡ true
    shifts = ap not is.item.inside

    place_of_home : address_in_module F.symbols (part_number P (OneSection h)) ≡ place P h
    place_of_home = ap (λ symbols. address_in_module symbols (part_number P (OneSection h))) symbols ∙ address_of_part P (OneSection h) (section_is_part P h link is.inside)

    shift_is : shift F q m (entry_item P s (k, y)) ≡ Q.section h + (m - place P h % m)
    shift_is =
        ap (λ n. signed_difference m false (q n) (address_in_module F.symbols n)) is.item.section
        ∙ (ap (λ n. signed_difference m false n (address_in_module F.symbols (part_number P (OneSection h)))) (agree.section h is.inside)
        ∙ ap (signed_difference m false (Q.section h)) place_of_home)

    sum_is : sum_by (shift_here F q m N A) (part_items P (EntryTable s)) ≡ Q.section h + (m - place P h % m)
    sum_is =
        ap (sum_by (shift_here F q m N A)) (entry_items_are P s)
        ∙ (sum_map (shift_here F q m N A) (entry_item P s) (enumerate_from 0 (entries_of P s))
        ∙ (sum_one_row (λ row. shift_here F q m N A (entry_item P s row)) 0 k k (entries_of P s) y found (sym (zero-add k)) off
        ∙ (ap (λ b. if b then (if stands_at N A (entry_item P s (k, y)) then shift F q m (entry_item P s (k, y)) else 0) else 0) shifts
        ∙ (ap (λ b. if b then shift F q m (entry_item P s (k, y)) else 0) on ∙ shift_is))))

    as_far : zero_address + Q.section h ≡ now_address + place P h
    as_far = moved zero_address now_address (place P h) (Q.section h) (away P.program y) (is.address (block P 0)) (is.address Q)
      where
        moved : (a b z x w : ℕ) → a ≡ 0 + z + w → b ≡ x + w → a + x ≡ b + z
        moved a b z x w first last = omega arith

-- ---- in none

entry_misses : (P : Laid) (s o r : ℕ) → o ≡ 8 + r → InNone (entry_count P s) r → Each (Misses (table_place P s + o)) (part_items P (EntryTable s))
entry_misses P s o r is none = each_entry (Misses (table_place P s + o)) P s (λ i y below. missed i (none i below))
  where
    before : (t o r i : ℕ) → o ≡ 8 + r → r < 12 * i + 4 → t + o < t + 12 + 12 * i
    before t o r i is low = omega arith

    after : (t o r i : ℕ) → o ≡ 8 + r → 12 * i + 8 ≤ r → t + 12 + 12 * i + 4 ≤ t + o
    after t o r i is high = omega arith

    missed : (i : ℕ) → (r < 12 * i + 4) ⊎ (12 * i + 8 ≤ r) → is_among (table_place P s + 12 + 12 * i) 4 (table_place P s + o) ≡ false
    missed i (inl low) = among_before (table_place P s + 12 + 12 * i) 4 (table_place P s + o) (before (table_place P s) o r i is low)
    missed i (inr high) = among_after (table_place P s + 12 + 12 * i) 4 (table_place P s + o) (after (table_place P s) o r i is high)

head_misses : (P : Laid) (s o : ℕ) → o < 8 → Each (Misses (table_place P s + o)) (part_items P (EntryTable s))
head_misses P s o small =
    each_entry (Misses (table_place P s + o)) P s
    (λ i y below. among_before (table_place P s + 12 + 12 * i) 4 (table_place P s + o) (before (table_place P s) o i small))
  where
    before : (t o i : ℕ) → o < 8 → t + o < t + 12 + 12 * i
    before t o i small = omega arith

head_same : (P : Laid) (f g : Target → ℕ) (s o : ℕ) → o < 8 → slice_index (entab_bytes P f s) o ≡ slice_index (entab_bytes P g s) o
head_same P f g s o small =
    ap (λ bytes. slice_index bytes o) (table_is P f s)
    ∙ (get_or_append_left (head (length (entries_of P s))) (rows P.program f (length (entries_of P s)) s 0 (entries_of P s) ++ tail) 0 o small
    ∙ (sym (get_or_append_left (head (length (entries_of P s))) (rows P.program g (length (entries_of P s)) s 0 (entries_of P s) ++ tail) 0 o small)
    ∙ sym (ap (λ bytes. slice_index bytes o) (table_is P g s))))

row_same : (P : Laid) (f g : Target → ℕ) (s o r : ℕ) → o ≡ 8 + r → InNone (entry_count P s) r
    → slice_index (entab_bytes P f s) o ≡ slice_index (entab_bytes P g s) o
row_same P f g s o r is none = at f ∙ (other_byte P.program f g e s 0 r (entries_of P s) none ∙ sym (at g))
  where
    e : ℕ
    e = length (entries_of P s)

    at : (address : Target → ℕ) → slice_index (entab_bytes P address s) o ≡ slice_index (rows P.program address e s 0 (entries_of P s) ++ tail) r
    at address =
        ap (λ bytes. slice_index bytes o) (table_is P address s)
        ∙ (ap (slice_index (head e ++ (rows P.program address e s 0 (entries_of P s) ++ tail))) is
        ∙ get_or-append-add (head e) (rows P.program address e s 0 (entries_of P s) ++ tail) r 0)

-- a place of a table: in a field, or in none and with the same byte anywhere
pub table_place_is : (P : Laid) (F : Facts) (q : Addresses) (Q : Placement) (s o : ℕ) → IsLinkable P → F.symbols ≡ symbols_written P → Agree P q Q
    → InField P F q (EntryTable s) o (slice_index (entab_bytes P (address_of P.program Q) s) o)
    ⊎ (Each (Misses (table_place P s + o)) (part_items P (EntryTable s))
    × (slice_index (part_bytes P (EntryTable s)) o ≡ slice_index (entab_bytes P (address_of P.program Q) s) o))
table_place_is P F q Q s o link symbols agree = by_cases (cases_lt o 8)
  where
    zeros : Target → ℕ
    zeros = address_of P.program (block P 0)

    split : (o : ℕ) → 8 ≤ o → o ≡ 8 + (o - 8)
    split o past = omega arith

    in_rows : 8 ≤ o → ((k : ℕ) × (k < entry_count P s) × (12 * k + 4 ≤ o - 8) × (o - 8 < 12 * k + 8)) ⊎ InNone (entry_count P s) (o - 8)
        → InField P F q (EntryTable s) o (slice_index (entab_bytes P (address_of P.program Q) s) o)
        ⊎ (Each (Misses (table_place P s + o)) (part_items P (EntryTable s))
        × (slice_index (part_bytes P (EntryTable s)) o ≡ slice_index (entab_bytes P (address_of P.program Q) s) o))
    in_rows past (inl it) =
        let row : Found (entries_of P s) it.0 (λ y. Unit {0}) = within (entries_of P s) it.0 it.1 in
        inl (entry_field P F q Q s o (o - 8) it.0 row.item link symbols agree (split o past) it.1 it.2 it.3 row.found)
    in_rows past (inr none) =
        inr (entry_misses P s o (o - 8) (split o past) none, row_same P zeros (address_of P.program Q) s o (o - 8) (split o past) none)

    by_cases : (o < 8) ⊎ (8 ≤ o)
        → InField P F q (EntryTable s) o (slice_index (entab_bytes P (address_of P.program Q) s) o)
        ⊎ (Each (Misses (table_place P s + o)) (part_items P (EntryTable s))
        × (slice_index (part_bytes P (EntryTable s)) o ≡ slice_index (entab_bytes P (address_of P.program Q) s) o))
    by_cases (inl small) = inr (head_misses P s o small, head_same P zeros (address_of P.program Q) s o small)
    by_cases (inr past) = in_rows past (which_entry (entry_count P s) (o - 8))
