-- A byte in the field of a constant: it is that of the number that has moved.
use Rattle.std.proofs.Common.{arith, ◌≡◌, ◌≢◌, ◌⊎◌, inl, inr, ℕ, ◌+◌, ◌-◌, ◌%◌, ◌^◌, ◌<◌, ◌≤◌, Bool, true, false, ◌==◌, if◌then◌else◌, map, filter, find, length, sum_by, slice_index, refl, sym, ◌∙◌, ap, subst, mod-eq_of_lt, add-zero, Option, Some, None}
use Rattle.std.specs.List.{AllByRecursion as Each, range_with_len}
use Rattle.std.proofs.lemmas.Bool.{and_parts, eqb-true, false≢true}
use Rattle.byteorder.specs.Endian.{big_number, big_bytes}
use Rattle.load_recs.specs.declared.items.RldItem.{RldItem}
use Rattle.linking_model.specs.Numbers.{is_among}
use Rattle.linking_model.specs.Places.{Laid}
use Rattle.member_model.specs.Symbols.{field_length, address_in_module}
use Rattle.member_model.specs.Facts.{Facts}
use Rattle.member_model.specs.Parts.{Part, parts_in, part_place, part_bytes, part_number}
use Rattle.member_model.specs.Chunks.{part_items}
use Rattle.member_model.specs.Loaded.{Addresses, text_storage, shifts_of, field_place, covers, shift, loaded}
use Rattle.member_laws.proofs.LoadingLists.{Among, each_weaker, each_both, at_one, found_passes, found_among, not_found, sum_none, sum_filter}
use Rattle.member_laws.proofs.LoadingNumbers.{held_number}
use Rattle.member_laws.proofs.LoadingSymbols.{numbers_differ}
use Rattle.member_laws.proofs.LoadingItems.{joined_to_next, HoldsJoined, same_length, among_true}
use Rattle.member_laws.proofs.LoadingFields.{IsItemOf, Stands, now_at, field_stands, among_parts, has_place, not_elsewhere, IsReady, others, text_in_part}
use Rattle.member_laws.proofs.LoadingBytes.{stands_at, shift_here, shifts_in_part, each_shift, found_byte, loaded_is}

-- the item has these bytes for its field, or none of them
abbrev pub IsFieldOr : ℕ → ℕ → RldItem → Type 0
IsFieldOr at size z =
    ((z.address ≡ at) × (field_length z ≡ size)) ⊎ ((z.address + field_length z ≤ at) ⊎ (at + size ≤ z.address))

-- a place of the part is in a field, whose number moves from one to another, which gives the place its byte
pub record InField (P : Laid) (F : Facts) (q : Addresses) (x : Part) (o byte : ℕ) : Type 0 where
  pub start : ℕ
  pub size : ℕ
  pub first : ℕ
  pub last : ℕ
  pub from : start ≤ o
  pub to : o < start + size
  pub inside : start + size ≤ length (part_bytes P x)
  pub small : first < 256 ^ size
  pub bytes : (j : ℕ) → j < size → slice_index (part_bytes P x) (start + j) ≡ slice_index (big_bytes size first) j
  pub fields : Each (IsFieldOr (part_place P x + start) size) (part_items P x)
  pub moves : (first + sum_by (shift_here F q (256 ^ size) (part_number P x) (part_place P x + start)) (part_items P x)) % 256 ^ size ≡ last
  pub gives : slice_index (big_bytes size last) (o - start) ≡ byte

-- the item covers the place exactly where it has this field
record Agrees (F : Facts) (q : Addresses) (a N A size : ℕ) (z : RldItem) : Type 0 where
  pub found : covers F q a z ≡ true → (z.p ≡ N) × (z.address ≡ A) × (field_length z ≡ size)
  pub there : z.p ≡ N → z.address ≡ A → covers F q a z ≡ true

agrees_joined : (F : Facts) (q : Addresses) (a N A size : ℕ) → HoldsJoined (Agrees F q a N A size)
agrees_joined F q a N A size z even agrees = record {
  found = λ there. found (sym same ∙ there);
  there = λ part address. same ∙ agrees.there part address;
}
  where
    same : covers F q a (joined_to_next z) ≡ covers F q a z
    same = ap (λ l. is_among (field_place F q z) l a) (same_length z even)

    found : covers F q a z ≡ true → (z.p ≡ N) × (z.address ≡ A) × (field_length (joined_to_next z) ≡ size)
    found there = let all = agrees.found there in (all.0, all.1, same_length z even ∙ all.2)

-- an item of the part does
agrees_here : (P : Laid) (F : Facts) (q : Addresses) (x : Part) (o start size : ℕ) (z : RldItem) → Stands P F.symbols x → IsItemOf P x z
    → start ≤ o → o < start + size → IsFieldOr (part_place P x + start) size z
    → Agrees F q (now_at P q x + o) (part_number P x) (part_place P x + start) size z
agrees_here P F q x o start size z stands item from to field = record { found = found field; there = λ part address. there address field }
  where
    a : ℕ
    a = now_at P q x + o

    place : field_place F q z ≡ now_at P q x + (z.address - part_place P x)
    place = field_stands P F q x z stands item

    missed : (b Q p f l o start size : ℕ) → b ≡ Q + (f - p) → p ≤ f → start ≤ o → o < start + size → (b ≤ Q + o) × (Q + o < b + l)
        → (f + l ≤ p + start) ⊎ (p + start + size ≤ f) → ⊥
    missed b Q p f l o start size is low from to covered beside = omega arith

    found : IsFieldOr (part_place P x + start) size z → covers F q a z ≡ true
        → (z.p ≡ part_number P x) × (z.address ≡ part_place P x + start) × (field_length z ≡ size)
    found (inl same) covered = (item.part, same.0, same.1)
    found (inr beside) covered =
        absurd (missed (field_place F q z) (now_at P q x) (part_place P x) z.address (field_length z) o start size place item.from from to
        (among_parts (field_place F q z) (field_length z) a covered) beside)

    within : (b Q p f l o start size : ℕ) → b ≡ Q + (f - p) → f ≡ p + start → l ≡ size → start ≤ o → o < start + size
        → (b ≤ Q + o) × (Q + o < b + l)
    within b Q p f l o start size is at long from to = (omega arith, omega arith)

    empty : (f l p start size : ℕ) → f ≡ p + start → 1 ≤ l → 1 ≤ size → (f + l ≤ p + start) ⊎ (p + start + size ≤ f) → ⊥
    empty f l p start size at some full beside = omega arith

    there : z.address ≡ part_place P x + start → IsFieldOr (part_place P x + start) size z → covers F q a z ≡ true
    there address (inl same) =
        let both = within (field_place F q z) (now_at P q x) (part_place P x) z.address (field_length z) o start size place address same.1 from to in
        among_true (field_place F q z) (field_length z) a both.0 both.1
    there address (inr beside) =
        absurd (empty z.address (field_length z) (part_place P x) start size address (omega arith) (omega (arith, from, to)) beside)

-- and so does one of another part
agrees_elsewhere : (P : Laid) (F : Facts) (q : Addresses) (a A size : ℕ) (x y : Part) (z : RldItem) → Stands P F.symbols x
    → Stands P F.symbols y → IsItemOf P y z → y ≢ x → has_place P q a y ≡ false → Agrees F q a (part_number P x) A size z
agrees_elsewhere P F q a A size x y z own stands item differ outside = record {
  found = λ covered. absurd (false≢true (sym (not_elsewhere P F q a y z stands item outside) ∙ covered));
  there = λ part address. absurd (differ (numbers_differ P y x stands.numbered own.numbered (sym item.part ∙ part)));
}

-- all items of the segment do
all_agree : (P : Laid) (n s : ℕ) (F : Facts) (q : Addresses) (x : Part) (o start size : ℕ) → IsReady P n s F q → Among x (parts_in P s)
    → o < length (part_bytes P x) → start ≤ o → o < start + size → Each (IsFieldOr (part_place P x + start) size) (part_items P x)
    → Each (Agrees F q (now_at P q x + o) (part_number P x) (part_place P x + start) size) (shifts_of F s)
all_agree P n s F q x o start size ready among inside from to fields =
    each_shift (Agrees F q a (part_number P x) (part_place P x + start) size) (agrees_joined F q a (part_number P x) (part_place P x + start) size)
    P n s F q ready
    (each_weaker (λ y. Stands P F.symbols y × (Other y)) _ (parts_in P s) (λ y both. one y both.0 both.1)
    (each_both (Stands P F.symbols) Other (parts_in P s) ready.stands beside))
  where
    a : ℕ
    a = now_at P q x + o

    own : Stands P F.symbols x
    own = at_one (Stands P F.symbols) x (parts_in P s) ready.stands among

    here : has_place P q a x ≡ true
    here = among_true (now_at P q x) (length (part_bytes P x)) a (omega arith) (omega (arith, inside))

    Other : Part → Type 0
    Other y = (y ≡ x) ⊎ ((y ≢ x) × (has_place P q a y ≡ false))

    beside : Each Other (parts_in P s)
    beside = each_weaker (λ y. (y ≡ x) ⊎ (has_place P q a y ≡ false)) Other (parts_in P s) (λ y or. by_cases y or) (others P n s F q a x ready among here)
      where
        by_cases : (y : Part) → (y ≡ x) ⊎ (has_place P q a y ≡ false) → Other y
        by_cases y (inl same) = inl same
        by_cases y (inr outside) = inr (λ same. false≢true (sym outside ∙ (ap (has_place P q a) same ∙ here)), outside)

    one : (y : Part) → Stands P F.symbols y → Other y
        → Each (Agrees F q a (part_number P x) (part_place P x + start) size) (part_items P y)
    one y stands (inl same) =
        each_weaker (λ z. IsItemOf P x z × IsFieldOr (part_place P x + start) size z) _ (part_items P y)
        (λ z both. agrees_here P F q x o start size z own both.0 from to both.1)
        (subst (λ w. Each (λ z. IsItemOf P x z × IsFieldOr (part_place P x + start) size z) (part_items P w)) (sym same)
        (each_both (IsItemOf P x) (IsFieldOr (part_place P x + start) size) (part_items P x) own.inside fields))
    one y stands (inr other) =
        each_weaker (IsItemOf P y) _ (part_items P y)
        (λ z item. agrees_elsewhere P F q a (part_place P x + start) size x y z own stands item other.0 other.1) stands.inside

-- ---- the byte

-- the byte at a of the field of an item with these numbers
abbrev byte_with : Facts → Addresses → ℕ → ℕ → ℕ → ℕ → ℕ → ℕ
byte_with F q s a N A size =
    slice_index
    (big_bytes size
    ((big_number size (map (text_storage F q s) (range_with_len (q N + (A - address_in_module F.symbols N)) size))
    + sum_by (shift F q (256 ^ size)) (filter (stands_at N A) (shifts_of F s))) % 256 ^ size))
    (a - (q N + (A - address_in_module F.symbols N)))

same_numbers : (F : Facts) (q : Addresses) (s a N A size N' A' size' : ℕ) → N ≡ N' → A ≡ A' → size ≡ size'
    → byte_with F q s a N A size ≡ byte_with F q s a N' A' size'
same_numbers F q s a N A size N' A' size' part address long =
    ap (λ n. byte_with F q s a n A size) part ∙ (ap (λ n. byte_with F q s a N' n size) address ∙ ap (λ n. byte_with F q s a N' A' n) long)

pub moved_byte : (P : Laid) (n s : ℕ) (F : Facts) (q : Addresses) (x : Part) (o byte : ℕ) → IsReady P n s F q → Among x (parts_in P s)
    → InField P F q x o byte → loaded F q s (now_at P q x + o) ≡ byte
moved_byte P n s F q x o byte ready among it =
    loaded_is F q s a ∙ by_cases (find (covers F q a) (shifts_of F s)) refl
  where
    a : ℕ
    a = now_at P q x + o

    N : ℕ
    N = part_number P x

    A : ℕ
    A = part_place P x + it.start

    own : Stands P F.symbols x
    own = at_one (Stands P F.symbols) x (parts_in P s) ready.stands among

    inside : o < length (part_bytes P x)
    inside = within o it.start it.size (length (part_bytes P x)) it.to it.inside
      where
        within : (o start size l : ℕ) → o < start + size → start + size ≤ l → o < l
        within o start size l to in_part = omega arith

    agree : Each (Agrees F q a N A it.size) (shifts_of F s)
    agree = all_agree P n s F q x o it.start it.size ready among inside it.from it.to it.fields

    -- the field's first byte
    field : ℕ
    field = now_at P q x + it.start

    held : (j : ℕ) → j < it.size → text_storage F q s (field + j) ≡ slice_index (big_bytes it.size it.first) j
    held j below =
        ap (text_storage F q s) (regroup (now_at P q x) it.start j)
        ∙ (text_in_part P n s F q x (it.start + j) ready among (further it.start j it.size (length (part_bytes P x)) below it.inside)
        ∙ it.bytes j below)
      where
        regroup : (b c d : ℕ) → b + c + d ≡ b + (c + d)
        regroup b c d = omega arith

        further : (start j size l : ℕ) → j < size → start + size ≤ l → start + j < l
        further start j size l below in_part = omega arith

    sum : sum_by (shift F q (256 ^ it.size)) (filter (stands_at N A) (shifts_of F s)) ≡ sum_by (shift_here F q (256 ^ it.size) N A) (part_items P x)
    sum = shifts_in_part P n s F q (256 ^ it.size) A x ready among

    offset : a - field ≡ o - it.start
    offset = same (now_at P q x) o it.start
      where
        same : (b o start : ℕ) → b + o - (b + start) ≡ o - start
        same b o start = omega arith

    stands : q N + (A - address_in_module F.symbols N) ≡ field
    stands = ap (λ p. q N + (A - p)) own.place ∙ back (q N) (part_place P x) it.start
      where
        back : (b p start : ℕ) → b + (p + start - p) ≡ b + start
        back b p start = omega arith

    moved : byte_with F q s a N A it.size ≡ byte
    moved =
        ap (λ at. slice_index (big_bytes it.size ((big_number it.size (map (text_storage F q s) (range_with_len at it.size))
        + sum_by (shift F q (256 ^ it.size)) (filter (stands_at N A) (shifts_of F s))) % 256 ^ it.size)) (a - at)) stands
        ∙ (ap (λ v. slice_index (big_bytes it.size ((v + sum_by (shift F q (256 ^ it.size)) (filter (stands_at N A) (shifts_of F s))) % 256 ^ it.size)) (a - field))
        (held_number (text_storage F q s) field it.size it.first it.small held)
        ∙ (ap (λ v. slice_index (big_bytes it.size ((it.first + v) % 256 ^ it.size)) (a - field)) sum
        ∙ (ap (λ v. slice_index (big_bytes it.size v) (a - field)) it.moves
        ∙ (ap (slice_index (big_bytes it.size it.last)) offset ∙ it.gives))))

    unmoved : Each (λ z. covers F q a z ≡ false) (shifts_of F s) → it.first ≡ it.last
    unmoved none =
        sym (mod-eq_of_lt it.small)
        ∙ (ap (λ v. v % 256 ^ it.size) (sym (add-zero it.first) ∙ ap (λ v. it.first + v) (sym nothing)) ∙ it.moves)
      where
        passes : (z : RldItem) → Agrees F q a N A it.size z → covers F q a z ≡ false → (if stands_at N A z then shift F q (256 ^ it.size) z else 0) ≡ 0
        passes z agrees outside = by_test (stands_at N A z) refl
          where
            by_test : (b : Bool) → stands_at N A z ≡ b → (if b then shift F q (256 ^ it.size) z else 0) ≡ 0
            by_test false is = refl
            by_test true is =
                let both = and_parts (N == z.p) (A == z.address) is in
                absurd (false≢true (sym outside ∙ agrees.there (sym (eqb-true N z.p both.0)) (sym (eqb-true A z.address both.1))))

        nothing : sum_by (shift_here F q (256 ^ it.size) N A) (part_items P x) ≡ 0
        nothing =
            sym sum
            ∙ (sum_filter (shift F q (256 ^ it.size)) (stands_at N A) (shifts_of F s)
            ∙ sum_none (λ z. if stands_at N A z then shift F q (256 ^ it.size) z else 0) (shifts_of F s)
            (each_weaker (λ z. Agrees F q a N A it.size z × (covers F q a z ≡ false)) _ (shifts_of F s) (λ z both. passes z both.0 both.1)
            (each_both (Agrees F q a N A it.size) (λ z. covers F q a z ≡ false) (shifts_of F s) agree none)))

    by_cases : (found : Option RldItem) → find (covers F q a) (shifts_of F s) ≡ found → found_byte F q s a found ≡ byte
    by_cases None none =
        text_in_part P n s F q x o ready among inside
        ∙ (ap (slice_index (part_bytes P x)) (back o it.start it.from)
        ∙ (it.bytes (o - it.start) (below o it.start it.size it.from it.to)
        ∙ (ap (λ v. slice_index (big_bytes it.size v) (o - it.start)) (unmoved (not_found (covers F q a) (shifts_of F s) none)) ∙ it.gives)))
      where
        back : (o start : ℕ) → start ≤ o → o ≡ start + (o - start)
        back o start from = omega arith

        below : (o start size : ℕ) → start ≤ o → o < start + size → o - start < size
        below o start size from to = omega arith
    by_cases (Some z) found =
        let agrees : Agrees F q a N A it.size z = at_one (Agrees F q a N A it.size) z (shifts_of F s) agree (found_among (covers F q a) z (shifts_of F s) found) in
        let numbers = agrees.found (found_passes (covers F q a) z (shifts_of F s) found) in
        same_numbers F q s a z.p z.address (field_length z) N A it.size numbers.0 numbers.1 numbers.2 ∙ moved
