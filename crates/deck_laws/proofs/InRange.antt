-- A card of 80 bytes that has no fault has each field in its range, so that the facts that it gives are kept.
use Rattle.std.proofs.Common.{arith, ◌≡◌, ◌≢◌, ℕ, zero, suc, ◌+◌, ◌-◌, ◌*◌, ◌/◌, ◌^◌, ◌<◌, ◌≤◌, not, Bool, true, false, ◌||◌, ◌==◌, cond, List, [], ◌∷◌, length, take, drop, replicate, get_or, Option, Some, None, Result, Ok, Err, refl, sym, ap, ◌∙◌, subst, length-drop}
use Rattle.std.specs.Prelude.{IfOk, IfSome, slice_index, nat_le}
use Rattle.std.specs.List.{AllByRecursion}
use Rattle.std.specs.Option.{option_map, option_and_then}
use Rattle.std.proofs.lemmas.Bool.{eqb-true, not-true}
use Rattle.std.specs.Str.{bytes_eq}
use Rattle.std.proofs.lemmas.List.{length-take-le, get_or-drop}
use Rattle.std.proofs.Math.Seq.{take-append_seam}
use Rattle.byteorder.specs.Endian.{big_number}
use Rattle.le_bytes.specs.Names.{is_blank}
use Rattle.obj_cards.specs.declared.card.Card.{Card}
use Rattle.obj_cards.specs.declared.card.Card.TheVariants.{Esd, Txt, Rld, End, Sym, Statement, Comment}
use Rattle.obj_cards.specs.declared.card.EsdKind.{EsdKind}
use Rattle.obj_cards.specs.declared.card.EsdKind.TheVariants.{Sd, Ld, Er, Pc, Cm, Pr, Wx}
use Rattle.obj_cards.specs.declared.card.EsdItem.{EsdItem}
use Rattle.obj_cards.specs.declared.card.CardRld.{CardRld}
use Rattle.obj_cards.specs.declared.card.EndStart.TheVariants.{None as NoStart, At, Named}
use Rattle.obj_cards.specs.declared.fault.CardFault.{CardFault}
use Rattle.obj_cards.specs.declared.fault.CardFault.TheVariants.{UnknownCard, BadCount, BadFlag}
use Rattle.obj_cards.specs.Columns.{columns, number_in, are_blank, filled, esd_type, txt_type, rld_type, end_type, sym_type}
use Rattle.obj_cards.specs.Esd.{unused_esd, kind_of, name_in, suits, item_of_kind, esd_item, esd_items, esd_with, is_esd_size, esd_card, IsEsdItem, IsEsdCard}
use Rattle.obj_cards.specs.Txt.{txt_card, IsTxtCard}
use Rattle.obj_cards.specs.Rld.{unused_rld, is_rld_flag, pointers_after, field_item, with_first, rld_items, rld_with, rld_card, IsRldCard}
use Rattle.obj_cards.specs.End.{end_start, end_length, end_card, IsEndStart, IsEndCard}
use Rattle.obj_cards.specs.Cards.{as_card, object_card, statement_card, card_of, IsCard}
use Rattle.obj_cards.proofs.Laying.{unused_filled}
use Rattle.obj_cards.proofs.EndLaws.{small_length}
use Rattle.obj_cards.proofs.RldLaws.{IsBytes, read_is_card}
use Rattle.esd_lists.proofs.Each.{all_join}
use Rattle.deck_laws.proofs.Cards.{three, chosen_ok, take_all}

some_same : {A : Type 0} {x y : A} → Some x ≡ Some y → x ≡ y
some_same e = cc

-- ---- numbers

pub bytes_after : (n : ℕ) (xs : List ℕ) → IsBytes xs → IsBytes (drop n xs)
bytes_after n xs small k = subst (λ b. b < 256) (sym (get_or-drop n xs k 0)) (small (n + k))

pub bytes_before : (n : ℕ) (xs : List ℕ) → IsBytes xs → IsBytes (take n xs)
bytes_before zero xs small k = omega arith
bytes_before (suc n) [] small k = omega arith
bytes_before (suc n) (x ∷ xs) small zero = small 0
bytes_before (suc n) (x ∷ xs) small (suc k) = bytes_before n xs (λ j. small (suc j)) k

two : (xs : List ℕ) → IsBytes xs → big_number 2 xs < 2 ^ 16
two xs small = omega (arith, small 0, small 1)

wide_two : (xs : List ℕ) → IsBytes xs → big_number 2 xs < 2 ^ 24
wide_two xs small = omega (arith, small 0, small 1)

three_bytes : (xs : List ℕ) → IsBytes xs → big_number 3 xs < 2 ^ 24
three_bytes xs small = omega (arith, small 0, small 1, small 2)

-- ---- ESD

item_good : (kind : EsdKind) (b : List ℕ) → IsBytes b → suits kind b ≡ true → IsEsdItem (item_of_kind kind b)
item_good Sd b small fits = record { address = three_bytes (drop 9 b) (bytes_after 9 b small); length = three_bytes (drop 13 b) (bytes_after 13 b small); suits = refl }
item_good Ld b small fits = record {
  address = three_bytes (drop 9 b) (bytes_after 9 b small);
  length = wide_two (drop 14 b) (bytes_after 14 b small);
  suits = (not-true (is_blank (name_in b)) fits, refl, two (drop 14 b) (bytes_after 14 b small));
}
item_good Er b small fits = record { address = omega arith; length = omega arith; suits = (not-true (is_blank (name_in b)) fits, refl, refl, refl) }
item_good Pc b small fits = record { address = three_bytes (drop 9 b) (bytes_after 9 b small); length = three_bytes (drop 13 b) (bytes_after 13 b small); suits = (refl, refl) }
item_good Cm b small fits = record { address = omega arith; length = three_bytes (drop 13 b) (bytes_after 13 b small); suits = (refl, refl) }
item_good Pr b small fits = record { address = omega arith; length = three_bytes (drop 13 b) (bytes_after 13 b small); suits = (refl, fits) }
item_good Wx b small fits = record { address = omega arith; length = omega arith; suits = (not-true (is_blank (name_in b)) fits, refl, refl, refl) }

kind_good : (b : List ℕ) (o : Option EsdKind) (x : EsdItem) → IsBytes b → option_and_then (λ kind. cond (suits kind b) (Some (item_of_kind kind b)) None) o ≡ Some x → IsEsdItem x
kind_good b None x small e = absurd cc
kind_good b (Some kind) x small e = chosen (suits kind b) refl e
  where
    chosen : (s : Bool) → suits kind b ≡ s → cond s (Some (item_of_kind kind b)) None ≡ Some x → IsEsdItem x
    chosen true fits is = subst IsEsdItem (some_same is) (item_good kind b small fits)
    chosen false fits is = absurd cc

item_read : (b : List ℕ) (x : EsdItem) → IsBytes b → esd_item b ≡ Some x → IsEsdItem x
unfolding esd_item
item_read b x small e = kind_good b (kind_of (slice_index b 8)) x small e

-- items, and how many
abbrev AreItems : ℕ → List EsdItem → Type 0
AreItems n xs = AllByRecursion IsEsdItem xs × (length xs ≡ n)

joined : (n : ℕ) (x : Option EsdItem) (more : Option (List EsdItem)) (xs : List EsdItem) → ((y : EsdItem) → x ≡ Some y → IsEsdItem y) → ((ys : List EsdItem) → more ≡ Some ys → AreItems n ys)
    → option_and_then (λ item. option_map (λ rest. item ∷ rest) more) x ≡ Some xs → AreItems (suc n) xs
joined n None more xs one all e = absurd cc
joined n (Some x) None xs one all e = absurd cc
joined n (Some x) (Some ys) xs one all e =
    let rest = all ys refl in
    subst (AreItems (suc n)) (some_same e) ((one x refl, rest.0), ap suc rest.1)

items_read : (n : ℕ) (b : List ℕ) (xs : List EsdItem) → IsBytes b → esd_items n b ≡ Some xs → AreItems n xs
unfolding esd_items
items_read zero b xs small e = subst (AreItems 0) (some_same e) (tt, refl)
items_read (suc n) b xs small e =
    joined n (esd_item (take 16 b)) (esd_items n (drop 16 b)) xs
    (λ y is. item_read (take 16 b) y (bytes_before 16 b small) is) (λ ys is. items_read n (drop 16 b) ys (bytes_after 16 b small) is) e

unused_good : (n : ℕ) → AllByRecursion IsEsdItem (replicate n unused_esd)
unused_good zero = tt
unused_good (suc n) = (record { address = omega arith; length = omega arith; suits = refl }, unused_good n)

with_items : (n : ℕ) (card : List ℕ) (o : Option (List EsdItem)) → IsBytes card → 1 ≤ n → n ≤ 3 → ((xs : List EsdItem) → o ≡ Some xs → AreItems n xs) → IfOk (esd_with n card o) IsEsdCard
with_items n card None small some most all = tt
with_items n card (Some xs) small some most all =
    let is = all xs refl in
    record {
      esdid = two (drop 14 card) (bytes_after 14 card small);
      some = some;
      most = most;
      items = take_all IsEsdItem n (filled 3 unused_esd xs) (all_join IsEsdItem xs (replicate (3 - length xs) unused_esd) is.0 (unused_good (3 - length xs)));
      unused = unused_filled unused_esd 3 n xs is.1;
    }

some_size : (n : ℕ) → is_esd_size n ≡ true → 1 ≤ n / 16
some_size n e = least (n == 16) (n == 32) (n == 48) refl refl refl e
  where
    at : (k : ℕ) → (n == k) ≡ true → 1 ≤ k / 16 → 1 ≤ n / 16
    at k is low = subst (λ j. 1 ≤ j / 16) (sym (eqb-true n k is)) low

    least : (a b c : Bool) → (n == 16) ≡ a → (n == 32) ≡ b → (n == 48) ≡ c → (a || b || c) ≡ true → 1 ≤ n / 16
    least true b c first second third some = at 16 first (omega arith)
    least false true c first second third some = at 32 second (omega arith)
    least false false true first second third some = at 48 third (omega arith)
    least false false false first second third some = absurd cc

esd_good : (card : List ℕ) → IsBytes card → IfOk (esd_card card) IsEsdCard
unfolding esd_card
esd_good card small =
    let size : ℕ = number_in 11 12 card in
    chosen_ok IsEsdCard (is_esd_size size) (esd_with (size / 16) card (esd_items (size / 16) (drop 16 card))) (Err BadCount)
    (λ good. with_items (size / 16) card (esd_items (size / 16) (drop 16 card)) small (some_size size good) (three size good)
    (λ xs is. items_read (size / 16) (drop 16 card) xs (bytes_after 16 card small) is))
    (λ bad. tt)

-- ---- TXT

taken_long : (n : ℕ) (card : List ℕ) → length card ≡ 80 → n ≤ 56 → length (take n (drop 16 card)) ≡ n
taken_long n card long low =
    let rest : length (drop 16 card) ≡ length card - 16 = length-drop 16 card in
    length-take-le n (drop 16 card) (omega (arith, rest, long, low))

low_count : (n : ℕ) → nat_le n 56 ≡ true → n ≤ 56
low_count n e = grind (arith, e)

txt_good : (card : List ℕ) → length card ≡ 80 → IsBytes card → IfOk (txt_card card) IsTxtCard
unfolding txt_card
txt_good card long small =
    let count : ℕ = number_in 11 12 card in
    chosen_ok IsTxtCard (nat_le count 56) _ (Err BadCount)
    (λ good. record {
      address = three_bytes (drop 5 card) (bytes_after 5 card small);
      esdid = two (drop 14 card) (bytes_after 14 card small);
      count = low_count count good;
      unused = unused_filled 0 56 count (take count (drop 16 card)) (taken_long count card long (low_count count good));
    })
    (λ bad. tt)

-- ---- RLD

-- the bytes that items take at least
abbrev least_room : Option (ℕ × ℕ) → ℕ → ℕ
least_room None zero = 0
least_room None (suc n) = 4 * n + 8
least_room (Some s) n = 4 * n

item_ok : (b : Bool) (i : CardRld) (r : Result (List CardRld) CardFault) (items : List CardRld) → cond b (with_first i r) (Err BadFlag) ≡ Ok items
    → (others : List CardRld) × (r ≡ Ok others) × (i ∷ others ≡ items)
item_ok true i (Ok others) items e = (others, refl, cc)
item_ok true i (Err fault) items e = absurd cc
item_ok false i r items e = absurd cc

room_after : (s : Option (ℕ × ℕ)) (n k : ℕ) → least_room s n ≤ k → 4 * n ≤ k
room_after None zero k low = omega arith
room_after None (suc n) k low = omega (arith, low)
room_after (Some s) n k low = low

rooms : (s : Option (ℕ × ℕ)) (bytes : List ℕ) (items : List CardRld) → rld_items s bytes ≡ Ok items → least_room s (length items) ≤ length bytes
unfolding rld_items
rooms None [] items e = subst (λ (xs : List CardRld). least_room None (length xs) ≤ 0) (let p : [] ≡ items = cc in p) (omega arith)
rooms (Some s) [] items e = absurd cc
rooms (Some (r, p)) (f ∷ []) items e = absurd cc
rooms (Some (r, p)) (f ∷ a ∷ []) items e = absurd cc
rooms (Some (r, p)) (f ∷ a ∷ b ∷ []) items e = absurd cc
rooms (Some (r, p)) (f ∷ a ∷ b ∷ c ∷ bytes) items e =
    let i = field_item r p f a b c in
    let ok = item_ok (is_rld_flag f) i (rld_items (pointers_after i) bytes) items e in
    let rest : 4 * length ok.0 ≤ length bytes = room_after (pointers_after i) (length ok.0) (length bytes) (rooms (pointers_after i) bytes ok.0 ok.1) in
    subst (λ (xs : List CardRld). 4 * length xs ≤ length (f ∷ a ∷ b ∷ c ∷ bytes)) ok.2 (omega (arith, rest))
rooms None (a ∷ []) items e = absurd cc
rooms None (a ∷ b ∷ []) items e = absurd cc
rooms None (a ∷ b ∷ c ∷ []) items e = absurd cc
rooms None (a ∷ b ∷ c ∷ d ∷ []) items e = absurd cc
rooms None (a ∷ b ∷ c ∷ d ∷ f ∷ []) items e = absurd cc
rooms None (a ∷ b ∷ c ∷ d ∷ f ∷ g ∷ []) items e = absurd cc
rooms None (a ∷ b ∷ c ∷ d ∷ f ∷ g ∷ h ∷ []) items e = absurd cc
rooms None (q ∷ r ∷ o ∷ p ∷ f ∷ a ∷ b ∷ c ∷ bytes) items e =
    let i = field_item (big_number 2 (q ∷ r ∷ [])) (big_number 2 (o ∷ p ∷ [])) f a b c in
    let ok = item_ok (is_rld_flag f) i (rld_items (pointers_after i) bytes) items e in
    let rest : 4 * length ok.0 ≤ length bytes = room_after (pointers_after i) (length ok.0) (length bytes) (rooms (pointers_after i) bytes ok.0 ok.1) in
    subst (λ (xs : List CardRld). least_room None (length xs) ≤ length (q ∷ r ∷ o ∷ p ∷ f ∷ a ∷ b ∷ c ∷ bytes)) ok.2 (omega (arith, rest))

at_most : (n k : ℕ) → least_room None n ≤ k → k ≤ 56 → n ≤ 13
at_most zero k low most = omega arith
at_most (suc n) k low most = omega (arith, low, most)

read_good : (bytes : List ℕ) (r : Result (List CardRld) CardFault) → rld_items None bytes ≡ r → IsBytes bytes → length bytes ≤ 56 → IfOk (rld_with r) IsRldCard
read_good bytes (Err fault) is small low = tt
read_good bytes (Ok items) is small low =
    let most : length items ≤ 13 = at_most (length items) (length bytes) (rooms None bytes items is) low in
    read_is_card (filled 13 unused_rld items) (length items) bytes small low most (unused_filled unused_rld 13 (length items) items refl)
    (is ∙ ap Ok (sym (take-append_seam items (replicate (13 - length items) unused_rld))))

rld_good : (card : List ℕ) → length card ≡ 80 → IsBytes card → IfOk (rld_card card) IsRldCard
unfolding rld_card
rld_good card long small =
    let count : ℕ = number_in 11 12 card in
    chosen_ok IsRldCard (nat_le count 56) (rld_with (rld_items None (take count (drop 16 card)))) (Err BadCount)
    (λ good. read_good (take count (drop 16 card)) (rld_items None (take count (drop 16 card))) refl (bytes_before count (drop 16 card) (bytes_after 16 card small))
    (subst (λ n. n ≤ 56) (sym (taken_long count card long (low_count count good))) (low_count count good)))
    (λ bad. tt)

-- ---- END

not_blank : (xs : List ℕ) → IsBytes xs → 3 ≤ length xs → are_blank (take 3 xs) ≡ false → big_number 3 xs ≢ 0x404040
not_blank [] small long some = absurd (omega (arith, long))
not_blank (a ∷ []) small long some = absurd (omega (arith, long))
not_blank (a ∷ b ∷ []) small long some = absurd (omega (arith, long))
not_blank (a ∷ b ∷ c ∷ xs) small long some = λ is.
    let first : a ≡ 64 = omega (arith, is, small 0, small 1, small 2) in
    let second : b ≡ 64 = omega (arith, is, small 0, small 1, small 2) in
    let third : c ≡ 64 = omega (arith, is, small 0, small 1, small 2) in
    let all : are_blank (a ∷ b ∷ c ∷ []) ≡ true = rw (first, second, third) refl in
    absurd (cc (all, some))

blank_eight : (xs : List ℕ) → length xs ≡ 8 → are_blank xs ≡ false → is_blank (record { 0 = xs }) ≡ false
blank_eight (a ∷ b ∷ c ∷ d ∷ e ∷ f ∷ g ∷ h ∷ []) long some = some
blank_eight _ long some = absurd cc

long_after : (n k : ℕ) (card : List ℕ) → length card ≡ 80 → n + k ≤ 80 → k ≤ length (drop n card)
long_after n k card long low =
    let rest : length (drop n card) ≡ length card - n = length-drop n card in
    omega (arith, rest, long, low)

start_good : (card : List ℕ) → length card ≡ 80 → IsBytes card → IsEndStart (end_start card)
start_good card long small = address (not (are_blank (columns 6 8 card))) refl
  where
    name : (b : Bool) → not (are_blank (columns 17 24 card)) ≡ b → IsEndStart (cond b (Named (record { 0 = columns 17 24 card })) NoStart)
    name true some = blank_eight (columns 17 24 card) (length-take-le 8 (drop 16 card) (long_after 16 8 card long (omega arith))) (not-true (are_blank (columns 17 24 card)) some)
    name false none = tt

    address : (b : Bool) → not (are_blank (columns 6 8 card)) ≡ b
        → IsEndStart (cond b (At (number_in 6 8 card) (number_in 15 16 card)) (cond (not (are_blank (columns 17 24 card))) (Named (record { 0 = columns 17 24 card })) NoStart))
    address true some = (
      three_bytes (drop 5 card) (bytes_after 5 card small),
      not_blank (drop 5 card) (bytes_after 5 card small) (long_after 5 3 card long (omega arith)) (not-true (are_blank (columns 6 8 card)) some),
      two (drop 14 card) (bytes_after 14 card small),
    )
    address false none = name (not (are_blank (columns 17 24 card))) refl

length_good : (card : List ℕ) → IsBytes card → IfSome (end_length card) (λ n. n < 2 ^ 24)
length_good card small = chosen (slice_index card 28 == 0) refl
  where
    chosen : (b : Bool) → (slice_index card 28 == 0) ≡ b → IfSome (cond b (Some (number_in 29 32 card)) None) (λ n. n < 2 ^ 24)
    chosen true is = small_length card (number_in 29 32 card) refl (eqb-true (get_or card 28 0) 0 is) small
    chosen false is = tt

end_good : (card : List ℕ) → length card ≡ 80 → IsBytes card → IsEndCard (end_card card)
unfolding end_card
end_good card long small = record { start = start_good card long small; length = length_good card small }

-- ---- a card

as_good : {X : Type 0} (P : X → Type 0) (f : X → Card) (r : Result X CardFault) → ((x : X) → P x → IsCard (f x)) → IfOk r P → IfOk (as_card f r) IsCard
as_good P f (Ok x) gives h = gives x h
as_good P f (Err fault) gives h = tt

object_good : (kind card : List ℕ) → length card ≡ 80 → IsBytes card → IfOk (object_card kind card) IsCard
object_good kind card long small =
    chosen_ok IsCard (bytes_eq kind esd_type) _ _ (λ e. as_good IsEsdCard (λ x. Esd x) (esd_card card) (λ x h. h) (esd_good card small)) (λ e.
    chosen_ok IsCard (bytes_eq kind txt_type) _ _ (λ e. as_good IsTxtCard (λ x. Txt x) (txt_card card) (λ x h. h) (txt_good card long small)) (λ e.
    chosen_ok IsCard (bytes_eq kind rld_type) _ _ (λ e. as_good IsRldCard (λ x. Rld x) (rld_card card) (λ x h. h) (rld_good card long small)) (λ e.
    chosen_ok IsCard (bytes_eq kind end_type) (Ok (End (end_card card))) _ (λ e. end_good card long small) (λ e.
    chosen_ok IsCard (bytes_eq kind sym_type) (Ok Sym) (Err UnknownCard) (λ e. tt) (λ e. tt)))))

statement_good : (card : List ℕ) → length card ≡ 80 → slice_index card 0 ≡ 64 → IsCard (statement_card card)
statement_good card long first = chosen (are_blank (columns 1 71 card)) refl
  where
    chosen : (b : Bool) → are_blank (columns 1 71 card) ≡ b → IsCard (cond b Comment (Statement card))
    chosen true is = tt
    chosen false is = record { length = long; blank = first; something = is }

pub card_good : (card : List ℕ) → length card ≡ 80 → IsBytes card → IfOk (card_of card) IsCard
unfolding card_of
card_good card long small =
    chosen_ok IsCard (slice_index card 0 == 2) _ _ (λ e. object_good (columns 2 4 card) card long small) (λ e.
    chosen_ok IsCard (slice_index card 0 == 64) (Ok (statement_card card)) _ (λ is. statement_good card long (eqb-true (slice_index card 0) 64 is)) (λ e.
    chosen_ok IsCard (slice_index card 0 == 92) (Ok Comment) (Err UnknownCard) (λ e. tt) (λ e. tt)))
