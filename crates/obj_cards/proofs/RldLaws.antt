-- RLD items: one item from the left, what all of them are, and that what was spelled is read again.
use Rattle.std.proofs.Common.{◌≡◌, ℕ, zero, suc, ◌+◌, ◌-◌, ◌*◌, ◌^◌, ◌<◌, ◌≤◌, min, Bool, true, false, cond, List, [], ◌∷◌, ◌++◌, length, take, drop, set, replicate, get_or, leb, Option, Some, None, Result, Ok, Err, refl, sym, ap, subst, ◌∙◌, append_assoc, arith}
use Rattle.std.specs.Prelude.{is_some}
use Rattle.std.specs.List.{AllByRecursion}
use Rattle.std.proofs.lemmas.Bool.{le-leb}
use Rattle.std.proofs.lemmas.List.{append-nil, length-set, take_more_set, drop-set-lt, drop-drop, drop-replicate, length-append, length-take, drop_more, drop_all, take_at}
use Rattle.byteorder.specs.Endian.{big_number, big_bytes}
use Rattle.obj_cards.specs.declared.card.CardRld.{CardRld}
use Rattle.obj_cards.specs.declared.card.RldCard.{RldCard}
use Rattle.obj_cards.specs.declared.fault.CardFault.{CardFault}
use Rattle.obj_cards.specs.declared.fault.CardFault.TheVariants.{BadCount, BadFlag}
use Rattle.obj_cards.specs.Columns.{filled, number_in, card_with, head, blanks, rld_type}
use Rattle.obj_cards.specs.Rld.{unused_rld, is_shared, is_rld_flag, pointer_bytes, field_bytes, rld_bytes, rld_text, pointers_after, with_first, field_item, rld_items, rld_with, rld_card, IsCardRld, SharePointers, IsRldCard}
use Rattle.obj_cards.proofs.Laying.{chosen_true, chosen_false, two_back, three_back, filled_again}

-- ---- one item from the left

pub field_reads : (r p address : ℕ) (bytes rest : List ℕ) → 4 ≤ length bytes → is_rld_flag (get_or bytes 0 0) ≡ true → address ≡ big_number 3 (drop 1 bytes) → rest ≡ drop 4 bytes
    → rld_items (Some (r, p)) bytes ≡ with_first (record { r = r; p = p; flag = get_or bytes 0 0; address = address }) (rld_items (pointers_after (record { r = r; p = p; flag = get_or bytes 0 0; address = address })) rest)
unfolding rld_items
field_reads r p address [] rest long good ea er = absurd (omega arith)
field_reads r p address (f ∷ []) rest long good ea er = absurd (omega arith)
field_reads r p address (f ∷ a ∷ []) rest long good ea er = absurd (omega arith)
field_reads r p address (f ∷ a ∷ b ∷ []) rest long good ea er = absurd (omega arith)
field_reads r p address (f ∷ a ∷ b ∷ c ∷ bytes) rest long good ea er =
    rw (ea, er) (chosen_true (is_rld_flag f) _ (Err BadFlag) good)

pub flag_faults : (r p : ℕ) (bytes : List ℕ) → 4 ≤ length bytes → is_rld_flag (get_or bytes 0 0) ≡ false → rld_items (Some (r, p)) bytes ≡ Err BadFlag
unfolding rld_items
flag_faults r p [] long bad = absurd (omega arith)
flag_faults r p (f ∷ []) long bad = absurd (omega arith)
flag_faults r p (f ∷ a ∷ []) long bad = absurd (omega arith)
flag_faults r p (f ∷ a ∷ b ∷ []) long bad = absurd (omega arith)
flag_faults r p (f ∷ a ∷ b ∷ c ∷ bytes) long bad = chosen_false (is_rld_flag f) _ (Err BadFlag) bad

pub short_field : (r p : ℕ) (bytes : List ℕ) → 0 < length bytes → length bytes < 4 → rld_items (Some (r, p)) bytes ≡ Err BadCount
unfolding rld_items
short_field r p [] some short = absurd (omega arith)
short_field r p (f ∷ []) some short = refl
short_field r p (f ∷ a ∷ []) some short = refl
short_field r p (f ∷ a ∷ b ∷ []) some short = refl
short_field r p (f ∷ a ∷ b ∷ c ∷ bytes) some short = absurd (omega arith)

pub short_item : (bytes : List ℕ) → 0 < length bytes → length bytes < 8 → rld_items None bytes ≡ Err BadCount
unfolding rld_items
short_item [] some short = absurd (omega arith)
short_item (a ∷ []) some short = refl
short_item (a ∷ b ∷ []) some short = refl
short_item (a ∷ b ∷ c ∷ []) some short = refl
short_item (a ∷ b ∷ c ∷ d ∷ []) some short = refl
short_item (a ∷ b ∷ c ∷ d ∷ e ∷ []) some short = refl
short_item (a ∷ b ∷ c ∷ d ∷ e ∷ f ∷ []) some short = refl
short_item (a ∷ b ∷ c ∷ d ∷ e ∷ f ∷ g ∷ []) some short = refl
short_item (a ∷ b ∷ c ∷ d ∷ e ∷ f ∷ g ∷ h ∷ bytes) some short = absurd (omega arith)

-- an item with pointers is its field behind them
pub whole_item : (bytes : List ℕ) → 8 ≤ length bytes → rld_items None bytes ≡ rld_items (Some (big_number 2 (drop 0 bytes), big_number 2 (drop 2 bytes))) (drop 4 bytes)
unfolding rld_items
whole_item [] long = absurd (omega arith)
whole_item (a ∷ []) long = absurd (omega arith)
whole_item (a ∷ b ∷ []) long = absurd (omega arith)
whole_item (a ∷ b ∷ c ∷ []) long = absurd (omega arith)
whole_item (a ∷ b ∷ c ∷ d ∷ []) long = absurd (omega arith)
whole_item (a ∷ b ∷ c ∷ d ∷ e ∷ []) long = absurd (omega arith)
whole_item (a ∷ b ∷ c ∷ d ∷ e ∷ f ∷ []) long = absurd (omega arith)
whole_item (a ∷ b ∷ c ∷ d ∷ e ∷ f ∷ g ∷ []) long = absurd (omega arith)
whole_item (a ∷ b ∷ c ∷ d ∷ e ∷ f ∷ g ∷ h ∷ bytes) long = refl

-- ---- the loop over the items

-- the items that stand before
abbrev pub behind : List CardRld → Result (List CardRld) CardFault → Result (List CardRld) CardFault
behind front (Ok items) = Ok (front ++ items)
behind front (Err fault) = Err fault

behind_more : (front : List CardRld) (i : CardRld) (r : Result (List CardRld) CardFault) → behind front (with_first i r) ≡ behind (front ++ i ∷ []) r
behind_more front i (Ok items) = ap Ok (sym (append_assoc front (i ∷ []) items))
behind_more front i (Err fault) = refl

behind_none : (r : Result (List CardRld) CardFault) → behind [] r ≡ r
behind_none (Ok items) = refl
behind_none (Err fault) = refl

-- the first n places hold what was read, and the rest of the bytes gives the rest
pub record ReadSoFar (items : List CardRld) (n : ℕ) (shared : Option (ℕ × ℕ)) (rest bytes : List ℕ) : Type 0 where
  pub front : behind (take n items) (rld_items shared rest) ≡ rld_items None bytes
  pub unused : drop n items ≡ replicate (13 - n) unused_rld
  pub room : 4 * min n 1 + 4 * n + length rest ≤ 56
  pub first : n ≡ 0 → shared ≡ None
  pub places : length items ≡ 13

pub read_none : (bytes : List ℕ) → length bytes ≤ 56 → ReadSoFar (replicate 13 unused_rld) 0 None bytes bytes
read_none bytes le = record { front = behind_none (rld_items None bytes); unused = refl; room = omega arith; first = λ e. refl; places = refl }

item_size : Option (ℕ × ℕ) → ℕ
item_size shared = cond (is_some shared) 4 8

pub room_for : (items : List CardRld) (n : ℕ) (shared : Option (ℕ × ℕ)) (rest after bytes : List ℕ) → ReadSoFar items n shared rest bytes
    → length after + cond (is_some shared) 4 8 ≡ length rest → (n < 13) × (4 * min (n + 1) 1 + 4 * (n + 1) + length after ≤ 56)
room_for items zero None rest after bytes far size = (omega arith, omega (arith, far.room))
room_for items zero (Some s) rest after bytes far size = absurd (let none : Some s ≡ None = far.first refl in cc)
room_for items (suc n) None rest after bytes far size = (omega (arith, far.room), omega (arith, far.room))
room_for items (suc n) (Some s) rest after bytes far size = (omega (arith, far.room), omega (arith, far.room))

pub read_more : (items : List CardRld) (n : ℕ) (shared : Option (ℕ × ℕ)) (rest after bytes : List ℕ) (i : CardRld) → ReadSoFar items n shared rest bytes
    → rld_items shared rest ≡ with_first i (rld_items (pointers_after i) after) → length after + cond (is_some shared) 4 8 ≡ length rest
    → ReadSoFar (set items n i) (n + 1) (pointers_after i) after bytes
read_more items n shared rest after bytes i far step size =
    let lt : n < length items = omega (arith, far.places, (room_for items n shared rest after bytes far size).0) in
    record {
      front = ap (λ t. behind t (rld_items (pointers_after i) after)) (take_more_set items n i lt)
          ∙ sym (behind_more (take n items) i (rld_items (pointers_after i) after)) ∙ ap (behind (take n items)) (sym step) ∙ far.front;
      unused = drop-set-lt (n + 1) items n i (omega arith) ∙ sym (drop-drop 1 n items) ∙ ap (drop 1) far.unused ∙ drop-replicate 1 (13 - n) unused_rld
          ∙ ap (λ k. replicate k unused_rld) (let e : 13 - n - 1 ≡ 13 - (n + 1) = omega arith in e);
      room = (room_for items n shared rest after bytes far size).1;
      first = λ e. absurd (omega arith);
      places = length-set items n i ∙ far.places;
    }

-- at the end of the bytes
pub read_fault : (items : List CardRld) (n : ℕ) (shared : Option (ℕ × ℕ)) (rest bytes : List ℕ) (e : CardFault) → ReadSoFar items n shared rest bytes → rld_items shared rest ≡ Err e → rld_items None bytes ≡ Err e
read_fault items n shared rest bytes e far fault = sym far.front ∙ ap (behind (take n items)) fault

pub read_all : (items : List CardRld) (n : ℕ) (rest bytes : List ℕ) → rest ≡ [] → ReadSoFar items n None rest bytes → rld_items None bytes ≡ Ok (take n items)
unfolding rld_items
read_all items n rest bytes none far =
    sym far.front ∙ ap (λ r. behind (take n items) (rld_items None r)) none ∙ ap Ok (append-nil (take n items))

pub read_open : (items : List CardRld) (n : ℕ) (s : ℕ × ℕ) (rest bytes : List ℕ) → rest ≡ [] → ReadSoFar items n (Some s) rest bytes → rld_items None bytes ≡ Err BadFlag
unfolding rld_items
read_open items n s rest bytes none far = sym far.front ∙ ap (λ r. behind (take n items) (rld_items (Some s) r)) none

-- ---- what all items are

abbrev pub SharesFrom : Option (ℕ × ℕ) → List CardRld → Type 0
SharesFrom None items = SharePointers items
SharesFrom (Some s) [] = ⊥
SharesFrom (Some (r, p)) (i ∷ items) = (i.r ≡ r) × (i.p ≡ p) × SharePointers (i ∷ items)

abbrev after_flag : Bool → CardRld → Option (ℕ × ℕ)
after_flag b i = cond b (Some (i.r, i.p)) None

joined_at : (b : Bool) (i : CardRld) (items : List CardRld) → is_shared i.flag ≡ b → SharesFrom (after_flag b i) items → SharePointers (i ∷ items)
joined_at false i [] e s = e
joined_at false i (j ∷ items) e s = (λ t. absurd (let both : true ≡ false = sym t ∙ e in cc), s)
joined_at true i [] e s = absurd s
joined_at true i (j ∷ items) e s = (λ t. (s.0, s.1), s.2)

parted_at : (b : Bool) (i : CardRld) (items : List CardRld) → is_shared i.flag ≡ b → SharePointers (i ∷ items) → SharesFrom (after_flag b i) items
parted_at false i [] e s = tt
parted_at false i (j ∷ items) e s = s.1
parted_at true i [] e s = absurd (let both : true ≡ false = sym e ∙ s in cc)
parted_at true i (j ∷ items) e s = ((s.0 e).0, (s.0 e).1, s.1)

some_after : (b : Bool) (i : CardRld) → is_some (after_flag b i) ≡ b
some_after true i = refl
some_after false i = refl

abbrev FitPointers : Option (ℕ × ℕ) → Type 0
FitPointers None = Unit {0}
FitPointers (Some (r, p)) = (r < 2 ^ 16) × (p < 2 ^ 16)

fit_after : (b : Bool) (i : CardRld) → i.r < 2 ^ 16 → i.p < 2 ^ 16 → FitPointers (after_flag b i)
fit_after true i r p = (r, p)
fit_after false i r p = tt

abbrev pub IsBytes : List ℕ → Type 0
IsBytes bytes = (k : ℕ) → get_or bytes k 0 < 256

record IsTaken (s : Option (ℕ × ℕ)) (items : List CardRld) (n : ℕ) : Type 0 where
  pub each : AllByRecursion IsCardRld items
  pub pointers : SharesFrom s items
  pub room : length (rld_bytes (is_some s) items) ≡ n

item_ok : (b : Bool) (i : CardRld) (r : Result (List CardRld) CardFault) (items : List CardRld) → cond b (with_first i r) (Err BadFlag) ≡ Ok items
    → (b ≡ true) × ((others : List CardRld) × (r ≡ Ok others) × (i ∷ others ≡ items))
item_ok true i (Ok others) items e = (refl, (others, refl, cc))
item_ok true i (Err fault) items e = absurd cc
item_ok false i r items e = absurd cc

taken_more : (i : CardRld) (others : List CardRld) (n : ℕ) → IsCardRld i → IsTaken (pointers_after i) others n
    → (AllByRecursion IsCardRld (i ∷ others)) × SharePointers (i ∷ others) × (length (rld_bytes (is_shared i.flag) others) ≡ n)
taken_more i others n fits t =
    ((fits, t.each), joined_at (is_shared i.flag) i others refl t.pointers, ap (λ b. length (rld_bytes b others)) (sym (some_after (is_shared i.flag) i)) ∙ t.room)

taken : (s : Option (ℕ × ℕ)) (bytes : List ℕ) (items : List CardRld) → IsBytes bytes → FitPointers s → rld_items s bytes ≡ Ok items → IsTaken s items (length bytes)
unfolding rld_items
taken None [] items small fit e = subst (λ xs. IsTaken None xs 0) (let p : [] ≡ items = cc in p) (record { each = tt; pointers = tt; room = refl })
taken (Some s) [] items small fit e = absurd cc
taken (Some (r, p)) (f ∷ []) items small fit e = absurd cc
taken (Some (r, p)) (f ∷ a ∷ []) items small fit e = absurd cc
taken (Some (r, p)) (f ∷ a ∷ b ∷ []) items small fit e = absurd cc
taken (Some (r, p)) (f ∷ a ∷ b ∷ c ∷ bytes) items small fit e =
    let i = field_item r p f a b c in
    let ok = item_ok (is_rld_flag f) i (rld_items (pointers_after i) bytes) items e in
    let fits : IsCardRld i = record { r = fit.0; p = fit.1; flag = ok.0; address = omega (arith, small 1, small 2, small 3) } in
    let rest = taken_more i ok.1.0 (length bytes) fits (taken (pointers_after i) bytes ok.1.0 (λ k. small (suc (suc (suc (suc k))))) (fit_after (is_shared f) i fit.0 fit.1) ok.1.1) in
    subst (λ xs. IsTaken (Some (r, p)) xs (length (f ∷ a ∷ b ∷ c ∷ bytes))) ok.1.2
    (record { each = rest.0; pointers = (refl, refl, rest.1); room = ap (λ n. suc (suc (suc (suc n)))) rest.2 })
taken None (a ∷ []) items small fit e = absurd cc
taken None (a ∷ b ∷ []) items small fit e = absurd cc
taken None (a ∷ b ∷ c ∷ []) items small fit e = absurd cc
taken None (a ∷ b ∷ c ∷ d ∷ []) items small fit e = absurd cc
taken None (a ∷ b ∷ c ∷ d ∷ f ∷ []) items small fit e = absurd cc
taken None (a ∷ b ∷ c ∷ d ∷ f ∷ g ∷ []) items small fit e = absurd cc
taken None (a ∷ b ∷ c ∷ d ∷ f ∷ g ∷ h ∷ []) items small fit e = absurd cc
taken None (q ∷ r ∷ o ∷ p ∷ f ∷ a ∷ b ∷ c ∷ bytes) items small fit e =
    let i = field_item (big_number 2 (q ∷ r ∷ [])) (big_number 2 (o ∷ p ∷ [])) f a b c in
    let ok = item_ok (is_rld_flag f) i (rld_items (pointers_after i) bytes) items e in
    let fit_r : i.r < 2 ^ 16 = omega (arith, small 0, small 1) in
    let fit_p : i.p < 2 ^ 16 = omega (arith, small 2, small 3) in
    let fits : IsCardRld i = record { r = fit_r; p = fit_p; flag = ok.0; address = omega (arith, small 5, small 6, small 7) } in
    let rest = taken_more i ok.1.0 (length bytes) fits (taken (pointers_after i) bytes ok.1.0 (λ k. small (suc (suc (suc (suc (suc (suc (suc (suc k))))))))) (fit_after (is_shared f) i fit_r fit_p) ok.1.1) in
    subst (λ xs. IsTaken None xs (length (q ∷ r ∷ o ∷ p ∷ f ∷ a ∷ b ∷ c ∷ bytes))) ok.1.2
    (record { each = rest.0; pointers = rest.1; room = ap (λ n. suc (suc (suc (suc (suc (suc (suc (suc n)))))))) rest.2 })

-- what was read from at most 56 bytes is a card
pub read_is_card : (items : List CardRld) (n : ℕ) (bytes : List ℕ) → IsBytes bytes → length bytes ≤ 56 → n ≤ 13 → drop n items ≡ replicate (13 - n) unused_rld → rld_items None bytes ≡ Ok (take n items)
    → IsRldCard (record { count = n; items = items })
read_is_card items n bytes small le most unused e =
    let t = taken None bytes (take n items) small tt e in
    record { count = most; items = t.each; pointers = t.pointers; room = omega (arith, t.room); unused = unused }

-- ---- what was spelled is read again

spelled_again : (i read : CardRld) (b : Bool) (rest : List ℕ) (items : List CardRld) → read ≡ i → is_rld_flag i.flag ≡ true → b ≡ true → rld_items (pointers_after i) rest ≡ Ok items
    → cond b (with_first read (rld_items (pointers_after read) rest)) (Err BadFlag) ≡ Ok (i ∷ items)
spelled_again i read b rest items same flag good e =
    chosen_true b _ (Err BadFlag) good ∙ ap (λ (x : CardRld). with_first x (rld_items (pointers_after x) rest)) same ∙ ap (with_first i) e

abbrev rld_made : ℕ → ℕ → ℕ → ℕ → CardRld
rld_made r p flag address = record { r = r; p = p; flag = flag; address = address }

same_item : (i : CardRld) (r p address : ℕ) → r ≡ i.r → p ≡ i.p → address ≡ i.address → rld_made r p i.flag address ≡ i
same_item i r p address e f g = ap (λ x. rld_made x p i.flag address) e ∙ ap (λ x. rld_made i.r x i.flag address) f ∙ ap (λ x. rld_made i.r i.p i.flag x) g

pub items_again : (s : Option (ℕ × ℕ)) (items : List CardRld) → AllByRecursion IsCardRld items → SharesFrom s items → rld_items s (rld_bytes (is_some s) items) ≡ Ok items
unfolding rld_items
items_again None [] fits shares = refl
items_again (Some s) [] fits shares = absurd shares
items_again None (i ∷ items) fits shares =
    let more : rld_items (pointers_after i) (rld_bytes (is_shared i.flag) items) ≡ Ok items
    = ap (λ b. rld_items (pointers_after i) (rld_bytes b items)) (sym (some_after (is_shared i.flag) i)) ∙ items_again (pointers_after i) items fits.1 (parted_at (is_shared i.flag) i items refl shares) in
    spelled_again i _ (is_rld_flag i.flag) (rld_bytes (is_shared i.flag) items) items
    (same_item i _ _ _ (two_back i.r [] fits.0.r) (two_back i.p [] fits.0.p) (three_back i.address [] fits.0.address)) fits.0.flag fits.0.flag more
items_again (Some (r, p)) (i ∷ items) fits shares =
    let more : rld_items (pointers_after i) (rld_bytes (is_shared i.flag) items) ≡ Ok items
    = ap (λ b. rld_items (pointers_after i) (rld_bytes b items)) (sym (some_after (is_shared i.flag) i)) ∙ items_again (pointers_after i) items fits.1 (parted_at (is_shared i.flag) i items refl shares.2) in
    spelled_again i _ (is_rld_flag i.flag) (rld_bytes (is_shared i.flag) items) items
    (same_item i r p _ (sym shares.0) (sym shares.1) (three_back i.address [] fits.0.address)) fits.0.flag fits.0.flag more

-- ---- the loop that spells

item_length : (omitted : Bool) (i : CardRld) (items : List CardRld) → length (rld_bytes omitted (i ∷ items)) ≡ length (pointer_bytes omitted i) + 4 + length (rld_bytes (is_shared i.flag) items)
item_length true i items = omega arith
item_length false i items = omega arith

pub record SpelledSoFar (body : List ℕ) (end : ℕ) (omitted : Bool) (k : ℕ) (items : List CardRld) : Type 0 where
  pub written : take end body ++ rld_bytes omitted (drop k items) ≡ rld_bytes false items
  pub within : end ≤ 56
  pub places : length body ≡ 56

pub spelled_none : (body : List ℕ) (items : List CardRld) → length body ≡ 56 → SpelledSoFar body 0 false 0 items
spelled_none body items places = record { written = refl; within = omega arith; places = places }

next_bytes : (body : List ℕ) (end : ℕ) (omitted : Bool) (k : ℕ) (items : List CardRld) (i : CardRld) → k < length items → get_or items k i ≡ i → SpelledSoFar body end omitted k items
    → take end body ++ rld_bytes omitted (i ∷ drop (k + 1) items) ≡ rld_bytes false items
next_bytes body end omitted k items i lt is far =
    ap (λ xs. take end body ++ rld_bytes omitted xs) (ap (λ x. x ∷ drop (k + 1) items) (sym is) ∙ sym (drop_more items k i lt)) ∙ far.written

pub spelled_room : (body : List ℕ) (end : ℕ) (omitted : Bool) (k : ℕ) (items : List CardRld) (i : CardRld) → length (rld_bytes false items) ≤ 56
    → k < length items → get_or items k i ≡ i → SpelledSoFar body end omitted k items → end + length (pointer_bytes omitted i) + 4 ≤ 56
spelled_room body end omitted k items i room lt is far =
    let whole : length (take end body ++ rld_bytes omitted (i ∷ drop (k + 1) items)) ≡ length (rld_bytes false items) = ap length (next_bytes body end omitted k items i lt is far) in
    let front : length (take end body) ≡ end = length-take end body ∙ (let e : min end (length body) ≡ end = omega (arith, far.within, far.places) in e) in
    omega (arith, whole, front, length-append (take end body) (rld_bytes omitted (i ∷ drop (k + 1) items)), item_length omitted i (drop (k + 1) items))

pub spelled_more : (body next last : List ℕ) (end middle final : ℕ) (omitted : Bool) (k : ℕ) (items : List CardRld) (i : CardRld)
    → k < length items → get_or items k i ≡ i → final ≤ 56 → length last ≡ 56 → take middle next ≡ take end body ++ pointer_bytes omitted i → take final last ≡ take middle next ++ field_bytes i
    → SpelledSoFar body end omitted k items → SpelledSoFar last final (is_shared i.flag) (k + 1) items
spelled_more body next last end middle final omitted k items i lt is le long first second far =
    let t = take end body in
    let r = rld_bytes (is_shared i.flag) (drop (k + 1) items) in
    record {
      written = ap (λ x. x ++ r) second ∙ ap (λ x. (x ++ field_bytes i) ++ r) first
          ∙ ap (λ x. x ++ r) (append_assoc t (pointer_bytes omitted i) (field_bytes i)) ∙ append_assoc t (pointer_bytes omitted i ++ field_bytes i) r
          ∙ next_bytes body end omitted k items i lt is far;
      within = le;
      places = long;
    }

pub spelled_all : (body : List ℕ) (end : ℕ) (omitted : Bool) (k : ℕ) (items : List CardRld) → length items ≤ k → SpelledSoFar body end omitted k items → take end body ≡ rld_bytes false items
spelled_all body end omitted k items ge far =
    sym (append-nil (take end body)) ∙ ap (λ xs. take end body ++ rld_bytes omitted xs) (sym (drop_all k items ge)) ∙ far.written

abbrev with_count : ℕ → List ℕ → List ℕ
with_count n bytes = card_with (head rld_type (blanks 3) (big_bytes 2 n) (blanks 2) ++ bytes)

pub rld_written : (c : RldCard) (card body : List ℕ) (end : ℕ) (items : List CardRld) → items ≡ take c.count c.items → card ≡ with_count end (take end body) → length body ≡ 56 → end ≤ 56
    → take end body ≡ rld_bytes false items → card ≡ card_with (rld_text c)
rld_written c card body end items value spelled long le all =
    let len : end ≡ length (rld_bytes false items) = omega (arith, ap length all, length-take end body) in
    spelled ∙ ap (λ n. with_count n (take end body)) len ∙ ap (with_count (length (rld_bytes false items))) all
    ∙ ap (λ xs. with_count (length (rld_bytes false xs)) (rld_bytes false xs)) value

abbrev rld_of : ℕ → List CardRld → Result RldCard CardFault
rld_of count items = Ok (record { count = count; items = items })

pub rld_again : (c : RldCard) → length (take c.count c.items) ≡ c.count → IsRldCard c → rld_card (card_with (rld_text c)) ≡ Ok c
unfolding rld_card
rld_again c len fits =
    let items = take c.count c.items in
    let bytes = rld_bytes false items in
    let card = card_with (rld_text c) in
    let count : number_in 11 12 card ≡ length bytes = two_back (length bytes) [] (omega (arith, fits.room)) in
    let few : leb (number_in 11 12 card) 56 ≡ true = le-leb _ _ (rw count fits.room) in
    let text : take (number_in 11 12 card) (drop 16 card) ≡ bytes = ap (λ k. take k (drop 16 card)) count ∙ take_at bytes _ (length bytes) refl in
    let read : rld_items None (take (number_in 11 12 card) (drop 16 card)) ≡ Ok items = ap (rld_items None) text ∙ items_again None items fits.items fits.pointers in
    chosen_true (leb (number_in 11 12 card) 56) _ (Err BadCount) few ∙ ap rld_with read
    ∙ ap (λ n. rld_of n (filled 13 unused_rld items)) len ∙ ap (rld_of c.count) (filled_again unused_rld 13 c.count c.items len fits.unused)

-- an item with pointers is its field behind them, where the two numbers and the rest have names
pub field_behind : (shared : Option (ℕ × ℕ)) (bytes field : List ℕ) (r p : ℕ) → shared ≡ None → 8 ≤ length bytes → r ≡ big_number 2 (drop 0 bytes) → p ≡ big_number 2 (drop 2 bytes) → field ≡ drop 4 bytes
    → rld_items shared bytes ≡ rld_items (Some (r, p)) field
field_behind shared bytes field r p none long er ep ef =
    ap (λ s. rld_items s bytes) none ∙ whole_item bytes long ∙ ap (λ x. rld_items (Some (x, big_number 2 (drop 2 bytes))) (drop 4 bytes)) (sym er)
    ∙ ap (λ x. rld_items (Some (r, x)) (drop 4 bytes)) (sym ep) ∙ ap (rld_items (Some (r, p))) (sym ef)

pub read_ok : (items : List CardRld) (n : ℕ) (rest bytes : List ℕ) → n ≤ 13 → rest ≡ [] → ReadSoFar items n None rest bytes → Ok (record { count = n; items = items }) ≡ rld_with (rld_items None bytes)
read_ok items n rest bytes most none far =
    let len : length (take n items) ≡ n = omega (arith, length-take n items, far.places) in
    sym (ap rld_with (read_all items n rest bytes none far) ∙ ap (λ k. rld_of k (filled 13 unused_rld (take n items))) len ∙ ap (rld_of n) (filled_again unused_rld 13 n items len far.unused))
