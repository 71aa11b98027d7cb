-- ESD items: what was spelled is read again, and the loops over the items.
use Rattle.std.proofs.Common.{◌≡◌, ℕ, zero, suc, ◌+◌, ◌-◌, ◌*◌, ◌/◌, ◌^◌, ◌<◌, ◌≤◌, true, not, cond, List, [], ◌∷◌, ◌++◌, length, take, drop, set, replicate, get_or, Option, Some, None, Result, Ok, Err, refl, sym, ap, subst, ◌∙◌, append_assoc, arith}
use Rattle.std.specs.List.{flat_map, AllByRecursion}
use Rattle.std.specs.Option.{option_map, option_and_then}
use Rattle.std.proofs.lemmas.List.{append-nil, flat_map_more, length-append, length-drop, length-set, length-take, take_at, drop_at, take_more, take_more_set, drop-set-lt, drop-drop, drop-replicate}
use Rattle.byteorder.specs.Endian.{big_number, big_bytes}
use Rattle.le_bytes.specs.declared.name.Name.{Name}
use Rattle.le_bytes.specs.Names.{is_blank}
use Rattle.obj_cards.specs.declared.card.EsdKind.{EsdKind}
use Rattle.obj_cards.specs.declared.card.EsdKind.TheVariants.{Sd, Ld, Er, Pc, Cm, Pr, Wx}
use Rattle.obj_cards.specs.declared.card.EsdItem.{EsdItem}
use Rattle.obj_cards.specs.declared.card.EsdCard.{EsdCard}
use Rattle.obj_cards.specs.declared.fault.CardFault.{CardFault}
use Rattle.obj_cards.specs.declared.fault.CardFault.TheVariants.{BadCount, BadEsdType}
use Rattle.obj_cards.specs.Columns.{number_in, blanks, filled, card_with, head, esd_type}
use Rattle.obj_cards.specs.Esd.{unused_esd, kind_code, align_byte, esd_bytes, esd_text, is_alignment, is_esd_size, esd_item, or_bad_type, esd_items, esd_with, esd_card, SuitsKind, IsEsdItem, IsEsdCard}
use Rattle.obj_cards.proofs.Laying.{cells, eight, chosen_true, two_back, three_back, filled_again}

-- ---- one item

-- the fields of an item laid over 16 blanks, one after the other
pub item_laid : (b0 b1 b2 name : List ℕ) (kind align address len : ℕ) → b0 ≡ name ++ replicate 8 64 → length name ≡ 8
    → b1 ≡ take 9 (set b0 8 kind) ++ big_bytes 3 address ++ drop 12 (set b0 8 kind) → b2 ≡ take 13 (set b1 12 align) ++ big_bytes 3 len ++ drop 16 (set b1 12 align)
    → b2 ≡ name ++ kind ∷ big_bytes 3 address ++ align ∷ big_bytes 3 len
item_laid b0 b1 b2 name kind align address len e0 long e1 e2 =
    let first = λ (b : List ℕ). take 9 (set b 8 kind) ++ big_bytes 3 address ++ drop 12 (set b 8 kind) in
    let second = λ (b : List ℕ). take 13 (set b 12 align) ++ big_bytes 3 len ++ drop 16 (set b 12 align) in
    let laid : second (first (name ++ replicate 8 64)) ≡ name ++ kind ∷ big_bytes 3 address ++ align ∷ big_bytes 3 len
    = subst (λ (x : List ℕ). second (first (x ++ replicate 8 64)) ≡ x ++ kind ∷ big_bytes 3 address ++ align ∷ big_bytes 3 len) (eight name long) refl in
    e2 ∙ ap second (e1 ∙ ap first e0) ∙ laid

abbrev made : Name → EsdKind → ℕ → ℕ → ℕ → EsdItem
made name kind address align len = record { name = name; kind = kind; address = address; align = align; length = len }

abbrev named : List ℕ → Name
named letters = record { 0 = cells letters }

same_item : (name : Name) (kind : EsdKind) (a b c x y z : ℕ) → a ≡ x → b ≡ y → c ≡ z → made name kind a b c ≡ made name kind x y z
same_item name kind a b c x y z p q r = ap (λ v. made name kind v b c) p ∙ ap (λ v. made name kind x v c) q ∙ ap (made name kind x y) r

low_two : (n : ℕ) → n < 2 ^ 16 → big_number 2 (big_bytes 2 n) ≡ n
low_two n lt = two_back n [] lt

all_three : (n : ℕ) → n < 2 ^ 24 → big_number 3 (big_bytes 3 n) ≡ n
all_three n lt = three_back n [] lt

item_cells : (letters : List ℕ) (kind : EsdKind) (address align len : ℕ) → address < 2 ^ 24 → len < 2 ^ 24 → SuitsKind kind (made (named letters) kind address align len)
    → esd_item (esd_bytes (made (named letters) kind address align len)) ≡ Some (made (named letters) kind address align len)
unfolding esd_item
item_cells letters Sd address align len a l s = ap Some (same_item (named letters) Sd _ 0 _ address align len (all_three address a) (sym s) (all_three len l))
item_cells letters Ld address align len a l s =
    chosen_true (not (is_blank (named letters))) _ None (ap not s.0) ∙ ap Some (same_item (named letters) Ld (big_number 3 (big_bytes 3 address)) 0 (big_number 2 (big_bytes 2 len)) address align len (all_three address a) (sym s.1) (low_two len s.2))
item_cells letters Er address align len a l s =
    chosen_true (not (is_blank (named letters))) _ None (ap not s.0) ∙ ap Some (same_item (named letters) Er 0 0 0 address align len (sym s.1) (sym s.2) (sym s.3))
item_cells letters Pc address align len a l s =
    ap (λ (n : Name). Some (made n Pc (big_number 3 (big_bytes 3 address)) 0 (big_number 3 (big_bytes 3 len)))) (sym s.0)
    ∙ ap Some (same_item (named letters) Pc _ 0 _ address align len (all_three address a) (sym s.1) (all_three len l))
item_cells letters Cm address align len a l s = ap Some (same_item (named letters) Cm 0 0 _ address align len (sym s.0) (sym s.1) (all_three len l))
item_cells letters Pr address align len a l s =
    chosen_true (is_alignment align) _ None s.1 ∙ ap Some (same_item (named letters) Pr 0 align (big_number 3 (big_bytes 3 len)) address align len (sym s.0) refl (all_three len l))
item_cells letters Wx address align len a l s =
    chosen_true (not (is_blank (named letters))) _ None (ap not s.0) ∙ ap Some (same_item (named letters) Wx 0 0 0 address align len (sym s.1) (sym s.2) (sym s.3))

pub item_again : (i : EsdItem) → length i.name.0 ≡ 8 → IsEsdItem i → esd_item (esd_bytes i) ≡ Some i
item_again i long fits =
    subst (λ x. SuitsKind i.kind (made (record { 0 = x }) i.kind i.address i.align i.length) → esd_item (esd_bytes (made (record { 0 = x }) i.kind i.address i.align i.length)) ≡ Some (made (record { 0 = x }) i.kind i.address i.align i.length))
    (eight i.name.0 long) (item_cells i.name.0 i.kind i.address i.align i.length fits.address fits.length) fits.suits

-- ---- all items of a card

abbrev pub HasLongName : EsdItem → Type 0
HasLongName i = length i.name.0 ≡ 8

length_esd : (i : EsdItem) → length (esd_bytes i) ≡ length i.name.0 + 8
length_esd i = length-append (i.name.0 ++ kind_code i.kind ∷ big_bytes 3 i.address) (align_byte i.kind i.align ∷ big_bytes 3 i.length)
    ∙ (let e : length (i.name.0 ++ kind_code i.kind ∷ big_bytes 3 i.address) + 4 ≡ length i.name.0 + 8 = omega (arith, length-append i.name.0 (kind_code i.kind ∷ big_bytes 3 i.address)) in e)

pub long_name : (i : EsdItem) → length (esd_bytes i) ≡ 16 → HasLongName i
long_name i e = omega (arith, e, length_esd i)

esd_step : (m : ℕ) (bytes rest : List ℕ) (i : EsdItem) → esd_item bytes ≡ Some i → length bytes ≡ 16 → esd_items (suc m) (bytes ++ rest) ≡ option_map (λ xs. i ∷ xs) (esd_items m rest)
unfolding esd_items
esd_step m bytes rest i e long =
    ap (λ (b : List ℕ). option_and_then (λ (item : EsdItem). option_map (λ xs. item ∷ xs) (esd_items m (drop 16 (bytes ++ rest)))) (esd_item b)) (take_at bytes rest 16 long)
    ∙ ap (λ (r : List ℕ). option_and_then (λ (item : EsdItem). option_map (λ xs. item ∷ xs) (esd_items m r)) (esd_item bytes)) (drop_at bytes rest 16 long)
    ∙ ap (option_and_then (λ (item : EsdItem). option_map (λ xs. item ∷ xs) (esd_items m rest))) e

pub items_again : (items : List EsdItem) (rest : List ℕ) → AllByRecursion IsEsdItem items → AllByRecursion HasLongName items → esd_items (length items) (flat_map esd_bytes items ++ rest) ≡ Some items
unfolding esd_items
items_again [] rest fits long = refl
items_again (i ∷ items) rest fits long =
    ap (esd_items (suc (length items))) (append_assoc (esd_bytes i) (flat_map esd_bytes items) rest)
    ∙ esd_step (length items) (esd_bytes i) (flat_map esd_bytes items ++ rest) i (item_again i long.0 fits.0) (length_esd i ∙ ap (λ n. n + 8) long.0)
    ∙ ap (option_map (λ xs. i ∷ xs)) (items_again items rest fits.1 long.1)

pub each_more : {X : Type 0} (P : X → Type 0) (xs : List X) (x : X) → AllByRecursion P xs → P x → AllByRecursion P (xs ++ x ∷ [])
each_more P [] x each one = (one, tt)
each_more P (y ∷ xs) x each one = (each.0, each_more P xs x each.1 one)

-- ---- the loop that reads

pub item_read : (o : Option EsdItem) (i : EsdItem) → Ok i ≡ or_bad_type o → o ≡ Some i
item_read (Some j) i e = ap Some (let same : j ≡ i = cc in same)
item_read None i e = absurd cc

pub item_refused : (o : Option EsdItem) (fault : CardFault) → Err fault ≡ or_bad_type o → (o ≡ None) × (fault ≡ BadEsdType)
item_refused (Some j) fault e = absurd cc
item_refused None fault e = (refl, cc)

abbrev pub behind : List EsdItem → Option (List EsdItem) → Option (List EsdItem)
behind front items = option_map (λ xs. front ++ xs) items

behind_more : (front : List EsdItem) (i : EsdItem) (o : Option (List EsdItem)) → behind front (option_map (λ xs. i ∷ xs) o) ≡ behind (front ++ i ∷ []) o
behind_more front i (Some items) = ap Some (sym (append_assoc front (i ∷ []) items))
behind_more front i None = refl

behind_none : (o : Option (List EsdItem)) → behind [] o ≡ o
behind_none (Some items) = refl
behind_none None = refl

pub record ReadItems (items : List EsdItem) (k count : ℕ) (rest bytes : List ℕ) : Type 0 where
  pub front : behind (take k items) (esd_items (count - k) rest) ≡ esd_items count bytes
  pub unused : drop k items ≡ replicate (3 - k) unused_esd
  pub places : length items ≡ 3
  pub room : 16 * (count - k) ≤ length rest
  pub each : AllByRecursion IsEsdItem (take k items)

pub read_none : (count : ℕ) (bytes : List ℕ) → 16 * count ≤ length bytes → ReadItems (replicate 3 unused_esd) 0 count bytes bytes
read_none count bytes room =
    let same : count - 0 ≡ count = omega arith in
    record { front = behind_none (esd_items (count - 0) bytes) ∙ ap (λ n. esd_items n bytes) same; unused = refl; places = refl; room = omega arith; each = tt }

one_more : (m : ℕ) (rest : List ℕ) → esd_items (suc m) rest ≡ option_and_then (λ item. option_map (λ xs. item ∷ xs) (esd_items m (drop 16 rest))) (esd_item (take 16 rest))
unfolding esd_items
one_more m rest = refl

pub read_more : (items : List EsdItem) (k count : ℕ) (rest bytes : List ℕ) (i : EsdItem) → k < count → count ≤ 3 → esd_item (take 16 rest) ≡ Some i → IsEsdItem i
    → ReadItems items k count rest bytes → ReadItems (set items k i) (k + 1) count (drop 16 rest) bytes
read_more items k count rest bytes i lt most e fits far =
    let within : k < length items = omega (arith, far.places) in
    let more : take (k + 1) (set items k i) ≡ take k items ++ i ∷ [] = take_more_set items k i within in
    let left : count - k ≡ suc (count - (k + 1)) = omega arith in
    let step : esd_items (count - k) rest ≡ option_map (λ xs. i ∷ xs) (esd_items (count - (k + 1)) (drop 16 rest))
    = ap (λ n. esd_items n rest) left ∙ one_more (count - (k + 1)) rest
    ∙ ap (option_and_then (λ (item : EsdItem). option_map (λ xs. item ∷ xs) (esd_items (count - (k + 1)) (drop 16 rest)))) e in
    record {
      front = ap (λ t. behind t (esd_items (count - (k + 1)) (drop 16 rest))) more
          ∙ sym (behind_more (take k items) i (esd_items (count - (k + 1)) (drop 16 rest))) ∙ ap (behind (take k items)) (sym step) ∙ far.front;
      unused = drop-set-lt (k + 1) items k i (omega arith) ∙ sym (drop-drop 1 k items) ∙ ap (drop 1) far.unused ∙ drop-replicate 1 (3 - k) unused_esd
          ∙ ap (λ n. replicate n unused_esd) (let same : 3 - k - 1 ≡ 3 - (k + 1) = omega arith in same);
      places = length-set items k i ∙ far.places;
      room = omega (arith, far.room, length-drop 16 rest);
      each = subst (AllByRecursion IsEsdItem) (sym more) (each_more IsEsdItem (take k items) i far.each fits);
    }

pub read_fault : (items : List EsdItem) (k count : ℕ) (rest bytes : List ℕ) → k < count → esd_item (take 16 rest) ≡ None → ReadItems items k count rest bytes → esd_items count bytes ≡ None
read_fault items k count rest bytes lt e far =
    let left : count - k ≡ suc (count - (k + 1)) = omega arith in
    sym far.front ∙ ap (λ n. behind (take k items) (esd_items n rest)) left ∙ ap (behind (take k items)) (one_more (count - (k + 1)) rest)
    ∙ ap (λ o. behind (take k items) (option_and_then (λ (item : EsdItem). option_map (λ xs. item ∷ xs) (esd_items (count - (k + 1)) (drop 16 rest))) o)) e

pub read_all : (items : List EsdItem) (k count : ℕ) (rest bytes : List ℕ) → count ≡ k → ReadItems items k count rest bytes → esd_items count bytes ≡ Some (take count items)
unfolding esd_items
read_all items k count rest bytes done far =
    let none : count - k ≡ 0 = omega arith in
    sym far.front ∙ ap (λ n. behind (take k items) (esd_items n rest)) none ∙ ap Some (append-nil (take k items) ∙ ap (λ n. take n items) (sym done))

pub fills : (items : List EsdItem) (k count : ℕ) (rest bytes : List ℕ) → count ≡ k → count ≤ 3 → ReadItems items k count rest bytes → Ok items ≡ or_bad_type (option_map (filled 3 unused_esd) (esd_items count bytes))
fills items k count rest bytes done most far =
    let len : length (take count items) ≡ count = omega (arith, length-take count items, far.places) in
    let unused : drop count items ≡ replicate (3 - count) unused_esd = ap (λ n. drop n items) done ∙ far.unused ∙ ap (λ n. replicate (3 - n) unused_esd) (sym done) in
    sym (ap (λ o. or_bad_type (option_map (filled 3 unused_esd) o)) (read_all items k count rest bytes done far) ∙ ap Ok (filled_again unused_esd 3 count items len unused))

pub refused : (count : ℕ) (bytes : List ℕ) (fault : CardFault) → esd_items count bytes ≡ None → fault ≡ BadEsdType → Err fault ≡ or_bad_type (option_map (filled 3 unused_esd) (esd_items count bytes))
refused count bytes fault e is = ap Err is ∙ sym (ap (λ o. or_bad_type (option_map (filled 3 unused_esd) o)) e)

-- ---- the card that is read

abbrev esd_of : ℕ → ℕ → List EsdItem → Result EsdCard CardFault
esd_of esdid count items = Ok (record { esdid = esdid; count = count; items = items })

pub card_read : (n esdid : ℕ) (card : List ℕ) (o : Option (List EsdItem)) (items : List EsdItem) → esdid ≡ number_in 15 16 card → Ok items ≡ or_bad_type (option_map (filled 3 unused_esd) o)
    → Ok (record { esdid = esdid; count = n; items = items }) ≡ esd_with n card o
card_read n esdid card (Some xs) items is e = ap (λ k. esd_of k n items) is ∙ ap (esd_of (number_in 15 16 card) n) (let same : items ≡ filled 3 unused_esd xs = cc in same)
card_read n esdid card None items is e = absurd cc

pub card_refused : (n : ℕ) (card : List ℕ) (o : Option (List EsdItem)) (fault : CardFault) → Err fault ≡ or_bad_type (option_map (filled 3 unused_esd) o) → Err fault ≡ esd_with n card o
card_refused n card (Some xs) fault e = absurd cc
card_refused n card None fault e = ap Err (let same : fault ≡ BadEsdType = cc in same)

pub good_size : (card : List ℕ) (size : ℕ) → size ≡ number_in 11 12 card → is_esd_size size ≡ true → esd_card card ≡ esd_with (size / 16) card (esd_items (size / 16) (drop 16 card))
unfolding esd_card
good_size card size is good =
    subst (λ n. cond (is_esd_size n) (esd_with (n / 16) card (esd_items (n / 16) (drop 16 card))) (Err BadCount) ≡ esd_with (size / 16) card (esd_items (size / 16) (drop 16 card))) is
    (chosen_true (is_esd_size size) _ (Err BadCount) good)

-- ---- the loop that spells

pub record SpelledItems (body : List ℕ) (end k : ℕ) (items : List EsdItem) : Type 0 where
  pub written : take end body ≡ flat_map esd_bytes (take k items)
  pub size : end ≡ 16 * k
  pub long : AllByRecursion HasLongName (take k items)

pub spelled_more : (body next : List ℕ) (end k : ℕ) (items : List EsdItem) (i : EsdItem) → k < length items → get_or items k i ≡ i
    → take (end + 16) next ≡ take end body ++ esd_bytes i → HasLongName i → SpelledItems body end k items → SpelledItems next (end + 16) (k + 1) items
spelled_more body next end k items i lt is put long far =
    let more : take (k + 1) items ≡ take k items ++ i ∷ [] = take_more items k i lt ∙ ap (λ x. take k items ++ x ∷ []) is in
    record {
      written = put ∙ ap (λ t. t ++ esd_bytes i) far.written ∙ flat_map_more esd_bytes [] (take k items) i ∙ ap (flat_map esd_bytes) (sym more);
      size = omega (arith, far.size);
      long = subst (AllByRecursion HasLongName) (sym more) (each_more HasLongName (take k items) i far.long long);
    }

abbrev pub with_items : ℕ → ℕ → List ℕ → List ℕ
with_items count esdid bytes = card_with (head esd_type (blanks 3) (big_bytes 2 (16 * count)) (big_bytes 2 esdid) ++ bytes)

-- the size that is spelled, and the number of items that it stands for
sizes : (n : ℕ) → 1 ≤ n → n ≤ 3 → is_esd_size (16 * n) ≡ true
sizes zero some most = absurd (omega arith)
sizes (suc zero) some most = refl
sizes (suc (suc zero)) some most = refl
sizes (suc (suc (suc zero))) some most = refl
sizes (suc (suc (suc (suc n)))) some most = absurd (omega arith)

pub esd_again : (e : EsdCard) → length (take e.count e.items) ≡ e.count → AllByRecursion HasLongName (take e.count e.items) → IsEsdCard e → esd_card (card_with (esd_text e)) ≡ Ok e
esd_again e len long fits =
    let items = take e.count e.items in
    let card = card_with (esd_text e) in
    let size : 16 * e.count ≡ number_in 11 12 card = sym (two_back (16 * e.count) [] (omega (arith, fits.most))) in
    let count : 16 * e.count / 16 ≡ e.count = omega arith in
    let esdid : number_in 15 16 card ≡ e.esdid = two_back e.esdid [] fits.esdid in
    let read : esd_items e.count (drop 16 card) ≡ Some items = ap (λ n. esd_items n (drop 16 card)) (sym len) ∙ items_again items _ fits.items long in
    good_size card (16 * e.count) size (sizes e.count fits.some fits.most) ∙ ap (λ n. esd_with n card (esd_items n (drop 16 card))) count ∙ ap (esd_with e.count card) read
    ∙ ap (λ n. esd_of n e.count (filled 3 unused_esd items)) esdid ∙ ap (esd_of e.esdid e.count) (filled_again unused_esd 3 e.count e.items len fits.unused)
