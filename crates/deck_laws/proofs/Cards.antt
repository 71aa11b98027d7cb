-- The items of a card have names of eight bytes.
use Rattle.std.proofs.Common.{arith, ◌≡◌, ℕ, zero, suc, ◌-◌, ◌*◌, ◌/◌, ◌≤◌, Bool, true, false, ◌||◌, ◌==◌, cond, List, [], ◌∷◌, length, take, drop, replicate, Option, Some, None, Result, Ok, Err, refl, sym, subst, ◌⊎◌, inl, inr, length-drop}
use Rattle.std.specs.Prelude.{IfOk, slice_index, ⊤}
use Rattle.std.specs.List.{AllByRecursion}
use Rattle.std.specs.Option.{option_map, option_and_then}
use Rattle.std.proofs.lemmas.Bool.{eqb-true}
use Rattle.std.specs.Str.{bytes_eq}
use Rattle.std.proofs.lemmas.List.{length-take-le}
use Rattle.obj_cards.specs.declared.card.Card.{Card}
use Rattle.obj_cards.specs.declared.card.Card.TheVariants.{Esd, Txt, Rld, End, Sym, Statement, Comment}
use Rattle.obj_cards.specs.declared.card.EsdKind.{EsdKind}
use Rattle.obj_cards.specs.declared.card.EsdKind.TheVariants.{Sd, Ld, Er, Pc, Cm, Pr, Wx}
use Rattle.obj_cards.specs.declared.card.EsdItem.{EsdItem}
use Rattle.obj_cards.specs.declared.card.EsdCard.{EsdCard}
use Rattle.obj_cards.specs.declared.fault.CardFault.{CardFault}
use Rattle.obj_cards.specs.declared.fault.CardFault.TheVariants.{UnknownCard, BadCount}
use Rattle.obj_cards.specs.Columns.{columns, number_in, are_blank, filled, esd_type, txt_type, rld_type, end_type, sym_type}
use Rattle.obj_cards.specs.Esd.{unused_esd, kind_of, name_in, suits, item_of_kind, esd_item, esd_items, esd_with, is_esd_size, esd_card}
use Rattle.obj_cards.specs.Txt.{txt_card}
use Rattle.obj_cards.specs.Rld.{rld_card}
use Rattle.obj_cards.specs.End.{end_card}
use Rattle.obj_cards.specs.Cards.{as_card, object_card, statement_card, card_of}
use Rattle.member_laws.specs.Linkable.{HasEightBytes}
use Rattle.esd_lists.proofs.Each.{all_join, either_true}

some_same : {A : Type 0} {x y : A} → Some x ≡ Some y → x ≡ y
some_same e = cc

-- ---- one item

abbrev pub IsNamedItem : EsdItem → Type 0
IsNamedItem x = HasEightBytes x.name

name_whole : (b : List ℕ) → 8 ≤ length b → HasEightBytes (name_in b)
name_whole b long = length-take-le 8 b long

item_whole : (kind : EsdKind) (b : List ℕ) → 8 ≤ length b → IsNamedItem (item_of_kind kind b)
item_whole Sd b long = name_whole b long
item_whole Ld b long = name_whole b long
item_whole Er b long = name_whole b long
item_whole Pc b long = refl
item_whole Cm b long = name_whole b long
item_whole Pr b long = name_whole b long
item_whole Wx b long = name_whole b long

kind_whole : (b : List ℕ) (o : Option EsdKind) (x : EsdItem) → 8 ≤ length b
    → option_and_then (λ kind. cond (suits kind b) (Some (item_of_kind kind b)) None) o ≡ Some x → IsNamedItem x
kind_whole b None x long e = absurd cc
kind_whole b (Some kind) x long e = chosen (suits kind b) e
  where
    chosen : (s : Bool) → cond s (Some (item_of_kind kind b)) None ≡ Some x → IsNamedItem x
    chosen true is = subst IsNamedItem (some_same is) (item_whole kind b long)
    chosen false is = absurd cc

item_named : (b : List ℕ) (x : EsdItem) → 8 ≤ length b → esd_item b ≡ Some x → IsNamedItem x
unfolding esd_item
item_named b x long e = kind_whole b (kind_of (slice_index b 8)) x long e

-- ---- the items of a card

sixteen : (b : List ℕ) → 16 ≤ length b → 8 ≤ length (take 16 b)
sixteen b long =
    let is : length (take 16 b) ≡ 16 = length-take-le 16 b long in
    omega (arith, is)

joined : (x : Option EsdItem) (more : Option (List EsdItem)) (xs : List EsdItem) → ((y : EsdItem) → x ≡ Some y → IsNamedItem y) → ((ys : List EsdItem) → more ≡ Some ys → AllByRecursion IsNamedItem ys)
    → option_and_then (λ item. option_map (λ rest. item ∷ rest) more) x ≡ Some xs → AllByRecursion IsNamedItem xs
joined None more xs one all e = absurd cc
joined (Some x) None xs one all e = absurd cc
joined (Some x) (Some ys) xs one all e = subst (AllByRecursion IsNamedItem) (some_same e) (one x refl, all ys refl)

items_named : (n : ℕ) (b : List ℕ) (xs : List EsdItem) → 16 * n ≤ length b → esd_items n b ≡ Some xs → AllByRecursion IsNamedItem xs
unfolding esd_items
items_named zero b xs long e = subst (AllByRecursion IsNamedItem) (some_same e) tt
items_named (suc n) b xs long e =
    let rest : length (drop 16 b) ≡ length b - 16 = length-drop 16 b in
    joined (esd_item (take 16 b)) (esd_items n (drop 16 b)) xs
    (λ y is. item_named (take 16 b) y (sixteen b (omega (arith, long))) is)
    (λ ys is. items_named n (drop 16 b) ys (omega (arith, long, rest)) is) e

unused_named : (n : ℕ) → AllByRecursion IsNamedItem (replicate n unused_esd)
unused_named zero = tt
unused_named (suc n) = (refl, unused_named n)

pub take_all : {A : Type 0} (P : A → Type 0) (n : ℕ) (xs : List A) → AllByRecursion P xs → AllByRecursion P (take n xs)
take_all P zero xs all = tt
take_all P (suc n) [] all = tt
take_all P (suc n) (x ∷ xs) all = (all.0, take_all P n xs all.1)

abbrev HasNamedItems : EsdCard → Type 0
HasNamedItems e = AllByRecursion IsNamedItem (take e.count e.items)

with_items : (n : ℕ) (card : List ℕ) (o : Option (List EsdItem)) → ((xs : List EsdItem) → o ≡ Some xs → AllByRecursion IsNamedItem xs) → IfOk (esd_with n card o) HasNamedItems
with_items n card None all = tt
with_items n card (Some xs) all =
    take_all IsNamedItem n (filled 3 unused_esd xs)
    (all_join IsNamedItem xs (replicate (3 - length xs) unused_esd) (all xs refl) (unused_named (3 - length xs)))

pub three : (n : ℕ) → is_esd_size n ≡ true → n / 16 ≤ 3
three n e = chosen (either_true (n == 16 || n == 32) (n == 48) e)
  where
    at : (k : ℕ) → (n == k) ≡ true → k / 16 ≤ 3 → n / 16 ≤ 3
    at k is low = subst (λ j. j / 16 ≤ 3) (sym (eqb-true n k is)) low

    less : ((n == 16) ≡ true) ⊎ ((n == 32) ≡ true) → n / 16 ≤ 3
    less (inl is) = at 16 is (omega arith)
    less (inr is) = at 32 is (omega arith)

    chosen : ((n == 16 || n == 32) ≡ true) ⊎ ((n == 48) ≡ true) → n / 16 ≤ 3
    chosen (inl is) = less (either_true (n == 16) (n == 32) is)
    chosen (inr is) = at 48 is (omega arith)

pub chosen_ok : {X : Type 0} (P : X → Type 0) (b : Bool) (r s : Result X CardFault) → (b ≡ true → IfOk r P) → (b ≡ false → IfOk s P) → IfOk (cond b r s) P
chosen_ok P true r s yes_ no_ = yes_ refl
chosen_ok P false r s yes_ no_ = no_ refl

esd_named : (card : List ℕ) → length card ≡ 80 → IfOk (esd_card card) HasNamedItems
unfolding esd_card
esd_named card long =
    let size : ℕ = number_in 11 12 card in
    let rest : length (drop 16 card) ≡ length card - 16 = length-drop 16 card in
    chosen_ok HasNamedItems (is_esd_size size) (esd_with (size / 16) card (esd_items (size / 16) (drop 16 card))) (Err BadCount)
    (λ good. with_items (size / 16) card (esd_items (size / 16) (drop 16 card))
    (λ xs is. items_named (size / 16) (drop 16 card) xs (room (size / 16) (length (drop 16 card)) (three size good) (omega (arith, rest, long))) is))
    (λ bad. tt)
  where
    room : (n m : ℕ) → n ≤ 3 → m ≡ 64 → 16 * n ≤ m
    room n m low is = omega (arith, low, is)

-- ---- a card

-- the items of an ESD card have whole names
abbrev pub IsNamedCard : Card → Type 0
IsNamedCard (Esd e) = AllByRecursion IsNamedItem (take e.count e.items)
IsNamedCard _ = ⊤

as_named : {X : Type 0} (P : X → Type 0) (f : X → Card) (r : Result X CardFault) → ((x : X) → P x → IsNamedCard (f x)) → IfOk r P → IfOk (as_card f r) IsNamedCard
as_named P f (Ok x) gives h = gives x h
as_named P f (Err fault) gives h = tt

any_ok : {X : Type 0} (r : Result X CardFault) → IfOk r (λ x. ⊤)
any_ok (Ok x) = tt
any_ok (Err fault) = tt

object_named : (kind card : List ℕ) → length card ≡ 80 → IfOk (object_card kind card) IsNamedCard
object_named kind card long =
    chosen_ok IsNamedCard (bytes_eq kind esd_type) _ _ (λ e. as_named HasNamedItems (λ x. Esd x) (esd_card card) (λ x h. h) (esd_named card long)) (λ e.
    chosen_ok IsNamedCard (bytes_eq kind txt_type) _ _ (λ e. as_named (λ x. ⊤) (λ x. Txt x) (txt_card card) (λ x h. tt) (any_ok (txt_card card))) (λ e.
    chosen_ok IsNamedCard (bytes_eq kind rld_type) _ _ (λ e. as_named (λ x. ⊤) (λ x. Rld x) (rld_card card) (λ x h. tt) (any_ok (rld_card card))) (λ e.
    chosen_ok IsNamedCard (bytes_eq kind end_type) (Ok (End (end_card card))) _ (λ e. tt) (λ e.
    chosen_ok IsNamedCard (bytes_eq kind sym_type) (Ok Sym) (Err UnknownCard) (λ e. tt) (λ e. tt)))))

statement_named : (card : List ℕ) → IsNamedCard (statement_card card)
statement_named card = chosen (are_blank (columns 1 71 card))
  where
    chosen : (b : Bool) → IsNamedCard (cond b Comment (Statement card))
    chosen true = tt
    chosen false = tt

-- a card of 80 columns has whole names
pub card_named : (card : List ℕ) → length card ≡ 80 → IfOk (card_of card) IsNamedCard
unfolding card_of
card_named card long =
    chosen_ok IsNamedCard (slice_index card 0 == 2) _ _ (λ e. object_named (columns 2 4 card) card long) (λ e.
    chosen_ok IsNamedCard (slice_index card 0 == 64) (Ok (statement_card card)) _ (λ e. statement_named card) (λ e.
    chosen_ok IsNamedCard (slice_index card 0 == 92) (Ok Comment) (Err UnknownCard) (λ e. tt) (λ e. tt)))
