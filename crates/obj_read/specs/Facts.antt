-- What the cards of a deck say, taken together: which items there are, which text, which terms of constants.
use Rattle.std.specs.Prelude.{ℕ, ◌+◌, Bool, true, false, not, ◌&&◌, ◌==◌, if◌then◌else◌, List, [], ◌∷◌, take, find, flat_map, filter_map, Option, Some, None, position}
use Rattle.obj_cards.specs.declared.card.Card.{Card}
use Rattle.obj_cards.specs.declared.card.Card.TheVariants.{Esd, Txt, Rld}
use Rattle.obj_cards.specs.declared.card.EsdKind.{EsdKind}
use Rattle.obj_cards.specs.declared.card.EsdKind.TheVariants.{Sd, Ld, Pc, Pr}
use Rattle.obj_cards.specs.declared.card.EsdItem.{EsdItem}
use Rattle.obj_cards.specs.declared.card.TxtCard.{TxtCard}
use Rattle.obj_cards.specs.declared.card.CardRld.{CardRld}
use Rattle.obj_read.specs.declared.numbered.Numbered.{Numbered}

-- ---- kinds of items

abbrev pub is_label : EsdKind → Bool
is_label Ld = true
is_label _ = false

-- a control section: one that may have text and constants
abbrev pub has_text : EsdKind → Bool
has_text Sd = true
has_text Pc = true
has_text _ = false

abbrev pub is_register : EsdKind → Bool
is_register Pr = true
is_register _ = false

-- what an address constant may refer to: all but labels and registers
abbrev pub is_referable : EsdKind → Bool
is_referable kind = not (is_label kind) && not (is_register kind)

-- ---- items

-- the items of one ESD card: those that are no labels are numbered from the card's ESDID on
abbrev pub numbered : ℕ → List EsdItem → List Numbered
numbered n [] = []
numbered n (i ∷ items) =
    if is_label i.kind
    then record { esdid = 0; item = i } ∷ numbered n items
    else record { esdid = n; item = i } ∷ numbered (n + 1) items

abbrev pub items_on : Card → List Numbered
items_on (Esd e) = numbered e.esdid (take e.count e.items)
items_on _ = []

-- all items, in order
abbrev pub items_of : List Card → List Numbered
items_of cards = flat_map items_on cards

-- the item is no label and has the ESDID
abbrev pub has_esdid : ℕ → Numbered → Bool
has_esdid id x = not (is_label x.item.kind) && x.esdid == id

-- the item that has the ESDID
abbrev pub with_esdid : ℕ → List Numbered → Option Numbered
with_esdid id items = find (has_esdid id) items

-- its place in the list of items
abbrev pub number_of : ℕ → List Numbered → Option ℕ
number_of id items = position (has_esdid id) items

-- ---- text

abbrev pub text_on : Card → Option TxtCard
text_on (Txt t) = Some t
text_on _ = None

-- all text, in order
abbrev pub texts_of : List Card → List TxtCard
texts_of cards = filter_map text_on cards

-- ---- terms of constants

abbrev pub terms_on : Card → List CardRld
terms_on (Rld r) = take r.count r.items
terms_on _ = []

-- all terms of address constants, in order
abbrev pub terms_of : List Card → List CardRld
terms_of cards = flat_map terms_on cards
