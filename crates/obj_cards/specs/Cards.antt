-- A card of 80 columns: its one spelling, what 80 bytes give, and what can be spelled.
use Rattle.std.specs.Prelude.{◌≡◌, ℕ, false, ◌==◌, if◌then◌else◌, List, [], ◌∷◌, length, slice_index, Option, Some, None, Result, Ok, Err}
use Rattle.std.specs.Str.{bytes_eq}
use Rattle.obj_cards.specs.declared.card.Card.{Card}
use Rattle.obj_cards.specs.declared.card.Card.TheVariants.{Esd, Txt, Rld, End, Sym, Statement, Comment}
use Rattle.obj_cards.specs.declared.kind.CardKind.{CardKind}
use Rattle.obj_cards.specs.declared.kind.CardKind.TheVariants as kinds
use Rattle.obj_cards.specs.declared.fault.CardFault.{CardFault}
use Rattle.obj_cards.specs.declared.fault.CardFault.TheVariants.{UnknownCard}
use Rattle.obj_cards.specs.Columns.{columns, are_blank, blanks, card_with, head, esd_type, txt_type, rld_type, end_type, sym_type}
use Rattle.obj_cards.specs.Esd.{esd_text, esd_card, IsEsdCard}
use Rattle.obj_cards.specs.Txt.{txt_text, txt_card, IsTxtCard}
use Rattle.obj_cards.specs.Rld.{rld_text, rld_card, IsRldCard}
use Rattle.obj_cards.specs.End.{end_text, end_card, IsEndCard}

-- ---- spelling

unfoldable pub spelling : Card → List ℕ
spelling (Esd e) = card_with (esd_text e)
spelling (Txt t) = card_with (txt_text t)
spelling (Rld r) = card_with (rld_text r)
spelling (End e) = card_with (end_text e)
spelling Sym = card_with (head sym_type (blanks 3) (blanks 2) (blanks 2))
spelling (Statement text) = text
spelling Comment = card_with (92 ∷ [])

-- ---- reading

-- the value of one kind of card as a card
abbrev pub as_card : {X : Type 0} → (X → Card) → Result X CardFault → Result Card CardFault
as_card card (Ok x) = Ok (card x)
as_card card (Err fault) = Err fault

-- the card of a kind
abbrev pub card_of_kind : Option CardKind → List ℕ → Result Card CardFault
card_of_kind (Some kinds.Esd) card = as_card Esd (esd_card card)
card_of_kind (Some kinds.Txt) card = as_card Txt (txt_card card)
card_of_kind (Some kinds.Rld) card = as_card Rld (rld_card card)
card_of_kind (Some kinds.End) card = Ok (End (end_card card))
card_of_kind (Some kinds.Sym) card = Ok Sym
card_of_kind (Some kinds.Statement) card = Ok (Statement card)
card_of_kind (Some kinds.Comment) card = Ok Comment
card_of_kind None card = Err UnknownCard

-- a card with X'02' in column 1, by its type in columns 2 to 4
abbrev pub object_card : List ℕ → List ℕ → Result Card CardFault
object_card kind card =
    if bytes_eq kind esd_type then as_card Esd (esd_card card)
    else if bytes_eq kind txt_type then as_card Txt (txt_card card)
    else if bytes_eq kind rld_type then as_card Rld (rld_card card)
    else if bytes_eq kind end_type then Ok (End (end_card card))
    else if bytes_eq kind sym_type then Ok Sym
    else Err UnknownCard

-- a card with a blank in column 1: a comment where columns 1 to 71 are all blank
abbrev pub statement_card : List ℕ → Card
statement_card card = if are_blank (columns 1 71 card) then Comment else Statement card

unfoldable pub card_of : List ℕ → Result Card CardFault
card_of card =
    if slice_index card 0 == 2 then object_card (columns 2 4 card) card
    else if slice_index card 0 == 64 then Ok (statement_card card)
    else if slice_index card 0 == 92 then Ok Comment
    else Err UnknownCard

-- ---- what can be spelled

pub record IsStatement (text : List ℕ) : Type 0 where
  pub length : length text ≡ 80
  pub blank : slice_index text 0 ≡ 64
  pub something : are_blank (columns 1 71 text) ≡ false

abbrev pub IsCard : Card → Type 0
IsCard (Esd e) = IsEsdCard e
IsCard (Txt t) = IsTxtCard t
IsCard (Rld r) = IsRldCard r
IsCard (End e) = IsEndCard e
IsCard Sym = Unit {0}
IsCard (Statement text) = IsStatement text
IsCard Comment = Unit {0}
