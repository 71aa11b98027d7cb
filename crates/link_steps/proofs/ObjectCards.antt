-- An object card begins a deck.
use Rattle.std.proofs.Common.{◌≡◌, ℕ, Bool, true, false, if◌then◌else◌, List, slice_index, Result, Ok, Err, refl}
use Rattle.std.specs.Str.{bytes_eq}
use Rattle.obj_cards.specs.Cards.{as_card, object_card, card_of}
use Rattle.obj_cards.specs.Columns.{columns, esd_type, txt_type, rld_type, end_type, sym_type}
use Rattle.obj_cards.specs.Esd.{esd_card}
use Rattle.obj_cards.specs.Txt.{txt_card}
use Rattle.obj_cards.specs.Rld.{rld_card}
use Rattle.obj_cards.specs.declared.card.Card.{Card}
use Rattle.obj_cards.specs.declared.card.EsdCard.{EsdCard}
use Rattle.obj_cards.specs.declared.card.TxtCard.{TxtCard}
use Rattle.obj_cards.specs.declared.card.RldCard.{RldCard}
use Rattle.obj_cards.specs.declared.card.Card.TheVariants.{Esd, Txt, Rld}
use Rattle.obj_cards.specs.declared.fault.CardFault.{CardFault}
use Rattle.link_steps.specs.declared.beginning.Beginning.TheVariants.{ADeck}
use Rattle.link_steps.specs.Unfolding.{begun_by}

of_esd : (r : Result EsdCard CardFault) → begun_by (as_card Esd r) ≡ ADeck
of_esd (Ok x) = refl
of_esd (Err fault) = refl

of_txt : (r : Result TxtCard CardFault) → begun_by (as_card Txt r) ≡ ADeck
of_txt (Ok x) = refl
of_txt (Err fault) = refl

of_rld : (r : Result RldCard CardFault) → begun_by (as_card Rld r) ≡ ADeck
of_rld (Ok x) = refl
of_rld (Err fault) = refl

either : (b : Bool) (x y : Result Card CardFault) → begun_by x ≡ ADeck → begun_by y ≡ ADeck → begun_by (if b then x else y) ≡ ADeck
either true x y first second = first
either false x y first second = second

of_object : (kind card : List ℕ) → begun_by (object_card kind card) ≡ ADeck
of_object kind card =
    either (bytes_eq kind esd_type) _ _ (of_esd (esd_card card))
    (either (bytes_eq kind txt_type) _ _ (of_txt (txt_card card))
    (either (bytes_eq kind rld_type) _ _ (of_rld (rld_card card))
    (either (bytes_eq kind end_type) _ _ refl
    (either (bytes_eq kind sym_type) _ _ refl refl))))

pub object_begins : (card : List ℕ) → slice_index card 0 ≡ 2 → begun_by (card_of card) ≡ ADeck
unfolding card_of
object_begins card is = rw is (of_object (columns 2 4 card) card)
