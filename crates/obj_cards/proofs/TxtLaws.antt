-- A TXT card that was spelled is read again.
use Rattle.std.proofs.Common.{◌≡◌, ℕ, leb, true, List, [], length, take, drop, Result, Ok, Err, ap, ◌∙◌, arith}
use Rattle.std.proofs.lemmas.Bool.{le-leb}
use Rattle.std.proofs.lemmas.List.{take_at}
use Rattle.obj_cards.specs.declared.card.TxtCard.{TxtCard}
use Rattle.obj_cards.specs.declared.fault.CardFault.{CardFault}
use Rattle.obj_cards.specs.declared.fault.CardFault.TheVariants.{BadCount}
use Rattle.obj_cards.specs.Columns.{number_in, filled, card_with}
use Rattle.obj_cards.specs.Txt.{txt_text, txt_card, IsTxtCard}
use Rattle.obj_cards.proofs.Laying.{two_back, three_back, filled_again, chosen_true}

abbrev made : ℕ → ℕ → ℕ → List ℕ → Result TxtCard CardFault
made address esdid count bytes = Ok (record { address = address; esdid = esdid; count = count; bytes = bytes })

same : (a b c d : ℕ) (xs : List ℕ) (t : TxtCard) → a ≡ t.address → b ≡ t.esdid → c ≡ t.count → xs ≡ t.bytes → made a b c xs ≡ Ok t
same a b c d xs t p q r s = ap (λ v. made v b c xs) p ∙ ap (λ v. made t.address v c xs) q ∙ ap (λ v. made t.address t.esdid v xs) r ∙ ap (made t.address t.esdid t.count) s

pub txt_again : (t : TxtCard) → length (take t.count t.bytes) ≡ t.count → IsTxtCard t → txt_card (card_with (txt_text t)) ≡ Ok t
unfolding txt_card
txt_again t len fits =
    let card = card_with (txt_text t) in
    let count : number_in 11 12 card ≡ t.count = two_back t.count [] (omega (arith, fits.count)) in
    let address : number_in 6 8 card ≡ t.address = three_back t.address [] fits.address in
    let esdid : number_in 15 16 card ≡ t.esdid = two_back t.esdid [] fits.esdid in
    let few : leb (number_in 11 12 card) 56 ≡ true = le-leb _ _ (rw count fits.count) in
    let text : take (number_in 11 12 card) (drop 16 card) ≡ take t.count t.bytes = ap (λ k. take k (drop 16 card)) count ∙ take_at (take t.count t.bytes) _ t.count len in
    let whole : filled 56 0 (take (number_in 11 12 card) (drop 16 card)) ≡ t.bytes = ap (filled 56 0) text ∙ filled_again 0 56 t.count t.bytes len fits.unused in
    chosen_true (leb (number_in 11 12 card) 56) _ (Err BadCount) few ∙ same _ _ _ 0 _ t address esdid count whole
