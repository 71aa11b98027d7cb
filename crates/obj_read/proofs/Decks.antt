-- A deck read card by card from the facts of the cards before.
use Rattle.std.proofs.Common.{arith, ◌≡◌, ℕ, ◌+◌, List, [], ◌∷◌, ◌++◌, length, ◌<◌, drop, get_or, subst, add-one, drop-cons, Option, Some, None, Result, Ok, Err, refl, sym, ◌∙◌, ap, length-append}
use Rattle.std.specs.List.{filter_map}
use Rattle.std.proofs.lemmas.Grind.{flat_map-append}
use Rattle.std.proofs.lemmas.List.{append-nil}
use Rattle.std.proofs.lemmas.List.Elements.{filter_map-append}
use Rattle.le_bytes.specs.declared.card_what.CardWhat.{CardWhat}
use Rattle.le_bytes.specs.declared.card_what.CardWhat.TheVariants.{NoEnd}
use Rattle.obj_cards.specs.declared.card.Card.{Card}
use Rattle.obj_cards.specs.declared.card.Card.TheVariants.{Esd, Txt, Rld, End, Sym, Statement, Comment}
use Rattle.obj_cards.specs.declared.fault.CardFault.{CardFault}
use Rattle.obj_cards.specs.declared.card.TxtCard.{TxtCard}
use Rattle.obj_cards.specs.declared.card.EsdCard.{EsdCard}
use Rattle.obj_cards.specs.declared.card.RldCard.{RldCard}
use Rattle.obj_cards.specs.declared.card.EndCard.{EndCard}
use Rattle.obj_cards.specs.Cards.{card_of}
use Rattle.obj_read.specs.declared.facts.Facts.{Facts}
use Rattle.obj_read.specs.Facts.{items_of, items_on, texts_of, text_on, terms_of, terms_on}
use Rattle.obj_read.specs.Decks.{judged, unless_faulty, deck_after, deck_of}
use Rattle.obj_cards.specs.declared.card.EndStart.{EndStart}
use Rattle.sym_mod.specs.declared.module.SymModule.{SymModule}
use Rattle.obj_read.specs.declared.gathering.Step.{Step}
use Rattle.obj_read.specs.declared.fault.ObjFault.{ObjFault}
use Rattle.obj_read.specs.declared.fault.Wrong.{Wrong}
use Rattle.obj_read.specs.declared.fault.Wrong.TheVariants.{Card as WrongCard, Memory}
use Rattle.obj_read.specs.Wrongs.{at_place}
use Rattle.obj_read.specs.Readings.{Reads}
use Rattle.obj_read.specs.Steps.{facts_of, fault_in, after, unless, step_of, next, deck_from, made_of, Steps, goes_on}

drop_at : {X : Type 0} (k : ℕ) (xs : List X) (d : X) → k < length xs → drop k xs ≡ get_or xs k d ∷ drop (k + 1) xs
drop_at k xs d within = rw (add-one) (drop-cons xs k d within)

drop_everything : {X : Type 0} (xs : List X) → drop (length xs) xs ≡ []
drop_everything [] = refl
drop_everything (x ∷ xs) = drop_everything xs

facts_more : (before : List Card) (card : Card)
    → facts_of (before ++ card ∷ [])
    ≡ record { items = items_of before ++ items_on card; texts = texts_of before ++ filter_map text_on (card ∷ []); terms = terms_of before ++ terms_on card }
facts_more before card =
    let a : items_of (before ++ card ∷ []) ≡ items_of before ++ items_on card =
    flat_map-append items_on before (card ∷ []) ∙ ap (λ xs. items_of before ++ xs) (append-nil (items_on card)) in
    let b : texts_of (before ++ card ∷ []) ≡ texts_of before ++ filter_map text_on (card ∷ []) = filter_map-append text_on before (card ∷ []) in
    let c : terms_of (before ++ card ∷ []) ≡ terms_of before ++ terms_on card =
    flat_map-append terms_on before (card ∷ []) ∙ ap (λ xs. terms_of before ++ xs) (append-nil (terms_on card)) in
    cc

abbrev pub Same : List (List ℕ) → List Card → Type 0
Same cards before = deck_after before cards ≡ deck_from (facts_of before) (length before) cards

-- the cards that follow, after one more card
abbrev pub GoesOn : List (List ℕ) → List Card → Card → Type 0
GoesOn cards before card = deck_after (before ++ card ∷ []) cards ≡ deck_from (after (facts_of before) card) (length before + 1) cards

go_on : (cards : List (List ℕ)) (before : List Card) (card : Card) → Same cards (before ++ card ∷ [])
    → facts_of (before ++ card ∷ []) ≡ after (facts_of before) card → GoesOn cards before card
go_on cards before card same is =
    same
    ∙ (ap (λ g. deck_from g (length (before ++ card ∷ [])) cards) is
    ∙ ap (λ n. deck_from (after (facts_of before) card) n cards) (length-append before (card ∷ [])))

abbrev pub Unless : List (List ℕ) → List Card → Card → Option CardWhat → Type 0
Unless cards before card o =
    unless_faulty before (λ read. deck_after read cards) card o
    ≡ next (λ g. deck_from g (length before + 1) cards) (length before) (unless (facts_of before) card o)

esd_same : (cards : List (List ℕ)) (before : List Card) (e : EsdCard) (o : Option CardWhat) → GoesOn cards before (Esd e) → Unless cards before (Esd e) o
esd_same cards before e (Some what) h = refl
esd_same cards before e None h = h

txt_same : (cards : List (List ℕ)) (before : List Card) (t : TxtCard) (o : Option CardWhat) → GoesOn cards before (Txt t) → Unless cards before (Txt t) o
txt_same cards before t (Some what) h = refl
txt_same cards before t None h = h

rld_same : (cards : List (List ℕ)) (before : List Card) (r : RldCard) (o : Option CardWhat) → GoesOn cards before (Rld r) → Unless cards before (Rld r) o
rld_same cards before r (Some what) h = refl
rld_same cards before r None h = h

end_same : (cards : List (List ℕ)) (before : List Card) (e : EndCard) (o : Option CardWhat) → Unless cards before (End e) o
end_same cards before e (Some what) = refl
end_same cards before e None = refl

judged_same : (cards : List (List ℕ)) (before : List Card) → ((b : List Card) → Same cards b) → (r : Result Card CardFault)
    → judged before (λ read. deck_after read cards) r
    ≡ next (λ g. deck_from g (length before + 1) cards) (length before) (step_of (facts_of before) r)
judged_same cards before same (Err fault) = refl
judged_same cards before same (Ok (Esd e)) =
    esd_same cards before e (fault_in (facts_of before) (Esd e))
    (go_on cards before (Esd e) (same (before ++ Esd e ∷ [])) (facts_more before (Esd e) ∙ rw (append-nil (texts_of before), append-nil (terms_of before)) refl))
judged_same cards before same (Ok (Txt t)) =
    txt_same cards before t (fault_in (facts_of before) (Txt t))
    (go_on cards before (Txt t) (same (before ++ Txt t ∷ [])) (facts_more before (Txt t) ∙ rw (append-nil (items_of before), append-nil (terms_of before)) refl))
judged_same cards before same (Ok (Rld r)) =
    rld_same cards before r (fault_in (facts_of before) (Rld r))
    (go_on cards before (Rld r) (same (before ++ Rld r ∷ [])) (facts_more before (Rld r) ∙ rw (append-nil (items_of before), append-nil (texts_of before)) refl))
judged_same cards before same (Ok (End e)) = end_same cards before e (fault_in (facts_of before) (End e))
judged_same cards before same (Ok Sym) =
    go_on cards before Sym (same (before ++ Sym ∷ [])) (facts_more before Sym ∙ rw (append-nil (items_of before), append-nil (texts_of before), append-nil (terms_of before)) refl)
judged_same cards before same (Ok (Statement text)) = refl
judged_same cards before same (Ok Comment) = refl

pub deck_same : (cards : List (List ℕ)) (before : List Card) → Same cards before
unfolding deck_after deck_from
deck_same [] before = refl
deck_same (bytes ∷ cards) before = judged_same cards before (λ b. deck_same cards b) (card_of bytes)

pub deck_is : (cards : List (List ℕ)) → deck_of cards ≡ deck_from (record { items = []; texts = []; terms = [] }) 0 cards
deck_is cards = deck_same cards []

pub deck_step : (f : Facts) (n : ℕ) (bytes : List ℕ) (cards : List (List ℕ))
    → deck_from f n (bytes ∷ cards) ≡ next (λ g. deck_from g (n + 1) cards) n (step_of f (card_of bytes))
unfolding deck_from
deck_step f n bytes cards = refl

pub deck_end : (f : Facts) (n : ℕ) → deck_from f n [] ≡ Err (n, NoEnd)
unfolding deck_from
deck_end f n = refl

-- ---- what a deck comes to, from the card at k on

module _ (cards : List (List ℕ)) (f : Facts) (k : ℕ) (d : List ℕ) (rest : deck_from f k (drop k cards) ≡ deck_of cards) (within : k < length cards) where
  at_card : deck_of cards ≡ next (λ g. deck_from g (k + 1) (drop (k + 1) cards)) k (step_of f (card_of (get_or cards k d)))
  at_card = sym rest ∙ (ap (λ xs. deck_from f k xs) (drop_at k cards d within) ∙ deck_step f k (get_or cards k d) (drop (k + 1) cards))

  pub ends_at : (wrong : Wrong) (r : ObjFault) → r ≡ at_place k wrong → Steps (step_of f (card_of (get_or cards k d))) (Err wrong) → Reads cards (Err r)
  ends_at (WrongCard what) r is h =
      subst (λ r. Reads cards (Err r)) (sym is)
      (at_card ∙ ap (λ e. next (λ g. deck_from g (k + 1) (drop (k + 1) cards)) k e) h, omega (arith, within))
  ends_at Memory r is h = subst (λ r. Reads cards (Err r)) (sym is) tt

  pub whole_at : (step : Step) (start : EndStart) (m : SymModule) → Steps (step_of f (card_of (get_or cards k d))) (Ok step)
      → step.start ≡ Some start → m ≡ made_of step.facts start → deck_of cards ≡ Ok (m, k + 1)
  whole_at step start m h is made =
      at_card ∙ (ap (λ e. next (λ g. deck_from g (k + 1) (drop (k + 1) cards)) k e) h
      ∙ (ap (λ o. goes_on (λ g. deck_from g (k + 1) (drop (k + 1) cards)) k step.facts o) is ∙ ap (λ m. Ok (m, k + 1)) (sym made)))

  pub more_at : (step : Step) → Steps (step_of f (card_of (get_or cards k d))) (Ok step)
      → step.start ≡ None → deck_from step.facts (k + 1) (drop (k + 1) cards) ≡ deck_of cards
  more_at step h is = sym
      (at_card ∙ (ap (λ e. next (λ g. deck_from g (k + 1) (drop (k + 1) cards)) k e) h
      ∙ ap (λ o. goes_on (λ g. deck_from g (k + 1) (drop (k + 1) cards)) k step.facts o) is))

pub nothing_left : (cards : List (List ℕ)) (f : Facts) (k : ℕ) → deck_from f k (drop k cards) ≡ deck_of cards → k ≡ length cards
    → deck_of cards ≡ Err (length cards, NoEnd)
nothing_left cards f k rest all =
    sym rest ∙ (ap (λ xs. deck_from f k xs) (ap (λ n. drop n cards) all ∙ drop_everything cards) ∙ (deck_end f k ∙ ap (λ n. Err (n, NoEnd)) all))
