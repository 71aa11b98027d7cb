-- The fault of one term is the fault of the terms from it on.
use Rattle.std.proofs.Common.{◌≡◌, ℕ, ◌+◌, ◌<◌, List, [], ◌∷◌, ◌++◌, length, drop, take, map, get_or, Option, Err, sym, ◌∙◌, ap, add-one, drop-cons}
use Rattle.std.proofs.lemmas.List.{map-append, take_more}
use Rattle.le_bytes.specs.declared.card_what.CardWhat.{CardWhat}
use Rattle.obj_cards.specs.declared.card.CardRld.{CardRld}
use Rattle.obj_read.specs.declared.numbered.Numbered.{Numbered}
use Rattle.obj_read.specs.declared.fault.Wrong.{Wrong}
use Rattle.obj_read.specs.declared.fault.Wrong.TheVariants.{Card as WrongCard, Memory}
use Rattle.obj_read.specs.Faults.{or_else, term_fault, terms_fault}
use Rattle.obj_read.specs.Steps.{Adds}

drop_at : {X : Type 0} (k : ℕ) (xs : List X) (d : X) → k < length xs → drop k xs ≡ get_or xs k d ∷ drop (k + 1) xs
drop_at k xs d within = rw (add-one) (drop-cons xs k d within)

pub fault_at : (new now all grown : List CardRld) (items : List Numbered) (before more : List CardRld) (k : ℕ) (d : CardRld) → k < length more
    → (wrong : Wrong) (fault : Option CardWhat) → terms_fault items before (drop k more) ≡ fault
    → Adds (term_fault items before (get_or more k d)) new now (Err wrong) → Adds fault all grown (Err wrong)
fault_at new now all grown items before more k d within (WrongCard what) fault is h =
    sym is ∙ (ap (λ xs. terms_fault items before xs) (drop_at k more d within)
    ∙ ap (λ o. or_else o (terms_fault items (before ++ get_or more k d ∷ []) (drop (k + 1) more))) h)
fault_at new now all grown items before more k d within Memory fault is h = tt

pub map_more : {X Y : Type 0} (F : X → Y) (xs : List X) (i : ℕ) (d : X) (made new : List Y) (y : Y)
    → i < length xs → made ≡ map F (take i xs) → y ≡ F (get_or xs i d) → new ≡ made ++ y ∷ [] → new ≡ map F (take (i + 1) xs)
map_more F xs i d made new y within before is pushed =
    pushed ∙ (ap (λ ys. ys ++ y ∷ []) before ∙ (ap (λ y. map F (take i xs) ++ y ∷ []) is
    ∙ (sym (map-append F (take i xs) (get_or xs i d ∷ [])) ∙ ap (λ ys. map F ys) (sym (take_more xs i d within)))))
