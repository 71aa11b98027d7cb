-- A state that goes through modules goes through all their items.
use Rattle.std.proofs.Common.{◌≡◌, ℕ, suc, ◌+◌, ◌<◌, List, [], ◌∷◌, map, fold, drop, length, get_or, refl, sym, ap, ◌∙◌, arith}
use Rattle.std.proofs.Math.Seq.{drop-cons}
use Rattle.std.proofs.lemmas.List.Sums.{fold-append}
use Rattle.sym_mod.specs.declared.module.Item.{Item}
use Rattle.linking_model.specs.Kept.{Sight, sights, sights_in, sights_from}
use Rattle.esd_lists.specs.declared.reading.Reading.{Reading}
use Rattle.esd_lists.specs.Held.{as_read}
use Rattle.esd_lists.specs.Walked.{gathered_from}

gathered_on : {A : Type 0} (f : A → Sight → A) (a : A) (k : ℕ) (xs : List Reading) → gathered_from f a k xs ≡ fold f a (sights_from k (map as_read xs))
gathered_on f a k [] = refl
gathered_on f a k (r ∷ rs) =
    gathered_on f (fold f a (sights_in k r.segment 0 r.read.items)) (k + 1) rs ∙ sym (fold-append f a (sights_in k r.segment 0 r.read.items) (sights_from (k + 1) (map as_read rs)))

pub gathered_is : {A : Type 0} (f : A → Sight → A) (a : A) (xs : List Reading) → gathered_from f a 0 xs ≡ fold f a (sights (map as_read xs))
gathered_is f a xs = gathered_on f a 0 xs

pub next_walked : {A : Type 0} (f : A → Sight → A) (n : ℕ) (xs : List Reading) (r : Reading) (items : List Item) (a b all : A) → n < length xs → r ≡ get_or xs n r → items ≡ r.read.items
    → b ≡ fold f a (sights_in n r.segment 0 items) → gathered_from f a n (drop n xs) ≡ all → gathered_from f b (n + 1) (drop (n + 1) xs) ≡ all
next_walked f n xs r items a b all low here is new before =
    let same : n + 1 ≡ suc n = omega arith in
    let front : drop n xs ≡ r ∷ drop (n + 1) xs = rw same (drop-cons xs n r low ∙ ap (λ (z : Reading). z ∷ drop (suc n) xs) (sym here)) in
    let on : gathered_from f a n (drop n xs) ≡ gathered_from f (fold f a (sights_in n r.segment 0 r.read.items)) (n + 1) (drop (n + 1) xs) = ap (gathered_from f a n) front in
    rw (new, is) (sym on ∙ before)
