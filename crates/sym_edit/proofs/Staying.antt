-- The elements that stay, one after another.
use Rattle.std.proofs.Common.{◌≡◌, ℕ, ◌+◌, ◌<◌, Bool, true, false, List, [], ◌∷◌, ◌++◌, zero, suc, length, map, drop, get_or, refl, sym, ap, ◌∙◌, arith, add-one, append_assoc}
use Rattle.sym_edit.specs.Without.{remaining}

staying_from : {A : Type 0} (gone : List Bool) (xs : List A) (i : ℕ) (d : A) → i < length xs → length gone ≡ length xs → get_or gone i false ≡ false → remaining (drop i gone) (drop i xs) ≡ get_or xs i d ∷ remaining (drop (suc i) gone) (drop (suc i) xs)
staying_from gone [] i d in' long stays = absurd (omega arith)
staying_from [] (x ∷ xs) i d in' long stays = absurd (omega arith)
staying_from (g ∷ gone) (x ∷ xs) zero d in' long stays = rw stays refl
staying_from (g ∷ gone) (x ∷ xs) (suc i) d in' long stays = staying_from gone xs i d (omega arith) (omega arith) stays

going_from : {A : Type 0} (gone : List Bool) (xs : List A) (i : ℕ) → i < length xs → length gone ≡ length xs → get_or gone i false ≡ true → remaining (drop i gone) (drop i xs) ≡ remaining (drop (suc i) gone) (drop (suc i) xs)
going_from gone [] i in' long goes = absurd (omega arith)
going_from [] (x ∷ xs) i in' long goes = absurd (omega arith)
going_from (g ∷ gone) (x ∷ xs) zero in' long goes = rw goes refl
going_from (g ∷ gone) (x ∷ xs) (suc i) in' long goes = going_from gone xs i (omega arith) (omega arith) goes

-- an element that stays is put at the end
pub stays_next : {A B : Type 0} (f : A → B) (gone : List Bool) (xs : List A) (i : ℕ) (d : A) (made new all : List B) (y : B) → i < length xs → length gone ≡ length xs → get_or gone i false ≡ false → y ≡ f (get_or xs i d) → new ≡ made ++ y ∷ [] → made ++ map f (remaining (drop i gone) (drop i xs)) ≡ all → new ++ map f (remaining (drop (i + 1) gone) (drop (i + 1) xs)) ≡ all
stays_next f gone xs i d made new all y in' long stays y_is new_is so =
    rw (add-one i, new_is, y_is, append_assoc made (f (get_or xs i d) ∷ []) (map f (remaining (drop (suc i) gone) (drop (suc i) xs))))
    (ap (λ zs. made ++ map f zs) (sym (staying_from gone xs i d in' long stays)) ∙ so)

-- an element that goes is passed over
pub goes_next : {A B : Type 0} (f : A → B) (gone : List Bool) (xs : List A) (i : ℕ) (made new all : List B) → i < length xs → length gone ≡ length xs → get_or gone i false ≡ true → new ≡ made → made ++ map f (remaining (drop i gone) (drop i xs)) ≡ all → new ++ map f (remaining (drop (i + 1) gone) (drop (i + 1) xs)) ≡ all
goes_next f gone xs i made new all in' long goes new_is so =
    rw (add-one i, new_is) (ap (λ zs. made ++ map f zs) (sym (going_from gone xs i in' long goes)) ∙ so)
