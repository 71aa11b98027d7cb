-- One more byte of a term's field.
use Rattle.std.proofs.Common.{arith, ◌≡◌, ℕ, ◌+◌, ◌<◌, List, [], ◌∷◌, ◌++◌, length, take, get_or, Option, Some, None, refl, sym, ◌∙◌, ap, subst}
use Rattle.std.specs.List.{find}
use Rattle.std.specs.Option.{option_or}
use Rattle.std.specs.HashMap.{HashMap}
use Rattle.std.proofs.lemmas.List.{take_more}
use Rattle.std.proofs.lemmas.List.Folds.{find-append}
use Rattle.obj_cards.specs.declared.card.CardRld.{CardRld}
use Rattle.obj_read.specs.declared.terms.BytePlace.{BytePlace}
use Rattle.obj_read.specs.Faults.{covers}
use Rattle.obj_read.specs.Flags.{length_of_flag}
use Rattle.obj_read.specs.Indexed.{or_place}
use Rattle.obj_read.specs.Covered.{byte_eq, place, begins_at, IsCovered, IsCoveredIfMany, CoversBytes}

pub byte_more : (old : Option CardRld) (f : CardRld) (s b i : ℕ)
    → or_place (or_place old (begins_at s b f i) f) (byte_eq (place f.p (f.address + i)) (place s b)) f
    ≡ or_place old (begins_at s b f (i + 1)) f
byte_more (Some g) f s b i = refl
byte_more None f s b i = grind arith

pub byte_more_at : (old : Option CardRld) (f : CardRld) (s b i a : ℕ) → a ≡ f.address
    → or_place (or_place old (begins_at s b f i) f) (byte_eq (place f.p (a + i)) (place s b)) f ≡ or_place old (begins_at s b f (i + 1)) f
byte_more_at old f s b i a is =
    ap (λ a. or_place (or_place old (begins_at s b f i) f) (byte_eq (place f.p (a + i)) (place s b)) f) is ∙ byte_more old f s b i

pub find_more : (terms : List CardRld) (f : CardRld) (s b : ℕ)
    → or_place (find (covers s b) terms) (covers s b f) f ≡ find (covers s b) (terms ++ f ∷ [])
find_more terms f s b = found (find (covers s b) terms) ∙ sym (find-append (covers s b) terms (f ∷ []))
  where
    found : (old : Option CardRld) → or_place old (covers s b f) f ≡ option_or old (find (covers s b) (f ∷ []))
    found (Some g) = refl
    found None = refl

-- ---- one more term in the map

module _ {S : Type 0} (terms : List CardRld) (f : CardRld) (old new : HashMap BytePlace CardRld S) (covers_it : CoversBytes old new f (length_of_flag f.flag)) where
  pub covered_after : IsCovered terms old → IsCovered (terms ++ f ∷ []) new
  covered_after before = λ s b.
      covers_it s b ∙ (ap (λ o. or_place o (covers s b f) f) (before s b) ∙ find_more terms f s b)

  pub covered_more : (was : Option (HashMap BytePlace CardRld S)) → was ≡ Some old → IsCoveredIfMany terms was → IsCovered (terms ++ f ∷ []) new
  covered_more was is before = covered_after (subst (λ o. IsCoveredIfMany terms o) is before)

pub covered_next : {S : Type 0} (terms : List CardRld) (k : ℕ) (d : CardRld) (old new : HashMap BytePlace CardRld S) → k < length terms
    → IsCovered (take k terms) old → CoversBytes old new (get_or terms k d) (length_of_flag (get_or terms k d).flag)
    → IsCovered (take (k + 1) terms) new
covered_next terms k d old new within before covers_it =
    subst (λ ts. IsCovered ts new) (sym (take_more terms k d within))
    (covered_after (take k terms) (get_or terms k d) old new covers_it before)
