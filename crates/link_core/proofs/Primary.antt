-- The primary input, found among the sets.
use Rattle.std.proofs.Common.{arith, ◌≡◌, ℕ, suc, ◌+◌, ◌<◌, ◌≤◌, true, false, List, [], ◌∷◌, length, drop, get_or, add-one, drop-cons, refl, sym, ◌∙◌, ap}
use Rattle.std.proofs.Math.ListN.{drop_of_length-le}
use Rattle.le_bytes.specs.Names.{name_eq}
use Rattle.command_words.specs.Keys.{syslin}
use Rattle.pds_lib.specs.declared.set.Set.{Set}
use Rattle.link_core.specs.Sets.{cards_in, primary_cards}

-- the rest of a list from one of its places
front : {X : Type 0} (xs : List X) (k : ℕ) (x : X) → k < length xs → x ≡ get_or xs k x → drop k xs ≡ x ∷ drop (k + 1) xs
front xs k x within is = rw (add-one) (drop-cons xs k x within ∙ ap (λ y. y ∷ drop (suc k) xs) (sym is))

module _ (sets : List Set) (k : ℕ) (cards : List ℕ) (so_far : primary_cards (drop k sets) ≡ cards) where
  -- the set that is named so
  pub is_found : (x : Set) → k < length sets → x ≡ get_or sets k x → name_eq x.dd syslin ≡ true → cards_in x.body ≡ cards
  is_found x within is named = sym (ap primary_cards (front sets k x within is) ∙ rw named refl) ∙ so_far

  pub is_later : (x : Set) → k < length sets → x ≡ get_or sets k x → name_eq x.dd syslin ≡ false → primary_cards (drop (k + 1) sets) ≡ cards
  is_later x within is other = sym (ap primary_cards (front sets k x within is) ∙ rw other refl) ∙ so_far

  pub is_none : length sets ≤ k → [] ≡ cards
  is_none all = sym (ap primary_cards (drop_of_length-le sets all)) ∙ so_far
