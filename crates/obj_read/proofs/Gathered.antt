-- The numbers of constants, with one more term.
use Rattle.std.proofs.Common.{arith, ◌≡◌, ℕ, ◌<◌, true, false, List, [], ◌∷◌, ◌++◌, length, get_or, Some, None, sym, ◌∙◌, ap, subst}
use Rattle.std.specs.List.{position}
use Rattle.std.specs.HashMap.{HashMap}
use Rattle.std.proofs.lemmas.List.{length-map}
use Rattle.obj_cards.specs.declared.card.CardRld.{CardRld}
use Rattle.obj_read.specs.declared.numbered.Numbered.{Numbered}
use Rattle.obj_read.specs.declared.terms.BytePlace.{BytePlace}
use Rattle.obj_read.specs.Module.{same_place, leaders, term, constant, constants}
use Rattle.obj_read.specs.Covered.{byte_eq, place}
use Rattle.obj_read.specs.Indexed.{or_place}
use Rattle.obj_read.specs.Placed.{stands_at, IsPlaced, HasNumber, IsJoined}
use Rattle.obj_read.proofs.Positions.{position_more, any_of_position, any_of_no_position}
use Rattle.std.proofs.lemmas.List.Quantifiers.{position-Some}
use Rattle.sym_mod.specs.declared.module.SymConst.{SymConst}
use Rattle.sym_mod.specs.declared.module.SymTerm.{SymTerm}
use Rattle.obj_read.proofs.Leaders.{leaders_known, leaders_new, constants_joined, constants_new}

same_test : (f : CardRld) (s a : ℕ) → byte_eq (place f.p f.address) (place s a) ≡ stands_at s a f
same_test f s a = grind arith

module _ {S : Type 0} (items : List Numbered) (ts : List CardRld) (f : CardRld) where
  pub numbers_joined : (n : ℕ) (m : HashMap BytePlace ℕ S) → position (same_place f) (leaders [] ts) ≡ Some n → IsPlaced ts m → IsPlaced (ts ++ f ∷ []) m
  numbers_joined n m found placed = λ s a.
      placed s a ∙ ap (λ xs. position (stands_at s a) xs) (sym (leaders_known ts f (any_of_position (same_place f) (leaders [] ts) n found)))

  pub numbers_new : (old new : HashMap BytePlace ℕ S) → position (same_place f) (leaders [] ts) ≡ None → IsPlaced ts old
      → HasNumber old new (place f.p f.address) (length (constants items ts)) → IsPlaced (ts ++ f ∷ []) new
  numbers_new old new none placed has = λ s a.
      has s a
      ∙ (ap (λ o. or_place o (byte_eq (place f.p f.address) (place s a)) (length (constants items ts))) (placed s a)
      ∙ (ap (λ b. or_place (position (stands_at s a) (leaders [] ts)) b (length (constants items ts))) (same_test f s a)
      ∙ (ap (λ n. or_place (position (stands_at s a) (leaders [] ts)) (stands_at s a f) n) (length-map (leaders [] ts) (constant items ts))
      ∙ (sym (position_more (stands_at s a) (leaders [] ts) f)
      ∙ ap (λ xs. position (stands_at s a) xs) (sym (leaders_new ts f (any_of_no_position (same_place f) (leaders [] ts) none)))))))

module _ (items : List Numbered) (ts : List CardRld) (f : CardRld) (old : List SymConst) (was : old ≡ constants items ts) where
  pub within_constants : (n : ℕ) → position (same_place f) (leaders [] ts) ≡ Some n → n < length old
  within_constants n found =
      let p : (n < length (leaders [] ts)) × (same_place f (get_or (leaders [] ts) n f) ≡ true) × ((k : ℕ) → k < n → same_place f (get_or (leaders [] ts) k f) ≡ false) =
      position-Some (same_place f) (leaders [] ts) n f found in
      subst (λ xs. n < length xs) (sym was) (subst (λ m. n < m) (sym (length-map (leaders [] ts) (constant items ts))) p.0)

  pub all_joined : (n : ℕ) (new : List SymConst) (t : SymTerm) → position (same_place f) (leaders [] ts) ≡ Some n → t ≡ term items f
      → IsJoined old new n t → new ≡ constants items (ts ++ f ∷ [])
  all_joined n new t found is joined =
      constants_joined items ts f n new found (subst (λ t. IsJoined (constants items ts) new n t) is (subst (λ xs. IsJoined xs new n t) was joined))

  pub all_new : (new : List SymConst) (x : SymConst) → position (same_place f) (leaders [] ts) ≡ None → x ≡ constant items (f ∷ []) f
      → new ≡ old ++ x ∷ [] → new ≡ constants items (ts ++ f ∷ [])
  all_new new x none is pushed =
      pushed ∙ (ap (λ xs. xs ++ x ∷ []) was ∙ (ap (λ x. constants items ts ++ x ∷ []) is ∙ constants_new items ts f none))

  pub numbers_all : {S : Type 0} (before after : HashMap BytePlace ℕ S) (b n : ℕ) → position (same_place f) (leaders [] ts) ≡ None → IsPlaced ts before
      → b ≡ f.address → n ≡ length old → HasNumber before after (place f.p b) n → IsPlaced (ts ++ f ∷ []) after
  numbers_all before after b n none placed at count has =
      numbers_new items ts f before after none placed
      (subst (λ b. HasNumber before after (place f.p b) (length (constants items ts))) at
      (subst (λ n. HasNumber before after (place f.p b) n) (count ∙ ap (λ xs. length xs) was) has))
