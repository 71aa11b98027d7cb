-- The numbers of constants in a map, with one more relocation item.
use Rattle.std.proofs.Common.{arith, ◌≡◌, ℕ, ◌<◌, Bool, true, false, cond, List, [], ◌∷◌, ◌++◌, length, get_or, Option, Some, None, refl, sym, ◌∙◌, ap, subst}
use Rattle.std.specs.List.{position}
use Rattle.std.specs.Option.{is_some}
use Rattle.std.specs.HashMap.{get, HashMap}
use Rattle.std.proofs.lemmas.List.{length-map}
use Rattle.std.proofs.lemmas.List.Quantifiers.{position-Some}
use Rattle.load_recs.specs.declared.items.SymbolItem.{SymbolItem}
use Rattle.load_recs.specs.declared.items.RldItem.{RldItem}
use Rattle.sym_mod.specs.declared.module.SymConst.{SymConst}
use Rattle.sym_mod.specs.declared.module.SymTerm.{SymTerm}
use Rattle.linking_model.specs.Names.{firsts}
use Rattle.member_model.specs.Symbols.{same_field}
use Rattle.member_model.specs.ReadBack.{term_of}
use Rattle.mod_read.specs.declared.constants.FieldPlace.{FieldPlace}
use Rattle.mod_read.specs.Gathered.{constants_in}
use Rattle.mod_read.specs.Placed.{place_eq, place, begins_at, IsPlaced, or_place, HasNumber, IsJoined}
use Rattle.mod_read.proofs.Positions.{position_more, any_of_position, any_of_no_position}
use Rattle.mod_read.proofs.SameFields.{firsts_known, firsts_new}
use Rattle.mod_read.proofs.Grouping.{constant_in, constants_joined, constants_new}

-- ---- a map with something new at a place where it had nothing

same_place : (a q : FieldPlace) → place_eq a q ≡ true → a ≡ q
same_place a q same =
    let s : a.section ≡ q.section = grind (arith, same) in
    let b : a.address ≡ q.address = grind (arith, same) in
    ap (λ n. let r : FieldPlace = record { section = n; address = a.address } in r) s ∙ ap (λ n. let r : FieldPlace = record { section = q.section; address = n } in r) b

is_none : {X : Type 0} (o : Option X) → is_some o ≡ false → o ≡ None
is_none (Some x) none = cc
is_none None none = refl

kept : {X : Type 0} (o : Option X) (has : Bool) (x : X) → (has ≡ true → is_some o ≡ true) → o ≡ or_place o has x
kept (Some y) has x there = refl
kept None true x there = let h : false ≡ true = there refl in cc
kept None false x there = refl

put : {X : Type 0} (o n : Option X) (has : Bool) (x : X) → n ≡ cond has (Some x) o → (has ≡ true → o ≡ None) → n ≡ or_place o has x
put (Some y) n true x is none = let h : Some y ≡ None = none refl in cc
put None n true x is none = is
put (Some y) n false x is none = is
put None n false x is none = is

module _ {X S : Type 0} (m : HashMap FieldPlace X S) (a q : FieldPlace) (x : X) where
  pub kept_in : is_some (get place_eq m a) ≡ true → get place_eq m q ≡ or_place (get place_eq m q) (place_eq a q) x
  kept_in there = kept (get place_eq m q) (place_eq a q) x (λ same. ap (λ k. is_some (get place_eq m k)) (sym (same_place a q same)) ∙ there)

  pub put_in : (n : Option X) → is_some (get place_eq m a) ≡ false → n ≡ cond (place_eq a q) (Some x) (get place_eq m q)
      → n ≡ or_place (get place_eq m q) (place_eq a q) x
  put_in n none is =
      put (get place_eq m q) n (place_eq a q) x is (λ same. ap (λ k. get place_eq m k) (sym (same_place a q same)) ∙ is_none (get place_eq m a) none)

-- ---- one more item

same_test : (f : RldItem) (s a : ℕ) → place_eq (place f.p f.address) (place s a) ≡ begins_at s a f
same_test f s a = grind arith

module _ {S : Type 0} (symbols : List SymbolItem) (xs : List RldItem) (f : RldItem) where
  pub numbers_joined : (n : ℕ) (m : HashMap FieldPlace ℕ S) → position (same_field f) (firsts same_field xs) ≡ Some n → IsPlaced xs m → IsPlaced (xs ++ f ∷ []) m
  numbers_joined n m found placed = λ s a.
      placed s a ∙ ap (λ ys. position (begins_at s a) ys) (sym (firsts_known xs f (any_of_position (same_field f) (firsts same_field xs) n found)))

  numbers_new : (old new : HashMap FieldPlace ℕ S) → position (same_field f) (firsts same_field xs) ≡ None → IsPlaced xs old
      → HasNumber old new (place f.p f.address) (length (constants_in symbols xs)) → IsPlaced (xs ++ f ∷ []) new
  numbers_new old new none placed has = λ s a.
      has s a
      ∙ (ap (λ o. or_place o (place_eq (place f.p f.address) (place s a)) (length (constants_in symbols xs))) (placed s a)
      ∙ (ap (λ b. or_place (position (begins_at s a) (firsts same_field xs)) b (length (constants_in symbols xs))) (same_test f s a)
      ∙ (ap (λ n. or_place (position (begins_at s a) (firsts same_field xs)) (begins_at s a f) n) (length-map (firsts same_field xs) (constant_in symbols xs))
      ∙ (sym (position_more (begins_at s a) (firsts same_field xs) f)
      ∙ ap (λ ys. position (begins_at s a) ys) (sym (firsts_new xs f (any_of_no_position (same_field f) (firsts same_field xs) none)))))))

module _ (symbols : List SymbolItem) (xs : List RldItem) (f : RldItem) (old : List SymConst) (was : old ≡ constants_in symbols xs) where
  pub within_constants : (n : ℕ) → position (same_field f) (firsts same_field xs) ≡ Some n → n < length old
  within_constants n found =
      let L : List RldItem = firsts same_field xs in
      let p : (n < length L) × (same_field f (get_or L n f) ≡ true) × ((k : ℕ) → k < n → same_field f (get_or L k f) ≡ false) =
      position-Some (same_field f) L n f found in
      subst (λ ys. n < length ys) (sym was) (subst (λ m. n < m) (sym (length-map L (constant_in symbols xs))) p.0)

  pub all_joined : (n : ℕ) (new : List SymConst) (t : SymTerm) → position (same_field f) (firsts same_field xs) ≡ Some n → t ≡ term_of symbols f
      → IsJoined old new n t → new ≡ constants_in symbols (xs ++ f ∷ [])
  all_joined n new t found is joined =
      constants_joined symbols xs f n new found (subst (λ t. IsJoined (constants_in symbols xs) new n t) is (subst (λ ys. IsJoined ys new n t) was joined))

  pub all_new : (new : List SymConst) (x : SymConst) → position (same_field f) (firsts same_field xs) ≡ None → x ≡ constant_in symbols (f ∷ []) f
      → new ≡ old ++ x ∷ [] → new ≡ constants_in symbols (xs ++ f ∷ [])
  all_new new x none is pushed =
      pushed ∙ (ap (λ ys. ys ++ x ∷ []) was ∙ (ap (λ x. constants_in symbols xs ++ x ∷ []) is ∙ constants_new symbols xs f none))

  pub numbers_all : {S : Type 0} (before after : HashMap FieldPlace ℕ S) (n : ℕ) → position (same_field f) (firsts same_field xs) ≡ None → IsPlaced xs before
      → n ≡ length old → HasNumber before after (place f.p f.address) n → IsPlaced (xs ++ f ∷ []) after
  numbers_all before after n none placed count has =
      numbers_new symbols xs f before after none placed
      (subst (λ n. HasNumber before after (place f.p f.address) n) (count ∙ ap (λ ys. length ys) was) has)
