-- A map by places, with something new at a place where it had nothing.
use Rattle.std.proofs.Common.{arith, ◌≡◌, ℕ, ◌+◌, ◌<◌, ◌≤◌, Bool, true, false, cond, List, [], ◌∷◌, ◌++◌, length, take, get_or, Option, Some, None, refl, sym, ◌∙◌, ap, subst}
use Rattle.std.specs.Option.{is_some}
use Rattle.std.specs.HashMap.{get, HashMap}
use Rattle.std.proofs.lemmas.List.{take_more, length-take-le}
use Rattle.obj_read.specs.declared.numbered.Numbered.{Numbered}
use Rattle.obj_read.specs.declared.terms.BytePlace.{BytePlace}
use Rattle.obj_read.specs.Facts.{has_esdid, number_of}
use Rattle.obj_read.specs.Covered.{byte_eq}
use Rattle.obj_read.specs.Indexed.{IsIndexed, IsIndexedIfMany, HasPlace, or_place}
use Rattle.obj_read.specs.Module.{with_length}
use Rattle.obj_read.proofs.Positions.{position_more, number_of_longer}

pub same_byte : (a q : BytePlace) → byte_eq a q ≡ true → a ≡ q
same_byte a q same =
    let s : a.section ≡ q.section = grind (arith, same) in
    let b : a.byte ≡ q.byte = grind (arith, same) in
    ap (λ n. let r : BytePlace = record { section = n; byte = a.byte } in r) s ∙ ap (λ n. let r : BytePlace = record { section = q.section; byte = n } in r) b

is_none : {X : Type 0} (o : Option X) → is_some o ≡ false → o ≡ None
is_none (Some x) none = cc
is_none None none = refl

kept : {X : Type 0} (o : Option X) (has : Bool) (x : X) → (has ≡ true → is_some o ≡ true) → o ≡ or_place o has x
kept (Some y) has x there = refl
kept None true x there = let h : false ≡ true = there refl in cc
kept None false x there = refl

put : {X : Type 0} (o n : Option X) (has : Bool) (x : X) → n ≡ cond has (Some x) o → (has ≡ true → o ≡ None) → n ≡ or_place o has x
put (Some y) n true x is none = let h : Some y ≡ None = none refl in cc
put None n true x is none = is
put (Some y) n false x is none = is
put None n false x is none = is

module _ {X S : Type 0} (m : HashMap BytePlace X S) (a q : BytePlace) (x : X) where
  pub kept_in : is_some (get byte_eq m a) ≡ true → get byte_eq m q ≡ or_place (get byte_eq m q) (byte_eq a q) x
  kept_in there = kept (get byte_eq m q) (byte_eq a q) x (λ same. ap (λ k. is_some (get byte_eq m k)) (sym (same_byte a q same)) ∙ there)

  pub put_in : (n : Option X) → is_some (get byte_eq m a) ≡ false → n ≡ cond (byte_eq a q) (Some x) (get byte_eq m q)
      → n ≡ or_place (get byte_eq m q) (byte_eq a q) x
  put_in n none is =
      put (get byte_eq m q) n (byte_eq a q) x is (λ same. ap (λ k. get byte_eq m k) (sym (same_byte a q same)) ∙ is_none (get byte_eq m a) none)

-- ---- one more item in the map

module _ {S : Type 0} (items : List Numbered) (x : Numbered) (old new : HashMap ℕ ℕ S) (n : ℕ) (at_end : n ≡ length items) (has : HasPlace old new x n) where
  pub indexed_after : IsIndexed items old → IsIndexed (items ++ x ∷ []) new
  indexed_after before = λ id.
      has id
      ∙ (ap (λ o. or_place o (has_esdid id x) n) (before id)
      ∙ (ap (λ m. or_place (number_of id items) (has_esdid id x) m) at_end ∙ sym (position_more (has_esdid id) items x)))

  pub indexed_more : (was : Option (HashMap ℕ ℕ S)) → was ≡ Some old → IsIndexedIfMany items was → IsIndexed (items ++ x ∷ []) new
  indexed_more was is before = indexed_after (subst (λ o. IsIndexedIfMany items o) is before)

pub indexed_next : {S : Type 0} (items : List Numbered) (k : ℕ) (d : Numbered) (old new : HashMap ℕ ℕ S) → k < length items
    → IsIndexed (take k items) old → HasPlace old new (get_or items k d) k → IsIndexed (take (k + 1) items) new
indexed_next items k d old new within before has =
    let below : k ≤ length items = omega (arith, within) in
    subst (λ xs. IsIndexed xs new) (sym (take_more items k d within))
    (indexed_after (take k items) (get_or items k d) old new k (sym (length-take-le k items below)) has before)

-- the length that END gives changes no place
pub indexed_longer : {S : Type 0} (n : ℕ) (items new : List Numbered) → new ≡ with_length n items
    → (places : Option (HashMap ℕ ℕ S)) → IsIndexedIfMany items places → IsIndexedIfMany new places
indexed_longer n items new is None before = tt
indexed_longer n items new is (Some places) before = λ id.
    before id ∙ (sym (number_of_longer id n items) ∙ ap (λ xs. number_of id xs) (sym is))
