-- What holds of the elements of a list holds of those that are found in it.
use Rattle.std.proofs.Common.{arith, ◌≡◌, ℕ, suc, ◌+◌, ◌<◌, not, nat_lt, ◌||◌, length, Bool, true, false, List, [], ◌∷◌, refl, ap, subst, Option, Some, None, cond, unwrap_or}
use Rattle.std.specs.Prelude.{All, filter_map, find, slice_get}
use Rattle.std.specs.List.{cons_option, list_any, position_or_len}
use Rattle.std.proofs.lemmas.Option.{none-some}
use Rattle.std.proofs.lemmas.List.Elements.{All-head, All-tail, All-nil, All-cons}

module _ {A : Type 0} (P : A → Type 0) (test : A → Bool) where
  found_at : (y : A) (ys : List A) (x : A) (b : Bool) → P y → (find test ys ≡ Some x → P x) → cond b (Some y) (find test ys) ≡ Some x → P x
  found_at y ys x true here rest is = subst P (ap (λ o. unwrap_or o y) is) here
  found_at y ys x false here rest is = rest is

  pub found : (xs : List A) (x : A) → All P xs → find test xs ≡ Some x → P x
  found [] x all is = absurd (none-some x is)
  found (y ∷ ys) x all is = found_at y ys x (test y) (All-head P y ys all) (λ there. found ys x (All-tail P y ys all) there) is

module _ {A B : Type 0} (P : A → Type 0) (Q : B → Type 0) (f : A → Option B) (gives : (x : A) (y : B) → P x → f x ≡ Some y → Q y) where
  made_at : (x : A) (ys : List B) (o : Option B) → f x ≡ o → P x → All Q ys → All Q (cons_option o ys)
  made_at x ys None is here rest = rest
  made_at x ys (Some y) is here rest = All-cons Q y ys (gives x y here is) rest

  -- what f makes of elements
  pub made : (xs : List A) → All P xs → All Q (filter_map f xs)
  made [] all = All-nil Q
  made (x ∷ xs) all = made_at x (filter_map f xs) (f x) refl (All-head P x xs all) (made xs (All-tail P x xs all))

-- the first element
pub first_of : {A : Type 0} (P : A → Type 0) (xs : List A) (x : A) → All P xs → slice_get xs 0 ≡ Some x → P x
first_of P [] x all is = absurd (none-some x is)
first_of P (y ∷ ys) x all is = subst P (ap (λ o. unwrap_or o y) is) (All-head P y ys all)

-- where an element passes, the first that does is found
any_at : (b rest : Bool) (k n : ℕ) → (b || rest) ≡ true → (rest ≡ true → k < n) → cond (not b) (1 + k) 0 < suc n
any_at true rest k n some below = omega arith
any_at false rest k n some below = omega (arith, below some)

pub any_found : {X : Type 0} (test : X → Bool) (xs : List X) → list_any test xs ≡ true → position_or_len test xs < length xs
any_found test [] some = cc
any_found test (x ∷ xs) some = any_at (test x) (list_any test xs) (position_or_len test xs) (length xs) some (any_found test xs)

pub not_none : (k n : ℕ) → k < n → cond (nat_lt k n) (Some k) None ≡ None → ⊥
not_none k n below none = grind (arith, below, none)
