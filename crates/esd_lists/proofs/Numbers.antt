-- The place of a name in a list is its number.
use Rattle.std.proofs.Common.{◌≡◌, ℕ, ◌+◌, Bool, cond, List, [], ◌∷◌, map, Some, refl, sym, ap, ◌∙◌}
use Rattle.std.specs.Prelude.{position}
use Rattle.std.specs.List.{position_from}
use Rattle.std.proofs.lemmas.Iterator.Adapters.{position_from-zero}
use Rattle.le_bytes.specs.declared.name.Name.{Name}
use Rattle.le_bytes.specs.Names.{name_eq}
use Rattle.esd_lists.specs.Numbered.{is_named_so}

pub from_map : {A B : Type 0} (p : B → Bool) (f : A → B) (n : ℕ) (xs : List A) → position_from p n (map f xs) ≡ position_from (λ x. p (f x)) n xs
from_map p f n [] = refl
from_map p f n (x ∷ xs) = ap (cond (p (f x)) (Some n)) (from_map p f (n + 1) xs)

pub from_ext : {A : Type 0} (p q : A → Bool) → ((x : A) → p x ≡ q x) → (n : ℕ) (xs : List A) → position_from p n xs ≡ position_from q n xs
from_ext p q same n [] = refl
from_ext p q same n (x ∷ xs) = rw (same x, from_ext p q same (n + 1) xs) refl

pub numbered : {A : Type 0} (name : A → Name) (y : Name) (xs : List A) → position_from (is_named_so y) 0 (map name xs) ≡ position (λ x. name_eq (name x) y) xs
numbered name y xs = from_map (is_named_so y) name 0 xs ∙ sym (position_from-zero (λ x. name_eq (name x) y) xs)
