-- Lists of symbols without repeats.
use Rattle.std.proofs.Common.{◌≡◌, ℕ, ◌+◌, Bool, true, false, ◌||◌, cond, List, [], ◌∷◌, ◌++◌, fold, filter_map, Option, Some, None, refl, sym, ap, ◌∙◌, subst, arith, append-nil, append_assoc, is_some}
use Rattle.std.specs.Prelude.{position}
use Rattle.std.specs.List.{list_any, position_from, cons_option}
use Rattle.std.proofs.lemmas.Iterator.Adapters.{position_from-zero}
use Rattle.std.proofs.lemmas.List.Folds.{list_any-append}
use Rattle.std.proofs.lemmas.List.Sums.{fold-append}
use Rattle.std.proofs.lemmas.Slice.Eq.{bytes_eq-Decides}
use Rattle.std.proofs.lemmas.Bool.Decides.{nat_tests}
use Rattle.le_bytes.specs.declared.name.Name.{Name}
use Rattle.le_bytes.specs.Names.{name_eq}
use Rattle.linking_model.specs.Names.{with_first, firsts}
use Rattle.linking_model.specs.Kept.{Symbol, ByName, Private, symbol_eq}
use Rattle.esd_index.specs.Marked.{with_some}

pub name_same : (m n : Name) → name_eq m n ≡ true → m ≡ n
name_same m n same = ap (λ (bytes : List ℕ). let name : Name = record { 0 = bytes } in name) ((bytes_eq-Decides m.0 n.0).0 same)

pub name_refl : (n : Name) → name_eq n n ≡ true
name_refl n = (bytes_eq-Decides n.0 n.0).1 refl

same_answer : (m n : Name) (a b : Bool) → name_eq m n ≡ a → name_eq n m ≡ b → a ≡ b
same_answer m n true true d e = refl
same_answer m n false false d e = refl
same_answer m n true false d e =
    let is : m ≡ n = name_same m n d in
    let back : name_eq n m ≡ true = subst (λ (z : Name). name_eq z m ≡ true) is (name_refl m) in
    absurd (cc (back, e))
same_answer m n false true d e =
    let is : n ≡ m = name_same n m e in
    let back : name_eq m n ≡ true = subst (λ (z : Name). name_eq z n ≡ true) is (name_refl n) in
    absurd (cc (back, d))

pub name_sym : (m n : Name) → name_eq m n ≡ name_eq n m
name_sym m n = same_answer m n (name_eq m n) (name_eq n m) refl refl

pub symbol_refl : (x : Symbol) → symbol_eq x x ≡ true
symbol_refl (ByName x) = name_refl x
symbol_refl (Private m n) = grind (arith, nat_tests)

private_same : (m n k l : ℕ) → symbol_eq (Private m n) (Private k l) ≡ true → (m ≡ k) × (n ≡ l)
private_same m n k l same = (grind (arith, nat_tests), grind (arith, nat_tests))

pub symbol_same : (x y : Symbol) → symbol_eq x y ≡ true → x ≡ y
symbol_same (ByName x) (ByName y) same = ap ByName (name_same x y same)
symbol_same (Private m n) (Private k l) same =
    let both = private_same m n k l same in
    cc (both.0, both.1)
symbol_same (ByName x) (Private k l) same = absurd cc
symbol_same (Private m n) (ByName y) same = absurd cc

-- ---- what is among them

or_true : (b : Bool) → (b || true) ≡ true
or_true true = refl
or_true false = refl

or_false : (b : Bool) → (b || false) ≡ b
or_false true = refl
or_false false = refl

or_assoc : (a b c : Bool) → ((a || b) || c) ≡ (a || (b || c))
or_assoc true b c = refl
or_assoc false b c = refl

any_put : (q x : Symbol) (ys : List Symbol) (there same : Bool) → list_any (symbol_eq x) ys ≡ there → symbol_eq q x ≡ same
    → list_any (symbol_eq q) (cond there ys (ys ++ x ∷ [])) ≡ (list_any (symbol_eq q) ys || same)
any_put q x ys true true e s =
    let is : q ≡ x = symbol_same q x s in
    let found : list_any (symbol_eq q) ys ≡ true = subst (λ (z : Symbol). list_any (symbol_eq z) ys ≡ true) (sym is) e in
    found ∙ sym (or_true (list_any (symbol_eq q) ys))
any_put q x ys true false e s = sym (or_false (list_any (symbol_eq q) ys))
any_put q x ys false same e s =
    list_any-append (symbol_eq q) ys (x ∷ []) ∙ ap (λ (b : Bool). list_any (symbol_eq q) ys || b) (or_false (symbol_eq q x) ∙ s)

pub any_with_first : (q x : Symbol) (ys : List Symbol) → list_any (symbol_eq q) (with_first symbol_eq ys x) ≡ (list_any (symbol_eq q) ys || symbol_eq q x)
any_with_first q x ys = any_put q x ys (list_any (symbol_eq x) ys) (symbol_eq q x) refl refl

pub any_fold : (q : Symbol) (ys xs : List Symbol) → list_any (symbol_eq q) (fold (with_first symbol_eq) ys xs) ≡ (list_any (symbol_eq q) ys || list_any (symbol_eq q) xs)
any_fold q ys [] = sym (or_false (list_any (symbol_eq q) ys))
any_fold q ys (x ∷ xs) =
    any_fold q (with_first symbol_eq ys x) xs
    ∙ ap (λ (b : Bool). b || list_any (symbol_eq q) xs) (any_with_first q x ys)
    ∙ or_assoc (list_any (symbol_eq q) ys) (symbol_eq q x) (list_any (symbol_eq q) xs)

-- a symbol is among the first ones where it is among all
pub any_firsts : (q : Symbol) (xs : List Symbol) → list_any (symbol_eq q) (firsts symbol_eq xs) ≡ list_any (symbol_eq q) xs
any_firsts q xs = any_fold q [] xs

-- ---- as folds

some_chosen : {A : Type 0} (f : A → Option Symbol) (ys : List Symbol) (xs : List A) (o : Option Symbol)
    → ((zs : List Symbol) → fold (λ zs x. with_some zs (f x)) zs xs ≡ fold (with_first symbol_eq) zs (filter_map f xs))
    → fold (λ zs x. with_some zs (f x)) (with_some ys o) xs ≡ fold (with_first symbol_eq) ys (cons_option o (filter_map f xs))
some_chosen f ys xs None more = more ys
some_chosen f ys xs (Some y) more = more (with_first symbol_eq ys y)

pub fold_some : {A : Type 0} (f : A → Option Symbol) (ys : List Symbol) (xs : List A) → fold (λ zs x. with_some zs (f x)) ys xs ≡ fold (with_first symbol_eq) ys (filter_map f xs)
fold_some f ys [] = refl
fold_some f ys (x ∷ xs) = some_chosen f ys xs (f x) (λ zs. fold_some f zs xs)

pub firsts_more : (xs ys : List Symbol) → firsts symbol_eq (xs ++ ys) ≡ fold (with_first symbol_eq) (firsts symbol_eq xs) ys
firsts_more xs ys = fold-append (with_first symbol_eq) [] xs ys

-- ---- places

pub position_is : {A : Type 0} (p : A → Bool) (xs : List A) → position p xs ≡ position_from p 0 xs
position_is p xs = position_from-zero p xs

-- what is found among the first is found there
from_grown : (q : Symbol) (n : ℕ) (xs ys : List Symbol) → list_any (symbol_eq q) xs ≡ true → position_from (symbol_eq q) n (xs ++ ys) ≡ position_from (symbol_eq q) n xs
from_grown q n [] ys e = absurd cc
from_grown q n (x ∷ xs) ys e = chosen q n xs ys (symbol_eq q x) e (λ h. from_grown q (n + 1) xs ys h)
  where
    chosen : (q : Symbol) (n : ℕ) (xs ys : List Symbol) (b : Bool) → (b || list_any (symbol_eq q) xs) ≡ true
        → (list_any (symbol_eq q) xs ≡ true → position_from (symbol_eq q) (n + 1) (xs ++ ys) ≡ position_from (symbol_eq q) (n + 1) xs)
        → cond b (Some n) (position_from (symbol_eq q) (n + 1) (xs ++ ys)) ≡ cond b (Some n) (position_from (symbol_eq q) (n + 1) xs)
    chosen q n xs ys true e more = refl
    chosen q n xs ys false e more = more e

-- the list grows at its end alone
pub grows : (ys xs : List Symbol) → (zs : List Symbol) × (fold (with_first symbol_eq) ys xs ≡ ys ++ zs)
grows ys [] = ([], sym (append-nil ys))
grows ys (x ∷ xs) = chosen ys x (list_any (symbol_eq x) ys) (grows ys xs) (grows (ys ++ x ∷ []) xs)
  where
    chosen : (ys : List Symbol) (x : Symbol) (b : Bool) → (zs : List Symbol) × (fold (with_first symbol_eq) ys xs ≡ ys ++ zs) → (zs : List Symbol) × (fold (with_first symbol_eq) (ys ++ x ∷ []) xs ≡ (ys ++ x ∷ []) ++ zs)
        → (zs : List Symbol) × (fold (with_first symbol_eq) (cond b ys (ys ++ x ∷ [])) xs ≡ ys ++ zs)
    chosen ys x true one two = one
    chosen ys x false one two = (x ∷ two.0, two.1 ∙ append_assoc ys (x ∷ []) two.0)

-- a symbol keeps its place
pub position_stays : (q : Symbol) (ys xs : List Symbol) → list_any (symbol_eq q) ys ≡ true → position (symbol_eq q) (fold (with_first symbol_eq) ys xs) ≡ position (symbol_eq q) ys
position_stays q ys xs e =
    let more = grows ys xs in
    let longer : position_from (symbol_eq q) 0 (fold (with_first symbol_eq) ys xs) ≡ position_from (symbol_eq q) 0 ys = rw (more.1) (from_grown q 0 ys more.0 e) in
    position_is (symbol_eq q) (fold (with_first symbol_eq) ys xs) ∙ longer ∙ sym (position_is (symbol_eq q) ys)

from_found : {A : Type 0} (p : A → Bool) (n : ℕ) (xs : List A) → is_some (position_from p n xs) ≡ list_any p xs
from_found p n [] = refl
from_found p n (x ∷ xs) = chosen p n xs (p x) (from_found p (n + 1) xs)
  where
    chosen : {A : Type 0} (p : A → Bool) (n : ℕ) (xs : List A) (b : Bool) → is_some (position_from p (n + 1) xs) ≡ list_any p xs
        → is_some (cond b (Some n) (position_from p (n + 1) xs)) ≡ (b || list_any p xs)
    chosen p n xs true more = refl
    chosen p n xs false more = more

-- there is a place where there is such an element
pub position_found : {A : Type 0} (p : A → Bool) (xs : List A) → is_some (position p xs) ≡ list_any p xs
position_found p xs = ap is_some (position_is p xs) ∙ from_found p 0 xs
