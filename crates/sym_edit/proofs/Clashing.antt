-- That a section or label has one name, and another the other, by a count or by two searches.
use Rattle.std.proofs.Common.{◌≡◌, ℕ, ◌+◌, Bool, true, false, ◌&&◌, ◌||◌, cond, List, [], ◌∷◌, nat_lt, count_by, refl, sym, ap, ◌∙◌, subst, arith}
use Rattle.std.specs.List.{list_any}
use Rattle.std.proofs.lemmas.Bool.Decides.{nat_tests}
use Rattle.std.proofs.lemmas.List.Sums.{sum_by-cons}
use Rattle.le_bytes.specs.declared.name.Name.{Name}
use Rattle.le_bytes.specs.Names.{name_eq}
use Rattle.sym_mod.specs.declared.module.Item.{Item}
use Rattle.sym_mod.specs.Kinds.{is_sd, is_cm, is_label}
use Rattle.sym_edit.specs.Edited.{is_defined_as, has_two, clashes}
use Rattle.sym_edit.proofs.SoundGone.{name_same}

count_step : {A : Type 0} (p : A → Bool) (x : A) (xs : List A) (b : Bool) → p x ≡ b → count_by p (x ∷ xs) ≡ cond b 1 0 + count_by p xs
count_step p x xs b is = sum_by-cons (λ y. cond (p y) 1 0) x xs ∙ ap (λ c. cond c 1 0 + count_by p xs) is

zero_test : (n : ℕ) → nat_lt 0 (1 + n) ≡ true
zero_test n = grind (arith, nat_tests)

none_test : (n : ℕ) → nat_lt 0 (0 + n) ≡ nat_lt 0 n
none_test n = grind (arith, nat_tests)

one_test : (n : ℕ) → (nat_lt 0 n || nat_lt 0 n || nat_lt 1 n) ≡ nat_lt 1 (1 + n)
one_test n = grind (arith, nat_tests)

same_test : (n : ℕ) → nat_lt 1 n ≡ nat_lt 1 (0 + n)
same_test n = grind (arith, nat_tests)

any_case : {A : Type 0} (p : A → Bool) (x : A) (xs : List A) (b : Bool) → p x ≡ b → list_any p xs ≡ nat_lt 0 (count_by p xs) → list_any p (x ∷ xs) ≡ nat_lt 0 (count_by p (x ∷ xs))
any_case p x xs true is so = rw (count_step p x xs true is, is) (sym (zero_test (count_by p xs)))
any_case p x xs false is so = rw (count_step p x xs false is, is) (so ∙ sym (none_test (count_by p xs)))

any_counted : {A : Type 0} (p : A → Bool) (xs : List A) → list_any p xs ≡ nat_lt 0 (count_by p xs)
any_counted p [] = refl
any_counted p (x ∷ xs) = any_case p x xs (p x) refl (any_counted p xs)

two_case : {A : Type 0} (p : A → Bool) (x : A) (xs : List A) (b : Bool) → p x ≡ b → has_two p p xs ≡ nat_lt 1 (count_by p xs) → has_two p p (x ∷ xs) ≡ nat_lt 1 (count_by p (x ∷ xs))
two_case p x xs true is so = rw (count_step p x xs true is, is, any_counted p xs, so) (one_test (count_by p xs))
two_case p x xs false is so = rw (count_step p x xs false is, is, so) (same_test (count_by p xs))

-- two pass one test
two_counted : {A : Type 0} (p : A → Bool) (xs : List A) → has_two p p xs ≡ nat_lt 1 (count_by p xs)
two_counted p [] = refl
two_counted p (x ∷ xs) = two_case p x xs (p x) refl (two_counted p xs)

apart_step : (a b c d : Bool) → (a && b) ≡ false → ((a && d) || (b && c) || (c && d)) ≡ ((a || c) && (b || d))
apart_step true true c d is = absurd (cc is)
apart_step true false true true is = refl
apart_step true false true false is = refl
apart_step true false false true is = refl
apart_step true false false false is = refl
apart_step false true true true is = refl
apart_step false true true false is = refl
apart_step false true false true is = refl
apart_step false true false false is = refl
apart_step false false c d is = refl

-- where nothing passes both tests
two_apart : {A : Type 0} (p q : A → Bool) → ((x : A) → (p x && q x) ≡ false) → (xs : List A) → has_two p q xs ≡ (list_any p xs && list_any q xs)
two_apart p q apart [] = refl
two_apart p q apart (x ∷ xs) = rw (two_apart p q apart xs) (apart_step (p x) (q x) (list_any p xs) (list_any q xs) (apart x))

names_case : (old new name : Name) (a b c : Bool) → name_eq old new ≡ false → name_eq name old ≡ b → name_eq name new ≡ c → ((a && b) && (a && c)) ≡ false
names_case old new name false b c differ one two = refl
names_case old new name true false c differ one two = refl
names_case old new name true true false differ one two = refl
names_case old new name true true true differ one two =
    let first : name ≡ old = name_same name old one in
    let there : name_eq old new ≡ true = subst (λ (z : Name). name_eq z new ≡ true) first two in
    absurd (cc (differ, there))

defined_apart : (old new : Name) (x : Item) → name_eq old new ≡ false → (is_defined_as old x && is_defined_as new x) ≡ false
defined_apart old new x differ = names_case old new x.name (is_sd x.kind || is_cm x.kind || is_label x.kind) (name_eq x.name old) (name_eq x.name new) differ refl refl

-- ---- the three ways in which the code answers

pub clash_counted : (old new : Name) (items : List Item) (r : Bool) → name_eq old new ≡ true → r ≡ nat_lt 1 (count_by (is_defined_as old) items) → r ≡ clashes old new items
unfolding clashes
clash_counted old new items r same is =
    is ∙ sym (two_counted (is_defined_as old) items) ∙ ap (λ (z : Name). has_two (is_defined_as old) (is_defined_as z) items) (name_same old new same)

pub clash_both : (old new : Name) (items : List Item) (r : Bool) → name_eq old new ≡ false → list_any (is_defined_as old) items ≡ true → r ≡ list_any (is_defined_as new) items → r ≡ clashes old new items
unfolding clashes
clash_both old new items r differ there is =
    is ∙ sym (two_apart (is_defined_as old) (is_defined_as new) (λ x. defined_apart old new x differ) items ∙ ap (λ b. b && list_any (is_defined_as new) items) there)

pub clash_none : (old new : Name) (items : List Item) (r : Bool) → name_eq old new ≡ false → r ≡ list_any (is_defined_as old) items → r ≡ false → r ≡ clashes old new items
unfolding clashes
clash_none old new items r differ is none =
    none ∙ sym (two_apart (is_defined_as old) (is_defined_as new) (λ x. defined_apart old new x differ) items ∙ ap (λ b. b && list_any (is_defined_as new) items) (sym is ∙ none))
