-- Lists of symbols in which none stands twice.
use Rattle.std.proofs.Common.{◌≡◌, Bool, true, false, cond, List, [], ◌∷◌, ◌++◌, fold, refl, ap, arith}
use Rattle.std.specs.List.{list_any, IsDistinct}
use Rattle.std.specs.Cmp.{IsEquivalence}
use Rattle.std.proofs.lemmas.Bool.Decides.{nat_tests}
use Rattle.std.proofs.lemmas.Map.Keys.{IsDistinct-push}
use Rattle.linking_model.specs.Names.{with_first, firsts}
use Rattle.linking_model.specs.Kept.{Symbol, ByName, Private, symbol_eq}
use Rattle.esd_lists.proofs.Firsts.{name_sym, symbol_refl, symbol_same}

symbol_sym : (x y : Symbol) → symbol_eq x y ≡ symbol_eq y x
symbol_sym (ByName x) (ByName y) = name_sym x y
symbol_sym (Private m n) (Private k l) = grind (arith, nat_tests)
symbol_sym (ByName x) (Private k l) = refl
symbol_sym (Private k l) (ByName x) = refl

pub symbols_equal : IsEquivalence symbol_eq
symbols_equal = record {
  refl = symbol_refl;
  symm = symbol_sym;
  congr = λ x y z e. ap (λ (w : Symbol). symbol_eq w z) (symbol_same x y e);
}

put_distinct : (ys : List Symbol) (x : Symbol) (b : Bool) → list_any (symbol_eq x) ys ≡ b → IsDistinct symbol_eq ys → IsDistinct symbol_eq (cond b ys (ys ++ x ∷ []))
put_distinct ys x true e d = d
put_distinct ys x false e d = IsDistinct-push symbols_equal ys x d e

fold_distinct : (ys xs : List Symbol) → IsDistinct symbol_eq ys → IsDistinct symbol_eq (fold (with_first symbol_eq) ys xs)
fold_distinct ys [] d = d
fold_distinct ys (x ∷ xs) d = fold_distinct (with_first symbol_eq ys x) xs (put_distinct ys x (list_any (symbol_eq x) ys) refl d)

pub firsts_distinct : (xs : List Symbol) → IsDistinct symbol_eq (firsts symbol_eq xs)
unfolding IsDistinct
firsts_distinct xs = fold_distinct [] xs tt
