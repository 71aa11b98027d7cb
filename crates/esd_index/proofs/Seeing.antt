-- The symbols of the items of a module may be noted before all else.
use Rattle.std.proofs.Common.{◌≡◌, ℕ, ◌+◌, Bool, true, false, ◌||◌, cond, List, [], ◌∷◌, ◌++◌, fold, Option, Some, None, Result, Err, refl, sym, ap, ◌∙◌}
use Rattle.std.specs.List.{list_any}
use Rattle.std.proofs.lemmas.List.Folds.{list_any-append}
use Rattle.le_bytes.specs.declared.name.Name.{Name}
use Rattle.sym_mod.specs.declared.module.Item.{Item}
use Rattle.linking_model.specs.Names.{with_first}
use Rattle.linking_model.specs.Kept.{Symbol, symbol_eq, Sight, symbol_of, sights_in}
use Rattle.esd_index.specs.Contents.{Contents}
use Rattle.esd_index.specs.Marked.{with_some}
use Rattle.esd_index.specs.Steps.{with_control, with_seen, with_sight, with_sights, clashes_over}
use Rattle.esd_index.proofs.Parts.{symbol_refl}

abbrev with_symbols : List Symbol → Contents → Contents
with_symbols ys c = record c { symbols = ys }

abbrev put_all : List Symbol → List Sight → List Symbol
put_all ys xs = fold (λ ys x. with_some ys (symbol_of x)) ys xs

-- ---- a symbol that was put stays

or_true : (b : Bool) → (b || true) ≡ true
or_true true = refl
or_true false = refl

put_stays : (y z : Symbol) (ys : List Symbol) (b : Bool) → list_any (symbol_eq y) ys ≡ true → list_any (symbol_eq y) (cond b ys (ys ++ z ∷ [])) ≡ true
put_stays y z ys true e = e
put_stays y z ys false e = list_any-append (symbol_eq y) ys (z ∷ []) ∙ rw e refl

some_stays : (y : Symbol) (ys : List Symbol) (o : Option Symbol) → list_any (symbol_eq y) ys ≡ true → list_any (symbol_eq y) (with_some ys o) ≡ true
some_stays y ys None e = e
some_stays y ys (Some z) e = put_stays y z ys (list_any (symbol_eq z) ys) e

all_stays : (y : Symbol) (ys : List Symbol) (xs : List Sight) → list_any (symbol_eq y) ys ≡ true → list_any (symbol_eq y) (put_all ys xs) ≡ true
all_stays y ys [] e = e
all_stays y ys (x ∷ xs) e = all_stays y (with_some ys (symbol_of x)) xs (some_stays y ys (symbol_of x) e)

put_there : (y : Symbol) (ys : List Symbol) (b : Bool) → list_any (symbol_eq y) ys ≡ b → list_any (symbol_eq y) (cond b ys (ys ++ y ∷ [])) ≡ true
put_there y ys true e = e
put_there y ys false e = list_any-append (symbol_eq y) ys (y ∷ []) ∙ rw (symbol_refl y) (or_true (list_any (symbol_eq y) ys))

put_again : (ys : List Symbol) (o : Option Symbol) (xs : List Sight) → with_some (put_all (with_some ys o) xs) o ≡ put_all (with_some ys o) xs
put_again ys None xs = refl
put_again ys (Some y) xs = rw (all_stays y (with_first symbol_eq ys y) xs (put_there y ys (list_any (symbol_eq y) ys) refl)) refl

-- ---- the items twice

controls_apart : (ys : List Symbol) (c : Contents) (xs : List Item) → fold with_control (with_symbols ys c) xs ≡ with_symbols ys (fold with_control c xs)
controls_apart ys c [] = refl
controls_apart ys c (x ∷ xs) = controls_apart ys (with_control c x) xs

symbols_stay : (c : Contents) (xs : List Item) → (fold with_control c xs).symbols ≡ c.symbols
symbols_stay c [] = refl
symbols_stay c (x ∷ xs) = symbols_stay (with_control c x) xs

all_seen : (m s n : ℕ) (c : Contents) (xs : List Item) → fold with_seen c (sights_in m s n xs) ≡ with_symbols (put_all c.symbols (sights_in m s n xs)) (fold with_control c xs)
all_seen m s n c [] = refl
all_seen m s n c (x ∷ xs) =
    let x_seen : Sight = record { of_module = m; number = n; segment = s; item = x } in
    let ys : List Symbol = put_all (with_some c.symbols (symbol_of x_seen)) (sights_in m s (n + 1) xs) in
    all_seen m s (n + 1) (with_seen c x_seen) xs
    ∙ ap (with_symbols ys) (controls_apart (with_some c.symbols (symbol_of x_seen)) (with_control c x) xs)

symbols_first : (kept : List Bool) (c : Contents) (xs : List Sight) → with_sights kept (with_symbols (put_all c.symbols xs) c) xs ≡ with_sights kept c xs
unfolding with_sights with_sight
symbols_first kept c [] = refl
symbols_first kept c (x ∷ xs) =
    let ys : List Symbol = put_all (with_some c.symbols (symbol_of x)) xs in
    let again : with_sights kept (with_sight kept (with_symbols ys c) x) xs ≡ with_sights kept (with_sight kept c x) xs =
    ap (λ (zs : List Symbol). with_sights kept (with_symbols zs (with_sight kept c x)) xs) (put_again c.symbols (symbol_of x) xs)
    ∙ symbols_first kept (with_sight kept c x) xs in
    chosen x.item.name (clashes_over kept c x) again
  where
    chosen : {u v : Result Contents Name} (y : Name) (b : Bool) → u ≡ v → cond b (Err y) u ≡ cond b (Err y) v
    chosen y true e = refl
    chosen y false e = e

-- the items are noted alike where their symbols are there already
pub seen_first : (kept : List Bool) (m s : ℕ) (c : Contents) (xs : List Item) → with_sights kept (fold with_seen c (sights_in m s 0 xs)) (sights_in m s 0 xs) ≡ with_sights kept (fold with_control c xs) (sights_in m s 0 xs)
seen_first kept m s c xs =
    let d : Contents = fold with_control c xs in
    ap (λ (e : Contents). with_sights kept e (sights_in m s 0 xs)) (all_seen m s 0 c xs ∙ ap (λ (ys : List Symbol). with_symbols (put_all ys (sights_in m s 0 xs)) d) (sym (symbols_stay c xs)))
    ∙ symbols_first kept d (sights_in m s 0 xs)
