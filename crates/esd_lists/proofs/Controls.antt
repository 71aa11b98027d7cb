-- The first SD item of each name, listed in the order of the names.
use Rattle.std.proofs.Common.{◌≡◌, ℕ, ◌+◌, ◌<◌, Bool, true, false, ◌&&◌, cond, zero, suc, List, [], ◌∷◌, ◌++◌, map, fold, length, slice_get, Option, Some, None, is_some, option_map, refl, sym, ap, ◌∙◌, subst, arith, filter_map, append_assoc}
use Rattle.std.specs.Prelude.{position}
use Rattle.std.specs.List.{find, list_any, position_from, cons_option, IsDistinct}
use Rattle.std.specs.Option.{option_or, option_and_then}
use Rattle.std.proofs.lemmas.List.{map-append, length-map, length-append}
use Rattle.std.proofs.lemmas.List.Folds.{find-append}
use Rattle.std.proofs.lemmas.List.Quantifiers.{position-Some}
use Rattle.le_bytes.specs.declared.name.Name.{Name}
use Rattle.le_bytes.specs.Names.{name_eq}
use Rattle.sym_mod.specs.Kinds.{kind_of, is_sd}
use Rattle.linking_model.specs.Names.{with_first, firsts}
use Rattle.linking_model.specs.Kept.{Sight, Symbol, ByName, symbol_eq, is_sd_named}
use Rattle.esd_index.specs.Steps.{named_if}
use Rattle.esd_index.specs.Parts.{stands_at}
use Rattle.esd_lists.specs.declared.by_name.First.{First}
use Rattle.esd_lists.specs.Gathered.{first_of, control_listed, control_at}
use Rattle.esd_lists.proofs.Firsts.{name_sym, name_same, symbol_refl, position_is, position_stays, grows}
use Rattle.esd_lists.proofs.Sights.{any_find}
use Rattle.esd_lists.proofs.Distinct.{firsts_distinct}
use Rattle.esd_lists.proofs.Places.{placed}

abbrev called : Sight → Symbol
called x = ByName x.item.name

abbrev is_called : Name → Sight → Bool
is_called y x = name_eq x.item.name y

-- the list of first SD items, and x at its end where its name stands next
abbrev sight_listed : List Symbol → List Sight → Sight → List Sight
sight_listed names xs x = cond (is_sd (kind_of x.item) && stands_at names (length xs) (ByName x.item.name)) (xs ++ x ∷ []) xs

-- an SD item at the end where none of its name is listed yet
abbrev fresh_listed : List Sight → Sight → Bool → Bool → List Sight
fresh_listed xs x sd there = cond sd (cond there xs (xs ++ x ∷ [])) xs

-- ---- where a name stands next

new_stands : (ys : List Symbol) (s : Symbol) (zs : List Symbol) → stands_at ((ys ++ s ∷ []) ++ zs) (length ys) s ≡ true
new_stands [] s zs = symbol_refl s
new_stands (y ∷ ys) s zs = new_stands ys s zs

new_there : (names ys rest : List Symbol) (s : Symbol) → names ≡ fold (with_first symbol_eq) (ys ++ s ∷ []) rest → stands_at names (length ys) s ≡ true
new_there names ys rest s e =
    let more = grows (ys ++ s ∷ []) rest in
    subst (λ (ns : List Symbol). stands_at ns (length ys) s ≡ true) (sym (e ∙ more.1)) (new_stands ys s more.0)

old_not : (names ys rest : List Symbol) (s : Symbol) → IsDistinct symbol_eq names → names ≡ fold (with_first symbol_eq) ys rest → list_any (symbol_eq s) ys ≡ true → stands_at names (length ys) s ≡ false
old_not names ys rest s d e there = old_case (stands_at names (length ys) s) refl
  where
    old_case : (b : Bool) → stands_at names (length ys) s ≡ b → b ≡ false
    old_case false h = refl
    old_case true h =
        let late : position (symbol_eq s) ys ≡ Some (length ys) = sym (position_stays s ys rest there) ∙ ap (position (symbol_eq s)) (sym e) ∙ placed names (length ys) s d h in
        let low : length ys < length ys = (position-Some (symbol_eq s) ys (length ys) s late).0 in
        absurd (omega (arith, low))

step_is : (names : List Symbol) (xs : List Sight) (x : Sight) (rest : List Symbol) (sd there : Bool) → is_sd (kind_of x.item) ≡ sd → list_any (symbol_eq (called x)) (map called xs) ≡ there → IsDistinct symbol_eq names
    → names ≡ fold (with_first symbol_eq) (map called xs) (cons_option (cond sd (Some (called x)) None) rest) → sight_listed names xs x ≡ fresh_listed xs x sd there
step_is names xs x rest false there kind any d e = rw kind refl
step_is names xs x rest true true kind any d e =
    let same : names ≡ fold (with_first symbol_eq) (map called xs) rest = rw any at e in
    let no : stands_at names (length xs) (called x) ≡ false = rw (length-map xs called) at (old_not names (map called xs) rest (called x) d same any) in
    rw (kind, no) refl
step_is names xs x rest true false kind any d e =
    let more : names ≡ fold (with_first symbol_eq) (map called xs ++ called x ∷ []) rest = rw any at e in
    let yes : stands_at names (length xs) (called x) ≡ true = rw (length-map xs called) at (new_there names (map called xs) rest (called x) more) in
    rw (kind, yes) refl

names_step : (xs : List Sight) (x : Sight) (rest : List Symbol) (sd there : Bool) → list_any (symbol_eq (called x)) (map called xs) ≡ there
    → fold (with_first symbol_eq) (map called (fresh_listed xs x sd there)) rest ≡ fold (with_first symbol_eq) (map called xs) (cons_option (cond sd (Some (called x)) None) rest)
names_step xs x rest false there any = refl
names_step xs x rest true true any = rw any refl
names_step xs x rest true false any = rw (any, map-append called xs (x ∷ [])) refl

-- ---- what is found by name

or_none : {A : Type 0} (o : Option A) → o ≡ option_or o None
or_none None = refl
or_none (Some x) = refl

or_last : {A : Type 0} (o p : Option A) (x : A) (b : Bool) → option_or (option_or o (cond b (Some x) None)) p ≡ option_or o (cond (true && b) (Some x) p)
or_last None p x true = refl
or_last None p x false = refl
or_last (Some z) p x b = refl

any_called : (n y : Name) (xs : List Sight) → n ≡ y → list_any (symbol_eq (ByName n)) (map called xs) ≡ list_any (is_called y) xs
any_called n y [] e = refl
any_called n y (x ∷ xs) e =
    let here : name_eq n x.item.name ≡ name_eq x.item.name y = name_sym n x.item.name ∙ ap (name_eq x.item.name) e in
    rw (here, any_called n y xs e) refl

some_or : {A : Type 0} (o p q : Option A) → is_some o ≡ true → option_or o p ≡ option_or o q
some_or None p q e = absurd cc
some_or (Some x) p q e = refl

known_case : (y : Name) (xs : List Sight) (x : Sight) (o : Option Sight) (b : Bool) → name_eq x.item.name y ≡ b → list_any (symbol_eq (called x)) (map called xs) ≡ true
    → option_or (find (is_called y) xs) o ≡ option_or (find (is_called y) xs) (cond (true && b) (Some x) o)
known_case y xs x o false same any = refl
known_case y xs x o true same any =
    some_or (find (is_called y) xs) o (Some x) (sym (any_find (is_called y) xs) ∙ sym (any_called x.item.name y xs (name_same x.item.name y same)) ∙ any)

found_step : (y : Name) (xs : List Sight) (x : Sight) (o : Option Sight) (sd there : Bool) → is_sd (kind_of x.item) ≡ sd → list_any (symbol_eq (called x)) (map called xs) ≡ there
    → option_or (find (is_called y) (fresh_listed xs x sd there)) o ≡ option_or (find (is_called y) xs) (cond (is_sd_named y x) (Some x) o)
found_step y xs x o false there kind any = rw kind refl
found_step y xs x o true true kind any = rw kind (known_case y xs x o (name_eq x.item.name y) refl any)
found_step y xs x o true false kind any = rw (kind, find-append (is_called y) xs (x ∷ [])) (or_last (find (is_called y) xs) o x (name_eq x.item.name y))

listed_all : (names : List Symbol) (xs ss : List Sight) → IsDistinct symbol_eq names → names ≡ fold (with_first symbol_eq) (map called xs) (filter_map (λ (x : Sight). named_if is_sd x.item) ss)
    → (map called (fold (sight_listed names) xs ss) ≡ names) × ((y : Name) → find (is_called y) (fold (sight_listed names) xs ss) ≡ option_or (find (is_called y) xs) (find (is_sd_named y) ss))
listed_all names xs [] d e = (sym e, λ y. or_none (find (is_called y) xs))
listed_all names xs (x ∷ ss) d e =
    let rest : List Symbol = filter_map (λ (x : Sight). named_if is_sd x.item) ss in
    let sd : Bool = is_sd (kind_of x.item) in
    let there : Bool = list_any (symbol_eq (called x)) (map called xs) in
    let step : sight_listed names xs x ≡ fresh_listed xs x sd there = step_is names xs x rest sd there refl refl d e in
    let more = listed_all names (fresh_listed xs x sd there) ss d (e ∙ sym (names_step xs x rest sd there refl)) in
    (rw step more.0, λ y. rw step (more.1 y ∙ found_step y xs x (find (is_sd_named y) ss) sd there refl refl))

get_middle : (front xs : List Sight) (x : Sight) → slice_get (front ++ x ∷ xs) (length front) ≡ Some x
get_middle [] xs x = refl
get_middle (f ∷ front) xs x = get_middle front xs x

found_case : (y : Name) (n : ℕ) (front xs : List Sight) (x : Sight) (b : Bool) → name_eq y x.item.name ≡ b → length front ≡ n
    → option_and_then (λ k. slice_get ((front ++ x ∷ []) ++ xs) k) (position_from (symbol_eq (ByName y)) (n + 1) (map called xs)) ≡ find (is_called y) xs
    → option_and_then (λ k. slice_get (front ++ x ∷ xs) k) (cond b (Some n) (position_from (symbol_eq (ByName y)) (n + 1) (map called xs))) ≡ cond (name_eq x.item.name y) (Some x) (find (is_called y) xs)
found_case y n front xs x true same e more =
    let here : name_eq x.item.name y ≡ true = name_sym x.item.name y ∙ same in
    rw (here, sym e) (get_middle front xs x)
found_case y n front xs x false same e more =
    let here : name_eq x.item.name y ≡ false = name_sym x.item.name y ∙ same in
    rw here (rw (append_assoc front (x ∷ []) xs) at more)

found_from : (y : Name) (n : ℕ) (front xs : List Sight) → length front ≡ n → option_and_then (λ k. slice_get (front ++ xs) k) (position_from (symbol_eq (ByName y)) n (map called xs)) ≡ find (is_called y) xs
found_from y n front [] e = refl
found_from y n front (x ∷ xs) e =
    let on : length (front ++ x ∷ []) ≡ n + 1 = length-append front (x ∷ []) ∙ rw e refl in
    found_case y n front xs x (name_eq y x.item.name) refl e (found_from y (n + 1) (front ++ x ∷ []) xs on)

-- ---- what the items bring

either_listed : (xs : List Sight) (x : Sight) (b : Bool) → cond b (map first_of xs ++ first_of x ∷ []) (map first_of xs) ≡ map first_of (cond b (xs ++ x ∷ []) xs)
either_listed xs x true = sym (map-append first_of xs (x ∷ []))
either_listed xs x false = refl

first_step : (names : List Symbol) (xs : List Sight) (x : Sight) → control_listed names (map first_of xs) x ≡ map first_of (sight_listed names xs x)
unfolding control_listed
first_step names xs x = rw (length-map xs first_of) (either_listed xs x (is_sd (kind_of x.item) && stands_at names (length xs) (ByName x.item.name)))

first_steps : (names : List Symbol) (xs ss : List Sight) → fold (control_listed names) (map first_of xs) ss ≡ map first_of (fold (sight_listed names) xs ss)
first_steps names xs [] = refl
first_steps names xs (x ∷ ss) = ap (λ (fs : List First). fold (control_listed names) fs ss) (first_step names xs x) ∙ first_steps names (sight_listed names xs x) ss

get_first : (xs : List Sight) (k : ℕ) → slice_get (map first_of xs) k ≡ option_map first_of (slice_get xs k)
get_first [] k = refl
get_first (x ∷ xs) zero = refl
get_first (x ∷ xs) (suc k) = get_first xs k

first_at : (xs : List Sight) (o : Option ℕ) → option_and_then (λ k. slice_get (map first_of xs) k) o ≡ option_map first_of (option_and_then (λ k. slice_get xs k) o)
first_at xs None = refl
first_at xs (Some k) = get_first xs k

-- the list has at the place of each name what the first SD item of the name brings
pub controls_are : (names : List Symbol) (ss : List Sight) → names ≡ firsts symbol_eq (filter_map (λ (x : Sight). named_if is_sd x.item) ss) → (y : Name) → control_at names (fold (control_listed names) [] ss) y ≡ option_map first_of (find (is_sd_named y) ss)
controls_are names ss e y =
    let d : IsDistinct symbol_eq names = subst (IsDistinct symbol_eq) (sym e) (firsts_distinct (filter_map (λ (x : Sight). named_if is_sd x.item) ss)) in
    let both = listed_all names [] ss d e in
    let all : List Sight = fold (sight_listed names) [] ss in
    let here : position (symbol_eq (ByName y)) names ≡ position_from (symbol_eq (ByName y)) 0 (map called all) = position_is (symbol_eq (ByName y)) names ∙ ap (position_from (symbol_eq (ByName y)) 0) (sym both.0) in
    let sight : option_and_then (λ k. slice_get all k) (position (symbol_eq (ByName y)) names) ≡ find (is_sd_named y) ss =
    ap (option_and_then (λ k. slice_get all k)) here ∙ found_from y 0 [] all refl ∙ both.1 y in
    ap (λ (fs : List First). control_at names fs y) (first_steps names [] ss) ∙ first_at all (position (symbol_eq (ByName y)) names) ∙ ap (option_map first_of) sight
