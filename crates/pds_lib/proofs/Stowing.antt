-- Members go in at the place of their names.
use Rattle.std.proofs.Common.{◌≡◌, ℕ, zero, suc, ◌+◌, ◌<◌, Bool, true, false, cond, ◌||◌, List, [], ◌∷◌, length, Option, Some, None, Result, Ok, Err, refl, sym, ap, ◌∙◌, arith}
use Rattle.std.specs.Prelude.{find, slice_get, is_some, insert}
use Rattle.std.specs.List.{list_any}
use Rattle.le_bytes.specs.declared.name.Name.{Name}
use Rattle.le_bytes.specs.Names.{name_eq}
use Rattle.pds_directory.specs.declared.entry.Entry.{Entry}
use Rattle.pds_lib.specs.declared.member.StowFault.{StowFault}
use Rattle.pds_lib.specs.declared.member.StowFault.TheVariants.{Exists, TooManyRecords, Memory}
use Rattle.pds_lib.specs.declared.table.Row.{Row}
use Rattle.pds_lib.specs.declared.table.Store.{Store}
use Rattle.pds_directory.specs.Parts.{is_below}
use Rattle.pds_directory.specs.Order.{ascends, ascends_after, place_of}
use Rattle.pds_lib.specs.Stored.{row_name}
use Rattle.pds_lib.specs.Stow.{has_name, put_in, put_all}
use Rattle.pds_lib.specs.Rows.{row_for, PutsRow, PutsRows}
use Rattle.pds_directory.proofs.Halving.{both_true}
use Rattle.pds_lib.proofs.Halving.{else_below}

-- ---- a name that is there

any_step : {X : Type 0} (b : Bool) (x : X) (rest : Bool) (o : Option X) → rest ≡ is_some o → (b || rest) ≡ is_some (cond b (Some x) o)
any_step true x rest o e = refl
any_step false x rest o e = e

pub any_is_some : {X : Type 0} (p : X → Bool) (xs : List X) → list_any p xs ≡ is_some (find p xs)
any_is_some p [] = refl
any_is_some p (x ∷ xs) = any_step (p x) x (list_any p xs) (find p xs) (any_is_some p xs)

there : {X : Type 0} (xs : List X) (k : ℕ) → k < length xs → is_some (slice_get xs k) ≡ true
there [] k lt = absurd (omega arith)
there (x ∷ xs) zero lt = refl
there (x ∷ xs) (suc k) lt = there xs k (omega arith)

pub name_there : (rows : List Row) (n : Name) (k : ℕ) → (k < length rows) × (slice_get rows k ≡ find (λ (r : Row). name_eq (row_name r) n) rows)
    → true ≡ has_name row_name rows n
name_there rows n k found = sym (any_is_some (λ (r : Row). name_eq (row_name r) n) rows ∙ ap is_some (sym found.1) ∙ there rows k found.0)

pub name_wanting : (rows : List Row) (n : Name) → find (λ (r : Row). name_eq (row_name r) n) rows ≡ None → false ≡ has_name row_name rows n
name_wanting rows n none = sym (any_is_some (λ (r : Row). name_eq (row_name r) n) rows ∙ ap is_some none)

-- ---- the order stays

none_same : (a b : Bool) → (a || b) ≡ false → (a ≡ false) × (b ≡ false)
none_same true b e = absurd cc
none_same false b e = (refl, e)

put_step : {X : Type 0} (name : X → Name) (m : Name) (x y : X) (ys : List X) (b : Bool) → b ≡ is_below (name y) (name x)
    → is_below m (name x) ≡ true → is_below m (name y) ≡ true → ascends_after name (name y) ys ≡ true → name_eq (name y) (name x) ≡ false
    → (is_below (name y) (name x) ≡ true → ascends_after name (name y) (insert ys (place_of name ys (name x)) x) ≡ true)
    → ascends_after name m (insert (y ∷ ys) (cond b (1 + place_of name ys (name x)) 0) x) ≡ true
put_step name m x y ys true e mx my up other ih =
    let k : 1 + place_of name ys (name x) ≡ suc (place_of name ys (name x)) = omega arith in
    rw (k, my, ih (sym e)) refl
put_step name m x y ys false e mx my up other ih = rw (mx, else_below (name y) (name x) (sym e) other, up) refl

put_after : {X : Type 0} (name : X → Name) (m : Name) (xs : List X) (x : X) → ascends_after name m xs ≡ true → is_below m (name x) ≡ true
    → has_name name xs (name x) ≡ false → ascends_after name m (put_in name xs x) ≡ true
put_after name m [] x up below new = rw below refl
put_after name m (y ∷ ys) x up below new =
    let both = both_true (is_below m (name y)) (ascends_after name (name y) ys) up in
    let none = none_same (name_eq (name y) (name x)) (has_name name ys (name x)) new in
    put_step name m x y ys (is_below (name y) (name x)) refl below both.0 both.1 none.0 (λ lt. put_after name (name y) ys x both.1 lt none.1)

first_step : {X : Type 0} (name : X → Name) (x y : X) (ys : List X) (b : Bool) → b ≡ is_below (name y) (name x)
    → ascends_after name (name y) ys ≡ true → name_eq (name y) (name x) ≡ false → has_name name ys (name x) ≡ false
    → ascends name (insert (y ∷ ys) (cond b (1 + place_of name ys (name x)) 0) x) ≡ true
first_step name x y ys true e up other new =
    let k : 1 + place_of name ys (name x) ≡ suc (place_of name ys (name x)) = omega arith in
    rw k (put_after name (name y) ys x up (sym e) new)
first_step name x y ys false e up other new = rw (else_below (name y) (name x) (sym e) other, up) refl

-- one that is new goes in between those below it and those above
pub ascends_put : {X : Type 0} (name : X → Name) (xs : List X) (x : X) → ascends name xs ≡ true → has_name name xs (name x) ≡ false
    → ascends name (put_in name xs x) ≡ true
ascends_put name [] x up new = refl
ascends_put name (y ∷ ys) x up new =
    let none = none_same (name_eq (name y) (name x)) (has_name name ys (name x)) new in
    first_step name x y ys (is_below (name y) (name x)) refl up none.0 none.1

-- ---- entry after entry

pub row_put : (store : Store) (old new : List Row) (e : Entry) (es : List Entry) (total : Result (List Row) StowFault)
    → (has_name row_name old e.name ≡ false) × (new ≡ put_in row_name old (row_for store e))
    → put_all row_name (row_for store) old (e ∷ es) ≡ total → put_all row_name (row_for store) new es ≡ total
unfolding put_all
row_put store old new e es total here so_far =
    let one : put_all row_name (row_for store) old (e ∷ es) ≡ put_all row_name (row_for store) (put_in row_name old (row_for store e)) es = rw here.0 refl in
    rw here.1 (sym one ∙ so_far)

pub row_refused : (f : StowFault) (store : Store) (old new left : List Row) (e : Entry) (es : List Entry) (total : Result (List Row) StowFault)
    → PutsRow (Err f) old new (row_for store e) → put_all row_name (row_for store) old (e ∷ es) ≡ total → PutsRows (Err f) left total
unfolding put_all
row_refused Memory store old new left e es total here so_far = tt
row_refused (TooManyRecords n) store old new left e es total here so_far = absurd here
row_refused (Exists n) store old new left e es total here so_far =
    let one : put_all row_name (row_for store) old (e ∷ es) ≡ Err (Exists e.name) = rw here.0 refl in
    sym so_far ∙ one ∙ ap (λ (m : Name). Err (Exists m)) (sym here.1)

pub rows_put : (store : Store) (old : List Row) (total : Result (List Row) StowFault)
    → put_all row_name (row_for store) old [] ≡ total → total ≡ Ok old
unfolding put_all
rows_put store old total so_far = sym so_far
