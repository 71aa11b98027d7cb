-- Records and members, one after the other.
use Rattle.std.proofs.Common.{◌≡◌, ℕ, zero, suc, ◌+◌, ◌-◌, ◌≤◌, ◌<◌, Bool, true, false, cond, eqb, List, [], ◌∷◌, length, drop, get_or, Option, Some, None, refl, sym, ap, ◌∙◌, arith}
use Rattle.std.specs.Prelude.{slice_get, slice_index_or}
use Rattle.std.specs.Option.{is_some}
use Rattle.std.proofs.lemmas.List.{drop_more, drop_all}
use Rattle.std.proofs.lemmas.List.Sums.{sum_by-drop_more}
use Rattle.std.proofs.lemmas.Bool.Decides.{nat_tests}
use Rattle.std.proofs.lemmas.Slice.Eq.{bytes_eq-Decides}
use Rattle.le_bytes.specs.declared.name.Name.{Name}
use Rattle.le_bytes.specs.Names.{name_eq}
use Rattle.pds_directory.specs.declared.entry.Entry.{Entry}
use Rattle.pds_lib.specs.Contents.{Contents}
use Rattle.pds_image.specs.Image.{is_main, added, first_from, records_in}
use Rattle.pds_image.specs.Firsts.{first_with}

none_at : (rs : List (List ℕ)) (k : ℕ) → k < length rs → None ≡ slice_get rs k → ⊥
none_at [] k lt here = absurd (omega arith)
none_at (r ∷ rs) zero lt here = absurd cc
none_at (r ∷ rs) (suc k) lt here = none_at rs k (omega arith) here

some_at : (rs : List (List ℕ)) (k : ℕ) (x : List ℕ) → Some x ≡ slice_get rs k → x ≡ slice_index_or rs k []
some_at [] k x here = absurd cc
some_at (r ∷ rs) zero x here = cc
some_at (r ∷ rs) (suc k) x here = some_at rs k x here

behind : (rs : List (List ℕ)) (k : ℕ) → cond (eqb (k + 1) 0) None (slice_get rs (k + 1 - 1)) ≡ slice_get rs k
behind rs k =
    let same : k + 1 - 1 ≡ k = omega arith in
    let other : eqb (k + 1) 0 ≡ false = grind (arith, nat_tests) in
    rw (other, same) refl

pub no_record_behind : (rs : List (List ℕ)) (k : ℕ) → k < length rs → None ≡ cond (eqb (k + 1) 0) None (slice_get rs (k + 1 - 1)) → [] ≡ slice_index_or rs k []
no_record_behind rs k lt here = absurd (none_at rs k lt (here ∙ behind rs k))

pub some_record_behind : (rs : List (List ℕ)) (k : ℕ) (x : List ℕ) → Some x ≡ cond (eqb (k + 1) 0) None (slice_get rs (k + 1 - 1)) → x ≡ slice_index_or rs k []
some_record_behind rs k x here = some_at rs k x (here ∙ behind rs k)

-- ---- where members begin

-- what is known, or else the other
abbrev pub or_else : Option ℕ → Option ℕ → Option ℕ
or_else (Some j) o = Some j
or_else None o = o

noted : (b : Bool) (k : ℕ) (o p : Option ℕ) → or_else (cond b (Some k) None) o ≡ cond b (Some k) o
noted true k o p = refl
noted false k o p = refl

pub first_noted : (k : ℕ) (lib : Contents) (e : Entry) (es : List Entry) (known : Option ℕ) (n : Name)
    → or_else (first_with known e k n) (first_from (k + added lib e) lib es n) ≡ or_else known (first_from k lib (e ∷ es) n)
unfolding first_from first_with
first_noted k lib e es (Some j) n = refl
first_noted k lib e es None n = noted (is_main n e) k (first_from (k + added lib e) lib es n) None

pub first_step : (next : ℕ) (lib : Contents) (es : List Entry) (i : ℕ) (d : Entry) (old new : Option ℕ) (a : ℕ) (n : Name) (total : Option ℕ) → i < length es
    → new ≡ first_with old (get_or es i d) next n → a ≡ added lib (get_or es i d)
    → or_else old (first_from next lib (drop i es) n) ≡ total
    → or_else new (first_from (next + a) lib (drop (i + 1) es) n) ≡ total
first_step next lib es i d old new a n total lt new_is a_is so_far =
    rw (new_is, a_is)
    (first_noted next lib (get_or es i d) (drop (i + 1) es) old n
    ∙ ap (λ (ys : List Entry). or_else old (first_from next lib ys n)) (sym (drop_more es i d lt)) ∙ so_far)

pub count_step : (next : ℕ) (lib : Contents) (es : List Entry) (i : ℕ) (d : Entry) (a total : ℕ) → i < length es → a ≡ added lib (get_or es i d)
    → next + records_in lib (drop i es) ≡ total → next + a + records_in lib (drop (i + 1) es) ≡ total
count_step next lib es i d a total lt a_is so_far =
    let more = sum_by-drop_more (added lib) es i d lt in
    omega (arith, more, a_is, so_far)

or_none : (o : Option ℕ) → o ≡ or_else o None
or_none None = refl
or_none (Some j) = refl

pub first_end : (next : ℕ) (lib : Contents) (es : List Entry) (i : ℕ) (o : Option ℕ) (n : Name) (total : Option ℕ) → length es ≤ i
    → or_else o (first_from next lib (drop i es) n) ≡ total → o ≡ total
unfolding first_from
first_end next lib es i o n total past so_far =
    or_none o ∙ ap (λ (ys : List Entry). or_else o (first_from next lib ys n)) (sym (drop_all i es past)) ∙ so_far

put_case : (b : Bool) (o : Option ℕ) (e : Entry) (k : ℕ) (n : Name) → b ≡ name_eq e.name n → e.alias ≡ false → (b ≡ true → o ≡ None)
    → cond b (Some k) o ≡ first_with o e k n
unfolding first_with
put_case true None e k n same main old = rw (main, ← same) refl
put_case true (Some j) e k n same main old = let none : Some j ≡ None = old refl in absurd cc
put_case false None e k n same main old = rw (main, ← same) refl
put_case false (Some j) e k n same main old = refl

none_from : (o : Option ℕ) → is_some o ≡ false → o ≡ None
none_from None e = refl
none_from (Some j) e = absurd cc

pub name_from : (m n : Name) → name_eq m n ≡ true → m ≡ n
name_from m n e =
    let same : m.0 ≡ n.0 = (bytes_eq-Decides m.0 n.0).0 e in
    ap (λ (bs : List ℕ). record { 0 = bs }) same

pub first_put : (old new : Name → Option ℕ) (e : Entry) (k : ℕ) → ((q : Name) → new q ≡ cond (name_eq e.name q) (Some k) (old q))
    → is_some (old e.name) ≡ false → e.alias ≡ false → (n : Name) → new n ≡ first_with (old n) e k n
first_put old new e k put free main n =
    put n ∙ put_case (name_eq e.name n) (old n) e k n refl main (λ same. ap old (sym (name_from e.name n same)) ∙ none_from (old e.name) free)
