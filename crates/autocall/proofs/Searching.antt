-- The first call is the one that a search place by place finds.
use Rattle.std.proofs.Common.{arith, ◌≡◌, ℕ, zero, suc, ◌<◌, ◌≤◌, max, not, List, [], ◌∷◌, length, map, filter, slice_get, Option, Some, None, inl, inr, refl, sym, ap, ◌∙◌}
use Rattle.std.specs.Prelude.{option_and_then}
use Rattle.std.specs.List.{filter_map}
use Rattle.std.proofs.lemmas.Bool.{cases_Bool, cases_lt}
use Rattle.le_bytes.specs.declared.name.Name.{Name}
use Rattle.pds_lib.specs.declared.set.Set.{Set}
use Rattle.sym_mod.specs.declared.program.Unknown.{Unknown}
use Rattle.linking_model.specs.Kept.{Read, Symbol, appearance}
use Rattle.linking_model.specs.Merged.{unresolved}
use Rattle.esd_merge.specs.Calls.{strong_name, called_name, callable_at}
use Rattle.esd_merge.proofs.Callable.{in_order}
use Rattle.autocall.specs.Rules.{Rules}
use Rattle.autocall.specs.Calls.{call_of, names_to_call, next_call}
use Rattle.autocall.specs.Searched.{call_at, NoCallBefore, Searches}

-- ---- the first of what a list gives

first_at : {X Y : Type 0} (g : X → Option Y) (ys : List X) (stop : ℕ) (answer : Option Y)
    → ((j : ℕ) → j < stop → option_and_then g (slice_get ys j) ≡ None) → answer ≡ option_and_then g (slice_get ys stop)
    → (answer ≡ None → length ys ≤ stop) → answer ≡ slice_get (filter_map g ys) 0
first_at g [] stop answer none is ends = is
first_at g (y ∷ ys) zero answer none is ends = here (g y) refl
  where
    here : (o : Option _) → g y ≡ o → answer ≡ slice_get (filter_map g (y ∷ ys)) 0
    here (Some v) e = is ∙ e ∙ sym (rw e refl)
    here None e = absurd (let d = ends (is ∙ e) in omega (arith, d))
first_at g (y ∷ ys) (suc stop) answer none is ends =
    let skip : g y ≡ None = none 0 (omega arith) in
    first_at g ys stop answer (λ j lt. none (suc j) (omega (arith, lt))) is (λ e. let d = ends e in omega (arith, d))
    ∙ sym (rw skip refl)

-- ---- the names to be called

strong_names : (us : List Unknown) → filter_map (λ u. strong_name (Some u)) us ≡ map (λ u. u.name) (filter (λ u. not u.weak) us)
strong_names [] = refl
strong_names (u ∷ us) = elim (cases_Bool u.weak) [
  | inl t ↦ rw t (strong_names us)
  | inr f ↦ rw f (ap (λ ns. u.name ∷ ns) (strong_names us))
]

names_in_order : (rs : List Read) → names_to_call rs ≡ filter_map (called_name rs) (appearance rs)
names_in_order rs = sym (strong_names (unresolved rs)) ∙ sym (in_order rs)

kept_on : {X Y Z : Type 0} (f : X → Option Y) (g : Y → Option Z) (x : X) (xs : List X) (y : Y) (o : Option Z) → f x ≡ Some y → g y ≡ o
    → filter_map g (filter_map f xs) ≡ filter_map (λ x. option_and_then g (f x)) xs
    → filter_map g (filter_map f (x ∷ xs)) ≡ filter_map (λ x. option_and_then g (f x)) (x ∷ xs)
kept_on f g x xs y None e d more = rw (e, d) more
kept_on f g x xs y (Some z) e d more = rw (e, d) (ap (λ zs. z ∷ zs) more)

gone_on : {X Y Z : Type 0} (f : X → Option Y) (g : Y → Option Z) (x : X) (xs : List X) (o : Option Y) → f x ≡ o
    → filter_map g (filter_map f xs) ≡ filter_map (λ x. option_and_then g (f x)) xs
    → filter_map g (filter_map f (x ∷ xs)) ≡ filter_map (λ x. option_and_then g (f x)) (x ∷ xs)
gone_on f g x xs None e more = rw e more
gone_on f g x xs (Some y) e more = kept_on f g x xs y (g y) e refl more

chained : {X Y Z : Type 0} (f : X → Option Y) (g : Y → Option Z) (xs : List X) → filter_map g (filter_map f xs) ≡ filter_map (λ x. option_and_then g (f x)) xs
chained f g [] = refl
chained f g (x ∷ xs) = gone_on f g x xs (f x) refl (chained f g xs)

-- ---- the call at a place

call_from : Rules → List Read → List Set → Symbol → Option (Name × ℕ)
call_from r rs sets y = option_and_then (call_of r sets) (called_name rs y)

twice : {X Y Z : Type 0} (f : X → Option Y) (g : Y → Option Z) (o : Option X) → option_and_then g (option_and_then f o) ≡ option_and_then (λ x. option_and_then g (f x)) o
twice f g None = refl
twice f g (Some x) = refl

call_there : (r : Rules) (rs : List Read) (sets : List Set) (k : ℕ) → call_at r rs sets k ≡ option_and_then (call_from r rs sets) (slice_get (appearance rs) k)
unfolding callable_at call_from
call_there r rs sets k = twice (called_name rs) (call_of r sets) (slice_get (appearance rs) k)

first_call : (r : Rules) (rs : List Read) (sets : List Set) → next_call r rs sets ≡ slice_get (filter_map (call_from r rs sets) (appearance rs)) 0
unfolding next_call call_from
first_call r rs sets =
    ap (λ ns. slice_get (filter_map (call_of r sets) ns) 0) (names_in_order rs)
    ∙ ap (λ xs. slice_get xs 0) (chained (called_name rs) (call_of r sets) (appearance rs))

-- no call stands past the last place
none_past : {X Y : Type 0} (g : X → Option Y) (xs : List X) (k : ℕ) → length xs ≤ k → option_and_then g (slice_get xs k) ≡ None
none_past g [] k h = refl
none_past g (x ∷ xs) zero h = absurd (omega (arith, h))
none_past g (x ∷ xs) (suc k) h = none_past g xs k (omega (arith, h))

-- ---- what a search finds

-- a search that found nothing
pub found_none : (r : Rules) (rs : List Read) (sets : List Set) (start count place : ℕ) → count ≡ length (appearance rs)
    → count ≤ place → ((j : ℕ) → start ≤ j → j < place → call_at r rs sets j ≡ None) → Searches r rs sets start (max start count) None
found_none r rs sets start count place is past none = record {
  onward = omega arith;
  passed = λ j from lt. none j from (omega (arith, past, lt, from));
  answered = sym (call_there r rs sets (max start count) ∙ none_past (call_from r rs sets) (appearance rs) (max start count) (rw (sym is) (omega arith)));
  ended = λ e. ap (max start) is;
}

-- where no name before the start has a call, the answer is the next call
pub next_found : (r : Rules) (rs : List Read) (sets : List Set) (start stop : ℕ) (answer : Option (Name × ℕ)) → Searches r rs sets start stop answer
    → NoCallBefore r rs sets start → answer ≡ next_call r rs sets
next_found r rs sets start stop answer s before =
    first_at (call_from r rs sets) (appearance rs) stop answer
    (λ j lt. sym (call_there r rs sets j) ∙ (elim (cases_lt j start) [ inl h ↦ before j h | inr h ↦ s.passed j h lt ]))
    (s.answered ∙ call_there r rs sets stop)
    (λ e. let d = s.ended e in rw d (omega arith))
    ∙ sym (first_call r rs sets)
