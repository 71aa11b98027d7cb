-- Where no call is left.
use Rattle.std.proofs.Common.{arith, ◌≡◌, ◌⊎◌, ℕ, Bool, true, false, not, ◌||◌, List, [], ◌∷◌, map, filter, slice_get, Option, Some, None, inl, inr, refl, sym, ap, ◌∙◌}
use Rattle.std.specs.Prelude.{option_and_then, option_map}
use Rattle.std.specs.List.{filter_map, list_any, AllByRecursion}
use Rattle.std.proofs.lemmas.Bool.{cases_Bool}
use Rattle.std.proofs.lemmas.List.Elements.{All-from_recursion}
use Rattle.std.proofs.lemmas.List.Folds.{list_any-append}
use Rattle.le_bytes.specs.declared.name.Name.{Name}
use Rattle.le_bytes.specs.Names.{name_eq}
use Rattle.pds_lib.specs.declared.set.Set.{Set}
use Rattle.sym_mod.specs.declared.program.Unknown.{Unknown}
use Rattle.linking_model.specs.Kept.{Read}
use Rattle.linking_model.specs.Names.{with_first}
use Rattle.linking_model.specs.Merged.{unresolved}
use Rattle.esd_merge.specs.Calls.{callable_at}
use Rattle.autocall.specs.Rules.{Rules, with_tried, is_stopped, was_tried}
use Rattle.autocall.specs.Calls.{call_of, library_of, next_call}
use Rattle.autocall.specs.Searched.{call_at}
use Rattle.autocall.specs.Laws.{AddedKeepsPlace, TriedKeepsPlace, NoCallIsLeft, IsLeft}

-- ---- modules that are added

added_at : (r : Rules) (old new : List Read) (sets : List Set) (j : ℕ) (o : Option Name) → callable_at new j ≡ o
    → ((y : Name) → callable_at new j ≡ Some y → callable_at old j ≡ Some y) → call_at r old sets j ≡ None → call_at r new sets j ≡ None
added_at r old new sets j None e were none = rw e refl
added_at r old new sets j (Some y) e were none = ap (option_and_then (call_of r sets)) (e ∙ sym (were y e)) ∙ none

pub added_keeps : AddedKeepsPlace
added_keeps r old new sets k changed before were j lt =
    added_at r old new sets j (callable_at new j) refl (λ y e. were j y (omega (arith, lt)) e) (before j (omega (arith, lt)))

-- ---- a name that was tried

still : {A : Type 0} (p : A → Bool) (eq : A → A → Bool) (xs : List A) (x : A) → list_any p xs ≡ true → list_any p (with_first eq xs x) ≡ true
still p eq xs x h = elim (cases_Bool (list_any (eq x) xs)) [
  | inl t ↦ rw t h
  | inr f ↦ rw f (list_any-append p xs (x ∷ []) ∙ rw h refl)
]

-- the name has no call for one of three causes
abbrev HasNone : Rules → List Set → Name → Type 0
HasNone r sets n = (is_stopped r n ≡ true) ⊎ (was_tried r n ≡ true) ⊎ (library_of r sets n ≡ None)

call_to : Name → ℕ → Name × ℕ
call_to n k = (n, k)

given : (n : Name) (o : Option ℕ) → option_map (call_to n) o ≡ None → o ≡ None
given n None e = refl
given n (Some k) e = absurd cc

without_call : (r : Rules) (sets : List Set) (n : Name) → call_of r sets n ≡ None → HasNone r sets n
unfolding call_of call_to
without_call r sets n e = elim (cases_Bool (is_stopped r n)) [
  | inl t ↦ inl t
  | inr f ↦ elim (cases_Bool (was_tried r n)) [
    | inl t ↦ inr (inl t)
    | inr g ↦ inr (inr (given n (library_of r sets n) (let d = rw (f, g) at e in d)))
  ]
]

stopped_none : (r : Rules) (sets : List Set) (n : Name) → is_stopped r n ≡ true → call_of r sets n ≡ None
unfolding call_of
stopped_none r sets n t = rw t refl

tried_none : (r : Rules) (sets : List Set) (n : Name) → was_tried r n ≡ true → call_of r sets n ≡ None
unfolding call_of
tried_none r sets n t = elim (cases_Bool (is_stopped r n)) [ inl s ↦ rw s refl | inr s ↦ rw (s, t) refl ]

absent_none : (r : Rules) (sets : List Set) (n : Name) → library_of r sets n ≡ None → call_of r sets n ≡ None
unfolding call_of
absent_none r sets n a = elim (cases_Bool (is_stopped r n || was_tried r n)) [ inl s ↦ rw s refl | inr s ↦ rw (s, a) refl ]

none_after : (r : Rules) (sets : List Set) (n m : Name) → HasNone r sets n → call_of (with_tried r m) sets n ≡ None
none_after r sets n m (inl t) = stopped_none (with_tried r m) sets n t
none_after r sets n m (inr (inl t)) = tried_none (with_tried r m) sets n (still (name_eq n) name_eq r.tried m t)
none_after r sets n m (inr (inr a)) = absent_none (with_tried r m) sets n a

tried_at : (r : Rules) (sets : List Set) (m : Name) (o : Option Name) → option_and_then (call_of r sets) o ≡ None → option_and_then (call_of (with_tried r m) sets) o ≡ None
tried_at r sets m None e = refl
tried_at r sets m (Some n) e = none_after r sets n m (without_call r sets n e)

pub tried_keeps : TriedKeepsPlace
tried_keeps r rs sets k m before j lt = tried_at r sets m (callable_at rs j) (before j lt)

-- ---- unresolved names

-- no name of the list has a call
none_called : (r : Rules) (sets : List Set) (n : Name) (ns : List Name) → slice_get (filter_map (call_of r sets) (n ∷ ns)) 0 ≡ None
    → (call_of r sets n ≡ None) × (slice_get (filter_map (call_of r sets) ns) 0 ≡ None)
none_called r sets n ns e = called (call_of r sets n) refl
  where
    called : (o : Option (Name × ℕ)) → call_of r sets n ≡ o → (call_of r sets n ≡ None) × (slice_get (filter_map (call_of r sets) ns) 0 ≡ None)
    called None d = (d, let f = rw d at e in f)
    called (Some c) d = absurd (let f = rw d at e in cc)

each_left : (r : Rules) (sets : List Set) (us : List Unknown) → slice_get (filter_map (call_of r sets) (map (λ u. u.name) (filter (λ u. not u.weak) us))) 0 ≡ None
    → AllByRecursion (IsLeft r sets) us
each_left r sets [] e = tt
each_left r sets (u ∷ us) e = elim (cases_Bool u.weak) [
  | inl t ↦ (λ f. absurd (true_is_not_false (sym t ∙ f)), each_left r sets us (let d = rw t at e in d))
  | inr f ↦ (let d = rw f at e in let n = none_called r sets u.name (map (λ u. u.name) (filter (λ u. not u.weak) us)) d in
      (λ g. without_call r sets u.name n.0, each_left r sets us n.1))
]
  where
    true_is_not_false : true ≡ false → ⊥
    true_is_not_false e = absurd cc

pub none_left : NoCallIsLeft
unfolding next_call
none_left r rs sets e = All-from_recursion (IsLeft r sets) (unresolved rs) (each_left r sets (unresolved rs) e)
