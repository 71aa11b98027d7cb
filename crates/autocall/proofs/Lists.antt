-- Lists of names, and of symbols with their data sets, that grow at their ends.
use Rattle.std.proofs.Common.{◌≡◌, Bool, true, false, List, [], ◌∷◌, ◌++◌, length, take, Some, inl, inr, refl, sym, ap, ◌∙◌, append_assoc}
use Rattle.std.specs.Prelude.{find, is_some, option_map}
use Rattle.std.specs.List.{list_any}
use Rattle.std.specs.Map.{lookup}
use Rattle.std.proofs.lemmas.Bool.{cases_Bool}
use Rattle.std.proofs.lemmas.List.{append-nil, take_at}
use Rattle.le_bytes.specs.declared.name.Name.{Name}
use Rattle.le_bytes.specs.Names.{name_eq}
use Rattle.linking_model.specs.Names.{with_first}
use Rattle.indexmap.specs.IndexMap.{insert_entry}
use Rattle.autocall.specs.Rules.{has_symbol_of, BeginsWith}

-- ---- lists that begin with another

pub begins_same : {A : Type 0} (xs : List A) → BeginsWith xs xs
begins_same xs = ([], sym (append-nil xs))

pub begins_with_first : {A : Type 0} (eq : A → A → Bool) (xs old : List A) (x : A) → BeginsWith xs old → BeginsWith (with_first eq xs x) old
begins_with_first eq xs old x h = elim (cases_Bool (list_any (eq x) xs)) [
  | inl t ↦ rw t h
  | inr f ↦ rw f (h.0 ++ x ∷ [], ap (λ ys. ys ++ x ∷ []) h.1 ∙ append_assoc old h.0 (x ∷ []))
]

-- what is there at first is there again once the rest is cut
pub cut_back : {A : Type 0} (new old : List A) → BeginsWith new old → take (length old) new ≡ old
cut_back new old h = ap (take (length old)) h.1 ∙ take_at old h.0 (length old) refl

-- ---- symbols with their data sets

-- the value of a key is that of the first pair of it
pub looked_up : (k : Name) (es : List (Name × Name)) → lookup (name_eq k) es ≡ option_map (λ (p : Name × Name). p.1) (find (λ (p : Name × Name). name_eq k p.0) es)
looked_up k [] = refl
looked_up k (e ∷ es) = elim (cases_Bool (name_eq k e.0)) [
  | inl t ↦ rw t refl
  | inr f ↦ rw f (looked_up k es)
]

any_pair : (k v : Name) (es : List (Name × Name)) → list_any (has_symbol_of (k, v)) es ≡ is_some (lookup (name_eq k) es)
any_pair k v [] = refl
any_pair k v (e ∷ es) = elim (cases_Bool (name_eq k e.0)) [
  | inl t ↦ rw t refl
  | inr f ↦ rw f (any_pair k v es)
]

-- a symbol that is there stays as it is
pub stays : (k v : Name) (es : List (Name × Name)) → is_some (lookup (name_eq k) es) ≡ true → es ≡ with_first has_symbol_of es (k, v)
stays k v es h = rw (any_pair k v es ∙ h) refl

put_last : (k v : Name) (es : List (Name × Name)) → is_some (lookup (name_eq k) es) ≡ false → insert_entry name_eq es k v ≡ es ++ (k, v) ∷ []
put_last k v [] h = refl
put_last k v (e ∷ es) h = elim (cases_Bool (name_eq k e.0)) [
  | inl t ↦ absurd (let d : is_some (Some e.1) ≡ false = rw t at h in cc)
  | inr f ↦ rw f (ap (λ xs. e ∷ xs) (put_last k v es (let d = rw f at h in d)))
]

-- one that is not comes last
pub comes_last : (k v : Name) (es : List (Name × Name)) → is_some (lookup (name_eq k) es) ≡ false → insert_entry name_eq es k v ≡ with_first has_symbol_of es (k, v)
comes_last k v es h = put_last k v es h ∙ rw (any_pair k v es ∙ h) refl
