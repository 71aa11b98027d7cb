-- The constants of relocation items, with one more item.
use Rattle.std.proofs.Common.{arith, ◌≡◌, ◌≢◌, ℕ, zero, suc, ◌<◌, Bool, true, false, cond, if◌then◌else◌, List, [], ◌∷◌, ◌++◌, length, map, get_or, set, ◌⊎◌, inl, inr, Some, None, refl, sym, ◌∙◌, ap, slice_get}
use Rattle.std.specs.List.{list_any, filter, position}
use Rattle.std.proofs.lemmas.List.{append-nil, map-append}
use Rattle.std.proofs.lemmas.List.Elements.{filter-append}
use Rattle.std.proofs.lemmas.List.Quantifiers.{position-Some}
use Rattle.load_recs.specs.declared.items.SymbolItem.{SymbolItem}
use Rattle.load_recs.specs.declared.items.RldItem.{RldItem}
use Rattle.sym_mod.specs.declared.module.SymConst.{SymConst}
use Rattle.linking_model.specs.Names.{firsts}
use Rattle.member_model.specs.Symbols.{same_field}
use Rattle.member_model.specs.ReadBack.{term_of, constant_of}
use Rattle.mod_read.specs.Gathered.{holding, constants_in}
use Rattle.mod_read.proofs.Positions.{any_of_position, any_of_no_position}
use Rattle.mod_read.proofs.SameFields.{none_at, filter_none, same_sym, same_trans, firsts_known, firsts_new, any_firsts, all_differ}

-- the constant of the field of g
abbrev pub constant_in : List SymbolItem → List RldItem → RldItem → SymConst
constant_in symbols items g = constant_of (holding symbols [] []) items g

terms_one : (symbols : List SymbolItem) (b : Bool) (f : RldItem) → map (term_of symbols) (cond b (f ∷ []) []) ≡ (if b then term_of symbols f ∷ [] else [])
terms_one symbols true f = refl
terms_one symbols false f = refl

terms_more : (symbols : List SymbolItem) (xs : List RldItem) (f g : RldItem)
    → map (term_of symbols) (filter (same_field g) (xs ++ f ∷ []))
    ≡ map (term_of symbols) (filter (same_field g) xs) ++ (if same_field g f then term_of symbols f ∷ [] else [])
terms_more symbols xs f g =
    ap (λ ys. map (term_of symbols) ys) (filter-append (same_field g) xs (f ∷ []))
    ∙ (map-append (term_of symbols) (filter (same_field g) xs) (filter (same_field g) (f ∷ []))
    ∙ ap (λ ys. map (term_of symbols) (filter (same_field g) xs) ++ ys) (terms_one symbols (same_field g f) f))

constant_joined : (symbols : List SymbolItem) (xs : List RldItem) (f g : RldItem) → same_field g f ≡ true
    → constant_in symbols (xs ++ f ∷ []) g ≡ record (constant_in symbols xs g) { terms = (constant_in symbols xs g).terms ++ term_of symbols f ∷ [] }
constant_joined symbols xs f g same =
    ap (λ ys. let c : SymConst = record (constant_in symbols xs g) { terms = ys } in c)
    (terms_more symbols xs f g ∙ ap (λ b. map (term_of symbols) (filter (same_field g) xs) ++ (if b then term_of symbols f ∷ [] else [])) same)

constant_kept : (symbols : List SymbolItem) (xs : List RldItem) (f g : RldItem) → same_field g f ≡ false
    → constant_in symbols (xs ++ f ∷ []) g ≡ constant_in symbols xs g
constant_kept symbols xs f g differ =
    ap (λ ys. let c : SymConst = record (constant_in symbols xs g) { terms = ys } in c)
    (terms_more symbols xs f g ∙ (ap (λ b. map (term_of symbols) (filter (same_field g) xs) ++ (if b then term_of symbols f ∷ [] else [])) differ
    ∙ append-nil (map (term_of symbols) (filter (same_field g) xs))))

constant_alone : (symbols : List SymbolItem) (xs : List RldItem) (f : RldItem) → list_any (same_field f) xs ≡ false
    → constant_in symbols (xs ++ f ∷ []) f ≡ constant_in symbols (f ∷ []) f
constant_alone symbols xs f new =
    ap (λ ys. let c : SymConst = record (constant_in symbols (f ∷ []) f) { terms = map (term_of symbols) ys } in c)
    (filter-append (same_field f) xs (f ∷ []) ∙ ap (λ ys. ys ++ filter (same_field f) (f ∷ [])) (filter_none (same_field f) xs new))

-- ---- lists that differ at one place

map_same : {A B : Type 0} (F G : A → B) (xs : List A) (a : A) → ((i : ℕ) → i < length xs → G (get_or xs i a) ≡ F (get_or xs i a)) → map F xs ≡ map G xs
map_same F G [] a same = refl
map_same F G (x ∷ xs) a same =
    ap (λ y. y ∷ map F xs) (sym (same 0 (omega arith)))
    ∙ ap (λ ys. G x ∷ ys) (map_same F G xs a (λ i within. same (suc i) (omega (arith, within))))

map_set : {A B : Type 0} (F G : A → B) (xs : List A) (n : ℕ) (a : A) → n < length xs
    → ((i : ℕ) → i < length xs → i ≢ n → G (get_or xs i a) ≡ F (get_or xs i a))
    → set (map F xs) n (G (get_or xs n a)) ≡ map G xs
map_set F G [] n a within same = absurd (omega (arith, within))
map_set F G (x ∷ xs) zero a within same =
    ap (λ ys. G x ∷ ys) (map_same F G xs a (λ i below. same (suc i) (omega (arith, below)) (omega arith)))
map_set F G (x ∷ xs) (suc n) a within same =
    ap (λ y. y ∷ set (map F xs) n (G (get_or xs n a))) (sym (same 0 (omega arith) (omega arith)))
    ∙ ap (λ ys. G x ∷ ys) (map_set F G xs n a (omega (arith, within)) (λ i below other. same (suc i) (omega (arith, below)) (omega (arith, other))))

get_map : {A B : Type 0} (F : A → B) (xs : List A) (n : ℕ) (a : A) → n < length xs → slice_get (map F xs) n ≡ Some (F (get_or xs n a))
get_map F [] n a within = absurd (omega (arith, within))
get_map F (x ∷ xs) zero a within = refl
get_map F (x ∷ xs) (suc n) a within = get_map F xs n a (omega (arith, within))

cases_ne : (i n : ℕ) → i ≢ n → (i < n) ⊎ (n < i)
cases_ne i n other = grind (arith, other)

-- ---- one more item

-- the first at the field of f is the only one there
one_first : (xs : List RldItem) (f : RldItem) (n : ℕ) → position (same_field f) (firsts same_field xs) ≡ Some n
    → (i : ℕ) → i < length (firsts same_field xs) → i ≢ n → same_field (get_or (firsts same_field xs) i f) f ≡ false
one_first xs f n found i within other =
    let L : List RldItem = firsts same_field xs in
    let p : (n < length L) × (same_field f (get_or L n f) ≡ true) × ((k : ℕ) → k < n → same_field f (get_or L k f) ≡ false) =
    position-Some (same_field f) L n f found in
    same_sym (get_or L i f) f
    ∙ elim (cases_ne i n other) [
      | inl below ↦ p.2 i below
      | inr above ↦ same_trans f (get_or L n f) (get_or L i f) p.1 ∙ all_differ xs n i f above within
    ]

-- one more term of a constant that is there
pub constants_joined : (symbols : List SymbolItem) (xs : List RldItem) (f : RldItem) (n : ℕ) (new : List SymConst)
    → position (same_field f) (firsts same_field xs) ≡ Some n
    → ((c : SymConst) → slice_get (constants_in symbols xs) n ≡ Some c → new ≡ set (constants_in symbols xs) n (record c { terms = c.terms ++ term_of symbols f ∷ [] }))
    → new ≡ constants_in symbols (xs ++ f ∷ [])
constants_joined symbols xs f n new found joined =
    let L : List RldItem = firsts same_field xs in
    let p : (n < length L) × (same_field f (get_or L n f) ≡ true) × ((k : ℕ) → k < n → same_field f (get_or L k f) ≡ false) =
    position-Some (same_field f) L n f found in
    let within : n < length L = p.0 in
    joined (constant_in symbols xs (get_or L n f)) (get_map (constant_in symbols xs) L n f within)
    ∙ (ap (λ c. set (map (constant_in symbols xs) L) n c) (sym (constant_joined symbols xs f (get_or L n f) (same_sym (get_or L n f) f ∙ p.1)))
    ∙ (map_set (constant_in symbols xs) (constant_in symbols (xs ++ f ∷ [])) L n f within
    (λ i below other. constant_kept symbols xs f (get_or L i f) (one_first xs f n found i below other))
    ∙ ap (λ ys. map (constant_in symbols (xs ++ f ∷ [])) ys) (sym (firsts_known xs f (any_of_position (same_field f) L n found)))))

-- a constant at a field that is new
pub constants_new : (symbols : List SymbolItem) (xs : List RldItem) (f : RldItem)
    → position (same_field f) (firsts same_field xs) ≡ None
    → constants_in symbols xs ++ constant_in symbols (f ∷ []) f ∷ [] ≡ constants_in symbols (xs ++ f ∷ [])
constants_new symbols xs f none =
    let L : List RldItem = firsts same_field xs in
    let new : list_any (same_field f) L ≡ false = any_of_no_position (same_field f) L none in
    ap (λ ys. ys ++ constant_in symbols (f ∷ []) f ∷ [])
    (map_same (constant_in symbols xs) (constant_in symbols (xs ++ f ∷ [])) L f
    (λ i within. constant_kept symbols xs f (get_or L i f) (same_sym (get_or L i f) f ∙ none_at (same_field f) L i f new within)))
    ∙ (ap (λ c. map (constant_in symbols (xs ++ f ∷ [])) L ++ c ∷ []) (sym (constant_alone symbols xs f (sym (any_firsts f xs) ∙ new)))
    ∙ (sym (map-append (constant_in symbols (xs ++ f ∷ [])) L (f ∷ []))
    ∙ ap (λ ys. map (constant_in symbols (xs ++ f ∷ [])) ys) (sym (firsts_new xs f new))))
