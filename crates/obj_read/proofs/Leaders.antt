-- The terms that stand first at their places, and the constants with one more term.
use Rattle.std.proofs.Common.{arith, ◌≡◌, ◌≢◌, ℕ, zero, suc, ◌+◌, ◌<◌, Bool, true, false, ◌&&◌, ◌||◌, ◌==◌, cond, if◌then◌else◌, List, [], ◌∷◌, ◌++◌, length, map, take, get_or, set, ◌⊎◌, inl, inr, Some, None, refl, sym, ◌∙◌, ap, subst, slice_get}
use Rattle.std.specs.List.{list_any, filter, position, AllPairs}
use Rattle.std.proofs.lemmas.List.{append-nil, append_assoc, map-append, take_more}
use Rattle.std.proofs.lemmas.List.Elements.{filter-append}
use Rattle.std.proofs.lemmas.List.Folds.{list_any-append}
use Rattle.std.proofs.lemmas.List.Quantifiers.{all_pairs_push, position-Some}
use Rattle.obj_cards.specs.declared.card.CardRld.{CardRld}
use Rattle.sym_mod.specs.declared.module.SymConst.{SymConst}
use Rattle.obj_read.specs.declared.numbered.Numbered.{Numbered}
use Rattle.obj_read.specs.Module.{same_place, leaders, term, constant, constants}
use Rattle.obj_read.proofs.Positions.{any_of_position, any_of_no_position}

-- ---- tests on a list

or_left : (a b : Bool) → (a || b) ≡ false → a ≡ false
or_left true b none = none
or_left false b none = refl

or_right : (a b : Bool) → (a || b) ≡ false → b ≡ false
or_right true b none = cc
or_right false b none = none

pub none_at : {X : Type 0} (p : X → Bool) (xs : List X) (k : ℕ) (d : X) → list_any p xs ≡ false → k < length xs → p (get_or xs k d) ≡ false
none_at p [] k d none within = absurd (omega (arith, within))
none_at p (x ∷ xs) zero d none within = or_left (p x) (list_any p xs) none
none_at p (x ∷ xs) (suc k) d none within = none_at p xs k d (or_right (p x) (list_any p xs) none) (omega (arith, within))

filter_step : {X : Type 0} (b : Bool) (x : X) (xs : List X) → b ≡ false → xs ≡ [] → cond b (x ∷ xs) xs ≡ []
filter_step true x xs fails none = cc
filter_step false x xs fails none = none

pub filter_none : {X : Type 0} (p : X → Bool) (xs : List X) → list_any p xs ≡ false → filter p xs ≡ []
filter_none p [] none = refl
filter_none p (x ∷ xs) none =
    filter_step (p x) x (filter p xs) (or_left (p x) (list_any p xs) none) (filter_none p xs (or_right (p x) (list_any p xs) none))

-- ---- places

pub same_section : (f g : CardRld) → same_place f g ≡ true → f.p ≡ g.p
same_section f g same = grind (arith, same)

pub same_address : (f g : CardRld) → same_place f g ≡ true → f.address ≡ g.address
same_address f g same = grind (arith, same)

pub same_sym : (f g : CardRld) → same_place f g ≡ same_place g f
same_sym f g = grind arith

pub same_trans : (f t g : CardRld) → same_place f t ≡ true → same_place f g ≡ same_place t g
same_trans f t g same =
    ap (λ p. p == g.p && f.address == g.address) (same_section f t same)
    ∙ ap (λ a. t.p == g.p && a == g.address) (same_address f t same)

pub any_trans : (f t : CardRld) (xs : List CardRld) → same_place f t ≡ true → list_any (same_place f) xs ≡ list_any (same_place t) xs
any_trans f t xs same =
    ap (λ p. list_any (λ g. p == g.p && f.address == g.address) xs) (same_section f t same)
    ∙ ap (λ a. list_any (λ g. t.p == g.p && a == g.address) xs) (same_address f t same)

-- ---- leaders

leaders_step : (b : Bool) (f t : CardRld) (seen ts : List CardRld)
    → (b ≡ true → leaders seen (ts ++ f ∷ []) ≡ leaders seen ts ++ (if list_any (same_place f) (seen ++ leaders seen ts) then [] else f ∷ []))
    → leaders (seen ++ t ∷ []) (ts ++ f ∷ [])
    ≡ leaders (seen ++ t ∷ []) ts ++ (if list_any (same_place f) ((seen ++ t ∷ []) ++ leaders (seen ++ t ∷ []) ts) then [] else f ∷ [])
    → (if b then leaders seen (ts ++ f ∷ []) else t ∷ leaders (seen ++ t ∷ []) (ts ++ f ∷ []))
    ≡ (if b then leaders seen ts else t ∷ leaders (seen ++ t ∷ []) ts)
    ++ (if list_any (same_place f) (seen ++ (if b then leaders seen ts else t ∷ leaders (seen ++ t ∷ []) ts)) then [] else f ∷ [])
leaders_step true f t seen ts h1 h2 = h1 refl
leaders_step false f t seen ts h1 h2 =
    ap (λ r. t ∷ r) h2
    ∙ ap (λ s. t ∷ (leaders (seen ++ t ∷ []) ts ++ (if list_any (same_place f) s then [] else f ∷ []))) (append_assoc seen (t ∷ []) (leaders (seen ++ t ∷ []) ts))

leaders_one : (b : Bool) (f : CardRld) (c : Bool) → c ≡ b → (if b then [] else f ∷ []) ≡ (if c then [] else f ∷ [])
leaders_one b f c same = ap (λ x. if x then [] else f ∷ []) (sym same)

-- one more term leads where no other has its place
pub leaders_more : (seen ts : List CardRld) (f : CardRld)
    → leaders seen (ts ++ f ∷ []) ≡ leaders seen ts ++ (if list_any (same_place f) (seen ++ leaders seen ts) then [] else f ∷ [])
leaders_more seen [] f = leaders_one (list_any (same_place f) seen) f (list_any (same_place f) (seen ++ [])) (ap (λ xs. list_any (same_place f) xs) (append-nil seen))
leaders_more seen (t ∷ ts) f =
    leaders_step (list_any (same_place t) seen) f t seen ts (λ _. leaders_more seen ts f) (leaders_more (seen ++ t ∷ []) ts f)

known_step : (b : Bool) (f t : CardRld) (seen ts : List CardRld) → list_any (same_place t) seen ≡ true → same_place f t ≡ b
    → (list_any (same_place f) seen || list_any (same_place f) ts) ≡ (list_any (same_place f) seen || (b || list_any (same_place f) ts))
known_step true f t seen ts known same = rw (any_trans f t seen same ∙ known) refl
known_step false f t seen ts known same = refl

-- a place that was seen is not new
known_place : (f t : CardRld) (seen ts : List CardRld) → list_any (same_place t) seen ≡ true
    → list_any (same_place f) (seen ++ ts) ≡ list_any (same_place f) (seen ++ t ∷ ts)
known_place f t seen ts known =
    list_any-append (same_place f) seen ts
    ∙ (known_step (same_place f t) f t seen ts known refl ∙ sym (list_any-append (same_place f) seen (t ∷ ts)))

any_leader_step : (b : Bool) (f t : CardRld) (seen ts : List CardRld) → list_any (same_place t) seen ≡ b
    → list_any (same_place f) (seen ++ leaders seen ts) ≡ list_any (same_place f) (seen ++ ts)
    → list_any (same_place f) ((seen ++ t ∷ []) ++ leaders (seen ++ t ∷ []) ts) ≡ list_any (same_place f) ((seen ++ t ∷ []) ++ ts)
    → list_any (same_place f) (seen ++ (if b then leaders seen ts else t ∷ leaders (seen ++ t ∷ []) ts)) ≡ list_any (same_place f) (seen ++ t ∷ ts)
any_leader_step true f t seen ts known h1 h2 = h1 ∙ known_place f t seen ts known
any_leader_step false f t seen ts known h1 h2 =
    ap (λ xs. list_any (same_place f) xs) (sym (append_assoc seen (t ∷ []) (leaders (seen ++ t ∷ []) ts)))
    ∙ (h2 ∙ ap (λ xs. list_any (same_place f) xs) (append_assoc seen (t ∷ []) ts))

-- each place of a term is that of a leader
pub any_leader : (f : CardRld) (seen ts : List CardRld)
    → list_any (same_place f) (seen ++ leaders seen ts) ≡ list_any (same_place f) (seen ++ ts)
any_leader f seen [] = refl
any_leader f seen (t ∷ ts) =
    any_leader_step (list_any (same_place t) seen) f t seen ts refl (any_leader f seen ts) (any_leader f (seen ++ t ∷ []) ts)

abbrev pub Differ : CardRld → CardRld → Type 0
Differ f g = same_place f g ≡ false

differ_step : (b : Bool) (t : CardRld) (seen ts : List CardRld) → list_any (same_place t) seen ≡ b
    → AllPairs Differ (seen ++ leaders seen ts)
    → (b ≡ false → AllPairs Differ ((seen ++ t ∷ []) ++ leaders (seen ++ t ∷ []) ts))
    → AllPairs Differ (seen ++ (if b then leaders seen ts else t ∷ leaders (seen ++ t ∷ []) ts))
differ_step true t seen ts known h1 h2 = h1
differ_step false t seen ts known h1 h2 = subst (λ xs. AllPairs Differ xs) (append_assoc seen (t ∷ []) (leaders (seen ++ t ∷ []) ts)) (h2 refl)

pub leaders_differ : (seen ts : List CardRld) → AllPairs Differ seen → AllPairs Differ (seen ++ leaders seen ts)
leaders_differ seen [] pairs = subst (λ xs. AllPairs Differ xs) (sym (append-nil seen)) pairs
leaders_differ seen (t ∷ ts) pairs =
    differ_step (list_any (same_place t) seen) t seen ts refl (leaders_differ seen ts pairs)
    (λ new. leaders_differ (seen ++ t ∷ []) ts
    (all_pairs_push Differ seen t pairs (λ k d within. same_sym (get_or seen k d) t ∙ none_at (same_place t) seen k d new within)))

pub all_differ : (ts : List CardRld) → AllPairs Differ (leaders [] ts)
all_differ ts = leaders_differ [] ts (λ i j d before within. absurd (omega (arith, within)))

-- ---- a term at a place that is known

pub leaders_known : (ts : List CardRld) (f : CardRld) → list_any (same_place f) (leaders [] ts) ≡ true → leaders [] (ts ++ f ∷ []) ≡ leaders [] ts
leaders_known ts f known =
    leaders_more [] ts f ∙ (ap (λ b. leaders [] ts ++ (if b then [] else f ∷ [])) known ∙ append-nil (leaders [] ts))

pub leaders_new : (ts : List CardRld) (f : CardRld) → list_any (same_place f) (leaders [] ts) ≡ false → leaders [] (ts ++ f ∷ []) ≡ leaders [] ts ++ f ∷ []
leaders_new ts f new = leaders_more [] ts f ∙ ap (λ b. leaders [] ts ++ (if b then [] else f ∷ [])) new

-- ---- constants

terms_one : (items : List Numbered) (b : Bool) (f : CardRld) → map (term items) (cond b (f ∷ []) []) ≡ (if b then term items f ∷ [] else [])
terms_one items true f = refl
terms_one items false f = refl

terms_more : (items : List Numbered) (ts : List CardRld) (f g : CardRld)
    → map (term items) (filter (same_place g) (ts ++ f ∷ []))
    ≡ map (term items) (filter (same_place g) ts) ++ (if same_place g f then term items f ∷ [] else [])
terms_more items ts f g =
    ap (λ xs. map (term items) xs) (filter-append (same_place g) ts (f ∷ []))
    ∙ (map-append (term items) (filter (same_place g) ts) (filter (same_place g) (f ∷ []))
    ∙ ap (λ xs. map (term items) (filter (same_place g) ts) ++ xs) (terms_one items (same_place g f) f))

pub constant_joined : (items : List Numbered) (ts : List CardRld) (f g : CardRld) → same_place g f ≡ true
    → constant items (ts ++ f ∷ []) g ≡ record (constant items ts g) { terms = (constant items ts g).terms ++ term items f ∷ [] }
constant_joined items ts f g same =
    ap (λ xs. let c : SymConst = record (constant items ts g) { terms = xs } in c)
    (terms_more items ts f g ∙ ap (λ b. map (term items) (filter (same_place g) ts) ++ (if b then term items f ∷ [] else [])) same)

pub constant_kept : (items : List Numbered) (ts : List CardRld) (f g : CardRld) → same_place g f ≡ false
    → constant items (ts ++ f ∷ []) g ≡ constant items ts g
constant_kept items ts f g differ =
    ap (λ xs. let c : SymConst = record (constant items ts g) { terms = xs } in c)
    (terms_more items ts f g ∙ (ap (λ b. map (term items) (filter (same_place g) ts) ++ (if b then term items f ∷ [] else [])) differ
    ∙ append-nil (map (term items) (filter (same_place g) ts))))

pub constant_alone : (items : List Numbered) (ts : List CardRld) (f : CardRld) → list_any (same_place f) ts ≡ false
    → constant items (ts ++ f ∷ []) f ≡ constant items (f ∷ []) f
constant_alone items ts f new =
    ap (λ xs. let c : SymConst = record (constant items (f ∷ []) f) { terms = map (term items) xs } in c)
    (filter-append (same_place f) ts (f ∷ []) ∙ ap (λ xs. xs ++ filter (same_place f) (f ∷ [])) (filter_none (same_place f) ts new))

-- ---- lists that differ at one place

map_same : {A B : Type 0} (F G : A → B) (xs : List A) (a : A) → ((i : ℕ) → i < length xs → G (get_or xs i a) ≡ F (get_or xs i a)) → map F xs ≡ map G xs
map_same F G [] a same = refl
map_same F G (x ∷ xs) a same =
    ap (λ y. y ∷ map F xs) (sym (same 0 (omega arith)))
    ∙ ap (λ ys. G x ∷ ys) (map_same F G xs a (λ i within. same (suc i) (omega (arith, within))))

map_set : {A B : Type 0} (F G : A → B) (xs : List A) (n : ℕ) (a : A) → n < length xs
    → ((i : ℕ) → i < length xs → i ≢ n → G (get_or xs i a) ≡ F (get_or xs i a))
    → set (map F xs) n (G (get_or xs n a)) ≡ map G xs
map_set F G [] n a within same = absurd (omega (arith, within))
map_set F G (x ∷ xs) zero a within same =
    ap (λ ys. G x ∷ ys) (map_same F G xs a (λ i below. same (suc i) (omega (arith, below)) (omega arith)))
map_set F G (x ∷ xs) (suc n) a within same =
    ap (λ y. y ∷ set (map F xs) n (G (get_or xs n a))) (sym (same 0 (omega arith) (omega arith)))
    ∙ ap (λ ys. G x ∷ ys) (map_set F G xs n a (omega (arith, within)) (λ i below other. same (suc i) (omega (arith, below)) (omega (arith, other))))

get_map : {A B : Type 0} (F : A → B) (xs : List A) (n : ℕ) (a : A) → n < length xs → slice_get (map F xs) n ≡ Some (F (get_or xs n a))
get_map F [] n a within = absurd (omega (arith, within))
get_map F (x ∷ xs) zero a within = refl
get_map F (x ∷ xs) (suc n) a within = get_map F xs n a (omega (arith, within))

cases_ne : (i n : ℕ) → i ≢ n → (i < n) ⊎ (n < i)
cases_ne i n other = grind (arith, other)

-- the leader at the place of f is the only one there
one_leader : (ts : List CardRld) (f : CardRld) (n : ℕ) → position (same_place f) (leaders [] ts) ≡ Some n
    → (i : ℕ) → i < length (leaders [] ts) → i ≢ n → same_place (get_or (leaders [] ts) i f) f ≡ false
one_leader ts f n found i within other =
    let L : List CardRld = leaders [] ts in
    let p : (n < length L) × (same_place f (get_or L n f) ≡ true) × ((k : ℕ) → k < n → same_place f (get_or L k f) ≡ false) =
    position-Some (same_place f) L n f found in
    same_sym (get_or L i f) f
    ∙ elim (cases_ne i n other) [
      | inl below ↦ p.2 i below
      | inr above ↦ same_trans f (get_or L n f) (get_or L i f) p.1 ∙ all_differ ts n i f above within
    ]

-- one more term of a constant that is there
pub constants_joined : (items : List Numbered) (ts : List CardRld) (f : CardRld) (n : ℕ) (new : List SymConst)
    → position (same_place f) (leaders [] ts) ≡ Some n
    → ((c : SymConst) → slice_get (constants items ts) n ≡ Some c → new ≡ set (constants items ts) n (record c { terms = c.terms ++ term items f ∷ [] }))
    → new ≡ constants items (ts ++ f ∷ [])
constants_joined items ts f n new found joined =
    let L : List CardRld = leaders [] ts in
    let p : (n < length L) × (same_place f (get_or L n f) ≡ true) × ((k : ℕ) → k < n → same_place f (get_or L k f) ≡ false) =
    position-Some (same_place f) L n f found in
    let within : n < length L = p.0 in
    joined (constant items ts (get_or L n f)) (get_map (constant items ts) L n f within)
    ∙ (ap (λ c. set (map (constant items ts) L) n c) (sym (constant_joined items ts f (get_or L n f) (same_sym (get_or L n f) f ∙ p.1)))
    ∙ (map_set (constant items ts) (constant items (ts ++ f ∷ [])) L n f within
    (λ i below other. constant_kept items ts f (get_or L i f) (one_leader ts f n found i below other))
    ∙ ap (λ xs. map (constant items (ts ++ f ∷ [])) xs) (sym (leaders_known ts f (any_of_position (same_place f) L n found)))))

-- a constant at a place that is new
pub constants_new : (items : List Numbered) (ts : List CardRld) (f : CardRld)
    → position (same_place f) (leaders [] ts) ≡ None
    → constants items ts ++ constant items (f ∷ []) f ∷ [] ≡ constants items (ts ++ f ∷ [])
constants_new items ts f none =
    let L : List CardRld = leaders [] ts in
    let new : list_any (same_place f) L ≡ false = any_of_no_position (same_place f) L none in
    ap (λ xs. xs ++ constant items (f ∷ []) f ∷ [])
    (map_same (constant items ts) (constant items (ts ++ f ∷ [])) L f
    (λ i within. constant_kept items ts f (get_or L i f) (same_sym (get_or L i f) f ∙ none_at (same_place f) L i f new within)))
    ∙ (ap (λ c. map (constant items (ts ++ f ∷ [])) L ++ c ∷ []) (sym (constant_alone items ts f (sym (any_leader f [] ts) ∙ new)))
    ∙ (sym (map-append (constant items (ts ++ f ∷ [])) L (f ∷ []))
    ∙ ap (λ xs. map (constant items (ts ++ f ∷ [])) xs) (sym (leaders_new ts f new))))

-- ---- leaders and filtered terms of the first k + 1 terms

module _ {Y : Type 0} (F : CardRld → Y) (ts : List CardRld) (k : ℕ) (d : CardRld) (within : k < length ts) (made : List Y) where
  pub leads_not : made ≡ map F (leaders [] (take k ts)) → list_any (same_place (get_or ts k d)) (take k ts) ≡ true
      → made ≡ map F (leaders [] (take (k + 1) ts))
  leads_not before known =
      before ∙ ap (λ xs. map F xs)
      (sym (ap (λ xs. leaders [] xs) (take_more ts k d within)
      ∙ leaders_known (take k ts) (get_or ts k d) (any_leader (get_or ts k d) [] (take k ts) ∙ known)))

  pub leads : (new : List Y) (y : Y) → made ≡ map F (leaders [] (take k ts)) → list_any (same_place (get_or ts k d)) (take k ts) ≡ false
      → y ≡ F (get_or ts k d) → new ≡ made ++ y ∷ [] → new ≡ map F (leaders [] (take (k + 1) ts))
  leads new y before unknown is pushed =
      pushed ∙ (ap (λ ys. ys ++ y ∷ []) before ∙ (ap (λ y. map F (leaders [] (take k ts)) ++ y ∷ []) is
      ∙ (sym (map-append F (leaders [] (take k ts)) (get_or ts k d ∷ []))
      ∙ ap (λ xs. map F xs)
      (sym (ap (λ xs. leaders [] xs) (take_more ts k d within)
      ∙ leaders_new (take k ts) (get_or ts k d) (any_leader (get_or ts k d) [] (take k ts) ∙ unknown))))))

  pub passes_not : (p : CardRld → Bool) → made ≡ map F (filter p (take k ts)) → p (get_or ts k d) ≡ false
      → made ≡ map F (filter p (take (k + 1) ts))
  passes_not p before fails =
      before ∙ ap (λ xs. map F xs)
      (sym (ap (λ xs. filter p xs) (take_more ts k d within)
      ∙ (filter-append p (take k ts) (get_or ts k d ∷ [])
      ∙ (ap (λ b. filter p (take k ts) ++ cond b (get_or ts k d ∷ []) []) fails ∙ append-nil (filter p (take k ts))))))

  pub passes : (p : CardRld → Bool) (new : List Y) (y : Y) → made ≡ map F (filter p (take k ts)) → p (get_or ts k d) ≡ true
      → y ≡ F (get_or ts k d) → new ≡ made ++ y ∷ [] → new ≡ map F (filter p (take (k + 1) ts))
  passes p new y before holds is pushed =
      pushed ∙ (ap (λ ys. ys ++ y ∷ []) before ∙ (ap (λ y. map F (filter p (take k ts)) ++ y ∷ []) is
      ∙ (sym (map-append F (filter p (take k ts)) (get_or ts k d ∷ []))
      ∙ ap (λ xs. map F xs)
      (sym (ap (λ xs. filter p xs) (take_more ts k d within)
      ∙ (filter-append p (take k ts) (get_or ts k d ∷ [])
      ∙ ap (λ b. filter p (take k ts) ++ cond b (get_or ts k d ∷ []) []) holds))))))
