-- Where no term overlaps those before it, constants share no byte and the terms of each are of one kind.
use Rattle.std.proofs.Common.{arith, ◌≡◌, ℕ, zero, suc, ◌+◌, ◌<◌, ◌≤◌, ◌⊎◌, inl, inr, Bool, true, false, not, ◌&&◌, ◌||◌, ◌==◌, cond, if◌then◌else◌, List, [], ◌∷◌, ◌++◌, length, get_or, Option, Some, None, refl, sym, ◌∙◌, ap, subst}
use Rattle.std.specs.List.{list_any, filter, find, AllPairs, AllByRecursion, range_with_len}
use Rattle.std.specs.Option.{option_map_or, is_some}
use Rattle.std.proofs.lemmas.List.{append-nil}
use Rattle.std.proofs.lemmas.List.Elements.{filter-append}
use Rattle.std.proofs.lemmas.List.Quantifiers.{all_pairs_push}
use Rattle.obj_cards.specs.declared.card.CardRld.{CardRld}
use Rattle.obj_read.specs.Flags.{kind_of_flag, length_of_flag}
use Rattle.obj_read.specs.Module.{same_place, leaders}
use Rattle.obj_read.specs.Faults.{covers, joins, is_address, clashes_at, overlaps}
use Rattle.obj_read.specs.Kept.{AreDisjoint, AreJoined, AreConstants}
use Rattle.obj_read.proofs.Positions.{any_of_find}
use Rattle.obj_read.proofs.Leaders.{same_section, same_address, same_trans, any_trans, leaders_known, leaders_new, any_leader, filter_none}

-- ---- bytes of a field

pub or_left : (x y : Bool) → (x || y) ≡ false → x ≡ false
or_left true y none = none
or_left false y none = refl

pub or_right : (x y : Bool) → (x || y) ≡ false → y ≡ false
or_right true y none = cc
or_right false y none = none

or_cases : (x y : Bool) → (x || y) ≡ true → (x ≡ true) ⊎ (y ≡ true)
or_cases true y some = inl refl
or_cases false y some = inr some

pub or_later : (x y : Bool) → y ≡ true → (x || y) ≡ true
or_later true y some = refl
or_later false y some = some

pub or_first : (x y : Bool) → x ≡ true → (x || y) ≡ true
or_first true y some = refl
or_first false y some = cc

here_or_later : (a b : ℕ) → a ≤ b → (a ≡ b) ⊎ (a + 1 ≤ b)
here_or_later a b low = grind (arith, low)

any_in_range : (p : ℕ → Bool) (a n b : ℕ) → list_any p (range_with_len a n) ≡ false → a ≤ b → b < a + n → p b ≡ false
any_in_range p a zero b none low high = absurd (omega (arith, low, high))
any_in_range p a (suc n) b none low high = elim (here_or_later a b low) [
  | inl same ↦ subst (λ i. p i ≡ false) same (or_left (p a) (list_any p (range_with_len (a + 1) n)) none)
  | inr later ↦ any_in_range p (a + 1) n b (or_right (p a) (list_any p (range_with_len (a + 1) n)) none) later (omega (arith, high))
]

-- what covers a byte before the term is joined by it
found_joins : (f : CardRld) (o : Option CardRld) → option_map_or (λ g. not (joins f g)) o false ≡ false → is_some o ≡ true
    → (h : CardRld) × (o ≡ Some h) × (joins f h ≡ true)
found_joins f None clear some = cc
found_joins f (Some h) clear some = (h, refl, untrue (joins f h) clear)
  where
    untrue : (b : Bool) → not b ≡ false → b ≡ true
    untrue true e = refl
    untrue false e = sym e

pub joined_at : (ts : List CardRld) (f : CardRld) (b : ℕ) → overlaps ts f ≡ false → f.address ≤ b → b < f.address + length_of_flag f.flag
    → list_any (covers f.p b) ts ≡ true → (h : CardRld) × (find (covers f.p b) ts ≡ Some h) × (joins f h ≡ true)
joined_at ts f b clear low high some =
    found_joins f (find (covers f.p b) ts) (any_in_range (clashes_at ts f) f.address (length_of_flag f.flag) b clear low high)
    (sym (any_of_find (covers f.p b) ts) ∙ some)

-- ---- joining

pub record Parts (a b c d : Bool) : Type 0 where
  pub place : a ≡ true
  pub length : b ≡ true
  pub first : c ≡ true
  pub second : d ≡ true

parts : (a b c d : Bool) → (a && b && c && d) ≡ true → Parts a b c d
parts true true true true all = record { place = refl; length = refl; first = refl; second = refl }
parts true true true false all = cc
parts true true false d all = cc
parts true false c d all = cc
parts false b c d all = cc

all_parts : (a b c d : Bool) → Parts a b c d → (a && b && c && d) ≡ true
all_parts a b c d p = rw (p.place, p.length, p.first, p.second) refl

abbrev pub JoinParts : CardRld → CardRld → Type 0
JoinParts f g = Parts (same_place f g) (length_of_flag f.flag == length_of_flag g.flag) (is_address (kind_of_flag f.flag)) (is_address (kind_of_flag g.flag))

pub joins_parts : (f g : CardRld) → joins f g ≡ true → JoinParts f g
joins_parts f g j = parts (same_place f g) (length_of_flag f.flag == length_of_flag g.flag) (is_address (kind_of_flag f.flag)) (is_address (kind_of_flag g.flag)) j

pub joins_place : (f g : CardRld) → joins f g ≡ true → same_place f g ≡ true
joins_place f g j = (joins_parts f g j).place

eq_trans : (m n o : ℕ) → (m == n) ≡ true → (n == o) ≡ true → (m == o) ≡ true
eq_trans m n o a b = grind (arith, a, b)

pub joins_trans : (f h g : CardRld) → joins f h ≡ true → joins h g ≡ true → joins f g ≡ true
joins_trans f h g j k =
    let p : JoinParts f h = joins_parts f h j in
    let q : JoinParts h g = joins_parts h g k in
    all_parts (same_place f g) (length_of_flag f.flag == length_of_flag g.flag) (is_address (kind_of_flag f.flag)) (is_address (kind_of_flag g.flag))
    (record {
      place = same_trans f h g p.place ∙ q.place;
      length = eq_trans (length_of_flag f.flag) (length_of_flag h.flag) (length_of_flag g.flag) p.length q.length;
      first = p.first;
      second = q.second;
    })

-- ---- members

found_step : {X : Type 0} (P : X → Type 0) (y x : X) (rest : Option X) (b : Bool) → cond b (Some y) rest ≡ Some x
    → (b ≡ true → P y) → (rest ≡ Some x → P x) → P x
found_step P y x rest true is first later = let same : y ≡ x = cc is in subst P same (first refl)
found_step P y x rest false is first later = later is

found_holds : {X : Type 0} (P : X → Type 0) (p : X → Bool) (xs : List X) (x : X) → AllByRecursion (λ y. p y ≡ true → P y) xs → find p xs ≡ Some x → P x
found_holds P p [] x all found = cc
found_holds P p (y ∷ xs) x all found =
    found_step P y x (find p xs) (p y) found all.0 (λ later. found_holds P p xs x all.1 later)

pub found_passes : {X : Type 0} (p : X → Bool) (xs : List X) (x : X) → find p xs ≡ Some x → p x ≡ true
found_passes p [] x found = cc
found_passes p (y ∷ xs) x found = step (p y) refl found (λ later. found_passes p xs x later)
  where
    step : (b : Bool) → p y ≡ b → cond b (Some y) (find p xs) ≡ Some x → (find p xs ≡ Some x → p x ≡ true) → p x ≡ true
    step true is found later = let same : y ≡ x = cc found in subst (λ z. p z ≡ true) same is
    step false is found later = later found

unfilter_step : {X : Type 0} (P : X → Type 0) (y : X) (rest : List X) (b : Bool) → AllByRecursion P (cond b (y ∷ rest) rest)
    → (b ≡ true → P y) × AllByRecursion P rest
unfilter_step P y rest true all = ((λ _. all.0), all.1)
unfilter_step P y rest false all = ((λ yes. cc), all)

-- what holds of each element of a filter holds of each element that passes
unfilter : {X : Type 0} (P : X → Type 0) (p : X → Bool) (xs : List X) → AllByRecursion P (filter p xs) → AllByRecursion (λ y. p y ≡ true → P y) xs
unfilter P p [] all = tt
unfilter P p (y ∷ xs) all =
    let s : (p y ≡ true → P y) × AllByRecursion P (filter p xs) = unfilter_step P y (filter p xs) (p y) all in
    (s.0, unfilter P p xs s.1)

pub all_weaker : {X : Type 0} (P Q : X → Type 0) (xs : List X) → ((x : X) → P x → Q x) → AllByRecursion P xs → AllByRecursion Q xs
all_weaker P Q [] f all = tt
all_weaker P Q (x ∷ xs) f all = (f x all.0, all_weaker P Q xs f all.1)

pub all_more : {X : Type 0} (P : X → Type 0) (xs ys : List X) → AllByRecursion P xs → AllByRecursion P ys → AllByRecursion P (xs ++ ys)
all_more P [] ys all more = more
all_more P (x ∷ xs) ys all more = (all.0, all_more P xs ys all.1 more)

any_weaker : {X : Type 0} (p q : X → Bool) (xs : List X) → ((x : X) → p x ≡ true → q x ≡ true) → list_any p xs ≡ true → list_any q xs ≡ true
any_weaker p q [] f some = some
any_weaker p q (x ∷ xs) f some = elim (or_cases (p x) (list_any p xs) some) [
  | inl here ↦ or_first (q x) (list_any q xs) (f x here)
  | inr later ↦ or_later (q x) (list_any q xs) (any_weaker p q xs f later)
]

-- ---- the terms of a constant

pub joined_terms : (g : CardRld) (ts : List CardRld) → AreJoined g ts → AllByRecursion (λ h. (h ≡ g) ⊎ (joins h g ≡ true)) ts
joined_terms g [] joined = absurd joined
joined_terms g (f ∷ more) joined =
    (inl joined.0, all_weaker (λ h. joins h g ≡ true) (λ h. (h ≡ g) ⊎ (joins h g ≡ true)) more (λ h j. inr j) joined.1)

joined_more : (g f : CardRld) (ts : List CardRld) → AreJoined g ts → joins f g ≡ true → AreJoined g (ts ++ f ∷ [])
joined_more g f [] joined j = absurd joined
joined_more g f (t ∷ ts) joined j = (joined.0, all_more (λ h. joins h g ≡ true) ts (f ∷ []) joined.1 (j, tt))

-- a term at the place of a leader joins it
joins_leader : (ts : List CardRld) (f g : CardRld) → overlaps ts f ≡ false → same_place g f ≡ true → list_any (same_place f) ts ≡ true
    → AreJoined g (filter (same_place g) ts) → joins f g ≡ true
joins_leader ts f g clear same known joined =
    let covered : list_any (covers f.p f.address) ts ≡ true =
    any_weaker (same_place f) (covers f.p f.address) ts (λ h at. grind (arith, same_section f h at, same_address f h at)) known in
    let found : (h : CardRld) × (find (covers f.p f.address) ts ≡ Some h) × (joins f h ≡ true) =
    joined_at ts f f.address clear (omega arith) (omega arith) covered in
    let h : CardRld = found.0 in
    let all : AllByRecursion (λ h. same_place g h ≡ true → (h ≡ g) ⊎ (joins h g ≡ true)) ts =
    unfilter (λ h. (h ≡ g) ⊎ (joins h g ≡ true)) (same_place g) ts (joined_terms g (filter (same_place g) ts) joined) in
    let place : same_place g found.0 ≡ true = same_trans g f found.0 same ∙ joins_place f found.0 found.2 in
    let either : (found.0 ≡ g) ⊎ (joins found.0 g ≡ true) =
    found_holds (λ h. same_place g h ≡ true → (h ≡ g) ⊎ (joins h g ≡ true)) (covers f.p f.address) ts found.0
    (all_weaker (λ h. same_place g h ≡ true → (h ≡ g) ⊎ (joins h g ≡ true)) (λ h. covers f.p f.address h ≡ true → same_place g h ≡ true → (h ≡ g) ⊎ (joins h g ≡ true)) ts (λ h q _. q) all)
    found.1 place in
    elim either [
      | inl is ↦ subst (λ h. joins f h ≡ true) is found.2
      | inr j ↦ joins_trans f found.0 g found.2 j
    ]

any_of_joined : (b : Bool) (g : CardRld) (ts : List CardRld) → list_any (same_place g) ts ≡ b → AreJoined g (filter (same_place g) ts) → list_any (same_place g) ts ≡ true
any_of_joined true g ts is joined = is
any_of_joined false g ts is joined = absurd (subst (λ xs. AreJoined g xs) (filter_none (same_place g) ts is) joined)

joined_step : (b : Bool) (g f : CardRld) (ts : List CardRld) → overlaps ts f ≡ false → same_place g f ≡ b
    → AreJoined g (filter (same_place g) ts) → AreJoined g (filter (same_place g) ts ++ cond b (f ∷ []) [])
joined_step true g f ts clear same joined =
    joined_more g f (filter (same_place g) ts) joined
    (joins_leader ts f g clear same (sym (any_trans g f ts same) ∙ any_of_joined (list_any (same_place g) ts) g ts refl joined) joined)
joined_step false g f ts clear same joined = subst (λ xs. AreJoined g xs) (sym (append-nil (filter (same_place g) ts))) joined

joined_after : (g f : CardRld) (ts : List CardRld) → overlaps ts f ≡ false
    → AreJoined g (filter (same_place g) ts) → AreJoined g (filter (same_place g) (ts ++ f ∷ []))
joined_after g f ts clear joined =
    subst (λ xs. AreJoined g xs) (sym (filter-append (same_place g) ts (f ∷ [])))
    (joined_step (same_place g f) g f ts clear refl joined)

self_place : (f : CardRld) → same_place f f ≡ true
self_place f = grind arith

joined_alone : (f : CardRld) (ts : List CardRld) → list_any (same_place f) ts ≡ false → AreJoined f (filter (same_place f) (ts ++ f ∷ []))
joined_alone f ts new =
    subst (λ xs. AreJoined f xs)
    (sym (filter-append (same_place f) ts (f ∷ [])
    ∙ (ap (λ xs. xs ++ filter (same_place f) (f ∷ [])) (filter_none (same_place f) ts new)
    ∙ ap (λ b. cond b (f ∷ []) []) (self_place f))))
    (refl, tt)

-- ---- fields that share no byte

some_at : {X : Type 0} (p : X → Bool) (xs : List X) (k : ℕ) (d : X) → k < length xs → p (get_or xs k d) ≡ true → list_any p xs ≡ true
some_at p [] k d within is = absurd (omega (arith, within))
some_at p (x ∷ xs) zero d within is = or_first (p x) (list_any p xs) is
some_at p (x ∷ xs) (suc k) d within is = or_later (p x) (list_any p xs) (some_at p xs k d (omega (arith, within)) is)

found_any_step : {X : Type 0} (q : X → Bool) (y x : X) (rest : Option X) (b : Bool) (more : Bool) → cond b (Some y) rest ≡ Some x
    → q x ≡ true → (rest ≡ Some x → more ≡ true) → (q y || more) ≡ true
found_any_step q y x rest true more is passes later = let same : x ≡ y = cc is in or_first (q y) more (ap q (sym same) ∙ passes)
found_any_step q y x rest false more is passes later = or_later (q y) more (later is)

found_any : {X : Type 0} (p q : X → Bool) (xs : List X) (x : X) → find p xs ≡ Some x → q x ≡ true → list_any q xs ≡ true
found_any p q [] x found passes = cc
found_any p q (y ∷ xs) x found passes =
    found_any_step q y x (find p xs) (p y) (list_any q xs) found passes (λ later. found_any p q xs x later passes)

sub_step : (b : Bool) (p : CardRld → Bool) (t : CardRld) (l m ts : List CardRld)
    → (list_any p l ≡ true → list_any p ts ≡ true) → (list_any p m ≡ true → list_any p ts ≡ true)
    → list_any p (if b then l else t ∷ m) ≡ true → list_any p (t ∷ ts) ≡ true
sub_step true p t l m ts f g some = or_later (p t) (list_any p ts) (f some)
sub_step false p t l m ts f g some = elim (or_cases (p t) (list_any p m) some) [
  | inl here ↦ or_first (p t) (list_any p ts) here
  | inr later ↦ or_later (p t) (list_any p ts) (g later)
]

-- a leader is a term
any_sub : (p : CardRld → Bool) (seen ts : List CardRld) → list_any p (leaders seen ts) ≡ true → list_any p ts ≡ true
any_sub p seen [] some = some
any_sub p seen (t ∷ ts) some =
    sub_step (list_any (same_place t) seen) p t (leaders seen ts) (leaders (seen ++ t ∷ []) ts) ts (any_sub p seen ts) (any_sub p (seen ++ t ∷ []) ts) some

le_or_lt : (m n : ℕ) → (m ≤ n) ⊎ (n < m)
le_or_lt m n = grind arith

pub record Meet (a m b n : ℕ) : Type 0 where
  pub c : ℕ
  pub from : a ≤ c
  pub to : c < a + m
  pub after : b ≤ c
  pub before : c < b + n

apart_or_meet : (a m b n : ℕ) → 1 ≤ m → 1 ≤ n → ((a + m ≤ b) ⊎ (b + n ≤ a)) ⊎ Meet a m b n
apart_or_meet a m b n some other = elim (le_or_lt (a + m) b) [
  | inl apart ↦ inl (inl apart)
  | inr above ↦ elim (le_or_lt (b + n) a) [
    | inl apart ↦ inl (inr apart)
    | inr below ↦ elim (le_or_lt a b) [
      | inl first ↦ inr (record { c = b; from = first; to = above; after = omega arith; before = omega (arith, other) })
      | inr second ↦ inr (record { c = a; from = omega arith; to = omega (arith, some); after = omega (arith, second); before = below })
    ]
  ]
]

meet_covers : (f g : CardRld) (c : ℕ) → g.p ≡ f.p → g.address ≤ c → c < g.address + length_of_flag g.flag → covers f.p c g ≡ true
meet_covers f g c same from to = grind (arith, same, from, to)

disjoint_new : (ts : List CardRld) (f g : CardRld) → overlaps ts f ≡ false → list_any (same_place f) ts ≡ false
    → ((p : CardRld → Bool) → p g ≡ true → list_any p ts ≡ true) → AreDisjoint g f
disjoint_new ts f g clear new is_term = λ same.
    elim (apart_or_meet g.address (length_of_flag g.flag) f.address (length_of_flag f.flag) (omega arith) (omega arith)) [
      | inl apart ↦ apart
      | inr meet ↦
          let found : (h : CardRld) × (find (covers f.p meet.c) ts ≡ Some h) × (joins f h ≡ true) =
          joined_at ts f meet.c clear meet.after meet.before (is_term (covers f.p meet.c) (meet_covers f g meet.c same meet.from meet.to)) in
          let some : list_any (same_place f) ts ≡ true =
          found_any (covers f.p meet.c) (same_place f) ts found.0 found.1 (joins_place f found.0 found.2) in
          let no : true ≡ false = sym some ∙ new in
          cc
    ]

-- ---- one more term

constants_step : (b : Bool) (ts : List CardRld) (f : CardRld) → list_any (same_place f) ts ≡ b → overlaps ts f ≡ false → AreConstants ts → AreConstants (ts ++ f ∷ [])
constants_step true ts f known clear old =
    let same : leaders [] (ts ++ f ∷ []) ≡ leaders [] ts = leaders_known ts f (any_leader f [] ts ∙ known) in
    record {
      apart = subst (λ xs. AllPairs AreDisjoint xs) (sym same) old.apart;
      joined = subst (λ xs. AllByRecursion (λ g. AreJoined g (filter (same_place g) (ts ++ f ∷ []))) xs) (sym same)
          (all_weaker (λ g. AreJoined g (filter (same_place g) ts)) (λ g. AreJoined g (filter (same_place g) (ts ++ f ∷ []))) (leaders [] ts)
          (λ g. joined_after g f ts clear) old.joined);
    }
constants_step false ts f new clear old =
    let same : leaders [] (ts ++ f ∷ []) ≡ leaders [] ts ++ f ∷ [] = leaders_new ts f (any_leader f [] ts ∙ new) in
    record {
      apart = subst (λ xs. AllPairs AreDisjoint xs) (sym same)
          (all_pairs_push AreDisjoint (leaders [] ts) f old.apart
          (λ k d within. disjoint_new ts f (get_or (leaders [] ts) k d) clear new
          (λ p is. any_sub p [] ts (some_at p (leaders [] ts) k d within is))));
      joined = subst (λ xs. AllByRecursion (λ g. AreJoined g (filter (same_place g) (ts ++ f ∷ []))) xs) (sym same)
          (all_more (λ g. AreJoined g (filter (same_place g) (ts ++ f ∷ []))) (leaders [] ts) (f ∷ [])
          (all_weaker (λ g. AreJoined g (filter (same_place g) ts)) (λ g. AreJoined g (filter (same_place g) (ts ++ f ∷ []))) (leaders [] ts)
          (λ g. joined_after g f ts clear) old.joined)
          (joined_alone f ts new, tt));
    }

pub constants_more : (ts : List CardRld) (f : CardRld) → overlaps ts f ≡ false → AreConstants ts → AreConstants (ts ++ f ∷ [])
constants_more ts f clear old = constants_step (list_any (same_place f) ts) ts f refl clear old
