-- Relocation items of a section are those of its constants, and each constant has one.
use Rattle.std.proofs.Common.{◌≡◌, inl, inr, ℕ, ◌+◌, ◌<◌, ◌≤◌, Bool, true, false, ◌&&◌, ◌||◌, ◌==◌, cond, if◌then◌else◌, List, [], ◌∷◌, map, find, sum_by, length, Some, is_some, refl, sym, ap, ◌∙◌, subst, arith}
use Rattle.std.specs.List.{AllByRecursion as Each, list_any}
use Rattle.std.proofs.lemmas.Bool.{false≢true, eq-eqb, and_from}
use Rattle.std.proofs.lemmas.List.Sums.{sum_by-cons}
use Rattle.sym_mod.specs.declared.program.Constant.{Constant}
use Rattle.sym_mod.specs.declared.program.Term.{Term}
use Rattle.sym_mod.specs.Sound.{IsSoundConstant, HaveProperSigns}
use Rattle.sym_mod.specs.declared.module.Kind.{Kind}
use Rattle.sym_mod.specs.declared.module.Kind.TheVariants.{Address, Branch, Displacement, Total as TotalKind}
use Rattle.load_recs.specs.declared.items.RldItem.{RldItem}
use Rattle.linking_model.specs.Places.{Laid, place, segment_of_section}
use Rattle.member_model.specs.Symbols.{field_length, field_kind}
use Rattle.member_model.specs.SymbolList.{symbols_written}
use Rattle.member_model.specs.Parts.{OneSection, parts_in, part_number, target_number}
use Rattle.member_model.specs.Chunks.{part_items, term_item}
use Rattle.member_laws.specs.Linkable.{IsLinkable, StandsInTree}
use Rattle.member_laws.specs.Gathered.{items_of}
use Rattle.member_laws.proofs.LoadingLists.{Among, at_one, each_weaker, each_from_all}
use Rattle.member_laws.proofs.LoadingTargets.{Found, of_all, within, section_among}
use Rattle.member_laws.proofs.LoadingItems.{IsSteady, HoldsJoined, AreItems, same_length, same_kind, each_item, sum_items}
use Rattle.member_laws.proofs.LoadingFields.{Stands, are_items}
use Rattle.member_laws.proofs.Standing.{segment-at}
use Rattle.member_laws.proofs.LoadingSegment.{parts_stand, each_among}
use Rattle.member_laws.proofs.LoadingTerms.{kind_code, IsTermItem, is_term_item, each_section_item, sum_section_items}

-- ---- lists

-- an element that passes a test
pub record Passing {X : Type 0} (test : X → Bool) (xs : List X) : Type 0 where
  pub item : X
  pub among : Among item xs
  pub passes : test item ≡ true

pub any_passes : {X : Type 0} (test : X → Bool) (xs : List X) → list_any test xs ≡ true → Passing test xs
any_passes test [] holds = absurd (false≢true holds)
any_passes {X = X} test (x ∷ xs) holds = by_test (test x) refl holds (λ rest. any_passes test xs rest)
  where
    by_test : (b : Bool) → test x ≡ b → (b || list_any test xs) ≡ true → (list_any test xs ≡ true → Passing test xs) → Passing test (x ∷ xs)
    by_test true here holds later = record { item = x; among = inl refl; passes = here }
    by_test false fails holds later = let rest = later holds in record { item = rest.item; among = inr rest.among; passes = rest.passes }

pub any_among : {X : Type 0} (test : X → Bool) (x : X) (xs : List X) → Among x xs → test x ≡ true → list_any test xs ≡ true
any_among test x [] among passes = absurd among
any_among test x (y ∷ ys) (inl same) passes = ap (λ b. b || list_any test ys) (ap test same ∙ passes)
any_among test x (y ∷ ys) (inr later) passes = ap (λ b. test y || b) (any_among test x ys later passes) ∙ or_true (test y)
  where
    or_true : (b : Bool) → (b || true) ≡ true
    or_true true = refl
    or_true false = refl

pub found_some : {X : Type 0} (test : X → Bool) (x : X) (xs : List X) → Among x xs → test x ≡ true → is_some (find test xs) ≡ true
found_some test x [] among passes = absurd among
found_some test x (y ∷ ys) (inl same) passes = rw (ap test same ∙ passes) refl
found_some {X = X} test x (y ∷ ys) (inr later) passes = by_test (test y) (found_some test x ys later passes)
  where
    by_test : (b : Bool) → is_some (find test ys) ≡ true → is_some (cond b (Some y) (find test ys)) ≡ true
    by_test true rest = refl
    by_test false rest = rest

-- one of the numbers is not zero
counted_some : {X : Type 0} (test : X → Bool) (xs : List X) → 1 ≤ sum_by (λ x. if test x then 1 else 0) xs → Passing test xs
counted_some test [] some = absurd (omega (arith, some))
counted_some {X = X} test (x ∷ xs) some =
    by_test (test x) refl (subst (λ k. 1 ≤ k) (sum_by-cons (λ x. if test x then 1 else 0) x xs) some) (λ rest. counted_some test xs rest)
  where
    rest_of : (k : ℕ) → 1 ≤ 0 + k → 1 ≤ k
    rest_of k some = omega arith

    by_test : (b : Bool) → test x ≡ b → 1 ≤ (if b then 1 else 0) + sum_by (λ x. if test x then 1 else 0) xs
        → (1 ≤ sum_by (λ x. if test x then 1 else 0) xs → Passing test xs) → Passing test (x ∷ xs)
    by_test true here some later = record { item = x; among = inl refl; passes = here }
    by_test false fails some later =
        let rest = later (rest_of _ some) in record { item = rest.item; among = inr rest.among; passes = rest.passes }

some_counted : {X : Type 0} (f : X → ℕ) (x : X) (xs : List X) → Among x xs → 1 ≤ f x → 1 ≤ sum_by f xs
some_counted f x [] among some = absurd among
some_counted f x (y ∷ ys) (inl same) some =
    subst (λ k. 1 ≤ k) (sym (sum_by-cons f y ys)) (more (f y) (sum_by f ys) (subst (λ z. 1 ≤ f z) (sym same) some))
  where
    more : (a b : ℕ) → 1 ≤ a → 1 ≤ a + b
    more a b some = omega arith
some_counted f x (y ∷ ys) (inr later) some =
    subst (λ k. 1 ≤ k) (sym (sum_by-cons f y ys)) (more (f y) (sum_by f ys) (some_counted f x ys later some))
  where
    more : (a b : ℕ) → 1 ≤ b → 1 ≤ a + b
    more a b some = omega arith

-- ---- items of constants

-- the item is one of a constant of section i
pub record IsOfConstant (P : Laid) (i : ℕ) (z : RldItem) : Type 0 where
  pub constant : Constant
  pub among : Among constant P.program.constants
  pub section : constant.section ≡ i
  pub address : z.address ≡ place P i + constant.offset
  pub long : field_length z ≡ constant.length
  pub term : Term
  pub has : Among term constant.terms
  pub kind : field_kind z ≡ kind_code constant.kind
  pub refers : z.r ≡ target_number P term.target
  pub number : z.p ≡ part_number P (OneSection i)

pub sound_at : (P : Laid) (c : Constant) → IsLinkable P → Among c P.program.constants → IsSoundConstant P.program c
sound_at P c link among =
    at_one (IsSoundConstant P.program) c P.program.constants (each_from_all (IsSoundConstant P.program) P.program.constants link.sound.constants) among

section_items_of : (P : Laid) (i : ℕ) → IsLinkable P → Each (IsOfConstant P i) (part_items P (OneSection i))
section_items_of P i link =
    each_section_item (IsOfConstant P i) P i
    (each_weaker (λ c. Among c P.program.constants) _ P.program.constants
    (λ c among here. each_weaker (λ t. Among t c.terms) _ c.terms (λ t has. made c t among here has) (each_among c.terms))
    (each_among P.program.constants))
  where
    made : (c : Constant) (t : Term) → Among c P.program.constants → c.section ≡ i → Among t c.terms → IsOfConstant P i (term_item P c t)
    made c t among here has =
        let sound : IsSoundConstant P.program c = sound_at P c link among in
        let is : IsTermItem c t (term_item P c t) = is_term_item P c t sound.not_empty sound.short in
        record {
          constant = c;
          among = among;
          section = here;
          address = ap (λ k. place P k + c.offset) here;
          long = is.long;
          term = t;
          has = has;
          kind = is.kind;
          refers = refl;
          number = ap (λ k. part_number P (OneSection k)) here;
        }

items_joined : (P : Laid) (i : ℕ) → HoldsJoined (IsOfConstant P i)
items_joined P i z even of_one = record {
  constant = of_one.constant;
  among = of_one.among;
  section = of_one.section;
  address = of_one.address;
  long = same_length z even ∙ of_one.long;
  term = of_one.term;
  has = of_one.has;
  kind = same_kind z even ∙ of_one.kind;
  refers = of_one.refers;
  number = of_one.number;
}

-- section i is a part of a segment of the tree
pub in_tree : (P : Laid) (i : ℕ) → IsLinkable P → i < length P.program.sections
    → (1 ≤ segment_of_section P.program i) × (segment_of_section P.program i ≤ length P.tree)
in_tree P i link inside =
    let at : Found P.program.sections i (λ x. Unit {0}) = within P.program.sections i inside in
    let stands : StandsInTree P.tree at.item = of_all (StandsInTree P.tree) P.program.sections i at.item link.in_tree at.found in
    let here : segment_of_section P.program i ≡ at.item.segment = segment-at P i at.item at.found in
    (subst (λ k. 1 ≤ k) (sym here) stands.first, subst (λ k. k ≤ length P.tree) (sym here) stands.last)

are_items_of : (P : Laid) (i : ℕ) → IsLinkable P → i < length P.program.sections → AreItems P (OneSection i)
are_items_of P i link inside =
    let s = segment_of_section P.program i in
    let low = in_tree P i link inside in
    are_items P (symbols_written P) (OneSection i)
    (at_one (Stands P (symbols_written P)) (OneSection i) (parts_in P s) (parts_stand P s (symbols_written P) link low.0 low.1 refl) (section_among P i s inside refl))

pub written_items_of : (P : Laid) (n i : ℕ) → IsLinkable P → i < length P.program.sections → Each (IsOfConstant P i) (items_of P n (OneSection i))
written_items_of P n i link inside =
    each_item (IsOfConstant P i) (items_joined P i) P n (OneSection i) (are_items_of P i link inside) (section_items_of P i link)

pub first_term : (kind : Kind) (terms : List Term) → HaveProperSigns kind (map (λ (t : Term). t.minus) terms) → (t : Term) × Among t terms
first_term Address [] signs = absurd signs
first_term Branch [] signs = absurd signs
first_term Displacement [] signs = absurd signs
first_term TotalKind [] signs = absurd signs
first_term kind (t ∷ terms) signs = (t, inl refl)

-- the item has this place and this length
abbrev pub is_placed : ℕ → ℕ → RldItem → Bool
is_placed a l z = z.address == a && field_length z == l

pub item_there : (P : Laid) (n i : ℕ) (c : Constant) → IsLinkable P → 1 ≤ n → i < length P.program.sections → Among c P.program.constants → c.section ≡ i
    → Passing (is_placed (place P i + c.offset) c.length) (items_of P n (OneSection i))
item_there P n i c link some inside among here =
    counted_some (is_placed (place P i + c.offset) c.length) (items_of P n (OneSection i))
    (subst (λ k. 1 ≤ k) (sym (sum_items f steady P n (OneSection i) some (are_items_of P i link inside) ∙ sum_section_items f P i))
    (some_counted (λ (d : Constant). if d.section == i then sum_by (λ t. f (term_item P d t)) d.terms else 0) c P.program.constants among
    (subst (λ b. 1 ≤ (if b then sum_by (λ t. f (term_item P c t)) c.terms else 0)) (sym (eq-eqb c.section i here))
    (some_counted (λ t. f (term_item P c t)) first.0 c.terms first.1 (one (is_placed (place P i + c.offset) c.length (term_item P c first.0)) placed)))))
  where
    f : RldItem → ℕ
    f z = if is_placed (place P i + c.offset) c.length z then 1 else 0

    steady : IsSteady f
    steady x even = ap (λ l. if x.address == place P i + c.offset && l == c.length then 1 else 0) (same_length x even)

    sound : IsSoundConstant P.program c
    sound = sound_at P c link among

    first : (t : Term) × Among t c.terms
    first = first_term c.kind c.terms sound.signs

    placed : is_placed (place P i + c.offset) c.length (term_item P c first.0) ≡ true
    placed =
        and_from (place P c.section + c.offset == place P i + c.offset) (field_length (term_item P c first.0) == c.length)
        (eq-eqb (place P c.section + c.offset) (place P i + c.offset) (ap (λ k. place P k + c.offset) here))
        (eq-eqb (field_length (term_item P c first.0)) c.length (is_term_item P c first.0 sound.not_empty sound.short).long)

    one : (b : Bool) → b ≡ true → 1 ≤ (if b then 1 else 0)
    one b is = subst (λ b. 1 ≤ (if b then 1 else 0)) (sym is) (omega arith)
