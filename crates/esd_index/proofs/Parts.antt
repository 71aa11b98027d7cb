-- Symbols that are found by their place among all.
use Rattle.std.proofs.Common.{◌≡◌, ◌≢◌, ℕ, zero, suc, ◌+◌, ◌-◌, ◌<◌, Bool, true, false, ◌||◌, cond, List, [], ◌∷◌, ◌++◌, map, length, get_or, set, replicate, slice_get, Option, Some, None, is_some, option_map, unwrap_or, Result, Ok, Err, OnOk, OnErr, ◌⊎◌, ⊎_elim, inl, inr, refl, sym, ap, ◌∙◌, subst, arith}
use Rattle.std.specs.Prelude.{position, option_and_then}
use Rattle.std.specs.List.{list_any, position_from, IsDistinct, AllByRecursion}
use Rattle.std.specs.Option.{option_map_or}
use Rattle.std.proofs.lemmas.Bool.Decides.{nat_tests}
use Rattle.std.proofs.lemmas.Iterator.Adapters.{position_from-zero}
use Rattle.std.proofs.lemmas.Map.Keys.{IsDistinct-head, IsDistinct-tail}
use Rattle.std.proofs.lemmas.Option.{slice_get-map, slice_get-get_or}
use Rattle.std.proofs.lemmas.List.Quantifiers.{position-Some}
use Rattle.std.proofs.lemmas.List.{length-append, length-replicate}
use Rattle.std.specs.declared.alloc.AllocError.{AllocError}
use Rattle.std.proofs.lemmas.Slice.Eq.{bytes_eq-Decides}
use Rattle.le_bytes.specs.declared.name.Name.{Name}
use Rattle.le_bytes.specs.Names.{name_eq}
use Rattle.linking_model.specs.Names.{with_first}
use Rattle.linking_model.specs.Kept.{Symbol, ByName, Private, symbol_eq}
use Rattle.esd_index.specs.contracts.key.KeyPartialEq.TheImpl.{eq-value}
use Rattle.esd_index.specs.declared.key.Key.{Key}
use Rattle.esd_index.specs.Keys.{as_symbol}
use Rattle.esd_index.specs.Marked.{Marked, with_put}
use Rattle.esd_index.proofs.Lists.{same_key}
use Rattle.esd_index.specs.Parts.{Part, stands_at, place_by, with_room, with_last, Leads, IsPartOf}

-- ---- equal symbols

name_same : (m n : Name) → name_eq m n ≡ true → m ≡ n
name_same m n same = ap (λ (bytes : List ℕ). let name : Name = record { 0 = bytes } in name) ((bytes_eq-Decides m.0 n.0).0 same)

pub symbol_refl : (x : Symbol) → symbol_eq x x ≡ true
symbol_refl (ByName x) = (bytes_eq-Decides x.0 x.0).1 refl
symbol_refl (Private m n) = grind (arith, nat_tests)

private_same : (m n k l : ℕ) → symbol_eq (Private m n) (Private k l) ≡ true → (m ≡ k) × (n ≡ l)
private_same m n k l same = (grind (arith, nat_tests), grind (arith, nat_tests))

pub symbol_same : (x y : Symbol) → symbol_eq x y ≡ true → x ≡ y
symbol_same (ByName x) (ByName y) same = ap ByName (name_same x y same)
symbol_same (Private m n) (Private k l) same =
    let both = private_same m n k l same in
    cc (both.0, both.1)
symbol_same (ByName x) (Private k l) same = absurd cc
symbol_same (Private m n) (ByName y) same = absurd cc

-- ---- places

key_case : (o : Option Key) (y : Symbol) → option_map_or (λ k. symbol_eq (as_symbol k) y) o false ≡ option_map_or (λ z. symbol_eq z y) (option_map as_symbol o) false
key_case None y = refl
key_case (Some k) y = refl

pub key_stands : (ks : List Key) (k : ℕ) (y : Symbol) → option_map_or (λ z. symbol_eq (as_symbol z) y) (slice_get ks k) false ≡ stands_at (map as_symbol ks) k y
key_stands ks k y = key_case (slice_get ks k) y ∙ ap (λ (o : Option Symbol). option_map_or (λ z. symbol_eq z y) o false) (sym (slice_get-map as_symbol ks k))

there_case : (y : Symbol) (o : Option Symbol) → option_map_or (λ z. symbol_eq z y) o false ≡ true → o ≡ Some y
there_case y None e = absurd cc
there_case y (Some z) e = ap Some (symbol_same z y e)

stands_there : (ys : List Symbol) (k : ℕ) (y : Symbol) → stands_at ys k y ≡ true → slice_get ys k ≡ Some y
stands_there ys k y e = there_case y (slice_get ys k) e

there_stands : (ys : List Symbol) (k : ℕ) (y : Symbol) → slice_get ys k ≡ Some y → stands_at ys k y ≡ true
there_stands ys k y e = rw e (symbol_refl y)

from_found : {A : Type 0} (p : A → Bool) (n : ℕ) (xs : List A) → is_some (position_from p n xs) ≡ list_any p xs
from_found p n [] = refl
from_found p n (x ∷ xs) = chosen p n xs (p x) (from_found p (n + 1) xs)
  where
    chosen : {A : Type 0} (p : A → Bool) (n : ℕ) (xs : List A) (b : Bool) → is_some (position_from p (n + 1) xs) ≡ list_any p xs
        → is_some (cond b (Some n) (position_from p (n + 1) xs)) ≡ (b || list_any p xs)
    chosen p n xs true more = refl
    chosen p n xs false more = more

-- there is a place where there is such an element
pub position_found : {A : Type 0} (p : A → Bool) (xs : List A) → is_some (position p xs) ≡ list_any p xs
position_found p xs = ap is_some (position_from-zero p xs) ∙ from_found p 0 xs

-- a symbol stands at its place
found_there : (y : Symbol) (ys : List Symbol) (k : ℕ) → position (symbol_eq y) ys ≡ Some k → slice_get ys k ≡ Some y
found_there y ys k e =
    let is = position-Some (symbol_eq y) ys k y e in
    slice_get-get_or ys k y is.0 ∙ ap Some (sym (symbol_same y (get_or ys k y) is.1))

-- a symbol that stands there is among them
there_any : (y : Symbol) (ys : List Symbol) (k : ℕ) → slice_get ys k ≡ Some y → list_any (symbol_eq y) ys ≡ true
there_any y [] k e = absurd cc
there_any y (z ∷ ys) zero e =
    let same : z ≡ y = cc in
    rw (subst (λ (w : Symbol). symbol_eq y w ≡ true) (sym same) (symbol_refl y)) refl
there_any y (z ∷ ys) (suc k) e = rw (there_any y ys k e) (or_true (symbol_eq y z))
  where
    or_true : (b : Bool) → (b || true) ≡ true
    or_true true = refl
    or_true false = refl

from_grown : (q : Symbol) (n : ℕ) (xs ys : List Symbol) (p : ℕ) → position_from (symbol_eq q) n xs ≡ Some p → position_from (symbol_eq q) n (xs ++ ys) ≡ Some p
from_grown q n [] ys p e = absurd cc
from_grown q n (x ∷ xs) ys p e = chosen q n xs ys p (symbol_eq q x) e (λ h. from_grown q (n + 1) xs ys p h)
  where
    chosen : (q : Symbol) (n : ℕ) (xs ys : List Symbol) (p : ℕ) (b : Bool) → cond b (Some n) (position_from (symbol_eq q) (n + 1) xs) ≡ Some p
        → (position_from (symbol_eq q) (n + 1) xs ≡ Some p → position_from (symbol_eq q) (n + 1) (xs ++ ys) ≡ Some p)
        → cond b (Some n) (position_from (symbol_eq q) (n + 1) (xs ++ ys)) ≡ Some p
    chosen q n xs ys p true e more = e
    chosen q n xs ys p false e more = more e

-- a symbol keeps its place
position_grown : (q : Symbol) (xs ys : List Symbol) (p : ℕ) → position (symbol_eq q) xs ≡ Some p → position (symbol_eq q) (xs ++ ys) ≡ Some p
position_grown q xs ys p e =
    position_from-zero (symbol_eq q) (xs ++ ys) ∙ from_grown q 0 xs ys p (sym (position_from-zero (symbol_eq q) xs) ∙ e)

get_grown : {A : Type 0} (xs ys : List A) (k : ℕ) (x : A) → slice_get xs k ≡ Some x → slice_get (xs ++ ys) k ≡ Some x
get_grown [] ys k x e = absurd cc
get_grown (z ∷ xs) ys zero x e = e
get_grown (z ∷ xs) ys (suc k) x e = get_grown xs ys k x e

-- what stands in a list with one more stands in the list or is the one
get_pushed : {A : Type 0} (xs : List A) (z : A) (k : ℕ) (x : A) → slice_get (xs ++ z ∷ []) k ≡ Some x → (slice_get xs k ≡ Some x) ⊎ ((k ≡ length xs) × (z ≡ x))
get_pushed [] z zero x e = inr (refl, cc)
get_pushed [] z (suc k) x e = absurd cc
get_pushed (y ∷ xs) z zero x e = inl e
get_pushed (y ∷ xs) z (suc k) x e = ⊎_elim (λ h. inl h) (λ h. inr (ap suc h.0, h.1)) (get_pushed xs z k x e)

set_same : {A : Type 0} (xs : List A) (i : ℕ) (w : A) → i < length xs → slice_get (set xs i w) i ≡ Some w
set_same [] i w h = absurd (omega (arith, h))
set_same (x ∷ xs) zero w h = refl
set_same (x ∷ xs) (suc i) w h = set_same xs i w (omega (arith, h))

set_other : {A : Type 0} (xs : List A) (i j : ℕ) (w : A) → j ≢ i → slice_get (set xs i w) j ≡ slice_get xs j
set_other [] i j w h = refl
set_other (x ∷ xs) zero zero w h = absurd (h refl)
set_other (x ∷ xs) zero (suc j) w h = refl
set_other (x ∷ xs) (suc i) zero w h = refl
set_other (x ∷ xs) (suc i) (suc j) w h = set_other xs i j w (λ e. h (ap suc e))

-- ---- found by the place among all

-- where a symbol stands in a part, by its place among all
pub found_by : (all : List Symbol) (part : Part) (y : Symbol) (at : ℕ) → Leads all part.places part.all → position (symbol_eq y) all ≡ Some at → place_by part at y ≡ position (symbol_eq y) part.all
found_by all part y at leads is = here (position (symbol_eq y) part.all) refl
  where
    absent : (q : Option ℕ) → position (symbol_eq y) part.all ≡ None → option_and_then (λ k. cond (stands_at part.all k y) (Some k) None) q ≡ None
    absent None none = refl
    absent (Some k) none = wrong (stands_at part.all k y) refl
      where
        wrong : (b : Bool) → stands_at part.all k y ≡ b → cond b (Some k) None ≡ None
        wrong false e = refl
        wrong true e =
            let any : list_any (symbol_eq y) part.all ≡ true = there_any y part.all k (stands_there part.all k y e) in
            let no : false ≡ list_any (symbol_eq y) part.all = ap is_some (sym none) ∙ position_found (symbol_eq y) part.all in
            absurd (cc (any, no))

    here : (o : Option ℕ) → position (symbol_eq y) part.all ≡ o → place_by part at y ≡ o
    here None e = absent (slice_get part.places at) e
    here (Some k) e =
        let there : slice_get part.all k ≡ Some y = found_there y part.all k e in
        let noted : slice_get part.places at ≡ Some k = rw is at (leads k y there) in
        rw (noted, there_stands part.all k y there) refl

-- a symbol that is not among all is in no part
pub found_nowhere : (all : List Symbol) (part : Part) (y : Symbol) → Leads all part.places part.all → position (symbol_eq y) all ≡ None → None ≡ position (symbol_eq y) part.all
found_nowhere all part y leads none = here (position (symbol_eq y) part.all) refl
  where
    here : (o : Option ℕ) → position (symbol_eq y) part.all ≡ o → None ≡ o
    here None e = refl
    here (Some k) e = absurd (cc (rw none at (leads k y (found_there y part.all k e))))

pub has_by : (symbols : Marked) (part : Part) (y : Symbol) (at : ℕ) → IsPartOf symbols part → position (symbol_eq y) symbols.all ≡ Some at → is_some (place_by part at y) ≡ list_any (symbol_eq y) part.all
has_by symbols part y at is stands = ap is_some (found_by symbols.all part y at is.leads stands) ∙ position_found (symbol_eq y) part.all

-- ---- more symbols

leads_grown : (all xs : List Symbol) (places : List ℕ) (part : List Symbol) → Leads all places part → Leads (all ++ xs) places part
leads_grown all xs places part leads k y there = here (position (symbol_eq y) all) refl
  where
    here : (o : Option ℕ) → position (symbol_eq y) all ≡ o → option_and_then (λ p. slice_get places p) (position (symbol_eq y) (all ++ xs)) ≡ Some k
    here None e = absurd (cc (rw e at (leads k y there)))
    here (Some p) e = rw (position_grown y all xs p e) (rw e at (leads k y there))

put_chosen : (symbols : Marked) (part : Part) (y : Symbol) (b : Bool) → IsPartOf symbols part → IsPartOf (record { all = cond b symbols.all (symbols.all ++ y ∷ []); marked = symbols.marked }) part
put_chosen symbols part y true is = record { leads = is.leads; led = is.led; symbols_grew = is.symbols_grew; part_grew = is.part_grew }
put_chosen symbols part y false is = record {
  leads = leads_grown symbols.all (y ∷ []) part.places part.all is.leads;
  led = is.led;
  symbols_grew = λ k z e. get_grown symbols.all (y ∷ []) k z (is.symbols_grew k z e);
  part_grew = is.part_grew;
}

marked_same : (m n : Marked) → m.all ≡ n.all → m.marked ≡ n.marked → m ≡ n
marked_same m n all marked =
    let one : m ≡ record { all = n.all; marked = m.marked } = ap (λ (ys : List Symbol). let v : Marked = record { all = ys; marked = m.marked } in v) all in
    one ∙ ap (λ (ys : List Symbol). let v : Marked = record { all = n.all; marked = ys } in v) marked

-- a part stays one where a symbol is put, or nothing is
pub part_put : (r : Result ℕ AllocError) (new old : Marked) (y : Symbol) (part : Part) → OnOk r (new.all ≡ with_first symbol_eq old.all y) → new.marked ≡ old.marked → OnErr r (new ≡ old) → IsPartOf old part → IsPartOf new part
part_put (Ok _) new old y part noted kept err is =
    let same : new ≡ with_put old y = marked_same new (with_put old y) noted kept in
    subst (λ (m : Marked). IsPartOf m part) (sym same) (put_chosen old part y (list_any (symbol_eq y) old.all) is)
part_put (Err _) new old y part noted kept err is = subst (λ (m : Marked). IsPartOf m part) (sym err) is

-- ---- more in a part

leads_room : (all : List Symbol) (places zs : List ℕ) (part : List Symbol) → Leads all places part → Leads all (places ++ zs) part
leads_room all places zs part leads k y there = here (position (symbol_eq y) all) refl
  where
    here : (o : Option ℕ) → position (symbol_eq y) all ≡ o → option_and_then (λ p. slice_get (places ++ zs) p) (position (symbol_eq y) all) ≡ Some k
    here None e = absurd (cc (rw e at (leads k y there)))
    here (Some p) e = rw e (get_grown places zs p k (rw e at (leads k y there)))

pub part_room : (symbols : Marked) (part : Part) (n : ℕ) → IsPartOf symbols part → IsPartOf symbols (record { all = part.all; marked = part.marked; places = with_room part.places n })
part_room symbols part n is = record {
  leads = leads_room symbols.all part.places (replicate (n - length part.places) 0) part.all is.leads;
  led = leads_room symbols.marked part.places (replicate (n - length part.places) 0) part.marked is.led;
  symbols_grew = is.symbols_grew;
  part_grew = is.part_grew;
}

pub room_within : (symbols : Marked) (y : Symbol) (at : ℕ) (places : List ℕ) → position (symbol_eq y) symbols.all ≡ Some at → at < length (with_room places (length symbols.all))
room_within symbols y at places e =
    let low : at < length symbols.all = (position-Some (symbol_eq y) symbols.all at y e).0 in
    let n : ℕ = length symbols.all in
    let long : length (with_room places n) ≡ length places + (n - length places) = length-append places (replicate (n - length places) 0) ∙ ap (λ (k : ℕ). length places + k) (length-replicate (n - length places) 0) in
    omega (arith, low, long)

same_or : (m n : ℕ) → (m ≡ n) ⊎ (m ≢ n)
same_or zero zero = inl refl
same_or zero (suc n) = inr (λ e. absurd (omega (arith, e)))
same_or (suc m) zero = inr (λ e. absurd (omega (arith, e)))
same_or (suc m) (suc n) = ⊎_elim (λ e. inl (ap suc e)) (λ ne. inr (λ e. ne (omega (arith, e)))) (same_or m n)

leads_written : (all : List Symbol) (places : List ℕ) (part : List Symbol) (at v : ℕ) → Leads all places part → ((z : Symbol) (k : ℕ) → slice_get all at ≡ Some z → slice_get part k ≡ Some z → ⊥) → Leads all (set places at v) part
leads_written all places part at v leads nowhere k z there = here (position (symbol_eq z) all) refl
  where
    at_place : (p : ℕ) → position (symbol_eq z) all ≡ Some p → slice_get places p ≡ Some k → (p ≡ at) ⊎ (p ≢ at) → slice_get (set places at v) p ≡ Some k
    at_place p e noted (inl same) = absurd (nowhere z k (subst (λ (q : ℕ). slice_get all q ≡ Some z) same (found_there z all p e)) there)
    at_place p e noted (inr other) = set_other places at p v other ∙ noted

    here : (o : Option ℕ) → position (symbol_eq z) all ≡ o → option_and_then (λ p. slice_get (set places at v) p) (position (symbol_eq z) all) ≡ Some k
    here None e = absurd (cc (rw e at (leads k z there)))
    here (Some p) e = rw e (at_place p e (rw e at (leads k z there)) (same_or p at))

-- a symbol that is not in a part is put at its end
pub part_last : (symbols : Marked) (part : Part) (y : Symbol) (at : ℕ) → IsPartOf symbols part → position (symbol_eq y) symbols.all ≡ Some at → list_any (symbol_eq y) part.all ≡ false → at < length part.places → IsPartOf symbols (with_last part at y)
part_last symbols part y at is stands absent low = record {
  leads = last_leads;
  led = leads_written symbols.marked part.places part.marked at (length part.all) is.led (λ z k e there. nowhere z k (is.symbols_grew at z e) (is.part_grew k z there));
  symbols_grew = is.symbols_grew;
  part_grew = λ k z e. get_grown part.all (y ∷ []) k z (is.part_grew k z e);
}
  where
    nowhere : (z : Symbol) (k : ℕ) → slice_get symbols.all at ≡ Some z → slice_get part.all k ≡ Some z → ⊥
    nowhere z k e there =
        let here : slice_get symbols.all at ≡ Some y = found_there y symbols.all at stands in
        let any : list_any (symbol_eq z) part.all ≡ true = there_any z part.all k there in
        let same : z ≡ y = ap (λ (o : Option Symbol). unwrap_or o y) (sym e ∙ here) in
        let none : list_any (symbol_eq z) part.all ≡ false = subst (λ (w : Symbol). list_any (symbol_eq w) part.all ≡ false) (sym same) absent in
        absurd (cc (any, none))

    old_leads : Leads symbols.all (set part.places at (length part.all)) part.all
    old_leads = leads_written symbols.all part.places part.all at (length part.all) is.leads nowhere

    last_case : (k : ℕ) (z : Symbol) → (slice_get part.all k ≡ Some z) ⊎ ((k ≡ length part.all) × (y ≡ z)) → option_and_then (λ p. slice_get (set part.places at (length part.all)) p) (position (symbol_eq z) symbols.all) ≡ Some k
    last_case k z (inl there) = old_leads k z there
    last_case k z (inr both) =
        let stands_z : position (symbol_eq z) symbols.all ≡ Some at = subst (λ (w : Symbol). position (symbol_eq w) symbols.all ≡ Some at) both.1 stands in
        rw stands_z (set_same part.places at (length part.all) low ∙ ap Some (sym both.0))

    last_leads : Leads symbols.all (set part.places at (length part.all)) (part.all ++ y ∷ [])
    last_leads k z there = last_case k z (get_pushed part.all y k z there)

abbrev roomy : Part → ℕ → Part
roomy part n = record { all = part.all; marked = part.marked; places = with_room part.places n }

pub roomed : (symbols : Marked) (old mid new : Part) (n : ℕ) → IsPartOf symbols old → mid ≡ roomy old n → new ≡ mid → IsPartOf symbols new
roomed symbols old mid new n is mid_is new_is = subst (λ (p : Part). IsPartOf symbols p) (sym (new_is ∙ mid_is)) (part_room symbols old n is)

pub added : (symbols : Marked) (old mid new : Part) (y : Symbol) (at n : ℕ) → IsPartOf symbols old → position (symbol_eq y) symbols.all ≡ Some at → list_any (symbol_eq y) old.all ≡ false
    → n ≡ length symbols.all → mid ≡ roomy old n → new ≡ with_last mid at y → IsPartOf symbols new
added symbols old mid new y at n is stands absent long mid_is new_is =
    let low : at < length (with_room old.places n) = subst (λ (k : ℕ). at < length (with_room old.places k)) (sym long) (room_within symbols y at old.places stands) in
    subst (λ (p : Part). IsPartOf symbols p) (sym (new_is ∙ ap (λ (p : Part). with_last p at y) mid_is))
    (part_last symbols (roomy old n) y at (part_room symbols old n is) stands absent low)

-- ---- keys in their places

all_mapped : (k : Key) (ks : List Key) → AllByRecursion (λ l. (eq-value).it k l ≡ false) ks → AllByRecursion (λ z. symbol_eq (as_symbol k) z ≡ false) (map as_symbol ks)
all_mapped k [] all = tt
all_mapped k (l ∷ ks) all = (sym (same_key k l) ∙ all.0, all_mapped k ks all.1)

all_at : {A : Type 0} (P : A → Type 0) (xs : List A) (i : ℕ) (x : A) → AllByRecursion P xs → slice_get xs i ≡ Some x → P x
all_at P [] i x all e = absurd cc
all_at {A} P (z ∷ xs) zero x all e =
    let same : z ≡ x = cc in
    subst P same all.0
all_at P (z ∷ xs) (suc i) x all e = all_at P xs i x all.1 e

symbol_back : (x y : Symbol) (b : Bool) → symbol_eq y x ≡ b → symbol_eq x y ≡ false → symbol_eq y x ≡ false
symbol_back x y false e apart = e
symbol_back x y true e apart =
    let same : y ≡ x = symbol_same y x e in
    let here : symbol_eq x x ≡ false = subst (λ (z : Symbol). symbol_eq x z ≡ false) same apart in
    let is : symbol_eq x x ≡ true = symbol_refl x in
    absurd (cc (here, is))

placed_from : (n : ℕ) (ks : List Key) (k : ℕ) (y : Symbol) → IsDistinct (eq-value).it ks → slice_get (map as_symbol ks) k ≡ Some y → position_from (symbol_eq y) n (map as_symbol ks) ≡ Some (n + k)
placed_from n [] k y d e = absurd cc
placed_from n (x ∷ ks) zero y d e =
    let same : as_symbol x ≡ y = cc in
    let here : symbol_eq y (as_symbol x) ≡ true = subst (λ (z : Symbol). symbol_eq y z ≡ true) (sym same) (symbol_refl y) in
    let none : n + 0 ≡ n = omega arith in
    rw (here, none) refl
placed_from n (x ∷ ks) (suc k) y d e =
    let other : symbol_eq (as_symbol x) y ≡ false = all_at (λ z. symbol_eq (as_symbol x) z ≡ false) (map as_symbol ks) k y (all_mapped x ks (IsDistinct-head (eq-value).it x ks d)) e in
    let back : symbol_eq y (as_symbol x) ≡ false = symbol_back (as_symbol x) y (symbol_eq y (as_symbol x)) refl other in
    let more : n + 1 + k ≡ n + suc k = omega arith in
    rw back (placed_from (n + 1) ks k y (IsDistinct-tail (eq-value).it x ks d) e ∙ ap Some more)

-- a symbol has the place at which it stands, where none stands twice
pub key_placed : (ks : List Key) (k : ℕ) (y : Symbol) → IsDistinct (eq-value).it ks → stands_at (map as_symbol ks) k y ≡ true → position (symbol_eq y) (map as_symbol ks) ≡ Some k
key_placed ks k y d e =
    let none : 0 + k ≡ k = omega arith in
    position_from-zero (symbol_eq y) (map as_symbol ks) ∙ placed_from 0 ks k y d (stands_there (map as_symbol ks) k y e) ∙ ap Some none

pub stored_stands : (ks : List Key) (k : ℕ) (key l : Key) → slice_get ks k ≡ Some l → (eq-value).it key l ≡ true → stands_at (map as_symbol ks) k (as_symbol key) ≡ true
stored_stands ks k key l there same =
    let is : as_symbol key ≡ as_symbol l = symbol_same (as_symbol key) (as_symbol l) (sym (same_key key l) ∙ same) in
    there_stands (map as_symbol ks) k (as_symbol key) (slice_get-map as_symbol ks k ∙ ap (option_map as_symbol) there ∙ ap Some (sym is))

-- nothing is put that has a place
pub put_nothing : (ys : List Symbol) (y : Symbol) (k : ℕ) → position (symbol_eq y) ys ≡ Some k → ys ≡ with_first symbol_eq ys y
put_nothing ys y k e =
    let any : true ≡ list_any (symbol_eq y) ys = ap is_some (sym e) ∙ position_found (symbol_eq y) ys in
    rw (sym any) refl
