-- Sections placed over areas stand apart: each takes room that it alone has.
use Rattle.std.proofs.Common.{arith, ◌≡◌, ℕ, zero, suc, ◌+◌, ◌<◌, ◌≤◌, ◌^◌, Bool, true, false, cond, ◌&&◌, nat_le, nat_lt, if◌then◌else◌, List, [], ◌∷◌, map, length, get_or, count_by, All, refl, sym, ◌∙◌, ap, subst, Option, Some, None}
use Rattle.std.specs.Option.{option_map, option_and_then}
use Rattle.std.proofs.lemmas.List.Sums.{sum_by-cons}
use Rattle.load_recs.specs.declared.items.SymbolItem.{SymbolItem}
use Rattle.linking_model.specs.Numbers.{round8, is_among}
use Rattle.linking_model.specs.Scattered.{Area as Left, Found, found, scattered}
use Rattle.member_model.specs.Placing.{addresses_over, sections_of}
use Rattle.fetch_places.specs.declared.extent.Extent.{Extent}
use Rattle.fetch_places.specs.declared.placement.Area.{Area}
use Rattle.fetch_places.specs.declared.placement.Placement.{Placement}
use Rattle.fetch_places.specs.declared.placement.Placement.TheVariants.{Block, Scattered}
use Rattle.fetch_places.specs.Extents.{has, StandApart, EndsLow, extents_at, StandEach, Fits}
use Rattle.fetch_places.specs.Over.{left_of, whole_area, AreInOrder, IsOver}
use Rattle.fetch_places.proofs.Apart.{held_first}

-- the address is free in what is left of an area
abbrev pub is_free : ℕ → Left → Bool
is_free a l = nat_le l.mark a && nat_lt a l.end

free_first : (a : ℕ) (l : Left) (areas : List Left) → count_by (is_free a) (l ∷ areas) ≡ cond (is_free a l) 1 0 + count_by (is_free a) areas
free_first a l areas = sum_by-cons (λ y. cond (is_free a y) 1 0) l areas

-- what is taken of an area, and what is left of it, were free in it
split_area : (a n mark end : ℕ) → round8 mark + n ≤ end
    → cond (is_among (round8 mark) n a) 1 0 + cond (nat_le (round8 mark + n) a && nat_lt a end) 1 0 ≤ cond (nat_le mark a && nat_lt a end) 1 0
split_area a n mark end room =
    let up : mark ≤ round8 mark = omega arith in
    split a n mark (round8 mark) end up room
  where
    split : (a n mark from end : ℕ) → mark ≤ from → from + n ≤ end
        → cond (is_among from n a) 1 0 + cond (nat_le (from + n) a && nat_lt a end) 1 0 ≤ cond (nat_le mark a && nat_lt a end) 1 0
    split a n mark from end up room = grind arith

-- all areas end low
abbrev pub AllEndLow : List Left → Type 0
AllEndLow [] = Unit {0}
AllEndLow (l ∷ areas) = (l.end ≤ 16777215) × AllEndLow areas

pub record Takes (areas : List Left) (n : ℕ) (f : Found) : Type 0 where
  pub room : (a : ℕ) → cond (is_among f.address n a) 1 0 + count_by (is_free a) f.left ≤ count_by (is_free a) areas
  pub low : AllEndLow areas → f.address + n ≤ 16777215
  pub left_low : AllEndLow areas → AllEndLow f.left

takes_first : (l : Left) (areas : List Left) (n : ℕ) → round8 l.mark + n ≤ l.end
    → Takes (l ∷ areas) n (record { address = round8 l.mark; left = record l { mark = round8 l.mark + n } ∷ areas })
takes_first l areas n room = record {
  room = λ a. rw (free_first a l areas, free_first a (record l { mark = round8 l.mark + n }) areas) (omega (arith, split_area a n l.mark l.end room));
  low = λ below. omega (arith, room, below.0);
  left_low = λ below. below;
}

takes_later : (l : Left) (areas : List Left) (n : ℕ) (g : Found) → Takes areas n g → Takes (l ∷ areas) n (record g { left = l ∷ g.left })
takes_later l areas n g rest = record {
  room = λ a. rw (free_first a l areas, free_first a l g.left) (omega (arith, rest.room a));
  low = λ below. rest.low below.1;
  left_low = λ below. (below.0, rest.left_low below.1);
}

takes : (areas : List Left) (n : ℕ) (f : Found) → found areas n ≡ Some f → Takes areas n f
takes [] n f is = absurd cc
takes (l ∷ areas) n f is = by_cases (nat_le (round8 l.mark + n) l.end) refl is (λ g at. takes areas n g at)
  where
    found_later : (o : Option Found) → option_map (λ (g : Found). record g { left = l ∷ g.left }) o ≡ Some f → ((g : Found) → o ≡ Some g → Takes areas n g)
        → Takes (l ∷ areas) n f
    found_later None is rest = absurd cc
    found_later (Some g) is rest =
        let same : record g { left = l ∷ g.left } ≡ f = cc in
        subst (λ h. Takes (l ∷ areas) n h) same (takes_later l areas n g (rest g refl))

    by_cases : (t : Bool) → nat_le (round8 l.mark + n) l.end ≡ t
        → (if t then Some (record { address = round8 l.mark; left = record l { mark = round8 l.mark + n } ∷ areas }) else option_map (λ (g : Found). record g { left = l ∷ g.left }) (found areas n)) ≡ Some f
        → ((g : Found) → found areas n ≡ Some g → Takes areas n g) → Takes (l ∷ areas) n f
    by_cases true room is rest =
        let same : record { address = round8 l.mark; left = record l { mark = round8 l.mark + n } ∷ areas } ≡ f = cc in
        subst (λ h. Takes (l ∷ areas) n h) same (takes_first l areas n (grind (arith, room)))
    by_cases false room is rest = found_later (found areas n) is rest

-- ---- all sections

pub record Stand (areas : List Left) (sections : List SymbolItem) (addresses : List ℕ) : Type 0 where
  pub each : length addresses ≡ length sections
  pub room : (a : ℕ) → count_by (has a) (extents_at addresses sections) ≤ count_by (is_free a) areas
  pub low : AllEndLow areas → All EndsLow (extents_at addresses sections)

low_first : (x : Extent) (xs : List Extent) → EndsLow x → All EndsLow xs → All EndsLow (x ∷ xs)
low_first x xs first rest zero d within = first
low_first x xs first rest (suc k) d within = rest k d (omega (arith, within))

low_none : All EndsLow []
low_none k d within = absurd (omega (arith, within))

stand_with : (areas : List Left) (x : SymbolItem) (sections : List SymbolItem) (f : Found) (rest : List ℕ) → found areas x.length ≡ Some f
    → Stand f.left sections rest → Stand areas (x ∷ sections) (f.address ∷ rest)
stand_with areas x sections f rest at later =
    let taken : Takes areas x.length f = takes areas x.length f at in
    record {
      each = ap suc later.each;
      room = λ a. rw (held_first a (record { at = f.address; count = x.length }) (extents_at rest sections)) (omega (arith, taken.room a, later.room a));
      low = λ below. low_first (record { at = f.address; count = x.length }) (extents_at rest sections) (taken.low below) (later.low (taken.left_low below));
    }

stand : (areas : List Left) (sections : List SymbolItem) (addresses : List ℕ) → scattered areas (map (λ x. x.length) sections) ≡ Some addresses
    → Stand areas sections addresses
unfolding scattered
stand areas [] addresses is =
    let none : [] ≡ addresses = cc in
    subst (λ ns. Stand areas [] ns) none (record { each = refl; room = λ a. omega arith; low = λ below. low_none })
stand areas (x ∷ sections) addresses is = by_found (found areas x.length) refl is (λ f rest some. stand f.left sections rest some)
  where
    by_rest : (f : Found) → found areas x.length ≡ Some f → (o : Option (List ℕ))
        → option_map (λ rest. f.address ∷ rest) o ≡ Some addresses → ((rest : List ℕ) → o ≡ Some rest → Stand f.left sections rest) → Stand areas (x ∷ sections) addresses
    by_rest f at None is later = absurd cc
    by_rest f at (Some rest) is later =
        let same : f.address ∷ rest ≡ addresses = cc in
        subst (λ ns. Stand areas (x ∷ sections) ns) same (stand_with areas x sections f rest at (later rest refl))

    by_found : (o : Option Found) → found areas x.length ≡ o
        → option_and_then (λ f. option_map (λ rest. f.address ∷ rest) (scattered f.left (map (λ y. y.length) sections))) o ≡ Some addresses
        → ((f : Found) (rest : List ℕ) → scattered f.left (map (λ y. y.length) sections) ≡ Some rest → Stand f.left sections rest)
        → Stand areas (x ∷ sections) addresses
    by_found None at is later = absurd cc
    by_found (Some f) at is later = by_rest f at (scattered f.left (map (λ y. y.length) sections)) is (λ rest some. later f rest some)

-- ---- areas in order

record FreeOnce (low : ℕ) (areas : List Area) (a : ℕ) : Type 0 where
  pub once : count_by (is_free a) (left_of areas) ≤ 1
  pub before : a < low → count_by (is_free a) (left_of areas) ≡ 0

free_once : (low : ℕ) (areas : List Area) → AreInOrder low areas → (a : ℕ) → FreeOnce low areas a
free_once low [] order a = record { once = omega arith; before = λ h. refl }
free_once low (x ∷ areas) order a = by_cases (is_free a (whole_area x)) refl (free_once x.to areas order.3 a)
  where
    by_cases : (t : Bool) → is_free a (whole_area x) ≡ t → FreeOnce x.to areas a → FreeOnce low (x ∷ areas) a
    by_cases true is rest =
        let from : x.from ≤ a = grind (arith, is) in
        let to : a < x.to = grind (arith, is) in
        let none : count_by (is_free a) (left_of areas) ≡ 0 = rest.before to in
        let all : count_by (is_free a) (left_of (x ∷ areas)) ≡ 1 = free_first a (whole_area x) (left_of areas) ∙ rw (is, none) refl in
        record { once = omega (arith, all); before = λ h. absurd (omega (arith, h, from, order.0)) }
    by_cases false is rest =
        let all : count_by (is_free a) (left_of (x ∷ areas)) ≡ count_by (is_free a) (left_of areas) = free_first a (whole_area x) (left_of areas) ∙ rw is (omega arith) in
        record { once = rw all rest.once; before = λ h. all ∙ rest.before (omega (arith, h, order.0, order.1)) }

all_low : (low : ℕ) (areas : List Area) → AreInOrder low areas → AllEndLow (left_of areas)
all_low low [] order = tt
all_low low (x ∷ areas) order = (below x.to order.2, all_low x.to areas order.3)
  where
    below : (n : ℕ) → n < 2 ^ 24 → n ≤ 16777215
    below n h = omega (arith, h)

pub placed_fit : (areas : List Area) (symbols : List SymbolItem) (p : Placement) → IsOver areas symbols p → AreInOrder 0 areas → Fits p symbols
placed_fit areas symbols (Block at size) is order = absurd is
placed_fit areas symbols (Scattered addresses) is order =
    let all : Stand (left_of areas) (sections_of symbols) addresses = stand (left_of areas) (sections_of symbols) addresses is in
    record {
      each = all.each;
      low = all.low (all_low 0 areas order);
      apart = λ a. omega (arith, all.room a, (free_once 0 areas order a).once);
    }
