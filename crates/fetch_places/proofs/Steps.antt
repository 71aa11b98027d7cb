-- Sections placed one after the other.
use Rattle.std.proofs.Common.{arith, ◌≡◌, ℕ, ◌+◌, ◌<◌, ◌≤◌, Bool, true, false, List, [], ◌∷◌, ◌++◌, map, drop, length, get_or, refl, sym, ◌∙◌, ap, subst, append_assoc, append-nil, Option, Some, None, Result, Ok, Err}
use Rattle.std.specs.Option.{option_map, option_and_then, option_map_or}
use Rattle.load_recs.specs.declared.items.SymbolItem.{SymbolItem}
use Rattle.linking_model.specs.Scattered.{Area as Left, Found, found, scattered}
use Rattle.member_model.specs.Symbols.{is_section, printed_name}
use Rattle.member_model.specs.Placing.{addresses_over, homeless, sections_of}
use Rattle.std.proofs.lemmas.Grind.{common_steps}
use Rattle.fetch_places.specs.declared.placement.Area.{Area}
use Rattle.fetch_places.specs.Over.{left_of}
use Rattle.fetch_places.specs.Room.{TakesRoom}

-- some sections of the items have addresses, and the rest are still to come, over what is left of the areas
pub record IsPlacing (areas left : List Left) (items rest : List SymbolItem) (addresses : List ℕ) : Type 0 where
  pub over : addresses_over areas items ≡ option_map (λ more. addresses ++ more) (addresses_over left rest)
  pub names : homeless areas (sections_of items) ≡ homeless left (sections_of rest)

none_before : (o : Option (List ℕ)) → o ≡ option_map (λ more. [] ++ more) o
none_before None = refl
none_before (Some xs) = refl

pub begins : (areas : List Left) (items : List SymbolItem) → IsPlacing areas areas items items []
begins areas items = record { over = none_before (addresses_over areas items); names = refl }

pub skips : (areas left : List Left) (items rest : List SymbolItem) (addresses : List ℕ) (x : SymbolItem) → is_section x ≡ false
    → IsPlacing areas left items (x ∷ rest) addresses → IsPlacing areas left items rest addresses
skips areas left items rest addresses x other so_far = record { over = rw other at so_far.over; names = rw other at so_far.names }

one_before : (before : List ℕ) (a : ℕ) (o : Option (List ℕ))
    → option_map (λ more. before ++ more) (option_map (λ rest. a ∷ rest) o) ≡ option_map (λ more. (before ++ a ∷ []) ++ more) o
one_before before a None = refl
one_before before a (Some xs) = ap (λ ys. Some ys) (sym (append_assoc before (a ∷ []) xs))

first_over : (left : List Left) (n : ℕ) (lengths : List ℕ) (f : Found) → found left n ≡ Some f
    → scattered left (n ∷ lengths) ≡ option_map (λ rest. f.address ∷ rest) (scattered f.left lengths)
unfolding scattered
first_over left n lengths f is = rw is refl

first_name : (left : List Left) (x : SymbolItem) (xs : List SymbolItem) (f : Found) → found left x.length ≡ Some f
    → homeless left (x ∷ xs) ≡ homeless f.left xs
unfolding homeless
first_name left x xs f is = rw is refl

no_home : (left : List Left) (x : SymbolItem) (xs : List SymbolItem) → found left x.length ≡ None → homeless left (x ∷ xs) ≡ Some (printed_name x)
unfolding homeless
no_home left x xs is = rw is refl

pub places : (areas left : List Left) (items rest : List SymbolItem) (addresses : List ℕ) (x : SymbolItem) (f : Found) → is_section x ≡ true
    → found left x.length ≡ Some f → IsPlacing areas left items (x ∷ rest) addresses
    → IsPlacing areas f.left items rest (addresses ++ f.address ∷ [])
places areas left items rest addresses x f section is so_far =
    let over : addresses_over areas items ≡ option_map (λ more. addresses ++ more) (scattered left (x.length ∷ map (λ y. y.length) (sections_of rest))) = rw section at so_far.over in
    let names : homeless areas (sections_of items) ≡ homeless left (x ∷ sections_of rest) = rw section at so_far.names in
    record {
      over = over ∙ (ap (option_map (λ more. addresses ++ more)) (first_over left x.length (map (λ y. y.length) (sections_of rest)) f is)
          ∙ one_before addresses f.address (addresses_over f.left rest));
      names = names ∙ first_name left x (sections_of rest) f is;
    }

pub finds_no_room : (areas left : List Left) (items rest : List SymbolItem) (addresses : List ℕ) (x : SymbolItem) → is_section x ≡ true
    → found left x.length ≡ None → IsPlacing areas left items (x ∷ rest) addresses → homeless areas (sections_of items) ≡ Some (printed_name x)
finds_no_room areas left items rest addresses x section is so_far =
    let names : homeless areas (sections_of items) ≡ homeless left (x ∷ sections_of rest) = rw section at so_far.names in
    names ∙ no_home left x (sections_of rest) is

nothing_over : (left : List Left) → scattered left [] ≡ Some []
unfolding scattered
nothing_over left = refl

pub all_placed : (areas left : List Left) (items : List SymbolItem) (addresses : List ℕ) → IsPlacing areas left items [] addresses
    → addresses_over areas items ≡ Some addresses
all_placed areas left items addresses so_far =
    so_far.over ∙ (ap (option_map (λ more. addresses ++ more)) (nothing_over left) ∙ ap (λ ys. Some ys) (append-nil addresses))

-- ---- by places of the items

rest_front : (items : List SymbolItem) (i : ℕ) (d : SymbolItem) → i < length items → drop i items ≡ get_or items i d ∷ drop (i + 1) items
rest_front items i d within = grind (arith, common_steps)

pub rest_empty : (items : List SymbolItem) (i : ℕ) → length items ≤ i → drop i items ≡ []
rest_empty items i past = grind (arith, common_steps)

abbrev pub IsPlacingFrom : List Left → List Left → List SymbolItem → ℕ → List ℕ → Type 0
IsPlacingFrom areas left items i addresses = IsPlacing areas left items (drop i items) addresses

pub skips_at : (areas left : List Left) (items : List SymbolItem) (i : ℕ) (d : SymbolItem) (addresses : List ℕ) → i < length items
    → is_section (get_or items i d) ≡ false → IsPlacingFrom areas left items i addresses → IsPlacingFrom areas left items (i + 1) addresses
skips_at areas left items i d addresses within other so_far =
    skips areas left items (drop (i + 1) items) addresses (get_or items i d) other
    (subst (λ rest. IsPlacing areas left items rest addresses) (rest_front items i d within) so_far)

pub places_at : (areas : List Left) (items : List SymbolItem) (i : ℕ) (d : SymbolItem) (left lent after : List Area) (addresses : List ℕ) (address : ℕ) → i < length items
    → is_section (get_or items i d) ≡ true → lent ≡ left → TakesRoom lent (get_or items i d).length after (Some address)
    → IsPlacingFrom areas (left_of left) items i addresses → IsPlacingFrom areas (left_of after) items (i + 1) (addresses ++ address ∷ [])
places_at areas items i d left lent after addresses address within section same takes so_far =
    places areas (left_of left) items (drop (i + 1) items) addresses (get_or items i d) (record { address = address; left = left_of after }) section
    (subst (λ xs. found (left_of xs) (get_or items i d).length ≡ Some (record { address = address; left = left_of after })) same takes)
    (subst (λ rest. IsPlacing areas (left_of left) items rest addresses) (rest_front items i d within) so_far)

pub finds_no_room_at : (areas : List Left) (items : List SymbolItem) (i : ℕ) (d : SymbolItem) (left lent after : List Area) (addresses : List ℕ) → i < length items
    → is_section (get_or items i d) ≡ true → lent ≡ left → TakesRoom lent (get_or items i d).length after None
    → IsPlacingFrom areas (left_of left) items i addresses → homeless areas (sections_of items) ≡ Some (printed_name (get_or items i d))
finds_no_room_at areas items i d left lent after addresses within section same takes so_far =
    finds_no_room areas (left_of left) items (drop (i + 1) items) addresses (get_or items i d) section
    (subst (λ xs. found (left_of xs) (get_or items i d).length ≡ None) same takes)
    (subst (λ rest. IsPlacing areas (left_of left) items rest addresses) (rest_front items i d within) so_far)

pub all_placed_at : (areas left : List Left) (items : List SymbolItem) (i : ℕ) (addresses : List ℕ) → length items ≤ i
    → IsPlacingFrom areas left items i addresses → addresses_over areas items ≡ Some addresses
all_placed_at areas left items i addresses past so_far =
    all_placed areas left items addresses (subst (λ rest. IsPlacing areas left items rest addresses) (rest_empty items i past) so_far)
