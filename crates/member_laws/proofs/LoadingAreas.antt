-- Sections that are scattered over areas do not overlap.
use Rattle.std.proofs.Common.{arith, ◌≡◌, ◌⊎◌, inl, inr, ℕ, zero, suc, ◌+◌, ◌<◌, ◌≤◌, Bool, true, false, nat_le, if◌then◌else◌, List, [], ◌∷◌, length, slice_index, refl, ap, subst, Option, Some, None, option_map, option_and_then}
use Rattle.std.specs.List.{AllByRecursion as Each}
use Rattle.std.proofs.lemmas.Bool.{leb-true}
use Rattle.std.proofs.lemmas.Option.{none-some}
use Rattle.linking_model.specs.Numbers.{round8}
use Rattle.linking_model.specs.Scattered.{Area, Found, found, scattered}
use Rattle.linking_model.proofs.Sums.{round8-bound}
use Rattle.member_model.specs.StandsFor.{AreAreas}

-- ---- areas

-- what is left of areas in order, from an address on
abbrev pub Ordered : ℕ → List Area → Type 0
Ordered from [] = Unit {0}
Ordered from (x ∷ rest) = (from ≤ x.mark) × (x.mark ≤ x.end) × Ordered x.end rest

pub are_ordered : (from : ℕ) (areas : List Area) → AreAreas from areas → Ordered from areas
are_ordered from [] are = tt
are_ordered from (x ∷ rest) are = (are.0, omega (arith, are.1), are_ordered x.end rest are.2)

-- n bytes from an address on are in no area
abbrev Outside : ℕ → ℕ → List Area → Type 0
Outside at n areas = Each (λ (x : Area). (at + n ≤ x.mark) ⊎ (x.end ≤ at)) areas

-- what ends before the areas begin is outside of them
outside_before : (at n from : ℕ) (areas : List Area) → at + n ≤ from → Ordered from areas → Outside at n areas
outside_before at n from [] before ordered = tt
outside_before at n from (x ∷ rest) before ordered =
    (inl (omega (arith, ordered.0, before)), outside_before at n x.end rest (omega (arith, ordered.0, ordered.1, before)) ordered.2)

-- ---- n bytes that are found

-- found in the first area
record IsFirst (a : Area) (areas : List Area) (n : ℕ) (f : Found) : Type 0 where
  pub fits : round8 a.mark + n ≤ a.end
  pub address : round8 a.mark ≡ f.address
  pub left : record a { mark = round8 a.mark + n } ∷ areas ≡ f.left

-- or in a later one
record IsLater (a : Area) (areas : List Area) (n : ℕ) (f : Found) : Type 0 where
  pub later : Found
  pub found : found areas n ≡ Some later
  pub address : later.address ≡ f.address
  pub left : a ∷ later.left ≡ f.left

found_where : (a : Area) (areas : List Area) (n : ℕ) (f : Found) → found (a ∷ areas) n ≡ Some f → IsFirst a areas n f ⊎ IsLater a areas n f
found_where a areas n f is = by_cases (nat_le (round8 a.mark + n) a.end) refl is
  where
    first : Found
    first = record { address = round8 a.mark; left = record a { mark = round8 a.mark + n } ∷ areas }

    behind : Found → Found
    behind g = record g { left = a ∷ g.left }

    same : (g f : Found) → Some g ≡ Some f → g ≡ f
    same g f is = cc

    in_rest : (o : Option Found) → found areas n ≡ o → option_map behind o ≡ Some f → IsLater a areas n f
    in_rest None none is = absurd (none-some f is)
    in_rest (Some g) some is =
        let e : behind g ≡ f = same (behind g) f is in
        record { later = g; found = some; address = ap (λ (h : Found). h.address) e; left = ap (λ (h : Found). h.left) e }

    by_cases : (b : Bool) → nat_le (round8 a.mark + n) a.end ≡ b
        → (if b then Some first else option_map behind (found areas n)) ≡ Some f → IsFirst a areas n f ⊎ IsLater a areas n f
    by_cases true fits is =
        let e : first ≡ f = same first f is in
        inl (record {
          fits = leb-true (round8 a.mark + n) a.end fits;
          address = ap (λ (h : Found). h.address) e;
          left = ap (λ (h : Found). h.left) e;
        })
    by_cases false full is = inr (in_rest (found areas n) refl is)

-- what is found begins no earlier than the areas
found_from : (from : ℕ) (areas : List Area) (n : ℕ) (f : Found) → Ordered from areas → found areas n ≡ Some f → from ≤ f.address
found_from from [] n f ordered is = absurd (none-some f is)
found_from from (a ∷ areas) n f ordered is =
    by_cases (found_where a areas n f is) (λ g some. found_from a.end areas n g ordered.2 some)
  where
    by_cases : IsFirst a areas n f ⊎ IsLater a areas n f → ((g : Found) → found areas n ≡ Some g → a.end ≤ g.address) → from ≤ f.address
    by_cases (inl it) later = subst (λ k. from ≤ k) it.address (reach (round8-bound a.mark) ordered.0)
      where
        reach : a.mark ≤ round8 a.mark → from ≤ a.mark → from ≤ round8 a.mark
        reach up low = omega (arith, up, low)
    by_cases (inr it) later = subst (λ k. from ≤ k) it.address (reach (later it.later it.found) ordered.0 ordered.1)
      where
        reach : a.end ≤ it.later.address → from ≤ a.mark → a.mark ≤ a.end → from ≤ it.later.address
        reach up low high = omega (arith, up, low, high)

-- the areas that are left are in order
found_ordered : (from : ℕ) (areas : List Area) (n : ℕ) (f : Found) → Ordered from areas → found areas n ≡ Some f → Ordered from f.left
found_ordered from [] n f ordered is = absurd (none-some f is)
found_ordered from (a ∷ areas) n f ordered is =
    by_cases (found_where a areas n f is) (λ g some. found_ordered a.end areas n g ordered.2 some)
  where
    by_cases : IsFirst a areas n f ⊎ IsLater a areas n f → ((g : Found) → found areas n ≡ Some g → Ordered a.end g.left) → Ordered from f.left
    by_cases (inl it) later = subst (Ordered from) it.left (reach (round8-bound a.mark) ordered.0, it.fits, ordered.2)
      where
        reach : a.mark ≤ round8 a.mark → from ≤ a.mark → from ≤ round8 a.mark + n
        reach up low = omega (arith, up, low)
    by_cases (inr it) later = subst (Ordered from) it.left (ordered.0, ordered.1, later it.later it.found)

-- what is found is in none of the areas that are left
found_outside : (from : ℕ) (areas : List Area) (n : ℕ) (f : Found) → Ordered from areas → found areas n ≡ Some f → Outside f.address n f.left
found_outside from [] n f ordered is = absurd (none-some f is)
found_outside from (a ∷ areas) n f ordered is =
    by_cases (found_where a areas n f is) (λ g some. found_outside a.end areas n g ordered.2 some)
  where
    by_cases : IsFirst a areas n f ⊎ IsLater a areas n f → ((g : Found) → found areas n ≡ Some g → Outside g.address n g.left) → Outside f.address n f.left
    by_cases (inl it) later =
        subst (λ k. Outside k n f.left) it.address
        (subst (Outside (round8 a.mark) n) it.left (inl (omega arith), outside_before (round8 a.mark) n a.end areas it.fits ordered.2))
    by_cases (inr it) later =
        subst (λ k. Outside k n f.left) it.address
        (subst (Outside it.later.address n) it.left (inr (found_from a.end areas n it.later ordered.2 it.found), later it.later it.found))

-- what is in no area is apart from what is found, and in no area that is left
found_apart : (at m : ℕ) (areas : List Area) (n : ℕ) (f : Found) → Outside at m areas → found areas n ≡ Some f
    → (at + m ≤ f.address) ⊎ (f.address + n ≤ at)
found_apart at m [] n f outside is = absurd (none-some f is)
found_apart at m (a ∷ areas) n f outside is =
    by_cases (found_where a areas n f is) (λ g some. found_apart at m areas n g outside.1 some)
  where
    by_cases : IsFirst a areas n f ⊎ IsLater a areas n f → ((g : Found) → found areas n ≡ Some g → (at + m ≤ g.address) ⊎ (g.address + n ≤ at))
        → (at + m ≤ f.address) ⊎ (f.address + n ≤ at)
    by_cases (inl it) later = subst (λ k. (at + m ≤ k) ⊎ (k + n ≤ at)) it.address (side outside.0 (round8-bound a.mark) it.fits)
      where
        side : (at + m ≤ a.mark) ⊎ (a.end ≤ at) → a.mark ≤ round8 a.mark → round8 a.mark + n ≤ a.end
            → (at + m ≤ round8 a.mark) ⊎ (round8 a.mark + n ≤ at)
        side (inl before) up fits = inl (omega (arith, before, up))
        side (inr after) up fits = inr (omega (arith, after, fits))
    by_cases (inr it) later = subst (λ k. (at + m ≤ k) ⊎ (k + n ≤ at)) it.address (later it.later it.found)

still_outside : (at m : ℕ) (areas : List Area) (n : ℕ) (f : Found) → Outside at m areas → found areas n ≡ Some f → Outside at m f.left
still_outside at m [] n f outside is = absurd (none-some f is)
still_outside at m (a ∷ areas) n f outside is =
    by_cases (found_where a areas n f is) (λ g some. still_outside at m areas n g outside.1 some)
  where
    by_cases : IsFirst a areas n f ⊎ IsLater a areas n f → ((g : Found) → found areas n ≡ Some g → Outside at m g.left) → Outside at m f.left
    by_cases (inl it) later = subst (Outside at m) it.left (side outside.0 (round8-bound a.mark), outside.1)
      where
        side : (at + m ≤ a.mark) ⊎ (a.end ≤ at) → a.mark ≤ round8 a.mark → (at + m ≤ round8 a.mark + n) ⊎ (a.end ≤ at)
        side (inl before) up = inl (omega (arith, before, up))
        side (inr after) up = inr after
    by_cases (inr it) later = subst (Outside at m) it.left (outside.0, later it.later it.found)

-- ---- all sections

-- the first is found, and the others in what is left
record IsScattered (areas : List Area) (n : ℕ) (lengths addresses : List ℕ) : Type 0 where
  pub first : Found
  pub rest : List ℕ
  pub found : found areas n ≡ Some first
  pub others : scattered first.left lengths ≡ Some rest
  pub all : first.address ∷ rest ≡ addresses

is_scattered : (areas : List Area) (n : ℕ) (lengths addresses : List ℕ) → scattered areas (n ∷ lengths) ≡ Some addresses
    → IsScattered areas n lengths addresses
unfolding scattered
is_scattered areas n lengths addresses is = in_first (found areas n) refl is
  where
    same : (xs ys : List ℕ) → Some xs ≡ Some ys → xs ≡ ys
    same xs ys is = cc

    in_rest : (f : Found) → found areas n ≡ Some f → (o : Option (List ℕ)) → scattered f.left lengths ≡ o
        → option_map (λ rest. f.address ∷ rest) o ≡ Some addresses → IsScattered areas n lengths addresses
    in_rest f some None none is = absurd (none-some addresses is)
    in_rest f some (Some rest) others is =
        record { first = f; rest = rest; found = some; others = others; all = same (f.address ∷ rest) addresses is }

    in_first : (o : Option Found) → found areas n ≡ o
        → option_and_then (λ f. option_map (λ rest. f.address ∷ rest) (scattered f.left lengths)) o ≡ Some addresses
        → IsScattered areas n lengths addresses
    in_first None none is = absurd (none-some addresses is)
    in_first (Some f) some is = in_rest f some (scattered f.left lengths) refl is

-- what is in no area is apart from all sections
all_outside : (at m : ℕ) (areas : List Area) (lengths addresses : List ℕ) (j : ℕ) → Outside at m areas → scattered areas lengths ≡ Some addresses
    → j < length lengths → (at + m ≤ slice_index addresses j) ⊎ (slice_index addresses j + slice_index lengths j ≤ at)
all_outside at m areas [] addresses j outside is below = absurd (omega (arith, below))
all_outside at m areas (n ∷ lengths) addresses zero outside is below =
    let it : IsScattered areas n lengths addresses = is_scattered areas n lengths addresses is in
    subst (λ ks. (at + m ≤ slice_index ks 0) ⊎ (slice_index ks 0 + n ≤ at)) it.all (found_apart at m areas n it.first outside it.found)
all_outside at m areas (n ∷ lengths) addresses (suc j) outside is below =
    let it : IsScattered areas n lengths addresses = is_scattered areas n lengths addresses is in
    subst (λ ks. (at + m ≤ slice_index ks (suc j)) ⊎ (slice_index ks (suc j) + slice_index lengths j ≤ at)) it.all
    (all_outside at m it.first.left lengths it.rest j (still_outside at m areas n it.first outside it.found) it.others (omega (arith, below)))

-- two sections are apart
pub scattered_apart : (from : ℕ) (areas : List Area) (lengths addresses : List ℕ) (i j : ℕ) → Ordered from areas
    → scattered areas lengths ≡ Some addresses → i < j → j < length lengths
    → (slice_index addresses i + slice_index lengths i ≤ slice_index addresses j)
    ⊎ (slice_index addresses j + slice_index lengths j ≤ slice_index addresses i)
scattered_apart from areas [] addresses i j ordered is before below = absurd (omega (arith, below))
scattered_apart from areas (n ∷ lengths) addresses i zero ordered is before below = absurd (omega (arith, before))
scattered_apart from areas (n ∷ lengths) addresses zero (suc j) ordered is before below =
    let it : IsScattered areas n lengths addresses = is_scattered areas n lengths addresses is in
    subst (λ ks. (slice_index ks 0 + n ≤ slice_index ks (suc j)) ⊎ (slice_index ks (suc j) + slice_index lengths j ≤ slice_index ks 0)) it.all
    (all_outside it.first.address n it.first.left lengths it.rest j (found_outside from areas n it.first ordered it.found) it.others (omega (arith, below)))
scattered_apart from areas (n ∷ lengths) addresses (suc i) (suc j) ordered is before below =
    let it : IsScattered areas n lengths addresses = is_scattered areas n lengths addresses is in
    subst (λ ks. (slice_index ks (suc i) + slice_index lengths i ≤ slice_index ks (suc j)) ⊎ (slice_index ks (suc j) + slice_index lengths j ≤ slice_index ks (suc i)))
    it.all
    (scattered_apart from it.first.left lengths it.rest i j (found_ordered from areas n it.first ordered it.found) it.others
    (omega (arith, before)) (omega (arith, below)))
