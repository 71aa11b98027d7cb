-- Which symbol item a number of a part, a label or an unresolved name leads to.
use Rattle.std.proofs.Common.{arith, ◌≡◌, ◌⊎◌, inl, inr, ℕ, zero, suc, ◌+◌, ◌-◌, ◌<◌, Bool, true, false, not, cond, if◌then◌else◌, List, [], ◌∷◌, ◌++◌, map, length, refl, sym, ◌∙◌, ap, one-add, append_assoc, Option, Some, None, slice_get, unwrap_or, eqb-true}
use Rattle.std.specs.Option.{option_map, option_map_or}
use Rattle.std.specs.List.{position_or_len, enumerate_from}
use Rattle.std.proofs.lemmas.Bool.{false≢true, lt-ltb, ne_eqb, eq-eqb}
use Rattle.std.proofs.lemmas.Option.{slice_get-map, none-some}
use Rattle.sym_mod.specs.declared.program.SecKind.{SecKind}
use Rattle.sym_mod.specs.declared.program.SecKind.TheVariants.{Sd, Pc, Cm}
use Rattle.sym_mod.specs.declared.program.Label.{Label}
use Rattle.sym_mod.specs.declared.program.Unknown.{Unknown}
use Rattle.load_recs.specs.declared.items.SymbolItem.{SymbolItem}
use Rattle.load_recs.specs.declared.items.SymbolKind.TheVariants as item
use Rattle.linking_model.specs.Places.{Laid}
use Rattle.load_recs.specs.Kinds.{is_outside_kind}
use Rattle.member_model.specs.Symbols.{symbol_at, is_outside, section_of, section_as, address_in_module}
use Rattle.member_model.specs.Parts.{Part, SegmentTable, OneSection, EntryTable, parts, part_eq, part_kind, part_place, part_number}
use Rattle.member_model.specs.SymbolList.{symbols_written, symbol_kind, part_symbol, label_symbol, unresolved_symbol, register_symbol}
use Rattle.member_laws.proofs.LoadingLists.{Among}

-- ---- parts and their numbers

pub same_part : (x : Part) → part_eq x x ≡ true
same_part SegmentTable = refl
same_part (OneSection i) = eq-eqb i i refl
same_part (EntryTable s) = eq-eqb s s refl

pub part_is : (x y : Part) → part_eq x y ≡ true → y ≡ x
part_is SegmentTable SegmentTable same = refl
part_is SegmentTable (OneSection j) same = absurd (false≢true same)
part_is SegmentTable (EntryTable t) same = absurd (false≢true same)
part_is (OneSection i) SegmentTable same = absurd (false≢true same)
part_is (OneSection i) (OneSection j) same = ap (λ k. OneSection k) (sym (eqb-true i j same))
part_is (OneSection i) (EntryTable t) same = absurd (false≢true same)
part_is (EntryTable s) SegmentTable same = absurd (false≢true same)
part_is (EntryTable s) (OneSection j) same = absurd (false≢true same)
part_is (EntryTable s) (EntryTable t) same = ap (λ k. EntryTable k) (sym (eqb-true s t same))

-- where a part stands in a list
record StandsIn (xs : List Part) (x : Part) (k : ℕ) : Type 0 where
  pub below : k < length xs
  pub there : slice_get xs k ≡ Some x

place_in : (x : Part) (xs : List Part) → Among x xs → StandsIn xs x (position_or_len (part_eq x) xs)
place_in x [] among = absurd among
place_in x (y ∷ ys) among = by_cases (part_eq x y) refl among (place_in x ys)
  where
    by_cases : (b : Bool) → part_eq x y ≡ b → (y ≡ x) ⊎ Among x ys → (Among x ys → StandsIn ys x (position_or_len (part_eq x) ys))
        → StandsIn (y ∷ ys) x (cond (not b) (1 + position_or_len (part_eq x) ys) 0)
    by_cases true same among later = record { below = omega arith; there = ap (λ z. Some z) (part_is x y same) }
    by_cases false other (inl is) later = absurd (false≢true (sym other ∙ (ap (part_eq x) is ∙ same_part x)))
    by_cases false other (inr among) later =
        let rest : StandsIn ys x (position_or_len (part_eq x) ys) = later among in
        record {
          below = omega (arith, rest.below);
          there = ap (λ k. slice_get (y ∷ ys) k) (one-add (position_or_len (part_eq x) ys)) ∙ rest.there;
        }

-- the number of a part, from 1, and the part at that place
pub record HasNumber (P : Laid) (x : Part) : Type 0 where
  pub place : ℕ
  pub number : part_number P x ≡ place + 1
  pub there : slice_get (parts P) place ≡ Some x

pub has_number : (P : Laid) (x : Part) → Among x (parts P) → HasNumber P x
has_number P x among =
    let stands : StandsIn (parts P) x (position_or_len (part_eq x) (parts P)) = place_in x (parts P) among in
    record {
      place = position_or_len (part_eq x) (parts P);
      number =
          ap (λ b. unwrap_or (option_map (λ k. k + 1) (cond b (Some (position_or_len (part_eq x) (parts P))) None)) 0)
          (lt-ltb (position_or_len (part_eq x) (parts P)) (length (parts P)) stands.below);
      there = stands.there;
    }

-- different parts have different numbers
pub numbers_differ : (P : Laid) (x y : Part) → Among x (parts P) → Among y (parts P) → part_number P x ≡ part_number P y → x ≡ y
numbers_differ P x y first second same =
    let one : HasNumber P x = has_number P x first in
    let other : HasNumber P y = has_number P y second in
    let places : one.place ≡ other.place = omega (arith, same, one.number, other.number) in
    is (slice_get (parts P) one.place) x y one.there (ap (slice_get (parts P)) places ∙ other.there)
  where
    is : (o : Option Part) (x y : Part) → o ≡ Some x → o ≡ Some y → x ≡ y
    is o x y first second = cc

-- ---- the items

slice_front : {X : Type 0} (xs ys : List X) (k : ℕ) (x : X) → slice_get xs k ≡ Some x → slice_get (xs ++ ys) k ≡ Some x
slice_front [] ys k x there = absurd (none-some x there)
slice_front (y ∷ xs) ys zero x there = there
slice_front (y ∷ xs) ys (suc k) x there = slice_front xs ys k x there

slice_behind : {X : Type 0} (xs ys : List X) (n k : ℕ) → n ≡ length xs → slice_get (xs ++ ys) (n + k) ≡ slice_get ys k
slice_behind [] ys n k size = ap (slice_get ys) (omega (arith, size))
slice_behind (y ∷ xs) ys zero k size = absurd (omega (arith, size))
slice_behind (y ∷ xs) ys (suc n) k size =
    ap (slice_get (y ∷ (xs ++ ys))) (moved n k) ∙ slice_behind xs ys n k (omega (arith, size))
  where
    moved : (n k : ℕ) → suc n + k ≡ suc (n + k)
    moved n k = omega arith

at_number : (symbols : List SymbolItem) (n k : ℕ) → n ≡ k + 1 → symbol_at symbols n ≡ slice_get symbols k
at_number symbols n k is =
    ap (λ b. if b then None else slice_get symbols (n - 1)) (ne_eqb n 0 (λ none. omega (arith, none, is)))
    ∙ ap (slice_get symbols) (omega (arith, is))

-- the items behind those of labels, and behind those of parts
abbrev pub after_labels : Laid → List SymbolItem
after_labels P =
    map unresolved_symbol P.program.unresolved ++ map (register_symbol P.program.registers) (enumerate_from 0 P.program.registers)

abbrev pub after_parts : Laid → List SymbolItem
after_parts P = map (label_symbol P) P.program.labels ++ after_labels P

pub symbols_are : (P : Laid) → symbols_written P ≡ map (part_symbol P) (parts P) ++ after_parts P
unfolding symbols_written
symbols_are P =
    append_assoc (map (part_symbol P) (parts P) ++ map (label_symbol P) P.program.labels) (map unresolved_symbol P.program.unresolved)
    (map (register_symbol P.program.registers) (enumerate_from 0 P.program.registers))
    ∙ append_assoc (map (part_symbol P) (parts P)) (map (label_symbol P) P.program.labels) (after_labels P)

-- the item of a part
pub item_of_part : (P : Laid) (x : Part) → Among x (parts P) → symbol_at (symbols_written P) (part_number P x) ≡ Some (part_symbol P x)
item_of_part P x among =
    let it : HasNumber P x = has_number P x among in
    at_number (symbols_written P) (part_number P x) it.place it.number
    ∙ (ap (λ symbols. slice_get symbols it.place) (symbols_are P)
    ∙ slice_front (map (part_symbol P) (parts P)) (after_parts P) it.place (part_symbol P x)
    (slice_get-map (part_symbol P) (parts P) it.place ∙ ap (option_map (part_symbol P)) it.there))

pub length_mapped : {X Y : Type 0} (f : X → Y) (xs : List X) → length xs ≡ length (map f xs)
length_mapped f [] = refl
length_mapped f (x ∷ xs) = ap (λ n. suc n) (length_mapped f xs)

-- the item of a label
pub item_of_label : (P : Laid) (i : ℕ) (x : Label) → slice_get P.program.labels i ≡ Some x
    → symbol_at (symbols_written P) (length (parts P) + i + 1) ≡ Some (label_symbol P x)
item_of_label P i x there =
    at_number (symbols_written P) (length (parts P) + i + 1) (length (parts P) + i) refl
    ∙ (ap (λ symbols. slice_get symbols (length (parts P) + i)) (symbols_are P)
    ∙ (slice_behind (map (part_symbol P) (parts P)) (after_parts P) (length (parts P)) i (length_mapped (part_symbol P) (parts P))
    ∙ slice_front (map (label_symbol P) P.program.labels) (after_labels P) i (label_symbol P x)
    (slice_get-map (label_symbol P) P.program.labels i ∙ ap (option_map (label_symbol P)) there)))

-- the item of an unresolved name
pub item_of_unresolved : (P : Laid) (i : ℕ) (x : Unknown) → slice_get P.program.unresolved i ≡ Some x
    → symbol_at (symbols_written P) (length (parts P) + length P.program.labels + i + 1) ≡ Some (unresolved_symbol x)
item_of_unresolved P i x there =
    at_number (symbols_written P) (length (parts P) + length P.program.labels + i + 1) (length (parts P) + (length P.program.labels + i))
    (regroup (length (parts P)) (length P.program.labels) i)
    ∙ (ap (λ symbols. slice_get symbols (length (parts P) + (length P.program.labels + i))) (symbols_are P)
    ∙ (slice_behind (map (part_symbol P) (parts P)) (after_parts P) (length (parts P)) (length P.program.labels + i)
    (length_mapped (part_symbol P) (parts P))
    ∙ (slice_behind (map (label_symbol P) P.program.labels) (after_labels P) (length P.program.labels) i
    (length_mapped (label_symbol P) P.program.labels)
    ∙ slice_front (map unresolved_symbol P.program.unresolved)
    (map (register_symbol P.program.registers) (enumerate_from 0 P.program.registers)) i (unresolved_symbol x)
    (slice_get-map unresolved_symbol P.program.unresolved i ∙ ap (option_map unresolved_symbol) there))))
  where
    regroup : (a b c : ℕ) → a + b + c + 1 ≡ a + (b + c) + 1
    regroup a b c = omega arith

-- ---- what the items say

section_is_inside : (kind : SecKind) → is_outside_kind (symbol_kind kind) ≡ false
section_is_inside Sd = refl
section_is_inside Pc = refl
section_is_inside Cm = refl

section_is_its_own : (kind : SecKind) (n owner : ℕ) → section_as n owner (symbol_kind kind) ≡ n
section_is_its_own Sd n owner = refl
section_is_its_own Pc n owner = refl
section_is_its_own Cm n owner = refl

unresolved_is_outside : (weak : Bool) → is_outside_kind (if weak then item.Wx else item.Er) ≡ true
unresolved_is_outside true = refl
unresolved_is_outside false = refl

-- the item of this number is defined, in the section of that number
pub record IsDefinedIn (symbols : List SymbolItem) (r n : ℕ) : Type 0 where
  pub inside : is_outside (symbol_at symbols r) ≡ false
  pub section : section_of symbols r ≡ n

pub part_is_defined : (P : Laid) (x : Part) → Among x (parts P) → IsDefinedIn (symbols_written P) (part_number P x) (part_number P x)
part_is_defined P x among = record {
  inside = ap is_outside (item_of_part P x among) ∙ section_is_inside (part_kind P x);
  section =
      ap (λ o. option_map_or (λ y. section_as (part_number P x) y.length y.kind) o (part_number P x)) (item_of_part P x among)
      ∙ section_is_its_own (part_kind P x) (part_number P x) (part_symbol P x).length;
}

pub label_is_defined : (P : Laid) (i : ℕ) (x : Label) → slice_get P.program.labels i ≡ Some x
    → IsDefinedIn (symbols_written P) (length (parts P) + i + 1) (part_number P (OneSection x.section))
label_is_defined P i x there = record {
  inside = ap is_outside (item_of_label P i x there);
  section =
      ap (λ o. option_map_or (λ y. section_as (length (parts P) + i + 1) y.length y.kind) o (length (parts P) + i + 1)) (item_of_label P i x there);
}

pub unresolved_is_not : (P : Laid) (i : ℕ) (x : Unknown) → slice_get P.program.unresolved i ≡ Some x
    → is_outside (symbol_at (symbols_written P) (length (parts P) + length P.program.labels + i + 1)) ≡ true
unresolved_is_not P i x there = ap is_outside (item_of_unresolved P i x there) ∙ unresolved_is_outside x.weak

-- the address of a part
pub address_of_part : (P : Laid) (x : Part) → Among x (parts P) → address_in_module (symbols_written P) (part_number P x) ≡ part_place P x
address_of_part P x among = ap (λ o. option_map_or (λ y. y.address) o 0) (item_of_part P x among)
