-- One item after the other.
use Rattle.std.proofs.Common.{arith, ◌≡◌, ℕ, zero, suc, ◌+◌, ◌<◌, ◌≤◌, Bool, true, false, if◌then◌else◌, ◌-◌, List, [], ◌∷◌, ◌++◌, length, map, fold, take, drop, get_or, refl, sym, ◌∙◌, ap, subst}
use Rattle.std.specs.List.{enumerate_from, zip}
use Rattle.std.specs.Global.{Vec}
use Rattle.std.proofs.lemmas.Grind.{common_steps}
use Rattle.std.proofs.lemmas.List.{map-append}
use Rattle.load_recs.specs.declared.items.SymbolItem.{SymbolItem}
use Rattle.load_recs.specs.declared.items.RldItem.{RldItem}
use Rattle.member_model.specs.Symbols.{field_length}
use Rattle.member_model.specs.Loaded.{is_shifted}
use Rattle.text_store.specs.Content.{section_of, LieInContent}
use Rattle.fetch_storage.specs.Kept.{Kept, LieInPart, with_shift, with_field, with_fields, FieldsLie, parts_at, part_at}
use Rattle.fetch_storage.specs.Homes.{home_at}
use Rattle.fetch_storage.specs.Shifts.{shift_of}
use Rattle.fetch_storage.proofs.Adding.{length_big}
use Rattle.fetch_storage.proofs.Laying.{lengths_after}
use Rattle.fetch_storage.proofs.Standing.{numbered_more}

-- ---- shifts

pub shift_more : (kept : Kept) (items : List SymbolItem) (i : ℕ) (d : SymbolItem) (before : List ℕ) (new : ℕ) → i < length items
    → before ≡ map (λ (n, x). shift_of kept n x) (enumerate_from 1 (take i items)) → new ≡ shift_of kept (i + 1) (get_or items i d)
    → before ++ new ∷ [] ≡ map (λ (n, x). shift_of kept n x) (enumerate_from 1 (take (i + 1) items))
shift_more kept items i d before new within so_far is =
    rw (so_far, is)
    (sym (ap (map (λ (n, x). shift_of kept n x)) (numbered_more items i d within)
    ∙ map-append (λ (n, x). shift_of kept n x) (enumerate_from 1 (take i items)) ((i + 1, get_or items i d) ∷ [])))

-- ---- fields

-- as long parts at the same homes
record SameSizes (old new : Kept) : Type 0 where
  pub homes : new.homes ≡ old.homes
  pub sizes : map length new.content ≡ map length old.content

same_part : (old new : List (List ℕ)) (i k : ℕ) → map length new ≡ map length old → i < length old → k ≤ length (section_of old i)
    → (i < length new) × (k ≤ length (section_of new i))
same_part [] new i k same there inside = absurd (omega (arith, there))
same_part (x ∷ old) [] i k same there inside = absurd cc
same_part (x ∷ old) (y ∷ new) zero k same there inside = let first : length y ≡ length x = cc in (omega arith, omega (arith, first, inside))
same_part (x ∷ old) (y ∷ new) (suc i) k same there inside =
    let rest : map length new ≡ map length old = cc in
    let later : (i < length new) × (k ≤ length (section_of new i)) = same_part old new i k rest (omega (arith, there)) inside in
    (omega (arith, later.0), later.1)

lie_still : (old new : Kept) (s a n : ℕ) → SameSizes old new → LieInPart old s a n → LieInPart new s a n
lie_still old new s a n same lie =
    let there = same_part old.content new.content (home_at old.homes s).part (a - (home_at old.homes s).base + n) same.sizes lie.inside.there lie.inside.inside in
    record {
      from = rw same.homes lie.from;
      inside = rw same.homes (record { there = there.0; inside = there.1 });
    }

fields_lie_still : (symbols : List SymbolItem) (old new : Kept) (xs : List RldItem) → SameSizes old new → FieldsLie symbols old xs → FieldsLie symbols new xs
fields_lie_still symbols old new [] same lie = tt
fields_lie_still symbols old new (x ∷ xs) same lie =
    (λ is. lie_still old new x.p x.address (field_length x) same (lie.0 is), fields_lie_still symbols old new xs same lie.1)

shift_sizes : (shifts : List ℕ) (kept : Kept) (x : RldItem) → LieInPart kept x.p x.address (field_length x) → SameSizes kept (with_shift shifts kept x)
shift_sizes shifts kept x lie = record {
  homes = refl;
  sizes =
      lengths_after kept.content (home_at kept.homes x.p).part (x.address - (home_at kept.homes x.p).base) _
      (subst (λ n. LieInContent kept.content (home_at kept.homes x.p).part (x.address - (home_at kept.homes x.p).base) n) (sym (length_big (field_length x) _)) lie.inside);
}

field_sizes : (symbols : List SymbolItem) (shifts : List ℕ) (kept : Kept) (x : RldItem) → (is_shifted symbols x ≡ true → LieInPart kept x.p x.address (field_length x))
    → SameSizes kept (with_field symbols shifts kept x)
field_sizes symbols shifts kept x lie = by_cases (is_shifted symbols x) refl
  where
    by_cases : (t : Bool) → is_shifted symbols x ≡ t → SameSizes kept (if t then with_shift shifts kept x else kept)
    by_cases true is = shift_sizes shifts kept x (lie is)
    by_cases false is = record { homes = refl; sizes = refl }

fields_front : (fields : List RldItem) (i : ℕ) (d : RldItem) → i < length fields → drop i fields ≡ get_or fields i d ∷ drop (i + 1) fields
fields_front fields i d within = grind (arith, common_steps)

pub fields_empty : (fields : List RldItem) (i : ℕ) → length fields ≤ i → drop i fields ≡ []
fields_empty fields i past = grind (arith, common_steps)

-- the rest of the fields is still to come
pub record RestIsLeft (symbols : List SymbolItem) (shifts : List ℕ) (old kept : Kept) (fields : List RldItem) (i : ℕ) : Type 0 where
  pub rest : with_fields symbols shifts kept (drop i fields) ≡ with_fields symbols shifts old fields
  pub lie : FieldsLie symbols kept (drop i fields)

pub first_lies : (symbols : List SymbolItem) (shifts : List ℕ) (old kept : Kept) (fields : List RldItem) (i : ℕ) (d : RldItem) → i < length fields
    → RestIsLeft symbols shifts old kept fields i → is_shifted symbols (get_or fields i d) ≡ true
    → LieInPart kept (get_or fields i d).p (get_or fields i d).address (field_length (get_or fields i d))
first_lies symbols shifts old kept fields i d within left is =
    let all : FieldsLie symbols kept (get_or fields i d ∷ drop (i + 1) fields) = subst (FieldsLie symbols kept) (fields_front fields i d within) left.lie in
    all.0 is

pub one_field_more : (symbols : List SymbolItem) (shifts : List ℕ) (old kept new : Kept) (fields : List RldItem) (i : ℕ) (d : RldItem) → i < length fields
    → RestIsLeft symbols shifts old kept fields i → new ≡ with_field symbols shifts kept (get_or fields i d) → RestIsLeft symbols shifts old new fields (i + 1)
unfolding with_fields
one_field_more symbols shifts old kept new fields i d within left is =
    let all : FieldsLie symbols kept (get_or fields i d ∷ drop (i + 1) fields) = subst (FieldsLie symbols kept) (fields_front fields i d within) left.lie in
    let sizes : SameSizes kept (with_field symbols shifts kept (get_or fields i d)) = field_sizes symbols shifts kept (get_or fields i d) all.0 in
    let rest : fold (with_field symbols shifts) kept (get_or fields i d ∷ drop (i + 1) fields) ≡ fold (with_field symbols shifts) old fields =
    subst (λ xs. fold (with_field symbols shifts) kept xs ≡ fold (with_field symbols shifts) old fields) (fields_front fields i d within) left.rest in
    record {
      rest = rw is rest;
      lie = rw is (fields_lie_still symbols kept (with_field symbols shifts kept (get_or fields i d)) (drop (i + 1) fields) sizes all.1);
    }

pub no_field_more : (symbols : List SymbolItem) (shifts : List ℕ) (old kept : Kept) (fields : List RldItem) (i : ℕ) → length fields ≤ i
    → RestIsLeft symbols shifts old kept fields i → kept ≡ with_fields symbols shifts old fields
unfolding with_fields
no_field_more symbols shifts old kept fields i past left =
    subst (λ xs. fold (with_field symbols shifts) kept xs ≡ fold (with_field symbols shifts) old fields) (fields_empty fields i past) left.rest

-- ---- parts

pub parts_zipped : (origins : List ℕ) (rooms : List (Vec ℕ)) → map part_at (zip origins rooms) ≡ parts_at origins (map (λ room. room.items) rooms)
parts_zipped [] rooms = refl
parts_zipped (at ∷ origins) [] = refl
parts_zipped (at ∷ origins) (room ∷ rooms) = ap (λ ps. part_at (at, room) ∷ ps) (parts_zipped origins rooms)
