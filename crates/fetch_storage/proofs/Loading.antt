-- Parts with all text laid and all shifts added hold what is loaded.
use Rattle.std.proofs.Common.{arith, ◌≡◌, ℕ, Bool, true, false, List, [], ◌∷◌, fold, filter, find, refl, sym, ◌∙◌, ap, Option, Some, None}
use Rattle.load_recs.specs.declared.items.SymbolItem.{SymbolItem}
use Rattle.load_recs.specs.declared.items.RldItem.{RldItem}
use Rattle.linking_model.specs.Run.{Storage}
use Rattle.member_model.specs.Facts.{Facts}
use Rattle.member_model.specs.Symbols.{field_length, same_field}
use Rattle.member_model.specs.Loaded.{Addresses, field_place, is_shifted, shift, items_in, shifts_of, covers, loaded, loaded_byte, text_storage}
use Rattle.fetch_places.specs.declared.extent.Extent.{Extent}
use Rattle.fetch_places.specs.declared.placement.Placement.{Placement}
use Rattle.fetch_places.specs.Addresses.{addresses_by, extents_by}
use Rattle.fetch_places.specs.Extents.{Fits}
use Rattle.fetch_storage.specs.Held.{bytes_in, Sized, holding}
use Rattle.fetch_storage.specs.Kept.{Kept, with_fields, FieldsLie}
use Rattle.fetch_storage.specs.Shifts.{shifts_by}
use Rattle.fetch_storage.specs.Sound.{Suits, SectionsApart, SoundField, NoneShares, AllSound}
use Rattle.fetch_storage.proofs.Adding.{byte_with, with_one, AllFit, FitTogether, IsOnePlace, all_added, same_map}
use Rattle.fetch_storage.proofs.Holding.{same_held}
use Rattle.fetch_storage.proofs.Standing.{lies}
use Rattle.fetch_storage.proofs.Laying.{AllInSection, fields_hold}
use Rattle.fetch_storage.proofs.Relocating.{adds_as, fields_fit}

-- ---- one place of a field

fields_at_one_place : (F : Facts) (q : Addresses) → IsOnePlace (field_place F q) field_length (shift F q) same_field
fields_at_one_place F q = record { self = λ x. self x; both = λ x y. both x y; all = λ x y z same. all x y z same }
  where
    self : (x : RldItem) → same_field x x ≡ true
    self x = grind arith

    both : (x y : RldItem) → same_field x y ≡ same_field y x
    both x y = grind arith

    all : (x y z : RldItem) → same_field x y ≡ true → same_field y z ≡ same_field x z
    all x y z same = grind (arith, same)

-- ---- the shifted fields fit together

fit_filtered : (F : Facts) (p : Placement) (x : RldItem) (xs : List RldItem) → Fits p F.symbols → Suits F.symbols p → SectionsApart F.symbols
    → SoundField F.symbols x → NoneShares x xs → AllSound F.symbols xs
    → AllFit (field_place F (addresses_by F.symbols p)) field_length (shift F (addresses_by F.symbols p)) same_field x (filter (is_shifted F.symbols) xs)
fit_filtered F p x [] fits suits apart sound none all = tt
fit_filtered F p x (y ∷ xs) fits suits apart sound none all =
    by_cases (is_shifted F.symbols y) refl (fit_filtered F p x xs fits suits apart sound none.1 all.2)
  where
    by_cases : (t : Bool) → is_shifted F.symbols y ≡ t
        → AllFit (field_place F (addresses_by F.symbols p)) field_length (shift F (addresses_by F.symbols p)) same_field x (filter (is_shifted F.symbols) xs)
        → AllFit (field_place F (addresses_by F.symbols p)) field_length (shift F (addresses_by F.symbols p)) same_field x (filter (is_shifted F.symbols) (y ∷ xs))
    by_cases true is rest = rw is (fields_fit F p x y fits suits apart sound.inside all.0.inside none.0, rest)
    by_cases false is rest = rw is rest

fit_together : (F : Facts) (p : Placement) (xs : List RldItem) → Fits p F.symbols → Suits F.symbols p → SectionsApart F.symbols → AllSound F.symbols xs
    → FitTogether (field_place F (addresses_by F.symbols p)) field_length (shift F (addresses_by F.symbols p)) same_field (filter (is_shifted F.symbols) xs)
fit_together F p [] fits suits apart all = tt
fit_together F p (x ∷ xs) fits suits apart all =
    by_cases (is_shifted F.symbols x) refl (fit_filtered F p x xs fits suits apart all.0 all.1 all.2) (fit_together F p xs fits suits apart all.2)
  where
    by_cases : (t : Bool) → is_shifted F.symbols x ≡ t
        → AllFit (field_place F (addresses_by F.symbols p)) field_length (shift F (addresses_by F.symbols p)) same_field x (filter (is_shifted F.symbols) xs)
        → FitTogether (field_place F (addresses_by F.symbols p)) field_length (shift F (addresses_by F.symbols p)) same_field (filter (is_shifted F.symbols) xs)
        → FitTogether (field_place F (addresses_by F.symbols p)) field_length (shift F (addresses_by F.symbols p)) same_field (filter (is_shifted F.symbols) (x ∷ xs))
    by_cases true is first rest = rw is (first, rest)
    by_cases false is first rest = rw is rest

in_sections : (F : Facts) (p : Placement) (xs : List RldItem) → AllSound F.symbols xs → AllInSection F p (shifts_by F.symbols (addresses_by F.symbols p)) xs
in_sections F p [] all = tt
in_sections F p (x ∷ xs) all = (all.0.inside, λ is. adds_as F p x (all.0.mover is), in_sections F p xs all.2)

pub fields_lie : (symbols : List SymbolItem) (p : Placement) (kept : Kept) (xs : List RldItem) → Sized symbols p kept → Suits symbols p → AllSound symbols xs
    → FieldsLie symbols kept xs
fields_lie symbols p kept [] sized suits all = tt
fields_lie symbols p kept (x ∷ xs) sized suits all =
    (λ is. lies symbols p kept x.p x.address (field_length x) sized suits all.0.inside, fields_lie symbols p kept xs sized suits all.2)

-- ---- what is loaded

abbrev pub loading : Facts → Placement → Storage → List RldItem → Storage
loading F p M xs =
    fold (with_one (field_place F (addresses_by F.symbols p)) field_length (shift F (addresses_by F.symbols p)) same_field) M (filter (is_shifted F.symbols) xs)

found_byte : (F : Facts) (q : Addresses) (items : List RldItem) (M : Storage) (a : ℕ) (o : Option RldItem)
    → loaded_byte F q items M a o ≡ byte_with (field_place F q) field_length (shift F q) same_field items M a o
found_byte F q items M a None = refl
found_byte F q items M a (Some x) = refl

loaded_at : (F : Facts) (p : Placement) (a : ℕ) → Fits p F.symbols → Suits F.symbols p → SectionsApart F.symbols → AllSound F.symbols (items_in F 1)
    → loading F p (text_storage F (addresses_by F.symbols p) 1) (items_in F 1) a ≡ loaded F (addresses_by F.symbols p) 1 a
unfolding loaded
loaded_at F p a fits suits apart all =
    all_added (field_place F (addresses_by F.symbols p)) field_length (shift F (addresses_by F.symbols p)) same_field (fields_at_one_place F (addresses_by F.symbols p))
    (shifts_of F 1) (text_storage F (addresses_by F.symbols p) 1) a (fit_together F p (items_in F 1) fits suits apart all)
    ∙ sym (found_byte F (addresses_by F.symbols p) (shifts_of F 1) (text_storage F (addresses_by F.symbols p) 1) a (find (covers F (addresses_by F.symbols p) a) (shifts_of F 1)))

same_bytes : (M N : Storage) → ((a : ℕ) → M a ≡ N a) → (x : Extent) → bytes_in M x ≡ bytes_in N x
same_bytes M N same x = same_map M N x.at x.count (λ b low high. same b)

pub loaded_holds : (F : Facts) (p : Placement) → Fits p F.symbols → Suits F.symbols p → SectionsApart F.symbols → AllSound F.symbols (items_in F 1)
    → with_fields F.symbols (shifts_by F.symbols (addresses_by F.symbols p)) (holding F.symbols p (text_storage F (addresses_by F.symbols p) 1)) (items_in F 1)
    ≡ holding F.symbols p (loaded F (addresses_by F.symbols p) 1)
unfolding with_fields
loaded_holds F p fits suits apart all =
    let M : Storage = text_storage F (addresses_by F.symbols p) 1 in
    fields_hold F p (shifts_by F.symbols (addresses_by F.symbols p)) (items_in F 1) M fits suits (in_sections F p (items_in F 1) all)
    ∙ ap (λ c. record (holding F.symbols p M) { content = c })
    (same_held (loading F p M (items_in F 1)) (loaded F (addresses_by F.symbols p) 1) (extents_by F.symbols p)
    (λ i x found. same_bytes (loading F p M (items_in F 1)) (loaded F (addresses_by F.symbols p) 1) (λ a. loaded_at F p a fits suits apart all) x))
