-- Numbers at addresses that make a placement are those of the placement.
use Rattle.std.proofs.Common.{arith, ◌≡◌, ℕ, zero, suc, ◌+◌, ◌-◌, ◌*◌, ◌%◌, ◌^◌, ◌<◌, ◌≤◌, Bool, true, false, not, ◌||◌, ◌==◌, if◌then◌else◌, List, [], ◌∷◌, length, map, drop, get_or, fold, sum_by, slice_index, All, IsTrue, refl, sym, ◌∙◌, ap, subst, Option, Some, None, slice_get, unwrap_or, position}
use Rattle.std.specs.List.{range_with_len, find, list_any}
use Rattle.std.specs.Option.{option_map_or, is_some}
use Rattle.std.proofs.lemmas.Bool.{false≢true}
use Rattle.std.proofs.lemmas.List.{ext_get_or, get_or-take, get_or-drop}
use Rattle.std.proofs.lemmas.List.FromFn.{get_or-map-range_with_len, length-map-range_with_len}
use Rattle.std.proofs.lemmas.Option.{slice_get_within, slice_get-get_or}
use Rattle.byteorder.specs.Endian.{big_number, big_bytes, big_from}
use Rattle.sym_mod.specs.declared.module.Kind.{Kind}
use Rattle.sym_mod.specs.declared.module.Kind.TheVariants.{Address, Branch, Displacement, Total as TotalKind}
use Rattle.sym_mod.specs.declared.program.Program.{Program}
use Rattle.sym_mod.specs.declared.program.Label.{Label}
use Rattle.sym_mod.specs.declared.program.Constant.{Constant}
use Rattle.sym_mod.specs.declared.program.Term.{Term}
use Rattle.sym_mod.specs.declared.program.Places.{Places}
use Rattle.sym_mod.specs.declared.program.Target.{Target}
use Rattle.sym_mod.specs.declared.program.Target.TheVariants.{Section as InSection, Label as AtLabel, Unresolved, Register as OfRegister, Total}
use Rattle.sym_mod.specs.Sound.{IsSoundProgram, IsSoundLabel, IsSoundConstant, IsSymbolOf, TargetFitsKind}
use Rattle.linking_model.specs.Places.{Laid, segment_of_section, length_of_section, entries_of, entry_count}
use Rattle.linking_model.specs.Tables.{section_of_label, target_eq, is_direct, is_defined, holder, has_entry, only_target}
use Rattle.linking_model.specs.Points.{displacements}
use Rattle.linking_model.specs.Linked.{Placement, address_of, offset_of_label, entry_address, branch_address, displacement_of, signed_difference, stored_byte, stored_number, number_for, number_in, constant_at, covers, byte_of, linked_byte, linked_section}
use Rattle.linking_model.proofs.Bytes.{holders_are_on_paths}
use Rattle.linking_model.proofs.Holders.{IsAbove, is_above, holders_hold_for_themselves}
use Rattle.text_store.specs.Content.{section_of}
use Rattle.relocate.specs.Ready.{FitTogether, IsDefinedIn}
use Rattle.relocate.specs.Listed.{table_of}
use Rattle.relocate.proofs.Held.{is_placed, listed_there}
use Rattle.relocate.specs.Relocated.{placed_at, displacement_at, number_over, new_field, field_of, byte_by, section_by, relocated}
use Rattle.relocate.specs.Agreeing.{MakePlacement, IsReached, stored_text, linked_text, StoredTextIsLinked}
use Rattle.relocate.proofs.Bounds.{Found, there, of_each, in_section, section_of_constant, branch_symbol}
use Rattle.relocate.proofs.Fields.{found_holds, found_at, byte_found}

-- ---- addresses

not_there : {A : Type 0} (xs : List A) (i : ℕ) → i < length xs → slice_get xs i ≡ None → ⊥
not_there [] i within none = omega (arith, within)
not_there (x ∷ xs) i within none = let got = slice_get-get_or (x ∷ xs) i x within in cc

pub label_section : (p : Program) (i : ℕ) (o : Option Label) → IsSoundProgram p → i < length p.labels → slice_get p.labels i ≡ o
    → option_map_or (λ x. x.section) o 0 < length p.sections
label_section p i None sound within none = absurd (not_there p.labels i within none)
label_section p i (Some x) sound within found =
    let label : IsSoundLabel p x = of_each (IsSoundLabel p) p.labels i x sound.labels found in
    let at : Found p.sections x.section (λ s. x.offset ≤ s.length) = there p.sections x.section (λ s. x.offset ≤ s.length) label.inside in
    slice_get_within p.sections x.section at.item at.found

pub same_address : (P : Laid) (a : Places) (q : Placement) (y : Target) → IsSoundProgram P.program → MakePlacement P a q → IsSymbolOf P.program y
    → address_of P.program (placed_at a) y ≡ address_of P.program q y
same_address P a q (InSection i) sound make symbol = make.section i symbol
same_address P a q (AtLabel i) sound make symbol =
    ap (λ n. n + offset_of_label P.program i)
    (make.section (section_of_label P.program i) (label_section P.program i (slice_get P.program.labels i) sound symbol refl))
same_address P a q (Unresolved i) sound make symbol = refl
same_address P a q (OfRegister i) sound make symbol = absurd symbol
same_address P a q Total sound make symbol = absurd symbol

some_passes : (f : Target → Bool) (xs : List Target) → list_any f xs ≡ true → 0 < length xs
some_passes f [] some = absurd (false≢true some)
some_passes f (x ∷ xs) some = omega arith

holder_has_entries : (P : Laid) (a : Places) (s b : ℕ) (y : Target) → FitTogether P a → 1 ≤ s → s ≤ length P.tree → 1 ≤ b → b ≤ length P.tree
    → IsDefinedIn P.program y → holder P.program P.tree s y ≡ Some b → 0 < entry_count P b
holder_has_entries P a s b y fit first last low high defined found =
    let own : holder P.program P.tree b y ≡ Some b = holders_hold_for_themselves P.program P.tree s y b fit.tree first last found in
    let has : has_entry P.program P.tree b y ≡ true = ap (λ o. option_map_or (λ h. h == b) o false) own ∙ grind arith in
    some_passes (target_eq y) (table_of P.entries b)
    (sym (is_placed (target_eq y) (table_of P.entries b)) ∙ (listed_there P b y fit.entries low high defined ∙ has))

-- the entry of a call that has a holder
same_entry : (P : Laid) (a : Places) (q : Placement) (s : ℕ) (y : Target) (h : Option ℕ) → FitTogether P a → MakePlacement P a q
    → IsDefinedIn P.program y → 1 ≤ s → s ≤ length P.tree → holder P.program P.tree s y ≡ h → is_some h ≡ true
    → entry_address P (placed_at a) s y ≡ entry_address P q s y
same_entry P a q s y None fit make defined first last found some = absurd (false≢true some)
same_entry P a q s y (Some b) fit make defined first last found some =
    let above : IsAbove P.tree b s = is_above P.tree b s fit.tree first last (holders_are_on_paths P.program P.tree s y b found) in
    rw found (ap (λ n. n + 8 + 12 * unwrap_or (position (target_eq y) (entries_of P b)) 0) (make.table b above.low above.high
    (holder_has_entries P a s b y fit first last above.low above.high defined found)))

abbrev pub called : Laid → Placement → ℕ → Target → ℕ
called P q s y = if is_direct P.program P.tree s y then address_of P.program q y else entry_address P q s y

same_call : (P : Laid) (a : Places) (q : Placement) (s : ℕ) (y : Target) → FitTogether P a → MakePlacement P a q
    → 1 ≤ s → s ≤ length P.tree → IsSymbolOf P.program y → IsDefinedIn P.program y
    → IsTrue (is_direct P.program P.tree s y || is_some (holder P.program P.tree s y)) → called P (placed_at a) s y ≡ called P q s y
same_call P a q s y fit make first last symbol defined reached = by_cases (is_direct P.program P.tree s y) refl
  where
    by_cases : (b : Bool) → is_direct P.program P.tree s y ≡ b → called P (placed_at a) s y ≡ called P q s y
    by_cases true direct = rw direct (same_address P a q y fit.sound make symbol)
    by_cases false away =
        rw away (same_entry P a q s y (holder P.program P.tree s y) fit make defined first last refl (rw away at reached))

pub same_branch : (P : Laid) (a : Places) (q : Placement) (s : ℕ) (y : Target) → FitTogether P a → MakePlacement P a q
    → 1 ≤ s → s ≤ length P.tree → IsSymbolOf P.program y
    → IsTrue (not (is_defined y) || is_direct P.program P.tree s y || is_some (holder P.program P.tree s y))
    → branch_address P (placed_at a) s y ≡ branch_address P q s y
same_branch P a q s (InSection i) fit make first last symbol reached = same_call P a q s (InSection i) fit make first last symbol symbol reached
same_branch P a q s (AtLabel i) fit make first last symbol reached = same_call P a q s (AtLabel i) fit make first last symbol symbol reached
same_branch P a q s (Unresolved i) fit make first last symbol reached = refl
same_branch P a q s (OfRegister i) fit make first last symbol reached = absurd symbol
same_branch P a q s Total fit make first last symbol reached = absurd symbol

same_displacement : (P : Laid) (a : Places) (y : Target) → a.registers ≡ displacements 0 P.program.registers
    → displacement_at a y ≡ displacement_of P.program y
same_displacement P a (InSection i) same = refl
same_displacement P a (AtLabel i) same = refl
same_displacement P a (Unresolved i) same = refl
same_displacement P a (OfRegister i) same = ap (λ ds. slice_index ds i) same
same_displacement P a Total same = refl

-- ---- numbers

same_fold : (f g : Term → ℕ) (k : ℕ) (terms : List Term) → All (λ t. f t ≡ g t) terms
    → fold (λ n t. n + f t) k terms ≡ fold (λ n t. n + g t) k terms
same_fold f g k [] same = refl
same_fold f g k (t ∷ terms) same =
    ap (λ n. fold (λ m x. m + f x) (k + n) terms) (same 0 t (omega arith))
    ∙ same_fold f g (k + g t) terms (λ i e within. same (suc i) e (omega (arith, within)))

same_sum : (f g : Term → ℕ) (terms : List Term) → All (λ t. f t ≡ g t) terms → sum_by f terms ≡ sum_by g terms
same_sum f g terms same = same_fold f g 0 terms same

same_number : (P : Laid) (a : Places) (q : Placement) (c : Constant) (kind : Kind) → FitTogether P a → MakePlacement P a q
    → IsSoundConstant P.program c → IsReached P c → c.kind ≡ kind
    → number_over P a c kind (stored_number P.program c) ≡ number_for P q c kind
same_number P a q c Address fit make sound reached is =
    let symbols = subst (λ k. All (λ t. TargetFitsKind P.program k t.target) c.terms) is sound.targets in
    ap (λ n. stored_number P.program c + n)
    (same_sum (λ t. signed_difference (256 ^ c.length) t.minus (address_of P.program (placed_at a) t.target) t.base)
    (λ t. signed_difference (256 ^ c.length) t.minus (address_of P.program q t.target) t.base) c.terms
    (λ k e within. let t : Term = get_or c.terms k e in
    ap (λ n. signed_difference (256 ^ c.length) t.minus n t.base) (same_address P a q t.target fit.sound make (symbols k e within))))
same_number P a q c Branch fit make sound reached is =
    let stands : (1 ≤ segment_of_section P.program c.section) × (segment_of_section P.program c.section ≤ length P.tree) = section_of_constant P a c fit sound in
    same_branch P a q (segment_of_section P.program c.section) (only_target c.terms) fit make stands.0 stands.1
    (branch_symbol P.program c sound is) (rw is at reached)
same_number P a q c Displacement fit make sound reached is = same_displacement P a (only_target c.terms) make.registers
same_number P a q c TotalKind fit make sound reached is = make.total

-- ---- what stands in the text

stored_section : (p : Program) (i : ℕ) → i < length p.sections
    → section_of (stored_text p) i ≡ map (stored_byte p.texts i) (range_with_len 0 (length_of_section p i))
unfolding stored_text
stored_section p i within =
    get_or-map-range_with_len (λ i. map (stored_byte p.texts i) (range_with_len 0 (length_of_section p i))) 0 (length p.sections) i i [] within (omega arith)

stored_there : (p : Program) (i o : ℕ) → i < length p.sections → o < length_of_section p i
    → slice_index (section_of (stored_text p) i) o ≡ stored_byte p.texts i o
stored_there p i o section within =
    ap (λ xs. slice_index xs o) (stored_section p i section)
    ∙ get_or-map-range_with_len (stored_byte p.texts i) 0 (length_of_section p i) o o 0 within (omega arith)

big_from_same : (i n : ℕ) (xs ys : List ℕ) → ((j : ℕ) → i ≤ j → j < i + n → slice_index xs j ≡ slice_index ys j)
    → big_from i n xs ≡ big_from i n ys
big_from_same i zero xs ys same = refl
big_from_same i (suc n) xs ys same =
    rw (same i (omega arith) (omega arith), big_from_same (suc i) n xs ys (λ j low high. same j (omega (arith, low)) (omega (arith, high)))) refl

stored_field : (p : Program) (c : Constant) → IsSoundConstant p c → big_number c.length (field_of (stored_text p) c) ≡ stored_number p c
stored_field p c sound =
    let at : Found p.sections c.section (λ x. c.offset + c.length ≤ x.length) = in_section p c.section c.offset c.length sound.inside in
    let section : c.section < length p.sections = slice_get_within p.sections c.section at.item at.found in
    let size : length_of_section p c.section ≡ at.item.length = ap (λ o. option_map_or (λ x. x.length) o 0) at.found in
    let inside : c.offset + c.length ≤ at.item.length = at.holds in
    big_from_same 0 c.length _ _ (λ j low high.
    let below : j < c.length = omega (arith, high) in
    get_or-take c.length (drop c.offset (section_of (stored_text p) c.section)) j 0 below
    ∙ (get_or-drop c.offset (section_of (stored_text p) c.section) j 0
    ∙ (stored_there p c.section (c.offset + j) section (omega (arith, size, inside, below))
    ∙ sym (get_or-map-range_with_len (stored_byte p.texts c.section) c.offset c.length j (c.offset + j) 0 below refl))))

same_field : (P : Laid) (a : Places) (q : Placement) (c : Constant) → FitTogether P a → MakePlacement P a q
    → IsSoundConstant P.program c → IsReached P c
    → new_field P a c (field_of (stored_text P.program) c) ≡ big_bytes c.length (number_in P q c)
unfolding new_field number_in
same_field P a q c fit make sound reached =
    ap (λ n. big_bytes c.length (n % 256 ^ c.length))
    (ap (number_over P a c c.kind) (stored_field P.program c sound) ∙ same_number P a q c c.kind fit make sound reached refl)

-- ---- bytes

byte_same : (P : Laid) (a : Places) (q : Placement) (i o : ℕ) (f : Option Constant) → FitTogether P a → MakePlacement P a q
    → All (IsReached P) P.program.constants → i < length P.program.sections → o < length_of_section P.program i
    → constant_at P.program.constants i o ≡ f → byte_found (new_field P a) (stored_text P.program) i o f ≡ byte_of P q i o f
byte_same P a q i o None fit make reached section within found = stored_there P.program i o section within
byte_same P a q i o (Some c) fit make reached section within found =
    let at : find (covers i o) P.program.constants ≡ Some c = sym (found_at P.program.constants i o) ∙ found in
    ap (λ bytes. slice_index bytes (o - c.offset))
    (same_field P a q c fit make
    (found_holds (IsSoundConstant P.program) (covers i o) P.program.constants c fit.sound.constants at)
    (found_holds (IsReached P) (covers i o) P.program.constants c reached at))

linked_there : (P : Laid) (a : Places) (q : Placement) (i o : ℕ) → FitTogether P a → MakePlacement P a q
    → All (IsReached P) P.program.constants → i < length P.program.sections → o < length_of_section P.program i
    → byte_by (new_field P a) P.program.constants (stored_text P.program) i o ≡ linked_byte P q i o
unfolding linked_byte
linked_there P a q i o fit make reached section within =
    byte_same P a q i o (constant_at P.program.constants i o) fit make reached section within refl

same_range : {A : Type 0} (f g : ℕ → A) (d : A) (n m : ℕ) → n ≡ m → ((i : ℕ) → i < m → f i ≡ g i)
    → map f (range_with_len 0 n) ≡ map g (range_with_len 0 m)
same_range f g d n m size same =
    ext_get_or d _ _ (length-map-range_with_len f 0 n ∙ (size ∙ sym (length-map-range_with_len g 0 m)))
    (λ i within.
    let below : i < n = subst (λ k. i < k) (length-map-range_with_len f 0 n) within in
    let under : i < m = omega (arith, below, size) in
    get_or-map-range_with_len f 0 n i i d below (omega arith)
    ∙ (same i under ∙ sym (get_or-map-range_with_len g 0 m i i d under (omega arith))))

pub length_stored : (p : Program) → length (stored_text p) ≡ length p.sections
unfolding stored_text
length_stored p = length-map-range_with_len (λ i. map (stored_byte p.texts i) (range_with_len 0 (length_of_section p i))) 0 (length p.sections)

pub length_stored_section : (p : Program) (i : ℕ) → i < length p.sections → length (section_of (stored_text p) i) ≡ length_of_section p i
length_stored_section p i within =
    ap length (stored_section p i within) ∙ length-map-range_with_len (stored_byte p.texts i) 0 (length_of_section p i)

pub stored_text_is_linked : StoredTextIsLinked
unfolding relocated linked_text
stored_text_is_linked P a q fit make reached =
    same_range (section_by (new_field P a) P.program.constants (stored_text P.program)) (linked_section P q) []
    (length (stored_text P.program)) (length P.program.sections) (length_stored P.program)
    (λ i section.
    same_range (byte_by (new_field P a) P.program.constants (stored_text P.program) i) (linked_byte P q i) 0
    (length (section_of (stored_text P.program) i)) (length_of_section P.program i) (length_stored_section P.program i section)
    (λ o within. linked_there P a q i o fit make reached section within))
