-- Relocation items have no fault.
use Rattle.std.proofs.Common.{◌≡◌, ℕ, zero, suc, ◌+◌, ◌*◌, ◌/◌, ◌%◌, ◌<◌, ◌≤◌, Bool, true, false, not, ◌&&◌, ◌||◌, ◌==◌, nat_lt, nat_le, if◌then◌else◌, List, [], ◌∷◌, ◌++◌, length, Option, Some, None, is_some, inl, inr, refl, sym, ap, subst, ◌∙◌, arith}
use Rattle.std.specs.Prelude.{option_and_then}
use Rattle.std.specs.Option.{option_or, option_map_or}
use Rattle.std.specs.List.{AllByRecursion, list_any}
use Rattle.std.proofs.lemmas.Bool.{and_from, or_from, not_from_true, eq-eqb, le-leb, lt-ltb, le-ltb, cases_lt, cond-true}
use Rattle.std.proofs.lemmas.List.{append_assoc, append-nil}
use Rattle.le_bytes.specs.declared.record_what.RecWhat.{RecWhat}
use Rattle.le_bytes.specs.declared.record_what.RecWhat.TheVariants.{BadEsdid, BadFlag, ConstantOutside, ConstantsOverlap}
use Rattle.load_recs.specs.declared.items.SymbolItem.{SymbolItem}
use Rattle.load_recs.specs.declared.items.RldItem.{RldItem}
use Rattle.linking_model.specs.Places.{Laid}
use Rattle.member_model.specs.Parts.{Part, part_kind, part_place, part_length, part_segment, part_number}
use Rattle.load_recs.specs.Kinds.{is_text_kind}
use Rattle.member_model.specs.Symbols.{is_register_kind, is_referable_kind, symbol_at, is_outside, field_kind, field_length, is_address_kind, is_marked_outside}
use Rattle.member_model.specs.SymbolList.{symbol_kind, part_symbol, symbols_written}
use Rattle.member_model.specs.Facts.{Facts}
use Rattle.member_model.specs.Faults.{first_some, when, text_section, lies_in, fits, differ, shares_wrongly, field_fault, fields_fault}
use Rattle.member_laws.specs.Linkable.{HasText}
use Rattle.member_laws.proofs.Clear.{Clear, clear-both, clear-not-shared, strip, strip-length, strip-kind}
use Rattle.member_laws.proofs.Judging.{when-not}
use Rattle.member_laws.proofs.Membership.{Has, has-each, has-right}
use Rattle.member_laws.proofs.Numbered.{IsPart}
use Rattle.member_laws.proofs.Pairs.{Pairs, pairs-across}
use Rattle.member_laws.proofs.PartItems.{FitsPart}
use Rattle.member_laws.proofs.SymbolsFine.{text-kind}
use Rattle.member_laws.proofs.Targets.{symbol-of-part}

-- ---- one item

-- a part that has text, in the segment that goes on
pub record IsTextPart (P : Laid) (F : Facts) (x : Part) : Type 0 where
  pub symbols : F.symbols ≡ symbols_written P
  pub part : IsPart P x
  pub segment : part_segment P x ≡ F.segment
  pub text : HasText (part_kind P x)

pub text-section : (P : Laid) (F : Facts) (x : Part) → IsTextPart P F x → text_section F (part_number P x) ≡ Some (part_symbol P x)
text-section P F x is =
    ap (λ l. option_and_then (λ y. if is_text_kind y.kind && y.segment == F.segment then Some y else None) (symbol_at l (part_number P x))) is.symbols
    ∙ ap (λ o. option_and_then (λ y. if is_text_kind y.kind && y.segment == F.segment then Some y else None) o) (symbol-of-part P x is.part)
    ∙ cond-true (is_text_kind (part_symbol P x).kind && part_segment P x == F.segment) (Some (part_symbol P x)) None
    (and_from (is_text_kind (part_symbol P x).kind) (part_segment P x == F.segment) (text-kind (part_kind P x) is.text) (eq-eqb (part_segment P x) F.segment is.segment))

pub lies-within : (section : SymbolItem) (a n : ℕ) → section.address ≤ a → a + n ≤ section.address + section.length → lies_in (Some section) a n ≡ true
lies-within section a n low high = and_from (nat_le section.address a) (nat_le (a + n) (section.address + section.length)) (le-leb section.address a low) (le-leb (a + n) (section.address + section.length) high)

marked-stripped : (n : ℕ) → nat_lt 127 (n / 2 * 2) ≡ nat_lt 127 n
marked-stripped n =
    elim (cases_lt 127 n) [
      | inl high ↦ lt-ltb 127 (n / 2 * 2) (above n high) ∙ sym (lt-ltb 127 n high)
      | inr low ↦ le-ltb 127 (n / 2 * 2) (below n low) ∙ sym (le-ltb 127 n low)
    ]
  where
    above : (n : ℕ) → 127 < n → 127 < n / 2 * 2
    above n high = omega arith

    below : (n : ℕ) → n ≤ 127 → n / 2 * 2 ≤ 127
    below n low = omega arith

fits-stripped : (a : RldItem) (symbol : Option SymbolItem) → fits a symbol ≡ fits (strip a) symbol
fits-stripped a symbol =
    ap (λ k. if nat_lt k 2 then option_map_or (λ y. is_referable_kind y.kind) symbol false else (nat_lt 2 k || option_map_or (λ y. is_register_kind y.kind) symbol false)) (sym (strip-kind a))

marked-fine : (address : Bool) (a b : Bool) → (address ≡ true → differ a b ≡ false) → (address && differ a b) ≡ false
marked-fine true a b holds = holds refl
marked-fine false a b holds = refl

none-of-four : (a b c d : Option RecWhat) → a ≡ None → b ≡ None → c ≡ None → d ≡ None → first_some (a ∷ b ∷ c ∷ d ∷ []) ≡ None
none-of-four a b c d e f g h = rw (e, f, g, h) refl

field-fine : (P : Laid) (F : Facts) (x : Part) (before : List RldItem) (a : RldItem) → IsTextPart P F x → FitsPart P x (strip a) → list_any (shares_wrongly a) before ≡ false → field_fault F before a ≡ None
field-fine P F x before a is item apart =
    let section : text_section F a.p ≡ Some (part_symbol P x) = ap (text_section F) item.number ∙ text-section P F x is in
    let symbol : symbol_at F.symbols a.r ≡ symbol_at (symbols_written P) a.r = ap (λ l. symbol_at l a.r) is.symbols in
    let fitting : fits a (symbol_at F.symbols a.r) ≡ true = ap (fits a) symbol ∙ fits-stripped a (symbol_at (symbols_written P) a.r) ∙ item.fits_symbol in
    let address : is_address_kind (strip a) ≡ is_address_kind a = ap (λ k. nat_lt k 2) (strip-kind a) in
    none-of-four (when (not (is_some (text_section F a.p)) || not (fits a (symbol_at F.symbols a.r))) BadEsdid)
    (when (is_address_kind a && differ (is_marked_outside a) (is_outside (symbol_at F.symbols a.r))) BadFlag)
    (when (not (lies_in (text_section F a.p) a.address (field_length a))) ConstantOutside)
    (when (list_any (shares_wrongly a) before) ConstantsOverlap)
    (when-not _ BadEsdid (or_from (not (is_some (text_section F a.p))) (not (fits a (symbol_at F.symbols a.r))) (ap (λ o. not (is_some o)) section) (not_from_true (fits a (symbol_at F.symbols a.r)) fitting)))
    (when-not _ BadFlag (marked-fine (is_address_kind a) (is_marked_outside a) (is_outside (symbol_at F.symbols a.r)) (λ e.
    ap (λ b. differ b (is_outside (symbol_at F.symbols a.r))) (sym (marked-stripped a.flag)) ∙ ap (λ o. differ (is_marked_outside (strip a)) (is_outside o)) symbol ∙ item.marked (address ∙ e))))
    (when-not _ ConstantOutside (not_from_true (lies_in (text_section F a.p) a.address (field_length a))
    (ap (λ o. lies_in o a.address (field_length a)) section ∙ lies-within (part_symbol P x) a.address (field_length a) item.begins (subst (λ n. a.address + n ≤ part_place P x + part_length P x) (strip-length a) item.ends))))
    (when-not (list_any (shares_wrongly a) before) ConstantsOverlap apart)

-- ---- one item after another

-- the item is one of a part that has text, in the segment that goes on
pub record IsFieldOf (P : Laid) (F : Facts) (a : RldItem) : Type 0 where
  pub of_part : Part
  pub is : IsTextPart P F of_part
  pub item : FitsPart P of_part (strip a)

none-shared : (a : RldItem) (before : List RldItem) → ((b : RldItem) → Has before b → Clear b a) → list_any (shares_wrongly a) before ≡ false
none-shared a [] clear = refl
none-shared a (b ∷ before) clear =
    or_from (shares_wrongly a b) (list_any (shares_wrongly a) before) (clear-not-shared a b (clear-both b a (clear b (inl refl)))) (none-shared a before (λ c there. clear c (inr there)))

pub fields-fine : (P : Laid) (F : Facts) (before items : List RldItem) → AllByRecursion (IsFieldOf P F) items → Pairs Clear (before ++ items) → fields_fault F before items ≡ None
fields-fine P F before [] all clear = refl
fields-fine P F before (a ∷ items) all clear =
    ap (λ o. option_or o (fields_fault F (before ++ a ∷ []) items))
    (field-fine P F all.0.of_part before a all.0.is all.0.item (none-shared a before (λ b there. pairs-across Clear before (a ∷ items) b a clear there (inl refl))))
    ∙ fields-fine P F (before ++ a ∷ []) items all.1 (subst (Pairs Clear) (sym (append_assoc before (a ∷ []) items)) clear)

pub fields-append : (F : Facts) (before a b : List RldItem) → fields_fault F before (a ++ b) ≡ option_or (fields_fault F before a) (fields_fault F (before ++ a) b)
fields-append F before [] b = ap (λ l. fields_fault F l b) (sym (append-nil before))
fields-append F before (x ∷ a) b =
    ap (option_or (field_fault F before x)) (fields-append F (before ++ x ∷ []) a b)
    ∙ or-or (field_fault F before x) (fields_fault F (before ++ x ∷ []) a) (fields_fault F ((before ++ x ∷ []) ++ a) b)
    ∙ ap (λ l. option_or (option_or (field_fault F before x) (fields_fault F (before ++ x ∷ []) a)) (fields_fault F l b)) (append_assoc before (x ∷ []) a)
  where
    or-or : (x y z : Option RecWhat) → option_or x (option_or y z) ≡ option_or (option_or x y) z
    or-or None y z = refl
    or-or (Some f) y z = refl

-- the items come one after another
pub fields_parts : (F : Facts) (before a b : List RldItem) → fields_fault F before (a ++ b) ≡ None → (fields_fault F before a ≡ None) × (fields_fault F (before ++ a) b ≡ None)
fields_parts F before a b fine = either (fields_fault F before a) (fields_fault F (before ++ a) b) (sym (fields-append F before a b) ∙ fine)
  where
    either : (x y : Option RecWhat) → option_or x y ≡ None → (x ≡ None) × (y ≡ None)
    either None y e = (refl, e)
    either (Some f) y e = absurd cc
