-- Text and relocation items that had no fault.
use Rattle.std.proofs.Common.{◌≡◌, ℕ, ◌+◌, Bool, true, false, not, ◌&&◌, ◌||◌, ◌==◌, nat_le, if◌then◌else◌, List, [], ◌∷◌, ◌++◌, fold, is_some, Option, Some, None, option_and_then, refl, sym, subst}
use Rattle.std.specs.List.{list_any, AllByRecursion}
use Rattle.std.specs.Option.{option_or}
use Rattle.std.proofs.lemmas.Bool.{leb-true}
use Rattle.std.proofs.lemmas.List.{append_assoc, append-nil}
use Rattle.le_bytes.specs.declared.record_what.RecWhat.{RecWhat}
use Rattle.le_bytes.specs.declared.record_what.RecWhat.TheVariants.{BadEsdid, BadFlag, ConstantOutside, ConstantsOverlap, TextOutside}
use Rattle.load_recs.specs.Kinds.{is_text_kind}
use Rattle.load_recs.specs.Relocations.{is_wrong_flag, is_joined, has_wrong_flag}
use Rattle.load_recs.specs.declared.items.SymbolItem.{SymbolItem}
use Rattle.load_recs.specs.declared.items.RldItem.{RldItem}
use Rattle.load_recs.specs.declared.records.TextHead.{TextHead}
use Rattle.member_model.specs.Symbols.{symbol_at, end_of, field_length, is_address_kind, is_marked_outside, is_outside}
use Rattle.member_model.specs.Facts.{Facts}
use Rattle.member_model.specs.Faults.{when, text_section, lies_in, text_fault, fits, differ, shares_wrongly, field_fault, fields_fault}
use Rattle.mod_read.specs.Judged.{LiesIn, IsJudgedField, Pairs, IsClear}
use Rattle.mod_read.proofs.SameFields.{or_left, or_right}
use Rattle.mod_read.proofs.JudgedSymbols.{all_more, or_none_left, or_none_right}

pub when_none : (bad : Bool) (what : RecWhat) → when bad what ≡ None → bad ≡ false
when_none true what h = cc
when_none false what h = refl

pub not_false : (b : Bool) → not b ≡ false → b ≡ true
not_false true h = refl
not_false false h = cc

and_left : (a b : Bool) → (a && b) ≡ true → a ≡ true
and_left true b h = refl
and_left false b h = h

and_right : (a b : Bool) → (a && b) ≡ true → b ≡ true
and_right true b h = h
and_right false b h = cc

-- ---- in a section

chosen : (t : Bool) (x y : SymbolItem) → (if t then Some x else None) ≡ Some y → (t ≡ true) × (x ≡ y)
chosen true x y h = (refl, some_same h)
  where
    some_same : Some x ≡ Some y → x ≡ y
    some_same e = cc
chosen false x y h = cc

lies_at : (F : Facts) (number address n : ℕ) (o : Option SymbolItem) → symbol_at F.symbols number ≡ o
    → lies_in (option_and_then (λ x. if is_text_kind x.kind && x.segment == F.segment then Some x else None) o) address n ≡ true → LiesIn F.symbols number address n
lies_at F number address n None there lies = cc
lies_at F number address n (Some x) there lies = by_section (is_text_kind x.kind && x.segment == F.segment) refl lies
  where
    by_section : (t : Bool) → (is_text_kind x.kind && x.segment == F.segment) ≡ t → lies_in (if t then Some x else None) address n ≡ true → LiesIn F.symbols number address n
    by_section false is lies = cc
    by_section true is lies = record {
      section = x;
      there = there;
      text = and_left (is_text_kind x.kind) (x.segment == F.segment) is;
      from = leb-true x.address address (and_left (nat_le x.address address) (nat_le (address + n) (end_of x)) lies);
      to = leb-true (address + n) (end_of x) (and_right (nat_le x.address address) (nat_le (address + n) (end_of x)) lies);
    }

pub text_judged : (F : Facts) (text : TextHead) → text_fault F text ≡ None → LiesIn F.symbols text.section text.address text.length
text_judged F text fine =
    lies_at F text.section text.address text.length (symbol_at F.symbols text.section) refl
    (not_false (lies_in (text_section F text.section) text.address text.length) (when_none (not (lies_in (text_section F text.section) text.address text.length)) TextOutside fine))

-- ---- relocation items

record HasNoFault (F : Facts) (before : List RldItem) (x : RldItem) : Type 0 where
  pub symbol : fits x (symbol_at F.symbols x.r) ≡ true
  pub inside : lies_in (text_section F x.p) x.address (field_length x) ≡ true
  pub alone : list_any (shares_wrongly x) before ≡ false

parts : (F : Facts) (before : List RldItem) (x : RldItem) → field_fault F before x ≡ None → HasNoFault F before x
parts F before x fine =
    let section : Option SymbolItem = text_section F x.p in
    let symbol : Option SymbolItem = symbol_at F.symbols x.r in
    let a : Option RecWhat = when (not (is_some section) || not (fits x symbol)) BadEsdid in
    let b : Option RecWhat = when (is_address_kind x && differ (is_marked_outside x) (is_outside symbol)) BadFlag in
    let c : Option RecWhat = when (not (lies_in section x.address (field_length x))) ConstantOutside in
    let d : Option RecWhat = when (list_any (shares_wrongly x) before) ConstantsOverlap in
    let after_a : option_or b (option_or c (option_or d None)) ≡ None = or_none_right a _ fine in
    let after_b : option_or c (option_or d None) ≡ None = or_none_right b _ after_a in
    let after_c : option_or d None ≡ None = or_none_right c _ after_b in
    record {
      symbol = not_false (fits x symbol) (or_right (not (is_some section)) (not (fits x symbol)) (when_none (not (is_some section) || not (fits x symbol)) BadEsdid (or_none_left a _ fine)));
      inside = not_false (lies_in section x.address (field_length x)) (when_none (not (lies_in section x.address (field_length x))) ConstantOutside (or_none_left c _ after_b));
      alone = when_none (list_any (shares_wrongly x) before) ConstantsOverlap (or_none_left d _ after_c);
    }

abbrev HasRightFlag : RldItem → Type 0
HasRightFlag x = is_wrong_flag x.flag ≡ false

flags_from : (xs : List RldItem) → list_any (λ x. is_wrong_flag x.flag) xs ≡ false → AllByRecursion HasRightFlag xs
flags_from [] none = tt
flags_from (x ∷ xs) none = (or_left (is_wrong_flag x.flag) _ none, flags_from xs (or_right (is_wrong_flag x.flag) _ none))

pub flags_right : (xs : List RldItem) → has_wrong_flag xs ≡ false → AllByRecursion HasRightFlag xs
flags_right xs fine = flags_from xs (or_left (list_any (λ x. is_wrong_flag x.flag) xs) (fold (λ _ x. is_joined x.flag) false xs) fine)

none_all : {X : Type 0} (p : X → Bool) (xs : List X) → list_any p xs ≡ false → AllByRecursion (λ x. p x ≡ false) xs
none_all p [] none = tt
none_all p (x ∷ xs) none = (or_left (p x) (list_any p xs) none, none_all p xs (or_right (p x) (list_any p xs) none))

pairs_push : {X : Type 0} (R : X → X → Type 0) (xs : List X) (x : X) → Pairs R xs → AllByRecursion (λ y. R y x) xs → Pairs R (xs ++ x ∷ [])
pairs_push R [] x pairs all = (tt, tt)
pairs_push R (y ∷ ys) x pairs all = (all_more (R y) ys (x ∷ []) pairs.0 (all.0, tt), pairs_push R ys x pairs.1 all.1)

-- items that had no fault, one after the other
pub record AreJudged (symbols : List SymbolItem) (items : List RldItem) : Type 0 where
  pub each : AllByRecursion (IsJudgedField symbols) items
  pub clear : Pairs IsClear items

pub fields_judged : (F : Facts) (before xs : List RldItem) → fields_fault F before xs ≡ None → AllByRecursion HasRightFlag xs → AreJudged F.symbols before → AreJudged F.symbols (before ++ xs)
fields_judged F before [] fine flags judged = subst (AreJudged F.symbols) (sym (append-nil before)) judged
fields_judged F before (x ∷ xs) fine flags judged =
    let none : HasNoFault F before x = parts F before x (or_none_left (field_fault F before x) _ fine) in
    let one : IsJudgedField F.symbols x = record {
      lies = lies_at F x.p x.address (field_length x) (symbol_at F.symbols x.p) refl none.inside;
      symbol = none.symbol;
      flag = flags.0;
    } in
    subst (AreJudged F.symbols) (append_assoc before (x ∷ []) xs)
    (fields_judged F (before ++ x ∷ []) xs (or_none_right (field_fault F before x) _ fine) flags.1
    (record {
      each = all_more (IsJudgedField F.symbols) before (x ∷ []) judged.each (one, tt);
      clear = pairs_push IsClear before x judged.clear (none_all (shares_wrongly x) before none.alone);
    }))
