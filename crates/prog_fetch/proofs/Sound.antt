-- What the facts of records without a fault keep, as far as segment 1 goes.
use Rattle.std.proofs.Common.{arith, ◌≡◌, ℕ, ◌+◌, ◌<◌, ◌≤◌, ◌⊎◌, inl, inr, Bool, true, false, not, ◌&&◌, ◌||◌, ◌==◌, nat_lt, nat_le, if◌then◌else◌, List, [], ◌∷◌, ◌++◌, length, map, refl, sym, ◌∙◌, ap, subst, append_assoc, append-nil, Option, Some, None}
use Rattle.std.specs.List.{list_any}
use Rattle.std.specs.Option.{option_or, option_map, option_and_then, is_some}
use Rattle.std.proofs.lemmas.List.{map-append}
use Rattle.le_bytes.specs.declared.record_what.RecWhat.{RecWhat}
use Rattle.le_bytes.specs.declared.record_what.RecWhat.TheVariants.{BadLength, BadFlag, BadOrder, BadEsdid, BadScatter, TextOutside, ConstantOutside, ConstantsOverlap}
use Rattle.pds_directory.specs.declared.entry.Entry.{Entry}
use Rattle.load_recs.specs.Faults.{what_of}
use Rattle.load_recs.specs.Items.{symbols_of}
use Rattle.load_recs.specs.Relocations.{rlds_of}
use Rattle.load_recs.specs.Records.{Record, SymbolRecord, ScatterRecord, TranslationRecord, NoteRecord, ControlRecord, RldRecord, ControlRldRecord, TextRecord}
use Rattle.load_recs.specs.Reading.{contents, own_fault}
use Rattle.load_recs.specs.declared.items.SymbolItem.{SymbolItem}
use Rattle.load_recs.specs.declared.items.SymbolKind.{SymbolKind}
use Rattle.load_recs.specs.declared.items.SymbolKind.TheVariants.{Sd, Er, Lr, Pc, Cm, Pr, Null, Wx}
use Rattle.load_recs.specs.declared.items.RldItem.{RldItem}
use Rattle.load_recs.specs.declared.records.Ends.{Ends}
use Rattle.load_recs.specs.declared.records.TextHead.{TextHead}
use Rattle.load_recs.specs.Kinds.{is_section_kind, is_text_kind, is_outside_kind}
use Rattle.member_model.specs.Symbols.{is_overlay_member, is_scatter_member, is_referable_kind, is_outside, symbol_at, end_of, field_length, is_address_kind, is_marked_outside}
use Rattle.member_model.specs.Facts.{Facts, Text, Field, no_facts, seen, stage_of, ended_by, with_fields, with_contents, with_record}
use Rattle.member_model.specs.Faults.{first_some, when, is_asked, symbol_fault, symbols_fault, text_section, lies_in, text_fault, fits, shares_wrongly, differ, field_fault, fields_fault, segment_count, ends_wrongly, segment_fault, is_incomplete, kind_fault, place_fault, fault_with, fault}
use Rattle.member_model.specs.Loaded.{is_shifted}
use Rattle.fetch_storage.specs.Shifts.{moves}
use Rattle.fetch_storage.specs.Sound.{InSection, HasMover, SoundField, NoneShares, AllSound}

-- ---- faults that are not there

pub left_none : {A : Type 0} (x y : Option A) → option_or x y ≡ None → x ≡ None
left_none None y h = refl
left_none (Some f) y h = h

pub right_none : {A : Type 0} (x y : Option A) → option_or x y ≡ None → y ≡ None
right_none None y h = h
right_none (Some f) y h = absurd cc

pub not_bad : (bad : Bool) (what : RecWhat) → when bad what ≡ None → bad ≡ false
not_bad false what h = refl
not_bad true what h = absurd cc

not_first : (a b : Bool) → (a || b) ≡ false → a ≡ false
not_first false b h = refl
not_first true b h = absurd cc

not_second : (a b : Bool) → (a || b) ≡ false → b ≡ false
not_second false b h = h
not_second true b h = absurd cc

both_first : (a b : Bool) → (a && b) ≡ true → a ≡ true
both_first true b h = refl
both_first false b h = absurd cc

both_second : (a b : Bool) → (a && b) ≡ true → b ≡ true
both_second true b h = h
both_second false b h = absurd cc

is_true : (b : Bool) → not b ≡ false → b ≡ true
is_true true h = refl
is_true false h = absurd cc

is_false : (b : Bool) → not b ≡ true → b ≡ false
is_false false h = refl
is_false true h = absurd cc

-- ---- the facts of segment 1

abbrev pub AllTexts : List SymbolItem → List Text → Type 0
AllTexts symbols [] = Unit {0}
AllTexts symbols (t ∷ ts) = (t.segment ≡ 1) × InSection symbols t.section t.address (length t.bytes) × AllTexts symbols ts

abbrev pub AllOne : List Field → Type 0
AllOne [] = Unit {0}
AllOne (x ∷ xs) = (x.segment ≡ 1) × AllOne xs

-- the text that is due lies in a section of segment 1, and without overlay a segment ends only with the module
abbrev pub DueSound : Entry → Facts → Option TextHead → Type 0
DueSound e F None = Unit {0}
DueSound e F (Some t) =
    InSection F.symbols t.section t.address t.length × (F.segment ≡ 1)
    × (is_overlay_member e ≡ false → F.ends.segment ≡ true → F.ends.module ≡ true)

-- no record of a segment has come
pub record IsEarly (F : Facts) : Type 0 where
  pub no_texts : F.texts ≡ []
  pub no_fields : F.fields ≡ []
  pub nothing_due : F.due ≡ None

pub record Sound (e : Entry) (F : Facts) : Type 0 where
  pub symbols : symbols_fault e [] F.symbols ≡ None
  pub texts : AllTexts F.symbols F.texts
  pub ones : AllOne F.fields
  pub fields : AllSound F.symbols (map (λ x. x.item) F.fields)
  pub due : DueSound e F F.due
  pub early : F.stage < 4 → IsEarly F
  pub whole : is_overlay_member e ≡ false → (F.segment ≡ 1) ⊎ (F.ended ≡ true)

pub nothing_sound : (e : Entry) → Sound e no_facts
nothing_sound e = record {
  symbols = refl;
  texts = tt;
  ones = tt;
  fields = tt;
  due = tt;
  early = λ _. record { no_texts = refl; no_fields = refl; nothing_due = refl };
  whole = λ _. inl refl;
}

-- ---- symbols

symbols_more : (e : Entry) (before xs ys : List SymbolItem) → symbols_fault e before xs ≡ None → symbols_fault e (before ++ xs) ys ≡ None
    → symbols_fault e before (xs ++ ys) ≡ None
symbols_more e before [] ys first rest = subst (λ zs. symbols_fault e zs ys ≡ None) (append-nil before) rest
symbols_more e before (x ∷ xs) ys first rest =
    let here : symbol_fault e before x x.kind ≡ None = left_none (symbol_fault e before x x.kind) (symbols_fault e (before ++ x ∷ []) xs) first in
    let later : symbols_fault e (before ++ x ∷ []) (xs ++ ys) ≡ None =
    symbols_more e (before ++ x ∷ []) xs ys (right_none (symbol_fault e before x x.kind) (symbols_fault e (before ++ x ∷ []) xs) first)
    (subst (λ zs. symbols_fault e zs ys ≡ None) (sym (append_assoc before (x ∷ []) xs)) rest) in
    rw here later

-- ---- text and fields in their sections

in_section : (F : Facts) (n a k : ℕ) → F.segment ≡ 1 → lies_in (text_section F n) a k ≡ true → InSection F.symbols n a k
in_section F n a k one inside = by_symbol (symbol_at F.symbols n) refl inside
  where
    text_is_section : (kind : SymbolKind) → is_text_kind kind ≡ true → is_section_kind kind ≡ true
    text_is_section Sd h = refl
    text_is_section Pc h = refl
    text_is_section Er h = absurd cc
    text_is_section Lr h = absurd cc
    text_is_section Cm h = refl
    text_is_section Pr h = absurd cc
    text_is_section Null h = absurd cc
    text_is_section Wx h = absurd cc

    with_symbol : (x : SymbolItem) → symbol_at F.symbols n ≡ Some x → (t : Bool) → (is_text_kind x.kind && x.segment == F.segment) ≡ t
        → lies_in (if t then Some x else None) a k ≡ true → InSection F.symbols n a k
    with_symbol x found false other inside = absurd cc
    with_symbol x found true both inside = record {
      section = x;
      found = found;
      kind = text_is_section x.kind (both_first (is_text_kind x.kind) (x.segment == F.segment) both);
      segment = same_segment (both_second (is_text_kind x.kind) (x.segment == F.segment) both);
      from = below (both_first (nat_le x.address a) (nat_le (a + k) (end_of x)) inside);
      to = within (both_second (nat_le x.address a) (nat_le (a + k) (end_of x)) inside);
    }
      where
        same_segment : (x.segment == F.segment) ≡ true → x.segment ≡ 1
        same_segment h = grind (arith, h, one)

        below : nat_le x.address a ≡ true → x.address ≤ a
        below h = grind (arith, h)

        within : nat_le (a + k) (end_of x) ≡ true → a + k ≤ end_of x
        within h = grind (arith, h)

    by_symbol : (o : Option SymbolItem) → symbol_at F.symbols n ≡ o
        → lies_in (option_and_then (λ x. if is_text_kind x.kind && x.segment == F.segment then Some x else None) (symbol_at F.symbols n)) a k ≡ true
        → InSection F.symbols n a k
    by_symbol None none inside = let gone : false ≡ true = rw none at inside in absurd cc
    by_symbol (Some x) found inside = with_symbol x found (is_text_kind x.kind && x.segment == F.segment) refl (rw found at inside)

-- a symbol that may be referred to and is defined moves
moving_kind : (kind : SymbolKind) → is_referable_kind kind ≡ true → is_outside_kind kind ≡ false → moves kind ≡ true
moving_kind Sd r o = refl
moving_kind Er r o = absurd cc
moving_kind Lr r o = refl
moving_kind Pc r o = refl
moving_kind Cm r o = refl
moving_kind Pr r o = absurd cc
moving_kind Null r o = absurd cc
moving_kind Wx r o = absurd cc

mover_of : (symbols : List SymbolItem) (x : RldItem) → fits x (symbol_at symbols x.r) ≡ true → is_shifted symbols x ≡ true → HasMover symbols x
mover_of symbols x fitting shifted = by_symbol (symbol_at symbols x.r) refl
  where
    address : is_address_kind x ≡ true
    address = both_first (is_address_kind x) (not (is_outside (symbol_at symbols x.r))) shifted

    defined : is_outside (symbol_at symbols x.r) ≡ false
    defined = is_false (is_outside (symbol_at symbols x.r)) (both_second (is_address_kind x) (not (is_outside (symbol_at symbols x.r))) shifted)

    by_symbol : (o : Option SymbolItem) → symbol_at symbols x.r ≡ o → HasMover symbols x
    by_symbol None none = let gone : false ≡ true = rw (address, none) at fitting in absurd cc
    by_symbol (Some y) found =
        let referable : is_referable_kind y.kind ≡ true = rw (address, found) at fitting in
        let inside : is_outside_kind y.kind ≡ false = rw found at defined in
        record { mover = y; found = found; moving = moving_kind y.kind referable inside }

sound_field : (F : Facts) (before : List RldItem) (x : RldItem) → F.segment ≡ 1 → field_fault F before x ≡ None → SoundField F.symbols x
sound_field F before x one none =
    let a : Option RecWhat = when (not (is_some (text_section F x.p)) || not (fits x (symbol_at F.symbols x.r))) BadEsdid in
    let b : Option RecWhat = when (is_address_kind x && differ (is_marked_outside x) (is_outside (symbol_at F.symbols x.r))) BadFlag in
    let c : Option RecWhat = when (not (lies_in (text_section F x.p) x.address (field_length x))) ConstantOutside in
    let d : Option RecWhat = when (list_any (shares_wrongly x) before) ConstantsOverlap in
    let a_none : a ≡ None = left_none a (first_some (b ∷ c ∷ d ∷ [])) none in
    let after_a : first_some (b ∷ c ∷ d ∷ []) ≡ None = right_none a (first_some (b ∷ c ∷ d ∷ [])) none in
    let after_b : first_some (c ∷ d ∷ []) ≡ None = right_none b (first_some (c ∷ d ∷ [])) after_a in
    let c_none : c ≡ None = left_none c (first_some (d ∷ [])) after_b in
    let fitting : fits x (symbol_at F.symbols x.r) ≡ true =
    is_true (fits x (symbol_at F.symbols x.r)) (not_second (not (is_some (text_section F x.p))) (not (fits x (symbol_at F.symbols x.r))) (not_bad _ BadEsdid a_none)) in
    let inside : lies_in (text_section F x.p) x.address (field_length x) ≡ true = is_true _ (not_bad _ ConstantOutside c_none) in
    record { inside = in_section F x.p x.address (field_length x) one inside; mover = λ shifted. mover_of F.symbols x fitting shifted }

shares_none : (F : Facts) (before : List RldItem) (x : RldItem) → field_fault F before x ≡ None → list_any (shares_wrongly x) before ≡ false
shares_none F before x none =
    let a : Option RecWhat = when (not (is_some (text_section F x.p)) || not (fits x (symbol_at F.symbols x.r))) BadEsdid in
    let b : Option RecWhat = when (is_address_kind x && differ (is_marked_outside x) (is_outside (symbol_at F.symbols x.r))) BadFlag in
    let c : Option RecWhat = when (not (lies_in (text_section F x.p) x.address (field_length x))) ConstantOutside in
    let d : Option RecWhat = when (list_any (shares_wrongly x) before) ConstantsOverlap in
    let after_a : first_some (b ∷ c ∷ d ∷ []) ≡ None = right_none a (first_some (b ∷ c ∷ d ∷ [])) none in
    let after_b : first_some (c ∷ d ∷ []) ≡ None = right_none b (first_some (c ∷ d ∷ [])) after_a in
    let after_c : first_some (d ∷ []) ≡ None = right_none c (first_some (d ∷ [])) after_b in
    not_bad _ ConstantsOverlap (left_none d None after_c)

none_shares_more : (y x : RldItem) (ys : List RldItem) → NoneShares y ys → shares_wrongly x y ≡ false → NoneShares y (ys ++ x ∷ [])
none_shares_more y x [] none right = (right, tt)
none_shares_more y x (z ∷ ys) none right = (none.0, none_shares_more y x ys none.1 right)

one_sound_more : (symbols : List SymbolItem) (xs : List RldItem) (x : RldItem) → AllSound symbols xs → SoundField symbols x → list_any (shares_wrongly x) xs ≡ false
    → AllSound symbols (xs ++ x ∷ [])
one_sound_more symbols [] x all sound none = (sound, tt, tt)
one_sound_more symbols (y ∷ xs) x all sound none = (
  all.0,
  none_shares_more y x xs all.1 (not_first (shares_wrongly x y) (list_any (shares_wrongly x) xs) none),
  one_sound_more symbols xs x all.2 sound (not_second (shares_wrongly x y) (list_any (shares_wrongly x) xs) none),
)

sound_more : (F : Facts) (before items : List RldItem) → F.segment ≡ 1 → fields_fault F before items ≡ None → AllSound F.symbols before → AllSound F.symbols (before ++ items)
sound_more F before [] one none all = subst (AllSound F.symbols) (sym (append-nil before)) all
sound_more F before (x ∷ xs) one none all =
    let here : field_fault F before x ≡ None = left_none (field_fault F before x) (fields_fault F (before ++ x ∷ []) xs) none in
    let later : fields_fault F (before ++ x ∷ []) xs ≡ None = right_none (field_fault F before x) (fields_fault F (before ++ x ∷ []) xs) none in
    subst (AllSound F.symbols) (append_assoc before (x ∷ []) xs)
    (sound_more F (before ++ x ∷ []) xs one later
    (one_sound_more F.symbols before x all (sound_field F before x one here) (shares_none F before x here)))

-- items as fields of a segment
abbrev pub as_fields : ℕ → List RldItem → List Field
as_fields s items = map (λ x. record { segment = s; item = x }) items

items_back : (s : ℕ) (items : List RldItem) → map (λ (x : Field). x.item) (as_fields s items) ≡ items
items_back s [] = refl
items_back s (x ∷ xs) = ap (λ ys. x ∷ ys) (items_back s xs)

items_more : (fields : List Field) (s : ℕ) (items : List RldItem) → map (λ (x : Field). x.item) (fields ++ as_fields s items) ≡ map (λ (x : Field). x.item) fields ++ items
items_more fields s items = map-append (λ (x : Field). x.item) fields (as_fields s items) ∙ ap (λ ys. map (λ (x : Field). x.item) fields ++ ys) (items_back s items)

ones_more : (fields : List Field) (s : ℕ) (items : List RldItem) → s ≡ 1 → AllOne fields → AllOne (fields ++ as_fields s items)
ones_more [] s [] one ones = tt
ones_more [] s (x ∷ xs) one ones = (one, ones_more [] s xs one tt)
ones_more (y ∷ fields) s items one ones = (ones.0, ones_more fields s items one ones.1)

texts_more : (symbols : List SymbolItem) (texts : List Text) (t : Text) → AllTexts symbols texts → t.segment ≡ 1 → InSection symbols t.section t.address (length t.bytes)
    → AllTexts symbols (texts ++ t ∷ [])
texts_more symbols [] t all one inside = (one, inside, tt)
texts_more symbols (u ∷ texts) t all one inside = (all.0, all.1, texts_more symbols texts t all.2 one inside)

-- ---- where a segment ends

whole_after : (e : Entry) (segment : ℕ) (ended : Bool) (ends : Ends) → segment ≡ 1 → (is_overlay_member e ≡ false → ends.segment ≡ true → ends.module ≡ true)
    → is_overlay_member e ≡ false → ((if ends.segment then segment + 1 else segment) ≡ 1) ⊎ ((if ends.segment then ends.module else ended) ≡ true)
whole_after e segment ended ends one only plain = by_cases ends.segment refl
  where
    by_cases : (t : Bool) → ends.segment ≡ t → ((if t then segment + 1 else segment) ≡ 1) ⊎ ((if t then ends.module else ended) ≡ true)
    by_cases true is = inr (only plain is)
    by_cases false is = inl one

sound_ended : (e : Entry) (ends : Ends) (F : Facts) → F.segment ≡ 1 → F.due ≡ None → (is_overlay_member e ≡ false → ends.segment ≡ true → ends.module ≡ true)
    → Sound e F → Sound e (ended_by ends F)
sound_ended e ends F one none only sound = by_cases ends.segment refl
  where
    by_cases : (t : Bool) → ends.segment ≡ t → Sound e (if t then record F { segment = F.segment + 1; ended = ends.module } else F)
    by_cases false is = sound
    by_cases true is = record {
      symbols = sound.symbols;
      texts = sound.texts;
      ones = sound.ones;
      fields = sound.fields;
      due = nothing_due F.due none;
      early = λ low. let before : IsEarly F = sound.early low in record { no_texts = before.no_texts; no_fields = before.no_fields; nothing_due = before.nothing_due };
      whole = λ plain. inr (only plain is);
    }
      where
        nothing_due : (o : Option TextHead) → o ≡ None → DueSound e (record F { segment = F.segment + 1; ended = ends.module }) o
        nothing_due None none = tt
        nothing_due (Some t) none = absurd cc

ends_with_module : (e : Entry) (F : Facts) (ends : Ends) → F.segment ≡ 1 → ends_wrongly e F ends ≡ false
    → is_overlay_member e ≡ false → ends.segment ≡ true → ends.module ≡ true
ends_with_module e F ends one right plain ended = by_cases ends.module refl
  where
    last : (ends.segment && not ends.module && F.segment == segment_count e F) ≡ false
    last = not_second (ends.module && nat_lt F.segment (segment_count e F)) (ends.segment && not ends.module && F.segment == segment_count e F) right

    by_cases : (t : Bool) → ends.module ≡ t → ends.module ≡ true
    by_cases true is = is
    by_cases false is =
        let same : (F.segment == 1) ≡ true = grind (arith, one) in
        let gone : true ≡ false = rw (ended, is, plain, same) at last in
        absurd cc

-- ---- records

record SegmentParts (e : Entry) (F : Facts) (ends : Ends) (text : Option TextHead) (items : List RldItem) : Type 0 where
  pub text_right : option_and_then (text_fault F) text ≡ None
  pub fields_right : fields_fault F (map (λ x. x.item) F.fields) items ≡ None
  pub ends_right : ends_wrongly e F ends ≡ false

segment_parts : (e : Entry) (F : Facts) (ends : Ends) (text : Option TextHead) (items : List RldItem) → segment_fault e F ends text items ≡ None
    → SegmentParts e F ends text items
segment_parts e F ends text items none =
    let a : Option RecWhat = when (is_scatter_member e && is_incomplete F) BadScatter in
    let b : Option RecWhat = when (is_overlay_member e && length F.notes == 0) BadOrder in
    let c : Option RecWhat = option_and_then (text_fault F) text in
    let d : Option RecWhat = fields_fault F (map (λ x. x.item) F.fields) items in
    let f : Option RecWhat = when (ends_wrongly e F ends) BadOrder in
    let after_a : first_some (b ∷ c ∷ d ∷ f ∷ []) ≡ None = right_none a (first_some (b ∷ c ∷ d ∷ f ∷ [])) none in
    let after_b : first_some (c ∷ d ∷ f ∷ []) ≡ None = right_none b (first_some (c ∷ d ∷ f ∷ [])) after_a in
    let after_c : first_some (d ∷ f ∷ []) ≡ None = right_none c (first_some (d ∷ f ∷ [])) after_b in
    let after_d : first_some (f ∷ []) ≡ None = right_none d (first_some (f ∷ [])) after_c in
    record {
      text_right = left_none c (first_some (d ∷ f ∷ [])) after_b;
      fields_right = left_none d (first_some (f ∷ [])) after_c;
      ends_right = not_bad _ BadOrder (left_none f None after_d);
    }

text_inside : (F : Facts) (t : TextHead) → F.segment ≡ 1 → text_fault F t ≡ None → InSection F.symbols t.section t.address t.length
text_inside F t one right = in_section F t.section t.address t.length one (is_true _ (not_bad _ TextOutside right))

-- facts with relocation items of the segment
sound_fields : (e : Entry) (F : Facts) (items : List RldItem) → F.segment ≡ 1 → F.due ≡ None → fields_fault F (map (λ x. x.item) F.fields) items ≡ None
    → Sound e F → Sound e (with_fields items F)
sound_fields e F items one none right sound = record {
  symbols = sound.symbols;
  texts = sound.texts;
  ones = ones_more F.fields F.segment items one sound.ones;
  fields = subst (AllSound F.symbols) (sym (items_more F.fields F.segment items)) (sound_more F (map (λ x. x.item) F.fields) items one right sound.fields);
  due = nothing_due F.due none;
  early = λ low. absurd (omega (arith, low));
  whole = sound.whole;
}
  where
    nothing_due : (o : Option TextHead) → o ≡ None → DueSound e (with_fields items F) o
    nothing_due None none = tt
    nothing_due (Some t) none = absurd cc

sound_due : (e : Entry) (F : Facts) (ends : Ends) (t : TextHead) → F.segment ≡ 1 → InSection F.symbols t.section t.address t.length
    → (is_overlay_member e ≡ false → ends.segment ≡ true → ends.module ≡ true) → Sound e F
    → Sound e (record F { stage = 4; due = Some t; ends = ends })
sound_due e F ends t one inside only sound = record {
  symbols = sound.symbols;
  texts = sound.texts;
  ones = sound.ones;
  fields = sound.fields;
  due = (inside, one, only);
  early = λ low. absurd (omega (arith, low));
  whole = sound.whole;
}

-- facts in which only heads have come are as they were in all that segments bring
sound_head : (e : Entry) (F G : Facts) → IsEarly F → G.texts ≡ F.texts → G.fields ≡ F.fields → G.due ≡ F.due → G.segment ≡ F.segment → G.ended ≡ F.ended
    → symbols_fault e [] G.symbols ≡ None → Sound e F → Sound e G
sound_head e F G before texts fields due segment ended right sound =
    let no_texts : G.texts ≡ [] = texts ∙ before.no_texts in
    let no_fields : G.fields ≡ [] = fields ∙ before.no_fields in
    let none : G.due ≡ None = due ∙ before.nothing_due in
    record {
      symbols = right;
      texts = subst (AllTexts G.symbols) (sym no_texts) tt;
      ones = subst AllOne (sym no_fields) tt;
      fields = subst (λ fs. AllSound G.symbols (map (λ (x : Field). x.item) fs)) (sym no_fields) tt;
      due = nothing_due G.due none;
      early = λ _. record { no_texts = no_texts; no_fields = no_fields; nothing_due = none };
      whole = λ plain. carried (sound.whole plain);
    }
  where
    nothing_due : (o : Option TextHead) → o ≡ None → DueSound e G o
    nothing_due None none = tt
    nothing_due (Some t) none = absurd cc

    carried : (F.segment ≡ 1) ⊎ (F.ended ≡ true) → (G.segment ≡ 1) ⊎ (G.ended ≡ true)
    carried (inl one) = inl (segment ∙ one)
    carried (inr end) = inr (ended ∙ end)

sound_contents : (e : Entry) (F : Facts) (x : Record) → F.segment ≡ 1 → F.due ≡ None → nat_lt (stage_of x) F.stage ≡ false → kind_fault e F x ≡ None
    → Sound e F → Sound e (with_contents F x)
sound_contents e F (SymbolRecord first items) one none order right sound =
    let low : F.stage < 4 = grind (arith, order) in
    let symbols_right : symbols_fault e F.symbols (symbols_of items) ≡ None =
    right_none (when (not (first == length F.symbols + 1)) BadEsdid) (symbols_fault e F.symbols (symbols_of items)) right in
    sound_head e F (with_contents F (SymbolRecord first items)) (sound.early low) refl refl refl refl refl
    (symbols_more e [] F.symbols (symbols_of items) sound.symbols symbols_right) sound
sound_contents e F (ScatterRecord first items) one none order right sound =
    let low : F.stage < 4 = grind (arith, order) in
    sound_head e F (with_contents F (ScatterRecord first items)) (sound.early low) refl refl refl refl refl sound.symbols sound
sound_contents e F (TranslationRecord first items) one none order right sound =
    let low : F.stage < 4 = grind (arith, order) in
    sound_head e F (with_contents F (TranslationRecord first items)) (sound.early low) refl refl refl refl refl sound.symbols sound
sound_contents e F (NoteRecord first items) one none order right sound =
    let low : F.stage < 4 = grind (arith, order) in
    sound_head e F (with_contents F (NoteRecord first items)) (sound.early low) refl refl refl refl refl sound.symbols sound
sound_contents e F (ControlRecord ends text) one none order right sound =
    let parts : SegmentParts e F ends (Some text) [] = segment_parts e F ends (Some text) [] right in
    sound_due e F ends text one (text_inside F text one parts.text_right) (ends_with_module e F ends one parts.ends_right) sound
sound_contents e F (RldRecord ends items) one none order right sound =
    let parts : SegmentParts e F ends None (rlds_of items) = segment_parts e F ends None (rlds_of items) right in
    sound_ended e ends (with_fields (rlds_of items) F) one none (ends_with_module e F ends one parts.ends_right)
    (sound_fields e F (rlds_of items) one none parts.fields_right sound)
sound_contents e F (ControlRldRecord ends items text) one none order right sound =
    let parts : SegmentParts e F ends (Some text) (rlds_of items) = segment_parts e F ends (Some text) (rlds_of items) right in
    sound_due e (with_fields (rlds_of items) F) ends text one (text_inside F text one parts.text_right) (ends_with_module e F ends one parts.ends_right)
    (sound_fields e F (rlds_of items) one none parts.fields_right sound)
sound_contents e F (TextRecord bytes) one none order right sound = sound

-- a text record has the length that was told
pub told_length : (bytes : List ℕ) (n : ℕ) → when (not (length bytes == n)) BadLength ≡ None → length bytes ≡ n
told_length bytes n none = let same : (length bytes == n) ≡ true = is_true _ (not_bad _ BadLength none) in grind (arith, same)

sound_text : (e : Entry) (F : Facts) (t : TextHead) (bytes : List ℕ) → F.due ≡ Some t → length bytes ≡ t.length → Sound e F → Sound e (with_record F (Some t) bytes)
sound_text e F t bytes is size sound =
    let due : DueSound e F (Some t) = subst (DueSound e F) is sound.due in
    sound_ended e F.ends (record F {
      texts = F.texts ++ record { segment = F.segment; section = t.section; address = t.address; bytes = bytes } ∷ [];
      due = None;
    })
    due.1 refl due.2
    (record {
      symbols = sound.symbols;
      texts = texts_more F.symbols F.texts (record { segment = F.segment; section = t.section; address = t.address; bytes = bytes }) sound.texts due.1
          (subst (λ k. InSection F.symbols t.section t.address k) (sym size) due.0);
      ones = sound.ones;
      fields = sound.fields;
      due = tt;
      early = λ low. let before : IsEarly F = sound.early low in (let gone : None ≡ Some t = sym before.nothing_due ∙ is in absurd cc);
      whole = sound.whole;
    })

-- what is right with a record where no text is due
pub record RightPlace (e : Entry) (F : Facts) (x : Record) : Type 0 where
  pub goes_on : F.ended ≡ false
  pub order : nat_lt (stage_of x) F.stage ≡ false
  pub kind_right : kind_fault e F x ≡ None

pub right_place : (e : Entry) (F : Facts) (bytes : List ℕ) → fault_with e F None bytes ≡ None → RightPlace e F (contents bytes)
right_place e F bytes none =
    let x : Record = contents bytes in
    let place : place_fault e F x ≡ None = right_none (option_map what_of (own_fault bytes)) (place_fault e F x) none in
    let order : (F.ended || nat_lt (stage_of x) F.stage || not (is_asked e x)) ≡ false =
    not_bad _ BadOrder (left_none (when (F.ended || nat_lt (stage_of x) F.stage || not (is_asked e x)) BadOrder) (kind_fault e F x) place) in
    let two : (F.ended || nat_lt (stage_of x) F.stage) ≡ false = not_first (F.ended || nat_lt (stage_of x) F.stage) (not (is_asked e x)) order in
    record {
      goes_on = not_first F.ended (nat_lt (stage_of x) F.stage) two;
      order = not_second F.ended (nat_lt (stage_of x) F.stage) two;
      kind_right = right_none (when (F.ended || nat_lt (stage_of x) F.stage || not (is_asked e x)) BadOrder) (kind_fault e F x) place;
    }

-- a record that a fetch reads, and that has no fault, is read in segment 1
pub in_segment_one : (e : Entry) (F : Facts) (bytes : List ℕ) → Sound e F → (is_overlay_member e ≡ true → F.segment ≡ 1) → fault e F bytes ≡ None → F.segment ≡ 1
unfolding fault
in_segment_one e F bytes sound fetched none = by_overlay (is_overlay_member e) refl
  where
    by_end : (F.segment ≡ 1) ⊎ (F.ended ≡ true) → F.ended ≡ false → F.segment ≡ 1
    by_end (inl one) on = one
    by_end (inr ended) on = let gone : true ≡ false = sym ended ∙ on in absurd cc

    by_due : (o : Option TextHead) → F.due ≡ o → is_overlay_member e ≡ false → fault_with e F o bytes ≡ None → F.segment ≡ 1
    by_due None is plain right = by_end (sound.whole plain) (right_place e F bytes right).goes_on
    by_due (Some t) is plain right = (subst (DueSound e F) is sound.due).1

    by_overlay : (t : Bool) → is_overlay_member e ≡ t → F.segment ≡ 1
    by_overlay true is = fetched is
    by_overlay false is = by_due F.due refl is none

pub sound_seen : (e : Entry) (F : Facts) (bytes : List ℕ) → F.segment ≡ 1 → fault e F bytes ≡ None → Sound e F → Sound e (seen F bytes)
unfolding fault seen
sound_seen e F bytes one none sound = by_due F.due refl none
  where
    by_due : (o : Option TextHead) → F.due ≡ o → fault_with e F o bytes ≡ None → Sound e (with_record F o bytes)
    by_due None is right =
        let place : RightPlace e F (contents bytes) = right_place e F bytes right in
        sound_contents e F (contents bytes) one is place.order place.kind_right sound
    by_due (Some t) is right = sound_text e F t bytes is (told_length bytes t.length right) sound
