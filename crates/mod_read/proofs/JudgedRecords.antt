-- What a member holds of whose records none has a fault.
use Rattle.std.proofs.Common.{◌≡◌, ℕ, ◌+◌, Bool, true, false, not, ◌&&◌, ◌||◌, ◌==◌, nat_lt, if◌then◌else◌, List, [], ◌∷◌, ◌++◌, map, fold, length, drop, Option, Some, None, option_map, option_and_then, refl, sym, ap, subst, ◌∙◌}
use Rattle.std.specs.Option.{option_or}
use Rattle.std.proofs.lemmas.Bool.{eqb-true}
use Rattle.std.proofs.lemmas.List.{map-append}
use Rattle.le_bytes.specs.declared.record_what.RecWhat.{RecWhat}
use Rattle.le_bytes.specs.declared.record_what.RecWhat.TheVariants.{BadLength, BadOrder, BadEsdid, BadScatter}
use Rattle.pds_directory.specs.declared.entry.Entry.{Entry}
use Rattle.load_recs.specs.Faults.{what_of}
use Rattle.load_recs.specs.Items.{symbols_of, number_at}
use Rattle.load_recs.specs.Relocations.{rlds_of}
use Rattle.load_recs.specs.Records.{Record, SymbolRecord, ScatterRecord, TranslationRecord, NoteRecord, ControlRecord, RldRecord, ControlRldRecord, TextRecord, IsRecord}
use Rattle.load_recs.specs.Reading.{form, own_fault, contents, contents_as, unless, subtype}
use Rattle.load_recs.specs.declared.forms.Form.{Form}
use Rattle.load_recs.specs.declared.forms.Form.TheVariants.{Symbols, Sections, Notes, Control, Rld, ControlRld, Unknown}
use Rattle.load_recs.specs.declared.items.SymbolItem.{SymbolItem}
use Rattle.load_recs.specs.declared.items.RldItem.{RldItem}
use Rattle.load_recs.specs.declared.records.RecFault.{RecFault}
use Rattle.load_recs.specs.declared.records.Expect.TheVariants.{Head}
use Rattle.load_recs.specs.declared.records.Ends.{Ends}
use Rattle.load_recs.specs.declared.records.TextHead.{TextHead}
use Rattle.load_recs.proofs.Spelled as spelled
use Rattle.load_recs.proofs.Spelled.{AreBytes-drop, read_spelled}
use Rattle.member_model.specs.Symbols.{is_overlay_member, is_scatter_member}
use Rattle.member_model.specs.Facts.{Facts, Field, Text, no_facts, seen, ended_by, with_fields, with_contents, with_record, stage_of}
use Rattle.member_model.specs.Faults.{when, is_asked, is_incomplete, ends_wrongly, fields_fault, symbols_fault, segment_fault, kind_fault, place_fault, fault_with, fault, text_fault}
use Rattle.member_model.specs.FirstBad.{at, faults_from}
use Rattle.mod_read.specs.Judged.{AreBytes, AreRecords, LiesIn, IsJudgedDue, items_of, IsJudged}
use Rattle.mod_read.proofs.JudgedSymbols.{all_weaker, all_more, lies_more, field_more, spelled_bytes, symbols_held, symbols_judged, or_none_left, or_none_right}
use Rattle.mod_read.proofs.JudgedFields.{when_none, not_false, text_judged, flags_right, AreJudged, fields_judged}

-- ---- facts that differ in what is not judged

-- the ends of a segment or module
ended_judged : (ends : Ends) (F : Facts) → IsJudged F → IsJudged (ended_by ends F)
ended_judged ends F judged = by_end ends.segment
  where
    by_end : (t : Bool) → IsJudged (if t then record F { segment = F.segment + 1; ended = ends.module } else F)
    by_end true = record { symbols = judged.symbols; texts = judged.texts; due = judged.due; fields = judged.fields; clear = judged.clear }
    by_end false = judged

items_added : (F : Facts) (items : List RldItem) → items_of (with_fields items F) ≡ items_of F ++ items
items_added F items = map-append (λ x. x.item) F.fields (map (λ x. let f : Field = record { segment = F.segment; item = x } in f) items) ∙ ap (λ ys. items_of F ++ ys) (back items)
  where
    back : (items : List RldItem) → map (λ (f : Field). f.item) (map (λ x. let f : Field = record { segment = F.segment; item = x } in f) items) ≡ items
    back [] = refl
    back (x ∷ xs) = ap (λ ys. x ∷ ys) (back xs)

with_fields_judged : (F : Facts) (items : List RldItem) → IsJudged F → AreJudged F.symbols (items_of F ++ items) → IsJudged (with_fields items F)
with_fields_judged F items judged are =
    let more : AreJudged F.symbols (items_of (with_fields items F)) = subst (AreJudged F.symbols) (sym (items_added F items)) are in
    record { symbols = judged.symbols; texts = judged.texts; due = judged.due; fields = more.each; clear = more.clear }

-- ---- the records of segments

record HasNoSegmentFault (F : Facts) (text : Option TextHead) (items : List RldItem) : Type 0 where
  pub told : option_and_then (text_fault F) text ≡ None
  pub each : fields_fault F (items_of F) items ≡ None

segment_parts : (e : Entry) (F : Facts) (ends : Ends) (text : Option TextHead) (items : List RldItem) → segment_fault e F ends text items ≡ None → HasNoSegmentFault F text items
segment_parts e F ends text items fine =
    let a : Option RecWhat = when (is_scatter_member e && is_incomplete F) BadScatter in
    let b : Option RecWhat = when (is_overlay_member e && length F.notes == 0) BadOrder in
    let c : Option RecWhat = option_and_then (text_fault F) text in
    let d : Option RecWhat = fields_fault F (items_of F) items in
    let last : Option RecWhat = option_or (when (ends_wrongly e F ends) BadOrder) None in
    let after_a : option_or b (option_or c (option_or d last)) ≡ None = or_none_right a _ fine in
    let after_b : option_or c (option_or d last) ≡ None = or_none_right b _ after_a in
    let after_c : option_or d last ≡ None = or_none_right c _ after_b in
    record { told = or_none_left c _ after_b; each = or_none_left d _ after_c }

-- ---- what a record holds

-- the symbol items are bytes
abbrev HoldsBytes : Record → Type 0
HoldsBytes (SymbolRecord first items) = spelled.AreBytes items
HoldsBytes _ = Unit {0}

of_sections : (t : Bool) (first : ℕ) (items : List ℕ) → HoldsBytes (if t then ScatterRecord first items else TranslationRecord first items)
of_sections true first items = tt
of_sections false first items = tt

holds_bytes : (f : Form) (bytes : List ℕ) → spelled.AreBytes bytes → HoldsBytes (contents_as f bytes)
holds_bytes Symbols bytes fits = AreBytes-drop 8 bytes fits
holds_bytes Sections bytes fits = of_sections (subtype bytes == 1) (number_at 4 2 bytes) (drop 8 bytes)
holds_bytes Notes bytes fits = tt
holds_bytes (Control ends) bytes fits = tt
holds_bytes (Rld ends) bytes fits = tt
holds_bytes (ControlRld ends) bytes fits = tt
holds_bytes Unknown bytes fits = tt

contents_judged : (e : Entry) (F : Facts) (r : Record) → IsRecord r → HoldsBytes r → kind_fault e F r ≡ None → F.due ≡ None → IsJudged F → IsJudged (with_contents F r)
contents_judged e F (SymbolRecord first items) is holds fine none judged =
    let xs : List SymbolItem = symbols_of items in
    let later : symbols_fault e F.symbols xs ≡ None = or_none_right (when (not (first == length F.symbols + 1)) BadEsdid) _ fine in
    record {
      symbols = symbols_judged e F.symbols xs later (symbols_held items holds is.1) judged.symbols;
      texts = all_weaker _ _ F.texts (λ t lies. lies_more F.symbols xs _ _ _ lies) judged.texts;
      due = subst (IsJudgedDue (F.symbols ++ xs)) (sym none) tt;
      fields = all_weaker _ _ (items_of F) (field_more F.symbols xs) judged.fields;
      clear = judged.clear;
    }
contents_judged e F (ScatterRecord first items) is holds fine none judged =
    record { symbols = judged.symbols; texts = judged.texts; due = judged.due; fields = judged.fields; clear = judged.clear }
contents_judged e F (TranslationRecord first items) is holds fine none judged =
    record { symbols = judged.symbols; texts = judged.texts; due = judged.due; fields = judged.fields; clear = judged.clear }
contents_judged e F (NoteRecord first items) is holds fine none judged =
    record { symbols = judged.symbols; texts = judged.texts; due = judged.due; fields = judged.fields; clear = judged.clear }
contents_judged e F (ControlRecord ends text) is holds fine none judged =
    let parts = segment_parts e F ends (Some text) [] fine in
    record { symbols = judged.symbols; texts = judged.texts; due = text_judged F text parts.told; fields = judged.fields; clear = judged.clear }
contents_judged e F (RldRecord ends items) is holds fine none judged =
    let parts = segment_parts e F ends None (rlds_of items) fine in
    ended_judged ends (with_fields (rlds_of items) F)
    (with_fields_judged F (rlds_of items) judged
    (fields_judged F (items_of F) (rlds_of items) parts.each (flags_right (rlds_of items) is.1.flags) (record { each = judged.fields; clear = judged.clear })))
contents_judged e F (ControlRldRecord ends items text) is holds fine none judged =
    let parts = segment_parts e F ends (Some text) (rlds_of items) fine in
    let more : IsJudged (with_fields (rlds_of items) F) =
    with_fields_judged F (rlds_of items) judged
    (fields_judged F (items_of F) (rlds_of items) parts.each (flags_right (rlds_of items) is.1.flags) (record { each = judged.fields; clear = judged.clear })) in
    record { symbols = more.symbols; texts = more.texts; due = text_judged F text parts.told; fields = more.fields; clear = more.clear }
contents_judged e F (TextRecord bytes) is holds fine none judged = judged

-- ---- one record

unmapped : (o : Option RecFault) → option_map what_of o ≡ None → o ≡ None
unmapped None h = refl
unmapped (Some f) h = cc

head_judged : (e : Entry) (F : Facts) (bytes : List ℕ) → spelled.AreBytes bytes → fault_with e F None bytes ≡ None → F.due ≡ None → IsJudged F → IsJudged (with_contents F (contents bytes))
head_judged e F bytes fits fine none judged =
    let own : own_fault bytes ≡ None = unmapped (own_fault bytes) (or_none_left (option_map what_of (own_fault bytes)) _ fine) in
    let place : place_fault e F (contents bytes) ≡ None = or_none_right (option_map what_of (own_fault bytes)) _ fine in
    let kind : kind_fault e F (contents bytes) ≡ None =
    or_none_right (when (F.ended || nat_lt (stage_of (contents bytes)) F.stage || not (is_asked e (contents bytes))) BadOrder) _ place in
    let is : IsRecord (contents bytes) = (read_spelled Head bytes (contents bytes) fits (ap (λ o. unless o (contents bytes)) own)).1 in
    contents_judged e F (contents bytes) is (holds_bytes (form bytes) bytes fits) kind none judged

text_taken : (F : Facts) (text : TextHead) (bytes : List ℕ) → when (not (length bytes == text.length)) BadLength ≡ None → IsJudgedDue F.symbols (Some text) → IsJudged F
    → IsJudged (with_record F (Some text) bytes)
text_taken F text bytes fine lies judged =
    let same : length bytes ≡ text.length = eqb-true (length bytes) text.length (not_false (length bytes == text.length) (when_none (not (length bytes == text.length)) BadLength fine)) in
    let one : LiesIn F.symbols text.section text.address (length bytes) = subst (LiesIn F.symbols text.section text.address) (sym same) lies in
    let added : Text = record { segment = F.segment; section = text.section; address = text.address; bytes = bytes } in
    ended_judged F.ends (record F { texts = F.texts ++ added ∷ []; due = None })
    (record { symbols = judged.symbols; texts = all_more _ F.texts (added ∷ []) judged.texts (one, tt); due = tt; fields = judged.fields; clear = judged.clear })

record_judged : (e : Entry) (F : Facts) (due : Option TextHead) (bytes : List ℕ) → F.due ≡ due → spelled.AreBytes bytes → fault_with e F due bytes ≡ None → IsJudged F → IsJudged (with_record F due bytes)
record_judged e F None bytes is fits fine judged = head_judged e F bytes fits fine is judged
record_judged e F (Some text) bytes is fits fine judged = text_taken F text bytes fine (subst (IsJudgedDue F.symbols) is judged.due) judged

seen_judged : (e : Entry) (F : Facts) (bytes : List ℕ) → AreBytes bytes → fault e F bytes ≡ None → IsJudged F → IsJudged (seen F bytes)
unfolding seen fault
seen_judged e F bytes fits fine judged = record_judged e F F.due bytes refl (spelled_bytes bytes fits) fine judged

-- ---- all records

unnumbered : (n : ℕ) (o : Option RecWhat) → option_map (at n) o ≡ None → o ≡ None
unnumbered n None h = refl
unnumbered n (Some f) h = cc

pub all_judged : (e : Entry) (F : Facts) (n : ℕ) (records : List (List ℕ)) → AreRecords records → faults_from e F n records ≡ None → IsJudged F → IsJudged (fold seen F records)
unfolding faults_from
all_judged e F n [] bytes fine judged = judged
all_judged e F n (b ∷ bs) bytes fine judged =
    all_judged e (seen F b) (n + 1) bs bytes.1 (or_none_right (option_map (at n) (fault e F b)) _ fine)
    (seen_judged e F b bytes.0 (unnumbered n (fault e F b) (or_none_left (option_map (at n) (fault e F b)) _ fine)) judged)

pub none_judged : IsJudged no_facts
none_judged = record { symbols = tt; texts = tt; due = tt; fields = tt; clear = tt }
