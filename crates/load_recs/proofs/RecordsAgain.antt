-- A record that was written is read as the same record.
use Rattle.std.proofs.Common.{◌≡◌, ℕ, ◌+◌, ◌<◌, ◌≤◌, Bool, true, false, not, ◌||◌, ◌==◌, nat_lt, ◌%◌, List, [], ◌∷◌, ◌++◌, length, take, drop, None, Result, Ok, Err, refl, sym, ap, ◌∙◌, length-append, arith}
use Rattle.std.specs.Prelude.{IfOk}
use Rattle.std.specs.Global.{Vec}
use Rattle.std.proofs.lemmas.List.{take_at, drop_at}
use Rattle.std.proofs.Math.Seq.{take-length}
use Rattle.le_bytes.specs.declared.memory.Memory.{Memory}
use Rattle.std.proofs.lemmas.Bool.Decides.{nat_tests}
use Rattle.byteorder.specs.Endian.{big_bytes}
use Rattle.byteorder.specs.Numbers.{big_number-reads_back}
use Rattle.load_recs.specs.declared.records.Ends.{Ends}
use Rattle.load_recs.specs.declared.records.TextHead.{TextHead}
use Rattle.load_recs.specs.declared.records.Expect.TheVariants.{Head, Text}
use Rattle.load_recs.specs.declared.records.RecFault.{RecFault}
use Rattle.load_recs.specs.declared.records.RecFault.TheVariants.{BadLength, BadType, BadFlag}
use Rattle.load_recs.specs.declared.forms.Form.TheVariants.{Symbols, Sections, Notes, Control, Rld, ControlRld}
use Rattle.load_recs.specs.Forms.{form_of}
use Rattle.load_recs.specs.Items.{number_at, has_wrong_symbol}
use Rattle.load_recs.specs.Relocations.{is_whole, has_wrong_flag, rlds_of}
use Rattle.load_recs.specs.Records.{Record, SymbolRecord, ScatterRecord, TranslationRecord, NoteRecord, ControlRecord, RldRecord, ControlRldRecord, TextRecord, ending, head_record, text_record, rld_record, rec_bytes, most_text, AreItems, IsTextHead, AreRlds, IsRecord}
use Rattle.load_recs.specs.Reading.{first_fault, has_wrong_count, fault_as, contents_as, unless, reading, rld_count, rld_bytes, end_bytes, text_head, has_wrong_size, has_wrong_text_length, expected}

-- ---- identifiers

abbrev ends_with : Bool → Bool → Ends
ends_with s m = record { segment = s; «module» = m }

control_form : (s m : Bool) → (m ≡ true → s ≡ true) → form_of (1 + ending (ends_with s m)) ≡ Control (ends_with s m)
control_form true true h = refl
control_form true false h = refl
control_form false false h = refl
control_form false true h = absurd (let e : false ≡ true = h refl in cc)

rld_form : (s m : Bool) → (m ≡ true → s ≡ true) → form_of (2 + ending (ends_with s m)) ≡ Rld (ends_with s m)
rld_form true true h = refl
rld_form true false h = refl
rld_form false false h = refl
rld_form false true h = absurd (let e : false ≡ true = h refl in cc)

control_rld_form : (s m : Bool) → (m ≡ true → s ≡ true) → form_of (3 + ending (ends_with s m)) ≡ ControlRld (ends_with s m)
control_rld_form true true h = refl
control_rld_form true false h = refl
control_rld_form false false h = refl
control_rld_form false true h = absurd (let e : false ≡ true = h refl in cc)

-- ---- faults that are not there

no_fault_of_2 : (a b : Bool) (f g : RecFault) → a ≡ false → b ≡ false → first_fault ((a, f) ∷ (b, g) ∷ []) ≡ None
no_fault_of_2 a b f g p q = rw (p, q) refl

no_fault_of_3 : (a b c : Bool) (f g h : RecFault) → a ≡ false → b ≡ false → c ≡ false
    → first_fault ((a, f) ∷ (b, g) ∷ (c, h) ∷ []) ≡ None
no_fault_of_3 a b c f g h p q r = rw (p, q, r) refl

no_fault_of_4 : (a b c d : Bool) (f g h i : RecFault) → a ≡ false → b ≡ false → c ≡ false → d ≡ false
    → first_fault ((a, f) ∷ (b, g) ∷ (c, h) ∷ (d, i) ∷ []) ≡ None
no_fault_of_4 a b c d f g h i p q r s = rw (p, q, r, s) refl

no_fault_of_5 : (a b c d e : Bool) (f g h i j : RecFault) → a ≡ false → b ≡ false → c ≡ false → d ≡ false → e ≡ false
    → first_fault ((a, f) ∷ (b, g) ∷ (c, h) ∷ (d, i) ∷ (e, j) ∷ []) ≡ None
no_fault_of_5 a b c d e f g h i j p q r s t = rw (p, q, r, s, t) refl

neither : (a b : Bool) → a ≡ false → b ≡ false → (a || b) ≡ false
neither a b p q = rw (p, q) refl

not_zero : (n : ℕ) → 0 < n → (n == 0) ≡ false
not_zero n some = grind (arith, nat_tests)

not_short : (len least : ℕ) → least ≤ len → nat_lt len least ≡ false
not_short len least long = grind (arith, nat_tests)

size_fine : (told tail count len : ℕ) → told ≡ tail → count ≤ 240 → len ≡ 16 + count + tail
    → (not (told == tail) || nat_lt 240 count || not (len == 16 + count + tail)) ≡ false
size_fine told tail count len same few whole = grind (arith, nat_tests)

count_fine : (count size len : ℕ) → 0 < count → count % size ≡ 0 → count ≤ 240 → len ≡ 8 + count
    → (count == 0 || not (count % size == 0) || nat_lt 240 count || not (len == 8 + count)) ≡ false
count_fine count size len some whole few all = grind (arith, nat_tests)

text_fine : (told again : ℕ) → 0 < told → told ≤ 13030 → again ≡ told → (told == 0 || nat_lt most_text told || not (again == told)) ≡ false
text_fine told again some few same = grind (arith, nat_tests)

-- ---- symbol, scatter, translation and note records

-- what stands in such a record that was written
record IsHead (size first : ℕ) (items bytes : List ℕ) : Type 0 where
  numbered : number_at 4 2 bytes ≡ first
  fine : has_wrong_count size bytes ≡ false
  long : nat_lt (length bytes) 8 ≡ false

is_head : (identifier subtype size first : ℕ) (items : List ℕ) → AreItems size first items → IsHead size first items (head_record identifier subtype first items)
is_head identifier subtype size first items are =
    let bytes = head_record identifier subtype first items in
    let count : number_at 6 2 bytes ≡ length items = big_number-reads_back 2 (length items) [] (omega (arith, are.most)) in
    let whole : number_at 6 2 bytes % size ≡ 0 = ap (λ n. n % size) count ∙ are.whole in
    record {
      numbered = big_number-reads_back 2 first [] are.numbered;
      fine = count_fine (number_at 6 2 bytes) size (length bytes) (omega (arith, are.some, count)) whole (omega (arith, are.most, count)) (omega (arith, count));
      long = not_short (length bytes) 8 (omega arith);
    }

symbols_again : (first : ℕ) (items : List ℕ) → AreItems 16 first items → has_wrong_symbol items ≡ false
    → reading Head (head_record 32 0 first items) ≡ Ok (SymbolRecord first items)
symbols_again first items are fine =
    let bytes = head_record 32 0 first items in
    let is = is_head 32 0 16 first items are in
    let none : fault_as Symbols bytes ≡ None = no_fault_of_3 _ _ _ BadLength BadLength BadType is.long is.fine fine in
    ap (λ o. unless o (contents_as Symbols bytes)) none ∙ ap (λ n. Ok (SymbolRecord n items)) is.numbered

scatters_again : (first : ℕ) (items : List ℕ) → AreItems 4 first items → reading Head (head_record 16 1 first items) ≡ Ok (ScatterRecord first items)
scatters_again first items are =
    let bytes = head_record 16 1 first items in
    let is = is_head 16 1 4 first items are in
    let none : fault_as Sections bytes ≡ None = no_fault_of_3 _ false _ BadLength BadType BadLength is.long refl is.fine in
    ap (λ o. unless o (contents_as Sections bytes)) none ∙ ap (λ n. Ok (ScatterRecord n items)) is.numbered

translations_again : (first : ℕ) (items : List ℕ) → AreItems 2 first items → reading Head (head_record 16 2 first items) ≡ Ok (TranslationRecord first items)
translations_again first items are =
    let bytes = head_record 16 2 first items in
    let is = is_head 16 2 2 first items are in
    let none : fault_as Sections bytes ≡ None = no_fault_of_3 _ false _ BadLength BadType BadLength is.long refl is.fine in
    ap (λ o. unless o (contents_as Sections bytes)) none ∙ ap (λ n. Ok (TranslationRecord n items)) is.numbered

notes_again : (first : ℕ) (items : List ℕ) → AreItems 12 first items → reading Head (head_record 96 0 first items) ≡ Ok (NoteRecord first items)
notes_again first items are =
    let bytes = head_record 96 0 first items in
    let is = is_head 96 0 12 first items are in
    let none : fault_as Notes bytes ≡ None = no_fault_of_2 _ _ BadLength BadLength is.long is.fine in
    ap (λ o. unless o (contents_as Notes bytes)) none ∙ ap (λ n. Ok (NoteRecord n items)) is.numbered

-- ---- records that tell of a text

abbrev tail : TextHead → List ℕ
tail text = big_bytes 2 text.section ++ big_bytes 2 text.length

-- what stands in such a record that was written
record IsWritten (items : List ℕ) (text : TextHead) (bytes : List ℕ) : Type 0 where
  count : rld_count bytes ≡ length items
  long : nat_lt (length bytes) 16 ≡ false
  size : has_wrong_size 4 bytes ≡ false
  held : rld_bytes bytes ≡ items
  told : text_head bytes ≡ text
  fine : has_wrong_text_length bytes ≡ false

told_by : (a l s : ℕ) (text : TextHead) → a ≡ text.address → l ≡ text.length → s ≡ text.section
    → (let t : TextHead = record { address = a; length = l; section = s } in t ≡ text)
told_by a l s text p q r = rw (p, q, r) refl

is_written : (identifier : ℕ) (items : List ℕ) (text : TextHead) → length items ≤ 240 → IsTextHead text → IsWritten items text (text_record identifier items text)
is_written identifier items text few fits =
    let bytes = text_record identifier items text in
    let n = length items in
    let count : rld_count bytes ≡ n = big_number-reads_back 2 n [] (omega arith) in
    let size : length bytes ≡ 20 + n = omega (arith, length-append items (tail text)) in
    let address : number_at 9 3 bytes ≡ text.address = big_number-reads_back 3 text.address [] fits.address in
    let len : number_at 14 2 bytes ≡ text.length = big_number-reads_back 2 text.length [] (omega (arith, fits.most)) in
    let end : end_bytes bytes ≡ tail text = ap (λ k. drop k (items ++ tail text)) count ∙ drop_at items (tail text) n refl in
    let section : number_at 0 2 (end_bytes bytes) ≡ text.section = ap (number_at 0 2) end ∙ big_number-reads_back 2 text.section (big_bytes 2 text.length) fits.section in
    let again : number_at 2 2 (end_bytes bytes) ≡ text.length = ap (number_at 2 2) end ∙ big_number-reads_back 2 text.length [] (omega (arith, fits.most)) in
    record {
      count = count;
      long = not_short (length bytes) 16 (omega (arith, size));
      size = size_fine 4 4 (rld_count bytes) (length bytes) refl (omega (arith, count)) (omega (arith, size, count));
      held = ap (λ k. take k (items ++ tail text)) count ∙ take_at items (tail text) n refl;
      told = told_by (number_at 9 3 bytes) (number_at 14 2 bytes) (number_at 0 2 (end_bytes bytes)) text address len section;
      fine = text_fine (number_at 14 2 bytes) (number_at 2 2 (end_bytes bytes)) (omega (arith, fits.some, len)) (omega (arith, fits.most, len)) (again ∙ sym len);
    }

control_again : (identifier : ℕ) (ends : Ends) (text : TextHead) → form_of identifier ≡ Control ends → IsTextHead text
    → reading Head (text_record identifier [] text) ≡ Ok (ControlRecord ends text)
control_again identifier ends text formed fits =
    let bytes = text_record identifier [] text in
    let is = is_written identifier [] text (omega arith) fits in
    let empty : not (rld_count bytes == 0) ≡ false = ap (λ n. not (n == 0)) is.count in
    let none : fault_as (Control ends) bytes ≡ None = no_fault_of_3 _ _ _ BadLength BadLength BadLength is.long (neither _ _ is.size empty) is.fine in
    ap (λ f. unless (fault_as f bytes) (contents_as f bytes)) formed
    ∙ ap (λ o. unless o (contents_as (Control ends) bytes)) none ∙ ap (λ t. Ok (ControlRecord ends t)) is.told

control_rld_again : (identifier : ℕ) (ends : Ends) (items : List ℕ) (text : TextHead) → form_of identifier ≡ ControlRld ends
    → AreRlds items → 0 < length items → IsTextHead text → reading Head (text_record identifier items text) ≡ Ok (ControlRldRecord ends items text)
control_rld_again identifier ends items text formed are some fits =
    let bytes = text_record identifier items text in
    let is = is_written identifier items text are.most fits in
    let filled : (rld_count bytes == 0) ≡ false = ap (λ n. n == 0) is.count ∙ not_zero (length items) some in
    let whole : not (is_whole (rld_bytes bytes)) ≡ false = ap (λ xs. not (is_whole xs)) is.held ∙ ap not are.whole in
    let flags : has_wrong_flag (rlds_of (rld_bytes bytes)) ≡ false = ap (λ xs. has_wrong_flag (rlds_of xs)) is.held ∙ are.flags in
    let none : fault_as (ControlRld ends) bytes ≡ None =
    no_fault_of_5 _ _ _ _ _ BadLength BadLength BadLength BadLength BadFlag is.long (neither _ _ is.size filled) whole is.fine flags in
    ap (λ f. unless (fault_as f bytes) (contents_as f bytes)) formed
    ∙ ap (λ o. unless o (contents_as (ControlRld ends) bytes)) none
    ∙ ap (λ xs. Ok (ControlRldRecord ends xs (text_head bytes))) is.held ∙ ap (λ t. Ok (ControlRldRecord ends items t)) is.told

-- ---- relocation records

rld_again : (identifier : ℕ) (ends : Ends) (items : List ℕ) → form_of identifier ≡ Rld ends → AreRlds items
    → reading Head (rld_record identifier items) ≡ Ok (RldRecord ends items)
rld_again identifier ends items formed are =
    let bytes = rld_record identifier items in
    let n = length items in
    let count : rld_count bytes ≡ n = big_number-reads_back 2 n [] (omega (arith, are.most)) in
    let held : rld_bytes bytes ≡ items = ap (λ k. take k items) count ∙ take-length items in
    let size : has_wrong_size 0 bytes ≡ false = size_fine 0 0 (rld_count bytes) (length bytes) refl (omega (arith, count, are.most)) (omega (arith, count)) in
    let whole : not (is_whole (rld_bytes bytes)) ≡ false = ap (λ xs. not (is_whole xs)) held ∙ ap not are.whole in
    let flags : has_wrong_flag (rlds_of (rld_bytes bytes)) ≡ false = ap (λ xs. has_wrong_flag (rlds_of xs)) held ∙ are.flags in
    let none : fault_as (Rld ends) bytes ≡ None =
    no_fault_of_4 _ _ _ _ BadLength BadLength BadLength BadFlag (not_short (length bytes) 16 (omega arith)) size whole flags in
    ap (λ f. unless (fault_as f bytes) (contents_as f bytes)) formed
    ∙ ap (λ o. unless o (contents_as (Rld ends) bytes)) none ∙ ap (λ xs. Ok (RldRecord ends xs)) held

-- ---- any record

pub text_again : (bytes : List ℕ) → reading (Text (length bytes)) bytes ≡ Ok (TextRecord bytes)
text_again bytes = let same : (length bytes == length bytes) ≡ true = grind (arith, nat_tests) in rw same refl

pub written_again : (r : Record) → IsRecord r → reading (expected r) (rec_bytes r) ≡ Ok r
written_again (SymbolRecord first items) is = symbols_again first items is.0 is.1
written_again (ScatterRecord first items) is = scatters_again first items is
written_again (TranslationRecord first items) is = translations_again first items is
written_again (NoteRecord first items) is = notes_again first items is
written_again (ControlRecord ends text) is = control_again (1 + ending ends) ends text (control_form ends.segment ends.module is.0) is.1
written_again (RldRecord ends items) is = rld_again (2 + ending ends) ends items (rld_form ends.segment ends.module is.0) is.1
written_again (ControlRldRecord ends items text) is =
    control_rld_again (3 + ending ends) ends items text (control_rld_form ends.segment ends.module is.0) is.1 is.2 is.3
written_again (TextRecord bytes) is = text_again bytes

pub read_again : (r : Record) (written : Result (Vec ℕ) Memory) → IsRecord r → IfOk written (λ v. v.items ≡ rec_bytes r)
    → IfOk written (λ v. reading (expected r) v.items ≡ Ok r)
read_again r (Ok v) is spelled = ap (reading (expected r)) spelled ∙ written_again r is
read_again r (Err e) is spelled = tt
