-- When items of each of the four kinds may come.
use Rattle.std.proofs.Common.{◌≡◌, ℕ, zero, suc, ◌+◌, ◌-◌, ◌<◌, ◌≤◌, ◌^◌, Bool, true, false, not, ◌&&◌, ◌||◌, ◌==◌, nat_lt, List, [], ◌∷◌, ◌++◌, length, take, drop, min, None, refl, sym, ap, subst, ◌∙◌, arith}
use Rattle.std.specs.Str.{bytes_eq}
use Rattle.std.specs.Prelude.{count_by}
use Rattle.std.specs.Option.{option_or}
use Rattle.std.proofs.lemmas.Bool.{and_from, or_from, not_from_true, eq-eqb, le-ltb}
use Rattle.std.proofs.lemmas.List.{take-append-drop, length-take, length-take-le, length-drop, length-append, drop-drop}
use Rattle.std.specs.List.{AllByRecursion}
use Rattle.byteorder.specs.Endian.{big_bytes}
use Rattle.le_bytes.specs.declared.record_what.RecWhat.TheVariants.{BadEsdid, BadScatter, BadOrder}
use Rattle.pds_directory.specs.declared.entry.Entry.{Entry}
use Rattle.load_recs.specs.declared.items.SymbolItem.{SymbolItem}
use Rattle.load_recs.specs.declared.items.NoteItem.{NoteItem}
use Rattle.load_recs.specs.Items.{symbols_of, scatters_of, translations_of, notes_of}
use Rattle.load_recs.specs.ItemBytes.{symbol_bytes, IsSymbol, note_bytes, IsNote}
use Rattle.load_recs.specs.Records.{Record, SymbolRecord, ScatterRecord, TranslationRecord, NoteRecord}
use Rattle.member_model.specs.Symbols.{is_overlay_member, is_scatter_member, is_section, section_addresses}
use Rattle.member_model.specs.Facts.{Facts}
use Rattle.member_model.specs.Faults.{when, symbols_fault, is_next, translations}
use Rattle.member_laws.proofs.HeadKinds.{add_symbols, symbols-record, symbols-again, scatter_bytes, add_scattered, scatters-record, scatters-again, add_translated, translations-record, translations-again, add_notes, notes-record, notes-again}
use Rattle.member_laws.proofs.HeadsFine.{Judges}
use Rattle.member_laws.proofs.HeadsWritten.{symbol_facts}
use Rattle.member_laws.proofs.Items.{bytes_of}
use Rattle.member_laws.proofs.Judging.{judged, judged-record, placed, when-not}
use Rattle.member_laws.proofs.Lists.{each-take}
use Rattle.member_laws.proofs.SymbolsFine.{symbols-parts}

same-number : (k : ℕ) → not (k + 1 == k + 1) ≡ false
same-number k = not_from_true (k + 1 == k + 1) (eq-eqb (k + 1) (k + 1) refl)

number-as : (k n : ℕ) → n ≡ k → not (k + 1 == n + 1) ≡ false
number-as k n e = not_from_true (k + 1 == n + 1) (eq-eqb (k + 1) (n + 1) (omega arith))

-- ---- symbols

-- k symbol items came, and these may follow
pub record SymbolsReady (e : Entry) (k : ℕ) (F : Facts) (xs : List SymbolItem) : Type 0 where
  pub before : List SymbolItem
  pub is : F ≡ symbol_facts before
  pub count : length before ≡ k
  pub fine : symbols_fault e before xs ≡ None

first-taken : (e : Entry) (before xs : List SymbolItem) (n : ℕ) → symbols_fault e before xs ≡ None
    → (symbols_fault e before (take n xs) ≡ None) × (symbols_fault e (before ++ take n xs) (drop n xs) ≡ None)
first-taken e before xs n fine = symbols-parts e before (take n xs) (drop n xs) (ap (symbols_fault e before) (take-append-drop n xs) ∙ fine)

pub judges-symbols : (e : Entry) → Judges e (λ first items. SymbolRecord first items) 15 symbol_bytes IsSymbol add_symbols (SymbolsReady e)
unfolding add_symbols
judges-symbols e =
    record {
      fine = λ k F xs ready fits some few good. fine k F xs ready fits some few good;
      next = λ k F xs ready full. record {
        before = ready.before ++ take 15 xs;
        is = ap (λ (G : Facts). record G { symbols = G.symbols ++ take 15 xs; stage = 0 }) ready.is;
        count = length-append ready.before (take 15 xs) ∙ total _ _ k (ready.count) (length-take-le 15 xs (omega arith));
        fine = (first-taken e ready.before xs 15 ready.fine).1;
      };
      due = λ k F xs ready. ap (λ (G : Facts). G.due) ready.is;
    }
  where
    total : (a b k : ℕ) → a ≡ k → b ≡ 15 → a + b ≡ k + 15
    total a b k p q = omega arith

    fine : (k : ℕ) (F : Facts) (xs : List SymbolItem) → SymbolsReady e k F xs → k + 1 < 2 ^ 16 → 1 ≤ length (take 15 xs) → length (take 15 xs) ≤ 15 → AllByRecursion IsSymbol (take 15 xs)
        → judged e F (SymbolRecord (k + 1) (bytes_of symbol_bytes (take 15 xs))) ≡ None
    fine k F xs ready fits some few good =
        let r = SymbolRecord (k + 1) (bytes_of symbol_bytes (take 15 xs)) in
        ap (λ G. judged e G r) ready.is
        ∙ judged-record e (symbol_facts ready.before) r (symbols-record (k + 1) (take 15 xs) fits some few good) refl refl
        ∙ placed e (symbol_facts ready.before) r refl (omega arith) refl
        (ap (λ o. option_or o (symbols_fault e ready.before (symbols_of (bytes_of symbol_bytes (take 15 xs))))) (when-not (not (k + 1 == length ready.before + 1)) BadEsdid (number-as k (length ready.before) ready.count))
        ∙ ap (symbols_fault e ready.before) (symbols-again (take 15 xs) good)
        ∙ (first-taken e ready.before xs 15 ready.fine).0)

-- ---- scatter and translation items

bytes-same : (xs : List ℕ) → bytes_eq xs xs ≡ true
bytes-same [] = refl
bytes-same (x ∷ xs) = and_from (x == x) (bytes_eq xs xs) (eq-eqb x x refl) (bytes-same xs)

-- the first of those that are wanted after k are the next
next-taken : (wanted xs : List ℕ) (k n : ℕ) → xs ≡ drop k wanted → length (take n xs) ≤ n → is_next wanted k (take n xs) ≡ true
next-taken wanted xs k n left few =
    subst (λ ys. bytes_eq (take n xs) (take (length (take n xs)) ys) ≡ true) left
    (ap (bytes_eq (take n xs)) (taken n xs) ∙ bytes-same (take n xs))
  where
    taken : (n : ℕ) (ys : List ℕ) → take (length (take n ys)) ys ≡ take n ys
    taken zero ys = refl
    taken (suc n) [] = refl
    taken (suc n) (y ∷ ys) = ap (λ l. y ∷ l) (taken n ys)

next-left : (wanted xs : List ℕ) (k n : ℕ) → xs ≡ drop k wanted → drop n xs ≡ drop (k + n) wanted
next-left wanted xs k n left = ap (drop n) left ∙ drop-drop n k wanted

-- k scatter items came, and these are all others
pub record ScatterReady (e : Entry) (symbols : List SymbolItem) (k : ℕ) (F : Facts) (xs : List ℕ) : Type 0 where
  pub stage : ℕ
  pub early : stage ≤ 1
  pub is : F ≡ record (symbol_facts symbols) { scattered = k; stage = stage }
  pub left : xs ≡ drop k (section_addresses symbols)
  pub asked : is_scatter_member e ≡ true

pub judges-scattered : (e : Entry) (symbols : List SymbolItem) → Judges e (λ first items. ScatterRecord first items) 60 scatter_bytes (λ a. a < 2 ^ 24) add_scattered (ScatterReady e symbols)
unfolding add_scattered
judges-scattered e symbols =
    record {
      fine = λ k F xs ready fits some few good. fine k F xs ready fits some few good;
      next = λ k F xs ready full. record {
        stage = 1;
        early = omega arith;
        is = ap (λ (G : Facts). record G { scattered = G.scattered + length (take 60 xs); stage = 1 }) ready.is
            ∙ ap (λ n. record (symbol_facts symbols) { scattered = k + n; stage = 1 }) (length-take-le 60 xs (omega arith));
        left = next-left (section_addresses symbols) xs k 60 ready.left;
        asked = ready.asked;
      };
      due = λ k F xs ready. ap (λ (G : Facts). G.due) ready.is;
    }
  where
    fine : (k : ℕ) (F : Facts) (xs : List ℕ) → ScatterReady e symbols k F xs → k + 1 < 2 ^ 16 → 1 ≤ length (take 60 xs) → length (take 60 xs) ≤ 60 → AllByRecursion (λ a. a < 2 ^ 24) (take 60 xs)
        → judged e F (ScatterRecord (k + 1) (bytes_of scatter_bytes (take 60 xs))) ≡ None
    fine k F xs ready fits some few good =
        let r = ScatterRecord (k + 1) (bytes_of scatter_bytes (take 60 xs)) in
        let G : Facts = record (symbol_facts symbols) { scattered = k; stage = ready.stage } in
        ap (λ H. judged e H r) ready.is
        ∙ judged-record e G r (scatters-record (k + 1) (take 60 xs) fits some few) refl refl
        ∙ placed e G r refl ready.early ready.asked
        (when-not (not (k + 1 == k + 1) || not (is_next (section_addresses symbols) k (scatters_of (bytes_of scatter_bytes (take 60 xs))))) BadScatter
        (or_from (not (k + 1 == k + 1)) (not (is_next (section_addresses symbols) k (scatters_of (bytes_of scatter_bytes (take 60 xs))))) (same-number k)
        (not_from_true (is_next (section_addresses symbols) k (scatters_of (bytes_of scatter_bytes (take 60 xs))))
        (ap (is_next (section_addresses symbols) k) (scatters-again (take 60 xs) good) ∙ next-taken (section_addresses symbols) xs k 60 ready.left few))))

-- k translation items came after all scatter items, and these are all others
pub record TranslationReady (e : Entry) (symbols : List SymbolItem) (k : ℕ) (F : Facts) (xs : List ℕ) : Type 0 where
  pub stage : ℕ
  pub early : stage ≤ 2
  pub is : F ≡ record (symbol_facts symbols) { scattered = count_by is_section symbols; translated = k; stage = stage }
  pub left : xs ≡ drop k (translations symbols)
  pub asked : is_scatter_member e ≡ true

pub judges-translated : (e : Entry) (symbols : List SymbolItem) → Judges e (λ first items. TranslationRecord first items) 120 (big_bytes 2) (λ a. a < 2 ^ 16) add_translated (TranslationReady e symbols)
unfolding add_translated
judges-translated e symbols =
    record {
      fine = λ k F xs ready fits some few good. fine k F xs ready fits some few good;
      next = λ k F xs ready full. record {
        stage = 2;
        early = omega arith;
        is = ap (λ (G : Facts). record G { translated = G.translated + length (take 120 xs); stage = 2 }) ready.is
            ∙ ap (λ n. record (symbol_facts symbols) { scattered = count_by is_section symbols; translated = k + n; stage = 2 }) (length-take-le 120 xs (omega arith));
        left = next-left (translations symbols) xs k 120 ready.left;
        asked = ready.asked;
      };
      due = λ k F xs ready. ap (λ (G : Facts). G.due) ready.is;
    }
  where
    fine : (k : ℕ) (F : Facts) (xs : List ℕ) → TranslationReady e symbols k F xs → k + 1 < 2 ^ 16 → 1 ≤ length (take 120 xs) → length (take 120 xs) ≤ 120 → AllByRecursion (λ a. a < 2 ^ 16) (take 120 xs)
        → judged e F (TranslationRecord (k + 1) (bytes_of (big_bytes 2) (take 120 xs))) ≡ None
    fine k F xs ready fits some few good =
        let r = TranslationRecord (k + 1) (bytes_of (big_bytes 2) (take 120 xs)) in
        let n = count_by is_section symbols in
        let G : Facts = record (symbol_facts symbols) { scattered = n; translated = k; stage = ready.stage } in
        let items = translations_of (bytes_of (big_bytes 2) (take 120 xs)) in
        ap (λ H. judged e H r) ready.is
        ∙ judged-record e G r (translations-record (k + 1) (take 120 xs) fits some few) refl refl
        ∙ placed e G r refl ready.early ready.asked
        (when-not (not (k + 1 == k + 1) || nat_lt n n || not (is_next (translations symbols) k items)) BadScatter
        (or_from (not (k + 1 == k + 1) || nat_lt n n) (not (is_next (translations symbols) k items))
        (or_from (not (k + 1 == k + 1)) (nat_lt n n) (same-number k) (le-ltb n n (omega arith)))
        (not_from_true (is_next (translations symbols) k items)
        (ap (is_next (translations symbols) k) (translations-again (take 120 xs) good) ∙ next-taken (translations symbols) xs k 120 ready.left few))))

-- ---- notes

-- k notes came, and with these there are at most 255
pub record NotesReady (e : Entry) (symbols : List SymbolItem) (k : ℕ) (F : Facts) (xs : List NoteItem) : Type 0 where
  pub before : List NoteItem
  pub stage : ℕ
  pub early : stage ≤ 3
  pub is : F ≡ record (symbol_facts symbols) { notes = before; stage = stage }
  pub count : length before ≡ k
  pub few : k + length xs ≤ 255
  pub asked : is_overlay_member e ≡ true

pub judges_notes : (e : Entry) (symbols : List SymbolItem) → Judges e (λ first items. NoteRecord first items) 20 note_bytes IsNote add_notes (NotesReady e symbols)
unfolding add_notes
judges_notes e symbols =
    record {
      fine = λ k F xs ready fits some few good. fine k F xs ready fits some few good;
      next = λ k F xs ready full.
          let room : k + length xs ≤ 255 = ready.few in
          let left : length (drop 20 xs) ≡ length xs - 20 = length-drop 20 xs in
          record {
            before = ready.before ++ take 20 xs;
            stage = 3;
            early = omega arith;
            is = ap (λ (G : Facts). record G { notes = G.notes ++ take 20 xs; stage = 3 }) ready.is;
            count = length-append ready.before (take 20 xs) ∙ total _ _ k ready.count (length-take-le 20 xs (omega arith));
            few = omega arith;
            asked = ready.asked;
          };
      due = λ k F xs ready. ap (λ (G : Facts). G.due) ready.is;
    }
  where
    total : (a b k : ℕ) → a ≡ k → b ≡ 20 → a + b ≡ k + 20
    total a b k p q = omega arith

    fine : (k : ℕ) (F : Facts) (xs : List NoteItem) → NotesReady e symbols k F xs → k + 1 < 2 ^ 16 → 1 ≤ length (take 20 xs) → length (take 20 xs) ≤ 20 → AllByRecursion IsNote (take 20 xs)
        → judged e F (NoteRecord (k + 1) (bytes_of note_bytes (take 20 xs))) ≡ None
    fine k F xs ready fits some few good =
        let r = NoteRecord (k + 1) (bytes_of note_bytes (take 20 xs)) in
        let G : Facts = record (symbol_facts symbols) { notes = ready.before; stage = ready.stage } in
        let n = length ready.before in
        let taken : length (take 20 xs) ≡ min 20 (length xs) = length-take 20 xs in
        let room : k + length xs ≤ 255 = ready.few in
        let count : n ≡ k = ready.count in
        ap (λ H. judged e H r) ready.is
        ∙ judged-record e G r (notes-record (k + 1) (take 20 xs) fits some few) refl refl
        ∙ placed e G r refl ready.early ready.asked
        (when-not (not (k + 1 == n + 1) || nat_lt 255 (n + length (notes_of (bytes_of note_bytes (take 20 xs))))) BadOrder
        (or_from (not (k + 1 == n + 1)) (nat_lt 255 (n + length (notes_of (bytes_of note_bytes (take 20 xs))))) (number-as k n count)
        (ap (λ l. nat_lt 255 (n + length l)) (notes-again (take 20 xs) good) ∙ le-ltb 255 (n + length (take 20 xs)) (omega arith))))
