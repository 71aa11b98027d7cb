-- The four kinds of head records, and what each adds to the facts.
use Rattle.std.proofs.Common.{◌≡◌, ℕ, zero, suc, ◌+◌, ◌*◌, ◌/◌, ◌%◌, ◌<◌, ◌≤◌, ◌^◌, Bool, true, false, List, [], ◌∷◌, ◌++◌, map, length, None, refl, sym, ap, subst, ◌∙◌, arith}
use Rattle.std.proofs.lemmas.List.{append_assoc, length-append}
use Rattle.std.specs.List.{AllByRecursion}
use Rattle.byteorder.specs.Endian.{big_bytes}
use Rattle.byteorder.specs.Numbers.{big_number-reads_back}
use Rattle.load_recs.specs.declared.items.SymbolItem.{SymbolItem}
use Rattle.load_recs.specs.declared.items.NoteItem.{NoteItem}
use Rattle.load_recs.specs.Items.{symbol_of, symbols_of, is_wrong_symbol, has_wrong_symbol, scatter_of, scatters_of, translation_of, translations_of, note_of, notes_of}
use Rattle.load_recs.specs.ItemBytes.{symbol_bytes, IsSymbol, note_bytes, IsNote}
use Rattle.load_recs.specs.Records.{Record, SymbolRecord, ScatterRecord, TranslationRecord, NoteRecord, AreItems, IsRecord}
use Rattle.load_recs.proofs.ItemsAgain.{symbol_again, symbol_accepted}
use Rattle.member_model.specs.Facts.{Facts}
use Rattle.member_laws.proofs.Heads.{Adds}
use Rattle.member_laws.proofs.Items.{bytes_of, length-bytes, whole-bytes, values-again, none-wrong}
use Rattle.member_laws.proofs.Lists.{each-weaker, each-always}
use Rattle.member_laws.proofs.Reading.{saw, saw-record}

-- up to `per` items of `size` bytes, in 240 bytes, as a record may hold them
are-items : {X : Type 0} (bytes : X → List ℕ) (size per k : ℕ) (xs : List X) → AllByRecursion (λ x. length (bytes x) ≡ size) xs → size * per ≡ 240 → 1 ≤ size
    → k < 2 ^ 16 → 1 ≤ length xs → length xs ≤ per → AreItems size k (bytes_of bytes xs)
are-items bytes size per k xs whole room positive fits some few =
    let len : length (bytes_of bytes xs) ≡ size * length xs = length-bytes bytes size xs whole in
    record {
      numbered = fits;
      some = rw len (filled size (length xs) positive some);
      most = rw len (bounded size (length xs) per few room);
      whole = whole-bytes bytes size xs whole;
    }
  where
    filled : (a b : ℕ) → 1 ≤ a → 1 ≤ b → 0 < a * b
    filled a b p q = grind arith

    bounded : (a b c : ℕ) → b ≤ c → a * c ≡ 240 → a * b ≤ 240
    bounded a b c p q = grind arith

-- ---- symbols

symbol-size : (x : SymbolItem) → IsSymbol x → length (symbol_bytes x) ≡ 16
symbol-size x is = length-append x.name.0 _ ∙ ap (λ n. n + 8) is.name

pub symbols-record : (k : ℕ) (xs : List SymbolItem) → k < 2 ^ 16 → 1 ≤ length xs → length xs ≤ 15 → AllByRecursion IsSymbol xs → IsRecord (SymbolRecord k (bytes_of symbol_bytes xs))
symbols-record k xs fits some few good =
    let whole : AllByRecursion (λ x. length (symbol_bytes x) ≡ 16) xs = each-weaker IsSymbol _ symbol-size xs good in (
      are-items symbol_bytes 16 15 k xs whole refl (omega arith) fits some few,
      none-wrong is_wrong_symbol symbol_bytes 16 xs (omega arith) whole (each-weaker IsSymbol _ symbol_accepted xs good),
    )

pub symbols-again : (xs : List SymbolItem) → AllByRecursion IsSymbol xs → symbols_of (bytes_of symbol_bytes xs) ≡ xs
symbols-again xs good = values-again symbol_of symbol_bytes 16 xs (omega arith) (each-weaker IsSymbol _ symbol-size xs good) (each-weaker IsSymbol _ symbol_again xs good)

unfoldable pub add_symbols : Facts → List SymbolItem → Facts
add_symbols F xs = record F { symbols = F.symbols ++ xs; stage = 0 }

pub adds-symbols : Adds (λ first items. SymbolRecord first items) 15 symbol_bytes IsSymbol add_symbols
unfolding add_symbols
adds-symbols =
    record {
      one = λ F k xs none fits some few good. one F k xs none fits some few good;
      twice = λ F xs ys. ap (λ l. record F { symbols = l; stage = 0 }) (append_assoc F.symbols xs ys);
      due = λ F xs. refl;
      segment = λ F xs. refl;
    }
  where
    one : (F : Facts) (k : ℕ) (xs : List SymbolItem) → F.due ≡ None → k < 2 ^ 16 → 1 ≤ length xs → length xs ≤ 15 → AllByRecursion IsSymbol xs
        → saw F (SymbolRecord k (bytes_of symbol_bytes xs)) ≡ record F { symbols = F.symbols ++ xs; stage = 0 }
    one F k xs none fits some few good =
        saw-record F (SymbolRecord k (bytes_of symbol_bytes xs)) (symbols-record k xs fits some few good) refl none
        ∙ ap (λ l. record F { symbols = F.symbols ++ l; stage = 0 }) (symbols-again xs good)

-- ---- scatter and translation items

-- the item of an address
abbrev pub scatter_bytes : ℕ → List ℕ
scatter_bytes a = 0 ∷ big_bytes 3 a

unfoldable pub add_scattered : Facts → List ℕ → Facts
add_scattered F xs = record F { scattered = F.scattered + length xs; stage = 1 }

more : (n : ℕ) (xs ys : List ℕ) → n + length xs + length ys ≡ n + length (xs ++ ys)
more n xs ys = omega (arith, length-append xs ys)

pub scatters-record : (k : ℕ) (xs : List ℕ) → k < 2 ^ 16 → 1 ≤ length xs → length xs ≤ 60 → IsRecord (ScatterRecord k (bytes_of scatter_bytes xs))
scatters-record k xs fits some few = are-items scatter_bytes 4 60 k xs (each-always _ (λ a. refl) xs) refl (omega arith) fits some few

pub scatters-again : (xs : List ℕ) → AllByRecursion (λ a. a < 2 ^ 24) xs → scatters_of (bytes_of scatter_bytes xs) ≡ xs
scatters-again xs good =
    values-again scatter_of scatter_bytes 4 xs (omega arith) (each-always _ (λ a. refl) xs)
    (each-weaker (λ a. a < 2 ^ 24) _ (λ a fits. big_number-reads_back 3 a [] fits) xs good)

pub adds-scattered : Adds (λ first items. ScatterRecord first items) 60 scatter_bytes (λ a. a < 2 ^ 24) add_scattered
unfolding add_scattered
adds-scattered =
    record {
      one = λ F k xs none fits some few good. one F k xs none fits some few good;
      twice = λ F xs ys. ap (λ n. record F { scattered = n; stage = 1 }) (more F.scattered xs ys);
      due = λ F xs. refl;
      segment = λ F xs. refl;
    }
  where
    one : (F : Facts) (k : ℕ) (xs : List ℕ) → F.due ≡ None → k < 2 ^ 16 → 1 ≤ length xs → length xs ≤ 60 → AllByRecursion (λ a. a < 2 ^ 24) xs
        → saw F (ScatterRecord k (bytes_of scatter_bytes xs)) ≡ record F { scattered = F.scattered + length xs; stage = 1 }
    one F k xs none fits some few good =
        saw-record F (ScatterRecord k (bytes_of scatter_bytes xs)) (scatters-record k xs fits some few) refl none
        ∙ ap (λ l. record F { scattered = F.scattered + length l; stage = 1 }) (scatters-again xs good)

unfoldable pub add_translated : Facts → List ℕ → Facts
add_translated F xs = record F { translated = F.translated + length xs; stage = 2 }

pub translations-record : (k : ℕ) (xs : List ℕ) → k < 2 ^ 16 → 1 ≤ length xs → length xs ≤ 120 → IsRecord (TranslationRecord k (bytes_of (big_bytes 2) xs))
translations-record k xs fits some few = are-items (big_bytes 2) 2 120 k xs (each-always _ (λ a. refl) xs) refl (omega arith) fits some few

pub translations-again : (xs : List ℕ) → AllByRecursion (λ a. a < 2 ^ 16) xs → translations_of (bytes_of (big_bytes 2) xs) ≡ xs
translations-again xs good =
    values-again translation_of (big_bytes 2) 2 xs (omega arith) (each-always _ (λ a. refl) xs)
    (each-weaker (λ a. a < 2 ^ 16) _ (λ a fits. big_number-reads_back 2 a [] fits) xs good)

pub adds-translated : Adds (λ first items. TranslationRecord first items) 120 (big_bytes 2) (λ a. a < 2 ^ 16) add_translated
unfolding add_translated
adds-translated =
    record {
      one = λ F k xs none fits some few good. one F k xs none fits some few good;
      twice = λ F xs ys. ap (λ n. record F { translated = n; stage = 2 }) (more F.translated xs ys);
      due = λ F xs. refl;
      segment = λ F xs. refl;
    }
  where
    one : (F : Facts) (k : ℕ) (xs : List ℕ) → F.due ≡ None → k < 2 ^ 16 → 1 ≤ length xs → length xs ≤ 120 → AllByRecursion (λ a. a < 2 ^ 16) xs
        → saw F (TranslationRecord k (bytes_of (big_bytes 2) xs)) ≡ record F { translated = F.translated + length xs; stage = 2 }
    one F k xs none fits some few good =
        saw-record F (TranslationRecord k (bytes_of (big_bytes 2) xs)) (translations-record k xs fits some few) refl none
        ∙ ap (λ l. record F { translated = F.translated + length l; stage = 2 }) (translations-again xs good)

-- ---- notes

unfoldable pub add_notes : Facts → List NoteItem → Facts
add_notes F xs = record F { notes = F.notes ++ xs; stage = 3 }

note-again : (x : NoteItem) → IsNote x → note_of (note_bytes x) ≡ x
note-again x is = note_is _ _ _ x (big_number-reads_back 3 x.first [] is.first_fits) (big_number-reads_back 3 x.origin [] is.origin_fits) (big_number-reads_back 3 x.length [] is.length_fits)
  where
    note_is : (a b c : ℕ) (x : NoteItem) → a ≡ x.first → b ≡ x.origin → c ≡ x.length → (let y : NoteItem = record { first = a; origin = b; length = c } in y ≡ x)
    note_is a b c x p q r = rw (p, q, r) refl

pub notes-record : (k : ℕ) (xs : List NoteItem) → k < 2 ^ 16 → 1 ≤ length xs → length xs ≤ 20 → IsRecord (NoteRecord k (bytes_of note_bytes xs))
notes-record k xs fits some few = are-items note_bytes 12 20 k xs (each-always _ (λ a. refl) xs) refl (omega arith) fits some few

pub notes-again : (xs : List NoteItem) → AllByRecursion IsNote xs → notes_of (bytes_of note_bytes xs) ≡ xs
notes-again xs good =
    values-again note_of note_bytes 12 xs (omega arith) (each-always _ (λ a. refl) xs) (each-weaker IsNote _ note-again xs good)

pub adds_notes : Adds (λ first items. NoteRecord first items) 20 note_bytes IsNote add_notes
unfolding add_notes
adds_notes =
    record {
      one = λ F k xs none fits some few good. one F k xs none fits some few good;
      twice = λ F xs ys. ap (λ l. record F { notes = l; stage = 3 }) (append_assoc F.notes xs ys);
      due = λ F xs. refl;
      segment = λ F xs. refl;
    }
  where
    one : (F : Facts) (k : ℕ) (xs : List NoteItem) → F.due ≡ None → k < 2 ^ 16 → 1 ≤ length xs → length xs ≤ 20 → AllByRecursion IsNote xs
        → saw F (NoteRecord k (bytes_of note_bytes xs)) ≡ record F { notes = F.notes ++ xs; stage = 3 }
    one F k xs none fits some few good =
        saw-record F (NoteRecord k (bytes_of note_bytes xs)) (notes-record k xs fits some few) refl none
        ∙ ap (λ l. record F { notes = F.notes ++ l; stage = 3 }) (notes-again xs good)
