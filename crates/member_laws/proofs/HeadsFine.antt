-- Head records have no fault, where what they hold may come.
use Rattle.std.proofs.Common.{◌≡◌, ℕ, zero, suc, ◌+◌, ◌-◌, ◌*◌, ◌<◌, ◌≤◌, ◌^◌, Bool, true, false, not, ◌&&◌, ◌||◌, ◌==◌, nat_lt, List, [], ◌∷◌, ◌++◌, map, length, take, drop, None, min, refl, sym, ap, subst, ◌∙◌, arith}
use Rattle.std.specs.Str.{bytes_eq}
use Rattle.std.specs.Prelude.{count_by}
use Rattle.std.specs.Option.{option_or}
use Rattle.std.proofs.lemmas.Bool.{and_from, or_from, not_from_true, eq-eqb, le-ltb}
use Rattle.std.proofs.lemmas.List.{take-map, drop-map, take_all, take-append-drop, length-take-le, length-take, length-drop, length-map, length-append, drop-drop, append_assoc}
use Rattle.std.specs.List.{AllByRecursion}
use Rattle.byteorder.specs.Endian.{big_bytes}
use Rattle.le_bytes.specs.declared.record_what.RecWhat.TheVariants.{BadEsdid, BadScatter, BadOrder}
use Rattle.pds_directory.specs.declared.entry.Entry.{Entry}
use Rattle.load_recs.specs.declared.items.SymbolItem.{SymbolItem}
use Rattle.load_recs.specs.declared.items.NoteItem.{NoteItem}
use Rattle.load_recs.specs.Items.{scatters_of, translations_of, notes_of}
use Rattle.load_recs.specs.ItemBytes.{symbol_bytes, IsSymbol, note_bytes, IsNote}
use Rattle.load_recs.specs.Records.{Record, SymbolRecord, ScatterRecord, TranslationRecord, NoteRecord}
use Rattle.member_model.specs.Symbols.{is_overlay_member, is_scatter_member, is_section, section_addresses}
use Rattle.member_model.specs.SymbolList.{head_records}
use Rattle.member_model.specs.Cuts.{together}
use Rattle.member_model.specs.Facts.{Facts}
use Rattle.member_model.specs.Faults.{when, symbols_fault, is_next, translations, lacks_scatter}
use Rattle.member_laws.proofs.Cutting.{cuts_in, parts_of, Fits, parts-fit, rest-fits, first-some, first-full, none-fit, last-fits}
use Rattle.member_laws.proofs.HeadKinds.{add_symbols, adds-symbols, symbols-record, symbols-again, scatter_bytes, add_scattered, adds-scattered, scatters-record, scatters-again, add_translated, adds-translated, translations-record, translations-again, add_notes, adds_notes, notes-record, notes-again}
use Rattle.member_laws.proofs.Heads.{heads_in, heads-are, Adds, with_any}
use Rattle.member_laws.proofs.HeadsWritten.{symbol_facts}
use Rattle.member_laws.proofs.Items.{bytes_of}
use Rattle.member_laws.proofs.Judging.{judged, judged-record, placed, when-not, Fine, fine-none, fine-one, fine-cons}
use Rattle.member_laws.proofs.Lists.{each-take, each-drop}
use Rattle.member_laws.proofs.Reading.{saw}
use Rattle.member_laws.proofs.SymbolsFine.{symbols-parts}

-- ---- one kind after another

-- `Ready k F xs` says that k items have come, F are the facts, and the items xs may follow
pub record Judges {X : Type 0} (e : Entry) (make : ℕ → List ℕ → Record) (per : ℕ) (bytes : X → List ℕ) (Good : X → Type 0) (add : Facts → List X → Facts) (Ready : ℕ → Facts → List X → Type 0) : Type 0 where
  pub fine : (k : ℕ) (F : Facts) (xs : List X) → Ready k F xs → k + 1 < 2 ^ 16 → 1 ≤ length (take per xs) → length (take per xs) ≤ per → AllByRecursion Good (take per xs)
      → judged e F (make (k + 1) (bytes_of bytes (take per xs))) ≡ None
  pub next : (k : ℕ) (F : Facts) (xs : List X) → Ready k F xs → per < length xs → Ready (k + per) (add F (take per xs)) (drop per xs)
  pub due : (k : ℕ) (F : Facts) (xs : List X) → Ready k F xs → F.due ≡ None

taken-some : {X : Type 0} (per c : ℕ) (xs : List X) → 1 ≤ per → Fits per (suc c) (length xs) → (1 ≤ length (take per xs)) × (length (take per xs) ≤ per)
taken-some per c xs any fits =
    let len : length (take per xs) ≡ min per (length xs) = length-take per xs in
    let some : 1 ≤ length xs = first-some per c (length xs) fits in
    (omega arith, omega arith)

first-fine : {X : Type 0} (e : Entry) (make : ℕ → List ℕ → Record) (per : ℕ) (bytes : X → List ℕ) (Good : X → Type 0) (add : Facts → List X → Facts) (Ready : ℕ → Facts → List X → Type 0)
    → Judges e make per bytes Good add Ready → 1 ≤ per → (j c : ℕ) (xs : List X) (F : Facts) → Ready (j * per) F xs → Fits per (suc c) (length xs) → AllByRecursion Good xs → j * per + length xs < 2 ^ 16
    → judged e F (make (j * per + 1) (together (take per (map bytes xs)))) ≡ None
first-fine e make per bytes Good add Ready judges any j c xs F ready fits good few =
    let taken = taken-some per c xs any fits in
    let some : 1 ≤ length xs = first-some per c (length xs) fits in
    ap (λ l. judged e F (make (j * per + 1) (together l))) (take-map bytes per xs)
    ∙ judges.fine (j * per) F xs ready (omega arith) taken.0 taken.1 (each-take Good per xs good)

next-ready : (j per : ℕ) → j * per + per ≡ (j + 1) * per
next-ready j per = grind arith

heads-fine : {X : Type 0} (e : Entry) (make : ℕ → List ℕ → Record) (per : ℕ) (bytes : X → List ℕ) (Good : X → Type 0) (add : Facts → List X → Facts) (Ready : ℕ → Facts → List X → Type 0)
    → Adds make per bytes Good add → Judges e make per bytes Good add Ready → 1 ≤ per → (j c : ℕ) (xs : List X) (F : Facts) → Ready (j * per) F xs → Fits per (suc c) (length xs) → AllByRecursion Good xs
    → j * per + length xs < 2 ^ 16 → Fine e F (heads_in make per j (suc c) (map bytes xs))
heads-fine e make per bytes Good add Ready adds judges any j zero xs F ready fits good few =
    fine-one e F (make (j * per + 1) (together (take per (map bytes xs)))) (first-fine e make per bytes Good add Ready judges any j zero xs F ready fits good few)
heads-fine e make per bytes Good add Ready adds judges any j (suc c) xs F ready fits good few =
    let full : per < length xs = first-full per c (length xs) fits in
    let taken = taken-some per (suc c) xs any fits in
    let step : j * per + per ≡ (j + 1) * per = next-ready j per in
    let rest : length (drop per xs) ≡ length xs - per = length-drop per xs in
    let leads : saw F (make (j * per + 1) (together (take per (map bytes xs)))) ≡ add F (take per xs) =
    ap (λ l. saw F (make (j * per + 1) (together l))) (take-map bytes per xs)
    ∙ adds.one F (j * per + 1) (take per xs) (judges.due (j * per) F xs ready) (omega arith) taken.0 taken.1 (each-take Good per xs good) in
    fine-cons e F (make (j * per + 1) (together (take per (map bytes xs)))) (add F (take per xs)) (heads_in make per (j + 1) (suc c) (drop per (map bytes xs))) leads
    (first-fine e make per bytes Good add Ready judges any j (suc c) xs F ready fits good few)
    (subst (λ l. Fine e (add F (take per xs)) (heads_in make per (j + 1) (suc c) l)) (sym (drop-map bytes per xs))
    (heads-fine e make per bytes Good add Ready adds judges any (j + 1) c (drop per xs) (add F (take per xs))
    (subst (λ k. Ready k (add F (take per xs)) (drop per xs)) step (judges.next (j * per) F xs ready full))
    (subst (λ l. Fits per (suc c) l) (sym rest) (rest-fits per (suc c) (length xs) fits)) (each-drop Good per xs good) (omega arith)))

pub heads_fine : {X : Type 0} (e : Entry) (make : ℕ → List ℕ → Record) (per : ℕ) (bytes : X → List ℕ) (Good : X → Type 0) (add : Facts → List X → Facts) (Ready : ℕ → Facts → List X → Type 0)
    → Adds make per bytes Good add → Judges e make per bytes Good add Ready → 1 ≤ per → (xs : List X) (F : Facts) → Ready 0 F xs → AllByRecursion Good xs → length xs < 2 ^ 16
    → Fine e F (head_records make per (map bytes xs))
heads_fine e make per bytes Good add Ready adds judges any xs F ready good few =
    subst (Fine e F) (sym (heads-are make per (map bytes xs) ∙ ap (λ l. heads_in make per 0 (parts_of per l) (map bytes xs)) (length-map xs bytes)))
    (by_count (parts_of per (length xs)) (parts-fit per (length xs) any))
  where
    by_count : (c : ℕ) → Fits per c (length xs) → Fine e F (heads_in make per 0 c (map bytes xs))
    by_count zero fits = fine-none e F
    by_count (suc c) fits =
        let start : 0 * per ≡ 0 = grind arith in
        heads-fine e make per bytes Good add Ready adds judges any 0 c xs F (subst (λ k. Ready k F xs) (sym start) ready) fits good (omega arith)
