-- The head records of a written member have no fault.
use Rattle.std.proofs.Common.{◌≡◌, ℕ, zero, suc, ◌+◌, ◌-◌, ◌<◌, ◌≤◌, ◌^◌, Bool, true, false, not, ◌&&◌, ◌||◌, ◌==◌, nat_lt, if◌then◌else◌, List, [], ◌∷◌, ◌++◌, map, fold, length, None, refl, sym, ap, subst, ◌∙◌, zero-add, arith}
use Rattle.std.specs.Prelude.{count_by}
use Rattle.std.proofs.lemmas.Bool.{and_left, and_right, or_from, ne_eqb, le-ltb, ltb-true, ltb-false, cond-false}
use Rattle.std.proofs.lemmas.List.{length-map, append-nil, append_assoc}
use Rattle.std.proofs.lemmas.List.Sums.{fold-append}
use Rattle.byteorder.specs.Endian.{big_bytes}
use Rattle.pds_directory.specs.declared.entry.Entry.{Entry}
use Rattle.load_recs.specs.declared.items.SymbolItem.{SymbolItem}
use Rattle.load_recs.specs.ItemBytes.{symbol_bytes, IsSymbol, note_bytes, IsNote}
use Rattle.load_recs.specs.Records.{Record, SymbolRecord, ScatterRecord, TranslationRecord, NoteRecord}
use Rattle.linking_model.specs.Tree.{IsTree, Tree}
use Rattle.linking_model.specs.Places.{Laid, is_overlay}
use Rattle.member_model.specs.Facts.{Facts, no_facts}
use Rattle.member_model.specs.Parts.{parts, part_place}
use Rattle.member_model.specs.Symbols.{is_overlay_member, is_scatter_member, is_section, section_addresses}
use Rattle.member_model.specs.SymbolList.{head_records, symbols_written, translation_numbers, symbol_records, scatter_records, first_records}
use Rattle.member_model.specs.Faults.{translations, is_incomplete, segment_count}
use Rattle.member_model.specs.Written.{note_items, note_record_count, note_records}
use Rattle.member_laws.specs.Linkable.{IsLinkable}
use Rattle.member_laws.specs.Gathered.{segment_lists, notes_written, last_stage, head_facts}
use Rattle.member_laws.proofs.Counts.{parts-within, symbols_few}
use Rattle.member_laws.proofs.Gathering.{lists-count, tree-some}
use Rattle.member_laws.proofs.HeadKinds.{add_symbols, adds-symbols, scatter_bytes, add_scattered, adds-scattered, add_translated, adds-translated, add_notes, adds_notes}
use Rattle.member_laws.proofs.Heads.{with_any, heads_walk}
use Rattle.member_laws.proofs.HeadsFine.{heads_fine}
use Rattle.member_laws.proofs.HeadsWritten.{symbol_facts, few, map-of-map, part_places, places-fit, numbers-fit, numbers-count, notes-are, notes-count, head_part, symbols-walk, heads_are}
use Rattle.member_laws.proofs.Judging.{Fine, fine-none, fine-append}
use Rattle.member_laws.proofs.KindsFine.{SymbolsReady, judges-symbols, ScatterReady, judges-scattered, TranslationReady, judges-translated, NotesReady, judges_notes}
use Rattle.member_laws.proofs.PiecesFine.{IsReady}
use Rattle.member_laws.proofs.Ranks.{sections-count, addresses-are, translations_are}
use Rattle.member_laws.proofs.Reading.{saw}
use Rattle.member_laws.proofs.SegmentsFine.{Begins}
use Rattle.member_laws.proofs.SymbolsFine.{Describes, is-overlay, is-scatter, symbols_fine}
use Rattle.member_laws.proofs.SymbolsWritten.{symbols_are}

-- ---- symbols

pub symbol-records-fine : (P : Laid) (scatter : Bool) (e : Entry) → IsLinkable P → Describes P scatter e → Fine e no_facts (symbol_records P)
symbol-records-fine P scatter e links describes =
    heads_fine e (λ first items. SymbolRecord first items) 15 symbol_bytes IsSymbol add_symbols (SymbolsReady e) adds-symbols (judges-symbols e) (omega arith) (symbols_written P) no_facts
    (record { before = []; is = refl; count = refl; fine = symbols_fine P scatter e links describes }) (symbols_are P links) (few P (length (symbols_written P)) links (omega arith))

-- ---- scatter and translation items

scattered-so : (symbols : List SymbolItem) (xs : List ℕ) → with_any add_scattered (symbol_facts symbols) xs ≡ record (symbol_facts symbols) { scattered = length xs; stage = if length xs == 0 then 0 else 1 }
unfolding add_scattered
scattered-so symbols [] = refl
scattered-so symbols (x ∷ xs) =
    let some : (length (x ∷ xs) == 0) ≡ false = ne_eqb (length (x ∷ xs)) 0 (omega arith) in
    cond-false (length (x ∷ xs) == 0) (symbol_facts symbols) (record (symbol_facts symbols) { scattered = 0 + length (x ∷ xs); stage = 1 }) some
    ∙ ap (λ k. record (symbol_facts symbols) { scattered = k; stage = 1 }) (zero-add (length (x ∷ xs)))
    ∙ ap (λ k. record (symbol_facts symbols) { scattered = length (x ∷ xs); stage = k }) (sym (cond-false (length (x ∷ xs) == 0) 0 1 some))

small_stage : (b : Bool) → (if b then 0 else 1) ≤ 2
small_stage true = omega arith
small_stage false = omega arith

scatter-fine : (P : Laid) (e : Entry) → IsLinkable P → is_scatter_member e ≡ true → Fine e (symbol_facts (symbols_written P)) (scatter_records P)
scatter-fine P e links asked =
    let symbols = symbols_written P in
    let start = symbol_facts symbols in
    let places = part_places P in
    let numbers = translation_numbers P in
    let count : length places ≡ length (parts P) = length-map (parts P) (part_place P) in
    let within : length (parts P) ≤ length symbols = parts-within P in
    let all : length numbers ≡ length symbols = numbers-count P in
    let few_places : length places < 2 ^ 16 = few P (length places) links (omega arith) in
    let sections : length places ≡ count_by is_section symbols = count ∙ sym (sections-count P) in
    let middle = with_any add_scattered start places in
    let scattered = head_records (λ first items. ScatterRecord first items) 60 (map scatter_bytes places) in
    subst (λ l. Fine e start (head_records (λ first items. ScatterRecord first items) 60 l ++ head_records (λ first items. TranslationRecord first items) 120 (map (big_bytes 2) numbers))) (sym (map-of-map scatter_bytes (part_place P) (parts P)))
    (fine-append e start scattered middle (head_records (λ first items. TranslationRecord first items) 120 (map (big_bytes 2) numbers))
    (heads_walk (λ first items. ScatterRecord first items) 60 scatter_bytes (λ a. a < 2 ^ 24) add_scattered adds-scattered 1 places start (omega arith) (places-fit P links) few_places refl refl).whole
    (heads_fine e (λ first items. ScatterRecord first items) 60 scatter_bytes (λ a. a < 2 ^ 24) add_scattered (ScatterReady e symbols) adds-scattered (judges-scattered e symbols) (omega arith) places start
    (record { stage = 0; early = omega arith; is = refl; left = sym (addresses-are P); asked = asked }) (places-fit P links) few_places)
    (heads_fine e (λ first items. TranslationRecord first items) 120 (big_bytes 2) (λ a. a < 2 ^ 16) add_translated (TranslationReady e symbols) adds-translated (judges-translated e symbols) (omega arith) numbers middle
    (record {
      stage = if length places == 0 then 0 else 1;
      early = small_stage (length places == 0);
      is = scattered-so symbols places ∙ ap (λ k. record start { scattered = k; stage = if length places == 0 then 0 else 1 }) sections;
      left = sym (translations_are P links);
      asked = asked;
    }) (numbers-fit P links) (few P (length numbers) links (omega arith))))

-- ---- notes

notes-fine : (P : Laid) (e : Entry) (before n : ℕ) → IsLinkable P → is_overlay_member e ≡ true → Fine e (symbol_facts (symbols_written P)) (note_records P before (segment_lists P n))
notes-fine P e before n links asked =
    let symbols = symbols_written P in
    let notes = note_items P (before + note_record_count P + 1) 1 (segment_lists P n) in
    let lists : length (segment_lists P n) ≡ length P.tree = lists-count P n in
    let count : length notes ≡ length (segment_lists P n) = notes-count P (before + note_record_count P + 1) 1 (segment_lists P n) in
    let few_segments : length P.tree ≤ 255 = links.small.few_segments in
    heads_fine e (λ first items. NoteRecord first items) 20 note_bytes IsNote add_notes (NotesReady e symbols) adds_notes (judges_notes e symbols) (omega arith) notes (symbol_facts symbols)
    (record { before = []; stage = 0; early = omega arith; is = refl; count = refl; few = omega arith; asked = asked })
    (notes-are P (before + note_record_count P + 1) 1 (segment_lists P n) links (omega arith) (omega arith)) (omega arith)

-- ---- after the symbol records

-- the head records after the symbol records
abbrev pub later_heads : Laid → Bool → ℕ → List Record
later_heads P scatter n = (if scatter then scatter_records P else []) ++ (if is_overlay P.tree then note_records P (length (first_records P scatter)) (segment_lists P n) else [])

pub heads-split : (P : Laid) (scatter : Bool) (n : ℕ) → head_part P scatter n ≡ symbol_records P ++ later_heads P scatter n
unfolding first_records
heads-split P scatter n =
    append_assoc (symbol_records P) (if scatter then scatter_records P else []) (if is_overlay P.tree then note_records P (length (first_records P scatter)) (segment_lists P n) else [])

pub later-leads : (P : Laid) (scatter : Bool) (n : ℕ) → IsLinkable P → (scatter ≡ true → is_overlay P.tree ≡ false)
    → fold saw (symbol_facts (symbols_written P)) (later_heads P scatter n) ≡ head_facts P scatter n
later-leads P scatter n links alone =
    ap (λ F. fold saw F (later_heads P scatter n)) (sym (symbols-walk P links).whole)
    ∙ sym (fold-append saw no_facts (symbol_records P) (later_heads P scatter n))
    ∙ ap (fold saw no_facts) (sym (heads-split P scatter n))
    ∙ (heads_are P scatter n links alone).whole

later-by : (P : Laid) (scatter overlay : Bool) (e : Entry) (before n : ℕ) → IsLinkable P → is_scatter_member e ≡ scatter → is_overlay_member e ≡ overlay → (scatter ≡ true → overlay ≡ false)
    → Fine e (symbol_facts (symbols_written P)) ((if scatter then scatter_records P else []) ++ (if overlay then note_records P before (segment_lists P n) else []))
later-by P true true e before n links is_scatter over alone = absurd (let no' : true ≡ false = alone refl in cc)
later-by P true false e before n links is_scatter over alone = subst (Fine e (symbol_facts (symbols_written P))) (sym (append-nil (scatter_records P))) (scatter-fine P e links is_scatter)
later-by P false true e before n links is_scatter over alone = notes-fine P e before n links over
later-by P false false e before n links is_scatter over alone = fine-none e (symbol_facts (symbols_written P))

pub later-fine : (P : Laid) (scatter : Bool) (e : Entry) (n : ℕ) → IsLinkable P → Describes P scatter e → (scatter ≡ true → is_overlay P.tree ≡ false) → Fine e (symbol_facts (symbols_written P)) (later_heads P scatter n)
later-fine P scatter e n links describes alone =
    later-by P scatter (is_overlay P.tree) e (length (first_records P scatter)) n links (is-scatter P scatter e describes) (is-overlay P scatter e describes) alone

-- ---- before the records of segments

complete-by : (P : Laid) (scatter : Bool) (e : Entry) (n : ℕ) → is_scatter_member e ≡ scatter → (is_scatter_member e && is_incomplete (head_facts P scatter n)) ≡ false
unfolding head_facts
complete-by P true e n is =
    and_right (is_scatter_member e) (is_incomplete (head_facts P true n))
    (or_from (nat_lt (length (parts P)) (count_by is_section (symbols_written P))) (nat_lt (length (translation_numbers P)) (length (symbols_written P)))
    (le-ltb (length (parts P)) (count_by is_section (symbols_written P)) (let e' : count_by is_section (symbols_written P) ≡ length (parts P) = sections-count P in omega arith))
    (le-ltb (length (translation_numbers P)) (length (symbols_written P)) (let e' : length (translation_numbers P) ≡ length (symbols_written P) = numbers-count P in omega arith)))
complete-by P false e n is = and_left (is_scatter_member e) (is_incomplete (head_facts P false n)) is

notes-of : (P : Laid) (scatter : Bool) (n : ℕ) (overlay : Bool) → is_overlay P.tree ≡ overlay → length (notes_written P scatter n) ≡ (if overlay then length P.tree else 0)
notes-of P scatter n true is =
    ap (λ b. length (if b then note_items P (length (first_records P scatter) + note_record_count P + 1) 1 (segment_lists P n) else [])) is
    ∙ notes-count P (length (first_records P scatter) + note_record_count P + 1) 1 (segment_lists P n) ∙ lists-count P n
notes-of P scatter n false is =
    ap (λ b. length (if b then note_items P (length (first_records P scatter) + note_record_count P + 1) 1 (segment_lists P n) else [])) is

pub head_begins : (P : Laid) (scatter : Bool) (e : Entry) (n : ℕ) → IsLinkable P → Describes P scatter e → Begins P e 1 (head_facts P scatter n)
unfolding head_facts
head_begins P scatter e n links describes =
    let over = is-overlay P scatter e describes in
    record {
      symbols = refl;
      segment = refl;
      due = refl;
      ready = record {
        goes_on = refl;
        stage = stage_low (if scatter then length (translation_numbers P) else 0) (length (notes_written P scatter n));
        complete = complete-by P scatter e n (is-scatter P scatter e describes);
        noted = noted (is_overlay P.tree) refl over;
      };
      count = count (is_overlay P.tree) refl over;
    }
  where
    stage_low : (translated notes : ℕ) → last_stage translated notes ≤ 4
    stage_low translated notes =
        elim (notes == 0) as (λ b. (if b then (if translated == 0 then 0 else 2) else 3) ≤ 4) [
          | true ↦ elim (translated == 0) as (λ b. (if b then 0 else 2) ≤ 4) [ true ↦ omega arith | false ↦ omega arith ]
          | false ↦ omega arith
        ]

    noted : (overlay : Bool) → is_overlay P.tree ≡ overlay → is_overlay_member e ≡ is_overlay P.tree → (is_overlay_member e && length (notes_written P scatter n) == 0) ≡ false
    noted true is over =
        let all : length (notes_written P scatter n) ≡ length P.tree = notes-of P scatter n true is in
        let more : 1 < length P.tree = ltb-true 1 (length P.tree) is in
        and_right (is_overlay_member e) (length (notes_written P scatter n) == 0) (ne_eqb (length (notes_written P scatter n)) 0 (omega arith))
    noted false is over = and_left (is_overlay_member e) (length (notes_written P scatter n) == 0) (over ∙ is)

    count : (overlay : Bool) → is_overlay P.tree ≡ overlay → is_overlay_member e ≡ is_overlay P.tree → (if is_overlay_member e then length (notes_written P scatter n) else 1) ≡ length P.tree
    count true is over = ap (λ b. if b then length (notes_written P scatter n) else 1) (over ∙ is) ∙ notes-of P scatter n true is
    count false is over =
        let one : length P.tree ≤ 1 = ltb-false 1 (length P.tree) is in
        let some : 1 ≤ length P.tree = tree-some P.tree links.tree in
        ap (λ b. if b then length (notes_written P scatter n) else 1) (over ∙ is) ∙ (let e' : 1 ≡ length P.tree = omega arith in e')
