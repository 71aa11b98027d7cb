-- What the head records of a written member add to the facts.
use Rattle.std.proofs.Common.{◌≡◌, ℕ, zero, suc, ◌+◌, ◌-◌, ◌%◌, ◌<◌, ◌≤◌, ◌^◌, Bool, true, false, ◌==◌, nat_lt, if◌then◌else◌, List, [], ◌∷◌, ◌++◌, map, length, replicate, None, inl, inr, refl, sym, ap, subst, ◌∙◌, zero-add, arith}
use Rattle.std.proofs.Math.Nat.{mod-lt}
use Rattle.std.proofs.lemmas.Bool.{cond-false, cond-true, ne_eqb, eq-eqb, ltb-true}
use Rattle.std.proofs.lemmas.List.{length-append, length-map, length-replicate, append-nil, nil_from_length}
use Rattle.std.specs.List.{AllByRecursion}
use Rattle.byteorder.specs.Endian.{big_bytes}
use Rattle.sym_mod.specs.Sound.{IsSoundLabel}
use Rattle.sym_mod.specs.declared.program.Label.{Label}
use Rattle.load_recs.specs.declared.items.SymbolItem.{SymbolItem}
use Rattle.load_recs.specs.declared.items.NoteItem.{NoteItem}
use Rattle.load_recs.specs.ItemBytes.{symbol_bytes, IsSymbol, note_bytes, IsNote}
use Rattle.load_recs.specs.Records.{Record, SymbolRecord, ScatterRecord, TranslationRecord, NoteRecord}
use Rattle.linking_model.specs.Tree.{segments}
use Rattle.linking_model.specs.Places.{Laid, is_overlay, origin, size, end_of, module_length}
use Rattle.member_model.specs.Facts.{Facts, no_facts}
use Rattle.member_model.specs.Parts.{Part, OneSection, parts, part_place, part_length, part_number}
use Rattle.member_model.specs.SymbolList.{head_records, symbols_written, scatter_items, translation_numbers, symbol_records, scatter_records, first_records}
use Rattle.member_model.specs.Written.{note_item, note_items, note_record_count, note_records, segment_records}
use Rattle.member_laws.specs.Linkable.{IsLinkable}
use Rattle.member_laws.specs.Gathered.{notes_written, last_stage, head_facts, segment_lists}
use Rattle.member_laws.proofs.Counts.{symbols_few, symbols-count, parts-within}
use Rattle.member_laws.proofs.HeadKinds.{add_symbols, adds-symbols, scatter_bytes, add_scattered, adds-scattered, add_translated, adds-translated, add_notes, adds_notes}
use Rattle.member_laws.proofs.Heads.{with_any, heads_walk, any-segment, any-due}
use Rattle.member_laws.proofs.Lists.{each-append, each-map}
use Rattle.member_laws.proofs.Membership.{Has, each-of, has-all}
use Rattle.member_laws.proofs.Numbered.{IsPart, from-part, section-part, number_fits}
use Rattle.member_laws.proofs.Reading.{Walks, walks-none, walks-append, walks-to, walks-as}
use Rattle.member_laws.proofs.Standing.{segments-end, segments-length}
use Rattle.member_laws.proofs.SymbolsWritten.{symbols_are, part-ends, is-owned}

-- ---- symbols

-- the facts after the symbol records
abbrev pub symbol_facts : List SymbolItem → Facts
symbol_facts symbols = record no_facts { symbols = symbols }

symbols-added : (xs : List SymbolItem) → with_any add_symbols no_facts xs ≡ symbol_facts xs
unfolding add_symbols
symbols-added [] = refl
symbols-added (x ∷ xs) = cond-false (length (x ∷ xs) == 0) no_facts (symbol_facts (x ∷ xs)) (ne_eqb (length (x ∷ xs)) 0 (omega arith))

pub few : (P : Laid) (len : ℕ) → IsLinkable P → len ≤ length (symbols_written P) → len < 2 ^ 16
few P len links within = let all : length (symbols_written P) ≤ 32767 = symbols_few P links in omega arith

pub symbols-walk : (P : Laid) → IsLinkable P → Walks 1 no_facts (symbol_records P) (symbol_facts (symbols_written P))
symbols-walk P links =
    walks-to 1 no_facts (symbol_records P) (with_any add_symbols no_facts (symbols_written P)) (symbol_facts (symbols_written P))
    (heads_walk (λ first items. SymbolRecord first items) 15 symbol_bytes IsSymbol add_symbols adds-symbols 1 (symbols_written P) no_facts (omega arith)
    (symbols_are P links) (few P (length (symbols_written P)) links (omega arith)) refl refl)
    (symbols-added (symbols_written P))

-- ---- scatter and translation items

abbrev pub scattered_facts : List SymbolItem → ℕ → ℕ → Facts
scattered_facts symbols scattered translated =
    record (symbol_facts symbols) { scattered = scattered; translated = translated; stage = if translated == 0 then 0 else 2 }

scattered-added : (symbols : List SymbolItem) (places numbers : List ℕ) → length places ≤ length numbers
    → with_any add_translated (with_any add_scattered (symbol_facts symbols) places) numbers ≡ scattered_facts symbols (length places) (length numbers)
unfolding add_translated add_scattered
scattered-added symbols [] [] within = refl
scattered-added symbols (p ∷ places) [] within = absurd (omega arith)
scattered-added symbols [] (n ∷ numbers) within =
    let some : (length (n ∷ numbers) == 0) ≡ false = ne_eqb (length (n ∷ numbers)) 0 (omega arith) in
    cond-false (length (n ∷ numbers) == 0) (symbol_facts symbols) (record (symbol_facts symbols) { translated = 0 + length (n ∷ numbers); stage = 2 }) some
    ∙ ap (λ k. record (symbol_facts symbols) { translated = k; stage = 2 }) (zero-add (length (n ∷ numbers)))
    ∙ ap (λ k. record (symbol_facts symbols) { translated = length (n ∷ numbers); stage = k }) (sym (cond-false (length (n ∷ numbers) == 0) 0 2 some))
scattered-added symbols (p ∷ places) (n ∷ numbers) within =
    let some : (length (n ∷ numbers) == 0) ≡ false = ne_eqb (length (n ∷ numbers)) 0 (omega arith) in
    let first : with_any add_scattered (symbol_facts symbols) (p ∷ places) ≡ record (symbol_facts symbols) { scattered = length (p ∷ places); stage = 1 } =
    cond-false (length (p ∷ places) == 0) (symbol_facts symbols) (record (symbol_facts symbols) { scattered = 0 + length (p ∷ places); stage = 1 }) (ne_eqb (length (p ∷ places)) 0 (omega arith))
    ∙ ap (λ k. record (symbol_facts symbols) { scattered = k; stage = 1 }) (zero-add (length (p ∷ places))) in
    ap (λ F. with_any add_translated F (n ∷ numbers)) first
    ∙ cond-false (length (n ∷ numbers) == 0) (record (symbol_facts symbols) { scattered = length (p ∷ places); stage = 1 }) (record (symbol_facts symbols) { scattered = length (p ∷ places); translated = 0 + length (n ∷ numbers); stage = 2 }) some
    ∙ ap (λ k. record (symbol_facts symbols) { scattered = length (p ∷ places); translated = k; stage = 2 }) (zero-add (length (n ∷ numbers)))
    ∙ ap (λ k. record (symbol_facts symbols) { scattered = length (p ∷ places); translated = length (n ∷ numbers); stage = k }) (sym (cond-false (length (n ∷ numbers) == 0) 0 2 some))

pub map-of-map : {X Y Z : Type 0} (f : Y → Z) (g : X → Y) (xs : List X) → map (λ x. f (g x)) xs ≡ map f (map g xs)
map-of-map f g [] = refl
map-of-map f g (x ∷ xs) = ap (λ l. f (g x) ∷ l) (map-of-map f g xs)

-- the addresses of the parts
abbrev pub part_places : Laid → List ℕ
part_places P = map (part_place P) (parts P)

pub places-fit : (P : Laid) → IsLinkable P → AllByRecursion (λ a. a < 2 ^ 24) (part_places P)
places-fit P links =
    each-map (λ a. a < 2 ^ 24) (part_place P) (parts P) (each-of _ (parts P) (λ x there.
    let ends : part_place P x + part_length P x ≤ module_length P = part-ends P x (from-part P x there) in
    let fits : module_length P ≤ 4194304 = links.module_fits in omega arith))

zeros-fit : (n : ℕ) → AllByRecursion (λ a. a < 2 ^ 16) (replicate n 0)
zeros-fit zero = tt
zeros-fit (suc n) = (omega arith, zeros-fit n)

pub numbers-fit : (P : Laid) → IsLinkable P → AllByRecursion (λ a. a < 2 ^ 16) (translation_numbers P)
numbers-fit P links =
    each-append (λ a. a < 2 ^ 16) _ (replicate (length P.program.unresolved + length P.program.registers) 0)
    (each-append (λ a. a < 2 ^ 16) (map (part_number P) (parts P)) (map (λ (x : Label). part_number P (OneSection x.section)) P.program.labels)
    (each-map (λ a. a < 2 ^ 16) (part_number P) (parts P) (each-of _ (parts P) (λ x there. number_fits P x links (from-part P x there))))
    (each-map (λ a. a < 2 ^ 16) (λ (x : Label). part_number P (OneSection x.section)) P.program.labels (each-of _ P.program.labels (λ x there.
    let owned = is-owned P x (has-all (IsSoundLabel P.program) P.program.labels x links.sound.labels there) in
    number_fits P (OneSection x.section) links (section-part P x.section owned.section links owned.there)))))
    (zeros-fit (length P.program.unresolved + length P.program.registers))

pub numbers-count : (P : Laid) → length (translation_numbers P) ≡ length (symbols_written P)
numbers-count P =
    sums _ _ _ _ _ _ _ (length P.program.unresolved) (length P.program.registers) _
    (length-append (map (part_number P) (parts P) ++ map (λ (x : Label). part_number P (OneSection x.section)) P.program.labels) (replicate (length P.program.unresolved + length P.program.registers) 0))
    (length-append (map (part_number P) (parts P)) (map (λ (x : Label). part_number P (OneSection x.section)) P.program.labels))
    (length-map (parts P) (part_number P)) (length-map P.program.labels (λ (x : Label). part_number P (OneSection x.section)))
    (length-replicate (length P.program.unresolved + length P.program.registers) 0) (symbols-count P)
  where
    sums : (abc ab a b c p q u r s : ℕ) → abc ≡ ab + c → ab ≡ a + b → a ≡ p → b ≡ q → c ≡ u + r → s ≡ p + q + u + r → abc ≡ s
    sums abc ab a b c p q u r s e f g h i j = omega arith

scatter-walk : (P : Laid) → IsLinkable P → Walks 1 (symbol_facts (symbols_written P)) (scatter_records P) (scattered_facts (symbols_written P) (length (part_places P)) (length (translation_numbers P)))
scatter-walk P links =
    let start = symbol_facts (symbols_written P) in
    let places = part_places P in
    let numbers = translation_numbers P in
    let count : length places ≡ length (parts P) = length-map (parts P) (part_place P) in
    let within : length (parts P) ≤ length (symbols_written P) = parts-within P in
    let all : length numbers ≡ length (symbols_written P) = numbers-count P in
    walks-as 1 start _ (head_records (λ first items. ScatterRecord first items) 60 (map scatter_bytes places) ++ head_records (λ first items. TranslationRecord first items) 120 (map (big_bytes 2) numbers)) _
    (ap (λ l. head_records (λ first items. ScatterRecord first items) 60 l ++ head_records (λ first items. TranslationRecord first items) 120 (map (big_bytes 2) numbers)) (map-of-map scatter_bytes (part_place P) (parts P)))
    (walks-to 1 start _ (with_any add_translated (with_any add_scattered start places) numbers) _
    (walks-append 1 start (head_records (λ first items. ScatterRecord first items) 60 (map scatter_bytes places)) (with_any add_scattered start places) (head_records (λ first items. TranslationRecord first items) 120 (map (big_bytes 2) numbers)) _
    (heads_walk (λ first items. ScatterRecord first items) 60 scatter_bytes (λ a. a < 2 ^ 24) add_scattered adds-scattered 1 places start (omega arith) (places-fit P links) (few P (length places) links (omega arith)) refl refl)
    (heads_walk (λ first items. TranslationRecord first items) 120 (big_bytes 2) (λ a. a < 2 ^ 16) add_translated adds-translated 1 numbers (with_any add_scattered start places) (omega arith) (numbers-fit P links) (few P (length numbers) links (omega arith))
    (any-segment (λ first items. ScatterRecord first items) 60 scatter_bytes (λ a. a < 2 ^ 24) add_scattered adds-scattered start places)
    (any-due (λ first items. ScatterRecord first items) 60 scatter_bytes (λ a. a < 2 ^ 24) add_scattered adds-scattered start places)))
    (scattered-added (symbols_written P) places numbers (omega arith)))

-- ---- notes

pub notes-count : (P : Laid) (number s : ℕ) (lists : List (List Record)) → length (note_items P number s lists) ≡ length lists
notes-count P number s [] = refl
notes-count P number s (x ∷ lists) = ap suc (notes-count P (number + length x) (s + 1) lists)

pub notes-are : (P : Laid) (number s : ℕ) (lists : List (List Record)) → IsLinkable P → 1 ≤ s → s + length lists ≤ length P.tree + 1 → AllByRecursion IsNote (note_items P number s lists)
notes-are P number s [] links low within = tt
notes-are P number s (x ∷ lists) links low within =
    let end : end_of P s ≤ module_length P = segments-end P s low (omega arith) in
    let fits : module_length P ≤ 4194304 = links.module_fits in
    let first : number % 16777216 < 16777216 = mod-lt number (omega arith) in
    (record { first_fits = first; origin_fits = omega arith; length_fits = omega arith }, notes-are P (number + length x) (s + 1) lists links (omega arith) (omega arith))

lists-count : (P : Laid) (n : ℕ) → length (segment_lists P n) ≡ length P.tree
lists-count P n = length-map (segments P.tree) (segment_records P n) ∙ segments-length P.tree

notes-added : (symbols : List SymbolItem) (xs : List NoteItem) → 1 ≤ length xs → with_any add_notes (symbol_facts symbols) xs ≡ record (symbol_facts symbols) { notes = xs; stage = last_stage 0 (length xs) }
unfolding add_notes
notes-added symbols xs some =
    let filled : (length xs == 0) ≡ false = ne_eqb (length xs) 0 (omega arith) in
    cond-false (length xs == 0) (symbol_facts symbols) (record (symbol_facts symbols) { notes = xs; stage = 3 }) filled
    ∙ ap (λ k. record (symbol_facts symbols) { notes = xs; stage = k }) (sym (cond-false (length xs == 0) (if 0 == 0 then 0 else 2) 3 filled))

notes-walk : (P : Laid) (before n : ℕ) → IsLinkable P → is_overlay P.tree ≡ true
    → (let notes = note_items P (before + note_record_count P + 1) 1 (segment_lists P n) in
    Walks 1 (symbol_facts (symbols_written P)) (note_records P before (segment_lists P n)) (record (symbol_facts (symbols_written P)) { notes = notes; stage = last_stage 0 (length notes) }))
notes-walk P before n links overlay =
    let start = symbol_facts (symbols_written P) in
    let notes = note_items P (before + note_record_count P + 1) 1 (segment_lists P n) in
    let more : 1 < length P.tree = ltb-true 1 (length P.tree) overlay in
    let lists : length (segment_lists P n) ≡ length P.tree = lists-count P n in
    let count : length notes ≡ length (segment_lists P n) = notes-count P (before + note_record_count P + 1) 1 (segment_lists P n) in
    let few_segments : length P.tree ≤ 255 = links.small.few_segments in
    walks-to 1 start (note_records P before (segment_lists P n)) (with_any add_notes start notes) _
    (heads_walk (λ first items. NoteRecord first items) 20 note_bytes IsNote add_notes adds_notes 1 notes start (omega arith)
    (notes-are P (before + note_record_count P + 1) 1 (segment_lists P n) links (omega arith) (omega arith)) (omega arith) refl refl)
    (notes-added (symbols_written P) notes (omega arith))

-- ---- all head records

-- the records before those of segments
abbrev pub head_part : Laid → Bool → ℕ → List Record
head_part P scatter n = first_records P scatter ++ (if is_overlay P.tree then note_records P (length (first_records P scatter)) (segment_lists P n) else [])

first-walk : (P : Laid) (scatter : Bool) → IsLinkable P
    → Walks 1 no_facts (first_records P scatter) (scattered_facts (symbols_written P) (if scatter then length (parts P) else 0) (if scatter then length (translation_numbers P) else 0))
unfolding first_records
first-walk P true links =
    walks-to 1 no_facts _ _ (scattered_facts (symbols_written P) (length (parts P)) (length (translation_numbers P)))
    (walks-append 1 no_facts (symbol_records P) (symbol_facts (symbols_written P)) (scatter_records P) _ (symbols-walk P links) (scatter-walk P links))
    (ap (λ k. scattered_facts (symbols_written P) k (length (translation_numbers P))) (length-map (parts P) (part_place P)))
first-walk P false links =
    walks-append 1 no_facts (symbol_records P) (symbol_facts (symbols_written P)) [] (symbol_facts (symbols_written P)) (symbols-walk P links) (walks-none 1 (symbol_facts (symbols_written P)))

by_overlay : (P : Laid) (scatter overlay : Bool) (n : ℕ) → IsLinkable P → is_overlay P.tree ≡ overlay → (scatter ≡ true → overlay ≡ false)
    → (let notes = if overlay then note_items P (length (first_records P scatter) + note_record_count P + 1) 1 (segment_lists P n) else [] in
    let translated = if scatter then length (translation_numbers P) else 0 in
    Walks 1 no_facts (first_records P scatter ++ (if overlay then note_records P (length (first_records P scatter)) (segment_lists P n) else []))
    (record (symbol_facts (symbols_written P)) {
      scattered = if scatter then length (parts P) else 0;
      translated = translated;
      notes = notes;
      stage = last_stage translated (length notes);
    }))
by_overlay P true true n links is alone = absurd (let no' : true ≡ false = alone refl in cc)
by_overlay P false true n links is alone =
    walks-append 1 no_facts (first_records P false) (symbol_facts (symbols_written P)) (note_records P (length (first_records P false)) (segment_lists P n)) _
    (first-walk P false links) (notes-walk P (length (first_records P false)) n links is)
by_overlay P scatter false n links is alone =
    walks-as 1 no_facts (first_records P scatter ++ []) (first_records P scatter) _ (append-nil (first_records P scatter)) (first-walk P scatter links)

pub heads_are : (P : Laid) (scatter : Bool) (n : ℕ) → IsLinkable P → (scatter ≡ true → is_overlay P.tree ≡ false) → Walks 1 no_facts (head_part P scatter n) (head_facts P scatter n)
unfolding head_facts
heads_are P scatter n links alone = by_overlay P scatter (is_overlay P.tree) n links refl alone
