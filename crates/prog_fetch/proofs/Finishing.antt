-- The member that the records give, once all that a fetch reads were read.
use Rattle.std.proofs.Common.{arith, ◌≡◌, ℕ, zero, suc, ◌+◌, ◌-◌, ◌^◌, ◌<◌, ◌≤◌, inl, inr, Bool, true, false, not, ◌&&◌, ◌==◌, nat_le, if◌then◌else◌, List, [], ◌∷◌, ◌++◌, length, fold, map, filter, drop, refl, sym, ◌∙◌, ap, subst, append-nil, All, Option, Some, None, Result, Ok, Err, slice_get}
use Rattle.std.specs.Option.{option_map, option_map_or}
use Rattle.std.proofs.lemmas.List.{take_all}
use Rattle.std.proofs.lemmas.Option.{none-some, slice_get_within, get_or_from_slice_get}
use Rattle.le_bytes.specs.declared.record_what.RecWhat.TheVariants.{BadEntryPoint, NoEnd}
use Rattle.le_io.specs.Counts.{WhereTold}
use Rattle.lib_stream.specs.Sources.{AreRecords}
use Rattle.pds_directory.specs.declared.entry.Entry.{Entry}
use Rattle.load_recs.specs.Items.{symbols_of}
use Rattle.load_recs.specs.Records.{Record, SymbolRecord, ScatterRecord, TranslationRecord, NoteRecord, ControlRecord, RldRecord, ControlRldRecord, TextRecord}
use Rattle.load_recs.specs.Reading.{contents}
use Rattle.load_recs.specs.Relocations.{rlds_of}
use Rattle.load_recs.specs.declared.items.SymbolItem.{SymbolItem}
use Rattle.load_recs.specs.declared.items.NoteItem.{NoteItem}
use Rattle.load_recs.specs.declared.items.RldItem.{RldItem}
use Rattle.load_recs.specs.declared.records.TextHead.{TextHead}
use Rattle.member_model.specs.Symbols.{is_section, symbol_at, end_of}
use Rattle.member_model.specs.Facts.{Facts, Field, facts, no_facts, seen, walked, with_contents, with_record, with_fields}
use Rattle.member_model.specs.Faults.{first_some, when}
use Rattle.member_model.specs.FirstBad.{Fault, at, faults_from, first_symbols, head_fault, is_entry_section, entry_fault, first_bad_of, root_part}
use Rattle.member_model.specs.Loaded.{Addresses, moved, items_in, loaded, text_storage}
use Rattle.member_model.specs.Placing.{is_origin}
use Rattle.member_walk.specs.Fields.{items_of, field_of}
use Rattle.member_walk.specs.declared.fields.SegmentField.{SegmentField}
use Rattle.member_walk.specs.Walked.{Walked, IsWalked}
use Rattle.member_walk.specs.Told.{is_fetched_on, is_fetched_whole}
use Rattle.member_walk.proofs.Fetching.{fetch_runs_out}
use Rattle.member_walk.proofs.HeadLists.{facts_split}
use Rattle.fetch_places.specs.declared.extent.Extent.{Extent}
use Rattle.fetch_places.specs.declared.placement.Placement.{Placement}
use Rattle.fetch_places.specs.declared.placement.Placement.TheVariants.{Block, Scattered}
use Rattle.fetch_places.specs.Addresses.{addresses_by, extents_by}
use Rattle.fetch_places.specs.Extents.{EndsLow, Fits}
use Rattle.fetch_storage.specs.declared.part.Part.{Part}
use Rattle.fetch_storage.specs.Held.{holding, part_in}
use Rattle.fetch_storage.specs.Homes.{home_by, home_at}
use Rattle.fetch_storage.specs.Kept.{Kept, FieldsLie, LieInPart, with_fields as with_shifts, parts_of, address_in}
use Rattle.fetch_storage.specs.Shifts.{shifts_by, shifts_in}
use Rattle.fetch_storage.specs.Sound.{InSection, Suits, AllSound}
use Rattle.fetch_storage.proofs.Laying.{parts_are}
use Rattle.fetch_storage.proofs.Loading.{fields_lie, loaded_holds}
use Rattle.fetch_storage.proofs.Relocating.{shifts_are}
use Rattle.fetch_storage.proofs.Standing.{Stands, stands, lies, address_is}
use Rattle.prog_fetch.specs.declared.fault.FetchFault.{FetchFault}
use Rattle.prog_fetch.specs.declared.fault.FetchFault.TheVariants.{At, ReadFault, Memory}
use Rattle.prog_fetch.specs.declared.fetched.Fetched.{Fetched}
use Rattle.prog_fetch.specs.Given.{IsPlacementOf, member_at, given, Answers, AnswersSome}
use Rattle.prog_fetch.specs.Sources.{AreOf}
use Rattle.prog_fetch.specs.Reading.{IsRead, IsPart, IsOver, IsLaid, IsLaidOf, HasAll, Completes, AnswersAll, EndsWith, SectionsFit, IsGood, Gives, FindsFault}
use Rattle.prog_fetch.proofs.Sound.{Sound, AllOne, left_none, right_none}
use Rattle.prog_fetch.proofs.Sections.{sections_apart}
use Rattle.prog_fetch.proofs.Records.{Begins, begins, sound_of, number_of_walk}
use Rattle.prog_fetch.proofs.Texts.{suits}

-- ---- the facts that are walked are those of the part that a fetch reads

walked_part : (F : Facts) (bs : List (List ℕ)) → walked 1 F bs ≡ fold seen F (root_part F bs)
unfolding walked root_part
walked_part F [] = refl
walked_part F (b ∷ bs) = by_cases (F.segment == 1) (walked_part (seen F b) bs)
  where
    by_cases : (t : Bool) → walked 1 (seen F b) bs ≡ fold seen (seen F b) (root_part (seen F b) bs)
        → (if t then walked 1 (seen F b) bs else F) ≡ fold seen F (if t then b ∷ root_part (seen F b) bs else [])
    by_cases true rest = rest
    by_cases false rest = refl

walked_facts : (records all : List (List ℕ)) → root_part no_facts all ≡ records → walked 1 no_facts all ≡ facts records
unfolding facts
walked_facts records all part = walked_part no_facts all ∙ ap (fold seen no_facts) part

-- ---- the records that a fetch reads, completed

-- some records that the source may have, of which a fetch reads those that were walked
pub record Whole (e : Entry) (list : Option (List (List ℕ))) (total : ℕ) (w : Walked) (records : List (List ℕ)) : Type 0 where
  pub all : List (List ℕ)
  pub are : AreOf list total all
  pub complete : Completes e w records all

whole_part : (e : Entry) (list : Option (List (List ℕ))) (total : ℕ) (lengths : ℕ → ℕ) (w : Walked) (records : List (List ℕ))
    → WhereTold list (λ all. AreRecords all total lengths) → IsRead e list total w records → is_fetched_on e w ≡ false → Whole e list total w records
whole_part e list total lengths w records agrees read off =
    let more : Begins list total records = begins list total lengths records agrees read.told read.few in
    let part : IsPart e records w = read.part off in
    record {
      all = records ++ more.rest;
      are = more.are;
      complete = record { bad = part.bad more.rest; walked = walked_facts records (records ++ more.rest) (part.root more.rest) };
    }

whole_all : (e : Entry) (list : Option (List (List ℕ))) (total : ℕ) (lengths : ℕ → ℕ) (w : Walked) (records : List (List ℕ))
    → WhereTold list (λ all. AreRecords all total lengths) → IsRead e list total w records → is_fetched_on e w ≡ true → w.number ≡ total → Whole e list total w records
whole_all e list total lengths w records agrees read on last =
    let count : w.number ≡ length records = number_of_walk e records w read.walked in
    record {
      all = records;
      are = record {
        told = λ all is.
            let size : length all ≡ total = (agrees all is).counted in
            read.told all is ∙ take_all (length records) all (omega (arith, size, last, count));
        counted = sym count ∙ last;
      };
      complete = record { bad = fetch_runs_out e records w read.walked on; walked = walked_facts records records read.root };
    }

pub whole : (e : Entry) (list : Option (List (List ℕ))) (total : ℕ) (lengths : ℕ → ℕ) (w : Walked) (records : List (List ℕ))
    → WhereTold list (λ all. AreRecords all total lengths) → IsRead e list total w records → IsOver e total w → Whole e list total w records
whole e list total lengths w records agrees read over = by_on (is_fetched_on e w) refl over
  where
    by_on : (t : Bool) → is_fetched_on e w ≡ t → IsOver e total w → Whole e list total w records
    by_on false off over = whole_part e list total lengths w records agrees read off
    by_on true on (inl off) = let gone : true ≡ false = sym on ∙ off in absurd cc
    by_on true on (inr last) = whole_all e list total lengths w records agrees read on last

pub answers_some : (e : Entry) (p : Placement) (list : Option (List (List ℕ))) (total : ℕ) (lengths : ℕ → ℕ) (w : Walked) (kept : Kept) (answer : Result Fetched FetchFault)
    → WhereTold list (λ all. AreRecords all total lengths) → HasAll e list total p w kept → AnswersAll e p w kept total answer → AnswersSome list total e p answer
answers_some e p list total lengths w kept answer agrees read answers =
    let part : Whole e list total w read.0 = whole e list total lengths w read.0 agrees read.1 read.3 in
    (part.all, part.are, answers read.0 part.all read.1.walked read.1.root read.2 part.complete part.are.counted)

pub fault_answers : (e : Entry) (p : Placement) (list : Option (List (List ℕ))) (total : ℕ) (lengths : ℕ → ℕ) (why : FetchFault)
    → WhereTold list (λ all. AreRecords all total lengths) → FindsFault list total e why → AnswersSome list total e p (Err why)
fault_answers e p list total lengths (At number what) agrees found = (found.0, found.1, inl found.2)
fault_answers e p list total lengths ReadFault agrees found =
    let more : Begins list total [] = begins list total lengths [] agrees (λ all is. refl) (omega arith) in (more.rest, more.are, tt)
fault_answers e p list total lengths Memory agrees found =
    let more : Begins list total [] = begins list total lengths [] agrees (λ all is. refl) (omega arith) in (more.rest, more.are, tt)

-- where the source tells its records, they are these
pub answer_told : (e : Entry) (p : Placement) (list : Option (List (List ℕ))) (total : ℕ) (answer : Result Fetched FetchFault) → AnswersSome list total e p answer
    → WhereTold list (λ records. Answers e p records answer)
answer_told e p list total answer some = λ records is. subst (λ rs. Answers e p rs answer) (some.1.told records is) some.2

-- ---- symbols stay

prefix_found : (xs ys : List SymbolItem) (i : ℕ) (x : SymbolItem) → slice_get xs i ≡ Some x → slice_get (xs ++ ys) i ≡ Some x
prefix_found [] ys i x found = absurd (none-some x found)
prefix_found (y ∷ xs) ys zero x found = found
prefix_found (y ∷ xs) ys (suc i) x found = prefix_found xs ys i x found

symbol_stays : (xs ys : List SymbolItem) (n : ℕ) (x : SymbolItem) → symbol_at xs n ≡ Some x → symbol_at (xs ++ ys) n ≡ Some x
symbol_stays xs ys n x found = by_zero (n == 0) found
  where
    by_zero : (t : Bool) → (if t then None else slice_get xs (n - 1)) ≡ Some x → (if t then None else slice_get (xs ++ ys) (n - 1)) ≡ Some x
    by_zero true found = found
    by_zero false found = prefix_found xs ys (n - 1) x found

-- the symbols after a record begin with those before it
record Grows (F G : Facts) : Type 0 where
  pub new : List SymbolItem
  pub symbols : G.symbols ≡ F.symbols ++ new

grows_none : (F G : Facts) → G.symbols ≡ F.symbols → Grows F G
grows_none F G same = record { new = []; symbols = same ∙ sym (append-nil F.symbols) }

ended_same : (F : Facts) (segment : Bool) (ended : Bool) → (if segment then record F { segment = F.segment + 1; ended = ended } else F).symbols ≡ F.symbols
ended_same F true ended = refl
ended_same F false ended = refl

contents_grow : (F : Facts) (x : Record) → Grows F (with_contents F x)
contents_grow F (SymbolRecord first items) = record { new = symbols_of items; symbols = refl }
contents_grow F (ScatterRecord first items) = grows_none F (with_contents F (ScatterRecord first items)) refl
contents_grow F (TranslationRecord first items) = grows_none F (with_contents F (TranslationRecord first items)) refl
contents_grow F (NoteRecord first items) = grows_none F (with_contents F (NoteRecord first items)) refl
contents_grow F (ControlRecord ends text) = grows_none F (with_contents F (ControlRecord ends text)) refl
contents_grow F (RldRecord ends items) = grows_none F (with_contents F (RldRecord ends items)) (ended_same (with_fields (rlds_of items) F) ends.segment ends.module)
contents_grow F (ControlRldRecord ends items text) = grows_none F (with_contents F (ControlRldRecord ends items text)) refl
contents_grow F (TextRecord bytes) = grows_none F F refl

seen_grow : (F : Facts) (b : List ℕ) → Grows F (seen F b)
unfolding seen
seen_grow F b = by_due F.due
  where
    by_due : (o : Option TextHead) → Grows F (with_record F o b)
    by_due None = contents_grow F (contents b)
    by_due (Some t) =
        grows_none F (with_record F (Some t) b)
        (ended_same (record F { texts = F.texts ++ record { segment = F.segment; section = t.section; address = t.address; bytes = b } ∷ []; due = None }) F.ends.segment F.ends.module)

pub found_stays : (F : Facts) (bs : List (List ℕ)) (n : ℕ) (x : SymbolItem) → symbol_at F.symbols n ≡ Some x → symbol_at (fold seen F bs).symbols n ≡ Some x
found_stays F [] n x found = found
found_stays F (b ∷ bs) n x found =
    let more : Grows F (seen F b) = seen_grow F b in
    found_stays (seen F b) bs n x (subst (λ ss. symbol_at ss n ≡ Some x) (sym more.symbols) (symbol_stays F.symbols more.new n x found))

-- ---- the entry point

entry_in : (e : Entry) (F : Facts) (n : ℕ) → option_map (at n) (entry_fault e F) ≡ None → InSection F.symbols e.entry_section e.entry 0
entry_in e F n none = by_symbol (symbol_at F.symbols e.entry_section) refl none
  where
    parts : (x : SymbolItem) → symbol_at F.symbols e.entry_section ≡ Some x → (a b c d : Bool) → is_section x ≡ a → (x.segment == 1) ≡ b
        → nat_le x.address e.entry ≡ c → nat_le e.entry (end_of x) ≡ d → (a && b && c && d) ≡ true → InSection F.symbols e.entry_section e.entry 0
    parts x found true true true true section one low high all =
        record { section = x; found = found; kind = section; segment = grind (arith, one); from = grind (arith, low); to = ended high }
      where
        ended : nat_le e.entry (end_of x) ≡ true → e.entry + 0 ≤ end_of x
        ended high = grind (arith, high)
    parts x found false b c d section one low high all = absurd cc
    parts x found true false c d section one low high all = absurd cc
    parts x found true true false d section one low high all = absurd cc
    parts x found true true true false section one low high all = absurd cc

    with_symbol : (x : SymbolItem) → symbol_at F.symbols e.entry_section ≡ Some x → (t : Bool) → is_entry_section e x ≡ t
        → option_map (at n) (when (not t) BadEntryPoint) ≡ None → InSection F.symbols e.entry_section e.entry 0
    with_symbol x found true is none = parts x found (is_section x) (x.segment == 1) (nat_le x.address e.entry) (nat_le e.entry (end_of x)) refl refl refl refl is
    with_symbol x found false is none = absurd cc

    by_symbol : (o : Option SymbolItem) → symbol_at F.symbols e.entry_section ≡ o
        → option_map (at n) (when (not (option_map_or (is_entry_section e) (symbol_at F.symbols e.entry_section) false)) BadEntryPoint) ≡ None
        → InSection F.symbols e.entry_section e.entry 0
    by_symbol None gone none = let wrong : option_map (at n) (when (not false) BadEntryPoint) ≡ None = rw gone at none in absurd cc
    by_symbol (Some x) found none = with_symbol x found (is_entry_section e x) refl (rw found at none)

split_facts : (F : Facts) (bs : List (List ℕ)) → fold seen (fold seen F (first_symbols bs)) (drop (length (first_symbols bs)) bs) ≡ fold seen F bs
split_facts F bs = facts_split F bs

pub entry_inside : (e : Entry) (records : List (List ℕ)) (t : Bool) → first_bad_of e records t ≡ None → InSection (facts records).symbols e.entry_section e.entry 0
unfolding first_bad_of facts
entry_inside e records t none =
    let first : List (List ℕ) = first_symbols records in
    let a : Option Fault = faults_from e no_facts 1 first in
    let b : Option Fault = option_map (at 1) (head_fault records) in
    let c : Option Fault = option_map (at 0) (entry_fault e (fold seen no_facts first)) in
    let d : Option Fault = faults_from e (fold seen no_facts first) (length first + 1) (drop (length first) records) in
    let f : Option Fault = option_map (at (length records + 1)) (when (not t) NoEnd) in
    let after_a : first_some (b ∷ c ∷ d ∷ f ∷ []) ≡ None = right_none a (first_some (b ∷ c ∷ d ∷ f ∷ [])) none in
    let after_b : first_some (c ∷ d ∷ f ∷ []) ≡ None = right_none b (first_some (c ∷ d ∷ f ∷ [])) after_a in
    let c_none : c ≡ None = left_none c (first_some (d ∷ f ∷ [])) after_b in
    let inside : InSection (fold seen no_facts first).symbols e.entry_section e.entry 0 = entry_in e (fold seen no_facts first) 0 c_none in
    record {
      section = inside.section;
      found = subst (λ (F : Facts). symbol_at F.symbols e.entry_section ≡ Some inside.section) (split_facts no_facts records)
          (found_stays (fold seen no_facts first) (drop (length first) records) e.entry_section inside.section inside.found);
      kind = inside.kind;
      segment = inside.segment;
      from = inside.from;
      to = inside.to;
    }

-- it has an address below 2 to the power of 32
low_at : (xs : List Extent) (i : ℕ) (x : Extent) → All EndsLow xs → slice_get xs i ≡ Some x → EndsLow x
low_at xs i x all found = subst EndsLow (get_or_from_slice_get xs i x x found) (all i x (slice_get_within xs i x found))

extent_low : (e : Entry) (symbols : List SymbolItem) (p : Placement) (i : ℕ) (x : Extent) → IsPlacementOf e p → Fits p symbols → slice_get (extents_by symbols p) i ≡ Some x → EndsLow x
extent_low e symbols (Block at size) zero x placement fits found =
    let same : record { at = at; count = size } ≡ x = cc in
    subst EndsLow same (block_low at size placement.1)
  where
    block_low : (at size : ℕ) → is_origin size at ≡ true → at + size ≤ 16777215
    block_low at size is = grind (arith, is)
extent_low e symbols (Block at size) (suc i) x placement fits found = absurd (none-some x found)
extent_low e symbols (Scattered addresses) i x placement fits found = low_at (extents_by symbols (Scattered addresses)) i x fits.low found

pub address_near : (e : Entry) (symbols : List SymbolItem) (p : Placement) (n a k : ℕ) → IsPlacementOf e p → Fits p symbols → Suits symbols p → InSection symbols n a k
    → moved symbols (addresses_by symbols p) n a < 2 ^ 32
address_near e symbols p n a k placement fits suit inside =
    let at : Stands symbols p n a k = stands symbols p n a k fits suit inside in
    let low : EndsLow at.extent = extent_low e symbols p (home_by symbols p n).part at.extent placement fits at.there in
    near at.extent.at at.extent.count (a - (home_by symbols p n).base) k (moved symbols (addresses_by symbols p) n a) low at.fits at.address
  where
    near : (at count o k place : ℕ) → at + count ≤ 16777215 → o + k ≤ count → at + o ≡ place → place < 2 ^ 32
    near at count o k place low fit is = omega (arith, low, fit, is)

-- ---- what is loaded

ones_filtered : (fields : List Field) → AllOne fields → map (λ (x : Field). x.item) (filter (λ x. x.segment == 1) fields) ≡ map (λ (x : Field). x.item) fields
ones_filtered [] ones = refl
ones_filtered (x ∷ fields) ones =
    let is : (x.segment == 1) ≡ true = grind (arith, ones.0) in
    rw (is, ones_filtered fields ones.1) refl

pub items_of_one : (F : Facts) → AllOne F.fields → items_in F 1 ≡ map (λ x. x.item) F.fields
items_of_one F ones = ones_filtered F.fields ones

pub fields_all_lie : (e : Entry) (p : Placement) (records : List (List ℕ)) (w : Walked) (kept : Kept) → IsPlacementOf e p → IsWalked e records w → root_part no_facts records ≡ records
    → IsLaid p (facts records) kept → FieldsLie w.facts.symbols kept (map (λ x. x.item) w.facts.fields)
fields_all_lie e p records w kept placement walk root laid =
    let sound : Sound e (facts records) = sound_of e records w walk root in
    let symbols : w.facts.symbols ≡ (facts records).symbols = ap (λ (x : Walked). x.facts.symbols) walk.state in
    let fields : w.facts.fields ≡ (facts records).fields = ap (λ (x : Walked). x.facts.fields) walk.state in
    rw (symbols, fields)
    (fields_lie (facts records).symbols p kept (map (λ x. x.item) (facts records).fields) laid.sized (suits e (facts records) p placement sound) sound.fields)

-- the addresses of the member
member_addresses : (e : Entry) (all : List (List ℕ)) (p : Placement) → (member_at e all p).addresses ≡ addresses_by (walked 1 no_facts all).symbols p
member_addresses e all (Block at size) = refl
member_addresses e all (Scattered addresses) = refl

member_facts : (e : Entry) (all : List (List ℕ)) (p : Placement) → (member_at e all p).facts ≡ walked 1 no_facts all
member_facts e all (Block at size) = refl
member_facts e all (Scattered addresses) = refl

member_entry : (e : Entry) (all : List (List ℕ)) (p : Placement) → (member_at e all p).entry ≡ e
member_entry e all (Block at size) = refl
member_entry e all (Scattered addresses) = refl

-- what the definitions give, by the facts of the records that a fetch reads
abbrev pub given_by : Entry → Facts → Placement → ℕ → Fetched
given_by e F p count = record {
  parts = map (part_in (loaded F (addresses_by F.symbols p) 1)) (extents_by F.symbols p);
  entry = moved F.symbols (addresses_by F.symbols p) e.entry_section e.entry;
  items = F.symbols;
  notes = F.notes;
  shifts = shifts_by F.symbols (addresses_by F.symbols p);
  fields = map (λ x. x.item) F.fields;
  records = count;
}

given_walked : (e : Entry) (all : List (List ℕ)) (p : Placement) → given e all p ≡ given_by e (walked 1 no_facts all) p (length all)
unfolding given
given_walked e all (Block at size) = refl
given_walked e all (Scattered addresses) = refl

pub given_is : (e : Entry) (F : Facts) (all : List (List ℕ)) (p : Placement) (count : ℕ) → walked 1 no_facts all ≡ F → length all ≡ count → given e all p ≡ given_by e F p count
given_is e F all p count facts_are counted =
    given_walked e all p ∙ (ap (λ G. given_by e G p (length all)) facts_are ∙ ap (given_by e F p) counted)

-- the parts after all shifts
pub parts_loaded : (e : Entry) (F : Facts) (p : Placement) (kept : Kept) → IsPlacementOf e p → Sound e F → Fits p F.symbols → IsLaid p F kept
    → parts_of (with_shifts F.symbols (shifts_in kept F.symbols) kept (map (λ x. x.item) F.fields))
    ≡ map (part_in (loaded F (addresses_by F.symbols p) 1)) (extents_by F.symbols p)
parts_loaded e F p kept placement sound fits laid =
    let q : Addresses = addresses_by F.symbols p in
    let items : items_in F 1 ≡ map (λ x. x.item) F.fields = items_of_one F sound.ones in
    let all : AllSound F.symbols (items_in F 1) = subst (AllSound F.symbols) (sym items) sound.fields in
    let shifts : shifts_in kept F.symbols ≡ shifts_by F.symbols q = shifts_are F.symbols p kept laid.sized in
    ap (λ ss. parts_of (with_shifts F.symbols ss kept (map (λ x. x.item) F.fields))) shifts
    ∙ (ap (λ k. parts_of (with_shifts F.symbols (shifts_by F.symbols q) k (map (λ x. x.item) F.fields))) (laid.holds fits)
    ∙ (ap (λ xs. parts_of (with_shifts F.symbols (shifts_by F.symbols q) (holding F.symbols p (text_storage F q 1)) xs)) (sym items)
    ∙ (ap parts_of (loaded_holds F p fits (suits e F p placement sound) (sections_apart e F.symbols sound.symbols) all)
    ∙ parts_are F.symbols p (loaded F q 1) fits)))

-- ---- what is answered

symbols_walked : (e : Entry) (records all : List (List ℕ)) (w : Walked) → IsWalked e records w → Completes e w records all
    → (walked 1 no_facts all).symbols ≡ w.facts.symbols
symbols_walked e records all w walk complete =
    ap (λ (F : Facts). F.symbols) complete.walked ∙ sym (ap (λ (x : Walked). x.facts.symbols) walk.state)

pub ends_answers : (A : Type 0) (e : Entry) (p : Placement) (w : Walked) (kept : Kept) (count : ℕ) (why : FetchFault) → EndsWith {A = A} e w (Err why)
    → AnswersAll e p w kept count (Err why)
ends_answers A e p w kept count (At number what) ends = λ records all walk root laid complete counted. inl (complete.bad ∙ ends records walk)
ends_answers A e p w kept count ReadFault ends = absurd ends
ends_answers A e p w kept count Memory ends = absurd ends

pub ends_other : (A : Type 0) (e : Entry) (w : Walked) (why : FetchFault) → EndsWith {A = A} e w (Err why) → why ≡ ReadFault → ⊥
ends_other A e w (At number what) ends = λ is. absurd cc
ends_other A e w ReadFault ends = λ is. ends
ends_other A e w Memory ends = λ is. ends

pub misfit_answers : (A : Type 0) (e : Entry) (p : Placement) (w : Walked) (kept : Kept) (count : ℕ) (why : FetchFault) → IsGood e w
    → SectionsFit {A = A} p w (Err why) → AnswersAll e p w kept count (Err why)
misfit_answers A e p w kept count (At number what) good unfit = λ records all walk root laid complete counted. inr (record {
  good = complete.bad ∙ good records walk;
  unfit = λ fits. unfit.0 (subst (Fits p) (symbols_walked e records all w walk complete) fits);
  at_none = unfit.1;
  scatter = unfit.2;
})
misfit_answers A e p w kept count ReadFault good unfit = absurd unfit
misfit_answers A e p w kept count Memory good unfit = λ records all walk root laid complete counted. tt

pub misfit_other : (A : Type 0) (p : Placement) (w : Walked) (why : FetchFault) → SectionsFit {A = A} p w (Err why) → why ≡ ReadFault → ⊥
misfit_other A p w (At number what) unfit = λ is. absurd cc
misfit_other A p w ReadFault unfit = λ is. unfit
misfit_other A p w Memory unfit = λ is. absurd cc

pub loaded_answers : (e : Entry) (p : Placement) (w : Walked) (kept : Kept) (count : ℕ) (f : Fetched) → IsGood e w → Fits p w.facts.symbols
    → Gives e p w kept count f → AnswersAll e p w kept count (Ok f)
loaded_answers e p w kept count f good fits gives = λ records all walk root laid complete counted. record {
  good = complete.bad ∙ good records walk;
  fits = subst (Fits p) (sym (symbols_walked e records all w walk complete)) fits;
  value = gives records all walk root laid complete counted;
}

-- ---- what is loaded is given

entry_section : (e : Entry) (p : Placement) (w : Walked) (kept : Kept) → (laid : IsLaidOf e p w kept) → IsGood e w
    → InSection (facts laid.0).symbols e.entry_section e.entry 0
entry_section e p w kept laid good = entry_inside e laid.0 (is_fetched_whole e w) (good laid.0 laid.1)

pub entry_from : (e : Entry) (p : Placement) (w : Walked) (kept : Kept) → IsPlacementOf e p → IsLaidOf e p w kept → IsGood e w
    → (n : ℕ) → n ≡ e.entry_section → (home_at kept.homes n).base ≤ e.entry
entry_from e p w kept placement laid good n is =
    let sound : Sound e (facts laid.0) = sound_of e laid.0 w laid.1 laid.2 in
    let lie : LieInPart kept e.entry_section e.entry 0 =
    lies (facts laid.0).symbols p kept e.entry_section e.entry 0 laid.3.sized (suits e (facts laid.0) p placement sound) (entry_section e p w kept laid good) in
    subst (λ m. (home_at kept.homes m).base ≤ e.entry) (sym is) lie.from

pub entry_near : (e : Entry) (p : Placement) (w : Walked) (kept : Kept) → IsPlacementOf e p → IsLaidOf e p w kept → IsGood e w → Fits p w.facts.symbols
    → (n : ℕ) → n ≡ e.entry_section → address_in kept n e.entry < 2 ^ 32
entry_near e p w kept placement laid good fits n is =
    let F : Facts = facts laid.0 in
    let sound : Sound e F = sound_of e laid.0 w laid.1 laid.2 in
    let inside : InSection F.symbols e.entry_section e.entry 0 = entry_section e p w kept laid good in
    let fitting : Fits p F.symbols = subst (Fits p) (ap (λ (x : Walked). x.facts.symbols) laid.1.state) fits in
    subst (λ m. address_in kept m e.entry < 2 ^ 32) (sym is)
    (subst (λ a. a < 2 ^ 32) (sym (address_is F.symbols p kept e.entry_section e.entry inside.section laid.3.sized inside.found inside.from))
    (address_near e F.symbols p e.entry_section e.entry 0 placement fitting (suits e F p placement sound) inside))

-- the member with these parts, entry point and shifts
abbrev pub fetched_as : Facts → ℕ → List Part → ℕ → List ℕ → Fetched
fetched_as F count parts entry shifts = record {
  parts = parts;
  entry = entry;
  items = F.symbols;
  notes = F.notes;
  shifts = shifts;
  fields = map (λ x. x.item) F.fields;
  records = count;
}

-- what the parts give, once all fields are shifted
abbrev pub held_by : Entry → Facts → Kept → ℕ → Fetched
held_by e F kept count =
    fetched_as F count (parts_of (with_shifts F.symbols (shifts_in kept F.symbols) kept (map (λ x. x.item) F.fields)))
    (address_in kept e.entry_section e.entry) (shifts_in kept F.symbols)

held_given : (e : Entry) (F : Facts) (p : Placement) (kept : Kept) (count : ℕ) → IsPlacementOf e p → Sound e F → Fits p F.symbols → IsLaid p F kept
    → InSection F.symbols e.entry_section e.entry 0 → held_by e F kept count ≡ given_by e F p count
held_given e F p kept count placement sound fits laid inside =
    let q : Addresses = addresses_by F.symbols p in
    ap (λ ps. fetched_as F count ps (address_in kept e.entry_section e.entry) (shifts_in kept F.symbols)) (parts_loaded e F p kept placement sound fits laid)
    ∙ (ap (λ a. fetched_as F count (map (part_in (loaded F q 1)) (extents_by F.symbols p)) a (shifts_in kept F.symbols))
    (address_is F.symbols p kept e.entry_section e.entry inside.section laid.sized inside.found inside.from)
    ∙ ap (fetched_as F count (map (part_in (loaded F q 1)) (extents_by F.symbols p)) (moved F.symbols q e.entry_section e.entry)) (shifts_are F.symbols p kept laid.sized))

pub gives_all : (e : Entry) (p : Placement) (w : Walked) (kept : Kept) (count : ℕ) (f : Fetched) → IsPlacementOf e p → IsGood e w → Fits p w.facts.symbols
    → f ≡ held_by e w.facts kept count → Gives e p w kept count f
gives_all e p w kept count f placement good fits is = λ records all walk root laid complete counted.
    let F : Facts = facts records in
    let fitting : Fits p F.symbols = subst (Fits p) (ap (λ (x : Walked). x.facts.symbols) walk.state) fits in
    let same : held_by e w.facts kept count ≡ held_by e F kept count = ap (λ (x : Walked). held_by e x.facts kept count) walk.state in
    is ∙ (same
    ∙ (held_given e F p kept count placement (sound_of e records w walk root) fitting laid (entry_inside e records (is_fetched_whole e w) (good records walk))
    ∙ sym (given_is e F all p count complete.walked counted)))

-- ---- as the walk and the parts are taken apart

items_back : (fields : List SegmentField) → map (λ (x : Field). x.item) (map field_of fields) ≡ items_of fields
items_back [] = refl
items_back (x ∷ fields) = ap (λ xs. x.item ∷ xs) (items_back fields)

pub fields_lie_as : (e : Entry) (p : Placement) (w : Walked) (kept : Kept) (fields : List SegmentField) → IsPlacementOf e p → IsLaidOf e p w kept
    → map field_of fields ≡ w.facts.fields → (symbols : List SymbolItem) (items : List RldItem) → symbols ≡ w.facts.symbols → items ≡ items_of fields
    → FieldsLie symbols kept items
fields_lie_as e p w kept fields placement laid fields_are symbols items symbols_are items_are =
    let same : items ≡ map (λ (x : Field). x.item) w.facts.fields =
    items_are ∙ (sym (items_back fields) ∙ ap (map (λ (x : Field). x.item)) fields_are) in
    subst (λ ss. FieldsLie ss kept items) (sym symbols_are)
    (subst (FieldsLie w.facts.symbols kept) (sym same) (fields_all_lie e p laid.0 w kept placement laid.1 laid.2 laid.3))

pub gives_parts : (e : Entry) (p : Placement) (w : Walked) (kept : Kept) (count : ℕ) (segment_fields : List SegmentField) (section : ℕ) → IsPlacementOf e p → IsGood e w → Fits p w.facts.symbols
    → map field_of segment_fields ≡ w.facts.fields
    → (parts : List Part) (entry : ℕ) (symbols : List SymbolItem) (notes : List NoteItem) (shifts : List ℕ) (fields : List RldItem)
    → section ≡ e.entry_section → symbols ≡ w.facts.symbols → notes ≡ w.facts.notes → entry ≡ address_in kept section e.entry → shifts ≡ shifts_in kept symbols
    → fields ≡ items_of segment_fields → parts ≡ parts_of (with_shifts symbols shifts kept fields)
    → Gives e p w kept count (record { parts = parts; entry = entry; items = symbols; notes = notes; shifts = shifts; fields = fields; records = count })
gives_parts e p w kept count segment_fields section placement good fits fields_are parts entry symbols notes shifts fields section_is symbols_are notes_are entry_at shifts_are fields_items parts_are_held =
    let F : Facts = w.facts in
    let entry_is : entry ≡ address_in kept e.entry_section e.entry = entry_at ∙ ap (λ n. address_in kept n e.entry) section_is in
    let items : fields ≡ map (λ (x : Field). x.item) F.fields = fields_items ∙ (sym (items_back segment_fields) ∙ ap (map (λ (x : Field). x.item)) fields_are) in
    let moved_by : shifts ≡ shifts_in kept F.symbols = shifts_are ∙ ap (shifts_in kept) symbols_are in
    let held : parts ≡ parts_of (with_shifts F.symbols (shifts_in kept F.symbols) kept (map (λ (x : Field). x.item) F.fields)) =
    parts_are_held
    ∙ (ap (λ ss. parts_of (with_shifts ss shifts kept fields)) symbols_are
    ∙ (ap (λ ss. parts_of (with_shifts F.symbols ss kept fields)) moved_by
    ∙ ap (λ xs. parts_of (with_shifts F.symbols (shifts_in kept F.symbols) kept xs)) items)) in
    gives_all e p w kept count (record { parts = parts; entry = entry; items = symbols; notes = notes; shifts = shifts; fields = fields; records = count }) placement good fits
    (ap (λ ps. record { parts = ps; entry = entry; items = symbols; notes = notes; shifts = shifts; fields = fields; records = count }) held
    ∙ (ap (λ a. record { parts = parts_of (with_shifts F.symbols (shifts_in kept F.symbols) kept (map (λ (x : Field). x.item) F.fields)); entry = a; items = symbols; notes = notes; shifts = shifts; fields = fields; records = count }) entry_is
    ∙ (ap (λ ss. record { parts = parts_of (with_shifts F.symbols (shifts_in kept F.symbols) kept (map (λ (x : Field). x.item) F.fields)); entry = address_in kept e.entry_section e.entry; items = ss; notes = notes; shifts = shifts; fields = fields; records = count }) symbols_are
    ∙ (ap (λ ns. record { parts = parts_of (with_shifts F.symbols (shifts_in kept F.symbols) kept (map (λ (x : Field). x.item) F.fields)); entry = address_in kept e.entry_section e.entry; items = F.symbols; notes = ns; shifts = shifts; fields = fields; records = count }) notes_are
    ∙ (ap (λ ss. record { parts = parts_of (with_shifts F.symbols (shifts_in kept F.symbols) kept (map (λ (x : Field). x.item) F.fields)); entry = address_in kept e.entry_section e.entry; items = F.symbols; notes = F.notes; shifts = ss; fields = fields; records = count }) moved_by
    ∙ ap (λ xs. record { parts = parts_of (with_shifts F.symbols (shifts_in kept F.symbols) kept (map (λ (x : Field). x.item) F.fields)); entry = address_in kept e.entry_section e.entry; items = F.symbols; notes = F.notes; shifts = shifts_in kept F.symbols; fields = xs; records = count }) items)))))
