-- The module of a good member is sound.
use Rattle.std.proofs.Common.{arith, ◌≡◌, ℕ, zero, suc, ◌+◌, ◌-◌, ◌≤◌, Bool, true, false, not, ◌&&◌, ◌==◌, nat_le, if◌then◌else◌, List, [], ◌∷◌, ◌++◌, fold, drop, length, Option, Some, None, option_map, refl, sym, subst}
use Rattle.std.specs.Prelude.{IsSomeAnd, IsTrue}
use Rattle.std.specs.List.{filter, AllByRecursion}
use Rattle.std.specs.Option.{option_or, option_map_or}
use Rattle.std.proofs.lemmas.Bool.{leb-true}
use Rattle.std.proofs.lemmas.List.Elements.{All-from_recursion}
use Rattle.std.proofs.lemmas.List.Sums.{take_while-cons}
use Rattle.le_bytes.specs.declared.record_what.RecWhat.{RecWhat}
use Rattle.le_bytes.specs.declared.record_what.RecWhat.TheVariants.{BadEntryPoint, NoEnd}
use Rattle.pds_directory.specs.declared.entry.Entry.{Entry}
use Rattle.load_recs.specs.declared.items.SymbolItem.{SymbolItem}
use Rattle.load_recs.specs.declared.records.Ends.{Ends}
use Rattle.load_recs.specs.declared.records.TextHead.{TextHead}
use Rattle.load_recs.specs.Items.{symbols_of}
use Rattle.load_recs.specs.Relocations.{rlds_of}
use Rattle.load_recs.specs.Records.{Record, SymbolRecord, ScatterRecord, TranslationRecord, NoteRecord, ControlRecord, RldRecord, ControlRldRecord, TextRecord}
use Rattle.load_recs.specs.Reading.{contents}
use Rattle.sym_mod.specs.Kinds as kinds
use Rattle.sym_mod.specs.declared.module.SymEntry.TheVariants.{None as NoEntry, At}
use Rattle.sym_mod.specs.Sound.{IsSoundItem, LieInItem, IsSoundEntry, IsSoundModule}
use Rattle.member_model.specs.Symbols.{symbol_at, is_section, end_of, address_in_module}
use Rattle.member_model.specs.Facts.{Facts, Text, no_facts, facts, seen, ended_by, with_fields, with_contents, with_record}
use Rattle.member_model.specs.Faults.{when}
use Rattle.member_model.specs.FirstBad.{Fault, at, faults_from, is_entry_section, entry_fault, begins_with_symbols, first_symbols, head_fault, first_bad_of, first_bad, IsGood}
use Rattle.member_model.specs.ReadBack.{is_kept_at, new_number, item_as, items_of, fragment_of, fragments_of, kept_items, entry_of, module_of}
use Rattle.member_walk.proofs.HeadLists.{facts_split}
use Rattle.mod_read.specs.Gathered.{module_with}
use Rattle.mod_read.specs.Judged as judged
use Rattle.mod_read.specs.Judged.{AreBytes, AreRecords, IsJudgedSymbol, LiesIn, IsJudgedField, Pairs, IsClear, IsJudged, GoodMembersAreSound}
use Rattle.mod_read.proofs.JudgedSymbols.{or_none_left, or_none_right, symbol_more}
use Rattle.mod_read.proofs.JudgedFields.{when_none, not_false}
use Rattle.mod_read.proofs.JudgedRecords.{all_judged, none_judged}
use Rattle.mod_read.proofs.KeptItems.{item_found, kept_there, address_is, IsSectionOf, section_item, lies_there}
use Rattle.mod_read.proofs.Members.{each_of, has_each, each_map, filter_each, pairs_filter}
use Rattle.mod_read.proofs.SoundItems.{items_sound}
use Rattle.mod_read.proofs.SoundConstants.{IsKeptField, constants_sound, constants_apart}

-- ---- the entry point

-- the entry point lies in a section, or at its end
pub record Enters (e : Entry) (symbols : List SymbolItem) : Type 0 where
  pub section : SymbolItem
  pub there : symbol_at symbols e.entry_section ≡ Some section
  pub kind : is_section section ≡ true
  pub from : section.address ≤ e.entry
  pub to : e.entry ≤ end_of section

four : (a b c d : Bool) → (a && b && c && d) ≡ true → (a ≡ true) × (c ≡ true) × (d ≡ true)
four true true true true h = (refl, refl, refl)
four true true true false h = cc
four true true false d h = cc
four true false c d h = cc
four false b c d h = cc

enters_at : (e : Entry) (symbols : List SymbolItem) (o : Option SymbolItem) → symbol_at symbols e.entry_section ≡ o → option_map_or (is_entry_section e) o false ≡ true → Enters e symbols
enters_at e symbols None there fine = cc
enters_at e symbols (Some x) there fine =
    let all = four (is_section x) (x.segment == 1) (nat_le x.address e.entry) (nat_le e.entry (end_of x)) fine in
    record { section = x; there = there; kind = all.0; from = leb-true x.address e.entry all.1; to = leb-true e.entry (end_of x) all.2 }

enters : (e : Entry) (F : Facts) → entry_fault e F ≡ None → Enters e F.symbols
enters e F fine =
    enters_at e F.symbols (symbol_at F.symbols e.entry_section) refl
    (not_false (option_map_or (is_entry_section e) (symbol_at F.symbols e.entry_section) false)
    (when_none (not (option_map_or (is_entry_section e) (symbol_at F.symbols e.entry_section) false)) BadEntryPoint fine))

-- records leave the symbol items that came before
abbrev StaysIn : Facts → ℕ → SymbolItem → Type 0
StaysIn F n x = symbol_at F.symbols n ≡ Some x

ended_stays : (ends : Ends) (F : Facts) (n : ℕ) (x : SymbolItem) → StaysIn F n x → StaysIn (ended_by ends F) n x
ended_stays ends F n x there = by_end ends.segment
  where
    by_end : (t : Bool) → StaysIn (if t then record F { segment = F.segment + 1; ended = ends.module } else F) n x
    by_end true = there
    by_end false = there

contents_stay : (F : Facts) (r : Record) (n : ℕ) (x : SymbolItem) → StaysIn F n x → StaysIn (with_contents F r) n x
contents_stay F (SymbolRecord first items) n x there = symbol_more F.symbols (symbols_of items) n x there
contents_stay F (ScatterRecord first items) n x there = there
contents_stay F (TranslationRecord first items) n x there = there
contents_stay F (NoteRecord first items) n x there = there
contents_stay F (ControlRecord ends text) n x there = there
contents_stay F (RldRecord ends items) n x there = ended_stays ends (with_fields (rlds_of items) F) n x there
contents_stay F (ControlRldRecord ends items text) n x there = there
contents_stay F (TextRecord bytes) n x there = there

record_stays : (F : Facts) (due : Option TextHead) (bytes : List ℕ) (n : ℕ) (x : SymbolItem) → StaysIn F n x → StaysIn (with_record F due bytes) n x
record_stays F None bytes n x there = contents_stay F (contents bytes) n x there
record_stays F (Some text) bytes n x there =
    ended_stays F.ends (record F {
      texts = F.texts ++ record { segment = F.segment; section = text.section; address = text.address; bytes = bytes } ∷ [];
      due = None;
    }) n x there

seen_stays : (F : Facts) (bytes : List ℕ) (n : ℕ) (x : SymbolItem) → StaysIn F n x → StaysIn (seen F bytes) n x
unfolding seen
seen_stays F bytes n x there = record_stays F F.due bytes n x there

all_stay : (F : Facts) (records : List (List ℕ)) (n : ℕ) (x : SymbolItem) → StaysIn F n x → StaysIn (fold seen F records) n x
all_stay F [] n x there = there
all_stay F (b ∷ bs) n x there = all_stay (seen F b) bs n x (seen_stays F b n x there)

entry_inside : (a base from len size : ℕ) → base ≡ from → len ≡ size → a ≤ from + size → a - base ≤ len
entry_inside a base from len size e f h = omega arith

entry_sound : (e : Entry) (F : Facts) → Enters e F.symbols → IsSoundEntry (items_of F.symbols) (entry_of F e)
entry_sound e F enters = by_kept (is_kept_at F.symbols e.entry_section) refl
  where
    by_kept : (t : Bool) → is_kept_at F.symbols e.entry_section ≡ t
        → IsSoundEntry (items_of F.symbols) (if t then At (new_number F.symbols e.entry_section) (e.entry - address_in_module F.symbols e.entry_section) else NoEntry)
    by_kept false kept = tt
    by_kept true kept =
        let x : SymbolItem = enters.section in
        let made : IsSectionOf (item_as F.symbols x x.kind) x = section_item F.symbols x x.kind enters.kind in
        subst (λ o. IsSomeAnd o (λ y. IsTrue (kinds.is_section y.kind) × (e.entry - address_in_module F.symbols e.entry_section ≤ y.length)))
        (sym (item_found F.symbols e.entry_section x enters.there (kept_there F.symbols e.entry_section x enters.there kept)))
        (made.section, entry_inside e.entry (address_in_module F.symbols e.entry_section) x.address (item_as F.symbols x x.kind).length x.length (address_is F.symbols e.entry_section x enters.there) made.size enters.to)

-- ---- the module

fragments_sound : (F : Facts) → IsJudged F → AllByRecursion (λ f. LieInItem (items_of F.symbols) f.item f.offset (length f.bytes)) (fragments_of F)
fragments_sound F all =
    each_map (λ f. LieInItem (items_of F.symbols) f.item f.offset (length f.bytes)) (fragment_of F) (filter (λ t. is_kept_at F.symbols t.section) F.texts)
    (filter_each (λ (t : Text). LieInItem (items_of F.symbols) (new_number F.symbols t.section) (t.address - address_in_module F.symbols t.section) (length t.bytes)) (λ t. is_kept_at F.symbols t.section) F.texts
    (each_of (λ (t : Text). is_kept_at F.symbols t.section ≡ true → LieInItem (items_of F.symbols) (new_number F.symbols t.section) (t.address - address_in_module F.symbols t.section) (length t.bytes)) F.texts
    (λ t there kept. lies_there F.symbols t.section t.address (length t.bytes) (has_each (λ (t : Text). LiesIn F.symbols t.section t.address (length t.bytes)) F.texts t all.texts there) kept)))

kept_fields : (F : Facts) → IsJudged F → AllByRecursion (IsKeptField F.symbols) (kept_items F)
kept_fields F all =
    filter_each (IsKeptField F.symbols) (λ x. is_kept_at F.symbols x.p) (judged.items_of F)
    (each_of (λ x. is_kept_at F.symbols x.p ≡ true → IsKeptField F.symbols x) (judged.items_of F)
    (λ x there kept. record { field = has_each (IsJudgedField F.symbols) (judged.items_of F) x all.fields there; kept = kept }))

kept_clear : (F : Facts) → IsJudged F → Pairs IsClear (kept_items F)
kept_clear F all = pairs_filter IsClear (λ x. is_kept_at F.symbols x.p) (judged.items_of F) all.clear

pub sound_of_facts : (e : Entry) (F : Facts) → IsJudged F → Enters e F.symbols → IsSoundModule (module_with e F)
sound_of_facts e F all enters = record {
  items = All-from_recursion (IsSoundItem (items_of F.symbols)) (items_of F.symbols) (items_sound F.symbols all.symbols);
  fragments = All-from_recursion (λ f. LieInItem (items_of F.symbols) f.item f.offset (length f.bytes)) (fragments_of F) (fragments_sound F all);
  constants = constants_sound F.symbols (kept_items F) all.symbols (kept_fields F all) (kept_clear F all);
  apart = constants_apart F.symbols (kept_items F) (kept_fields F all) (kept_clear F all);
  entry = entry_sound e F enters;
}

-- ---- a good member

unnumbered : (n : ℕ) (o : Option RecWhat) → option_map (at n) o ≡ None → o ≡ None
unnumbered n None h = refl
unnumbered n (Some f) h = cc

record HasNoFault (e : Entry) (records : List (List ℕ)) : Type 0 where
  pub first : faults_from e no_facts 1 (first_symbols records) ≡ None
  pub entry : entry_fault e (facts (first_symbols records)) ≡ None
  pub later : faults_from e (facts (first_symbols records)) (length (first_symbols records) + 1) (drop (length (first_symbols records)) records) ≡ None

no_fault : (e : Entry) (records : List (List ℕ)) → IsGood e records → HasNoFault e records
unfolding first_bad first_bad_of
no_fault e records good =
    let first : List (List ℕ) = first_symbols records in
    let a : Option Fault = faults_from e no_facts 1 first in
    let b : Option Fault = option_map (at 1) (head_fault records) in
    let c : Option Fault = option_map (at 0) (entry_fault e (facts first)) in
    let d : Option Fault = faults_from e (facts first) (length first + 1) (drop (length first) records) in
    let last : Option Fault = option_or (option_map (at (length records + 1)) (when (not (facts records).ended) NoEnd)) None in
    let after_a : option_or b (option_or c (option_or d last)) ≡ None = or_none_right a _ good in
    let after_b : option_or c (option_or d last) ≡ None = or_none_right b _ after_a in
    let after_c : option_or d last ≡ None = or_none_right c _ after_b in
    record { first = or_none_left a _ good; entry = unnumbered 0 (entry_fault e (facts first)) (or_none_left c _ after_b); later = or_none_left d _ after_c }

later_records : (n : ℕ) (records : List (List ℕ)) → AreRecords records → AreRecords (drop n records)
later_records zero records all = all
later_records (suc n) [] all = tt
later_records (suc n) (b ∷ bs) all = later_records n bs all.1

first_step : (b : List ℕ) (rest : List (List ℕ)) (t : Bool) → AreBytes b → AreRecords rest → AreRecords (if t then b ∷ rest else [])
first_step b rest true one all = (one, all)
first_step b rest false one all = tt

first_records : (records : List (List ℕ)) → AreRecords records → AreRecords (first_symbols records)
first_records [] all = tt
first_records (b ∷ bs) all =
    subst AreRecords (sym (take_while-cons begins_with_symbols b bs)) (first_step b (first_symbols bs) (begins_with_symbols b) all.0 (first_records bs all.1))

judged_whole : (e : Entry) (records : List (List ℕ)) → AreRecords records → HasNoFault e records → IsJudged (facts records)
unfolding facts
judged_whole e records bytes none =
    subst IsJudged (facts_split no_facts records)
    (all_judged e (fold seen no_facts (first_symbols records)) (length (first_symbols records) + 1) (drop (length (first_symbols records)) records)
    (later_records (length (first_symbols records)) records bytes) none.later
    (all_judged e no_facts 1 (first_symbols records) (first_records records bytes) none.first none_judged))

enters_whole : (e : Entry) (records : List (List ℕ)) → Enters e (facts (first_symbols records)).symbols → Enters e (facts records).symbols
unfolding facts
enters_whole e records enters = record {
  section = enters.section;
  there = subst (λ (F : Facts). symbol_at F.symbols e.entry_section ≡ Some enters.section) (facts_split no_facts records)
      (all_stay (fold seen no_facts (first_symbols records)) (drop (length (first_symbols records)) records) e.entry_section enters.section enters.there);
  kind = enters.kind;
  from = enters.from;
  to = enters.to;
}

pub good_members_are_sound : GoodMembersAreSound
unfolding module_of
good_members_are_sound e records bytes good =
    let none : HasNoFault e records = no_fault e records good in
    sound_of_facts e (facts records) (judged_whole e records bytes none) (enters_whole e records (enters e (facts (first_symbols records)) none.entry))
