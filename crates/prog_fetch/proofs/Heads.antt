-- How far a fetch has come, one record after the other.
use Rattle.std.proofs.Common.{◌≡◌, ℕ, ◌+◌, ◌≤◌, true, List, [], ◌∷◌, ◌++◌, length, refl, sym, ◌∙◌, ap, subst, Option, Some, None, Result, Ok, Err, OnOk}
use Rattle.le_io.specs.Counts.{WhereTold}
use Rattle.lib_stream.specs.Sources.{IsRecord}
use Rattle.pds_directory.specs.declared.entry.Entry.{Entry}
use Rattle.load_recs.specs.Records.{Record, SymbolRecord, ScatterRecord, TranslationRecord, NoteRecord, ControlRecord, RldRecord, ControlRldRecord, TextRecord}
use Rattle.load_recs.specs.Reading.{contents}
use Rattle.load_recs.specs.Relocations.{rlds_of}
use Rattle.load_recs.specs.declared.records.TextHead.{TextHead}
use Rattle.member_model.specs.Facts.{Facts, facts, seen, with_contents, with_record, with_fields}
use Rattle.member_model.specs.Faults.{fault}
use Rattle.member_model.proofs.Gathered.{records_add_facts}
use Rattle.member_walk.specs.Walked.{Walked, IsWalked}
use Rattle.member_walk.specs.Told.{text_told, is_fetched_on}
use Rattle.member_walk.specs.declared.parts.TextPlace.{TextPlace}
use Rattle.fetch_places.specs.declared.placement.Placement.{Placement}
use Rattle.fetch_storage.specs.Kept.{Kept, empty_parts, LieInPart, with_text}
use Rattle.prog_fetch.specs.declared.fault.FetchFault.{FetchFault}
use Rattle.prog_fetch.specs.Given.{IsPlacementOf}
use Rattle.prog_fetch.specs.Reading.{HasHead, HasText, HasAll, IsOver, IsLaid, IsLaidOf, LaysNext}
use Rattle.prog_fetch.proofs.Sound.{Sound}
use Rattle.prog_fetch.proofs.Records.{sound_of, last_right, fetched_one, read_more, counted_more, nothing_read}
use Rattle.prog_fetch.proofs.Texts.{empty_laid, due_told, text_lies, laid_more, laid_still, late_more, due_late, ended_texts}

-- ---- heads

contents_texts : (F : Facts) (x : Record) → (with_contents F x).texts ≡ F.texts
contents_texts F (SymbolRecord first items) = refl
contents_texts F (ScatterRecord first items) = refl
contents_texts F (TranslationRecord first items) = refl
contents_texts F (NoteRecord first items) = refl
contents_texts F (ControlRecord ends text) = refl
contents_texts F (RldRecord ends items) = ended_texts ends (with_fields (rlds_of items) F)
contents_texts F (ControlRldRecord ends items text) = refl
contents_texts F (TextRecord bytes) = refl

no_text_more : (F : Facts) (bytes : List ℕ) → F.due ≡ None → (seen F bytes).texts ≡ F.texts
unfolding seen
no_text_more F bytes none = ap (λ o. (with_record F o bytes).texts) none ∙ contents_texts F (contents bytes)

due_of_walk : (e : Entry) (records : List (List ℕ)) (w : Walked) → IsWalked e records w → w.facts.due ≡ (facts records).due
due_of_walk e records w walked = ap (λ (x : Walked). x.facts.due) walked.state

pub head_begins : (e : Entry) (list : Option (List (List ℕ))) (total : ℕ) (w : Walked) → IsWalked e [] w → HasHead e list total w
unfolding facts
head_begins e list total w walked = ([], nothing_read e list total w walked, refl)

pub head_more : (e : Entry) (list : Option (List (List ℕ))) (total n : ℕ) (w next : Walked) (bytes : List ℕ)
    → HasHead e list total w → is_fetched_on e w ≡ true → w.facts.due ≡ None → n ≡ w.number + 1 → n ≤ total → WhereTold list (λ all. IsRecord all n bytes)
    → ((records : List (List ℕ)) → IsWalked e records w → IsWalked e (records ++ bytes ∷ []) next) → HasHead e list total next
head_more e list total n w next bytes head on none number most told later =
    let records : List (List ℕ) = head.0 in
    let due : (facts records).due ≡ None = sym (due_of_walk e records w head.1.walked) ∙ none in (
      records ++ bytes ∷ [],
      read_more e list total n w next records bytes head.1 on number most told (later records head.1.walked),
      ap (λ (F : Facts). F.texts) (records_add_facts records bytes) ∙ (no_text_more (facts records) bytes due ∙ head.2),
    )

pub head_on : {X : Type 0} (answer : Result X FetchFault) (e : Entry) (list : Option (List (List ℕ))) (total n : ℕ) (w next : Walked) (bytes : List ℕ)
    → HasHead e list total w → is_fetched_on e w ≡ true → w.facts.due ≡ None → n ≡ w.number + 1 → n ≤ total → WhereTold list (λ all. IsRecord all n bytes)
    → OnOk answer ((records : List (List ℕ)) → IsWalked e records w → IsWalked e (records ++ bytes ∷ []) next) → OnOk answer (HasHead e list total next)
head_on (Ok x) e list total n w next bytes head on none number most told later = head_more e list total n w next bytes head on none number most told later
head_on (Err why) e list total n w next bytes head on none number most told later = later

-- ---- texts

symbols_of_walk : (e : Entry) (records : List (List ℕ)) (w : Walked) → IsWalked e records w → w.facts.symbols ≡ (facts records).symbols
symbols_of_walk e records w walked = ap (λ (x : Walked). x.facts.symbols) walked.state

stage_of_walk : (e : Entry) (records : List (List ℕ)) (w : Walked) → IsWalked e records w → w.facts.stage ≡ (facts records).stage
stage_of_walk e records w walked = ap (λ (x : Walked). x.facts.stage) walked.state

head_laid : (e : Entry) (list : Option (List (List ℕ))) (total : ℕ) (p : Placement) (w : Walked) (kept : Kept) → (head : HasHead e list total w)
    → kept ≡ empty_parts w.facts.symbols p → IsLaid p (facts head.0) kept
head_laid e list total p w kept head empty =
    empty_laid p (facts head.0) kept head.2 (empty ∙ ap (λ ss. empty_parts ss p) (symbols_of_walk e head.0 w head.1.walked))

-- no text is due, and no record is left
pub all_heads : (e : Entry) (list : Option (List (List ℕ))) (total : ℕ) (p : Placement) (w : Walked) (kept : Kept) → HasHead e list total w
    → kept ≡ empty_parts w.facts.symbols p → IsOver e total w → HasAll e list total p w kept
all_heads e list total p w kept head empty over = (head.0, head.1, head_laid e list total p w kept head empty, over)

-- text is due
pub text_begins : (e : Entry) (list : Option (List (List ℕ))) (total : ℕ) (p : Placement) (w : Walked) (kept : Kept) (t : TextHead) → HasHead e list total w
    → kept ≡ empty_parts w.facts.symbols p → w.facts.due ≡ Some t → HasText e list total p w kept
text_begins e list total p w kept t head empty due =
    let there : (facts head.0).due ≡ Some t = sym (due_of_walk e head.0 w head.1.walked) ∙ due in
    let late : 4 ≤ (facts head.0).stage = due_late e (facts head.0) t (sound_of e head.0 w head.1.walked head.1.root) there in
    (head.0, head.1, head_laid e list total p w kept head empty, subst (λ k. 4 ≤ k) (sym (stage_of_walk e head.0 w head.1.walked)) late)

pub all_texts : (e : Entry) (list : Option (List (List ℕ))) (total : ℕ) (p : Placement) (w : Walked) (kept : Kept) → HasText e list total p w kept
    → IsOver e total w → HasAll e list total p w kept
all_texts e list total p w kept text over = (text.0, text.1, text.2, over)

pub laid_of : (e : Entry) (list : Option (List (List ℕ))) (total : ℕ) (p : Placement) (w : Walked) (kept : Kept) → HasText e list total p w kept → IsLaidOf e p w kept
laid_of e list total p w kept text = (text.0, text.1.walked, text.1.root, text.2)

pub all_laid : (e : Entry) (list : Option (List (List ℕ))) (total : ℕ) (p : Placement) (w : Walked) (kept : Kept) → HasAll e list total p w kept → IsLaidOf e p w kept
all_laid e list total p w kept all = (all.0, all.1.walked, all.1.root, all.2)

pub text_more : (e : Entry) (list : Option (List (List ℕ))) (total n : ℕ) (p : Placement) (w next : Walked) (kept new : Kept) (bytes : List ℕ)
    → HasText e list total p w kept → is_fetched_on e w ≡ true → n ≡ w.number + 1 → n ≤ total → WhereTold list (λ all. IsRecord all n bytes)
    → LaysNext e p bytes w kept next new → HasText e list total p next new
text_more e list total n p w next kept new bytes text on number most told lays =
    let records : List (List ℕ) = text.0 in
    let later : IsWalked e (records ++ bytes ∷ []) next × IsLaid p (facts (records ++ bytes ∷ [])) new = lays records text.1.walked text.1.root text.2 in
    let late : 4 ≤ (facts records).stage = subst (λ k. 4 ≤ k) (stage_of_walk e records w text.1.walked) text.3 in
    let after : 4 ≤ (seen (facts records) bytes).stage = late_more e (facts records) bytes late (last_right e records bytes next later.0) in
    let there : 4 ≤ (facts (records ++ bytes ∷ [])).stage = subst (λ (F : Facts). 4 ≤ F.stage) (sym (records_add_facts records bytes)) after in (
      records ++ bytes ∷ [],
      read_more e list total n w next records bytes text.1 on number most told later.0,
      later.1,
      subst (λ k. 4 ≤ k) (sym (stage_of_walk e (records ++ bytes ∷ []) next later.0)) there,
    )

pub text_on : {X : Type 0} (answer : Result X FetchFault) (e : Entry) (list : Option (List (List ℕ))) (total n : ℕ) (p : Placement) (w next : Walked) (kept new : Kept) (bytes : List ℕ)
    → HasText e list total p w kept → is_fetched_on e w ≡ true → n ≡ w.number + 1 → n ≤ total → WhereTold list (λ all. IsRecord all n bytes)
    → OnOk answer (LaysNext e p bytes w kept next new) → OnOk answer (HasText e list total p next new)
text_on (Ok x) e list total n p w next kept new bytes text on number most told lays = text_more e list total n p w next kept new bytes text on number most told lays
text_on (Err why) e list total n p w next kept new bytes text on number most told lays = lays

pub text_counted : {X : Type 0} (answer : Result X FetchFault) (e : Entry) (list : Option (List (List ℕ))) (total : ℕ) (p : Placement) (w next : Walked) (kept new : Kept) (bytes : List ℕ)
    → HasText e list total p w kept → OnOk answer (LaysNext e p bytes w kept next new) → OnOk answer (next.number ≡ w.number + 1)
text_counted (Ok x) e list total p w next kept new bytes text lays =
    counted_more e w next text.0 bytes text.1.walked (lays text.0 text.1.walked text.1.root text.2).0
text_counted (Err why) e list total p w next kept new bytes text lays = lays

-- ---- one record of a segment

pub lies_next : (e : Entry) (p : Placement) (w next : Walked) (kept : Kept) (bytes : List ℕ) (place : TextPlace) → IsPlacementOf e p → IsLaidOf e p w kept
    → ((records : List (List ℕ)) → IsWalked e records w → IsWalked e (records ++ bytes ∷ []) next) → Some place ≡ text_told w
    → LieInPart kept place.section place.address (length bytes)
lies_next e p w next kept bytes place placement laid later told =
    text_lies e p laid.0 bytes w next kept place placement laid.1 laid.2 laid.3 (later laid.0 laid.1) told

pub lays_text : (e : Entry) (p : Placement) (w next : Walked) (kept new : Kept) (bytes : List ℕ) (place : TextPlace) → IsPlacementOf e p → is_fetched_on e w ≡ true
    → ((records : List (List ℕ)) → IsWalked e records w → IsWalked e (records ++ bytes ∷ []) next) → Some place ≡ text_told w
    → new ≡ with_text kept place.section place.address bytes → LaysNext e p bytes w kept next new
lays_text e p w next kept new bytes place placement on later told is = λ records walked root laid.
    let after : IsWalked e (records ++ bytes ∷ []) next = later records walked in
    let sound : Sound e (facts records) = sound_of e records w walked root in
    let one : (facts records).segment ≡ 1 = fetched_one e records bytes w next walked root on after in
    let right : fault e (facts records) bytes ≡ None = last_right e records bytes next after in (
      after,
      laid_more e p (facts records) (facts (records ++ bytes ∷ [])) bytes kept new place placement sound one right (due_told e records w place walked told)
          (records_add_facts records bytes) laid (text_lies e p records bytes w next kept place placement walked root laid after told) is,
    )

none_due : (e : Entry) (records : List (List ℕ)) (w : Walked) → IsWalked e records w → None ≡ text_told w → (facts records).due ≡ None
none_due e records w walked told = by_due w.facts.due refl (due_of_walk e records w walked)
  where
    by_due : (o : Option TextHead) → w.facts.due ≡ o → w.facts.due ≡ (facts records).due → (facts records).due ≡ None
    by_due None is same = sym same ∙ is
    by_due (Some t) is same = let gone : None ≡ Some (record { segment = w.facts.segment; section = t.section; address = t.address }) = rw is at told in absurd cc

pub lays_none : (e : Entry) (p : Placement) (w next : Walked) (kept : Kept) (bytes : List ℕ) → 4 ≤ w.facts.stage
    → ((records : List (List ℕ)) → IsWalked e records w → IsWalked e (records ++ bytes ∷ []) next) → None ≡ text_told w → LaysNext e p bytes w kept next kept
lays_none e p w next kept bytes late later told = λ records walked root laid.
    let after : IsWalked e (records ++ bytes ∷ []) next = later records walked in
    let right : fault e (facts records) bytes ≡ None = last_right e records bytes next after in
    let late_facts : 4 ≤ (facts records).stage = subst (λ k. 4 ≤ k) (stage_of_walk e records w walked) late in (
      after,
      laid_still e p (facts records) (facts (records ++ bytes ∷ [])) bytes kept (none_due e records w walked told) late_facts right (records_add_facts records bytes) laid,
    )
