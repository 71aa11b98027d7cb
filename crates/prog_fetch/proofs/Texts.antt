-- The text of a record is laid where the definitions have it.
use Rattle.std.proofs.Common.{arith, ◌≡◌, ℕ, ◌+◌, ◌<◌, ◌≤◌, Bool, true, false, ◌==◌, nat_lt, if◌then◌else◌, List, [], ◌∷◌, ◌++◌, length, fold, refl, sym, ◌∙◌, ap, subst, Option, Some, None}
use Rattle.pds_directory.specs.declared.entry.Entry.{Entry}
use Rattle.load_recs.specs.Records.{Record, SymbolRecord, ScatterRecord, TranslationRecord, NoteRecord, ControlRecord, RldRecord, ControlRldRecord, TextRecord}
use Rattle.load_recs.specs.Reading.{contents}
use Rattle.load_recs.specs.Relocations.{rlds_of}
use Rattle.load_recs.specs.declared.records.Ends.{Ends}
use Rattle.load_recs.specs.declared.records.TextHead.{TextHead}
use Rattle.linking_model.specs.Run.{Storage, with_piece, list_piece}
use Rattle.member_model.specs.Facts.{Facts, Text, facts, no_facts, seen, stage_of, ended_by, with_fields, with_contents, with_record}
use Rattle.member_model.specs.Faults.{fault, fault_with}
use Rattle.member_model.specs.FirstBad.{root_part}
use Rattle.member_model.specs.Loaded.{Addresses, moved, text_storage}
use Rattle.member_walk.specs.Walked.{Walked, IsWalked}
use Rattle.member_walk.specs.Told.{text_told}
use Rattle.member_walk.specs.declared.parts.TextPlace.{TextPlace}
use Rattle.fetch_places.specs.declared.placement.Placement.{Placement}
use Rattle.fetch_places.specs.declared.placement.Placement.TheVariants.{Block, Scattered}
use Rattle.fetch_places.specs.Addresses.{addresses_by}
use Rattle.fetch_places.specs.Extents.{Fits}
use Rattle.fetch_storage.specs.Held.{Sized, holding}
use Rattle.fetch_storage.specs.Kept.{Kept, empty_parts, LieInPart, with_text}
use Rattle.fetch_storage.specs.Sound.{InSection, Suits}
use Rattle.fetch_storage.proofs.Laying.{empty_sized, empty_holds, text_sized, text_holds}
use Rattle.fetch_storage.proofs.Standing.{lies}
use Rattle.prog_fetch.specs.Given.{IsPlacementOf}
use Rattle.prog_fetch.specs.Reading.{IsLaid}
use Rattle.prog_fetch.proofs.Sound.{Sound, DueSound, IsEarly, right_place, told_length}
use Rattle.prog_fetch.proofs.Sections.{sections_suit}
use Rattle.prog_fetch.proofs.Records.{sound_of, last_right}

-- ---- the placement suits the sections

pub suits : (e : Entry) (F : Facts) (p : Placement) → IsPlacementOf e p → Sound e F → Suits F.symbols p
suits e F p placement sound = sections_suit e F.symbols p sound.symbols (whole p placement)
  where
    whole : (p : Placement) → IsPlacementOf e p → (at size : ℕ) → p ≡ Block at size → size ≡ e.length
    whole (Block at size) placement at' size' is = let same : size ≡ size' = cc in sym same ∙ placement.0
    whole (Scattered addresses) placement at' size' is = absurd cc

-- ---- storage of texts

texts_fold : (F : Facts) (q : Addresses) (M : Storage) (texts : List Text) (t : Text) → t.segment ≡ 1
    → fold (λ N u. if u.segment == 1 then with_piece N (list_piece (moved F.symbols q u.section u.address) u.bytes) else N) M (texts ++ t ∷ [])
    ≡ with_piece (fold (λ N u. if u.segment == 1 then with_piece N (list_piece (moved F.symbols q u.section u.address) u.bytes) else N) M texts) (list_piece (moved F.symbols q t.section t.address) t.bytes)
texts_fold F q M [] t one = let is : (t.segment == 1) ≡ true = grind (arith, one) in rw is refl
texts_fold F q M (u ∷ texts) t one =
    texts_fold F q (if u.segment == 1 then with_piece M (list_piece (moved F.symbols q u.section u.address) u.bytes) else M) texts t one

-- one more text
text_more : (F G : Facts) (q : Addresses) (t : Text) → G.symbols ≡ F.symbols → G.texts ≡ F.texts ++ t ∷ [] → t.segment ≡ 1
    → text_storage G q 1 ≡ with_piece (text_storage F q 1) (list_piece (moved F.symbols q t.section t.address) t.bytes)
unfolding text_storage
text_more F G q t symbols texts one =
    ap (λ ss. fold (λ N u. if u.segment == 1 then with_piece N (list_piece (moved ss q u.section u.address) u.bytes) else N) (λ a. 0) G.texts) symbols
    ∙ (ap (fold (λ N u. if u.segment == 1 then with_piece N (list_piece (moved F.symbols q u.section u.address) u.bytes) else N) (λ a. 0)) texts
    ∙ texts_fold F q (λ a. 0) F.texts t one)

-- no more text
texts_same : (F G : Facts) (q : Addresses) → G.symbols ≡ F.symbols → G.texts ≡ F.texts → text_storage G q 1 ≡ text_storage F q 1
unfolding text_storage
texts_same F G q symbols texts =
    ap (λ ss. fold (λ N u. if u.segment == 1 then with_piece N (list_piece (moved ss q u.section u.address) u.bytes) else N) (λ a. 0) G.texts) symbols
    ∙ ap (fold (λ N u. if u.segment == 1 then with_piece N (list_piece (moved F.symbols q u.section u.address) u.bytes) else N) (λ a. 0)) texts

no_text : (F : Facts) (q : Addresses) → F.texts ≡ [] → text_storage F q 1 ≡ (λ a. 0)
unfolding text_storage
no_text F q none = rw none refl

-- ---- before any text

pub empty_laid : (p : Placement) (F : Facts) (kept : Kept) → F.texts ≡ [] → kept ≡ empty_parts F.symbols p → IsLaid p F kept
empty_laid p F kept none empty = record {
  sized = subst (Sized F.symbols p) (sym empty) (empty_sized F.symbols p);
  holds = λ fits. empty ∙ (empty_holds F.symbols p fits ∙ ap (holding F.symbols p) (sym (no_text F (addresses_by F.symbols p) none)));
}

-- ---- a record that is text

-- what is told of it, and what is due
pub record IsDue (F : Facts) (place : TextPlace) : Type 0 where
  pub head : TextHead
  pub due : F.due ≡ Some head
  pub section : place.section ≡ head.section
  pub address : place.address ≡ head.address

pub due_told : (e : Entry) (records : List (List ℕ)) (w : Walked) (place : TextPlace) → IsWalked e records w → Some place ≡ text_told w → IsDue (facts records) place
due_told e records w place walked told = by_due w.facts.due refl (ap (λ (x : Walked). x.facts.due) walked.state)
  where
    by_due : (o : Option TextHead) → w.facts.due ≡ o → w.facts.due ≡ (facts records).due → IsDue (facts records) place
    by_due None is same = let gone : Some place ≡ None = rw is at told in absurd cc
    by_due (Some t) is same =
        let there : Some place ≡ Some (record { segment = w.facts.segment; section = t.section; address = t.address }) = rw is at told in
        let found : place ≡ record { segment = w.facts.segment; section = t.section; address = t.address } = cc in
        record { head = t; due = sym same ∙ is; section = ap (λ (x : TextPlace). x.section) found; address = ap (λ (x : TextPlace). x.address) found }

right_length : (e : Entry) (F : Facts) (bytes : List ℕ) (t : TextHead) → F.due ≡ Some t → fault e F bytes ≡ None → length bytes ≡ t.length
unfolding fault
right_length e F bytes t due none =
    told_length bytes t.length (subst (λ o. fault_with e F o bytes ≡ None) due none)

-- it lies in a section of segment 1
text_in_section : (e : Entry) (F : Facts) (bytes : List ℕ) (place : TextPlace) → Sound e F → fault e F bytes ≡ None → IsDue F place
    → InSection F.symbols place.section place.address (length bytes)
text_in_section e F bytes place sound none is =
    let due : DueSound e F (Some is.head) = subst (DueSound e F) is.due sound.due in
    let size : length bytes ≡ is.head.length = right_length e F bytes is.head is.due none in
    subst (λ k. InSection F.symbols place.section place.address k) (sym size)
    (subst (λ a. InSection F.symbols place.section a is.head.length) (sym is.address)
    (subst (λ n. InSection F.symbols n is.head.address is.head.length) (sym is.section) due.0))

pub text_lies : (e : Entry) (p : Placement) (records : List (List ℕ)) (bytes : List ℕ) (w next : Walked) (kept : Kept) (place : TextPlace)
    → IsPlacementOf e p → IsWalked e records w → root_part no_facts records ≡ records → IsLaid p (facts records) kept
    → IsWalked e (records ++ bytes ∷ []) next → Some place ≡ text_told w → LieInPart kept place.section place.address (length bytes)
text_lies e p records bytes w next kept place placement walked root laid later told =
    let sound : Sound e (facts records) = sound_of e records w walked root in
    let none : fault e (facts records) bytes ≡ None = last_right e records bytes next later in
    lies (facts records).symbols p kept place.section place.address (length bytes) laid.sized (suits e (facts records) p placement sound)
    (text_in_section e (facts records) bytes place sound none (due_told e records w place walked told))

-- the facts after it
pub after_text : (F : Facts) (bytes : List ℕ) (t : TextHead) → F.due ≡ Some t
    → seen F bytes ≡ ended_by F.ends (record F {
      texts = F.texts ++ record { segment = F.segment; section = t.section; address = t.address; bytes = bytes } ∷ [];
      due = None;
    })
unfolding seen
after_text F bytes t due = rw due refl

pub ended_symbols : (ends : Ends) (F : Facts) → (ended_by ends F).symbols ≡ F.symbols
ended_symbols ends F = by_cases ends.segment
  where
    by_cases : (t : Bool) → (if t then record F { segment = F.segment + 1; ended = ends.module } else F).symbols ≡ F.symbols
    by_cases true = refl
    by_cases false = refl

pub ended_texts : (ends : Ends) (F : Facts) → (ended_by ends F).texts ≡ F.texts
ended_texts ends F = by_cases ends.segment
  where
    by_cases : (t : Bool) → (if t then record F { segment = F.segment + 1; ended = ends.module } else F).texts ≡ F.texts
    by_cases true = refl
    by_cases false = refl

pub ended_stage : (ends : Ends) (F : Facts) → (ended_by ends F).stage ≡ F.stage
ended_stage ends F = by_cases ends.segment
  where
    by_cases : (t : Bool) → (if t then record F { segment = F.segment + 1; ended = ends.module } else F).stage ≡ F.stage
    by_cases true = refl
    by_cases false = refl

-- text is laid
pub laid_more : (e : Entry) (p : Placement) (F G : Facts) (bytes : List ℕ) (kept new : Kept) (place : TextPlace) → IsPlacementOf e p → Sound e F → F.segment ≡ 1
    → fault e F bytes ≡ None → IsDue F place → G ≡ seen F bytes → IsLaid p F kept → LieInPart kept place.section place.address (length bytes)
    → new ≡ with_text kept place.section place.address bytes → IsLaid p G new
laid_more e p F G bytes kept new place placement sound one none is after laid lie new_is =
    let t : Text = record { segment = F.segment; section = is.head.section; address = is.head.address; bytes = bytes } in
    let texts : G.texts ≡ F.texts ++ t ∷ [] = ap (λ (H : Facts). H.texts) (after ∙ after_text F bytes is.head is.due) ∙ ended_texts F.ends (record F { texts = F.texts ++ t ∷ []; due = None }) in
    let symbols : G.symbols ≡ F.symbols = ap (λ (H : Facts). H.symbols) (after ∙ after_text F bytes is.head is.due) ∙ ended_symbols F.ends (record F { texts = F.texts ++ t ∷ []; due = None }) in
    let inside : InSection F.symbols place.section place.address (length bytes) = text_in_section e F bytes place sound none is in
    let stored : text_storage G (addresses_by F.symbols p) 1 ≡ with_piece (text_storage F (addresses_by F.symbols p) 1) (list_piece (moved F.symbols (addresses_by F.symbols p) place.section place.address) bytes) =
    text_more F G (addresses_by F.symbols p) t symbols texts one
    ∙ (ap (λ n. with_piece (text_storage F (addresses_by F.symbols p) 1) (list_piece (moved F.symbols (addresses_by F.symbols p) n is.head.address) bytes)) (sym is.section)
    ∙ ap (λ a. with_piece (text_storage F (addresses_by F.symbols p) 1) (list_piece (moved F.symbols (addresses_by F.symbols p) place.section a) bytes)) (sym is.address)) in
    let sized : Sized F.symbols p new = subst (Sized F.symbols p) (sym new_is) (text_sized F.symbols p kept place.section place.address bytes lie laid.sized) in
    record {
      sized = subst (λ ss. Sized ss p new) (sym symbols) sized;
      holds = λ fits.
          let fitting : Fits p F.symbols = subst (Fits p) symbols fits in
          new_is
          ∙ (ap (λ k. with_text k place.section place.address bytes) (laid.holds fitting)
          ∙ (text_holds F.symbols p (text_storage F (addresses_by F.symbols p) 1) place.section place.address bytes fitting (suits e F p placement sound) inside
          ∙ (ap (holding F.symbols p) (sym stored)
          ∙ ap (λ ss. holding ss p (text_storage G (addresses_by ss p) 1)) (sym symbols))));
    }

-- ---- a record that is no text

pub record SameText (F G : Facts) : Type 0 where
  pub symbols : G.symbols ≡ F.symbols
  pub texts : G.texts ≡ F.texts

contents_same : (F : Facts) (x : Record) → 4 ≤ F.stage → nat_lt (stage_of x) F.stage ≡ false → SameText F (with_contents F x)
contents_same F (SymbolRecord first items) late order = absurd (too_late F.stage 0 late order (omega arith))
  where
    too_late : (s n : ℕ) → 4 ≤ s → nat_lt n s ≡ false → n < 4 → ⊥
    too_late s n late order low = grind (arith, late, order, low)
contents_same F (ScatterRecord first items) late order = record { symbols = refl; texts = refl }
contents_same F (TranslationRecord first items) late order = record { symbols = refl; texts = refl }
contents_same F (NoteRecord first items) late order = record { symbols = refl; texts = refl }
contents_same F (ControlRecord ends text) late order = record { symbols = refl; texts = refl }
contents_same F (RldRecord ends items) late order =
    record { symbols = ended_symbols ends (with_fields (rlds_of items) F); texts = ended_texts ends (with_fields (rlds_of items) F) }
contents_same F (ControlRldRecord ends items text) late order = record { symbols = refl; texts = refl }
contents_same F (TextRecord bytes) late order = record { symbols = refl; texts = refl }

pub other_same : (e : Entry) (F : Facts) (bytes : List ℕ) → F.due ≡ None → 4 ≤ F.stage → fault e F bytes ≡ None → SameText F (seen F bytes)
unfolding fault seen
other_same e F bytes none late right =
    let placed : fault_with e F None bytes ≡ None = subst (λ o. fault_with e F o bytes ≡ None) none right in
    subst (λ o. SameText F (with_record F o bytes)) (sym none)
    (contents_same F (contents bytes) late (right_place e F bytes placed).order)

pub laid_still : (e : Entry) (p : Placement) (F G : Facts) (bytes : List ℕ) (kept : Kept) → F.due ≡ None → 4 ≤ F.stage → fault e F bytes ≡ None → G ≡ seen F bytes
    → IsLaid p F kept → IsLaid p G kept
laid_still e p F G bytes kept none late right after laid =
    let same : SameText F (seen F bytes) = other_same e F bytes none late right in
    let symbols : G.symbols ≡ F.symbols = ap (λ (H : Facts). H.symbols) after ∙ same.symbols in
    let texts : G.texts ≡ F.texts = ap (λ (H : Facts). H.texts) after ∙ same.texts in
    record {
      sized = subst (λ ss. Sized ss p kept) (sym symbols) laid.sized;
      holds = λ fits.
          laid.holds (subst (Fits p) symbols fits)
          ∙ (ap (holding F.symbols p) (sym (texts_same F G (addresses_by F.symbols p) symbols texts))
          ∙ ap (λ ss. holding ss p (text_storage G (addresses_by ss p) 1)) (sym symbols));
    }

-- ---- the records of segments go on

contents_late : (F : Facts) (x : Record) → 4 ≤ F.stage → nat_lt (stage_of x) F.stage ≡ false → 4 ≤ (with_contents F x).stage
contents_late F (SymbolRecord first items) late order = absurd (too_late F.stage 0 late order (omega arith))
  where
    too_late : (s n : ℕ) → 4 ≤ s → nat_lt n s ≡ false → n < 4 → ⊥
    too_late s n late order low = grind (arith, late, order, low)
contents_late F (ScatterRecord first items) late order = absurd (too_late F.stage 1 late order (omega arith))
  where
    too_late : (s n : ℕ) → 4 ≤ s → nat_lt n s ≡ false → n < 4 → ⊥
    too_late s n late order low = grind (arith, late, order, low)
contents_late F (TranslationRecord first items) late order = absurd (too_late F.stage 2 late order (omega arith))
  where
    too_late : (s n : ℕ) → 4 ≤ s → nat_lt n s ≡ false → n < 4 → ⊥
    too_late s n late order low = grind (arith, late, order, low)
contents_late F (NoteRecord first items) late order = absurd (too_late F.stage 3 late order (omega arith))
  where
    too_late : (s n : ℕ) → 4 ≤ s → nat_lt n s ≡ false → n < 4 → ⊥
    too_late s n late order low = grind (arith, late, order, low)
contents_late F (ControlRecord ends text) late order = omega arith
contents_late F (RldRecord ends items) late order = rw (ended_stage ends (with_fields (rlds_of items) F)) (omega arith)
contents_late F (ControlRldRecord ends items text) late order = omega arith
contents_late F (TextRecord bytes) late order = late

pub late_more : (e : Entry) (F : Facts) (bytes : List ℕ) → 4 ≤ F.stage → fault e F bytes ≡ None → 4 ≤ (seen F bytes).stage
unfolding fault seen
late_more e F bytes late right = by_due F.due right
  where
    by_due : (o : Option TextHead) → fault_with e F o bytes ≡ None → 4 ≤ (with_record F o bytes).stage
    by_due None none = contents_late F (contents bytes) late (right_place e F bytes none).order
    by_due (Some t) none =
        rw (ended_stage F.ends (record F { texts = F.texts ++ record { segment = F.segment; section = t.section; address = t.address; bytes = bytes } ∷ []; due = None })) late

-- text is due only where they have begun
pub due_late : (e : Entry) (F : Facts) (t : TextHead) → Sound e F → F.due ≡ Some t → 4 ≤ F.stage
due_late e F t sound due = by_stage (nat_lt F.stage 4) refl
  where
    by_stage : (b : Bool) → nat_lt F.stage 4 ≡ b → 4 ≤ F.stage
    by_stage false high = grind (arith, high)
    by_stage true low = let before : IsEarly F = sound.early (grind (arith, low)) in (let gone : None ≡ Some t = sym before.nothing_due ∙ due in absurd cc)
