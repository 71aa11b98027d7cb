-- Text already laid down counts for no fault, and for nothing that is kept.
use Rattle.std.proofs.Common.{◌≡◌, ℕ, ◌+◌, ◌≤◌, arith, rules, refl, sym, ap, subst, ◌∙◌, Bool, true, false, not, ◌==◌, length, Result, if◌then◌else◌, List, [], ◌∷◌, ◌++◌, map, Option, Some, None, option_map}
use Rattle.std.specs.Option.{option_or}
use Rattle.le_bytes.specs.declared.record_what.RecWhat.{RecWhat}
use Rattle.le_bytes.specs.declared.record_what.RecWhat.TheVariants.{BadLength}
use Rattle.pds_directory.specs.declared.entry.Entry.{Entry}
use Rattle.load_recs.specs.Faults.{what_of}
use Rattle.load_recs.specs.Records.{Record, SymbolRecord, ScatterRecord, TranslationRecord, NoteRecord, ControlRecord, RldRecord, ControlRldRecord, TextRecord}
use Rattle.load_recs.specs.Reading.{contents, own_fault}
use Rattle.load_recs.specs.Relocations.{rlds_of}
use Rattle.load_recs.specs.declared.items.RldItem.{RldItem}
use Rattle.load_recs.specs.declared.records.Ends.{Ends}
use Rattle.load_recs.specs.declared.records.TextHead.{TextHead}
use Rattle.member_model.specs.Facts.{Facts, Text, seen, ended_by, with_fields, with_contents, with_record}
use Rattle.member_model.specs.Faults.{when, fault, fault_with, place_fault, kind_fault, segment_fault, fields_fault, field_fault}
use Rattle.member_walk.specs.Walked.{without_texts}
use Rattle.member_checks.specs.Kept.{Keeps}
use Rattle.member_checks.specs.declared.refused.Refused.{Refused}

-- ---- faults

pub fields_without : (F : Facts) (before items : List RldItem) → fields_fault (without_texts F) before items ≡ fields_fault F before items
fields_without F before [] = refl
fields_without F before (x ∷ xs) = ap (option_or (field_fault F before x)) (fields_without F (before ++ x ∷ []) xs)

segment_without : (e : Entry) (F : Facts) (ends : Ends) (text : Option TextHead) (items : List RldItem) → segment_fault e (without_texts F) ends text items ≡ segment_fault e F ends text items
segment_without e F ends None items = rw (fields_without F (map (λ x. x.item) F.fields) items) refl
segment_without e F ends (Some text) items = rw (fields_without F (map (λ x. x.item) F.fields) items) refl

kind_without : (e : Entry) (F : Facts) (x : Record) → kind_fault e (without_texts F) x ≡ kind_fault e F x
kind_without e F (SymbolRecord first items) = refl
kind_without e F (ScatterRecord first items) = refl
kind_without e F (TranslationRecord first items) = refl
kind_without e F (NoteRecord first items) = refl
kind_without e F (ControlRecord ends text) = segment_without e F ends (Some text) []
kind_without e F (RldRecord ends items) = segment_without e F ends None (rlds_of items)
kind_without e F (ControlRldRecord ends items text) = segment_without e F ends (Some text) (rlds_of items)
kind_without e F (TextRecord bytes) = refl

due_without : (e : Entry) (F : Facts) (due : Option TextHead) (bytes : List ℕ) → fault_with e (without_texts F) due bytes ≡ fault_with e F due bytes
due_without e F None bytes = rw (kind_without e F (contents bytes)) refl
due_without e F (Some text) bytes = refl

pub fault_without : (e : Entry) (F : Facts) (bytes : List ℕ) → fault e (without_texts F) bytes ≡ fault e F bytes
unfolding fault
fault_without e F bytes = due_without e F F.due bytes

-- ---- what is kept

ended_without : (ends : Ends) (F : Facts) (xs ys : List Text) → without_texts (ended_by ends (record F { texts = xs })) ≡ without_texts (ended_by ends (record F { texts = ys }))
ended_without ends F xs ys = by_end ends.segment
  where
    ended : List Text → Bool → Facts
    ended texts t = if t then record F { texts = texts; segment = F.segment + 1; ended = ends.module } else record F { texts = texts }

    by_end : (t : Bool) → without_texts (ended xs t) ≡ without_texts (ended ys t)
    by_end true = refl
    by_end false = refl

contents_without : (F : Facts) (x : Record) → without_texts (with_contents (without_texts F) x) ≡ without_texts (with_contents F x)
contents_without F (SymbolRecord first items) = refl
contents_without F (ScatterRecord first items) = refl
contents_without F (TranslationRecord first items) = refl
contents_without F (NoteRecord first items) = refl
contents_without F (ControlRecord ends text) = refl
contents_without F (RldRecord ends items) = ended_without ends (with_fields (rlds_of items) F) [] F.texts
contents_without F (ControlRldRecord ends items text) = refl
contents_without F (TextRecord bytes) = refl

record_without : (F : Facts) (due : Option TextHead) (bytes : List ℕ) → without_texts (with_record (without_texts F) due bytes) ≡ without_texts (with_record F due bytes)
record_without F None bytes = contents_without F (contents bytes)
record_without F (Some text) bytes =
    let told : Text = record { segment = F.segment; section = text.section; address = text.address; bytes = bytes } in
    ended_without F.ends (record F { due = None }) (told ∷ []) (F.texts ++ told ∷ [])

pub seen_without : (F : Facts) (bytes : List ℕ) → without_texts (seen (without_texts F) bytes) ≡ without_texts (seen F bytes)
unfolding seen
seen_without F bytes = record_without F F.due bytes

-- text that is laid down while none is kept
pub ended_text : (ends : Ends) (F : Facts) (texts : List Text) → ended_by ends (record F { texts = [] }) ≡ without_texts (ended_by ends (record F { texts = texts }))
ended_text ends F texts = by_end ends.segment
  where
    by_end : (t : Bool) → (if t then record F { texts = []; segment = F.segment + 1; ended = ends.module } else record F { texts = [] }) ≡ without_texts (if t then record F { texts = texts; segment = F.segment + 1; ended = ends.module } else record F { texts = texts })
    by_end true = refl
    by_end false = refl

pub ended_texts : (ends : Ends) (F : Facts) → (ended_by ends F).texts ≡ F.texts
ended_texts ends F = by_end ends.segment
  where
    by_end : (t : Bool) → (if t then record F { segment = F.segment + 1; ended = ends.module } else F).texts ≡ F.texts
    by_end true = refl
    by_end false = refl

pub contents_texts : (F : Facts) (x : Record) → (with_contents F x).texts ≡ F.texts
contents_texts F (SymbolRecord first items) = refl
contents_texts F (ScatterRecord first items) = refl
contents_texts F (TranslationRecord first items) = refl
contents_texts F (NoteRecord first items) = refl
contents_texts F (ControlRecord ends text) = refl
contents_texts F (RldRecord ends items) = ended_texts ends (with_fields (rlds_of items) F)
contents_texts F (ControlRldRecord ends items text) = refl
contents_texts F (TextRecord bytes) = refl

-- other records lay down none
pub head_texts : (F : Facts) (bytes : List ℕ) → F.texts ≡ [] → with_record F None bytes ≡ without_texts (with_record F None bytes)
head_texts F bytes none = same (with_record F None bytes) (contents_texts F (contents bytes) ∙ none)
  where
    same : (G : Facts) → G.texts ≡ [] → G ≡ without_texts G
    same G texts = rw (sym texts) refl

-- ---- segments

ended_reach : (ends : Ends) (F : Facts) → (ended_by ends F).segment ≤ F.segment + 1
ended_reach ends F = by_end ends.segment
  where
    by_end : (t : Bool) → (if t then record F { segment = F.segment + 1; ended = ends.module } else F).segment ≤ F.segment + 1
    by_end true = omega arith
    by_end false = omega arith

same_reach : (n : ℕ) → n ≤ n + 1
same_reach n = omega arith

contents_reach : (F : Facts) (x : Record) → (with_contents F x).segment ≤ F.segment + 1
contents_reach F (SymbolRecord first items) = same_reach F.segment
contents_reach F (ScatterRecord first items) = same_reach F.segment
contents_reach F (TranslationRecord first items) = same_reach F.segment
contents_reach F (NoteRecord first items) = same_reach F.segment
contents_reach F (ControlRecord ends text) = same_reach F.segment
contents_reach F (RldRecord ends items) = ended_reach ends (with_fields (rlds_of items) F)
contents_reach F (ControlRldRecord ends items text) = same_reach F.segment
contents_reach F (TextRecord bytes) = same_reach F.segment

record_reach : (F : Facts) (due : Option TextHead) (bytes : List ℕ) → (with_record F due bytes).segment ≤ F.segment + 1
record_reach F None bytes = contents_reach F (contents bytes)
record_reach F (Some text) bytes =
    ended_reach F.ends (record F {
      texts = F.texts ++ record { segment = F.segment; section = text.section; address = text.address; bytes = bytes } ∷ [];
      due = None;
    })

-- a record ends one segment at most
pub segment_reach : (F : Facts) (bytes : List ℕ) → (without_texts (seen F bytes)).segment ≤ F.segment + 1
unfolding seen
segment_reach F bytes = record_reach F F.due bytes

-- ---- what a call answers

pub kept_head : (e : Entry) (F : Facts) (bytes : List ℕ) (answer : Result Facts Refused) → F.due ≡ None → F.texts ≡ []
    → Keeps (fault_with e F None bytes) (with_record F None bytes) answer → Keeps (fault e F bytes) (without_texts (seen F bytes)) answer
unfolding fault seen
kept_head e F bytes answer due texts kept =
    subst (λ o. Keeps (fault_with e F o bytes) (without_texts (with_record F o bytes)) answer) (sym due)
    (subst (λ G. Keeps (fault_with e F None bytes) G answer) (head_texts F bytes texts) kept)

pub kept_text : (e : Entry) (F : Facts) (text : TextHead) (bytes : List ℕ) (answer : Result Facts Refused) → F.due ≡ Some text
    → Keeps (when (not (length bytes == text.length)) BadLength) (without_texts (with_record F (Some text) bytes)) answer → Keeps (fault e F bytes) (without_texts (seen F bytes)) answer
unfolding fault seen
kept_text e F text bytes answer due kept =
    subst (λ o. Keeps (fault_with e F o bytes) (without_texts (with_record F o bytes)) answer) (sym due) kept

pub right_length : (m n : ℕ) → m ≡ n → when (not (m == n)) BadLength ≡ None
right_length m n same = rw (same, equal n) refl
  where
    equal : (n : ℕ) → (n == n) ≡ true
    equal n = search (rules)
