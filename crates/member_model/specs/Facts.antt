-- What the records of a member hold, gathered record by record. Nothing here judges them. The records and their order
-- are this project's profile.
use Rattle.std.specs.Prelude.{ℕ, ◌+◌, ◌==◌, Bool, false, if◌then◌else◌, List, [], ◌∷◌, ◌++◌, map, fold, length, Option, Some, None}
use Rattle.load_recs.specs.Items.{symbols_of, scatters_of, translations_of, notes_of}
use Rattle.load_recs.specs.Relocations.{rlds_of}
use Rattle.load_recs.specs.Records.{Record, SymbolRecord, ScatterRecord, TranslationRecord, NoteRecord, ControlRecord, RldRecord, ControlRldRecord, TextRecord}
use Rattle.load_recs.specs.Reading.{contents}
use Rattle.load_recs.specs.declared.items.SymbolItem.{SymbolItem}
use Rattle.load_recs.specs.declared.items.NoteItem.{NoteItem}
use Rattle.load_recs.specs.declared.items.RldItem.{RldItem}
use Rattle.load_recs.specs.declared.records.Ends.{Ends}
use Rattle.load_recs.specs.declared.records.TextHead.{TextHead}

-- a text record of a segment
pub record Text : Type 0 where
  pub segment : ℕ
  pub section : ℕ
  pub address : ℕ
  pub bytes : List ℕ

-- a relocation item of a segment
pub record Field : Type 0 where
  pub segment : ℕ
  pub item : RldItem

-- what has come so far: items of each kind, text and relocation items, what comes next, and what has ended
pub record Facts : Type 0 where
  pub symbols : List SymbolItem
  -- how many scatter and translation items came
  pub scattered : ℕ
  pub translated : ℕ
  pub notes : List NoteItem
  pub texts : List Text
  pub fields : List Field
  -- the place of the last record's kind in the order of kinds, and the number of the segment that goes on
  pub stage : ℕ
  pub segment : ℕ
  -- the text that is due, and what ends after it
  pub due : Option TextHead
  pub ends : Ends
  -- the module has ended
  pub ended : Bool

-- neither a segment nor the module ends
abbrev pub nothing_ends : Ends
nothing_ends = record { segment = false; «module» = false }

-- before the first record
abbrev pub no_facts : Facts
no_facts = record {
  symbols = [];
  scattered = 0;
  translated = 0;
  notes = [];
  texts = [];
  fields = [];
  stage = 0;
  segment = 1;
  due = None;
  ends = nothing_ends;
  ended = false;
}

-- the order of kinds: symbols, scatter items, translation items, notes, and the records of segments
abbrev pub stage_of : Record → ℕ
stage_of (SymbolRecord first items) = 0
stage_of (ScatterRecord first items) = 1
stage_of (TranslationRecord first items) = 2
stage_of (NoteRecord first items) = 3
stage_of _ = 4

-- the facts after the end of a record's contents: where a segment ends, the next goes on
abbrev pub ended_by : Ends → Facts → Facts
ended_by ends F = if ends.segment then record F { segment = F.segment + 1; ended = ends.module } else F

-- the facts with these relocation items of the segment
abbrev pub with_fields : List RldItem → Facts → Facts
with_fields items F =
    record F { fields = F.fields ++ map (λ x. record { segment = F.segment; item = x }) items; stage = 4 }

-- the facts with the contents of a record, whatever stood before it
abbrev pub with_contents : Facts → Record → Facts
with_contents F (SymbolRecord first items) = record F { symbols = F.symbols ++ symbols_of items; stage = 0 }
with_contents F (ScatterRecord first items) = record F { scattered = F.scattered + length (scatters_of items); stage = 1 }
with_contents F (TranslationRecord first items) =
    record F { translated = F.translated + length (translations_of items); stage = 2 }
with_contents F (NoteRecord first items) = record F { notes = F.notes ++ notes_of items; stage = 3 }
with_contents F (ControlRecord ends text) = record F { stage = 4; due = Some text; ends = ends }
with_contents F (RldRecord ends items) = ended_by ends (with_fields (rlds_of items) F)
with_contents F (ControlRldRecord ends items text) =
    record (with_fields (rlds_of items) F) { due = Some text; ends = ends }
with_contents F (TextRecord bytes) = F

-- after a control record comes its text, whatever the bytes are
abbrev pub with_record : Facts → Option TextHead → List ℕ → Facts
with_record F None bytes = with_contents F (contents bytes)
with_record F (Some text) bytes =
    ended_by F.ends (record F {
      texts = F.texts ++ record { segment = F.segment; section = text.section; address = text.address; bytes = bytes } ∷ [];
      due = None;
    })

-- the facts with those of one more record
unfoldable pub seen : Facts → List ℕ → Facts
seen F bytes = with_record F F.due bytes

-- the facts of a list of records
unfoldable pub facts : List (List ℕ) → Facts
facts records = fold seen no_facts records

-- the facts with those of records up to the one that ends segment s
unfoldable pub walked : ℕ → Facts → List (List ℕ) → Facts
walked s F [] = F
walked s F (b ∷ bs) = if F.segment == s then walked s (seen F b) bs else F
