-- What reading a record where no text is due says of its bytes.
use Rattle.std.proofs.Common.{◌≡◌, ℕ, ap, refl, List, length, Option, Some, None, option_map, Result, Ok, Err}
use Rattle.load_recs.specs.Faults.{what_of}
use Rattle.load_recs.specs.Records.{Record, SymbolRecord, ScatterRecord, TranslationRecord, NoteRecord, ControlRecord, RldRecord, ControlRldRecord, TextRecord, IsRecord}
use Rattle.load_recs.specs.Reading.{own_fault, contents, unless}
use Rattle.load_recs.specs.declared.records.RecFault.{RecFault}
use Rattle.member_checks.specs.Heads.{HasFewItems}

unless_ok : (o : Option RecFault) (held r : Record) → unless o held ≡ Ok r → (o ≡ None) × (held ≡ r)
unless_ok None held r h = (refl, (cc))
unless_ok (Some fault) held r h = absurd cc

unless_err : (o : Option RecFault) (held : Record) (fault : RecFault) → unless o held ≡ Err fault → o ≡ Some fault
unless_err None held fault h = cc
unless_err (Some other) held fault h = cc

pub is_read : (bytes : List ℕ) (r : Record) → unless (own_fault bytes) (contents bytes) ≡ Ok r → (own_fault bytes ≡ None) × (contents bytes ≡ r)
is_read bytes r h = unless_ok (own_fault bytes) (contents bytes) r h

pub is_refused : (bytes : List ℕ) (fault : RecFault) → unless (own_fault bytes) (contents bytes) ≡ Err fault → option_map what_of (own_fault bytes) ≡ Some (what_of fault)
is_refused bytes fault h = ap (option_map what_of) (unless_err (own_fault bytes) (contents bytes) fault h)

pub few_items : (r : Record) → IsRecord r → HasFewItems r
few_items (SymbolRecord first items) is = is.0.most
few_items (ScatterRecord first items) is = is.most
few_items (TranslationRecord first items) is = is.most
few_items (NoteRecord first items) is = is.most
few_items (ControlRecord ends text) is = tt
few_items (RldRecord ends items) is = tt
few_items (ControlRldRecord ends items text) is = tt
few_items (TextRecord bytes) is = tt
