-- Segments that a call of a written member brings in: the relocation items that count afterwards, and what stands in
-- storage (this project's profile).
use Rattle.std.specs.Prelude.{◌≡◌, ◌≢◌, ◌*◌, ℕ, ◌+◌, ◌<◌, ◌≤◌, Bool, true, false, List, length}
use Rattle.linking_model.specs.Numbers.{is_among}
use Rattle.linking_model.specs.Tree.{is_in}
use Rattle.linking_model.specs.Places.{Laid, is_overlay, size, segment_of_section, length_of_section}
use Rattle.linking_model.specs.Linked.{Placement, block}
use Rattle.linking_model.specs.Run.{State as SymbolState, after_call, call_into as call_by_symbols, is_touched, start as start_linked, with_piece, list_piece}
use Rattle.member_model.specs.Calling.{State, call_into}
use Rattle.member_model.specs.ByteRun.{start}
use Rattle.member_model.specs.Written.{Naming, written_bytes}
use Rattle.member_laws.specs.Linkable.{IsLinkable, IsFormat}
use Rattle.member_laws.specs.Storing.{linked_storage}
use Rattle.run_laws.specs.Agreement.{Agrees}
use Rattle.run_laws.specs.EntryTables.{ReadsTable, member_at}
use Rattle.run_laws.specs.Fields.{HoldsFields}
use Rattle.run_laws.specs.Residents.{AreResident}
use Rattle.run_laws.specs.Starts.{most_records}

-- ---- relocation items

-- after a call into segment t the relocation items of each resident segment are those that are written: those of a
-- segment that was brought in come anew, and those of a segment that stayed are as they were
abbrev pub CallsBringFields : Type 0
CallsBringFields =
    (P : Laid) (scatter : Bool) (n : ℕ) (who : Naming) (at t s : ℕ) (resident : List ℕ) (S : State) → IsLinkable P
    → IsFormat P scatter n → is_overlay P.tree ≡ true → length (written_bytes P scatter n) ≤ most_records
    → AreResident P.tree resident → ReadsTable P at resident S.storage → 1 ≤ t → t ≤ length P.tree
    → ((r : ℕ) → is_in r resident ≡ true → HoldsFields P n r S.fields) → is_in s (after_call P.tree resident t) ≡ true
    → HoldsFields P n s (call_into (member_at P scatter n who at) S t).fields

-- ---- storage

-- at the start both runs agree
abbrev pub RunsBeginAlike : Type 0
RunsBeginAlike =
    (P : Laid) (scatter : Bool) (n : ℕ) (who : Naming) (at : ℕ) → IsLinkable P → IsFormat P scatter n
    → Agrees P (block P at) n (start (member_at P scatter n who at)) (start_linked P (block P at))

-- they agree again where both bring in the path of a segment
abbrev pub CallsBringAlike : Type 0
CallsBringAlike =
    (P : Laid) (scatter : Bool) (n : ℕ) (who : Naming) (at t : ℕ) (S : State) (T : SymbolState) → IsLinkable P
    → IsFormat P scatter n → is_overlay P.tree ≡ true → length (written_bytes P scatter n) ≤ most_records
    → Agrees P (block P at) n S T → 1 ≤ t → t ≤ length P.tree
    → Agrees P (block P at) n (call_into (member_at P scatter n who at) S t) (call_by_symbols P (block P at) T t)

-- a segment that is new then stands on its whole range as it is linked
abbrev pub NewSegmentsAreLinked : Type 0
NewSegmentsAreLinked =
    (P : Laid) (scatter : Bool) (n : ℕ) (who : Naming) (at t s a : ℕ) (S : State) (T : SymbolState) → IsLinkable P
    → IsFormat P scatter n → is_overlay P.tree ≡ true → length (written_bytes P scatter n) ≤ most_records
    → Agrees P (block P at) n S T → 1 ≤ t → t ≤ length P.tree → is_in s (after_call P.tree T.resident t) ≡ true
    → is_in s T.resident ≡ false → is_among ((block P at).range s) (size P s) a ≡ true
    → (call_into (member_at P scatter n who at) S t).storage a ≡ linked_storage P (block P at) s a

-- the address is in the range of a segment that a call into t brings in
pub record IsBrought (P : Laid) (Q : Placement) (resident : List ℕ) (t a : ℕ) : Type 0 where
  pub segment : ℕ
  pub after : is_in segment (after_call P.tree resident t) ≡ true
  pub new : is_in segment resident ≡ false
  pub inside : is_among (Q.range segment) (size P segment) a ≡ true

-- and beside these ranges and the status bytes of the segment table nothing has changed
abbrev pub CallsChangeNothingElse : Type 0
CallsChangeNothingElse =
    (P : Laid) (scatter : Bool) (n : ℕ) (who : Naming) (at t a : ℕ) (S : State) (T : SymbolState) → IsLinkable P
    → IsFormat P scatter n → is_overlay P.tree ≡ true → length (written_bytes P scatter n) ≤ most_records
    → Agrees P (block P at) n S T → 1 ≤ t → t ≤ length P.tree → (IsBrought P (block P at) T.resident t a → ⊥)
    → ((s : ℕ) → 1 ≤ s → s ≤ length P.tree → a ≢ at + 6 + 4 * s)
    → (call_into (member_at P scatter n who at) S t).storage a ≡ S.storage a

-- and where both put bytes into a section of a resident segment that touch no constant
abbrev pub StoresPutAlike : Type 0
StoresPutAlike =
    (P : Laid) (n at i o : ℕ) (bytes : List ℕ) (S : State) (T : SymbolState) → IsLinkable P → Agrees P (block P at) n S T
    → i < length P.program.sections → is_in (segment_of_section P.program i) T.resident ≡ true
    → o + length bytes ≤ length_of_section P.program i → is_touched P.program i o (length bytes) ≡ false
    → Agrees P (block P at) n
    (record S { storage = with_piece S.storage (list_piece ((block P at).section i + o) bytes) })
    (record T { storage = with_piece T.storage (list_piece ((block P at).section i + o) bytes) })
