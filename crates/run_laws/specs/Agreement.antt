-- A state of the byte run of a written member beside one of the symbolic run of its program (this project's profile).
use Rattle.std.specs.Prelude.{◌≡◌, ℕ, ◌+◌, ◌<◌, true, length, is_some}
use Rattle.linking_model.specs.Tree.{is_in}
use Rattle.linking_model.specs.Places.{Laid, is_overlay, entry_count, segment_of_section}
use Rattle.linking_model.specs.Linked.{Placement, constant_at, linked_byte}
use Rattle.linking_model.specs.Run.{Storage, State as SymbolState}
use Rattle.member_model.specs.Calling.{State}
use Rattle.member_model.specs.AfterFailure.{SameBytes}
use Rattle.run_laws.specs.EntryTables.{ReadsTable, HoldsTable}
use Rattle.run_laws.specs.Fields.{HoldsFields}
use Rattle.run_laws.specs.Residents.{AreResident}

-- each byte of a constant in segment s stands as it is linked
pub record HoldsConstants (P : Laid) (Q : Placement) (s : ℕ) (M : Storage) : Type 0 where
  pub bytes : (i o : ℕ) → i < length P.program.sections → segment_of_section P.program i ≡ s
      → is_some (constant_at P.program.constants i o) ≡ true → M (Q.section i + o) ≡ linked_byte P Q i o

-- what calls and stores look at is there for segment s: its constants, its entry table and its relocation items
pub record IsHeld (P : Laid) (Q : Placement) (n s : ℕ) (S : State) : Type 0 where
  pub constants : HoldsConstants P Q s S.storage
  pub table : 0 < entry_count P s → HoldsTable P Q s S.storage
  pub fields : HoldsFields P n s S.fields

-- the same segments are resident, and the same bytes stand in storage; the segment table tells of the resident segments,
-- and each of them is held
pub record Agrees (P : Laid) (Q : Placement) (n : ℕ) (S : State) (T : SymbolState) : Type 0 where
  pub resident : AreResident P.tree T.resident
  pub storage : SameBytes S.storage T.storage
  pub table : is_overlay P.tree ≡ true → ReadsTable P Q.segtab T.resident S.storage
  pub held : (s : ℕ) → is_in s T.resident ≡ true → IsHeld P Q n s S
