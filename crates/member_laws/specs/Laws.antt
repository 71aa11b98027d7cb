-- The laws of written members, each the contract of a function (this project's profile).
use Rattle.std.specs.Prelude.{◌≡◌, ℕ, ◌+◌, ◌-◌, ◌≤◌, Bool, true, List, length, drop, slice_get, Some, None}
use Rattle.std.specs.List.{AllByRecursion}
use Rattle.pds_lib.specs.Stow.{entries_for}
use Rattle.linking_model.specs.Places.{Laid, is_overlay}
use Rattle.member_model.specs.Facts.{Facts, no_facts, facts, walked}
use Rattle.member_model.specs.FirstBad.{IsGood}
use Rattle.member_model.specs.Written.{Naming, written_bytes, note_item, member_written}
use Rattle.member_laws.specs.Linkable.{IsLinkable, IsFormat, IsNamedFor}
use Rattle.member_laws.specs.Gathered.{notes_written, with_segment, facts_written, records_before}

-- what a reader gathers: of the head records and segment 1, of all records, of one segment from its first record on,
-- and where its note says that this is
pub record Gathers (P : Laid) (scatter : Bool) (n : ℕ) : Type 0 where
  pub root : walked 1 no_facts (written_bytes P scatter n) ≡ facts_written P scatter n 1
  pub whole : facts (written_bytes P scatter n) ≡ facts_written P scatter n (length P.tree)
  pub segment : (s : ℕ) (F : Facts) → 1 ≤ s → s ≤ length P.tree → F.segment ≡ s → F.due ≡ None
      → walked s F (drop (records_before P scatter n s) (written_bytes P scatter n)) ≡ with_segment P n s F
  pub noted : (s : ℕ) → is_overlay P.tree ≡ true → 1 ≤ s → s ≤ length P.tree
      → slice_get (notes_written P scatter n) (s - 1) ≡ Some (note_item P (records_before P scatter n s + 1) s)

-- the records of a written member hold what the program has
abbrev pub WrittenRecordsGather : Type 0
WrittenRecordsGather =
    (P : Laid) (scatter : Bool) (n : ℕ) → IsLinkable P → IsFormat P scatter n → Gathers P scatter n

-- a written member is good, by its own entry and by each alias
abbrev pub WrittenMembersAreGood : Type 0
WrittenMembersAreGood =
    (P : Laid) (scatter : Bool) (n : ℕ) (who : Naming) → IsLinkable P → IsFormat P scatter n → IsNamedFor P who
    → AllByRecursion (λ e. IsGood e (member_written P scatter n who).records) (entries_for (member_written P scatter n who))
