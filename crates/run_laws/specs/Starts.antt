-- A written member starts where its tree is one of OVERLAY statements, and each segment of it can be read alone (this
-- project's profile).
use Rattle.std.specs.Prelude.{◌≡◌, ℕ, ◌+◌, ◌≤◌, Bool, true, false, List, [], ◌∷◌, length, None}
use Rattle.std.specs.List.{AllByRecursion}
use Rattle.pds_directory.specs.declared.entry.Entry.{Entry}
use Rattle.pds_lib.specs.Stow.{entries_for}
use Rattle.load_recs.specs.declared.items.NoteItem.{NoteItem}
use Rattle.linking_model.specs.Tree.{Tree, root}
use Rattle.linking_model.specs.Places.{Laid, is_overlay, origin, size}
use Rattle.linking_model.specs.Linked.{block}
use Rattle.member_model.specs.Fetched.{Fetched, fetched, fetched_over}
use Rattle.member_model.specs.Segments.{note}
use Rattle.member_model.specs.Starting.{start_fault}
use Rattle.member_model.specs.Calling.{segment_facts, segment_bad}
use Rattle.member_model.specs.Loaded.{loaded}
use Rattle.member_model.specs.AfterFailure.{SameBytes}
use Rattle.member_model.specs.Written.{Naming, written_bytes, member_written}
use Rattle.member_laws.specs.Linkable.{IsLinkable, IsFormat}
use Rattle.member_laws.specs.Gathered.{fields_in, records_before}
use Rattle.member_laws.specs.Storing.{linked_storage}
use Rattle.run_laws.specs.Grown.{IsGrown}

-- three bytes of a note count so many records, and one more
abbrev pub most_records : ℕ
most_records = 16777214

-- ---- starting

-- by this entry the member starts in one block from any address on and, without overlay, with its sections at any
-- addresses
pub record Starts (P : Laid) (scatter : Bool) (n : ℕ) (e : Entry) : Type 0 where
  pub together : (at : ℕ) → start_fault (fetched e (written_bytes P scatter n) at) ≡ None
  pub apart : is_overlay P.tree ≡ false → (addresses : List ℕ)
      → start_fault (fetched_over e (written_bytes P scatter n) addresses) ≡ None

-- a written member over a grown tree starts by each of its entries
abbrev pub GrownMembersStart : Type 0
GrownMembersStart =
    (P : Laid) (scatter : Bool) (n : ℕ) (who : Naming) → IsLinkable P → IsGrown P.tree → IsFormat P scatter n
    → length (written_bytes P scatter n) ≤ most_records
    → AllByRecursion (Starts P scatter n) (entries_for (member_written P scatter n who))

-- segments below 1, 1 and 2 in one region, which no statements give
abbrev pub out_of_order : Tree
out_of_order =
    record { parent = 2; region = 1 } ∷ record { parent = 1; region = 1 } ∷ record { parent = 1; region = 1 } ∷ root ∷ []

-- ---- notes

-- the note tells the first record of segment s, by its number from 1, and its range in the module
pub record NotesSegment (P : Laid) (scatter : Bool) (n s : ℕ) (x : NoteItem) : Type 0 where
  pub first : x.first ≡ records_before P scatter n s + 1
  pub there : x.first ≤ length (written_bytes P scatter n)
  pub origin : x.origin ≡ origin P s
  pub length : x.length ≡ size P s

-- each note of a member of overlay with at most so many records does
abbrev pub NotesAreExact : Type 0
NotesAreExact =
    (P : Laid) (scatter : Bool) (n : ℕ) (e : Entry) (at s : ℕ) → IsLinkable P → IsFormat P scatter n → is_overlay P.tree ≡ true
    → length (written_bytes P scatter n) ≤ most_records → 1 ≤ s → s ≤ length P.tree
    → NotesSegment P scatter n s (note (fetched e (written_bytes P scatter n) at) s)

-- ---- reading

-- read alone, segment s has no bad record, has its relocation items, and is loaded as it is linked
pub record ReadsAlone (P : Laid) (n s at : ℕ) (m : Fetched) : Type 0 where
  pub good : segment_bad m s ≡ None
  pub fields : (segment_facts m s).fields ≡ fields_in P n s
  pub loads : SameBytes (loaded (segment_facts m s) m.addresses s) (linked_storage P (block P at) s)

-- each segment of a written member of overlay does
abbrev pub SegmentsReadAlone : Type 0
SegmentsReadAlone =
    (P : Laid) (scatter : Bool) (n : ℕ) (who : Naming) (at s : ℕ) → IsLinkable P → IsFormat P scatter n
    → is_overlay P.tree ≡ true → length (written_bytes P scatter n) ≤ most_records → 1 ≤ s → s ≤ length P.tree
    → AllByRecursion (λ e. ReadsAlone P n s at (fetched e (written_bytes P scatter n) at)) (entries_for (member_written P scatter n who))
