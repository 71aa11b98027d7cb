-- The member that the writer gives for a program (this project's profile).
use Rattle.std.specs.Prelude.{ℕ, ◌+◌, ◌/◌, ◌%◌, Bool, if◌then◌else◌, List, [], ◌∷◌, ◌++◌, map, flat_map, length}
use Rattle.le_bytes.specs.declared.name.Name.{Name}
use Rattle.sym_mod.specs.declared.program.SecKind.{SecKind}
use Rattle.sym_mod.specs.declared.program.SecKind.TheVariants.{Cm}
use Rattle.pds_lib.specs.declared.member.AliasAt.{AliasAt}
use Rattle.pds_lib.specs.declared.member.Member.{Member}
use Rattle.load_recs.specs.ItemBytes.{note_bytes}
use Rattle.load_recs.specs.Records.{Record, NoteRecord, rec_bytes}
use Rattle.load_recs.specs.declared.items.NoteItem.{NoteItem}
use Rattle.linking_model.specs.Tree.{segments}
use Rattle.linking_model.specs.Places.{Laid, is_overlay, place, origin, size, module_length}
use Rattle.linking_model.specs.Points.{Point}
use Rattle.member_model.specs.Cuts.{together}
use Rattle.member_model.specs.Parts.{Part, OneSection, parts_in, part_kind, part_place, part_bytes, part_number}
use Rattle.member_model.specs.SymbolList.{head_records, first_records}
use Rattle.member_model.specs.Chunks.{part_items}
use Rattle.member_model.specs.Pieces.{Piece, pieces, records_or_empty, ends_at}

-- ---- segments

-- the pieces of a section of this kind
abbrev pub pieces_as : SecKind → List Piece → List Piece
pieces_as Cm text = []
pieces_as kind text = text

-- a section or table is written whole in pieces of n bytes, a common area not at all
abbrev pub part_pieces : Laid → ℕ → Part → List Piece
part_pieces P n x =
    pieces_as (part_kind P x) (pieces n (part_number P x) (part_place P x) (part_items P x) (part_bytes P x))

-- the records of segment s, with text in pieces of n bytes
unfoldable pub segment_records : Laid → ℕ → ℕ → List Record
segment_records P n s = records_or_empty (ends_at (length P.tree) s) (flat_map (part_pieces P n) (parts_in P s))

-- ---- the note list

-- numbers of records are kept modulo 16,777,216
abbrev pub note_item : Laid → ℕ → ℕ → NoteItem
note_item P number s = record { first = number % 16777216; origin = origin P s; length = size P s }

-- the items of segments from s on, of which the first begins with the record of this number
abbrev pub note_items : Laid → ℕ → ℕ → List (List Record) → List NoteItem
note_items P number s [] = []
note_items P number s (x ∷ rest) = note_item P number s ∷ note_items P (number + length x) (s + 1) rest

-- a note record has up to 20 items
abbrev pub note_record_count : Laid → ℕ
note_record_count P = (length P.tree + 19) / 20

-- after so many records, before those of the segments
abbrev pub note_records : Laid → ℕ → List (List Record) → List Record
note_records P before segs =
    head_records (λ first items. NoteRecord first items) 20
    (map note_bytes (note_items P (before + note_record_count P + 1) 1 segs))

-- ---- the member

-- with text in pieces of n bytes
unfoldable pub written : Laid → Bool → ℕ → List Record
written P scatter n =
    let first = first_records P scatter in
    let segs = map (segment_records P n) (segments P.tree) in
    first ++ (if is_overlay P.tree then note_records P (length first) segs else []) ++ together segs

-- the bytes of these records
abbrev pub written_bytes : Laid → Bool → ℕ → List (List ℕ)
written_bytes P scatter n = map rec_bytes (written P scatter n)

-- the name and the entry point of a member, and those of each alias
pub record Naming : Type 0 where
  pub name : Name
  pub point : Point
  pub aliases : List (Name × Point)

-- the address of an entry point in the module
abbrev pub address_of_point : Laid → Point → ℕ
address_of_point P x = place P x.section + x.offset

-- the item number of its section
abbrev pub item_of_point : Laid → Point → ℕ
item_of_point P x = part_number P (OneSection x.section)

-- an alias with its entry point
abbrev pub alias_of : Laid → Name × Point → AliasAt
alias_of P (name, x) = record { name = name; entry = address_of_point P x; entry_section = item_of_point P x }

-- X'20' of an overlay member, X'04' of one that can be scattered
abbrev pub attribute : Laid → Bool → ℕ
attribute P scatter = (if is_overlay P.tree then 32 else 0) + (if scatter then 4 else 0)

-- the member with its directory data, with text in pieces of n bytes
abbrev pub member_written : Laid → Bool → ℕ → Naming → Member
member_written P scatter n who = record {
  name = who.name;
  aliases = map (alias_of P) who.aliases;
  attr = attribute P scatter;
  length = module_length P;
  entry = address_of_point P who.point;
  entry_section = item_of_point P who.point;
  records = written_bytes P scatter n;
}
