-- What the records of a written member hold: the facts that a reader has after its head records, after those of one
-- more segment, and after all (this project's profile).
use Rattle.std.specs.Prelude.{ℕ, ◌+◌, ◌-◌, ◌*◌, Bool, ◌==◌, if◌then◌else◌, List, [], ◌∷◌, ◌++◌, map, filter, flat_map, fold, length, sum_by, None}
use Rattle.std.specs.List.{enumerate_from, range_with_len}
use Rattle.sym_mod.specs.declared.program.SecKind.{SecKind}
use Rattle.sym_mod.specs.declared.program.SecKind.TheVariants.{Cm}
use Rattle.load_recs.specs.declared.items.NoteItem.{NoteItem}
use Rattle.load_recs.specs.declared.items.RldItem.{RldItem}
use Rattle.load_recs.specs.Records.{Record}
use Rattle.load_recs.specs.declared.records.Ends.{Ends}
use Rattle.linking_model.specs.Tree.{segments}
use Rattle.linking_model.specs.Places.{Laid, is_overlay}
use Rattle.member_model.specs.Cuts.{cuts}
use Rattle.member_model.specs.Parts.{Part, parts, parts_in, part_kind, part_place, part_bytes}
use Rattle.member_model.specs.SymbolList.{symbols_written, translation_numbers, first_records}
use Rattle.member_model.specs.Chunks.{chunks, joined, part_items}
use Rattle.member_model.specs.Pieces.{Piece, ends_among, ends_at}
use Rattle.member_model.specs.Facts.{Facts, Text, Field, no_facts, nothing_ends}
use Rattle.member_model.specs.Written.{part_pieces, segment_records, note_items, note_record_count, note_records}

-- ---- one segment

-- the pieces of segment s
abbrev pub pieces_in : Laid → ℕ → ℕ → List Piece
pieces_in P n s = flat_map (part_pieces P n) (parts_in P s)

-- the text of segment s, piece by piece
abbrev pub texts_in : Laid → ℕ → ℕ → List Text
texts_in P n s =
    map (λ x. record { segment = s; section = x.section; address = x.address; bytes = x.bytes }) (pieces_in P n s)

-- of these items those that come with piece k of a text from an address on: each tells whether the next of its chunk
-- has the same numbers
abbrev pub piece_items : ℕ → ℕ → List RldItem → ℕ × List ℕ → List RldItem
piece_items n address items (k, bytes) =
    flat_map joined (chunks (filter (ends_among (address + n * k) (length bytes)) items))

-- a common area has no text, and so no items
abbrev pub items_as : SecKind → List RldItem → List RldItem
items_as Cm items = []
items_as kind items = items

-- the relocation items of a section or table, as they are written
unfoldable pub items_of : Laid → ℕ → Part → List RldItem
items_of P n x =
    items_as (part_kind P x)
    (flat_map (piece_items n (part_place P x) (part_items P x)) (enumerate_from 0 (cuts n (part_bytes P x))))

-- the relocation items of segment s, as they are written
abbrev pub fields_in : Laid → ℕ → ℕ → List Field
fields_in P n s = map (λ x. record { segment = s; item = x }) (flat_map (items_of P n) (parts_in P s))

-- what the last control record of these pieces tells to end, and what the one before them did where there is none
abbrev pub left_by : Ends → Ends → List Piece → Ends
left_by before ends [] = before
left_by before ends (x ∷ []) = if length x.chunks == 0 then ends else nothing_ends
left_by before ends (x ∷ y ∷ rest) = left_by before ends (y ∷ rest)

-- the facts after those of segment s too
unfoldable pub with_segment : Laid → ℕ → ℕ → Facts → Facts
with_segment P n s F = record F {
  texts = F.texts ++ texts_in P n s;
  fields = F.fields ++ fields_in P n s;
  stage = 4;
  segment = s + 1;
  due = None;
  ends = left_by F.ends (ends_at (length P.tree) s) (pieces_in P n s);
  ended = s == length P.tree;
}

-- ---- the member

-- the records of each segment
abbrev pub segment_lists : Laid → ℕ → List (List Record)
segment_lists P n = map (segment_records P n) (segments P.tree)

-- the note items
abbrev pub notes_written : Laid → Bool → ℕ → List NoteItem
notes_written P scatter n =
    if is_overlay P.tree
    then note_items P (length (first_records P scatter) + note_record_count P + 1) 1 (segment_lists P n) else []

-- the place of the last head record's kind, by how many translation items and notes there are
abbrev pub last_stage : ℕ → ℕ → ℕ
last_stage translated notes = if notes == 0 then (if translated == 0 then 0 else 2) else 3

-- the facts after the head records
unfoldable pub head_facts : Laid → Bool → ℕ → Facts
head_facts P scatter n =
    let translated = if scatter then length (translation_numbers P) else 0 in
    let notes = notes_written P scatter n in
    record no_facts {
      symbols = symbols_written P;
      scattered = if scatter then length (parts P) else 0;
      translated = translated;
      notes = notes;
      stage = last_stage translated (length notes);
    }

-- the facts after the head records and those of segments 1 to s
unfoldable pub facts_written : Laid → Bool → ℕ → ℕ → Facts
facts_written P scatter n s = fold (λ F t. with_segment P n t F) (head_facts P scatter n) (range_with_len 1 s)

-- how many records stand before those of segment s
unfoldable pub records_before : Laid → Bool → ℕ → ℕ → ℕ
records_before P scatter n s =
    length (first_records P scatter) + (if is_overlay P.tree then note_record_count P else 0)
    + sum_by (λ t. length (segment_records P n t)) (range_with_len 1 (s - 1))
