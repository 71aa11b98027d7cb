-- The records of one segment have no fault, where its text and its relocation items have none.
use Rattle.std.proofs.Common.{◌≡◌, ℕ, zero, suc, ◌+◌, ◌-◌, ◌<◌, ◌≤◌, Bool, true, false, ◌&&◌, ◌||◌, ◌==◌, if◌then◌else◌, List, [], ◌∷◌, ◌++◌, map, length, take, slice_get, Option, Some, None, refl, sym, ap, subst, ◌∙◌, arith}
use Rattle.std.specs.Prelude.{unwrap_or, option_and_then}
use Rattle.std.specs.Option.{option_or}
use Rattle.std.proofs.lemmas.Bool.{cond-false, ne_eqb}
use Rattle.std.proofs.lemmas.List.{append_assoc, append-nil, map-append}
use Rattle.std.specs.List.{AllByRecursion, flat_map}
use Rattle.le_bytes.specs.declared.record_what.RecWhat.{RecWhat}
use Rattle.le_bytes.specs.declared.record_what.RecWhat.TheVariants.{BadOrder, BadScatter}
use Rattle.pds_directory.specs.declared.entry.Entry.{Entry}
use Rattle.load_recs.specs.declared.items.RldItem.{RldItem}
use Rattle.load_recs.specs.declared.records.Ends.{Ends}
use Rattle.load_recs.specs.declared.records.TextHead.{TextHead}
use Rattle.load_recs.specs.Relocations.{rlds_of}
use Rattle.load_recs.specs.Records.{Record, ControlRecord, RldRecord, ControlRldRecord, TextRecord, AreEnds, AreRlds}
use Rattle.linking_model.specs.Places.{Laid}
use Rattle.member_model.specs.Symbols.{is_overlay_member, is_scatter_member}
use Rattle.member_model.specs.Facts.{Facts, Text, Field, nothing_ends, ended_by}
use Rattle.member_model.specs.Pieces.{Piece, text_head, control_record, last_records, piece_records, records_or_empty}
use Rattle.member_model.specs.Faults.{first_some, when, is_incomplete, text_fault, fields_fault, segment_count, ends_wrongly, segment_fault}
use Rattle.member_laws.proofs.Chunked.{IsChunkBytes}
use Rattle.member_laws.proofs.FieldsFine.{fields_parts}
use Rattle.member_laws.proofs.Judging.{judged, judged-record, judged-text, placed, when-not, Fine, fine-none, fine-one, fine-cons, fine-append}
use Rattle.member_laws.proofs.Lists.{each-take}
use Rattle.member_laws.proofs.Pieces.{fields_as, text_as, part_way, told_of, MayCarry, IsPiece, nothing, saw-control, walks-piece, saw-chunk, walks-chunks, items_read, last-carried, may-carry-at}
use Rattle.member_laws.proofs.Reading.{saw, saw-text}

-- ---- facts in which a segment goes on

-- the head records are complete, and the module has not ended
pub record IsReady (e : Entry) (F : Facts) : Type 0 where
  pub goes_on : F.ended ≡ false
  pub stage : F.stage ≤ 4
  pub complete : (is_scatter_member e && is_incomplete F) ≡ false
  pub noted : (is_overlay_member e && length F.notes == 0) ≡ false

pub still-ready : (e : Entry) (F : Facts) (texts : List Text) (fields : List Field) (ends : Ends) → IsReady e F → IsReady e (part_way F texts fields ends)
still-ready e F texts fields ends ready = record { goes_on = ready.goes_on; stage = omega arith; complete = ready.complete; noted = ready.noted }

-- the relocation items so far
abbrev pub items_of_facts : Facts → List RldItem
items_of_facts F = map (λ x. x.item) F.fields

items-back : (s : ℕ) (items : List RldItem) → map (λ (x : Field). x.item) (fields_as s items) ≡ items
items-back s [] = refl
items-back s (x ∷ items) = ap (λ l. x ∷ l) (items-back s items)

-- with more fields, these items come after the others
pub more-items : (F : Facts) (s : ℕ) (items : List RldItem) → map (λ (x : Field). x.item) (F.fields ++ fields_as s items) ≡ items_of_facts F ++ items
more-items F s items = map-append (λ (x : Field). x.item) F.fields (fields_as s items) ∙ ap (λ l. items_of_facts F ++ l) (items-back s items)

-- ---- one record

none-of-five : (a b c d f : Option RecWhat) → a ≡ None → b ≡ None → c ≡ None → d ≡ None → f ≡ None → first_some (a ∷ b ∷ c ∷ d ∷ f ∷ []) ≡ None
none-of-five a b c d f p q r s t = rw (p, q, r, s, t) refl

segment-fine : (e : Entry) (F : Facts) (ends : Ends) (text : Option TextHead) (items : List RldItem) → IsReady e F → option_and_then (text_fault F) text ≡ None
    → fields_fault F (items_of_facts F) items ≡ None → ends_wrongly e F ends ≡ false → segment_fault e F ends text items ≡ None
segment-fine e F ends text items ready fine_text fine_items closes =
    none-of-five (when (is_scatter_member e && is_incomplete F) BadScatter) (when (is_overlay_member e && length F.notes == 0) BadOrder) (option_and_then (text_fault F) text)
    (fields_fault F (items_of_facts F) items) (when (ends_wrongly e F ends) BadOrder)
    (when-not _ BadScatter ready.complete) (when-not _ BadOrder ready.noted) fine_text fine_items (when-not _ BadOrder closes)

control-fine : (e : Entry) (F : Facts) (ends : Ends) (carried : List ℕ) (x : Piece) → IsReady e F → AreEnds ends → MayCarry carried → IsPiece x → F.due ≡ None
    → text_fault F (text_head x) ≡ None → fields_fault F (items_of_facts F) (rlds_of carried) ≡ None → ends_wrongly e F ends ≡ false → judged e F (control_record ends carried x) ≡ None
control-fine e F ends [] x ready right carry is none fine_text fine_items closes =
    judged-record e F (ControlRecord ends (text_head x)) (right, is.head) refl none
    ∙ placed e F (ControlRecord ends (text_head x)) ready.goes_on ready.stage refl (segment-fine e F ends (Some (text_head x)) [] ready fine_text refl closes)
control-fine e F ends (b ∷ bs) x ready right carry is none fine_text fine_items closes =
    ap (judged e F) (cond-false (length (b ∷ bs) == 0) (ControlRecord ends (text_head x)) (ControlRldRecord ends (b ∷ bs) (text_head x)) (ne_eqb (length (b ∷ bs)) 0 (omega arith)))
    ∙ judged-record e F (ControlRldRecord ends (b ∷ bs) (text_head x)) (right, carry.are, carry.some, is.head) refl none
    ∙ placed e F (ControlRldRecord ends (b ∷ bs) (text_head x)) ready.goes_on ready.stage refl (segment-fine e F ends (Some (text_head x)) (rlds_of (b ∷ bs)) ready fine_text fine_items closes)

chunk-fine : (e : Entry) (F : Facts) (ends : Ends) (chunk : List ℕ) → IsReady e F → AreEnds ends → AreRlds chunk → F.due ≡ None
    → fields_fault F (items_of_facts F) (rlds_of chunk) ≡ None → ends_wrongly e F ends ≡ false → judged e F (RldRecord ends chunk) ≡ None
chunk-fine e F ends chunk ready right are none fine_items closes =
    judged-record e F (RldRecord ends chunk) (right, are) refl none
    ∙ placed e F (RldRecord ends chunk) ready.goes_on ready.stage refl (segment-fine e F ends None (rlds_of chunk) ready refl fine_items closes)

-- a control record and its text
piece-fine : (e : Entry) (F : Facts) (ends : Ends) (carried : List ℕ) (x : Piece) → IsReady e F → AreEnds ends → MayCarry carried → IsPiece x → F.due ≡ None
    → text_fault F (text_head x) ≡ None → fields_fault F (items_of_facts F) (rlds_of carried) ≡ None → ends_wrongly e F ends ≡ false → Fine e F (control_record ends carried x ∷ TextRecord x.bytes ∷ [])
piece-fine e F ends carried x ready right carry is none fine_text fine_items closes =
    let told : Facts = told_of F (fields_as F.segment (rlds_of carried)) (text_head x) ends in
    fine-cons e F (control_record ends carried x) told (TextRecord x.bytes ∷ []) (saw-control F ends carried x right carry is none)
    (control-fine e F ends carried x ready right carry is none fine_text fine_items closes)
    (fine-one e told (TextRecord x.bytes) (judged-text e told (text_head x) x.bytes refl refl))

-- ---- chunks

-- the items that come after those of the facts and these fields have no fault
abbrev FineAfter : Facts → List Field → List RldItem → Type 0
FineAfter F fields items = fields_fault F (map (λ x. x.item) (F.fields ++ fields)) items ≡ None

fine-next : (F : Facts) (fields : List Field) (s : ℕ) (a b : List RldItem) → FineAfter F fields (a ++ b) → FineAfter F fields a × FineAfter F (fields ++ fields_as s a) b
fine-next F fields s a b fine =
    let parts = fields_parts F (map (λ x. x.item) (F.fields ++ fields)) a b fine in (
      parts.0,
      subst (λ l. fields_fault F l b ≡ None) (sym (after F fields s a)) parts.1,
    )
  where
    after : (F : Facts) (fields : List Field) (s : ℕ) (a : List RldItem) → map (λ (x : Field). x.item) (F.fields ++ (fields ++ fields_as s a)) ≡ map (λ (x : Field). x.item) (F.fields ++ fields) ++ a
    after F fields s a =
        ap (map (λ (x : Field). x.item)) (sym (append_assoc F.fields fields (fields_as s a)))
        ∙ map-append (λ (x : Field). x.item) (F.fields ++ fields) (fields_as s a) ∙ ap (λ l. map (λ (x : Field). x.item) (F.fields ++ fields) ++ l) (items-back s a)

chunks-fine : (e : Entry) (F : Facts) (texts : List Text) (fields : List Field) (before : Ends) (chunks : List (List ℕ)) → IsReady e F → AllByRecursion IsChunkBytes chunks
    → FineAfter F fields (flat_map rlds_of chunks) → Fine e (part_way F texts fields before) (map (λ chunk. RldRecord nothing_ends chunk) chunks)
chunks-fine e F texts fields before [] ready all fine = fine-none e (part_way F texts fields before)
chunks-fine e F texts fields before (chunk ∷ chunks) ready all fine =
    let parts = fine-next F fields F.segment (rlds_of chunk) (flat_map rlds_of chunks) fine in
    fine-cons e (part_way F texts fields before) (RldRecord nothing_ends chunk) (part_way F texts (fields ++ fields_as F.segment (rlds_of chunk)) before) _
    (saw-chunk F texts fields before nothing_ends chunk nothing all.0.are)
    (chunk-fine e (part_way F texts fields before) nothing_ends chunk (still-ready e F texts fields before ready) nothing all.0.are refl parts.0 refl)
    (chunks-fine e F texts (fields ++ fields_as F.segment (rlds_of chunk)) before chunks ready all.1 parts.1)

last-fine : (e : Entry) (F : Facts) (texts : List Text) (fields : List Field) (before ends : Ends) (chunk : List ℕ) (chunks : List (List ℕ)) → IsReady e F → AreEnds ends → ends_wrongly e F ends ≡ false
    → AllByRecursion IsChunkBytes (chunk ∷ chunks) → FineAfter F fields (flat_map rlds_of (chunk ∷ chunks)) → Fine e (part_way F texts fields before) (last_records ends (chunk ∷ chunks))
last-fine e F texts fields before ends chunk [] ready right closes all fine =
    fine-one e (part_way F texts fields before) (RldRecord ends chunk)
    (chunk-fine e (part_way F texts fields before) ends chunk (still-ready e F texts fields before ready) right all.0.are refl (fine-next F fields F.segment (rlds_of chunk) [] fine).0 closes)
last-fine e F texts fields before ends chunk (next ∷ chunks) ready right closes all fine =
    let parts = fine-next F fields F.segment (rlds_of chunk) (flat_map rlds_of (next ∷ chunks)) fine in
    fine-cons e (part_way F texts fields before) (RldRecord nothing_ends chunk) (part_way F texts (fields ++ fields_as F.segment (rlds_of chunk)) before) _
    (saw-chunk F texts fields before nothing_ends chunk nothing all.0.are)
    (chunk-fine e (part_way F texts fields before) nothing_ends chunk (still-ready e F texts fields before ready) nothing all.0.are refl parts.0 refl)
    (last-fine e F texts (fields ++ fields_as F.segment (rlds_of chunk)) before ends next chunks ready right closes all.1 parts.1)

-- ---- all pieces of a segment

-- the text of the piece has no fault
abbrev pub IsFineText : Facts → Piece → Type 0
IsFineText F x = text_fault F (text_head x) ≡ None

one-fine : (e : Entry) (F : Facts) (ends : Ends) (carried : List ℕ) (x : Piece) (chunks : List (List ℕ)) → IsReady e F → AreEnds ends → ends_wrongly e F ends ≡ false → MayCarry carried → IsPiece x → AllByRecursion IsChunkBytes chunks → F.due ≡ None
    → IsFineText F x → fields_fault F (items_of_facts F) (rlds_of carried ++ (flat_map rlds_of chunks ++ [])) ≡ None
    → Fine e F (control_record (if length chunks == 0 then ends else nothing_ends) carried x ∷ TextRecord x.bytes ∷ last_records ends chunks)
one-fine e F ends carried x [] ready right closes carry is all none fine_text fine =
    piece-fine e F ends carried x ready right carry is none fine_text (fields_parts F (items_of_facts F) (rlds_of carried) [] fine).0 closes
one-fine e F ends carried x (c ∷ chunks) ready right closes carry is all none fine_text fine =
    let texts = text_as F.segment x ∷ [] in
    let filled : (if length (c ∷ chunks) == 0 then ends else nothing_ends) ≡ nothing_ends = cond-false (length (c ∷ chunks) == 0) ends nothing_ends (ne_eqb (length (c ∷ chunks)) 0 (omega arith)) in
    let parts = fields_parts F (items_of_facts F) (rlds_of carried) (flat_map rlds_of (c ∷ chunks) ++ []) fine in
    let rest : fields_fault F (items_of_facts F ++ rlds_of carried) (flat_map rlds_of (c ∷ chunks)) ≡ None = (fields_parts F (items_of_facts F ++ rlds_of carried) (flat_map rlds_of (c ∷ chunks)) [] parts.1).0 in
    subst (λ E. Fine e F (control_record E carried x ∷ TextRecord x.bytes ∷ last_records ends (c ∷ chunks))) (sym filled)
    (fine-append e F (control_record nothing_ends carried x ∷ TextRecord x.bytes ∷ []) (part_way F texts (fields_as F.segment (rlds_of carried)) nothing_ends) (last_records ends (c ∷ chunks))
    (walks-piece F nothing_ends carried x nothing carry is none).whole
    (piece-fine e F nothing_ends carried x ready nothing carry is none fine_text parts.0 refl)
    (last-fine e F texts (fields_as F.segment (rlds_of carried)) nothing_ends ends c chunks ready right closes all
    (subst (λ l. fields_fault F l (flat_map rlds_of (c ∷ chunks)) ≡ None) (sym (more-items F F.segment (rlds_of carried))) rest)))

pieces-fine : (e : Entry) (F : Facts) (ends : Ends) (carried : List ℕ) (x : Piece) (rest : List Piece) → IsReady e F → AreEnds ends → ends_wrongly e F ends ≡ false → MayCarry carried → AllByRecursion IsPiece (x ∷ rest) → F.due ≡ None
    → AllByRecursion (IsFineText F) (x ∷ rest) → fields_fault F (items_of_facts F) (rlds_of carried ++ flat_map items_read (x ∷ rest)) ≡ None → Fine e F (piece_records ends carried (x ∷ rest))
unfolding piece_records
pieces-fine e F ends carried x [] ready right closes carry all none texts fine = one-fine e F ends carried x x.chunks ready right closes carry all.0 all.0.chunks none texts.0 fine
pieces-fine e F ends carried x (y ∷ rest) ready right closes carry all none texts fine =
    let text = text_as F.segment x ∷ [] in
    let first = take (length x.chunks - 1) x.chunks in
    let next : List ℕ = unwrap_or (slice_get x.chunks (length x.chunks - 1)) [] in
    let later = flat_map items_read (y ∷ rest) in
    let one : Facts = part_way F text (fields_as F.segment (rlds_of carried)) nothing_ends in
    let two : Facts = part_way F text (fields_as F.segment (rlds_of carried) ++ fields_as F.segment (flat_map rlds_of first)) nothing_ends in
    let some_chunks = each-take IsChunkBytes (length x.chunks - 1) x.chunks all.0.chunks in
    let a = fields_parts F (items_of_facts F) (rlds_of carried) (items_read x ++ later) fine in
    let order : items_read x ++ later ≡ flat_map rlds_of first ++ (rlds_of next ++ later) = ap (λ l. l ++ later) (sym (last-carried x.chunks)) ∙ append_assoc (flat_map rlds_of first) (rlds_of next) later in
    let start : FineAfter F (fields_as F.segment (rlds_of carried)) (flat_map rlds_of first ++ (rlds_of next ++ later)) =
    subst (λ l. fields_fault F l (flat_map rlds_of first ++ (rlds_of next ++ later)) ≡ None) (sym (more-items F F.segment (rlds_of carried)))
    (subst (λ l. fields_fault F (items_of_facts F ++ rlds_of carried) l ≡ None) order a.1) in
    let b = fine-next F (fields_as F.segment (rlds_of carried)) F.segment (flat_map rlds_of first) (rlds_of next ++ later) start in
    fine-append e F (control_record nothing_ends carried x ∷ TextRecord x.bytes ∷ []) one (map (λ chunk. RldRecord nothing_ends chunk) first ++ piece_records ends next (y ∷ rest))
    (walks-piece F nothing_ends carried x nothing carry all.0 none).whole
    (piece-fine e F nothing_ends carried x ready nothing carry all.0 none texts.0 a.0 refl)
    (fine-append e one (map (λ chunk. RldRecord nothing_ends chunk) first) two (piece_records ends next (y ∷ rest))
    (walks-chunks F text (fields_as F.segment (rlds_of carried)) nothing_ends first some_chunks).whole
    (chunks-fine e F text (fields_as F.segment (rlds_of carried)) nothing_ends first ready some_chunks b.0)
    (pieces-fine e two ends next y rest (still-ready e F text (fields_as F.segment (rlds_of carried) ++ fields_as F.segment (flat_map rlds_of first)) nothing_ends ready) right closes
    (may-carry-at x.chunks (length x.chunks - 1) all.0.chunks) all.1 refl texts.1 b.1))

-- the records of a segment, from its pieces
pub segment_records_fine : (e : Entry) (F : Facts) (ends : Ends) (pieces : List Piece) → IsReady e F → AreEnds ends → ends_wrongly e F ends ≡ false → AllByRecursion IsPiece pieces → F.due ≡ None
    → AllByRecursion (IsFineText F) pieces → fields_fault F (items_of_facts F) (flat_map items_read pieces) ≡ None → Fine e F (records_or_empty ends pieces)
segment_records_fine e F ends [] ready right closes all none texts fine =
    fine-one e F (RldRecord ends []) (chunk-fine e F ends [] ready right (record { most = omega arith; whole = refl; flags = refl }) none refl closes)
segment_records_fine e F ends (x ∷ rest) ready right closes all none texts fine = pieces-fine e F ends [] x rest ready right closes tt all none texts fine
