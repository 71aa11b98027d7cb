-- What the records of the pieces of one segment add to the facts.
use Rattle.std.proofs.Common.{◌≡◌, ℕ, zero, suc, ◌+◌, ◌-◌, ◌<◌, ◌≤◌, Bool, true, false, ◌==◌, if◌then◌else◌, List, [], ◌∷◌, ◌++◌, map, length, take, slice_get, Option, Some, None, refl, sym, ap, subst, ◌∙◌, arith}
use Rattle.std.specs.Prelude.{unwrap_or}
use Rattle.std.proofs.lemmas.Bool.{cond-false, ne_eqb}
use Rattle.std.proofs.lemmas.List.{append_assoc, append-nil, map-append}
use Rattle.std.proofs.lemmas.List.Concat.{flat_map-append}
use Rattle.std.specs.List.{AllByRecursion, flat_map}
use Rattle.load_recs.specs.declared.items.RldItem.{RldItem}
use Rattle.load_recs.specs.declared.records.Ends.{Ends}
use Rattle.load_recs.specs.declared.records.TextHead.{TextHead}
use Rattle.load_recs.specs.Relocations.{rlds_of}
use Rattle.load_recs.specs.Records.{Record, ControlRecord, RldRecord, ControlRldRecord, TextRecord, IsTextHead, AreEnds, AreRlds}
use Rattle.member_model.specs.Facts.{Facts, Text, Field, nothing_ends, ended_by, with_contents}
use Rattle.member_model.specs.Pieces.{Piece, text_head, control_record, last_records, piece_records, records_or_empty}
use Rattle.member_laws.specs.Gathered.{left_by}
use Rattle.member_laws.proofs.Chunked.{IsChunkBytes}
use Rattle.member_laws.proofs.Lists.{each-take}
use Rattle.member_laws.proofs.Reading.{saw, saw-record, saw-text, Walks, walks-none, walks-one, walks-cons, walks-append, walks-to}

-- ---- facts in the middle of a segment

-- items as fields of segment s, and the text of a piece in it
abbrev pub fields_as : ℕ → List RldItem → List Field
fields_as s items = map (λ x. record { segment = s; item = x }) items

abbrev pub text_as : ℕ → Piece → Text
text_as s x = record { segment = s; section = x.section; address = x.address; bytes = x.bytes }

-- the facts with more text and fields of the segment that goes on
abbrev pub part_way : Facts → List Text → List Field → Ends → Facts
part_way F texts fields ends =
    record F { texts = F.texts ++ texts; fields = F.fields ++ fields; stage = 4; due = None; ends = ends }

-- the facts after a control record
abbrev pub told_of : Facts → List Field → TextHead → Ends → Facts
told_of F fields text ends = record F { fields = F.fields ++ fields; stage = 4; due = Some text; ends = ends }

with_fields-is : (F : Facts) (texts : List Text) (ends : Ends) (a b : List Field) → a ≡ b → part_way F texts a ends ≡ part_way F texts b ends
with_fields-is F texts ends a b e = ap (λ l. part_way F texts l ends) e

-- one part after another
pub twice : (F : Facts) (texts more_texts : List Text) (fields more_fields : List Field) (ends last : Ends)
    → part_way (part_way F texts fields ends) more_texts more_fields last ≡ part_way F (texts ++ more_texts) (fields ++ more_fields) last
twice F texts more_texts fields more_fields ends last =
    ap (λ l. record F { texts = l; fields = (F.fields ++ fields) ++ more_fields; stage = 4; due = None; ends = last }) (append_assoc F.texts texts more_texts)
    ∙ ap (λ l. record F { texts = F.texts ++ (texts ++ more_texts); fields = l; stage = 4; due = None; ends = last }) (append_assoc F.fields fields more_fields)

pub fields-append : (s : ℕ) (a b : List RldItem) → fields_as s (a ++ b) ≡ fields_as s a ++ fields_as s b
fields-append s a b = map-append (λ x. record { segment = s; item = x }) a b

-- ---- records

-- the bytes of a chunk that a control record carries, or none
abbrev pub MayCarry : List ℕ → Type 0
MayCarry [] = Unit {0}
MayCarry (b ∷ bs) = IsChunkBytes (b ∷ bs)

-- a piece whose records can be read
pub record IsPiece (x : Piece) : Type 0 where
  pub head : IsTextHead (text_head x)
  pub chunks : AllByRecursion IsChunkBytes x.chunks

pub nothing : AreEnds nothing_ends
nothing none = absurd cc

pub saw-control : (F : Facts) (ends : Ends) (carried : List ℕ) (x : Piece) → AreEnds ends → MayCarry carried → IsPiece x → F.due ≡ None
    → saw F (control_record ends carried x) ≡ told_of F (fields_as F.segment (rlds_of carried)) (text_head x) ends
saw-control F ends [] x right carry is none =
    saw-record F (ControlRecord ends (text_head x)) (right, is.head) refl none
    ∙ ap (λ l. record F { fields = l; stage = 4; due = Some (text_head x); ends = ends }) (sym (append-nil F.fields))
saw-control F ends (b ∷ bs) x right carry is none =
    ap (λ r. saw F r) (cond-false (length (b ∷ bs) == 0) (ControlRecord ends (text_head x)) (ControlRldRecord ends (b ∷ bs) (text_head x)) (ne_eqb (length (b ∷ bs)) 0 (omega arith)))
    ∙ saw-record F (ControlRldRecord ends (b ∷ bs) (text_head x)) (right, carry.are, carry.some, is.head) refl none

-- a control record and its text
pub walks-piece : (F : Facts) (ends : Ends) (carried : List ℕ) (x : Piece) → AreEnds ends → MayCarry carried → IsPiece x → F.due ≡ None
    → Walks F.segment F (control_record ends carried x ∷ TextRecord x.bytes ∷ [])
    (ended_by ends (part_way F (text_as F.segment x ∷ []) (fields_as F.segment (rlds_of carried)) ends))
walks-piece F ends carried x right carry is none =
    let told : Facts = told_of F (fields_as F.segment (rlds_of carried)) (text_head x) ends in
    walks-cons F.segment F (control_record ends carried x) told (TextRecord x.bytes ∷ []) _ refl (saw-control F ends carried x right carry is none)
    (walks-one F.segment told (TextRecord x.bytes) _ refl (saw-text told (text_head x) x.bytes refl))

pub saw-chunk : (F : Facts) (texts : List Text) (fields : List Field) (before : Ends) (ends : Ends) (chunk : List ℕ) → AreEnds ends → AreRlds chunk
    → saw (part_way F texts fields before) (RldRecord ends chunk) ≡ ended_by ends (part_way F texts (fields ++ fields_as F.segment (rlds_of chunk)) before)
saw-chunk F texts fields before ends chunk right are =
    saw-record (part_way F texts fields before) (RldRecord ends chunk) (right, are) refl refl
    ∙ ap (λ l. ended_by ends (record F { texts = F.texts ++ texts; fields = l; stage = 4; due = None; ends = before })) (append_assoc F.fields fields (fields_as F.segment (rlds_of chunk)))

more-fields : (s : ℕ) (fields : List Field) (chunk : List ℕ) (chunks : List (List ℕ))
    → (fields ++ fields_as s (rlds_of chunk)) ++ fields_as s (flat_map rlds_of chunks) ≡ fields ++ fields_as s (flat_map rlds_of (chunk ∷ chunks))
more-fields s fields chunk chunks =
    append_assoc fields (fields_as s (rlds_of chunk)) (fields_as s (flat_map rlds_of chunks))
    ∙ ap (λ l. fields ++ l) (sym (fields-append s (rlds_of chunk) (flat_map rlds_of chunks)))

-- chunks after which the segment goes on
pub walks-chunks : (F : Facts) (texts : List Text) (fields : List Field) (before : Ends) (chunks : List (List ℕ)) → AllByRecursion IsChunkBytes chunks
    → Walks F.segment (part_way F texts fields before) (map (λ chunk. RldRecord nothing_ends chunk) chunks)
    (part_way F texts (fields ++ fields_as F.segment (flat_map rlds_of chunks)) before)
walks-chunks F texts fields before [] all =
    walks-to F.segment (part_way F texts fields before) [] (part_way F texts fields before) _ (walks-none F.segment (part_way F texts fields before))
    (with_fields-is F texts before fields (fields ++ []) (sym (append-nil fields)))
walks-chunks F texts fields before (chunk ∷ chunks) all =
    walks-to F.segment (part_way F texts fields before) _ (part_way F texts ((fields ++ fields_as F.segment (rlds_of chunk)) ++ fields_as F.segment (flat_map rlds_of chunks)) before) _
    (walks-cons F.segment (part_way F texts fields before) (RldRecord nothing_ends chunk) (part_way F texts (fields ++ fields_as F.segment (rlds_of chunk)) before) _ _ refl
    (saw-chunk F texts fields before nothing_ends chunk nothing all.0.are)
    (walks-chunks F texts (fields ++ fields_as F.segment (rlds_of chunk)) before chunks all.1))
    (with_fields-is F texts before _ _ (more-fields F.segment fields chunk chunks))

-- the last chunks
pub walks-last : (F : Facts) (texts : List Text) (fields : List Field) (before ends : Ends) (chunk : List ℕ) (chunks : List (List ℕ)) → AreEnds ends → AllByRecursion IsChunkBytes (chunk ∷ chunks)
    → Walks F.segment (part_way F texts fields before) (last_records ends (chunk ∷ chunks))
    (ended_by ends (part_way F texts (fields ++ fields_as F.segment (flat_map rlds_of (chunk ∷ chunks))) before))
walks-last F texts fields before ends chunk [] right all =
    walks-one F.segment (part_way F texts fields before) (RldRecord ends chunk) _ refl
    (saw-chunk F texts fields before ends chunk right all.0.are
    ∙ ap (λ l. ended_by ends (part_way F texts (fields ++ fields_as F.segment l) before)) (sym (append-nil (rlds_of chunk))))
walks-last F texts fields before ends chunk (next ∷ chunks) right all =
    walks-to F.segment (part_way F texts fields before) _
    (ended_by ends (part_way F texts ((fields ++ fields_as F.segment (rlds_of chunk)) ++ fields_as F.segment (flat_map rlds_of (next ∷ chunks))) before)) _
    (walks-cons F.segment (part_way F texts fields before) (RldRecord nothing_ends chunk) (part_way F texts (fields ++ fields_as F.segment (rlds_of chunk)) before) _ _ refl
    (saw-chunk F texts fields before nothing_ends chunk nothing all.0.are)
    (walks-last F texts (fields ++ fields_as F.segment (rlds_of chunk)) before ends next chunks right all.1))
    (ap (λ l. ended_by ends (part_way F texts l before)) (more-fields F.segment fields chunk (next ∷ chunks)))

-- ---- all pieces of a segment

-- the items of the chunks of a piece
abbrev pub items_read : Piece → List RldItem
items_read x = flat_map rlds_of x.chunks

last-of : (chunks : List (List ℕ)) (k : ℕ) → k + 1 ≡ length chunks → flat_map rlds_of (take k chunks) ++ rlds_of (unwrap_or (slice_get chunks k) []) ≡ flat_map rlds_of chunks
last-of [] k e = absurd (omega arith)
last-of (c ∷ []) zero e = sym (append-nil (rlds_of c))
last-of (c ∷ d ∷ chunks) zero e = absurd (omega arith)
last-of (c ∷ chunks) (suc k) e =
    append_assoc (rlds_of c) (flat_map rlds_of (take k chunks)) (rlds_of (unwrap_or (slice_get chunks k) []))
    ∙ ap (λ l. rlds_of c ++ l) (last-of chunks k (omega arith))

-- the last chunk, which the next control record carries, and those before it
pub last-carried : (chunks : List (List ℕ)) → flat_map rlds_of (take (length chunks - 1) chunks) ++ rlds_of (unwrap_or (slice_get chunks (length chunks - 1)) []) ≡ flat_map rlds_of chunks
last-carried [] = refl
last-carried (c ∷ chunks) = last-of (c ∷ chunks) (length (c ∷ chunks) - 1) (omega arith)

may-carry : (c : List ℕ) → IsChunkBytes c → MayCarry c
may-carry [] is = tt
may-carry (b ∷ bs) is = is

pub may-carry-at : (chunks : List (List ℕ)) (k : ℕ) → AllByRecursion IsChunkBytes chunks → MayCarry (unwrap_or (slice_get chunks k) [])
may-carry-at [] k all = tt
may-carry-at (c ∷ chunks) zero all = may-carry c all.0
may-carry-at (c ∷ chunks) (suc k) all = may-carry-at chunks k all.1

one-piece : (F : Facts) (ends : Ends) (carried : List ℕ) (x : Piece) (chunks : List (List ℕ)) → AreEnds ends → MayCarry carried → IsPiece x → AllByRecursion IsChunkBytes chunks → F.due ≡ None
    → Walks F.segment F (control_record (if length chunks == 0 then ends else nothing_ends) carried x ∷ TextRecord x.bytes ∷ last_records ends chunks)
    (ended_by ends (part_way F (text_as F.segment x ∷ []) (fields_as F.segment (rlds_of carried ++ (flat_map rlds_of chunks ++ []))) (if length chunks == 0 then ends else nothing_ends)))
one-piece F ends carried x [] right carry is all none =
    walks-to F.segment F _ (ended_by ends (part_way F (text_as F.segment x ∷ []) (fields_as F.segment (rlds_of carried)) ends)) _
    (walks-piece F ends carried x right carry is none)
    (ap (λ l. ended_by ends (part_way F (text_as F.segment x ∷ []) (fields_as F.segment l) ends)) (sym (append-nil (rlds_of carried))))
one-piece F ends carried x (c ∷ chunks) right carry is all none =
    let texts = text_as F.segment x ∷ [] in
    let filled : (if length (c ∷ chunks) == 0 then ends else nothing_ends) ≡ nothing_ends = cond-false (length (c ∷ chunks) == 0) ends nothing_ends (ne_eqb (length (c ∷ chunks)) 0 (omega arith)) in
    let middle : Facts = part_way F texts (fields_as F.segment (rlds_of carried)) nothing_ends in
    let last : Facts = ended_by ends (part_way F texts (fields_as F.segment (rlds_of carried) ++ fields_as F.segment (flat_map rlds_of (c ∷ chunks))) nothing_ends) in
    let fields : fields_as F.segment (rlds_of carried) ++ fields_as F.segment (flat_map rlds_of (c ∷ chunks)) ≡ fields_as F.segment (rlds_of carried ++ (flat_map rlds_of (c ∷ chunks) ++ [])) =
    sym (fields-append F.segment (rlds_of carried) (flat_map rlds_of (c ∷ chunks)))
    ∙ ap (λ l. fields_as F.segment (rlds_of carried ++ l)) (sym (append-nil (flat_map rlds_of (c ∷ chunks)))) in
    subst (λ E. Walks F.segment F (control_record E carried x ∷ TextRecord x.bytes ∷ last_records ends (c ∷ chunks))
    (ended_by ends (part_way F texts (fields_as F.segment (rlds_of carried ++ (flat_map rlds_of (c ∷ chunks) ++ []))) E))) (sym filled)
    (walks-to F.segment F _ last _
    (walks-append F.segment F (control_record nothing_ends carried x ∷ TextRecord x.bytes ∷ []) middle (last_records ends (c ∷ chunks)) last
    (walks-piece F nothing_ends carried x nothing carry is none)
    (walks-last F texts (fields_as F.segment (rlds_of carried)) nothing_ends ends c chunks right all))
    (ap (λ l. ended_by ends (part_way F texts l nothing_ends)) fields))

gathered : (s : ℕ) (a b c d e : List RldItem) → b ++ c ≡ e → (fields_as s a ++ fields_as s b) ++ fields_as s (c ++ d) ≡ fields_as s (a ++ (e ++ d))
gathered s a b c d e same =
    ap (λ l. l ++ fields_as s (c ++ d)) (sym (fields-append s a b))
    ∙ sym (fields-append s (a ++ b) (c ++ d))
    ∙ ap (fields_as s) (append_assoc a b (c ++ d) ∙ ap (λ l. a ++ l) (sym (append_assoc b c d) ∙ ap (λ l. l ++ d) same))

walks-pieces : (before : Ends) (F : Facts) (ends : Ends) (carried : List ℕ) (x : Piece) (rest : List Piece) → AreEnds ends → MayCarry carried → AllByRecursion IsPiece (x ∷ rest) → F.due ≡ None
    → Walks F.segment F (piece_records ends carried (x ∷ rest))
    (ended_by ends (part_way F (map (text_as F.segment) (x ∷ rest)) (fields_as F.segment (rlds_of carried ++ flat_map items_read (x ∷ rest))) (left_by before ends (x ∷ rest))))
unfolding piece_records
walks-pieces before F ends carried x [] right carry all none = one-piece F ends carried x x.chunks right carry all.0 all.0.chunks none
walks-pieces before F ends carried x (y ∷ rest) right carry all none =
    let texts = text_as F.segment x ∷ [] in
    let first = take (length x.chunks - 1) x.chunks in
    let next : List ℕ = unwrap_or (slice_get x.chunks (length x.chunks - 1)) [] in
    let one : Facts = part_way F texts (fields_as F.segment (rlds_of carried)) nothing_ends in
    let two : Facts = part_way F texts (fields_as F.segment (rlds_of carried) ++ fields_as F.segment (flat_map rlds_of first)) nothing_ends in
    let more = map (text_as F.segment) (y ∷ rest) in
    let left : Ends = left_by before ends (y ∷ rest) in
    let later = rlds_of next ++ flat_map items_read (y ∷ rest) in
    walks-to F.segment F _ (ended_by ends (part_way two more (fields_as F.segment later) left)) _
    (walks-append F.segment F (control_record nothing_ends carried x ∷ TextRecord x.bytes ∷ []) one
    (map (λ chunk. RldRecord nothing_ends chunk) first ++ piece_records ends next (y ∷ rest)) _
    (walks-piece F nothing_ends carried x nothing carry all.0 none)
    (walks-append F.segment one (map (λ chunk. RldRecord nothing_ends chunk) first) two (piece_records ends next (y ∷ rest)) _
    (walks-chunks F texts (fields_as F.segment (rlds_of carried)) nothing_ends first (each-take IsChunkBytes (length x.chunks - 1) x.chunks all.0.chunks))
    (walks-pieces before two ends next y rest right (may-carry-at x.chunks (length x.chunks - 1) all.0.chunks) all.1 refl)))
    (ap (ended_by ends) (twice F texts more (fields_as F.segment (rlds_of carried) ++ fields_as F.segment (flat_map rlds_of first)) (fields_as F.segment later) nothing_ends left
    ∙ ap (λ l. part_way F (texts ++ more) l left) (gathered F.segment (rlds_of carried) (flat_map rlds_of first) (rlds_of next) (flat_map items_read (y ∷ rest)) (items_read x) (last-carried x.chunks))))

-- the records of a segment, from its pieces
pub segment_walk : (F : Facts) (ends : Ends) (pieces : List Piece) → AreEnds ends → AllByRecursion IsPiece pieces → F.due ≡ None
    → Walks F.segment F (records_or_empty ends pieces)
    (ended_by ends (part_way F (map (text_as F.segment) pieces) (fields_as F.segment (flat_map items_read pieces)) (left_by F.ends ends pieces)))
segment_walk F ends [] right all none =
    walks-one F.segment F (RldRecord ends []) _ refl
    (saw-record F (RldRecord ends []) (right, record { most = omega arith; whole = refl; flags = refl }) refl none
    ∙ ap (λ l. ended_by ends (record F { texts = l; fields = F.fields ++ []; stage = 4 })) (sym (append-nil F.texts))
    ∙ ap (λ d. ended_by ends (record F { texts = F.texts ++ []; fields = F.fields ++ []; stage = 4; due = d })) none)
segment_walk F ends (x ∷ rest) right all none = walks-pieces F.ends F ends [] x rest right tt all none
