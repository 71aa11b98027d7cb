-- The records of pieces, one piece after the other, and their sizes.
use Rattle.std.proofs.Common.{◌≡◌, ℕ, suc, ◌+◌, ◌-◌, ◌<◌, Bool, true, false, ◌==◌, if◌then◌else◌, List, [], ◌∷◌, ◌++◌, length, map, All, refl, sym, ap, subst, ◌∙◌, append_assoc, length-append, arith}
use Rattle.std.proofs.lemmas.List.{map-append}
use Rattle.std.proofs.lemmas.List.Elements.{All-nil, All-cons, All-head, All-tail, All-append, All-take, All-get_or}
use Rattle.std.proofs.lemmas.Bool.Decides.{nat_tests}
use Rattle.std.proofs.lemmas.Option.{slice_get-get_or}
use Rattle.load_recs.specs.Records.{Record, ControlRecord, RldRecord, ControlRldRecord, TextRecord, rec_bytes, text_record, ending, AreRlds}
use Rattle.load_recs.specs.declared.records.Ends.{Ends}
use Rattle.load_recs.specs.declared.records.TextHead.{TextHead}
use Rattle.member_model.specs.Facts.{nothing_ends}
use Rattle.member_model.specs.Pieces.{Piece, text_head, control_record, last_records, piece_records, records_or_empty}
use Rattle.mod_segments.specs.Chunks.{IsChunk}
use Rattle.mod_segments.specs.Pieces.{IsPiece}
use Rattle.mod_segments.specs.Records.{IsStored, text_records, chunk_records, but_last, last_of}

-- ---- the last chunk

front_more : (x y : List ℕ) (rest : List (List ℕ)) → but_last (x ∷ y ∷ rest) ≡ x ∷ but_last (y ∷ rest)
front_more x y rest =
    let e : suc (suc (length rest)) - 1 ≡ suc (length rest) = omega arith in
    let f : suc (length rest) - 1 ≡ length rest = omega arith in
    rw (e, f) refl

last_more : (x y : List ℕ) (rest : List (List ℕ)) → last_of (x ∷ y ∷ rest) ≡ last_of (y ∷ rest)
last_more x y rest =
    let e : suc (suc (length rest)) - 1 ≡ suc (length rest) = omega arith in
    let f : suc (length rest) - 1 ≡ length rest = omega arith in
    rw (e, f) refl

last_by_parts : (ends : Ends) (x : List ℕ) (rest : List (List ℕ))
    → last_records ends (x ∷ rest) ≡ chunk_records (but_last (x ∷ rest)) ++ RldRecord ends (last_of (x ∷ rest)) ∷ []
last_by_parts ends x [] = refl
last_by_parts ends x (y ∷ rest) =
    rw (front_more x y rest, last_more x y rest) (ap (λ (v : List Record). RldRecord nothing_ends x ∷ v) (last_by_parts ends y rest))

-- no chunk at all can join a control record
pub none_held : AreRlds []
none_held = record { most = omega arith; whole = refl; flags = refl }

pub last_held : (chunks : List (List ℕ)) → All IsChunk chunks → AreRlds (last_of chunks)
last_held [] are = none_held
last_held (x ∷ rest) are =
    let within : length (x ∷ rest) - 1 < length (x ∷ rest) = omega arith in
    rw (slice_get-get_or (x ∷ rest) (length (x ∷ rest) - 1) x within) (All-get_or IsChunk (x ∷ rest) (length (x ∷ rest) - 1) x within are).items

-- ---- piece by piece

-- a piece that others follow
pub one_piece : (ends : Ends) (carried : List ℕ) (x y : Piece) (rest : List Piece)
    → map rec_bytes (piece_records ends carried (x ∷ y ∷ rest))
    ≡ map rec_bytes (text_records nothing_ends carried x ++ chunk_records (but_last x.chunks)) ++ map rec_bytes (piece_records ends (last_of x.chunks) (y ∷ rest))
unfolding piece_records
one_piece ends carried x y rest =
    map-append rec_bytes (text_records nothing_ends carried x ++ chunk_records (but_last x.chunks)) (piece_records ends (last_of x.chunks) (y ∷ rest))

-- the last piece, without chunks and with them
pub last_without : (ends : Ends) (carried : List ℕ) (x : Piece) → x.chunks ≡ []
    → map rec_bytes (piece_records ends carried (x ∷ [])) ≡ map rec_bytes (text_records ends carried x)
unfolding piece_records
last_without ends carried x none = rw none refl

not_none : (n : ℕ) → 0 < n → (n == 0) ≡ false
not_none n some = grind (arith, nat_tests)

last_with_by : (ends : Ends) (carried : List ℕ) (x : Piece) (chunks : List (List ℕ)) → x.chunks ≡ chunks → 0 < length chunks
    → piece_records ends carried (x ∷ []) ≡ text_records nothing_ends carried x ++ chunk_records (but_last chunks) ++ RldRecord ends (last_of chunks) ∷ []
unfolding piece_records
last_with_by ends carried x [] e some = absurd (omega arith)
last_with_by ends carried x (c ∷ cs) e some =
    rw (e, not_none (suc (length cs)) (omega arith))
    (ap (λ (v : List Record). control_record nothing_ends carried x ∷ TextRecord x.bytes ∷ v) (last_by_parts ends c cs))

pub last_with : (ends : Ends) (carried : List ℕ) (x : Piece) → 0 < length x.chunks
    → map rec_bytes (piece_records ends carried (x ∷ []))
    ≡ (map rec_bytes (text_records nothing_ends carried x) ++ map rec_bytes (chunk_records (but_last x.chunks))) ++ rec_bytes (RldRecord ends (last_of x.chunks)) ∷ []
last_with ends carried x some =
    ap (map rec_bytes) (last_with_by ends carried x x.chunks refl some)
    ∙ (map-append rec_bytes (text_records nothing_ends carried x ++ chunk_records (but_last x.chunks)) (RldRecord ends (last_of x.chunks) ∷ [])
    ∙ ap (λ v. v ++ rec_bytes (RldRecord ends (last_of x.chunks)) ∷ []) (map-append rec_bytes (text_records nothing_ends carried x) (chunk_records (but_last x.chunks))))

pub some_there : (chunks : List (List ℕ)) → (chunks ≡ [] → false ≡ true) → 0 < length chunks
some_there [] none = absurd (let e : false ≡ true = none refl in cc)
some_there (x ∷ rest) none = omega arith

-- the records of the last piece, put after those that are there
pub ended : (before with_text with_front all : List (List ℕ)) (ends : Ends) (carried : List ℕ) (x : Piece) (front : List (List ℕ)) (last : List ℕ)
    → 0 < length x.chunks → front ≡ but_last x.chunks → last ≡ last_of x.chunks
    → with_text ≡ before ++ map rec_bytes (text_records nothing_ends carried x)
    → with_front ≡ with_text ++ map rec_bytes (chunk_records front)
    → all ≡ with_front ++ rec_bytes (RldRecord ends last) ∷ []
    → all ≡ before ++ map rec_bytes (piece_records ends carried (x ∷ []))
ended before with_text with_front all ends carried x front last some f l e1 e2 e3 =
    let text : List (List ℕ) = map rec_bytes (text_records nothing_ends carried x) in
    let chunks : List (List ℕ) = map rec_bytes (chunk_records (but_last x.chunks)) in
    let end : List (List ℕ) = rec_bytes (RldRecord ends (last_of x.chunks)) ∷ [] in
    let done : all ≡ ((before ++ text) ++ chunks) ++ end = rw (e3, e2, e1, f, l) refl in
    done
    ∙ (ap (λ v. v ++ end) (append_assoc before text chunks)
    ∙ (append_assoc before (text ++ chunks) end
    ∙ ap (λ v. before ++ v) (sym (last_with ends carried x some))))

-- one piece of those that are left
pub continued : (done total : List (List ℕ)) (ends : Ends) (carried : List ℕ) (x y : Piece) (rest : List Piece)
    → done ++ map rec_bytes (piece_records ends carried (x ∷ y ∷ rest)) ≡ total
    → (done ++ map rec_bytes (text_records nothing_ends carried x ++ chunk_records (but_last x.chunks))) ++ map rec_bytes (piece_records ends (last_of x.chunks) (y ∷ rest)) ≡ total
continued done total ends carried x y rest e =
    append_assoc done (map rec_bytes (text_records nothing_ends carried x ++ chunk_records (but_last x.chunks))) (map rec_bytes (piece_records ends (last_of x.chunks) (y ∷ rest)))
    ∙ (ap (λ v. done ++ v) (sym (one_piece ends carried x y rest)) ∙ e)

-- ---- sizes

text_size : (identifier : ℕ) (items : List ℕ) (text : TextHead) → length (text_record identifier items text) ≡ 20 + length items
text_size identifier items text = omega (arith, length-append {A = ℕ})

control_stored : (ends : Ends) (carried : List ℕ) (x : Piece) → AreRlds carried → IsStored (rec_bytes (control_record ends carried x))
control_stored ends carried x held = by_length (length carried == 0)
  where
    by_length : (none : Bool)
        → IsStored (rec_bytes (if none then ControlRecord ends (text_head x) else ControlRldRecord ends carried (text_head x)))
    by_length true = record { some = omega arith; most = omega arith }
    by_length false =
        let size = text_size (3 + ending ends) carried (text_head x) in
        let most = held.most in
        record { some = omega (arith, size); most = omega (arith, size, most) }

chunk_stored : (ends : Ends) (chunk : List ℕ) → AreRlds chunk → IsStored (rec_bytes (RldRecord ends chunk))
chunk_stored ends chunk held = let most = held.most in record { some = omega arith; most = omega (arith, most) }

text_stored : (x : Piece) → IsPiece x → IsStored x.bytes
text_stored x is = record { some = is.text.some; most = let most = is.text.most in omega arith }

chunks_stored : (chunks : List (List ℕ)) → All IsChunk chunks → All IsStored (map rec_bytes (chunk_records chunks))
chunks_stored [] are = All-nil IsStored
chunks_stored (x ∷ rest) are =
    All-cons IsStored (rec_bytes (RldRecord nothing_ends x)) (map rec_bytes (chunk_records rest)) (chunk_stored nothing_ends x (All-head IsChunk x rest are).items)
    (chunks_stored rest (All-tail IsChunk x rest are))

last_stored : (ends : Ends) (chunks : List (List ℕ)) → All IsChunk chunks → All IsStored (map rec_bytes (last_records ends chunks))
last_stored ends [] are = All-nil IsStored
last_stored ends (x ∷ []) are = All-cons IsStored (rec_bytes (RldRecord ends x)) [] (chunk_stored ends x (All-head IsChunk x [] are).items) (All-nil IsStored)
last_stored ends (x ∷ y ∷ rest) are =
    All-cons IsStored (rec_bytes (RldRecord nothing_ends x)) (map rec_bytes (last_records ends (y ∷ rest))) (chunk_stored nothing_ends x (All-head IsChunk x (y ∷ rest) are).items)
    (last_stored ends (y ∷ rest) (All-tail IsChunk x (y ∷ rest) are))

both_stored : (ends : Ends) (carried : List ℕ) (x : Piece) (more : List (List ℕ)) → AreRlds carried → IsPiece x → All IsStored more
    → All IsStored (rec_bytes (control_record ends carried x) ∷ x.bytes ∷ more)
both_stored ends carried x more held is are =
    All-cons IsStored (rec_bytes (control_record ends carried x)) (x.bytes ∷ more) (control_stored ends carried x held)
    (All-cons IsStored x.bytes more (text_stored x is) are)

pieces_stored : (ends : Ends) (carried : List ℕ) (xs : List Piece) → AreRlds carried → All IsPiece xs
    → All IsStored (map rec_bytes (piece_records ends carried xs))
unfolding piece_records
pieces_stored ends carried [] held are = All-nil IsStored
pieces_stored ends carried (x ∷ []) held are =
    let is = All-head IsPiece x [] are in
    both_stored (if length x.chunks == 0 then ends else nothing_ends) carried x (map rec_bytes (last_records ends x.chunks)) held is (last_stored ends x.chunks is.chunks)
pieces_stored ends carried (x ∷ y ∷ rest) held are =
    let is = All-head IsPiece x (y ∷ rest) are in
    subst (All IsStored) (sym (one_piece ends carried x y rest))
    (All-append IsStored (map rec_bytes (text_records nothing_ends carried x ++ chunk_records (but_last x.chunks))) (map rec_bytes (piece_records ends (last_of x.chunks) (y ∷ rest)))
    (both_stored nothing_ends carried x (map rec_bytes (chunk_records (but_last x.chunks))) held is (chunks_stored (but_last x.chunks) (All-take IsChunk (length x.chunks - 1) x.chunks is.chunks)))
    (pieces_stored ends (last_of x.chunks) (y ∷ rest) (last_held x.chunks is.chunks) (All-tail IsPiece x (y ∷ rest) are)))

pub records_stored : (ends : Ends) (xs : List Piece) → All IsPiece xs → All IsStored (map rec_bytes (records_or_empty ends xs))
records_stored ends [] are = All-cons IsStored (rec_bytes (RldRecord ends [])) [] (chunk_stored ends [] none_held) (All-nil IsStored)
records_stored ends (x ∷ rest) are = pieces_stored ends [] (x ∷ rest) none_held are
