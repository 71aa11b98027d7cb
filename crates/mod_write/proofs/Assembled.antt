-- The records of segments, part by part and segment by segment.
use Rattle.std.proofs.Common.{◌≡◌, ℕ, ◌+◌, ◌<◌, ◌≤◌, ◌⊎◌, inl, inr, List, [], ◌∷◌, ◌++◌, length, map, take, drop, get_or, sym, ap, ◌∙◌, arith}
use Rattle.std.specs.Prelude.{flat_map}
use Rattle.std.specs.List.{range_with_len}
use Rattle.std.proofs.lemmas.List.{append-nil, take_all, map_more}
use Rattle.std.proofs.lemmas.Grind.{flat_map-append, common_steps}
use Rattle.std.proofs.lemmas.List.Concat.{flat_map-cons}
use Rattle.std.proofs.lemmas.List.FromFn.{map-range_with_len_more, get_or-map-range_with_len, length-map-range_with_len}
use Rattle.load_recs.specs.Records.{rec_bytes}
use Rattle.load_recs.specs.declared.records.Ends.{Ends}
use Rattle.linking_model.specs.Places.{Laid, length_of_section}
use Rattle.linking_model.specs.Linked.{Placement, linked_section}
use Rattle.text_store.specs.Content.{section_of}
use Rattle.relocate.specs.Agreeing.{linked_text}
use Rattle.relocate.proofs.Rows.{segments_listed}
use Rattle.sym_mod.specs.declared.program.SecKind.{SecKind}
use Rattle.sym_mod.specs.declared.program.SecKind.TheVariants.{Sd, Pc}
use Rattle.load_recs.specs.declared.items.RldItem.{RldItem}
use Rattle.member_model.specs.Parts.{Part as Seen, parts_in, section_kind}
use Rattle.member_model.specs.Pieces.{Piece, pieces, records_or_empty, ends_at}
use Rattle.member_model.specs.Written.{pieces_as, part_pieces, segment_records}
use Rattle.mod_parts.specs.Seen.{seen}
use Rattle.mod_parts.specs.declared.part.Part.{Part}
use Rattle.mod_write.specs.Written.{segment_bytes, bytes_of_segments}

-- ---- the parts of a segment

-- the pieces with those of one more part
pub parts_more : (P : Laid) (n k : ℕ) (xs : List Part) (x none : Part) (old new : List Piece) → k < length xs → x ≡ get_or xs k none
    → old ≡ flat_map (part_pieces P n) (map seen (take k xs)) → new ≡ old ++ part_pieces P n (seen x)
    → new ≡ flat_map (part_pieces P n) (map seen (take (k + 1) xs))
parts_more P n k xs x none old new there at so_far added =
    let front : List Seen = map seen (take k xs) in
    let more : map seen (take (k + 1) xs) ≡ front ++ seen x ∷ [] = map_more seen xs k none there ∙ ap (λ y. front ++ seen y ∷ []) (sym at) in
    let last : flat_map (part_pieces P n) (seen x ∷ []) ≡ part_pieces P n (seen x) = flat_map-cons (part_pieces P n) (seen x) [] ∙ append-nil (part_pieces P n (seen x)) in
    added
    ∙ (ap (λ v. v ++ part_pieces P n (seen x)) so_far
    ∙ (ap (λ v. flat_map (part_pieces P n) front ++ v) (sym last)
    ∙ (sym (flat_map-append (part_pieces P n) front (seen x ∷ [])) ∙ ap (flat_map (part_pieces P n)) (sym more))))

-- the pieces of all parts are the records of the segment
pub parts_whole : (P : Laid) (n s k : ℕ) (xs : List Part) (made : List Piece) (ends : Ends) → map seen xs ≡ parts_in P s → length xs ≤ k
    → made ≡ flat_map (part_pieces P n) (map seen (take k xs)) → ends ≡ ends_at (length P.tree) s
    → map rec_bytes (records_or_empty ends made) ≡ segment_bytes P n s
unfolding segment_records
parts_whole P n s k xs made ends are past so_far last =
    let all : made ≡ flat_map (part_pieces P n) (parts_in P s) =
    so_far ∙ (ap (λ ys. flat_map (part_pieces P n) (map seen ys)) (take_all k xs past) ∙ ap (flat_map (part_pieces P n)) are) in
    ap (λ v. map rec_bytes (records_or_empty ends v)) all
    ∙ ap (λ e. map rec_bytes (records_or_empty e (flat_map (part_pieces P n) (parts_in P s)))) last

-- ---- segments

pub segments_more : (P : Laid) (n k s : ℕ) (old new : List (List (List ℕ))) (x : List (List ℕ)) → 1 + k ≡ s
    → old ≡ map (segment_bytes P n) (range_with_len 1 k) → x ≡ segment_bytes P n s → new ≡ old ++ x ∷ []
    → new ≡ map (segment_bytes P n) (range_with_len 1 (k + 1))
segments_more P n k s old new x at so_far is pushed =
    pushed
    ∙ (ap (λ v. v ++ x ∷ []) so_far
    ∙ (ap (λ y. map (segment_bytes P n) (range_with_len 1 k) ++ y ∷ []) is ∙ sym (map-range_with_len_more (segment_bytes P n) 1 k s at)))

pub segments_whole : (P : Laid) (n k : ℕ) (all : List (List (List ℕ))) → k ≡ length P.tree → all ≡ map (segment_bytes P n) (range_with_len 1 k)
    → all ≡ bytes_of_segments P n
segments_whole P n k all is made =
    made ∙ (ap (λ m. map (segment_bytes P n) (range_with_len 1 m)) is ∙ ap (map (segment_bytes P n)) (sym (segments_listed P.tree)))

-- ---- the text of a section

pub section_text : (P : Laid) (q : Placement) (content : List (List ℕ)) (i : ℕ) → content ≡ linked_text P q → i < length P.program.sections
    → section_of content i ≡ linked_section P q i
unfolding linked_text
section_text P q content i is there =
    ap (λ c. section_of c i) is ∙ get_or-map-range_with_len (linked_section P q) 0 (length P.program.sections) i i [] there (omega arith)

pub section_long : (P : Laid) (q : Placement) (content : List (List ℕ)) (i : ℕ) → content ≡ linked_text P q → i < length P.program.sections
    → length (section_of content i) ≡ length_of_section P.program i
section_long P q content i is there =
    ap length (section_text P q content i is there) ∙ length-map-range_with_len _ 0 (length_of_section P.program i)

-- a list that was lent whole
pub refilled : (n : ℕ) (new old : List ℕ) → n ≡ length new → take n (new ++ drop (length new) old) ≡ new
refilled n new old size = grind (arith, common_steps)

-- ---- the pieces of one part

-- a section that is no common area is written whole
pub text_pieces : (P : Laid) (i : ℕ) (kind : SecKind) (text : List Piece) → kind ≡ section_kind P i → (kind ≡ Sd) ⊎ (kind ≡ Pc)
    → text ≡ pieces_as (section_kind P i) text
text_pieces P i kind text is (inl e) = ap (λ k. pieces_as k text) (sym e ∙ is)
text_pieces P i kind text is (inr e) = ap (λ k. pieces_as k text) (sym e ∙ is)

-- pieces of a part by its number, address, items and bytes
pub pieces_by : (n number address number' address' : ℕ) (items items' : List RldItem) (bytes bytes' : List ℕ) → number ≡ number' → address ≡ address'
    → items ≡ items' → bytes ≡ bytes' → pieces n number address items bytes ≡ pieces n number' address' items' bytes'
pieces_by n number address number' address' items items' bytes bytes' a b c d =
    ap (λ k. pieces n k address items bytes) a
    ∙ (ap (λ k. pieces n number' k items bytes) b ∙ (ap (λ x. pieces n number' address' x bytes) c ∙ ap (pieces n number' address' items') d))
