-- The records of a member as bytes, part by part, and that a library can hold each.
use Rattle.std.proofs.Common.{◌≡◌, ℕ, ◌^◌, ◌<◌, Bool, true, false, if◌then◌else◌, List, [], ◌∷◌, ◌++◌, length, map, All, refl, sym, ap, subst, ◌∙◌}
use Rattle.std.specs.List.{AllByRecursion}
use Rattle.std.proofs.lemmas.List.{map-append, length-map}
use Rattle.std.proofs.lemmas.List.Concat.{flat_map-cons}
use Rattle.std.proofs.lemmas.List.Elements.{All-nil, All-append, All-head, All-tail, All-weaker, recursion_from_All}
use Rattle.std.proofs.lemmas.List.FromFn.{length-map-range_with_len}
use Rattle.load_recs.specs.Records.{Record, rec_bytes}
use Rattle.linking_model.specs.Tree.{segments}
use Rattle.linking_model.specs.Places.{Laid, is_overlay}
use Rattle.relocate.proofs.Rows.{segments_listed}
use Rattle.member_model.specs.Cuts.{together}
use Rattle.member_model.specs.SymbolList.{first_records}
use Rattle.member_model.specs.Written.{segment_records, note_records, written, written_bytes}
use Rattle.mod_segments.specs.Records.{IsStored}
use Rattle.mod_write.specs.Written.{segment_bytes, bytes_of_segments, note_bytes}

map_together : {X Y : Type 0} (f : X → Y) (lists : List (List X)) → map f (together lists) ≡ together (map (map f) lists)
map_together f [] = refl
map_together f (x ∷ lists) =
    ap (map f) (flat_map-cons (λ v. v) x lists)
    ∙ (map-append f x (together lists)
    ∙ (ap (λ v. map f x ++ v) (map_together f lists) ∙ sym (flat_map-cons (λ v. v) (map f x) (map (map f) lists))))

bytes_each : (P : Laid) (n : ℕ) (ss : List ℕ) → map (map rec_bytes) (map (segment_records P n) ss) ≡ map (segment_bytes P n) ss
bytes_each P n [] = refl
bytes_each P n (s ∷ ss) = ap (λ v. segment_bytes P n s ∷ v) (bytes_each P n ss)

-- the records before the note list, the note list of an overlay program, and the segments
pub written_parts : (P : Laid) (scatter : Bool) (n : ℕ)
    → written_bytes P scatter n
    ≡ (map rec_bytes (first_records P scatter) ++ note_bytes P n (is_overlay P.tree) (length (first_records P scatter))) ++ together (bytes_of_segments P n)
unfolding written
written_parts P scatter n =
    let first : List Record = first_records P scatter in
    let segs : List (List Record) = map (segment_records P n) (segments P.tree) in
    let noted : List Record = if is_overlay P.tree then note_records P (length first) segs else [] in
    map-append rec_bytes (first ++ noted) (together segs)
    ∙ (ap (λ v. v ++ map rec_bytes (together segs)) (map-append rec_bytes first noted ∙ ap (λ v. map rec_bytes first ++ v) (by_tree (is_overlay P.tree) (note_records P (length first) segs)))
    ∙ ap (λ v. (map rec_bytes first ++ note_bytes P n (is_overlay P.tree) (length first)) ++ v) (map_together rec_bytes segs ∙ ap together (bytes_each P n (segments P.tree))))
  where
    by_tree : (overlay : Bool) (noted : List Record) → map rec_bytes (if overlay then noted else []) ≡ (if overlay then map rec_bytes noted else [])
    by_tree true noted = refl
    by_tree false noted = refl

counts_each : (P : Laid) (n : ℕ) (ss : List ℕ) → map length (map (segment_records P n) ss) ≡ map length (map (segment_bytes P n) ss)
counts_each P n [] = refl
counts_each P n (s ∷ ss) =
    ap (λ v. v ∷ map length (map (segment_records P n) ss)) (sym (length-map (segment_records P n s) rec_bytes))
    ∙ ap (λ v. length (segment_bytes P n s) ∷ v) (counts_each P n ss)

-- each segment has as many records as there are in bytes
pub counts_are : (P : Laid) (n : ℕ) → map length (map (segment_records P n) (segments P.tree)) ≡ map length (bytes_of_segments P n)
counts_are P n = counts_each P n (segments P.tree)

pub together_stored : (lists : List (List (List ℕ))) → All (All IsStored) lists → All IsStored (together lists)
together_stored [] are = All-nil IsStored
together_stored (x ∷ lists) are =
    subst (All IsStored) (sym (flat_map-cons (λ v. v) x lists))
    (All-append IsStored x (together lists) (All-head (All IsStored) x lists are) (together_stored lists (All-tail (All IsStored) x lists are)))

pub stored_by : (records : List (List ℕ)) → All IsStored records → AllByRecursion (λ (r : List ℕ). (0 < length r) × (length r < 2 ^ 16)) records
stored_by records are =
    recursion_from_All (λ (r : List ℕ). (0 < length r) × (length r < 2 ^ 16)) records
    (All-weaker IsStored (λ (r : List ℕ). (0 < length r) × (length r < 2 ^ 16)) (λ r is. (is.some, is.most)) records are)

-- as many as segments
pub counted : (P : Laid) (n : ℕ) (segs : List (List (List ℕ))) (counts : List ℕ) → counts ≡ map length segs → segs ≡ bytes_of_segments P n
    → length counts ≡ length P.tree
counted P n segs counts are is =
    ap length are
    ∙ (length-map segs length
    ∙ (ap length is ∙ (ap (λ ss. length (map (segment_bytes P n) ss)) (segments_listed P.tree) ∙ length-map-range_with_len (segment_bytes P n) 1 (length P.tree))))

pub noted : (P : Laid) (n before : ℕ) (overlay : Bool) → overlay ≡ true
    → map rec_bytes (note_records P before (map (segment_records P n) (segments P.tree))) ≡ note_bytes P n overlay before
noted P n before overlay e = rw e refl

-- all records
pub written_whole : (P : Laid) (scatter overlay : Bool) (n before : ℕ) (first notes both all : List (List ℕ)) (segs : List (List (List ℕ)))
    → first ≡ map rec_bytes (first_records P scatter) → before ≡ length first → overlay ≡ is_overlay P.tree → notes ≡ note_bytes P n overlay before
    → segs ≡ bytes_of_segments P n → both ≡ first ++ notes → all ≡ both ++ together segs → all ≡ written_bytes P scatter n
written_whole P scatter overlay n before first notes both all segs firsts at is noted made two whole =
    let count : before ≡ length (first_records P scatter) = at ∙ (ap length firsts ∙ length-map (first_records P scatter) rec_bytes) in
    let list : notes ≡ note_bytes P n (is_overlay P.tree) (length (first_records P scatter)) =
    noted ∙ (ap (λ o. note_bytes P n o before) is ∙ ap (note_bytes P n (is_overlay P.tree)) count) in
    whole
    ∙ (ap (λ v. v ++ together segs) two
    ∙ (ap (λ v. (v ++ notes) ++ together segs) firsts
    ∙ (ap (λ v. (map rec_bytes (first_records P scatter) ++ v) ++ together segs) list
    ∙ (ap (λ v. (map rec_bytes (first_records P scatter) ++ note_bytes P n (is_overlay P.tree) (length (first_records P scatter))) ++ together v) made
    ∙ sym (written_parts P scatter n)))))

pub stored_whole : (first notes both all : List (List ℕ)) (segs : List (List (List ℕ))) → All IsStored first → All IsStored notes → All (All IsStored) segs
    → both ≡ first ++ notes → all ≡ both ++ together segs → All IsStored all
stored_whole first notes both all segs firsts noted made two whole =
    let front : All IsStored both = subst (All IsStored) (sym two) (All-append IsStored first notes firsts noted) in
    subst (All IsStored) (sym whole) (All-append IsStored both (together segs) front (together_stored segs made))
