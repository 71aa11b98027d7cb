-- A part that is one of a segment is among its parts.
use Rattle.std.proofs.Common.{◌≡◌, ℕ, ◌<◌, ◌==◌, if◌then◌else◌, List, [], ◌∷◌, map, length, inl, sym, ap, refl, subst, ◌∙◌, arith}
use Rattle.std.proofs.lemmas.Bool.{eq-eqb, ne_eqb}
use Rattle.std.proofs.lemmas.Option.{slice_get_within}
use Rattle.std.specs.List.{range_with_len}
use Rattle.linking_model.specs.Places.{Laid, has_segtab, entry_count, segment_of_section}
use Rattle.linking_model.specs.Run.{sections_in}
use Rattle.member_model.specs.Parts.{Part, SegmentTable, OneSection, EntryTable, parts_in}
use Rattle.member_laws.proofs.Membership.{Has, has-left, has-right, has-map, has-filter, has-range}
use Rattle.member_laws.proofs.Standing.{IsPartOf, segment-at}

pub has-part-in : (P : Laid) (s : ℕ) (x : Part) → IsPartOf P s x → Has (parts_in P s) x
has-part-in P s SegmentTable is =
    has-left _ (if entry_count P s == 0 then [] else EntryTable s ∷ []) SegmentTable
    (has-left (if has_segtab P.tree s then SegmentTable ∷ [] else []) (map (λ i. OneSection i) (sections_in P.program s)) SegmentTable
    (subst (λ b. Has (if b then SegmentTable ∷ [] else []) SegmentTable) (sym is) (inl refl)))
has-part-in P s (OneSection i) is =
    has-left _ (if entry_count P s == 0 then [] else EntryTable s ∷ []) (OneSection i)
    (has-right (if has_segtab P.tree s then SegmentTable ∷ [] else []) (map (λ j. OneSection j) (sections_in P.program s)) (OneSection i)
    (has-map (λ j. OneSection j) (sections_in P.program s) i
    (has-filter (λ j. segment_of_section P.program j == s) (range_with_len 0 (length P.program.sections)) i
    (has-range 0 (length P.program.sections) i (omega arith) (let low = slice_get_within P.program.sections i is.section is.there in omega arith))
    (eq-eqb (segment_of_section P.program i) s (segment-at P i is.section is.there ∙ is.here)))))
has-part-in P s (EntryTable t) is =
    has-right _ (if entry_count P s == 0 then [] else EntryTable s ∷ []) (EntryTable t)
    (subst (λ b. Has (if b then [] else EntryTable s ∷ []) (EntryTable t)) (sym (ne_eqb (entry_count P s) 0 (let some : 0 < entry_count P s = is.1 in omega arith))) (inl (ap EntryTable (sym (is.0)))))
