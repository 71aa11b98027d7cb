use Rattle.std.proofs.Common.{◌≡◌, ℕ, arith, ◌+◌, ◌∙◌, ap, map, length, refl}
use Rattle.std.proofs.lemmas.List.{length-map, map_push}
use Rattle.std.proofs.lemmas.List.FromFn.{length-map-range_with_len}
use Rattle.linking_model.specs.Run.{sections_in}
use Rattle.relocate.specs.Ready.{laid}
use Rattle.member_model.specs.Parts.{parts_in}
use Rattle.mod_parts.specs.Seen.{seen}
use Rattle.mod_parts.proofs.Bucketed.{list_here, sections_short, parts_of_segment, push_range}
use Rattle.mod_parts.proofs.gathering.parts_by_segment.Goals as goal

pub index-requires : goal.index-requires
index-requires c =
    omega (
      arith,
      c.loop-i-test.true,
      ap length c.in_ok-sections.ensures,
      length-map c.in_ok-sections.sections.items (λ v. v.items),
      length-map-range_with_len (sections_in c.args.p.now) 1 c.count-count.result,
      c.in_ok-sections.sections.ok.0,
    )

pub segment_parts-requires : goal.segment_parts-requires
segment_parts-requires c =
    let are : c.as_slice.result.now ≡ sections_in c.args.p.now (c.loop-i.i + 1) =
    list_here c.args.p.now c.count-count.result c.loop-i.i (c.loop-i.i + 1) c.in_ok-sections.sections.items c.index.result.now c.as_slice.result.now c.in_ok-sections.ensures c.loop-i-test.true refl c.index.ensures c.as_slice.ensures.value in
    rw are (omega (arith, sections_short c.args.p.now (c.loop-i.i + 1), c.requires.few))

pub loop-i-preserved : goal.loop-i-preserved
loop-i-preserved c =
    let are : c.as_slice.result.now ≡ sections_in c.args.p.now (c.loop-i.i + 1) =
    list_here c.args.p.now c.count-count.result c.loop-i.i (c.loop-i.i + 1) c.in_ok-sections.sections.items c.index.result.now c.as_slice.result.now c.in_ok-sections.ensures c.loop-i-test.true refl c.index.ensures c.as_slice.ensures.value in
    ap (map (map seen)) c.in_ok-push.ensures.ok
    ∙ (map_push (map seen) c.loop-i.segments c.from_vec.result
    ∙ push_range (parts_in (laid c.args.p.now c.args.tree.now c.args.t.now)) 1 c.loop-i.i (map seen c.from_vec.result) (map (map seen) c.loop-i.segments) c.loop-i.invariant
    (ap (map seen) c.from_vec.ensures
    ∙ (c.in_ok-parts.ensures
    ∙ (parts_of_segment (laid c.args.p.now c.args.tree.now c.args.t.now) (c.loop-i.i + 1) c.count-count.result c.as_slice.result.now c.has_entries.result
    c.count-count.ensures.count are c.has_entries.ensures
    ∙ ap (parts_in (laid c.args.p.now c.args.tree.now c.args.t.now)) (next c.loop-i.i)))))
  where
    next : (i : ℕ) → i + 1 ≡ 1 + i
    next i = omega arith
