use Rattle.std.proofs.Common.{arith, ◌+◌, ◌-◌, ◌∙◌, ap, map, length, refl}
use Rattle.std.proofs.lemmas.List.{length-map}
use Rattle.std.proofs.lemmas.List.FromFn.{length-map-range_with_len}
use Rattle.mod_parts.specs.Gathered.{IsSegmentTo}
use Rattle.mod_parts.proofs.Bucketed.{first_in, none_put, section_found, segment_here, put_more}
use Rattle.mod_parts.proofs.gathering.sections_by_segment.Goals as goal

pub loop-i-init : goal.loop-i-init
loop-i-init c = c.in_ok-lists.ensures ∙ none_put c.args.p.now 1 c.args.count

pub put-requires : goal.put-requires
put-requires c =
    let here : IsSegmentTo c.args.count c.x-item.result =
    segment_here c.args.count c.args.p.now.sections c.as_slice-x-items.result.now c.loop-i.i c.x-item.result c.requires.in_tree c.as_slice-x-items.ensures c.loop-i-test.true c.x-item.is in
    omega (
      arith,
      here.first,
      here.last,
      ap length c.loop-i.invariant,
      length-map c.loop-i.lists.items (λ v. v.items),
      length-map-range_with_len (first_in c.args.p.now c.loop-i.i) 1 c.args.count,
    )

pub loop-i-preserved : goal.loop-i-preserved
loop-i-preserved c =
    let here : IsSegmentTo c.args.count c.x-item.result =
    segment_here c.args.count c.args.p.now.sections c.as_slice-x-items.result.now c.loop-i.i c.x-item.result c.requires.in_tree c.as_slice-x-items.ensures c.loop-i-test.true c.x-item.is in
    put_more c.args.p.now c.loop-i.i (c.loop-i.i + 1) c.args.count (c.x-item.result.segment - 1) c.x-item.result (map (λ v. v.items) c.loop-i.lists.items) (map (λ v. v.items) c.put.new.lists.items)
    refl (section_found c.args.p.now.sections c.as_slice-x-items.result.now c.loop-i.i c.x-item.result c.as_slice-x-items.ensures c.loop-i-test.true c.x-item.is)
    here.first here.last refl c.loop-i.invariant c.in_ok-put.ensures
