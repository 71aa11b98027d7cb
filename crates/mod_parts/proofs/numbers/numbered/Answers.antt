use Rattle.std.proofs.Common.{◌≡◌, ◌<◌, ◌+◌, ◌-◌, arith, ◌∙◌, ap, length, map, take, sym}
use Rattle.std.proofs.lemmas.List.{take_all, length-replicate}
use Rattle.member_model.specs.Cuts.{together}
use Rattle.mod_parts.specs.Seen.{seen, IsAmong}
use Rattle.mod_parts.specs.Numbers.{number_in, number_among}
use Rattle.mod_parts.proofs.Numbered.{zero_number, none_after, among_same, count_more, front_within, all_here, segment_more}
use Rattle.mod_parts.proofs.numbers.numbered.Goals as goal

pub loop-segment-init : goal.loop-segment-init
loop-segment-init c = record {
  before = c.count_parts-before.ensures ∙ ap (λ l. length (together l)) (sym (take_all (length c.args.segments.now) c.args.segments.now (omega arith)));
  sections = ap length c.in_ok-numbers.ensures.of_sections ∙ length-replicate c.args.sections 0;
  tables = ap length c.in_ok-numbers.ensures.of_tables ∙ length-replicate c.args.tables 0;
  numbers = λ x among.
      zero_number c.in_ok-numbers.numbers c.args.sections c.args.tables x c.in_ok-numbers.ensures among
      ∙ none_after c.count_parts-before.result (length c.args.segments.now) c.args.segments.now x (omega arith);
}

pub number_parts-requires-clause-few : goal.number_parts-requires-clause-few
number_parts-requires-clause-few c =
    let low : c.loop-segment.segment - 1 < length c.args.segments.now = omega arith in
    omega (
      arith,
      count_more c.args.segments.now (c.loop-segment.segment - 1) c.loop-segment.segment c.index-segments-segment.result low c.index-segments-segment.is (omega arith),
      front_within c.args.segments.now c.loop-segment.segment,
      c.loop-segment.invariant.before,
      c.requires.few,
      ap length c.as_slice-parts.ensures,
    )

pub number_parts-requires-clause-among : goal.number_parts-requires-clause-among
number_parts-requires-clause-among c =
    let low : c.loop-segment.segment - 1 < length c.args.segments.now = omega arith in
    rw (c.as_slice-parts.ensures, c.loop-segment.invariant.sections, c.loop-segment.invariant.tables)
    (all_here (λ x. IsAmong c.args.sections c.args.tables (seen x)) c.args.segments.now (c.loop-segment.segment - 1) c.index-segments-segment.result c.requires.among low c.index-segments-segment.is)

pub loop-segment-preserved : goal.loop-segment-preserved
loop-segment-preserved c =
    let low : c.loop-segment.segment - 1 < length c.args.segments.now = omega arith in
    let more : length (together (take c.loop-segment.segment c.args.segments.now)) ≡ length (together (take (c.loop-segment.segment - 1) c.args.segments.now)) + length c.index-segments-segment.result =
    count_more c.args.segments.now (c.loop-segment.segment - 1) c.loop-segment.segment c.index-segments-segment.result low c.index-segments-segment.is (omega arith) in
    record {
      before = omega (arith, more, c.loop-segment.invariant.before, ap length c.as_slice-parts.ensures);
      sections = c.number_parts.ensures.sections ∙ c.loop-segment.invariant.sections;
      tables = c.number_parts.ensures.tables ∙ c.loop-segment.invariant.tables;
      numbers = λ x among.
          segment_more (c.loop-segment.before - length c.as_slice-parts.result.now) c.loop-segment.before (c.loop-segment.segment - 1) c.loop-segment.segment c.args.segments.now c.index-segments-segment.result x
          (number_in c.loop-segment.numbers x) (number_in c.number_parts.new.numbers x) low c.index-segments-segment.is (omega arith) (omega (arith, more, c.loop-segment.invariant.before, ap length c.as_slice-parts.ensures))
          (c.loop-segment.invariant.numbers x among)
          (c.number_parts.ensures.numbers x (among_same _ _ _ _ x c.loop-segment.invariant.sections c.loop-segment.invariant.tables among)
          ∙ ap (λ l. number_among (c.loop-segment.before - length c.as_slice-parts.result.now) (map seen l) x (number_in c.loop-segment.numbers x)) c.as_slice-parts.ensures);
    }
