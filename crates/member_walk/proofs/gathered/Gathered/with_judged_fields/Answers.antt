use Rattle.std.proofs.Common.{◌≡◌, ◌++◌, None, Some, Err, map, true, false, sym, ap, subst, ◌∙◌}
use Rattle.std.specs.Option.{option_or}
use Rattle.le_bytes.specs.declared.record_what.RecWhat.TheVariants.{BadOrder}
use Rattle.load_recs.specs.Relocations.{rlds_of}
use Rattle.member_model.specs.Facts.{Facts, with_fields}
use Rattle.member_model.specs.Faults.{when, ends_wrongly, fields_fault}
use Rattle.member_checks.specs.Segments.{symbols_in}
use Rattle.member_walk.specs.Fields.{field_of, fields_in, items_of}
use Rattle.member_checks.specs.Kept.{Keeps}
use Rattle.member_walk.proofs.SegmentRecords.{fields_judged, fields_added, keeps_first}
use Rattle.member_walk.proofs.gathered.Gathered.with_judged_fields.Goals as goal

-- an item's fault stays the first
pub returns-in-Err : goal.returns-in-Err
returns-in-Err c =
    let same : c.args.self.fields ≡ map field_of c.self.inside.fields = sym (ap (λ F. F.fields) c.self.view_is) in
    subst (λ o. Keeps (option_or o (when (ends_wrongly c.args.e.now c.args.self c.args.ends) BadOrder)) (with_fields (rlds_of c.args.items.now) c.args.self) (Err c.in-Err.refused))
    (sym (fields_judged c.args.self c.self.inside.fields (rlds_of c.args.items.now) same))
    (keeps_first (fields_fault (symbols_in c.args.self.symbols c.args.self.segment) (items_of c.self.inside.fields) (rlds_of c.args.items.now)) (when (ends_wrongly c.args.e.now c.args.self c.args.ends) BadOrder)
    (c.self.inside.fields ++ fields_in c.self.inside.segment (rlds_of c.args.items.now)) (with_fields (rlds_of c.args.items.now) c.args.self) c.in-Err.refused
    (subst (λ F. Keeps (fields_fault (symbols_in F.symbols F.segment) (items_of c.self.inside.fields) (rlds_of c.args.items.now)) (c.self.inside.fields ++ fields_in c.self.inside.segment (rlds_of c.args.items.now)) (Err c.in-Err.refused)) c.self.view_is c.in-Err.ensures))

pub returns-then-ends_wrongly : goal.returns-then-ends_wrongly
returns-then-ends_wrongly c =
    let same : c.args.self.fields ≡ map field_of c.self.inside.fields = sym (ap (λ F. F.fields) c.self.view_is) in
    let good : fields_fault (symbols_in c.args.self.symbols c.args.self.segment) (items_of c.self.inside.fields) (rlds_of c.args.items.now) ≡ None =
    subst (λ F. fields_fault (symbols_in F.symbols F.segment) (items_of c.self.inside.fields) (rlds_of c.args.items.now) ≡ None) c.self.view_is c.in-Ok.ensures.0 in
    ap (λ o. option_or o (when (ends_wrongly c.args.e.now c.args.self c.args.ends) BadOrder)) (fields_judged c.args.self c.self.inside.fields (rlds_of c.args.items.now) same ∙ good)
    ∙ ap (λ t. option_or None (when t BadOrder)) (sym c.ends_wrongly-ends_wrongly.ensures ∙ c.if-ends_wrongly.true)

pub returns-else-ends_wrongly : goal.returns-else-ends_wrongly
returns-else-ends_wrongly c =
    let same : c.args.self.fields ≡ map field_of c.self.inside.fields = sym (ap (λ F. F.fields) c.self.view_is) in
    let good : fields_fault (symbols_in c.args.self.symbols c.args.self.segment) (items_of c.self.inside.fields) (rlds_of c.args.items.now) ≡ None =
    subst (λ F. fields_fault (symbols_in F.symbols F.segment) (items_of c.self.inside.fields) (rlds_of c.args.items.now) ≡ None) c.self.view_is c.in-Ok.ensures.0 in
    let more : c.in-Ok.fields ≡ c.self.inside.fields ++ fields_in c.args.self.segment (rlds_of c.args.items.now) =
    c.in-Ok.ensures.1 ∙ ap (λ F. c.self.inside.fields ++ fields_in F.segment (rlds_of c.args.items.now)) c.self.view_is in (
      ap (λ o. option_or o (when (ends_wrongly c.args.e.now c.args.self c.args.ends) BadOrder)) (fields_judged c.args.self c.self.inside.fields (rlds_of c.args.items.now) same ∙ good)
          ∙ ap (λ t. option_or None (when t BadOrder)) (sym c.ends_wrongly-ends_wrongly.ensures ∙ c.if-ends_wrongly.false),
      ap (λ (F : Facts). record F { fields = map field_of c.in-Ok.fields; stage = 4 }) c.self.view_is
          ∙ fields_added c.args.self c.self.inside.fields c.in-Ok.fields (rlds_of c.args.items.now) same more,
    )
