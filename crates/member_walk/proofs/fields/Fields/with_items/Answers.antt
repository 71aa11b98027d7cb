use Rattle.std.proofs.Common.{sym, ◌∙◌}
use Rattle.member_checks.specs.Segments.{symbols_in}
use Rattle.member_walk.specs.Fields.{items_of}
use Rattle.member_walk.proofs.FieldLists.{no_overlap}
use Rattle.member_walk.proofs.fields.Fields.with_items.Goals as goal

pub with-requires : goal.with-requires
with-requires c =
    no_overlap (symbols_in c.args.symbols.now c.args.segment) (items_of c.loop-x.fields) c.in-Some.x (sym c.fault.ensures ∙ c.in-None-fault.is)
