use Rattle.std.proofs.Common.{◌≡◌, ◌++◌, map}
use Rattle.load_recs.specs.RldItems.{items_left}
use Rattle.load_recs.specs.Relocations.{rlds_of}
use Rattle.member_model.specs.Faults.{fields_fault}
use Rattle.member_checks.specs.Segments.{symbols_in}
use Rattle.member_walk.specs.Fields.{items_of, fields_in}
use Rattle.member_walk.proofs.fields.Fields.with_items.Given as goal

abbrev pub invariant-loop-x : goal.invariant-loop-x
invariant-loop-x l = record {
  faults : fields_fault (symbols_in l.symbols l.segment) (items_of l.fields) (items_left l.x-iterator) ≡ fields_fault (symbols_in l.symbols l.segment) (items_of l.fn.self) (rlds_of l.items);
  values : l.fields ++ fields_in l.segment (items_left l.x-iterator) ≡ l.fn.self ++ fields_in l.segment (rlds_of l.items);
}
