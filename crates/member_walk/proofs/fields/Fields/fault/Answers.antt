use Rattle.std.proofs.Common.{map}
use Rattle.member_walk.specs.Fields.{items_of}
use Rattle.member_walk.proofs.FieldLists.{fault_alone, fault_beside}
use Rattle.member_walk.proofs.fields.Fields.fault.Goals as goal

pub returns-in-Some : goal.returns-in-Some
returns-in-Some c =
    fault_alone c.args.symbols.now c.as_slice.result.now c.args.segment (items_of c.args.self.now) c.args.x.now c.item_fault.result c.in-Some.what
    c.as_slice.ensures c.item_fault.ensures c.in-Some.is

pub returns-in-None : goal.returns-in-None
returns-in-None c =
    fault_beside c.args.symbols.now c.as_slice.result.now c.args.segment (items_of c.args.self.now) c.args.x.now c.item_fault.result c.overlap_fault.result
    c.as_slice.ensures c.item_fault.ensures c.in-None.is c.overlap_fault.ensures
