use Rattle.std.proofs.Common.{length}
use Rattle.linking_model.specs.Places.{size}
use Rattle.addr_assign.specs.Reach.{laid}
use Rattle.addr_assign.proofs.Assigned.{long_is, origins_read, ends_read}
use Rattle.addr_assign.proofs.assigning.spans.Goals as goal

pub origins-requires-clause-few : goal.origins-requires-clause-few
origins-requires-clause-few c =
    long_is (size (laid c.args.p.now c.args.t.now.tree c.args.tables.now.entries)) (length c.args.t.now.tree) c.in_ok-sizes.sizes.items c.deref.result.now c.deref.ensures.value c.in_ok-sizes.ensures.value

pub returns-clause-origins : goal.returns-clause-origins
returns-clause-origins c =
    origins_read (laid c.args.p.now c.args.t.now.tree c.args.tables.now.entries) c.in_ok-sizes.sizes.items c.deref.result.now c.in_ok-origins.origins.items c.deref.ensures.value c.in_ok-sizes.ensures.value c.in_ok-origins.ensures.value

pub returns-clause-ends : goal.returns-clause-ends
returns-clause-ends c =
    ends_read (laid c.args.p.now c.args.t.now.tree c.args.tables.now.entries) c.in_ok-sizes.sizes.items c.deref-3.result.now c.in_ok-origins.origins.items c.deref-2.result.now c.in_ok-ends.ends.items c.deref-3.ensures.value c.deref-2.ensures.value c.in_ok-sizes.ensures.value
    (origins_read (laid c.args.p.now c.args.t.now.tree c.args.tables.now.entries) c.in_ok-sizes.sizes.items c.deref.result.now c.in_ok-origins.origins.items c.deref.ensures.value c.in_ok-sizes.ensures.value c.in_ok-origins.ensures.value)
    c.in_ok-ends.ensures
