use Rattle.std.proofs.Common.{rules, ◌≡◌}
use Rattle.text_store.specs.Rewriting.{whole_rewrites}
use Rattle.text_store.proofs.whole.WholeTextTextKeeper.set.Goals as goal

pub returns-clause-ok : goal.returns-clause-ok
returns-clause-ok c =
    let copied : c.copy_from_slice.new.self ≡ c.args.bytes.now = search rules in
    rw (copied, c.places-places.ensures.start) (whole_rewrites c.args.self.now c.args.sec c.args.at c.args.bytes.now c.requires.inside)
