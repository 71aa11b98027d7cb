use Rattle.std.proofs.Common.{rules, ◌≡◌, ◌+◌, length, ap, ◌∙◌, slice_range}
use Rattle.text_store.specs.Rewriting.{read_there}
use Rattle.text_store.proofs.whole.WholeTextTextKeeper.read.Goals as goal

pub returns : goal.returns
returns c =
    let copied : c.copy_from_slice.new.self ≡ slice_range c.args.self.now.bytes.items c.places-places.result.start c.places-places.result.end = search rules in
    copied
    ∙ (ap (slice_range c.args.self.now.bytes.items c.places-places.result.start) c.places-places.ensures.end
    ∙ (ap (λ s. slice_range c.args.self.now.bytes.items s (s + length c.args.out.now)) c.places-places.ensures.start
    ∙ read_there c.args.self.now c.args.sec c.args.at (length c.args.out.now) c.requires.inside))
