use Rattle.std.proofs.Common.{◌-◌, min, get_or, ap, ◌∙◌}
use Rattle.member_model.specs.ReadBack.{new_number}
use Rattle.mod_read.specs.Numbering.{counts_of}
use Rattle.mod_read.proofs.Counts.{count_is, least_within}
use Rattle.mod_read.proofs.numbering.Numbering.number.Goals as goal

pub index-requires : goal.index-requires
index-requires c =
    least_within c.self.inside.symbols.items c.self.inside.counts.items (c.args.n - 1) c.min-before.result _
    (c.min-before.ensures ∙ ap (λ m. min m c.len.result) c.saturating_sub.ensures ∙ ap (λ m. min (c.args.n - 1) m) (c.len.ensures ∙ c.self.inside.symbols.ok.0)) c.self.invariant c.self.inside.counts.ok.0

pub returns : goal.returns
returns c =
    c.index.ensures ∙ ap (λ xs. get_or xs c.min-before.result c.index.result.now) c.self.invariant
    ∙ ap (λ m. get_or (counts_of c.self.inside.symbols.items) m c.index.result.now)
    (c.min-before.ensures ∙ ap (λ m. min m c.len.result) c.saturating_sub.ensures ∙ ap (λ m. min (c.args.n - 1) m) (c.len.ensures ∙ c.self.inside.symbols.ok.0))
    ∙ count_is c.self.inside.symbols.items c.args.n c.index.result.now
    ∙ ap (λ xs. new_number xs c.args.n) c.self.view_is
