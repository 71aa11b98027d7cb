use Rattle.std.proofs.Common.{List, ℕ, All, sym, subst, ◌∙◌}
use Rattle.mod_segments.specs.Records.{IsStored}
use Rattle.mod_write.proofs.Member.{written_whole, stored_whole}
use Rattle.mod_write.proofs.records.records.Goals as goal

pub returns-clause-value : goal.returns-clause-value
returns-clause-value g c =
    let first : List (List ℕ) = c.into_vec-records.result.items in
    let notes : List (List ℕ) = c.into_vec-notes.result.items in
    let segs : List (List (List ℕ)) = c.in_ok-segments.segments.items in
    written_whole c.args.from.now.list.now c.args.fmt.scatter c.args.fmt.overlay c.args.from.now.piece c.len.result first notes c.append.new.self.items c.from_vec.result segs
    (c.into_vec-records.ensures ∙ c.in_ok-head_records.ensures.records) (c.len.ensures ∙ c.into_vec-records.result.ok.0) c.requires.overlay
    (c.into_vec-notes.ensures ∙ c.in_ok-notes.ensures.value) c.in_ok-segments.ensures.value
    c.in_ok-append.ensures.items (c.from_vec.ensures ∙ c.in_ok-append_each.ensures)

pub returns-clause-sizes : goal.returns-clause-sizes
returns-clause-sizes g c =
    let first : List (List ℕ) = c.into_vec-records.result.items in
    let notes : List (List ℕ) = c.into_vec-notes.result.items in
    let segs : List (List (List ℕ)) = c.in_ok-segments.segments.items in
    stored_whole first notes c.append.new.self.items c.from_vec.result segs
    (subst (All IsStored) (sym c.into_vec-records.ensures) c.in_ok-head_records.ensures.sizes)
    (subst (All IsStored) (sym c.into_vec-notes.ensures) c.in_ok-notes.ensures.sizes) c.in_ok-segments.ensures.sizes
    c.in_ok-append.ensures.items (c.from_vec.ensures ∙ c.in_ok-append_each.ensures)
