use Rattle.std.proofs.Common.{arith, ◌≡◌, ◌≤◌, ◌+◌, ◌*◌, ◌-◌, ◌∙◌, ap, length, slice_index, position, unwrap_or}
use Rattle.linking_model.specs.Tables.{target_eq, holder}
use Rattle.relocate.specs.Listed.{table_of}
use Rattle.relocate.specs.Ready.{laid}
use Rattle.relocate.proofs.Bounds.{small_number, few_entries, place_within}
use Rattle.relocate.proofs.Held.{listing_is_holder}
use Rattle.relocate.proofs.branches.entry_address.Goals as goal

pub overflow_add-result-2 : goal.overflow_add-result-2
overflow_add-result-2 c =
    let table : c.table_at.result ≤ 16777215 = rw c.table_at.ensures (small_number c.args.a.now.tables (c.unwrap_or-holder.result - 1) c.requires.fit.tables) in
    let few : length c.entries_of.result.now ≤ 340 = rw c.entries_of.ensures (few_entries c.args.t.now.entries c.unwrap_or-holder.result c.requires.fit.few) in
    let entry : c.unwrap_or-entry.result ≤ length c.entries_of.result.now =
    rw (c.unwrap_or-entry.ensures, c.place_in.ensures) (place_within (target_eq c.args.target) c.entries_of.result.now) in
    omega (arith, table, few, entry)

pub returns : goal.returns
returns c =
    let b : c.unwrap_or-holder.result ≡ unwrap_or (holder c.args.p.now c.args.tree.now.tree c.args.segment c.args.target) 0 =
    c.unwrap_or-holder.ensures
    ∙ (ap (λ o. unwrap_or o 0) c.holder.ensures
    ∙ ap (λ o. unwrap_or o 0) (listing_is_holder (laid c.args.p.now c.args.tree.now c.args.t.now) c.args.segment c.args.target
    c.requires.fit.tree c.requires.fit.entries c.requires.first c.requires.last c.requires.symbol)) in
    let entry : c.unwrap_or-entry.result ≡ unwrap_or (position (target_eq c.args.target) (table_of c.args.t.now.entries c.unwrap_or-holder.result)) 0 =
    c.unwrap_or-entry.ensures ∙ ap (λ o. unwrap_or o 0) (c.place_in.ensures ∙ ap (position (target_eq c.args.target)) c.entries_of.ensures) in
    rw (c.table_at.ensures, entry)
    (ap (λ h. slice_index c.args.a.now.tables (h - 1) + 8 + 12 * unwrap_or (position (target_eq c.args.target) (table_of c.args.t.now.entries h)) 0) b)
