use Rattle.std.proofs.Common.{◌∙◌, ℕ, List, sym, ap, subst}
use Rattle.std.specs.Prelude.{option_map, find}
use Rattle.pds_lib.specs.declared.table.Row.{Row}
use Rattle.pds_lib.specs.Forms.{AreShort}
use Rattle.pds_lib.proofs.Short.{found_short}
use Rattle.pds_lib.proofs.Members.{records_found, records_stored, none_stored, with_name}
use Rattle.pds_lib.proofs.library.Library.records.Goals as goal

pub returns-in-None : goal.returns-in-None
returns-in-None c =
    rw (← c.self.view_is)
    (c.new.ensures
    ∙ none_stored c.self.inside.image.items c.self.inside.places.items c.self.inside.given.items (find (with_name c.args.e.now.name) c.self.inside.table)
    (c.in-None.ensures ∙ ap (λ (rs : List Row). option_map (λ (r : Row). r.store) (find (with_name c.args.e.now.name) rs)) c.rows.ensures.rows)
    ∙ sym (records_found c.self.inside.image.items c.self.inside.places.items c.self.inside.given.items c.self.inside.table c.args.e.now.name))

pub returns-in-Some : goal.returns-in-Some
returns-in-Some c =
    rw (← c.self.view_is)
    (c.lend.ensures
    ∙ rw (c.as_slice.ensures.value, c.as_slice-in-Some.ensures.value, c.as_slice-in-Some-2.ensures.value)
    (records_stored c.self.inside.image.items c.self.inside.places.items c.self.inside.given.items c.in-Some.store (find (with_name c.args.e.now.name) c.self.inside.table)
    (c.in-Some.ensures ∙ ap (λ (rs : List Row). option_map (λ (r : Row). r.store) (find (with_name c.args.e.now.name) rs)) c.rows.ensures.rows)
    ∙ sym (records_found c.self.inside.image.items c.self.inside.places.items c.self.inside.given.items c.self.inside.table c.args.e.now.name)))

pub lend-requires-clause-short : goal.lend-requires-clause-short
lend-requires-clause-short c =
    subst (λ (rs : List (List ℕ)). AreShort rs)
    (records_found c.self.inside.image.items c.self.inside.places.items c.self.inside.given.items c.self.inside.table c.args.e.now.name
    ∙ sym (rw (c.as_slice.ensures.value, c.as_slice-in-Some.ensures.value, c.as_slice-in-Some-2.ensures.value)
    (records_stored c.self.inside.image.items c.self.inside.places.items c.self.inside.given.items c.in-Some.store (find (with_name c.args.e.now.name) c.self.inside.table)
    (c.in-Some.ensures ∙ ap (λ (rs : List Row). option_map (λ (r : Row). r.store) (find (with_name c.args.e.now.name) rs)) c.rows.ensures.rows))))
    (found_short _ c.args.e.now.name c.self.invariant.3)
