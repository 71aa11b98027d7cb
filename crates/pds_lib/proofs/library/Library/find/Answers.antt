use Rattle.std.proofs.Common.{◌∙◌, List, sym, ap}
use Rattle.std.specs.Prelude.{slice_get, option_map, find}
use Rattle.pds_directory.specs.declared.entry.Entry.{Entry}
use Rattle.pds_lib.specs.declared.table.Row.{Row}
use Rattle.pds_lib.proofs.Members.{entry_found, slice_get-map, with_name}
use Rattle.pds_lib.proofs.library.Library.find.Goals as goal

pub returns-in-None : goal.returns-in-None
returns-in-None c =
    rw (← c.self.view_is)
    (sym (entry_found c.self.inside.image.items c.self.inside.places.items c.self.inside.given.items c.self.inside.table c.args.n.now
    ∙ ap (option_map (λ (r : Row). r.entry)) (ap (find (with_name c.args.n.now)) (sym c.rows.ensures.rows) ∙ c.in-None.ensures.none)))

pub returns-in-Some : goal.returns-in-Some
returns-in-Some c =
    rw (← c.self.view_is)
    (c.entry_at.ensures
    ∙ ap (λ (es : List Entry). slice_get es c.in-Some.k) c.entries.ensures
    ∙ slice_get-map (λ (r : Row). r.entry) c.self.inside.table c.in-Some.k
    ∙ ap (option_map (λ (r : Row). r.entry))
    (ap (λ (rs : List Row). slice_get rs c.in-Some.k) (sym c.rows.ensures.rows) ∙ c.in-Some.ensures.found.1 ∙ ap (find (with_name c.args.n.now)) c.rows.ensures.rows)
    ∙ sym (entry_found c.self.inside.image.items c.self.inside.places.items c.self.inside.given.items c.self.inside.table c.args.n.now))
