use Rattle.std.proofs.Common.{◌∙◌, List, [], sym, ap, Option}
use Rattle.std.specs.Prelude.{slice_get, find}
use Rattle.std.specs.Option.{option_map_or}
use Rattle.pds_lib.specs.declared.table.Row.{Row}
use Rattle.pds_directory.specs.Parts.{part}
use Rattle.pds_lib.proofs.Members.{data_found, with_name}
use Rattle.pds_lib.proofs.library.Library.user_data.Goals as goal

pub returns-in-None : goal.returns-in-None
returns-in-None c =
    rw (← c.self.view_is)
    (sym (data_found c.self.inside.image.items c.self.inside.places.items c.self.inside.given.items c.self.inside.table c.args.e.now.name
    ∙ ap (λ (o : Option Row). option_map_or (λ (r : Row). part c.self.inside.image.items r.user_data) o []) (ap (find (with_name c.args.e.now.name)) (sym c.rows.ensures.rows) ∙ c.in-None.ensures.none)))

pub returns-in-Some : goal.returns-in-Some
returns-in-Some c =
    let told = λ (o : Option Row). option_map_or (λ (r : Row). part c.self.inside.image.items r.user_data) o [] in
    rw (← c.self.view_is)
    (c.data_at.ensures
    ∙ rw (c.as_slice.ensures.value)
    (ap told
    (ap (λ (rs : List Row). slice_get rs c.in-Some.k) c.rows-in-Some.ensures.rows
    ∙ ap (λ (rs : List Row). slice_get rs c.in-Some.k) (sym c.rows.ensures.rows) ∙ c.in-Some.ensures.found.1 ∙ ap (find (with_name c.args.e.now.name)) c.rows.ensures.rows))
    ∙ sym (data_found c.self.inside.image.items c.self.inside.places.items c.self.inside.given.items c.self.inside.table c.args.e.now.name))
