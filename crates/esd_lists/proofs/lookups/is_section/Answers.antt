use Rattle.std.proofs.Common.{Some, None, sym, ◌∙◌}
use Rattle.esd_index.specs.Keys.{as_symbol}
use Rattle.esd_lists.proofs.Places.{placed_among}
use Rattle.esd_lists.proofs.lookups.is_section.Goals as goal

pub returns-in-Some : goal.returns-in-Some
returns-in-Some c = placed_among c.args.index.now.table.sections.all (as_symbol c.args.key.now) (Some c.in-Some.place) (sym c.in-Some.is ∙ c.section_place.ensures.place)

pub returns-in-None : goal.returns-in-None
returns-in-None c = placed_among c.args.index.now.table.sections.all (as_symbol c.args.key.now) None (sym c.in-None.is ∙ c.section_place.ensures.place)
