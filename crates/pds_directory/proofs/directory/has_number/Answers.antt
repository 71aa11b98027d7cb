use Rattle.pds_directory.proofs.Halving.{number_found}
use Rattle.pds_directory.proofs.directory.has_number.Goals as goal

pub returns : goal.returns
returns c = number_found c.args.numbers.now c.args.k c.number_place.result c.number_stands.result c.requires c.number_place.ensures.value c.number_stands.ensures
