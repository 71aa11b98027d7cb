use Rattle.pds_image.proofs.Capped.{image_counted}
use Rattle.pds_image.proofs.length.image_length.Goals as goal

pub returns : goal.returns
returns c = image_counted c.args.library.now c.directory_length.result c.bodies_length.result c.add.result c.add-2.result c.directory_length.ensures c.bodies_length.ensures c.add.ensures c.add-2.ensures
