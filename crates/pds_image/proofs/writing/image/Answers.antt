use Rattle.std.proofs.Common.{◌≡◌, ◌∙◌, ap, rules}
use Rattle.pds_lib.specs.Grammar.{library_of}
use Rattle.pds_image.specs.Image.{written}
use Rattle.pds_image.proofs.WholeAgain.{written_again}
use Rattle.pds_image.proofs.Capped.{records_few}
use Rattle.pds_image.proofs.writing.image.Goals as goal

pub first_records-requires : goal.first_records-requires
first_records-requires c = records_few c.args.library.now 67108864 c.requires

pub put_header-requires-clause-records : goal.put_header-requires-clause-records
put_header-requires-clause-records c = records_few c.args.library.now 67108864 c.requires

pub returns-clause-again : goal.returns-clause-again
returns-clause-again c =
    let spelled : c.put_bodies.new.out.items ≡ written c.args.library.now = search rules in
    ap library_of spelled ∙ written_again c.args.library.now c.is_sound.ensures c.requires
