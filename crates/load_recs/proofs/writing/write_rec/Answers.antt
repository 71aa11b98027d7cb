use Rattle.load_recs.specs.Records.{record_of}
use Rattle.load_recs.proofs.RecordsAgain.{read_again}
use Rattle.load_recs.proofs.writing.write_rec.Goals as goal

pub returns-clause-read_back : goal.returns-clause-read_back
returns-clause-read_back c = read_again (record_of c.args.r.now) c.spell.result c.requires c.spell.ensures
