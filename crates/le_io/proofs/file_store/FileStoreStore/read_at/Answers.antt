use Rattle.le_io.proofs.file_store.FileStoreStore.read_at.Goals as goal

pub returns-clause-cause : goal.returns-clause-cause
returns-clause-cause g c = c.note_read.ensures.cause c.args.path.now
