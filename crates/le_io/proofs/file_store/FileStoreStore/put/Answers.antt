use Rattle.le_io.proofs.file_store.FileStoreStore.put.Goals as goal

pub returns-clause-cause : goal.returns-clause-cause
returns-clause-cause g c = c.note_put.ensures.cause c.args.path.now
