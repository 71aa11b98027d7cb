use Rattle.le_io.proofs.memory_store.MemStoreStore.read_at.Goals as goal

pub returns-clause-cause : goal.returns-clause-cause
returns-clause-cause c = c.note_read.ensures.cause c.args.path.now
