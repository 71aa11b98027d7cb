use Rattle.le_io.proofs.memory_store.MemStoreStore.put.Goals as goal

pub returns-clause-cause : goal.returns-clause-cause
returns-clause-cause c = c.note_put.ensures.cause c.args.path.now
