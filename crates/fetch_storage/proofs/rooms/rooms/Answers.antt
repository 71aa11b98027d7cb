use Rattle.fetch_storage.proofs.rooms.rooms.Goals as goal

pub returns-in-Scattered : goal.returns-in-Scattered
returns-in-Scattered c = rw c.in-Scattered.is c.section_rooms.ensures
