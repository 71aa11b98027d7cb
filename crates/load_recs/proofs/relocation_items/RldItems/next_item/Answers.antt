use Rattle.load_recs.proofs.Walking.{steps_by}
use Rattle.load_recs.proofs.relocation_items.RldItems.next_item.Goals as goal

pub returns : goal.returns
returns c = rw c.kept_by-self.ensures (steps_by c.args.self.now.kept c.args.self.now.rest.now _ c.in_ok-item.ensures)
