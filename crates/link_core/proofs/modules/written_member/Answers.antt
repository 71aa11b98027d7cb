use Rattle.text_store.specs.Whole.{content_of}
use Rattle.link_core.proofs.Placed.{one_tree, ready}
use Rattle.link_core.proofs.modules.written_member.Goals as goal

pub linked_text-requires-clause-one : goal.linked_text-requires-clause-one
linked_text-requires-clause-one c = one_tree c.args.linked.now c.requires.linked

pub write_member-requires-clause-linked : goal.write_member-requires-clause-linked
write_member-requires-clause-linked c = ready c.args.linked.now (content_of c.in_ok-text.text) c.requires.linked c.in_ok-text.ensures
