use Rattle.std.proofs.Common.{map}
use Rattle.std.specs.List.{flat_map}
use Rattle.list_text.specs.Statements.{include_text, replace_text, segment_texts, alias_text}
use Rattle.list_text.specs.Forms.{spelled}
use Rattle.list_text.proofs.Joining.{all_pushed}
use Rattle.list_text.proofs.statements.push_all.Goals as goal

pub returns : goal.returns
returns c =
    all_pushed (spelled c.args.form) c.args.out.now.items _ _ _ _ (include_text c.args.s.now.member) (replace_text c.args.s.now.member)
    (flat_map segment_texts c.args.s.now.segments) (map alias_text c.args.s.now.aliases)
    c.in_ok-push_statement.ensures (rw c.as_slice.ensures at c.in_ok-push_segments.ensures) (rw c.as_slice-2.ensures at c.in_ok-push_aliases.ensures) c.in_ok-push_statement-2.ensures
