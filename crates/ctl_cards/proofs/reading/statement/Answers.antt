-- The items that were read are those of the statement.
use Rattle.ctl_cards.proofs.Faults.{is_include, is_library, is_replace, is_change, is_alias, is_insert, is_name, is_overlay}
use Rattle.ctl_cards.proofs.reading.statement.Goals as goal

pub returns-in_ok-items-in-Include : goal.returns-in_ok-items-in-Include
returns-in_ok-items-in-Include c = rw c.in-Include.is (is_include c.args.operand.now.rest.now c.in_ok-items-in-Include.field-0 c.in_ok-items-in-Include.ensures)

pub returns-in_ok-items-in-Library : goal.returns-in_ok-items-in-Library
returns-in_ok-items-in-Library c = rw c.in-Library.is (is_library c.args.operand.now.rest.now c.in_ok-items-in-Library.field-0 c.in_ok-items-in-Library.ensures)

pub returns-in_ok-items-in-Replace : goal.returns-in_ok-items-in-Replace
returns-in_ok-items-in-Replace c = rw c.in-Replace.is (is_replace c.args.operand.now.rest.now c.in_ok-items-in-Replace.field-0 c.in_ok-items-in-Replace.ensures)

pub returns-in_ok-items-in-Change : goal.returns-in_ok-items-in-Change
returns-in_ok-items-in-Change c = rw c.in-Change.is (is_change c.args.operand.now.rest.now c.in_ok-items-in-Change.field-0 c.in_ok-items-in-Change.ensures)

pub returns-in_ok-items-in-Alias : goal.returns-in_ok-items-in-Alias
returns-in_ok-items-in-Alias c = rw c.in-Alias.is (is_alias c.args.operand.now.rest.now c.in_ok-items-in-Alias.field-0 c.in_ok-items-in-Alias.ensures)

pub returns-in_ok-items-in-Insert : goal.returns-in_ok-items-in-Insert
returns-in_ok-items-in-Insert c = rw c.in-Insert.is (is_insert c.args.operand.now.rest.now c.in_ok-items-in-Insert.field-0 c.in_ok-items-in-Insert.ensures)

pub returns-in_ok-marked-in-NameOf : goal.returns-in_ok-marked-in-NameOf
returns-in_ok-marked-in-NameOf c = let m = c.in_ok-marked-in-NameOf.marked in rw c.in-NameOf.is (is_name c.args.operand.now.rest.now m.0 m.1 c.in_ok-marked-in-NameOf.ensures)

pub returns-in_ok-marked-in-Overlay : goal.returns-in_ok-marked-in-Overlay
returns-in_ok-marked-in-Overlay c = let m = c.in_ok-marked-in-Overlay.marked in rw c.in-Overlay.is (is_overlay c.args.operand.now.rest.now m.0 m.1 c.in_ok-marked-in-Overlay.ensures)
