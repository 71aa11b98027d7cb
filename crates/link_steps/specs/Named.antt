-- Statements whose edits have names.
use Rattle.std.specs.Prelude.{Option, All, IfSome}
use Rattle.le_bytes.specs.declared.name.Name.{Name}
use Rattle.sym_mod.specs.Sound.{HasName}
use Rattle.ctl_cards.specs.declared.statement.Statement.{Statement}
use Rattle.ctl_cards.specs.declared.statement.Statement.TheVariants as statement

-- the names of an item of REPLACE are not blank
abbrev pub IsReplaceNamed : Name × Option Name → Type 0
IsReplaceNamed r = HasName r.0 × IfSome r.1 HasName

-- nor are those of an item of CHANGE
abbrev pub IsChangeNamed : Name × Name → Type 0
IsChangeNamed r = HasName r.0 × HasName r.1

-- no edit that the statement asks for has a blank name
abbrev pub HasNamedEdits : Statement → Type 0
HasNamedEdits (statement.Replace items) = All IsReplaceNamed items
HasNamedEdits (statement.Change items) = All IsChangeNamed items
HasNamedEdits _ = Unit {0}
