-- The nine operations, and the text of each.
use Rattle.std.specs.Prelude.{ℕ, Bool, if◌then◌else◌, List, [], ◌∷◌, map, Option, Some, None, unwrap_or, codes}
use Rattle.std.specs.Str.{bytes_eq}
use Rattle.le_bytes.specs.Codes.{ebcdic_of}
use Rattle.ctl_cards.specs.declared.operation.Operation.{Operation}
use Rattle.ctl_cards.specs.declared.operation.Operation.TheVariants.{Include, Library, Replace, Change, Entry, Alias, NameOf, Insert, Overlay}
use Rattle.ctl_cards.specs.declared.statement.Statement.{Statement}
use Rattle.ctl_cards.specs.declared.statement.Statement.TheVariants as statement

abbrev pub in_ebcdic : List ℕ → List ℕ
in_ebcdic text = map (λ c. unwrap_or (ebcdic_of c) 64) text

abbrev pub operation_text : Operation → List ℕ
operation_text Include = in_ebcdic (codes "INCLUDE")
operation_text Library = in_ebcdic (codes "LIBRARY")
operation_text Replace = in_ebcdic (codes "REPLACE")
operation_text Change = in_ebcdic (codes "CHANGE")
operation_text Entry = in_ebcdic (codes "ENTRY")
operation_text Alias = in_ebcdic (codes "ALIAS")
operation_text NameOf = in_ebcdic (codes "NAME")
operation_text Insert = in_ebcdic (codes "INSERT")
operation_text Overlay = in_ebcdic (codes "OVERLAY")

abbrev pub operation_of : Statement → Operation
operation_of (statement.Include xs) = Include
operation_of (statement.Library xs) = Library
operation_of (statement.Replace xs) = Replace
operation_of (statement.Change xs) = Change
operation_of (statement.Entry n) = Entry
operation_of (statement.Alias ns) = Alias
operation_of (statement.NameOf n replace) = NameOf
operation_of (statement.Insert ns) = Insert
operation_of (statement.Overlay n region) = Overlay

-- the operation with this text
abbrev pub operation_named : List ℕ → Option Operation
operation_named text =
    if bytes_eq text (operation_text Include) then Some Include
    else if bytes_eq text (operation_text Library) then Some Library
    else if bytes_eq text (operation_text Replace) then Some Replace
    else if bytes_eq text (operation_text Change) then Some Change
    else if bytes_eq text (operation_text Entry) then Some Entry
    else if bytes_eq text (operation_text Alias) then Some Alias
    else if bytes_eq text (operation_text NameOf) then Some NameOf
    else if bytes_eq text (operation_text Insert) then Some Insert
    else if bytes_eq text (operation_text Overlay) then Some Overlay
    else None
