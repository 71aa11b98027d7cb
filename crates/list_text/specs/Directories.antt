-- The directory of a library, a line for each entry (this project's profile).
use Rattle.std.specs.Prelude.{ℕ, if◌then◌else◌, List, [], ◌∷◌, codes}
use Rattle.le_bytes.specs.declared.name.Name.{Name}
use Rattle.map_list.specs.Printed.{printed_name, line}
use Rattle.pds_directory.specs.declared.entry.Entry.{Entry}

unfoldable pub member_line : Name → List ℕ
member_line name = line (codes "MEMBER") (printed_name name ∷ [])

-- another name of a member
unfoldable pub alias_line : Name → Name → List ℕ
alias_line name main = line (codes "ALIAS") (printed_name name ∷ codes "OF" ∷ printed_name main ∷ [])

abbrev pub entry_line : Entry → List ℕ
entry_line entry = if entry.alias then alias_line entry.name entry.main else member_line entry.name
