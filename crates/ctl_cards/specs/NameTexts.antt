-- Names as they stand on a card.
use Rattle.std.specs.Prelude.{◌≡◌, ℕ, ◌==◌, Bool, true, not, List}
use Rattle.std.specs.List.{take_while}
use Rattle.le_bytes.specs.Codes.{ascii_of}
use Rattle.le_bytes.specs.Names.{may_begin_name, may_stand_in_name, is_writable}
use Rattle.le_bytes.specs.declared.name.Name.{Name}

-- the character with this code may begin a name
unfoldable pub begins_name : ℕ → Bool
begins_name b = may_begin_name (ascii_of b)

-- it may stand in a name
unfoldable pub stands_in_name : ℕ → Bool
stands_in_name b = may_stand_in_name (ascii_of b)

-- the characters of a name, without the blanks that fill it up
unfoldable pub written : Name → List ℕ
written n = take_while (λ b. not (b == 64)) n.0

-- some text gives the name
unfoldable pub IsWritable : Name → Type 0
IsWritable n = is_writable n ≡ true
