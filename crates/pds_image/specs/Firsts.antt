-- Where members begin, noted entry by entry.
use Rattle.std.specs.Prelude.{ℕ, if◌then◌else◌, Option, Some, None}
use Rattle.le_bytes.specs.declared.name.Name.{Name}
use Rattle.pds_directory.specs.declared.entry.Entry.{Entry}
use Rattle.pds_image.specs.Image.{is_main}

-- what is known of a name, with an entry more that begins with record k
unfoldable pub first_with : Option ℕ → Entry → ℕ → Name → Option ℕ
first_with (Some j) e k n = Some j
first_with None e k n = if is_main n e then Some k else None
