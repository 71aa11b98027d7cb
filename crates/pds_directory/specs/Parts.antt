-- Numbers, names and parts of an image.
use Rattle.std.specs.Prelude.{ℕ, ◌+◌, List, drop, slice_range, Bool}
use Rattle.std.specs.declared.cmp.Ordering.{Ordering}
use Rattle.std.specs.Ordering.{is_lt, nat_cmp}
use Rattle.std.specs.Cmp.Lexicographic.{slice_cmp}
use Rattle.byteorder.specs.Endian.{big_number}
use Rattle.le_bytes.specs.declared.name.Name.{Name}
use Rattle.pds_directory.specs.declared.entry.Span.{Span}

-- the number in the n bytes from a place
unfoldable pub number : ℕ → List ℕ → ℕ → ℕ
number n bytes at = big_number n (drop at bytes)

-- the name in the eight bytes from a place
abbrev pub name_at : List ℕ → ℕ → Name
name_at bytes at = record { 0 = slice_range bytes at (at + 8) }

-- the bytes of a part
abbrev pub part : List ℕ → Span → List ℕ
part image s = slice_range image s.at (s.at + s.len)

-- names are compared byte by byte
abbrev pub name_cmp : Name → Name → Ordering
name_cmp m n = slice_cmp nat_cmp m.0 n.0

-- names ascend as bytes
abbrev pub is_below : Name → Name → Bool
is_below m n = is_lt (name_cmp m n)
