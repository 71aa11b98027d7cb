-- The records behind the directory, one after the other, with the first fault.
use Rattle.std.specs.Prelude.{ℕ, zero, suc, ◌+◌, Bool, true, not, ◌&&◌, ◌||◌, ◌==◌, nat_lt, nat_le, if◌then◌else◌, List, [], ◌∷◌, ◌++◌, length, Option, Some, None, Result, Ok, Err}
use Rattle.std.specs.List.{prefix_len}
use Rattle.le_bytes.specs.declared.library_fault.LibFault.{LibFault}
use Rattle.le_bytes.specs.declared.library_fault.LibFault.TheVariants.{BadRecord}
use Rattle.pds_directory.specs.declared.kinds.LibKind.{LibKind}
use Rattle.pds_directory.specs.declared.kinds.LibKind.TheVariants.{Cards, Modules}
use Rattle.pds_directory.specs.declared.kinds.Version.{Version}
use Rattle.pds_directory.specs.declared.kinds.Version.TheVariants.{One, Two}
use Rattle.pds_directory.specs.declared.entry.Span.{Span}
use Rattle.pds_directory.specs.declared.header.Head.{Head}
use Rattle.pds_directory.specs.Parts.{number}
use Rattle.pds_directory.specs.Header.{directory_end}

-- the bytes that hold the length of a record
abbrev pub width : Version → ℕ
width One = 2
width Two = 4

-- the record whose length stands at a place, none where it passes the end
unfoldable pub record_at : Version → List ℕ → ℕ → Option Span
record_at v image at =
    if nat_lt (length image) (at + width v) then None
    else if nat_lt (length image) (at + width v + number (width v) image at) then None
    else Some (record { at = at + width v; len = number (width v) image at })

-- a record of a library of cards is one card or an end
abbrev pub has_length : LibKind → ℕ → Bool
has_length Cards n = n == 0 || n == 80
has_length Modules n = true

-- the last record of a library is an end
abbrev pub may_stand : LibKind → ℕ → Span → Bool
may_stand kind left s = has_length kind s.len && (not (left == 0) || s.len == 0)

-- a record, if there is one and it may stand there
abbrev pub standing : LibKind → ℕ → Option Span → Option Span
standing kind left None = None
standing kind left (Some s) = if may_stand kind left s then Some s else None

-- the record at a place, with so many left behind it; none where it is wrong
abbrev pub next_record : Head → List ℕ → ℕ → ℕ → Option Span
next_record h image left at = standing h.kind left (record_at h.version image at)

-- what follows a record, or the fault where there is none
abbrev pub after_record : Option Span → Result (List Span) LibFault → (Span → Result (List Span) LibFault) → Result (List Span) LibFault
after_record None bad next = bad
after_record (Some s) bad next = next s

-- the records with those that are left, of which the first is record k, at this place
unfoldable pub records_from : ℕ → Head → List ℕ → ℕ → ℕ → List Span → Result (List Span) LibFault
records_from zero h image k at done = if length image == at then Ok done else Err (BadRecord k)
records_from (suc left) h image k at done =
    after_record (next_record h image left at) (Err (BadRecord k))
    (λ s. records_from left h image (k + 1) (s.at + s.len) (done ++ s ∷ []))

-- the records of an image, or the first fault
abbrev pub records_of : Head → List ℕ → Result (List Span) LibFault
records_of h image = records_from h.records h image 1 (directory_end h.blocks) []

-- the number of a record of length zero
abbrev pub end_at : ℕ → Span → List ℕ
end_at k s = if s.len == 0 then k ∷ [] else []

-- the numbers of the records of length zero
unfoldable pub ends_from : ℕ → List Span → List ℕ
ends_from k [] = []
ends_from k (s ∷ ss) = end_at k s ++ ends_from (k + 1) ss

-- the same of all records, from number 1
abbrev pub ends_of : List Span → List ℕ
ends_of ss = ends_from 1 ss

-- each number is at least the first and above the one before
abbrev pub rises_from : ℕ → List ℕ → Bool
rises_from low [] = true
rises_from low (e ∷ es) = nat_le low e && rises_from (e + 1) es

-- each number is above the one before
abbrev pub rises : List ℕ → Bool
rises es = rises_from 0 es

-- how many records stand before the first end
abbrev pub run_length : List Span → ℕ
run_length ss = prefix_len (λ s. not (s.len == 0)) ss
