-- The directory, block by block and entry by entry, with its first fault.
use Rattle.std.specs.Prelude.{◌≡◌, ℕ, zero, suc, ◌+◌, ◌-◌, ◌*◌, ◌%◌, Bool, true, false, not, ◌&&◌, ◌||◌, ◌==◌, nat_lt, nat_le, if◌then◌else◌, List, [], ◌∷◌, ◌++◌, length, drop, slice_index, slice_get, slice_range, Option, Some, None, Result, Ok, Err}
use Rattle.std.specs.Option.{option_map_or}
use Rattle.std.specs.List.{list_any}
use Rattle.std.specs.Str.{bytes_eq}
use Rattle.le_bytes.specs.declared.name.Name.{Name}
use Rattle.le_bytes.specs.declared.library_fault.LibFault.{LibFault}
use Rattle.le_bytes.specs.declared.library_fault.LibFault.TheVariants.{BadHeader, BadDirectory, BadEntry}
use Rattle.le_bytes.specs.Names.{name_eq}
use Rattle.pds_directory.specs.declared.kinds.LibKind.{LibKind}
use Rattle.pds_directory.specs.declared.kinds.LibKind.TheVariants.{Cards, Modules}
use Rattle.pds_directory.specs.declared.entry.Entry.{Entry}
use Rattle.pds_directory.specs.declared.entry.Span.{Span}
use Rattle.pds_directory.specs.declared.entry.Listed.{Listed}
use Rattle.pds_directory.specs.declared.header.Head.{Head}
use Rattle.pds_directory.specs.Parts.{number, name_at, is_below}
use Rattle.pds_directory.specs.Header.{head_of}
use Rattle.pds_directory.specs.Answers.{◌>>=◌}

-- Below, rest is what is left of the used bytes of a block, from an entry on.

-- the bytes of user data
abbrev pub data_length : List ℕ → ℕ
data_length rest = 2 * (slice_index rest 11 % 32)

-- the bytes of an entry with its user data
abbrev pub entry_length : List ℕ → ℕ
entry_length rest = 12 + data_length rest

-- an entry with its user data is there in full
abbrev pub entry_fits : List ℕ → Bool
entry_fits rest = nat_le 12 (length rest) && nat_le (entry_length rest) (length rest)

-- the first bit of the byte that counts user data
abbrev pub is_alias : List ℕ → Bool
is_alias rest = nat_le 128 (slice_index rest 11)

-- eight X'FF', the name of the last entry
abbrev pub last_name : List ℕ
last_name = 255 ∷ 255 ∷ 255 ∷ 255 ∷ 255 ∷ 255 ∷ 255 ∷ 255 ∷ []

-- the entry has the last name
abbrev pub is_last : List ℕ → Bool
is_last rest = bytes_eq (slice_range rest 0 8) last_name

-- the four bytes behind the last name are zero
abbrev pub is_closed : List ℕ → Bool
is_closed rest = bytes_eq (slice_range rest 8 12) (0 ∷ 0 ∷ 0 ∷ 0 ∷ [])

-- the name of an entry
abbrev pub listed_name : Listed → Name
listed_name x = x.entry.name

-- the name is above that of the last entry so far
abbrev pub is_above : List Listed → Name → Bool
is_above done n = option_map_or (λ x. is_below x.entry.name n) (slice_get done (length done - 1)) true

-- user data of a load module have one size, and of an alias another
abbrev pub has_size : LibKind → List ℕ → Bool
has_size Cards rest = true
has_size Modules rest = data_length rest == (if is_alias rest then 20 else 12)

-- its name is above those so far, its record is one of the library, and its user data have their size
abbrev pub is_good : Head → List Listed → List ℕ → Bool
is_good h done rest =
    is_above done (name_at rest 0)
    && (nat_le 1 (number 3 rest 8) && (nat_le (number 3 rest 8) h.records && has_size h.kind rest))

-- the entry that is spelled so
abbrev pub entry_of : LibKind → List ℕ → Entry
entry_of Cards rest =
    record { name = name_at rest 0; main = name_at rest 0; alias = is_alias rest; attr = 0; length = 0; entry = 0; entry_section = 0 }
entry_of Modules rest =
    record {
      name = name_at rest 0;
      main = if is_alias rest then name_at rest 24 else name_at rest 0;
      alias = is_alias rest;
      attr = slice_index rest 12;
      length = number 3 rest 14;
      entry = number 3 rest 18;
      entry_section = number 2 rest 22;
    }

-- where the user data that are kept stand, with the used bytes up to end
abbrev pub data_of : LibKind → ℕ → List ℕ → Span
data_of Cards end rest = record { at = end - length rest + 12; len = data_length rest }
data_of Modules end rest = record { at = 0; len = 0 }

-- entry k of a block as it stands there
abbrev pub listed_of : Head → ℕ → ℕ → ℕ → List ℕ → Listed
listed_of h block k end rest =
    record { entry = entry_of h.kind rest; first = number 3 rest 8; user_data = data_of h.kind end rest; block = block; number = k }

-- entry k of a block: none more, one, or a fault
unfoldable pub entry_at : Head → ℕ → ℕ → List Listed → ℕ → List ℕ → Result (Option Listed) LibFault
entry_at h block k done end rest =
    if not (entry_fits rest) then Err (BadDirectory block)
    else if is_last rest then (if is_closed rest then Ok None else Err (BadEntry block k))
    else if is_good h done rest then Ok (Some (listed_of h block k end rest))
    else Err (BadEntry block k)

-- what follows the last entry, or another one
abbrev pub after_entry : Option Listed → Result (List Listed × Bool) LibFault → (Listed → Result (List Listed × Bool) LibFault) → Result (List Listed × Bool) LibFault
after_entry None last next = last
after_entry (Some x) last next = next x

-- the entries with those of a block, and whether the last one came
unfoldable pub entries_from : ℕ → Head → ℕ → ℕ → List Listed → ℕ → List ℕ → Result (List Listed × Bool) LibFault
entries_from zero h block k done end rest = Err (BadDirectory block)
entries_from (suc tries) h block k done end rest =
    if length rest == 0 then Ok (done, false)
    else entry_at h block k done end rest
    >>= λ found. after_entry found (Ok (done, true)) (λ x. entries_from tries h block (k + 1) (done ++ x ∷ []) end (drop (entry_length rest) rest))

-- where a block begins, counted from 1
abbrev pub block_at : ℕ → ℕ
block_at b = 256 * b - 236

-- 21 entries of 12 bytes fill a block, so 22 tries come to its end
unfoldable pub block_from : Head → List ℕ → ℕ → List Listed → Result (List Listed × Bool) LibFault
block_from h image b done =
    let used = number 2 image (block_at b) in
    if nat_lt used 2 || nat_lt 256 used then Err (BadDirectory b)
    else entries_from 22 h b 1 done (block_at b + used) (slice_range image (block_at b + 2) (block_at b + used))

-- block after block, until the last entry comes
unfoldable pub blocks_from : ℕ → Head → List ℕ → ℕ → List Listed → Result (List Listed) LibFault
blocks_from zero h image b done = Err (BadDirectory h.blocks)
blocks_from (suc left) h image b done =
    block_from h image b done >>= λ r. if r.1 then Ok r.0 else blocks_from left h image (b + 1) r.0

-- what a directory says: its header and its entries in their order
pub record Listing : Type 0 where
  pub head : Head
  pub entries : List Listed

-- the directory behind a header, if that is right
abbrev pub listing_with : Option Head → List ℕ → Result Listing LibFault
listing_with None image = Err BadHeader
listing_with (Some h) image = blocks_from h.blocks h image 1 [] >>= λ xs. Ok (record { head = h; entries = xs })

-- the directory of an image, or the first fault up to its last entry
unfoldable pub listing_of : List ℕ → Result Listing LibFault
listing_of image = listing_with (head_of image) image

-- ---- the rules of entries

-- a main entry of a member that begins at this record
abbrev pub begins_at : ℕ → Listed → Bool
begins_at first x = not x.entry.alias && (x.first == first)

-- the place of the first main entry of a member that begins at this record, with places counted from i
unfoldable pub owner_from : ℕ → List Listed → ℕ → Option ℕ
owner_from i [] first = None
owner_from i (x ∷ xs) first = if begins_at first x then Some i else owner_from (i + 1) xs first

-- the place of the first main entry of a member that begins at this record
abbrev pub owner_of : List Listed → ℕ → Option ℕ
owner_of xs first = owner_from 0 xs first

-- the same by any number of a first record
abbrev pub AreOwners : (ℕ → Option ℕ) → List Listed → Type 0
AreOwners owners xs = (first : ℕ) → owners first ≡ owner_of xs first

-- the place with one more entry, at place i
unfoldable pub owner_with : Option ℕ → ℕ → Listed → ℕ → Option ℕ
owner_with (Some j) i x first = Some j
owner_with None i x first = if begins_at first x then Some i else None

-- a member begins at record 1 or behind an end
abbrev pub may_begin : List ℕ → ℕ → Bool
may_begin ends first = first == 1 || list_any (λ e. e == first - 1) ends

-- an alias in a library of load modules names its main entry
abbrev pub names_owner : LibKind → List Listed → Listed → ℕ → Bool
names_owner Cards xs x j = true
names_owner Modules xs x j = option_map_or (λ y. name_eq y.entry.name x.entry.main) (slice_get xs j) false

-- entry i keeps the rules; ends are the numbers of the records of length zero
unfoldable pub keeps_rules : Listing → List ℕ → ℕ → Listed → Bool
keeps_rules d ends i x =
    if x.entry.alias then option_map_or (names_owner d.head.kind d.entries x) (owner_of d.entries x.first) false
    else may_begin ends x.first && option_map_or (λ j. j == i) (owner_of d.entries x.first) false

-- the first entry from place i on that breaks them
unfoldable pub rules_from : Listing → List ℕ → ℕ → List Listed → Result (Unit {0}) LibFault
rules_from d ends i [] = Ok tt
rules_from d ends i (x ∷ xs) = if keeps_rules d ends i x then rules_from d ends (i + 1) xs else Err (BadEntry x.block x.number)

-- the rules of all entries, or the first fault
abbrev pub rules_of : Listing → List ℕ → Result (Unit {0}) LibFault
rules_of d ends = rules_from d ends 0 d.entries
