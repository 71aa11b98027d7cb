-- Calls of a member in storage, by its bytes and records: entries of the entry tables, and bringing segments in. That a
-- call brings in the path of its segment follows GC28-6538; the bytes by which it goes are this project's profile.
use Rattle.std.specs.Prelude.{ℕ, ◌+◌, ◌-◌, ◌*◌, ◌/◌, ◌%◌, Bool, false, not, ◌&&◌, ◌==◌, nat_lt, nat_le, if◌then◌else◌, List, [], ◌∷◌, ◌++◌, map, filter, filter_map, fold, drop, reverse, find, Option, Some, None, option_map}
use Rattle.std.specs.List.{range_with_len, enumerate_from}
use Rattle.std.specs.Option.{option_or}
use Rattle.byteorder.specs.Endian.{big_number}
use Rattle.sym_mod.specs.Reserved.{entry_table}
use Rattle.pds_directory.specs.declared.entry.Entry.{Entry}
use Rattle.load_recs.specs.declared.items.SymbolItem.{SymbolItem}
use Rattle.linking_model.specs.Run.{Storage, Piece, with_piece, list_piece}
use Rattle.linking_model.specs.TableBytes.{status_of}
use Rattle.member_model.specs.Symbols.{is_sd_named}
use Rattle.member_model.specs.Facts.{Facts, Field, seen, walked}
use Rattle.member_model.specs.Faults.{fault}
use Rattle.member_model.specs.Loaded.{loaded}
use Rattle.member_model.specs.Fetched.{Fetched}
use Rattle.member_model.specs.Segments.{count, segments_of, segtab, region_in, is_resident, path_in, note}

-- storage, and the relocation items of the latest load of each segment
pub record State : Type 0 where
  pub storage : Storage
  pub fields : List Field

-- the number in n bytes of storage from an address on
abbrev pub number_in : Storage → ℕ → ℕ → ℕ
number_in M a n = big_number n (map M (range_with_len a n))

-- the member has the segment, and it is resident
abbrev pub is_present : Fetched → Storage → ℕ → Bool
is_present m M s = nat_le s (count m) && is_resident m M s

-- ---- entries

-- a part of storage
pub record Range : Type 0 where
  pub at : ℕ
  pub length : ℕ

-- the range of the item, where it is the entry table of a resident segment
abbrev pub table_of : Fetched → Storage → ℕ × SymbolItem → Option Range
table_of m M (n, x) =
    if is_sd_named entry_table x && is_present m M x.segment
    then Some (record { at = m.addresses n; length = x.length }) else None

-- the first eight bytes of a table are no entry, and its end lies behind it
abbrev pub is_in_table : ℕ → Range → Bool
is_in_table v x = nat_le (x.at + 8) v && nat_lt v (x.at + x.length)

-- the entry table of a resident segment that has the address
abbrev pub table_with : Fetched → Storage → ℕ → Option Range
table_with m M v = find (is_in_table v) (filter_map (table_of m M) (enumerate_from 1 m.facts.symbols))

-- the bytes from v on are an entry of the table: a branch to supervisor call 45 there, and a segment
abbrev pub is_entry : Fetched → Storage → ℕ → Range → Bool
is_entry m M v x =
    let end = x.at + x.length in let d = number_in M (v + 2) 2 % 4096 in
    nat_le (v + 12) end && M v == 71 && M (v + 1) == 240 && M (v + 2) / 16 == 15
    && nat_le (v + d + 2) end && M (v + d) == 10 && M (v + d + 1) == 45
    && nat_lt 0 (M (v + 8)) && nat_le (M (v + 8)) (count m)

-- ---- reading a segment

-- the facts with which the reading of segment s begins
abbrev pub facts_before : Fetched → ℕ → Facts
facts_before m s = record m.facts { texts = []; fields = []; stage = 4; segment = s; due = None; ended = false }

-- the records from the note number of segment s on
abbrev pub records_from : Fetched → ℕ → List (List ℕ)
records_from m s = drop ((note m s).first - 1) m.records

-- the facts of segment s alone, from its note number on
unfoldable pub segment_facts : Fetched → ℕ → Facts
segment_facts m s = walked s (facts_before m s) (records_from m s)

-- the first record from number n on that is refused in segment s, or the number after the last
unfoldable pub bad_from : Entry → ℕ → Facts → ℕ → List (List ℕ) → Option ℕ
bad_from e s F n [] = if F.segment == s then Some n else None
bad_from e s F n (b ∷ bs) =
    if F.segment == s then option_or (option_map (λ _. n) (fault e F b)) (bad_from e s (seen F b) (n + 1) bs) else None

-- the first record of segment s that is refused
abbrev pub segment_bad : Fetched → ℕ → Option ℕ
segment_bad m s = bad_from m.entry s (facts_before m s) (note m s).first (records_from m s)

-- the first such number of these segments, one after the other
abbrev pub segments_bad : Fetched → List ℕ → Option ℕ
segments_bad m [] = None
segments_bad m (s ∷ rest) = option_or (segment_bad m s) (segments_bad m rest)

-- ---- bringing segments in

-- the segments on the path of t that are not resident, from the root down
abbrev pub missing : Fetched → Storage → ℕ → List ℕ
missing m M t = filter (λ s. not (is_resident m M s)) (reverse (path_in m M t))

-- the whole range of segment s, as loaded
abbrev pub loaded_piece : Fetched → ℕ → Facts → Piece
loaded_piece m s F =
    let from = m.at + (note m s).origin in
    record { at = from; count = (note m s).length; byte = λ o. loaded F m.addresses s (from + o) }

-- the state in which segment s was brought in
abbrev pub brought_in : Fetched → State → ℕ → State
brought_in m S s =
    let F = segment_facts m s in
    record {
      storage = with_piece S.storage (loaded_piece m s F);
      fields = filter (λ x. not (x.segment == s)) S.fields ++ F.fields;
    }

-- the same for these segments, one after the other
abbrev pub all_brought_in : Fetched → List ℕ → State → State
all_brought_in m new S = fold (brought_in m) S new

-- the status bytes of region r say that this path is resident there; those of other regions stay
abbrev pub with_status : Fetched → ℕ → List ℕ → Storage → Storage
with_status m r path M =
    fold (λ N s. with_piece N (list_piece (segtab m + 6 + 4 * s) (status_of path s ∷ []))) M
    (filter (λ s. region_in m M s == r) (segments_of m))

-- a call into segment t, of whose path the part down to u is brought in
unfoldable pub call_down_to : Fetched → State → ℕ → ℕ → State
call_down_to m S t u =
    let after = all_brought_in m (missing m S.storage u) S in
    record after { storage = with_status m (region_in m S.storage t) (path_in m S.storage u) after.storage }

-- a call into segment t, of whose path all is brought in
abbrev pub call_into : Fetched → State → ℕ → State
call_into m S t = call_down_to m S t t
