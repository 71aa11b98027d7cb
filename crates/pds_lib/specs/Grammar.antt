-- The library that an image holds, or its first fault.
use Rattle.std.specs.Prelude.{ℕ, ◌-◌, List, map, take, drop, slice_get, if◌then◌else◌, Result, Ok}
use Rattle.std.specs.Option.{option_map_or}
use Rattle.le_bytes.specs.declared.name.Name.{Name}
use Rattle.le_bytes.specs.declared.library_fault.LibFault.{LibFault}
use Rattle.pds_directory.specs.declared.entry.Span.{Span}
use Rattle.pds_directory.specs.declared.entry.Listed.{Listed}
use Rattle.pds_directory.specs.Parts.{part}
use Rattle.pds_directory.specs.Answers.{◌>>=◌}
use Rattle.pds_directory.specs.Directory.{listing_of, owner_of, rules_of}
use Rattle.pds_directory.specs.Places.{records_of, ends_of, run_length}
use Rattle.pds_lib.specs.Contents.{Held, Contents}

-- the records from a number on, up to the end of their member
abbrev pub places_from : List Span → ℕ → List Span
places_from places first = take (run_length (drop (first - 1) places)) (drop (first - 1) places)

-- the name of the main entry of the member that an entry is of
abbrev pub main_of : List Listed → Listed → Name
main_of xs x =
    if x.entry.alias then option_map_or (λ j. option_map_or (λ (y : Listed). y.entry.name) (slice_get xs j) x.entry.main) (owner_of xs x.first) x.entry.main
    else x.entry.main

-- an entry with its user data and the records of its member
abbrev pub member_of : List ℕ → List Span → List Listed → Listed → Held
member_of image places xs x =
    record {
      entry = record x.entry { main = main_of xs x };
      user_data = part image x.user_data;
      records = map (part image) (places_from places x.first);
    }

-- the same of all entries
abbrev pub members_of : List ℕ → List Span → List Listed → List Held
members_of image places xs = map (member_of image places xs) xs

-- header, directory, records and the rules of entries, in this order
unfoldable pub library_of : List ℕ → Result Contents LibFault
library_of image =
    listing_of image >>= λ d.
    records_of d.head image >>= λ places.
    rules_of d (ends_of places) >>= λ kept.
    Ok (record { version = d.head.version; kind = d.head.kind; members = members_of image places d.entries })
