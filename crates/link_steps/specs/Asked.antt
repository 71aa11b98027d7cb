-- What INCLUDE and LIBRARY statements ask for (GC28-6538), and what may be wrong with that (this project's profile).
use Rattle.std.specs.Prelude.{List, [], ◌∷◌, map, find, Option, Some, None, option_map}
use Rattle.std.specs.Option.{option_or}
use Rattle.le_bytes.specs.declared.name.Name.{Name}
use Rattle.le_bytes.specs.Names.{name_eq}
use Rattle.le_bytes.specs.declared.card_what.CardWhat.{CardWhat}
use Rattle.le_bytes.specs.declared.card_what.CardWhat.TheVariants.{NoSuchDd, BadDd, MemberAbsent}
use Rattle.ctl_cards.specs.declared.statement.IncludeItem.{IncludeItem}
use Rattle.ctl_cards.specs.declared.statement.LibraryItem.{LibraryItem}
use Rattle.ctl_cards.specs.declared.statement.LibraryItem.TheVariants.{From}
use Rattle.pds_directory.specs.declared.entry.Entry.{Entry}
use Rattle.pds_lib.specs.Contents.{find_entry}
use Rattle.pds_lib.specs.declared.set.Body.{Body}
use Rattle.pds_lib.specs.declared.set.Body.TheVariants.{Cards, Lib}
use Rattle.pds_lib.specs.declared.set.Set.{Set}
use Rattle.link_steps.specs.declared.asked.Asked.{Asked}

-- the set itself, or each of its members
abbrev pub asked_by : Name → List Name → List Asked
asked_by dd [] = record { dd = dd; member = None } ∷ []
asked_by dd (m ∷ ms) = map (λ n. record { dd = dd; member = Some n }) (m ∷ ms)

abbrev pub asked : IncludeItem → List Asked
asked x = asked_by x.dd x.members

-- the body of the set of a name
abbrev pub body_of : List Set → Name → Option Body
body_of sets dd = option_map (λ (x : Set). x.body) (find (λ (x : Set). name_eq x.dd dd) sets)

-- the library has no such member
abbrev pub unless_found : Name → Option Entry → Option CardWhat
unless_found m None = Some (MemberAbsent m)
unless_found m (Some _) = None

-- what is wrong with what is asked for: there is no such set; it is a library and no member is named, or it is none and
-- one is named; the library has no such member
abbrev pub fault_in : Asked → Option Name → Option Body → Option CardWhat
fault_in x _ None = Some (NoSuchDd x.dd)
fault_in x None (Some (Cards _)) = None
fault_in x None (Some (Lib _)) = Some (BadDd x.dd)
fault_in x (Some m) (Some (Cards _)) = Some (BadDd x.dd)
fault_in x (Some m) (Some (Lib lib)) = unless_found m (find_entry lib m)

unfoldable pub asked_fault : List Set → Asked → Option CardWhat
asked_fault sets x = fault_in x x.member (body_of sets x.dd)

-- what is wrong with the library that symbols are to be called from: there is no such set, or it is none
abbrev pub unless_library : Name → Option Body → Option CardWhat
unless_library dd None = Some (NoSuchDd dd)
unless_library dd (Some (Cards _)) = Some (BadDd dd)
unless_library dd (Some (Lib _)) = None

abbrev pub library_fault : List Set → LibraryItem → Option CardWhat
library_fault sets (From dd symbols) = unless_library dd (body_of sets dd)
library_fault sets _ = None

-- what is wrong with the first of the items with which something is
unfoldable pub libraries_fault : List Set → List LibraryItem → Option CardWhat
libraries_fault sets [] = None
libraries_fault sets (x ∷ xs) = option_or (library_fault sets x) (libraries_fault sets xs)
