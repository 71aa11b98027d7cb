-- The lines that stand alone: what was linked, what is unresolved, where a program begins, and each refusal.
use Rattle.std.specs.Prelude.{ℕ, List, [], ◌∷◌, ◌++◌, Option, Some, None, codes}
use Rattle.map_list.specs.Printed.{printed_name, a6, decimal, line}
use Rattle.map_list.specs.CardFaults.{card_words}
use Rattle.map_list.specs.RecordFaults.{record_words}
use Rattle.map_list.specs.RunFaults.{start_words, place_words, event_words}
use Rattle.map_list.specs.OtherFaults.{word_words, library_words, symbol_words, count_word}
use Rattle.le_bytes.specs.declared.name.Name.{Name}
use Rattle.le_bytes.specs.declared.refusal.Spot.{Spot}
use Rattle.le_bytes.specs.declared.refusal.Refusal.{Refusal}
use Rattle.le_bytes.specs.declared.refusal.Refusal.TheVariants.{SetAbsent, TooLong, NotLibrary, Library, BadEvent, Card, Module, Overlay, NoSection, Symbol, Limit, MemberExists, MemberAbsent, Place, Event}
use Rattle.le_bytes.specs.declared.word_what.WordWhat.{WordWhat}
use Rattle.map_list.specs.declared.refusals.Line.{Line}
use Rattle.map_list.specs.declared.refusals.Line.TheVariants.{Refused, Words}

-- a linked module: its name, its length and its entry point
unfoldable pub linked_line : Name → ℕ → ℕ → List ℕ
linked_line name size entry = line (codes "LINKED") (printed_name name ∷ codes "LENGTH" ∷ a6 size ∷ codes "ENTRY" ∷ a6 entry ∷ [])

-- a name that no section or label has
unfoldable pub unresolved_line : Name → List ℕ
unresolved_line name = line (codes "UNRESOLVED") (printed_name name ∷ [])

-- the entry point of a placed program
unfoldable pub entry_line : ℕ → List ℕ
entry_line address = line (codes "ENTRY") (a6 address ∷ [])

-- a data set, or a member of it as `dd(member)`
abbrev pub set_and_member : Name → Option Name → List ℕ
set_and_member set None = printed_name set
set_and_member set (Some member) = printed_name set ++ 40 ∷ [] ++ printed_name member ++ 41 ∷ []

-- where a card or a record stands: its set, with its member, and its number
abbrev pub spot_words : Spot → List (List ℕ)
spot_words spot = set_and_member spot.set spot.member ∷ decimal spot.number ∷ []

-- the words of a refusal after REFUSED
abbrev pub refusal_words : Refusal → List (List ℕ)
refusal_words (SetAbsent set) = codes "SET" ∷ printed_name set ∷ codes "ABSENT" ∷ []
refusal_words (TooLong set) = codes "SET" ∷ printed_name set ∷ codes "TOOLONG" ∷ []
refusal_words (NotLibrary set) = codes "SET" ∷ printed_name set ∷ codes "NOTLIBRARY" ∷ []
refusal_words (Library set what) = codes "LIBRARY" ∷ printed_name set ∷ library_words what
refusal_words (BadEvent n) = codes "EVENTS" ∷ codes "LINE" ∷ decimal n ∷ []
refusal_words (Card spot what) = codes "CARD" ∷ spot_words spot ++ card_words what
refusal_words (Module spot what) = codes "RECORD" ∷ spot_words spot ++ record_words what
refusal_words (Overlay set member what) = codes "OVERLAY" ∷ set_and_member set (Some member) ∷ start_words what
refusal_words NoSection = codes "NOSECTION" ∷ []
refusal_words (Symbol name what) = codes "SYMBOL" ∷ printed_name name ∷ symbol_words what
refusal_words (Limit what n) = codes "LIMIT" ∷ count_word what ∷ decimal n ∷ []
refusal_words (MemberExists name) = codes "MEMBER" ∷ printed_name name ∷ codes "EXISTS" ∷ []
refusal_words (MemberAbsent name) = codes "MEMBER" ∷ printed_name name ∷ codes "ABSENT" ∷ []
refusal_words (Place what) = codes "PLACE" ∷ place_words what
refusal_words (Event n what) = codes "EVENT" ∷ decimal n ∷ event_words what

-- the line of a refusal
unfoldable pub refusal_line : Refusal → List ℕ
refusal_line r = line (codes "REFUSED") (refusal_words r)

-- the line of a bad word of the command line, the words counted from 1
unfoldable pub words_line : ℕ → WordWhat → List ℕ
words_line n what = line (codes "WORDS") (decimal n ∷ word_words what)

-- the last line of a command that is not done
abbrev pub line_text : Line → List ℕ
line_text (Refused refusal) = refusal_line refusal
line_text (Words n what) = words_line n what
