-- What may be wrong with a word, a library, a symbol or a count, as words: its name in capitals, and then its values.
use Rattle.std.specs.Prelude.{ℕ, List, [], ◌∷◌, codes}
use Rattle.map_list.specs.Printed.{printed_name, decimal}
use Rattle.le_bytes.specs.declared.word_what.WordWhat.{WordWhat}
use Rattle.le_bytes.specs.declared.word_what.WordWhat.TheVariants.{NoCommand, UnknownCommand, NotKeyValue, Repeated, NotUsed, Excluded, BadValue, Missing}
use Rattle.le_bytes.specs.declared.library_fault.LibFault.{LibFault}
use Rattle.le_bytes.specs.declared.library_fault.LibFault.TheVariants.{BadHeader, BadDirectory, BadEntry, BadRecord}
use Rattle.le_bytes.specs.declared.refusal.SymbolWhat.{SymbolWhat}
use Rattle.le_bytes.specs.declared.refusal.SymbolWhat.TheVariants.{Unresolved, DoubleDefinition, EntryUnknown, InsertUnknown, ExclusiveValid, ExclusiveInvalid}
use Rattle.le_bytes.specs.declared.refusal.Counted.{Counted}
use Rattle.le_bytes.specs.declared.refusal.Counted.TheVariants.{Symbols, Includes, IncludeDepth, Segments, Regions, Entries, Registers, ModuleLength, Records, ImageLength}

-- why a word of the command line is refused
abbrev pub word_words : WordWhat → List (List ℕ)
word_words NoCommand = codes "NOCOMMAND" ∷ []
word_words UnknownCommand = codes "UNKNOWNCOMMAND" ∷ []
word_words NotKeyValue = codes "NOTKEYVALUE" ∷ []
word_words Repeated = codes "REPEATED" ∷ []
word_words NotUsed = codes "NOTUSED" ∷ []
word_words Excluded = codes "EXCLUDED" ∷ []
word_words BadValue = codes "BADVALUE" ∷ []
word_words (Missing name) = codes "MISSING" ∷ printed_name name ∷ []

-- the fault of a library image
abbrev pub library_words : LibFault → List (List ℕ)
library_words BadHeader = codes "BADHEADER" ∷ []
library_words (BadDirectory n) = codes "BADDIRECTORY" ∷ decimal n ∷ []
library_words (BadEntry block place) = codes "BADENTRY" ∷ decimal block ∷ decimal place ∷ []
library_words (BadRecord n) = codes "BADRECORD" ∷ decimal n ∷ []

-- why a symbol is refused
abbrev pub symbol_words : SymbolWhat → List (List ℕ)
symbol_words Unresolved = codes "UNRESOLVED" ∷ []
symbol_words DoubleDefinition = codes "DOUBLEDEFINITION" ∷ []
symbol_words EntryUnknown = codes "ENTRYUNKNOWN" ∷ []
symbol_words InsertUnknown = codes "INSERTUNKNOWN" ∷ []
symbol_words ExclusiveValid = codes "EXCLUSIVEVALID" ∷ []
symbol_words ExclusiveInvalid = codes "EXCLUSIVEINVALID" ∷ []

-- what is counted
abbrev pub count_word : Counted → List ℕ
count_word Symbols = codes "SYMBOLS"
count_word Includes = codes "INCLUDES"
count_word IncludeDepth = codes "INCLUDEDEPTH"
count_word Segments = codes "SEGMENTS"
count_word Regions = codes "REGIONS"
count_word Entries = codes "ENTRIES"
count_word Registers = codes "REGISTERS"
count_word ModuleLength = codes "MODULELENGTH"
count_word Records = codes "RECORDS"
count_word ImageLength = codes "IMAGELENGTH"
