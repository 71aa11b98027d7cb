-- The fault of a record as a word: its name in capitals.
use Rattle.std.specs.Prelude.{ℕ, List, [], ◌∷◌, codes}
use Rattle.le_bytes.specs.declared.record_what.RecWhat.{RecWhat}
use Rattle.le_bytes.specs.declared.record_what.RecWhat.TheVariants.{UnknownId, BadLength, BadType, BadFlag, BadOrder, BadEsdid, SectionOutside, BadEntryPoint, BadScatter, TextOutside, ConstantOutside, ConstantsOverlap, NoEnd}

abbrev pub record_words : RecWhat → List (List ℕ)
record_words UnknownId = codes "UNKNOWNID" ∷ []
record_words BadLength = codes "BADLENGTH" ∷ []
record_words BadType = codes "BADTYPE" ∷ []
record_words BadFlag = codes "BADFLAG" ∷ []
record_words BadOrder = codes "BADORDER" ∷ []
record_words BadEsdid = codes "BADESDID" ∷ []
record_words SectionOutside = codes "SECTIONOUTSIDE" ∷ []
record_words BadEntryPoint = codes "BADENTRYPOINT" ∷ []
record_words BadScatter = codes "BADSCATTER" ∷ []
record_words TextOutside = codes "TEXTOUTSIDE" ∷ []
record_words ConstantOutside = codes "CONSTANTOUTSIDE" ∷ []
record_words ConstantsOverlap = codes "CONSTANTSOVERLAP" ∷ []
record_words NoEnd = codes "NOEND" ∷ []
