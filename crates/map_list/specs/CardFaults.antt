-- The fault of a card as words: its name in capitals, and then its values.
use Rattle.std.specs.Prelude.{ℕ, List, [], ◌∷◌, codes}
use Rattle.map_list.specs.Printed.{printed_name, decimal}
use Rattle.le_bytes.specs.declared.card_what.CardWhat.{CardWhat}
use Rattle.le_bytes.specs.declared.card_what.CardWhat.TheVariants.{ShortCard, UnknownCard, BadCount, BadEsdType, BadFlag, BadEsdid, UnknownEsdid, TextOutside, ConstantOutside, LabelOutside, EntryOutside, ConstantsOverlap, ReservedName, NoEnd, UnknownOperation, BadOperand, NoContinuation, TooMany, NoModule, EditNotThere, EditClash, NoSuchDd, BadDd, MemberAbsent, NotHere, NoOvly, RegionNameUsed}

abbrev pub card_words : CardWhat → List (List ℕ)
card_words ShortCard = codes "SHORTCARD" ∷ []
card_words UnknownCard = codes "UNKNOWNCARD" ∷ []
card_words BadCount = codes "BADCOUNT" ∷ []
card_words BadEsdType = codes "BADESDTYPE" ∷ []
card_words BadFlag = codes "BADFLAG" ∷ []
card_words BadEsdid = codes "BADESDID" ∷ []
card_words UnknownEsdid = codes "UNKNOWNESDID" ∷ []
card_words TextOutside = codes "TEXTOUTSIDE" ∷ []
card_words ConstantOutside = codes "CONSTANTOUTSIDE" ∷ []
card_words LabelOutside = codes "LABELOUTSIDE" ∷ []
card_words EntryOutside = codes "ENTRYOUTSIDE" ∷ []
card_words ConstantsOverlap = codes "CONSTANTSOVERLAP" ∷ []
card_words ReservedName = codes "RESERVEDNAME" ∷ []
card_words NoEnd = codes "NOEND" ∷ []
card_words UnknownOperation = codes "UNKNOWNOPERATION" ∷ []
card_words (BadOperand n) = codes "BADOPERAND" ∷ decimal n ∷ []
card_words NoContinuation = codes "NOCONTINUATION" ∷ []
card_words TooMany = codes "TOOMANY" ∷ []
card_words NoModule = codes "NOMODULE" ∷ []
card_words (EditNotThere name) = codes "EDITNOTTHERE" ∷ printed_name name ∷ []
card_words (EditClash name) = codes "EDITCLASH" ∷ printed_name name ∷ []
card_words (NoSuchDd name) = codes "NOSUCHDD" ∷ printed_name name ∷ []
card_words (BadDd name) = codes "BADDD" ∷ printed_name name ∷ []
card_words (MemberAbsent name) = codes "MEMBERABSENT" ∷ printed_name name ∷ []
card_words NotHere = codes "NOTHERE" ∷ []
card_words NoOvly = codes "NOOVLY" ∷ []
card_words (RegionNameUsed name) = codes "REGIONNAMEUSED" ∷ printed_name name ∷ []
