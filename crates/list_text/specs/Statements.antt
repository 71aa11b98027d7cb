-- The statements that link a member again: their texts, and how each stands on a line and on a card. The statements
-- are those of GC28-6538, and which of them a member needs is this project's profile.
use Rattle.std.specs.Prelude.{ℕ, ◌-◌, if◌then◌else◌, List, [], ◌∷◌, ◌++◌, length, map, flat_map, replicate, unwrap_or, codes}
use Rattle.le_bytes.specs.Codes.{ebcdic_of}
use Rattle.le_bytes.specs.declared.name.Name.{Name}
use Rattle.map_list.specs.Printed.{printed_name}
use Rattle.list_text.specs.declared.relinking.Relink.{Relink}
use Rattle.list_text.specs.declared.relinking.RelinkSegment.{RelinkSegment}

-- ---- the texts, each with one blank before it

-- a text, a name, and a text after it
abbrev pub with_name : List ℕ → Name → List ℕ → List ℕ
with_name before name after = before ++ printed_name name ++ after

abbrev pub include_text : Name → List ℕ
include_text member = with_name (codes " INCLUDE SYSLMOD(") member (codes ")")

abbrev pub overlay_text : RelinkSegment → List ℕ
overlay_text segment =
    with_name (codes " OVERLAY ") segment.symbol (if segment.region then codes "(REGION)" else codes "")

abbrev pub insert_text : Name → List ℕ
insert_text section = with_name (codes " INSERT ") section (codes "")

abbrev pub alias_text : Name → List ℕ
alias_text name = with_name (codes " ALIAS ") name (codes "")

abbrev pub replace_text : Name → List ℕ
replace_text member = with_name (codes " NAME ") member (codes "(R)")

-- a segment begins, and each of its sections moves there
abbrev pub segment_texts : RelinkSegment → List (List ℕ)
segment_texts segment = overlay_text segment ∷ map insert_text segment.inserts

abbrev pub texts_of : List RelinkSegment → List (List ℕ)
texts_of segments = flat_map segment_texts segments

abbrev pub relink_texts : Relink → List (List ℕ)
relink_texts s =
    include_text s.member ∷ texts_of s.segments ++ map alias_text s.aliases ++ replace_text s.member ∷ []

-- ---- lines and cards

-- the EBCDIC code of a character, a blank where it has none here
abbrev pub code_of : ℕ → ℕ
code_of c = unwrap_or (ebcdic_of c) 64

unfoldable pub line_of : List ℕ → List ℕ
line_of text = text ++ 10 ∷ []

-- the text in EBCDIC from column 1, and blanks up to column 80
unfoldable pub card_of : List ℕ → List ℕ
card_of text = map code_of text ++ replicate (80 - length text) 64

unfoldable pub statements_text : Relink → List ℕ
statements_text s = flat_map line_of (relink_texts s)

unfoldable pub statement_cards : Relink → List ℕ
statement_cards s = flat_map card_of (relink_texts s)
