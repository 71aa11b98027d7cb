-- What may be wrong with a record of a member beside what its own bytes say: where it stands, and what its items
-- refer to (this project's profile). Bytes are judged by `own_fault` of the record format.
use Rattle.std.specs.Prelude.{ℕ, ◌+◌, Bool, true, false, not, ◌&&◌, ◌||◌, ◌==◌, nat_lt, nat_le, if◌then◌else◌, List, [], ◌∷◌, ◌++◌, map, fold, length, take, drop, count_by, Option, Some, None, option_map, option_and_then, is_some}
use Rattle.std.specs.List.{list_any, enumerate_from}
use Rattle.std.specs.Option.{option_or, option_map_or}
use Rattle.std.specs.Str.{bytes_eq}
use Rattle.le_bytes.specs.declared.record_what.RecWhat.{RecWhat}
use Rattle.le_bytes.specs.declared.record_what.RecWhat.TheVariants.{BadLength, BadFlag, BadOrder, BadEsdid, SectionOutside, BadScatter, TextOutside, ConstantOutside, ConstantsOverlap}
use Rattle.pds_directory.specs.declared.entry.Entry.{Entry}
use Rattle.load_recs.specs.Faults.{what_of}
use Rattle.load_recs.specs.Items.{symbols_of, scatters_of, translations_of, notes_of}
use Rattle.load_recs.specs.Relocations.{rlds_of}
use Rattle.load_recs.specs.Records.{Record, SymbolRecord, ScatterRecord, TranslationRecord, NoteRecord, ControlRecord, RldRecord, ControlRldRecord, TextRecord}
use Rattle.load_recs.specs.Reading.{contents, own_fault}
use Rattle.load_recs.specs.declared.items.SymbolKind.{SymbolKind}
use Rattle.load_recs.specs.declared.items.SymbolKind.TheVariants.{Lr}
use Rattle.load_recs.specs.declared.items.SymbolItem.{SymbolItem}
use Rattle.load_recs.specs.declared.items.RldItem.{RldItem}
use Rattle.load_recs.specs.declared.records.Ends.{Ends}
use Rattle.load_recs.specs.declared.records.TextHead.{TextHead}
use Rattle.load_recs.specs.Kinds.{is_section_kind, is_text_kind}
use Rattle.member_model.specs.Symbols.{is_overlay_member, is_scatter_member, is_section, is_register_kind, is_referable_kind, symbol_at, end_of, is_outside, section_of, section_rank, section_addresses, field_kind, field_length, is_address_kind, is_marked_outside}
use Rattle.member_model.specs.Facts.{Facts, stage_of}

-- the first that is there
abbrev pub first_some : {A : Type 0} → List (Option A) → Option A
first_some [] = None
first_some (x ∷ xs) = option_or x (first_some xs)

-- this fault, where something is bad
abbrev pub when : Bool → RecWhat → Option RecWhat
when bad what = if bad then Some what else None

-- the attribute asks for records of this kind
abbrev pub is_asked : Entry → Record → Bool
is_asked e (ScatterRecord first items) = is_scatter_member e
is_asked e (TranslationRecord first items) = is_scatter_member e
is_asked e (NoteRecord first items) = is_overlay_member e
is_asked e _ = true

-- ---- symbols

-- the end of the last section of segment s
abbrev pub last_end : List SymbolItem → ℕ → ℕ
last_end symbols s = fold (λ end x. if is_section x && x.segment == s then end_of x else end) 0 symbols

-- the section ends after the module, is in no segment of the member, or begins before the last of its segment ended
abbrev pub is_section_outside : Entry → List SymbolItem → SymbolItem → Bool
is_section_outside e before x =
    nat_lt e.length (end_of x) || x.segment == 0 || not (is_overlay_member e) && not (x.segment == 1)
    || nat_lt x.address (last_end before x.segment)

-- a label names an earlier SD or PC, and stands in it or at its end
abbrev pub label_fault : SymbolItem → Option SymbolItem → Option RecWhat
label_fault x None = Some BadEsdid
label_fault x (Some owner) =
    if not (is_text_kind owner.kind) then Some BadEsdid
    else when (nat_lt x.address owner.address || nat_lt (end_of owner) x.address) SectionOutside

-- the fault of a symbol item after those before it
abbrev pub symbol_fault : Entry → List SymbolItem → SymbolItem → SymbolKind → Option RecWhat
symbol_fault e before x Lr = label_fault x (symbol_at before x.length)
symbol_fault e before x kind = when (is_section_kind kind && is_section_outside e before x) SectionOutside

-- the first fault of these symbol items after those before them
abbrev pub symbols_fault : Entry → List SymbolItem → List SymbolItem → Option RecWhat
symbols_fault e before [] = None
symbols_fault e before (x ∷ xs) =
    option_or (symbol_fault e before x x.kind) (symbols_fault e (before ++ x ∷ []) xs)

-- ---- scatter and translation

-- of each symbol item the number of the scatter item of its section, 0 where it has none
abbrev pub translations : List SymbolItem → List ℕ
translations symbols = map (λ (n, x). section_rank symbols (section_of symbols n)) (enumerate_from 1 symbols)

-- the items are those that come after the first k
abbrev pub is_next : List ℕ → ℕ → List ℕ → Bool
is_next wanted k items = bytes_eq items (take (length items) (drop k wanted))

-- some section has no scatter item yet
abbrev pub lacks_scatter : Facts → Bool
lacks_scatter F = nat_lt F.scattered (count_by is_section F.symbols)

-- scatter or translation items are still to come
abbrev pub is_incomplete : Facts → Bool
is_incomplete F = lacks_scatter F || nat_lt F.translated (length F.symbols)

-- ---- text and relocation items

-- item n, where it is a section of this segment that has text
abbrev pub text_section : Facts → ℕ → Option SymbolItem
text_section F n =
    option_and_then (λ x. if is_text_kind x.kind && x.segment == F.segment then Some x else None) (symbol_at F.symbols n)

-- n bytes from a on lie in the section, if there is one
abbrev pub lies_in : Option SymbolItem → ℕ → ℕ → Bool
lies_in section a n = option_map_or (λ x. nat_le x.address a && nat_le (a + n) (end_of x)) section false

-- text lies in its section
abbrev pub text_fault : Facts → TextHead → Option RecWhat
text_fault F text = when (not (lies_in (text_section F text.section) text.address text.length)) TextOutside

-- the symbol is of a kind that fits the item: that of a total is not looked at
abbrev pub fits : RldItem → Option SymbolItem → Bool
fits x symbol =
    if is_address_kind x then option_map_or (λ y. is_referable_kind y.kind) symbol false
    else (nat_lt 2 (field_kind x) || option_map_or (λ y. is_register_kind y.kind) symbol false)

-- both have a byte, and they are not two A-type items of one place and length
abbrev pub shares_wrongly : RldItem → RldItem → Bool
shares_wrongly x y =
    y.p == x.p && nat_lt x.address (y.address + field_length y) && nat_lt y.address (x.address + field_length x)
    && not (x.address == y.address && field_length x == field_length y && field_kind x == 0 && field_kind y == 0)

-- one of the two holds alone
abbrev pub differ : Bool → Bool → Bool
differ a b = if a then not b else b

-- the fault of a relocation item after those before it
abbrev pub field_fault : Facts → List RldItem → RldItem → Option RecWhat
field_fault F before x =
    let section = text_section F x.p in let symbol = symbol_at F.symbols x.r in
    first_some (
    when (not (is_some section) || not (fits x symbol)) BadEsdid
    ∷ when (is_address_kind x && differ (is_marked_outside x) (is_outside symbol)) BadFlag
    ∷ when (not (lies_in section x.address (field_length x))) ConstantOutside
    ∷ when (list_any (shares_wrongly x) before) ConstantsOverlap ∷ [])

-- the first fault of these relocation items after those before them
abbrev pub fields_fault : Facts → List RldItem → List RldItem → Option RecWhat
fields_fault F before [] = None
fields_fault F before (x ∷ xs) = option_or (field_fault F before x) (fields_fault F (before ++ x ∷ []) xs)

-- ---- where segments and the module end

-- a note item for each segment, and segment 1 alone without overlay
abbrev pub segment_count : Entry → Facts → ℕ
segment_count e F = if is_overlay_member e then length F.notes else 1

-- the module ends before its last segment, or that segment without it
abbrev pub ends_wrongly : Entry → Facts → Ends → Bool
ends_wrongly e F ends =
    ends.module && nat_lt F.segment (segment_count e F)
    || ends.segment && not ends.module && F.segment == segment_count e F

-- a record of a segment: text that is told, and relocation items
abbrev pub segment_fault : Entry → Facts → Ends → Option TextHead → List RldItem → Option RecWhat
segment_fault e F ends text items =
    first_some (
    when (is_scatter_member e && is_incomplete F) BadScatter
    ∷ when (is_overlay_member e && length F.notes == 0) BadOrder
    ∷ option_and_then (text_fault F) text
    ∷ fields_fault F (map (λ x. x.item) F.fields) items
    ∷ when (ends_wrongly e F ends) BadOrder ∷ [])

-- ---- one record

-- the fault of a record of each kind, in the facts before it
abbrev pub kind_fault : Entry → Facts → Record → Option RecWhat
kind_fault e F (SymbolRecord first items) =
    option_or (when (not (first == length F.symbols + 1)) BadEsdid) (symbols_fault e F.symbols (symbols_of items))
kind_fault e F (ScatterRecord first items) =
    when (not (first == F.scattered + 1) || not (is_next (section_addresses F.symbols) F.scattered (scatters_of items))) BadScatter
kind_fault e F (TranslationRecord first items) =
    when (not (first == F.translated + 1) || lacks_scatter F
    || not (is_next (translations F.symbols) F.translated (translations_of items))) BadScatter
kind_fault e F (NoteRecord first items) =
    when (not (first == length F.notes + 1) || nat_lt 255 (length F.notes + length (notes_of items))) BadOrder
kind_fault e F (ControlRecord ends text) = segment_fault e F ends (Some text) []
kind_fault e F (RldRecord ends items) = segment_fault e F ends None (rlds_of items)
kind_fault e F (ControlRldRecord ends items text) = segment_fault e F ends (Some text) (rlds_of items)
kind_fault e F (TextRecord bytes) = None

-- what is wrong with a record after those that gave the facts, its own faults apart
abbrev pub place_fault : Entry → Facts → Record → Option RecWhat
place_fault e F x =
    option_or (when (F.ended || nat_lt (stage_of x) F.stage || not (is_asked e x)) BadOrder) (kind_fault e F x)

-- the first fault of the next record, which has to be the text where one is due
abbrev pub fault_with : Entry → Facts → Option TextHead → List ℕ → Option RecWhat
fault_with e F None bytes = option_or (option_map what_of (own_fault bytes)) (place_fault e F (contents bytes))
fault_with e F (Some text) bytes = when (not (length bytes == text.length)) BadLength

-- what is wrong with the next record, its own faults first
unfoldable pub fault : Entry → Facts → List ℕ → Option RecWhat
fault e F bytes = fault_with e F F.due bytes
