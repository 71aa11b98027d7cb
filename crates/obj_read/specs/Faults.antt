-- What may be wrong with a card in the facts of the cards before it, in the order in which it is judged.
use Rattle.std.specs.Prelude.{ℕ, ◌+◌, Bool, true, false, not, ◌&&◌, ◌||◌, ◌==◌, nat_lt, nat_le, if◌then◌else◌, List, [], ◌∷◌, ◌++◌, find, Option, Some, None}
use Rattle.std.specs.List.{list_any, range_with_len}
use Rattle.std.specs.Option.{option_map_or}
use Rattle.le_bytes.specs.declared.card_what.CardWhat.{CardWhat}
use Rattle.le_bytes.specs.declared.card_what.CardWhat.TheVariants.{BadEsdid, ReservedName, UnknownEsdid, TextOutside, ConstantOutside, ConstantsOverlap, EntryOutside, LabelOutside, NoEnd}
use Rattle.obj_cards.specs.declared.card.Card.{Card}
use Rattle.obj_cards.specs.declared.card.Card.TheVariants.{Esd, Txt, Rld, End, Sym}
use Rattle.obj_cards.specs.declared.card.EsdKind.{EsdKind}
use Rattle.obj_cards.specs.declared.card.EsdKind.TheVariants.{Sd, Ld, Cm}
use Rattle.obj_cards.specs.declared.card.EsdItem.{EsdItem}
use Rattle.obj_cards.specs.declared.card.TxtCard.{TxtCard}
use Rattle.obj_cards.specs.declared.card.CardRld.{CardRld}
use Rattle.obj_cards.specs.declared.card.EndStart.{EndStart}
use Rattle.obj_cards.specs.declared.card.EndStart.TheVariants.{At as StartAt}
use Rattle.obj_cards.specs.declared.card.EndCard.{EndCard}
use Rattle.sym_mod.specs.declared.module.Kind.{Kind}
use Rattle.sym_mod.specs.declared.module.Kind.TheVariants.{Address, Branch, Displacement, Total}
use Rattle.sym_mod.specs.Reserved.{is_reserved}
use Rattle.obj_read.specs.declared.numbered.Numbered.{Numbered}
use Rattle.obj_read.specs.Facts.{is_label, has_text, is_register, is_referable, has_esdid, with_esdid, items_of, items_on, texts_of, terms_of, terms_on}
use Rattle.obj_read.specs.Flags.{kind_of_flag, length_of_flag}
use Rattle.obj_read.specs.Module.{same_place, with_end}

-- the first of two faults
abbrev pub or_else : Option CardWhat → Option CardWhat → Option CardWhat
or_else (Some what) _ = Some what
or_else None other = other

abbrev pub when : Bool → CardWhat → Option CardWhat
when wrong what = if wrong then Some what else None

-- ---- items

-- an ESDID of 0, above 65,535, or that an earlier item has
abbrev pub has_bad_esdid : List Numbered → Numbered → Bool
has_bad_esdid before x =
    not (is_label x.item.kind) && (x.esdid == 0 || nat_lt 65535 x.esdid || list_any (has_esdid x.esdid) before)

-- a section, a label or common may not be named as an overlay table
abbrev pub takes_reserved_name : EsdKind → EsdItem → Bool
takes_reserved_name Sd x = is_reserved x.name
takes_reserved_name Ld x = is_reserved x.name
takes_reserved_name Cm x = is_reserved x.name
takes_reserved_name _ x = false

abbrev pub item_fault : List Numbered → Numbered → Option CardWhat
item_fault before x =
    or_else (when (has_bad_esdid before x) BadEsdid) (when (takes_reserved_name x.item.kind x.item) ReservedName)

-- the items of a card, each in view of all before it
abbrev pub items_fault : List Numbered → List Numbered → Option CardWhat
items_fault before [] = None
items_fault before (x ∷ more) = or_else (item_fault before x) (items_fault (before ++ x ∷ []) more)

-- ---- places in sections

abbrev pub if_text : Numbered → Option EsdItem
if_text x = if has_text x.item.kind then Some x.item else None

-- the control section with the ESDID
abbrev pub section_of : List Numbered → ℕ → Option EsdItem
section_of items id = option_map_or if_text (with_esdid id items) None

-- the n bytes from an address lie in the section
abbrev pub lie_in : EsdItem → ℕ → ℕ → Bool
lie_in x address n = nat_le x.address address && nat_le (address + n) (x.address + x.length)

-- the bytes stand outside a section that has its length; where END may still give it, this waits
abbrev pub are_outside_now : EsdItem → ℕ → ℕ → Bool
are_outside_now x address n = not (x.length == 0) && not (lie_in x address n)

-- ---- text

abbrev pub text_fault : List Numbered → TxtCard → Option CardWhat
text_fault items t =
    option_map_or (λ x. when (are_outside_now x t.address t.count) TextOutside) (section_of items t.esdid) (Some UnknownEsdid)

-- ---- terms of constants

-- what a term of a kind refers to is there
abbrev pub fits_kind : List Numbered → ℕ → Kind → Bool
fits_kind items r Address = option_map_or (λ x. is_referable x.item.kind) (with_esdid r items) false
fits_kind items r Branch = option_map_or (λ x. is_referable x.item.kind) (with_esdid r items) false
fits_kind items r Displacement = option_map_or (λ x. is_register x.item.kind) (with_esdid r items) false
fits_kind items r Total = true

abbrev pub is_address : Kind → Bool
is_address Address = true
is_address _ = false

-- byte b of the section p stands in the field of the term
abbrev pub covers : ℕ → ℕ → CardRld → Bool
covers p b f = f.p == p && nat_le f.address b && nat_lt b (f.address + length_of_flag f.flag)

-- both are address constants of one place and length, and so terms of one constant
abbrev pub joins : CardRld → CardRld → Bool
joins f g =
    same_place f g && length_of_flag f.flag == length_of_flag g.flag
    && is_address (kind_of_flag f.flag) && is_address (kind_of_flag g.flag)

-- the byte stands in an earlier field that the term does not join
abbrev pub clashes_at : List CardRld → CardRld → ℕ → Bool
clashes_at before f b = option_map_or (λ g. not (joins f g)) (find (covers f.p b) before) false

abbrev pub overlaps : List CardRld → CardRld → Bool
overlaps before f = list_any (clashes_at before f) (range_with_len f.address (length_of_flag f.flag))

abbrev pub term_fault : List Numbered → List CardRld → CardRld → Option CardWhat
term_fault items before f =
    option_map_or
    (λ x. or_else (when (not (fits_kind items f.r (kind_of_flag f.flag))) UnknownEsdid)
    (or_else (when (are_outside_now x f.address (length_of_flag f.flag)) ConstantOutside)
    (when (overlaps before f) ConstantsOverlap)))
    (section_of items f.p) (Some UnknownEsdid)

-- the terms of a card, each in view of all before it
abbrev pub terms_fault : List Numbered → List CardRld → List CardRld → Option CardWhat
terms_fault items before [] = None
terms_fault items before (f ∷ more) = or_else (term_fault items before f) (terms_fault items (before ++ f ∷ []) more)

-- ---- END

abbrev pub start_fault : List Numbered → EndStart → Option CardWhat
start_fault items (StartAt address id) =
    option_map_or (λ x. when (not (lie_in x address 0)) EntryOutside) (section_of items id) (Some UnknownEsdid)
start_fault items _ = None

-- a label stands in its section or at its end
abbrev pub label_fault : List Numbered → EsdItem → Option CardWhat
label_fault items l =
    option_map_or (λ x. when (not (lie_in x l.address 0)) LabelOutside) (section_of items l.length) (Some UnknownEsdid)

abbrev pub labels_fault : List Numbered → List Numbered → Option CardWhat
labels_fault items [] = None
labels_fault items (l ∷ more) =
    or_else (if is_label l.item.kind then label_fault items l.item else None) (labels_fault items more)

abbrev pub is_text_outside : List Numbered → TxtCard → Bool
is_text_outside items t = option_map_or (λ x. not (lie_in x t.address t.count)) (section_of items t.esdid) false

abbrev pub is_term_outside : List Numbered → CardRld → Bool
is_term_outside items f = option_map_or (λ x. not (lie_in x f.address (length_of_flag f.flag))) (section_of items f.p) false

-- the entry, then the labels, then what waited for a length: text and constants
abbrev pub end_fault : List Numbered → List TxtCard → List CardRld → EndCard → Option CardWhat
end_fault items texts terms end =
    let all = with_end end.length items in
    or_else (start_fault all end.start)
    (or_else (labels_fault all all)
    (or_else (when (list_any (is_text_outside all) texts) TextOutside)
    (when (list_any (is_term_outside all) terms) ConstantOutside)))

-- ---- a card after others

abbrev pub fault_after : List Card → Card → Option CardWhat
fault_after before (Esd e) = items_fault (items_of before) (items_on (Esd e))
fault_after before (Txt t) = text_fault (items_of before) t
fault_after before (Rld r) = terms_fault (items_of before) (terms_of before) (terms_on (Rld r))
fault_after before (End e) = end_fault (items_of before) (texts_of before) (terms_of before) e
fault_after before Sym = None
fault_after before _ = Some NoEnd
